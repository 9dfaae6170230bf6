-- `keys::profile::give_profile` meets its contract.
use native.Mathlib.Omega.{arith}
use Rattle.run.proofs.Laws.{picked_few}
use Rattle.keys.specs.Visit.{used}
use Rattle.keys.proofs.profile.give_profile.Goals as goal

pub overflow_cast-result : goal.overflow_cast-result
overflow_cast-result c =
    let a = c.args in
    omega (arith, c.enter_blocks-entries.ensures.entries, picked_few (used a.img.now) a.span.from a.span.visited)
