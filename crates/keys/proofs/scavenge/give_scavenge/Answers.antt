-- `keys::scavenge::give_scavenge` meets its contract.
use native.Mathlib.Omega.{arith}
use Rattle.run.proofs.Laws.{picked_few}
use Rattle.keys.specs.Marks.{marked}
use Rattle.keys.proofs.scavenge.give_scavenge.Goals as goal

pub overflow_cast-result : goal.overflow_cast-result
overflow_cast-result c =
    let a = c.args in
    let goes = marked a.losses.now.marks a.span.from in
    omega (arith, c.remove-count.ensures.gone, picked_few goes a.span.from a.span.visited)
