-- `keys::scavenge::has_counts` meets its contract.
use mathlib.Core.Path.{refl, sym, ◌∙◌}
use mathlib.Core.Bool.{and-true}
use Rattle.std.proofs.Common.{zero-add}
use Rattle.run.specs.Run.{all_of}
use Rattle.run.proofs.Laws.{all_parts}
use Rattle.keys.specs.Marks.{has_count}
use Rattle.keys.proofs.scavenge.has_counts.Goals as goal

pub loop-u-init : goal.loop-u-init
unfolding all_of
loop-u-init c = refl

pub loop-u-preserved : goal.loop-u-preserved
unfolding all_of
loop-u-preserved c =
    let a = c.args in
    let p = has_count a.n a.img.now a.tally.now in
    let u = c.loop-u.u in
    rw (c.loop-u.invariant, c.has_count-enough.ensures) (sym (all_parts p 0 u 1 ∙ rw (zero-add u, and-true (p u))))
