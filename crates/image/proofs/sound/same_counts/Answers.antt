-- `image::sound::same_counts` meets its contract.
use Rattle.std.proofs.Common.{sym, ◌∙◌, arith}
use Rattle.image.proofs.Eights.{all_none, all_more, all_fails}
use Rattle.image.proofs.sound.same_counts.Goals as goal

pub loop-u-init : goal.loop-u-init
loop-u-init c = all_none _ 0

pub returns-then-not-same_count : goal.returns-then-not-same_count
returns-then-not-same_count c =
    sym (all_fails _ 0 64 c.loop-u.u (omega arith) (omega arith) (sym c.same_count.ensures
    ∙ c.if-not-same_count.true))

pub loop-u-preserved : goal.loop-u-preserved
loop-u-preserved c =
    all_more _ 0 c.loop-u.u c.loop-u.u (omega arith) c.loop-u.invariant (sym c.same_count.ensures
    ∙ c.if-not-same_count.false)
