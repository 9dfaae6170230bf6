-- `keys::scavenge::lower_counts` meets its contract. The invariant: what is yet to be lowered, lowered in the image as
-- it is, gives the image as it shall be.
use Prim.Native.Nat.{◌+◌, ◌-◌}
use mathlib.Core.Path.{◌≡◌, ◌∙◌}
use native.Mathlib.Omega.{arith}
use Rattle.run.proofs.Turns.{each-end}
use Rattle.keys.specs.Marks.{owes, lowered_by}
use Rattle.keys.proofs.Marks.{pass_turn}
use Rattle.keys.proofs.scavenge.lower_counts.Goals as goal

pub loop-u-preserved : goal.loop-u-preserved
loop-u-preserved c =
    let a = c.args in
    let l = c.loop-u in
    let z : 64 - l.u - 1 ≡ 64 - (l.u + 1) = omega arith in
    let turn = pass_turn (owes a.tally.now) (lowered_by a.n a.tally.now) l.img l.u (64 - l.u) (omega arith) in
    (c.lower_one.auto.img ∙ l.invariant.0, rw c.lower_one.ensures (rw z at turn ∙ l.invariant.1))

pub returns : goal.returns
returns c =
    let a = c.args in
    let l = c.loop-u in
    each-end (owes a.tally.now) (lowered_by a.n a.tally.now) l.img l.u (64 - l.u) (omega arith) ∙ l.invariant.1
