-- `keys::scavenge::mark_all` meets its contract. The invariant: the marks made so far are right, and the tally with
-- those that are left is that of all.
use Prim.Native.Nat.{◌+◌}
use mathlib.Core.Path.{ap, ◌∙◌}
use native.Mathlib.Omega.{arith}
use borrow.Author.Rules.{rules}
use lib.ListN.{length, length-set}
use Rattle.std.specs.Prelude.{Option, is_some}
use Rattle.kinds.specs.declared.User.{User}
use Rattle.keys.proofs.Marks.{length-raised, owner_below, is_loser, client_loses}
use Rattle.keys.proofs.Marks.{marked_on, tally_begun, tally_turn, tally_end, tally_few}
use Rattle.keys.proofs.scavenge.mark_all.Goals as goal

pub loop-i-init : goal.loop-i-init
loop-i-init c =
    let a = c.args in (
      search rules,
      search rules,
      λ j h. absurd (omega arith),
      tally_begun a.img.now a.time.0 a.span.from a.span.visited a.losses.now.tally c.requires.2,
    )

pub tally_loss-requires : goal.tally_loss-requires
tally_loss-requires c =
    let a = c.args in
    let l = c.loop-i in
    let o = owner_below a.img.now a.time.0 a.span.from a.span.visited c.requires.3 (a.span.from + l.i)
    (omega arith) (omega arith) in (
      λ u h. omega (
        arith,
        c.requires.1,
        tally_few a.img.now a.time.0 a.span.from a.span.visited l.losses.tally l.i
            l.invariant.3 u h,
      ),
      rw c.loser-who.ensures (client_loses a.img.now a.time.0 (a.span.from + l.i) o),
    )

pub loop-i-preserved : goal.loop-i-preserved
loop-i-preserved c =
    let a = c.args in
    let l = c.loop-i in
    let b = a.span.from + l.i in
    let o = owner_below a.img.now a.time.0 a.span.from a.span.visited c.requires.3 b (omega arith) (omega arith) in
    let gone = c.is_some.ensures ∙ ap (λ (x : Option User). is_some x) c.loser-who.ensures
    ∙ is_loser a.img.now a.time.0 b in (
      length-set l.losses.marks l.i c.is_some.result ∙ l.invariant.0,
      ap length c.tally_loss.ensures ∙ length-raised _ _ ∙ l.invariant.1,
      marked_on a.img.now a.time.0 a.span.from l.i l.losses.marks _ (omega (arith, l.invariant.0)) gone
          l.invariant.2,
      rw (c.tally_loss.ensures, c.loser-who.ensures) (tally_turn a.img.now a.time.0 a.span.from a.span.visited
          l.losses.tally l.i (omega arith) l.invariant.1 o l.invariant.3),
    )

pub returns : goal.returns
returns c =
    let a = c.args in
    let l = c.loop-i in (
      λ i h. l.invariant.2 i (omega arith),
      tally_end a.img.now a.time.0 a.span.from a.span.visited l.losses.tally l.i (omega arith) l.invariant.3,
    )
