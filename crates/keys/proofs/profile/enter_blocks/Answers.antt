-- `keys::profile::enter_blocks` meets its contract. The invariant: what is yet to be entered, written over the buffer
-- as it is, gives the buffer as it shall be.
use Prim.Native.Nat.{◌+◌, ◌-◌, ◌*◌, ◌<◌, ◌≤◌}
use mathlib.Core.Path.{◌≡◌, sym, ◌∙◌}
use native.Mathlib.Omega.{arith}
use Rattle.run.proofs.Laws.{picked_few}
use Rattle.run.proofs.Turns.{count_turn, count_end, rows-turn, rows_end}
use Rattle.promise.specs.Profile.{profile_row}
use Rattle.keys.specs.Visit.{used}
use Rattle.keys.proofs.Entries.{length-profile_row}
use Rattle.keys.proofs.profile.enter_blocks.Goals as goal

pub enter_block-k-requires : goal.enter_block-k-requires
enter_block-k-requires c =
    let a = c.args in
    let l = c.loop-b in
    let p = used a.img.now in
    let few = picked_few p a.span.from a.span.visited in
    omega (arith, count_turn p l.b (a.span.from + a.span.visited - l.b) (omega arith), few)

pub loop-b-preserved : goal.loop-b-preserved
loop-b-preserved c =
    let a = c.args in
    let l = c.loop-b in
    let p = used a.img.now in
    let h : 0 < a.span.from + a.span.visited - l.b = omega arith in
    let z : a.span.from + a.span.visited - l.b - 1 ≡ a.span.from + a.span.visited - (l.b + 1) = omega arith in
    let turn = rows-turn p (profile_row a.img.now) 24 (length-profile_row a.img.now) l.buffer l.k l.b
    (a.span.from + a.span.visited - l.b) h (omega (arith, picked_few p a.span.from a.span.visited)) in (
      c.enter_block-k.auto.buffer ∙ l.invariant.0,
      omega (arith, rw z at (count_turn p l.b (a.span.from + a.span.visited - l.b) h)),
      rw (c.enter_block-k.ensures.bytes, c.enter_block-k.ensures.entries) (rw z at turn ∙ l.invariant.2),
    )

pub returns : goal.returns
returns c =
    let a = c.args in
    let l = c.loop-b in
    let p = used a.img.now in
    let h : a.span.from + a.span.visited - l.b ≤ 0 = omega arith in record {
      entries = omega (arith, count_end p l.b (a.span.from + a.span.visited - l.b) h);
      bytes = sym (rows_end p (profile_row a.img.now) 24 (length-profile_row a.img.now) l.buffer (24 * l.k) l.b
          (a.span.from + a.span.visited - l.b) h) ∙ l.invariant.2;
    }
