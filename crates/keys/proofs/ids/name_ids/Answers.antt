-- `keys::ids::name_ids` meets its contract. The invariant: what is yet to be named, written over the buffer as it is,
-- gives the buffer as it shall be.
use Prim.Native.Nat.{◌+◌, ◌-◌, ◌*◌, ◌<◌, ◌≤◌}
use mathlib.Core.Path.{◌≡◌, sym, ◌∙◌}
use native.Mathlib.Omega.{arith}
use Rattle.run.proofs.Turns.{count_turn, count_end, rows-turn, rows_end}
use Rattle.promise.specs.Counts.{owned_by}
use Rattle.promise.specs.GetIds.{id_row}
use Rattle.keys.proofs.Listing.{length-id_row}
use Rattle.keys.proofs.ids.name_ids.Goals as goal

pub name_id-k-requires : goal.name_id-k-requires
name_id-k-requires c =
    let a = c.args in
    let l = c.loop-b in
    let p = owned_by a.img.now a.client.0 in
    omega (arith, count_turn p l.b (a.span.from + a.span.visited - l.b) (omega arith))

pub loop-b-preserved : goal.loop-b-preserved
loop-b-preserved c =
    let a = c.args in
    let l = c.loop-b in
    let p = owned_by a.img.now a.client.0 in
    let h : 0 < a.span.from + a.span.visited - l.b = omega arith in
    let z : a.span.from + a.span.visited - l.b - 1 ≡ a.span.from + a.span.visited - (l.b + 1) = omega arith in
    let turn = rows-turn p (id_row a.img.now) 8 (length-id_row a.img.now) l.ids l.k l.b
    (a.span.from + a.span.visited - l.b) h (omega (arith)) in (
      c.name_id-k.auto.ids ∙ l.invariant.0,
      omega (arith, rw z at (count_turn p l.b (a.span.from + a.span.visited - l.b) h)),
      rw (c.name_id-k.ensures.bytes, c.name_id-k.ensures.entries) (rw z at turn ∙ l.invariant.2),
    )

pub returns : goal.returns
returns c =
    let a = c.args in
    let l = c.loop-b in
    let p = owned_by a.img.now a.client.0 in
    let h : a.span.from + a.span.visited - l.b ≤ 0 = omega arith in record {
      entries = omega (arith, count_end p l.b (a.span.from + a.span.visited - l.b) h);
      bytes = sym (rows_end p (id_row a.img.now) 8 (length-id_row a.img.now) l.ids (8 * l.k) l.b
          (a.span.from + a.span.visited - l.b) h) ∙ l.invariant.2;
    }
