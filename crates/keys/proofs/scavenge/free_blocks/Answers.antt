-- `keys::scavenge::free_blocks` meets its contract. The invariant: what is yet to go, freed in the image as it is,
-- gives the image as it shall be.
use Prim.Native.Nat.{◌+◌, ◌-◌, ◌≤◌, ◌<◌}
use mathlib.Core.Path.{◌≡◌, ◌∙◌}
use native.Mathlib.Omega.{arith}
use Rattle.run.proofs.Laws.{picked_few}
use Rattle.run.proofs.Turns.{count_end, each-end}
use Rattle.keys.specs.Marks.{marked, freed}
use Rattle.keys.proofs.Marks.{pass_turn, pass_count}
use Rattle.keys.proofs.scavenge.free_blocks.Goals as goal

pub overflow_add-k : goal.overflow_add-k
overflow_add-k c =
    let a = c.args in
    let l = c.loop-b in
    let p = marked a.marks.now a.span.from in
    omega (
      arith,
      pass_count p l.b (a.span.from + a.span.visited - l.b) (omega arith),
      c.free_one-k.ensures.gone,
      picked_few p
          a.span.from a.span.visited,
    )

pub loop-b-preserved : goal.loop-b-preserved
loop-b-preserved c =
    let a = c.args in
    let l = c.loop-b in
    let p = marked a.marks.now a.span.from in
    let h : 0 < a.span.from + a.span.visited - l.b = omega arith in
    let z : a.span.from + a.span.visited - l.b - 1 ≡ a.span.from + a.span.visited - (l.b + 1) = omega arith in
    let turn = pass_turn p (freed a.span.n) l.img l.b (a.span.from + a.span.visited - l.b) h in (
      c.free_one-k.auto.img ∙ l.invariant.0,
      omega (arith, rw z at (pass_count p l.b (a.span.from + a.span.visited - l.b) h), c.free_one-k.ensures.gone),
      rw c.free_one-k.ensures.image (rw z at turn ∙ l.invariant.2),
    )

pub returns : goal.returns
returns c =
    let a = c.args in
    let l = c.loop-b in
    let p = marked a.marks.now a.span.from in
    let h : a.span.from + a.span.visited - l.b ≤ 0 = omega arith in
    record {
      gone = omega (arith, count_end p l.b (a.span.from + a.span.visited - l.b) h);
      image = each-end p (freed a.span.n) l.img l.b (a.span.from + a.span.visited - l.b) h ∙ l.invariant.2;
    }
