-- `keys::visit::visit` meets its contract. The invariant: what was passed, with what is still visited from here, is
-- what is visited in all; and those still to visit are all good where all are.
use Prim.Native.Nat.{◌<◌, ◌+◌, ◌-◌}
use mathlib.Core.Path.{◌≡◌, sym, ap, ◌∙◌}
use mir.Val.{bool_byte}
use native.Mathlib.Omega.{arith}
use Rattle.run.proofs.Laws.{one-le}
use Rattle.run.proofs.Turns.{visits_turn, visits_end, visits_full, visited-turn, visited-stop, all_end}
use Rattle.promise.specs.Map.{good}
use Rattle.promise.specs.Counts.{owned_by}
use Rattle.keys.proofs.Visits.{found_bad, found-good, as_number}
use Rattle.keys.proofs.visit.visit.Goals as goal

pub returns-then-wanted-eq0 : goal.returns-then-wanted-eq0
returns-then-wanted-eq0 c =
    let a = c.args in
    let l = c.loop-b in
    let p = owned_by a.image.bytes.now a.client.0 in
    let none = visits_full p (a.from + a.most - l.b) l.wanted l.b (omega arith) in
    found-good _ _ _ _ (omega arith) (all_end (good a.image.bytes.now) l.b _ (omega arith) ∙ l.invariant.1)

pub returns-then-not-is_good : goal.returns-then-not-is_good
returns-then-not-is_good c =
    let a = c.args in
    let l = c.loop-b in
    found_bad _ _ _
    (visited-stop (owned_by _ _) (good _) (a.from + a.most - l.b) l.wanted l.b (omega arith) (omega arith)
    (sym c.is_good.ensures ∙ c.if-not-is_good.true) ∙ l.invariant.1)

pub overflow_sub-wanted : goal.overflow_sub-wanted
overflow_sub-wanted c =
    let p = owned_by c.args.image.bytes.now c.args.client.0 in
    let his = c.from-wanted.ensures ∙ ap bool_byte c.is_owned.ensures ∙ as_number p c.loop-b.b in
    omega (arith, his, one-le p c.loop-b.b)

pub loop-b-preserved : goal.loop-b-preserved
loop-b-preserved c =
    let a = c.args in
    let l = c.loop-b in
    let p = owned_by a.image.bytes.now a.client.0 in
    let h : 0 < a.from + a.most - l.b = omega arith in
    let k : 0 < l.wanted = omega arith in
    let z : a.from + a.most - l.b - 1 ≡ a.from + a.most - (l.b + 1) = omega arith in
    let turn = rw z at (visits_turn p (a.from + a.most - l.b) l.wanted l.b h k) in
    let here = rw z at (visited-turn p (good a.image.bytes.now) (a.from + a.most - l.b) l.wanted l.b h k
    (sym c.is_good.ensures ∙ c.if-not-is_good.false)) in
    let his = c.from-wanted.ensures ∙ ap bool_byte c.is_owned.ensures ∙ as_number p l.b in
    rw his (omega (arith, turn), here ∙ l.invariant.1)

pub returns : goal.returns
returns c =
    let a = c.args in
    let l = c.loop-b in
    let p = owned_by a.image.bytes.now a.client.0 in
    let none = visits_end p (a.from + a.most - l.b) l.wanted l.b (omega arith) in
    found-good _ _ _ _ (omega arith) (all_end (good a.image.bytes.now) l.b _ (omega arith) ∙ l.invariant.1)
