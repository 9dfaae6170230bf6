-- A step of a walk, outcome by outcome.
-- Assumes nothing.
use Prim.Native.Nat.{ℕ, ◌<◌}
use mathlib.Core.Path.{◌≡◌, refl, sym, ap, ◌∙◌}
use mathlib.Core.Bool.{Bool, true, false}
use mathlib.Core.List.{List}
use native.Mathlib.Omega.{arith}
use borrow.Author.Tests.{eq-eqb, ne_eqb}
use lib.Dec.{eqb}
use Rattle.plain.specs.Tests.{when}
use Rattle.kinds.specs.Report.{number_of}
use Rattle.kinds.specs.declared.GetIdsAnswer.{GetIdsAnswer}
use Rattle.kinds.specs.declared.Report.{Report}
use Rattle.kinds.specs.declared.Walk.{Walk}
use Rattle.tariff.specs.declared.Tariff.{Tariff}
use Rattle.promise.specs.Refusals.{succeeds}
use Rattle.promise.specs.GetIds.{get_ids_report, get_ids_answer, GetIdsPromise}
use Rattle.promise.specs.Walk.{ended_answer, step_answer, step_buffer, moved_to, step_walk, StepPromise}

-- ---- the record after a call

module _ (w : Walk) (r : Report) (key : ℕ) where
  pub stays : 0 < number_of r → w ≡ when (succeeds r) (moved_to w key) w
  stays h = let e : eqb (number_of r) 0 ≡ false = ne_eqb (number_of r) 0 (λ z. omega arith) in sym (rw e)

  pub moves : number_of r ≡ 0 → moved_to w key ≡ when (succeeds r) (moved_to w key) w
  moves z = let e : eqb (number_of r) 0 ≡ true = eq-eqb (number_of r) 0 z in sym (rw e)

-- ---- the answer tells whether the call was refused

told : (t : Tariff) (img : List ℕ) (client key count : ℕ) (ids : List ℕ)
    → succeeds (get_ids_answer t img client key count ids).receipt.report
    ≡ succeeds (get_ids_report img client key count ids)
unfolding get_ids_answer
told t img client key count ids = go (succeeds (get_ids_report img client key count ids)) refl
  where
    go : (s : Bool) → succeeds (get_ids_report img client key count ids) ≡ s
        → succeeds (get_ids_answer t img client key count ids).receipt.report
        ≡ succeeds (get_ids_report img client key count ids)
    go true e = rw e
    go false e = rw e e

-- the second of two, where the test does not pass
other : {A : Type 0} (s : Bool) (x y : A) → s ≡ false → y ≡ when s x y
other s x y e = sym (rw e)

-- ---- the outcomes

module _ (t : Tariff) (img : List ℕ) (w : Walk) (ids : List ℕ) where
  pub ended : w.ended ≡ true → (a : GetIdsAnswer) → a ≡ ended_answer → StepPromise t img w ids a w ids
  unfolding step_answer step_buffer step_walk
  ended e a p = record { answer = rw e p; walk = rw e; given = rw e }

  pub called : w.ended ≡ false → (a : GetIdsAnswer) (ids' : List ℕ)
      → GetIdsPromise t img w.client.0 w.key w.count ids a ids'
      → (w' : Walk) → w' ≡ when (succeeds a.receipt.report) (moved_to w a.key) w
      → StepPromise t img w ids a w' ids'
  unfolding step_answer step_buffer step_walk
  called e a ids' g w' p =
      let r : Report = get_ids_report img w.client.0 w.key w.count ids in
      let c : GetIdsAnswer = get_ids_answer t img w.client.0 w.key w.count ids in
      record {
        answer = g.answer ∙ other w.ended ended_answer c e;
        walk =
            p
            ∙ ap (λ (x : GetIdsAnswer). when (succeeds x.receipt.report) (moved_to w x.key) w) g.answer
            ∙ ap (λ (s : Bool). when s (moved_to w c.key) w) (told t img w.client.0 w.key w.count ids)
            ∙ ap (λ (x : GetIdsAnswer). when (succeeds r) (moved_to w x.key) w) (other w.ended ended_answer c e)
            ∙ other w.ended w _ e;
        given = g.given ∙ other w.ended ids _ e;
      }
