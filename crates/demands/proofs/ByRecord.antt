-- The steps that a caller takes with a record are a walk of Demand 3.
-- Assumes nothing.
use Prim.Native.Nat.{ℕ, suc}
use mathlib.Core.Path.{◌≡◌, refl, sym, ap, ap₂, ◌∙◌, subst}
use mathlib.Core.Bool.{true, false}
use mathlib.Core.List.{List, ◌++◌}
use mathlib.Core.Option.{some}
use borrow.Author.Tests.{eqb-true, eqb-false}
use Rattle.kinds.specs.declared.Report.TheVariants.{Success}
use Rattle.kinds.specs.declared.Walk as Kept
use Rattle.kinds.specs.declared.User.{User}
use Rattle.tariff.specs.declared.Tariff.{Tariff}
use Rattle.run.specs.Run.{times}
use Rattle.promise.specs.GetIds.{get_ids_report}
use Rattle.promise.specs.Walk.{started, ended_answer, step_answer, step_buffer, moved_to, step_walk}
use Rattle.promise.specs.Call.{GetIds, rows_of, outcome}
use Rattle.promise.specs.Sound.{Sound}
use Rattle.promise.proofs.CallLaws.{report_lowest}
use Rattle.demands.specs.Demand3.{asked, named_by, last, more}
use Rattle.demands.specs.ByRecord as S
use Rattle.demands.proofs.Demand3.{demand3}

module _ (t : Tariff) (img : List ℕ) (w : Kept.Walk) (ids : List ℕ) (live : w.ended ≡ false) where
  -- a step with a record that has not ended is a GetIds call
  is_report : (step_answer t img w ids).receipt.report ≡ (asked outcome w.client.0 t img w.key
      w.count ids).report
  unfolding step_answer outcome
  is_report = rw live

  is_key : (asked outcome w.client.0 t img w.key w.count ids).key ≡ some (step_answer t img w ids).key
  unfolding step_answer outcome
  is_key = rw live

  is_named : named_by outcome w.client.0 t img w.key w.count ids ≡ S.written_by t img w ids
  unfolding step_answer step_buffer outcome
  is_named = rw live

  -- that moves the record where it succeeds
  is_granted : (step_answer t img w ids).receipt.report ≡ Success
      → get_ids_report img w.client.0 w.key w.count ids ≡ Success
  unfolding rows_of get_ids_report
  is_granted r = sym (report_lowest t (GetIds w.client.0 w.key w.count ids) img) ∙ sym is_report ∙ r

  moves : (step_answer t img w ids).receipt.report ≡ Success
      → step_walk t img w ids ≡ moved_to w (step_answer t img w ids).key
  unfolding step_walk
  moves r = rw (live, is_granted r)

same : {img : List ℕ} {w : Kept.Walk} (s : S.Steps img w) → w.ended ≡ false → S.IsWalk s w.client.0 w.key
unfolding outcome
same {img} {w} (S.last t ids r e) l =
    let k = eqb-true _ _ (sym (ap (λ (v : Kept.Walk). v.ended) (moves t img w ids l r)) ∙ e) in
    record {
      walk = last t w.count ids (sym (is_report t img w ids l) ∙ r) (is_key t img w ids l ∙ ap some k);
      names = is_named t img w ids l;
      calls = refl;
      over = λ P h. h;
      truthful = λ h x z. h x (rw (is_named t img w ids l) z);
    }
same {img} {w} (S.more t ids r e between s) l =
    let k = eqb-false _ _ (sym (ap (λ (v : Kept.Walk). v.ended) (moves t img w ids l r)) ∙ e) in
    let q = subst (λ (v : Kept.Walk). S.IsWalk s v.client.0 v.key) (moves t img w ids l r) (same s e) in
    record {
      walk = more t w.count ids (step_answer t img w ids).key (sym (is_report t img w ids l) ∙ r)
          (is_key t img w ids l) k between q.walk;
      names = ap₂ {C = List ℕ} (λ a b. a ++ b) (is_named t img w ids l) q.names;
      calls = ap suc q.calls;
      over = λ P h. (h.0, (h.0, h.1), q.over P h.2);
      truthful = λ h. (λ x z. h.0 x (rw (is_named t img w ids l) z), q.truthful h.1);
    }

complete : (client : User) (count : ℕ) (img : List ℕ) → Sound img → (s : S.Steps img (started client count))
    → S.Complete client.0 s
complete client count img d s =
    let v = same s refl in
    let c = demand3.complete client.0 img d v.walk in
    record {
      once = λ x h. ap (times x) (sym v.names) ∙ c.once x (v.over _ h);
      never_twice = λ x. rw v.names at (c.never_twice x);
      truthful = v.truthful c.truthful;
      ends = rw v.calls at c.ends;
    }

ended : (t : Tariff) (img : List ℕ) (w : Kept.Walk) (ids : List ℕ) → w.ended ≡ true
    → (step_answer t img w ids ≡ ended_answer) × (step_buffer img w ids ≡ ids) × (step_walk t img w ids ≡ w)
unfolding step_answer step_buffer step_walk
ended t img w ids e = (rw e, rw e, rw e)

pub by_record : S.ByRecord
by_record = record { is_walk = same; complete = complete; ended = ended }
