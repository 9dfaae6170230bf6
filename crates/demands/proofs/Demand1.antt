-- The proof of Demand 1.
-- Assumes nothing.
use Prim.Native.Nat.{ℕ}
use mathlib.Core.Path.{◌≡◌, refl, sym, ap, ◌∙◌, subst}
use mathlib.Core.Bool.{Bool, true, false}
use mathlib.Core.List.{List, [], ◌∷◌}
use mathlib.Core.Logic.{◌⊎◌, inl, inr}
use borrow.Author.Tests.{eqb-true}
use Rattle.plain.specs.Tests.{when}
use Rattle.kinds.specs.Report.{number_of}
use Rattle.kinds.proofs.Laws.{injective}
use Rattle.kinds.specs.declared.Report.{Report}
use Rattle.kinds.specs.declared.Report.TheVariants.{Success, BadImage}
use Rattle.kinds.specs.declared.Walk.{Walk}
use Rattle.tariff.specs.declared.Tariff.{Tariff}
use Rattle.promise.specs.Refusals.{Row, lowest, succeeds}
use Rattle.promise.specs.GetIds.{get_ids_rows, get_ids_report, get_ids_answer, get_ids_buffer}
use Rattle.promise.specs.Format.{format_right, format_report, format_image}
use Rattle.promise.specs.Walk.{ended_answer, step_answer, step_buffer, step_walk}
use Rattle.promise.specs.Call.{Call, GetIds, rows_of, outcome}
use Rattle.promise.proofs.CallLaws.{report_lowest}
use Rattle.demands.specs.Demand1.{RefusedCall, RefusedStep, Among, Demand1, Demand1Step, Demand1Format}
use Rattle.demands.specs.Demand1.{Demand1Open}
use Rattle.series.specs.Series.{open_rows}
use Rattle.series.specs.Reader.{started, refused_place}
use Rattle.series.proofs.Gives.{told, refused_place_lem}
use Rattle.promise.proofs.CallLaws.{refusal_is}

not_success : (r : Report) → ¬ (r ≡ Success) → succeeds r ≡ false
not_success r h = go (succeeds r) refl
  where
    go : (t : Bool) → succeeds r ≡ t → t ≡ false
    go true e = absurd (h (injective r Success (eqb-true (number_of r) 0 e)))
    go false e = refl

refused_call : (t : Tariff) (c : Call) (img : List ℕ) → succeeds (lowest (rows_of c img)) ≡ false
    → RefusedCall t c img (outcome t c img)
refused_call t c img e =
    subst (RefusedCall t c img) (sym (refusal_is t c img e))
    (record { image = refl; buffer = refl; results = refl; charge = refl; key = refl })

refused_step : (t : Tariff) (img : List ℕ) (w : Walk) (ids : List ℕ)
    → ¬ ((step_answer t img w ids).receipt.report ≡ Success) → RefusedStep t img w ids
unfolding step_answer step_buffer step_walk get_ids_answer get_ids_buffer
refused_step t img w ids h =
    go w.ended refl (succeeds (get_ids_report img w.client.0 w.key w.count ids)) refl h
  where
    go : (e : Bool) → w.ended ≡ e → (s : Bool) → succeeds (get_ids_report img w.client.0 w.key w.count ids) ≡ s
        → ¬ ((step_answer t img w ids).receipt.report ≡ Success) → RefusedStep t img w ids
    go true p s q h = absurd (h (rw p))
    go false p true q h = absurd (h (rw (p, q)))
    go false p false q h =
        record { walk = rw (p, q); buffer = rw (p, q); entries = rw (p, q); charge = rw (p, q); key = rw (p, q) }

lowest_among : (rows : List Row) → Among rows (lowest rows)
unfolding lowest
lowest_among [] = refl
lowest_among (row ∷ rows) = go row.applies (lowest_among rows)
  where
    go : (t : Bool) → Among rows (lowest rows) → Among (row ∷ rows) (when t row.report (lowest rows))
    go true h = inl refl
    go false h = inr h

pub demand1 : Demand1 outcome
demand1 =
    record {
      listed = λ t c img. subst (Among (rows_of c img)) (sym (report_lowest t c img)) (lowest_among (rows_of c img));
      refused = λ t c img h. refused_call t c img
          (ap succeeds (sym (report_lowest t c img)) ∙ not_success (outcome t c img).report h);
    }

among_success : (rows : List Row) → Among rows Success
among_success [] = refl
among_success (row ∷ rows) = inr (among_success rows)

step_listed : (t : Tariff) (img : List ℕ) (w : Walk) (ids : List ℕ)
    → Among (get_ids_rows img w.client.0 w.key w.count ids) (step_answer t img w ids).receipt.report
unfolding step_answer outcome rows_of
step_listed t img w ids = go w.ended
  where
    go : (e : Bool) → Among (get_ids_rows img w.client.0 w.key w.count ids)
        (when e ended_answer (get_ids_answer t img w.client.0 w.key w.count ids)).receipt.report
    go true = among_success (get_ids_rows img w.client.0 w.key w.count ids)
    go false = demand1.listed t (GetIds w.client.0 w.key w.count ids) img

pub demand1_step : Demand1Step
demand1_step = record { listed = step_listed; refused = refused_step }

pub demand1_format : Demand1Format
unfolding format_report format_image
demand1_format n img = go (format_right n img) refl
  where
    go : (t : Bool) → format_right n img ≡ t → (format_report n img ≡ Success)
        ⊎ ((format_report n img ≡ BadImage) × (format_image n img ≡ img))
    go true e = inl (rw e)
    go false e = inr (rw e, rw e)

pub demand1_open : Demand1Open
demand1_open =
    record {
      listed = λ img client series. subst (Among (open_rows img client.0 series)) (sym (told img client series))
          (lowest_among (open_rows img client.0 series));
      refused = λ img client series h.
          let e = told img client series in
          refused_place_lem img client series (ap succeeds (sym e) ∙ not_success (started img client series).report h)
          ∙ ap refused_place (sym e);
    }
