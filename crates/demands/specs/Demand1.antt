-- DEMAND 1. Every call ends with an answer from the table (Check's is yes or no). A refusal changes no byte lent to it
-- and returns zeros for all results, except that a refused operation charges the error price and a walk's call gives
-- back the key it received. The statement; its proof is in proofs/Demand1.antt. (That every call ends, and does nothing
-- undefined, is the check itself. Check's answer is a Bool, for every image: CheckPromise.)
use Rattle.std.specs.Prelude.{ℕ, ◌≡◌, List, [], ◌∷◌, ◌⊎◌}
use Rattle.word.specs.Word.{blank}
use Rattle.kinds.specs.declared.Report.{Report}
use Rattle.kinds.specs.declared.Report.TheVariants.{Success, BadImage}
use Rattle.kinds.specs.declared.User.{User}
use Rattle.kinds.specs.declared.Walk.{Walk}
use Rattle.tariff.specs.Charges.{error_charge}
use Rattle.tariff.specs.declared.Tariff.{Tariff}
use Rattle.promise.specs.Refusals.{Row}
use Rattle.promise.specs.GetIds.{get_ids_rows}
use Rattle.promise.specs.Format.{format_report, format_image}
use Rattle.promise.specs.Walk.{step_answer, step_buffer, step_walk}
use Rattle.promise.specs.Call.{Call}
use Rattle.promise.specs.Call.{lent, key_received, rows_of, Outcome}
use Rattle.promise.specs.Call.{results_of}
use Rattle.series.specs.Series.{open_rows}
use Rattle.series.specs.Reader.{started, refused_place}
use Rattle.demands.specs.Service.{Service}

-- a refused operation: the image and the buffer as they were, zeros for all results, the error price, and the key that
-- it received
pub record RefusedCall (t : Tariff) (c : Call) (img : List ℕ) (o : Outcome) : Type 0 where
  pub image : o.image ≡ img
  pub buffer : o.buffer ≡ lent c
  pub results : o.results ≡ blank (results_of c)
  pub charge : o.charge ≡ error_charge t
  pub key : o.key ≡ key_received c

-- a refused step of a walk: besides, the record as it was
pub record RefusedStep (t : Tariff) (img : List ℕ) (w : Walk) (ids : List ℕ) : Type 0 where
  pub walk : step_walk t img w ids ≡ w
  pub buffer : step_buffer img w ids ≡ ids
  pub entries : (step_answer t img w ids).entries ≡ 0
  pub charge : (step_answer t img w ids).receipt.charge.0 ≡ error_charge t
  pub key : (step_answer t img w ids).key ≡ w.key

-- Success, or the report of one of the rows
abbrev pub Among : List Row → Report → Type 0
Among [] r = r ≡ Success
Among (row ∷ rows) r = (r ≡ row.report) ⊎ Among rows r

-- of the ten operations. Which of the rows is to be given is Demand 2's: a service that refuses every call can meet
-- this.
pub record Demand1 (serve : Service) : Type 0 where
  pub listed : (t : Tariff) (c : Call) (img : List ℕ) → Among (rows_of c img) (serve t c img).report
  pub refused : (t : Tariff) (c : Call) (img : List ℕ) → ¬ ((serve t c img).report ≡ Success)
      → RefusedCall t c img (serve t c img)

-- of a step of a walk kept in a record
pub record Demand1Step : Type 0 where
  pub listed : (t : Tariff) (img : List ℕ) (w : Walk) (ids : List ℕ)
      → Among (get_ids_rows img w.client.0 w.key w.count ids) (step_answer t img w ids).receipt.report
  pub refused : (t : Tariff) (img : List ℕ) (w : Walk) (ids : List ℕ)
      → ¬ ((step_answer t img w ids).receipt.report ≡ Success) → RefusedStep t img w ids

-- of Format: it succeeds, or refuses with 1 and changes no byte
abbrev pub Demand1Format : Type 0
Demand1Format = (n : ℕ) (img : List ℕ) → (format_report n img ≡ Success)
    ⊎ ((format_report n img ≡ BadImage) × (format_image n img ≡ img))

-- of the opening of a series, which is free and lent the image to read alone: after a refusal all but the report is 0
pub record Demand1Open : Type 0 where
  pub listed : (img : List ℕ) (client : User) (series : ℕ)
      → Among (open_rows img client.0 series) (started img client series).report
  pub refused : (img : List ℕ) (client : User) (series : ℕ) → ¬ ((started img client series).report ≡ Success)
      → started img client series ≡ refused_place (started img client series).report
