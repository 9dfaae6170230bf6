-- Of every call: its rows stand in the order of their numbers, its report is the lowest that applies, and what a
-- refusal gives.
-- Assumes nothing.
use Prim.Native.Nat.{ℕ}
use mathlib.Core.Path.{◌≡◌, refl, sym, ◌∙◌}
use mathlib.Core.Bool.{Bool, true, false}
use mathlib.Core.List.{List}
use borrow.Author.Tests.{eqb-true}
use Rattle.plain.specs.Tests.{when}
use Rattle.word.specs.Word.{blank}
use Rattle.kinds.specs.Report.{number_of}
use Rattle.kinds.proofs.Laws.{injective}
use Rattle.kinds.specs.declared.CreateAnswer.{CreateAnswer}
use Rattle.kinds.specs.declared.ReadAnswer.{ReadAnswer}
use Rattle.kinds.specs.declared.StatusAnswer.{StatusAnswer}
use Rattle.kinds.specs.declared.DestroyAnswer.{DestroyAnswer}
use Rattle.kinds.specs.declared.ReplaceAnswer.{ReplaceAnswer}
use Rattle.kinds.specs.declared.SetExpiryAnswer.{SetExpiryAnswer}
use Rattle.kinds.specs.declared.GetIdsAnswer.{GetIdsAnswer}
use Rattle.kinds.specs.declared.GetCountAnswer.{GetCountAnswer}
use Rattle.kinds.specs.declared.ScavengeAnswer.{ScavengeAnswer}
use Rattle.kinds.specs.declared.ProfileAnswer.{ProfileAnswer}
use Rattle.kinds.specs.declared.Report.{Report}
use Rattle.kinds.specs.declared.Report.TheVariants.{Success}
use Rattle.tariff.specs.declared.Tariff.{Tariff}
use Rattle.promise.specs.Refusals.{lowest, succeeds, Given}
use Rattle.promise.proofs.RefusalLaws.{rising, exactly}
use Rattle.promise.specs.Create.{create_rows, create_report, create_answer, create_image}
use Rattle.promise.specs.Read.{read_rows, read_report, read_answer, read_buffer}
use Rattle.promise.specs.Status.{status_rows, status_report, status_answer}
use Rattle.promise.specs.Destroy.{destroy_rows, destroy_report, destroy_answer, destroy_image}
use Rattle.promise.specs.Replace.{replace_rows, replace_report, replace_answer, replace_image}
use Rattle.promise.specs.SetExpiry.{set_expiry_rows, set_expiry_report, set_expiry_answer, set_expiry_image}
use Rattle.promise.specs.GetIds.{get_ids_rows, get_ids_report, get_ids_answer, get_ids_buffer}
use Rattle.promise.specs.GetCount.{get_count_rows, get_count_report, get_count_answer}
use Rattle.promise.specs.Scavenge.{scavenge_rows, scavenge_report, scavenge_answer, scavenge_image}
use Rattle.promise.specs.Profile.{profile_rows, profile_report, profile_answer, profile_buffer}
use Rattle.promise.specs.Call.{Call, Create, Read, Status, Destroy, Replace, SetExpiry, GetIds, GetCount}
use Rattle.promise.specs.Call.{Scavenge, Profile, rows_of, outcome, refused_outcome}

pub in_order_lem : (c : Call) (img : List ℕ) → rising 1 (rows_of c img) ≡ true
unfolding rising rows_of create_rows read_rows status_rows destroy_rows replace_rows set_expiry_rows get_ids_rows
    get_count_rows scavenge_rows profile_rows
in_order_lem (Create client expiry bytes time) img = refl
in_order_lem (Read client id buffer) img = refl
in_order_lem (Status client id) img = refl
in_order_lem (Destroy client id time) img = refl
in_order_lem (Replace client id bytes time) img = refl
in_order_lem (SetExpiry client id expiry time) img = refl
in_order_lem (GetIds client key count ids) img = refl
in_order_lem (GetCount client) img = refl
in_order_lem (Scavenge client key time) img = refl
in_order_lem (Profile client key buffer) img = refl

-- an answer that reports Success where r is Success, and r where it is not, reports r
pub reports_it : {A : Type 0} (f : A → Report) (r : Report) (done refused : A) → f done ≡ Success → f refused ≡ r
    → f (when (succeeds r) done refused) ≡ r
reports_it f r done refused p q = go (succeeds r) refl
  where
    go : (t : Bool) → succeeds r ≡ t → f (when t done refused) ≡ r
    go true e = p ∙ sym (injective r Success (eqb-true (number_of r) 0 e))
    go false e = q

pub report_lowest : (t : Tariff) (c : Call) (img : List ℕ) → (outcome t c img).report ≡ lowest (rows_of c img)
unfolding outcome rows_of create_report create_answer read_report read_answer status_report status_answer destroy_report
    destroy_answer replace_report replace_answer set_expiry_report set_expiry_answer get_ids_report get_ids_answer
    get_count_report get_count_answer scavenge_report scavenge_answer profile_report profile_answer
report_lowest t (Create client expiry bytes time) img = reports_it (λ (a : CreateAnswer). a.receipt.report)
    (create_report img client expiry bytes time) _ _ refl refl
report_lowest t (Read client id buffer) img = reports_it (λ (a : ReadAnswer). a.receipt.report)
    (read_report img client id buffer) _ _ refl refl
report_lowest t (Status client id) img = reports_it (λ (a : StatusAnswer). a.receipt.report)
    (status_report img client id) _ _ refl refl
report_lowest t (Destroy client id time) img = reports_it (λ (a : DestroyAnswer). a.receipt.report)
    (destroy_report img client id time) _ _ refl refl
report_lowest t (Replace client id bytes time) img = reports_it (λ (a : ReplaceAnswer). a.receipt.report)
    (replace_report img client id bytes time) _ _ refl refl
report_lowest t (SetExpiry client id expiry time) img = reports_it (λ (a : SetExpiryAnswer). a.receipt.report)
    (set_expiry_report img client id expiry time) _ _ refl refl
report_lowest t (GetIds client key count ids) img = reports_it (λ (a : GetIdsAnswer). a.receipt.report)
    (get_ids_report img client key count ids) _ _ refl refl
report_lowest t (GetCount client) img = reports_it (λ (a : GetCountAnswer). a.receipt.report)
    (get_count_report img client) _ _ refl refl
report_lowest t (Scavenge client key time) img = reports_it (λ (a : ScavengeAnswer). a.receipt.report)
    (scavenge_report img client key time) _ _ refl refl
report_lowest t (Profile client key buffer) img = reports_it (λ (a : ProfileAnswer). a.receipt.report)
    (profile_report img client key buffer) _ _ refl refl

-- THE LAW of reports, of every call on every image: the report is r exactly where row r applies and no lower one does
pub given_report : (t : Tariff) (c : Call) (img : List ℕ) (r : Report)
    → ((outcome t c img).report ≡ r → Given (rows_of c img) r)
    × (Given (rows_of c img) r → (outcome t c img).report ≡ r)
given_report t c img r =
    let e = exactly (rows_of c img) (in_order_lem c img) r in
    (λ p. e.0 (sym (report_lowest t c img) ∙ p), λ g. report_lowest t c img ∙ e.1 g)

-- a refusal, whatever the call: the report, the error price, zeros, the key received, the image and the buffer as they
-- were
pub refusal_is : (t : Tariff) (c : Call) (img : List ℕ) → succeeds (lowest (rows_of c img)) ≡ false
    → outcome t c img ≡ refused_outcome t c img (lowest (rows_of c img))
unfolding blank outcome rows_of create_report create_answer create_image read_report read_answer read_buffer
    status_report status_answer destroy_report destroy_answer destroy_image replace_report replace_answer replace_image
    set_expiry_report set_expiry_answer set_expiry_image get_ids_report get_ids_answer get_ids_buffer get_count_report
    get_count_answer scavenge_report scavenge_answer scavenge_image profile_report profile_answer profile_buffer
refusal_is t (Create client expiry bytes time) img e = rw e
refusal_is t (Read client id buffer) img e = rw e
refusal_is t (Status client id) img e = rw e
refusal_is t (Destroy client id time) img e = rw e
refusal_is t (Replace client id bytes time) img e = rw e
refusal_is t (SetExpiry client id expiry time) img e = rw e
refusal_is t (GetIds client key count ids) img e = rw e
refusal_is t (GetCount client) img e = rw e
refusal_is t (Scavenge client key time) img e = rw e
refusal_is t (Profile client key buffer) img e = rw e
