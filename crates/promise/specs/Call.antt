-- The ten operations under one name: a call with its client, its inputs and the buffer lent to it, and its outcome.
use Rattle.std.specs.Prelude.{ℕ, List, [], ◌∷◌, ℤ}
use Rattle.std.proofs.Math.Option.{Option, none, some}
use Rattle.word.specs.Word.{blank}
use Rattle.kinds.specs.declared.Receipt.{Receipt}
use Rattle.kinds.specs.declared.Report.{Report}
use Rattle.tariff.specs.Charges.{error_charge}
use Rattle.tariff.specs.declared.Tariff.{Tariff}
use Rattle.promise.specs.Refusals.{Row}
use Rattle.promise.specs.Create.{create_rows, create_answer, create_image}
use Rattle.promise.specs.Read.{read_rows, read_answer, read_buffer}
use Rattle.promise.specs.Status.{status_rows, status_answer}
use Rattle.promise.specs.Destroy.{destroy_rows, destroy_answer, destroy_image}
use Rattle.promise.specs.Replace.{replace_rows, replace_answer, replace_image}
use Rattle.promise.specs.SetExpiry.{set_expiry_rows, set_expiry_answer, set_expiry_image}
use Rattle.promise.specs.GetIds.{get_ids_rows, get_ids_answer, get_ids_buffer}
use Rattle.promise.specs.GetCount.{get_count_rows, get_count_answer}
use Rattle.promise.specs.Scavenge.{scavenge_rows, scavenge_answer, scavenge_image}
use Rattle.promise.specs.Profile.{profile_rows, profile_answer, profile_buffer}

-- inputs stand in PRG-62's order, the time last
pub data Call : Type 0 where
  Create : (client expiry : ℕ) (bytes : List ℕ) (time : ℕ) → Call
  Read : (client id : ℕ) (buffer : List ℕ) → Call
  Status : (client id : ℕ) → Call
  Destroy : (client id time : ℕ) → Call
  Replace : (client id : ℕ) (bytes : List ℕ) (time : ℕ) → Call
  SetExpiry : (client id expiry time : ℕ) → Call
  GetIds : (client key count : ℕ) (ids : List ℕ) → Call
  GetCount : (client : ℕ) → Call
  Scavenge : (client key time : ℕ) → Call
  Profile : (client key : ℕ) (buffer : List ℕ) → Call

-- the buffer lent to a call to be written, and the key that a key call receives
abbrev pub lent : Call → List ℕ
lent (Create client expiry bytes time) = []
lent (Read client id buffer) = buffer
lent (Status client id) = []
lent (Destroy client id time) = []
lent (Replace client id bytes time) = []
lent (SetExpiry client id expiry time) = []
lent (GetIds client key count ids) = ids
lent (GetCount client) = []
lent (Scavenge client key time) = []
lent (Profile client key buffer) = buffer

abbrev pub key_received : Call → Option ℕ
key_received (Create client expiry bytes time) = none
key_received (Read client id buffer) = none
key_received (Status client id) = none
key_received (Destroy client id time) = none
key_received (Replace client id bytes time) = none
key_received (SetExpiry client id expiry time) = none
key_received (GetIds client key count ids) = some key
key_received (GetCount client) = none
key_received (Scavenge client key time) = some key
key_received (Profile client key buffer) = some key

-- how many results an operation has, besides a key
abbrev pub results_of : Call → ℕ
results_of (Create client expiry bytes time) = 1
results_of (Read client id buffer) = 0
results_of (Status client id) = 3
results_of (Destroy client id time) = 0
results_of (Replace client id bytes time) = 1
results_of (SetExpiry client id expiry time) = 0
results_of (GetIds client key count ids) = 1
results_of (GetCount client) = 1
results_of (Scavenge client key time) = 1
results_of (Profile client key buffer) = 1

-- the rows of the table that a call can be refused by, in the order they are tested
unfoldable pub rows_of : Call → List ℕ → List Row
rows_of (Create client expiry bytes time) img = create_rows img client expiry bytes time
rows_of (Read client id buffer) img = read_rows img client id buffer
rows_of (Status client id) img = status_rows img client id
rows_of (Destroy client id time) img = destroy_rows img client id time
rows_of (Replace client id bytes time) img = replace_rows img client id bytes time
rows_of (SetExpiry client id expiry time) img = set_expiry_rows img client id expiry time
rows_of (GetIds client key count ids) img = get_ids_rows img client key count ids
rows_of (GetCount client) img = get_count_rows img client
rows_of (Scavenge client key time) img = scavenge_rows img client key time
rows_of (Profile client key buffer) img = profile_rows img client key buffer

-- report and charge; the results in PRG-62's order but for a key; the key that a key call gives; the image and the
-- buffer after
pub record Outcome : Type 0 where
  pub report : Report
  pub charge : ℤ
  pub results : List ℕ
  pub key : Option ℕ
  pub image : List ℕ
  pub buffer : List ℕ

-- a refusal returns zeros, the key as received, and the error price; no lent byte changes
abbrev pub refused_outcome : Tariff → Call → List ℕ → Report → Outcome
refused_outcome t c img r =
    record {
      report = r;
      charge = error_charge t;
      results = blank (results_of c);
      key = key_received c;
      image = img;
      buffer = lent c;
    }

abbrev outcome_of : Receipt → List ℕ → Option ℕ → List ℕ → List ℕ → Outcome
outcome_of r results key image buffer =
    record { report = r.report; charge = r.charge.0; results = results; key = key; image = image; buffer = buffer }

unfoldable pub outcome : Tariff → Call → List ℕ → Outcome
outcome t (Create client expiry bytes time) img =
    let a = create_answer t img client expiry bytes time in
    outcome_of a.receipt (a.id.0 ∷ []) none (create_image img client expiry bytes time) []
outcome t (Read client id buffer) img =
    outcome_of (read_answer t img client id buffer).receipt [] none img (read_buffer img client id buffer)
outcome t (Status client id) img =
    let a = status_answer t img client id in
    outcome_of a.receipt (a.owner.0 ∷ a.created.0 ∷ a.expires.0 ∷ []) none img []
outcome t (Destroy client id time) img =
    outcome_of (destroy_answer t img client id time).receipt [] none (destroy_image img client id time) []
outcome t (Replace client id bytes time) img =
    let a = replace_answer t img client id bytes time in
    outcome_of a.receipt (a.id.0 ∷ []) none (replace_image img client id bytes time) []
outcome t (SetExpiry client id expiry time) img =
    outcome_of (set_expiry_answer t img client id expiry time).receipt [] none
    (set_expiry_image img client id expiry time) []
outcome t (GetIds client key count ids) img =
    let a = get_ids_answer t img client key count ids in
    outcome_of a.receipt (a.entries ∷ []) (some a.key) img (get_ids_buffer img client key count ids)
outcome t (GetCount client) img =
    let a = get_count_answer t img client in
    outcome_of a.receipt (a.count ∷ []) none img []
outcome t (Scavenge client key time) img =
    let a = scavenge_answer t img client key time in
    outcome_of a.receipt (a.count ∷ []) (some a.key) (scavenge_image img client key time) []
outcome t (Profile client key buffer) img =
    let a = profile_answer t img client key buffer in
    outcome_of a.receipt (a.entries ∷ []) (some a.key) img (profile_buffer img client key buffer)
