-- A walk kept in a record (document 01, Keys): the steps that a caller takes with it until it has ended, and what is to
-- hold of them. The proof is in proofs/ByRecord.antt: these steps are a walk of Demand 3.
use Rattle.std.specs.Prelude.{ℕ, suc, ◌≤◌, ◌<◌, ◌≡◌, true, false, List, ◌++◌}
use Rattle.kinds.specs.declared.Report.TheVariants.{Success}
use Rattle.kinds.specs.declared.User.{User}
use Rattle.kinds.specs.declared.Walk.{Walk}
use Rattle.tariff.specs.declared.Tariff.{Tariff}
use Rattle.run.specs.Run.{times}
use Rattle.promise.specs.Sound.{Sound}
use Rattle.promise.specs.Walk.{started, ended_answer, step_answer, step_buffer, step_walk}
use Rattle.promise.specs.Call.{outcome}
use Rattle.promise.specs.Trailer.{n_of}
use Rattle.manual.specs.Sets.{◌∈◌}
use Rattle.manual.specs.Walk.{All}
use Rattle.demands.specs.Service.{Priced, seen, after}
use Rattle.demands.specs.Demand2.{ids_in}
use Rattle.demands.specs.Demand3 as D3

-- successful steps with a record, over an image, the last of which ends it; between two steps any calls by anyone. A
-- refused step leaves the record as it was: it is one of the calls between.
pub data Steps : List ℕ → Walk → Type 0 where
  last : {img : List ℕ} {w : Walk} (t : Tariff) (ids : List ℕ) → (step_answer t img w ids).receipt.report ≡ Success
      → (step_walk t img w ids).ended ≡ true → Steps img w
  more : {img : List ℕ} {w : Walk} (t : Tariff) (ids : List ℕ) → (step_answer t img w ids).receipt.report ≡ Success
      → (step_walk t img w ids).ended ≡ false → (between : List Priced)
      → Steps (after outcome between img) (step_walk t img w ids) → Steps img w

-- the ids that the steps wrote, as they stand in the buffers
abbrev pub written_by : Tariff → List ℕ → Walk → (ids : List ℕ) → List ℕ
written_by t img w ids = ids_in (step_answer t img w ids).entries (step_buffer img w ids)

abbrev pub written : {img : List ℕ} {w : Walk} → Steps img w → List ℕ
written {img} {w} (last t ids r e) = written_by t img w ids
written {img} {w} (more t ids r e between s) = written_by t img w ids ++ written s

-- it holds of every image from the first step to the last
abbrev pub Stood : (List ℕ → Type 0) → {img : List ℕ} {w : Walk} → Steps img w → Type 0
Stood P {img} (last t ids r e) = P img
Stood P {img} (more t ids r e between s) = P img × All P (seen outcome between img) × Stood P s

-- how many they are
abbrev pub taken : {img : List ℕ} {w : Walk} → Steps img w → ℕ
taken (last t ids r e) = 1
taken (more t ids r e between s) = suc (taken s)

-- each id that a step writes is listed at that step
abbrev pub Truthful : (client : ℕ) {img : List ℕ} {w : Walk} → Steps img w → Type 0
Truthful client {img} {w} (last t ids r e) =
    (x : ℕ) → 0 < times x (written_by t img w ids) → x ∈ D3.listed client img
Truthful client {img} {w} (more t ids r e between s) =
    ((x : ℕ) → 0 < times x (written_by t img w ids) → x ∈ D3.listed client img) × Truthful client s

-- these steps are a walk of Demand 3, which names what they write, in as many calls, over the same images
pub record IsWalk {img : List ℕ} {w : Walk} (s : Steps img w) (client key : ℕ) : Type 1 where
  pub walk : D3.Walk outcome client img key
  pub names : D3.named outcome client walk ≡ written s
  pub calls : D3.calls outcome client walk ≡ taken s
  pub over : (P : List ℕ → Type 0) → Stood P s → D3.Throughout outcome client P walk
  pub truthful : D3.Truthful outcome client walk → Truthful client s

-- so what Demand 3 says is so of them
pub record Complete (client : ℕ) {img : List ℕ} {w : Walk} (s : Steps img w) : Type 0 where
  pub once : (x : ℕ) → Stood (λ i. x ∈ D3.listed client i) s → times x (written s) ≡ 1
  pub never_twice : (x : ℕ) → times x (written s) ≤ 1
  pub truthful : Truthful client s
  pub ends : taken s ≤ n_of img

pub record ByRecord : Type 1 where
  pub is_walk : {img : List ℕ} {w : Walk} (s : Steps img w) → w.ended ≡ false → IsWalk s w.client.0 w.key
  pub complete : (client : User) (count : ℕ) (img : List ℕ) → Sound img → (s : Steps img (started client count))
      → Complete client.0 s
  -- a step on an ended walk answers Success, names nothing, returns the end key, charges 0 and changes nothing
  pub ended : (t : Tariff) (img : List ℕ) (w : Walk) (ids : List ℕ) → w.ended ≡ true
      → (step_answer t img w ids ≡ ended_answer) × (step_buffer img w ids ≡ ids) × (step_walk t img w ids ≡ w)
