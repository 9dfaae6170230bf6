-- CONTRACTS. The contracts of the ten operations meet Demand 1 and Demand 2: whatever answer, image and buffer a
-- function gives that meets its promise, the outcome laid together from them does. A contract is its promise, whole.
-- The statement; its proof is in proofs/Contracts.antt.
use Rattle.std.specs.Prelude.{ℕ, ◌≤◌, ◌≡◌, Bool, true, List, [], ◌∷◌, ◌↔◌}
use Rattle.std.proofs.Math.Option.{Option, none, some}
use Rattle.kinds.specs.declared.CreateAnswer.{CreateAnswer}
use Rattle.kinds.specs.declared.ReadAnswer.{ReadAnswer}
use Rattle.kinds.specs.declared.StatusAnswer.{StatusAnswer}
use Rattle.kinds.specs.declared.DestroyAnswer.{DestroyAnswer}
use Rattle.kinds.specs.declared.ReplaceAnswer.{ReplaceAnswer}
use Rattle.kinds.specs.declared.SetExpiryAnswer.{SetExpiryAnswer}
use Rattle.kinds.specs.declared.GetIdsAnswer.{GetIdsAnswer}
use Rattle.kinds.specs.declared.GetCountAnswer.{GetCountAnswer}
use Rattle.kinds.specs.declared.ScavengeAnswer.{ScavengeAnswer}
use Rattle.kinds.specs.declared.ProfileAnswer.{ProfileAnswer}
use Rattle.kinds.specs.declared.Receipt.{Receipt}
use Rattle.kinds.specs.declared.Report.{Report}
use Rattle.kinds.specs.declared.Report.TheVariants.{Success}
use Rattle.tariff.specs.declared.Tariff.{Tariff}
use Rattle.promise.specs.Layout.{number_right}
use Rattle.promise.specs.Trailer.{n_of}
use Rattle.promise.specs.Sound.{Sound, CheckPromise}
use Rattle.promise.specs.Format.{fresh_image, FormatPromise}
use Rattle.promise.specs.Create.{CreatePromise}
use Rattle.promise.specs.Read.{ReadPromise}
use Rattle.promise.specs.Status.{StatusPromise}
use Rattle.promise.specs.Destroy.{DestroyPromise}
use Rattle.promise.specs.Replace.{ReplacePromise}
use Rattle.promise.specs.SetExpiry.{SetExpiryPromise}
use Rattle.promise.specs.GetIds.{GetIdsPromise}
use Rattle.promise.specs.GetCount.{GetCountPromise}
use Rattle.promise.specs.Scavenge.{ScavengePromise}
use Rattle.promise.specs.Profile.{ProfilePromise}
use Rattle.promise.specs.Call.{Call, Create, Read, Status, Destroy, Replace, SetExpiry, GetIds, GetCount, Scavenge}
use Rattle.promise.specs.Call.{Profile, rows_of, Outcome}
use Rattle.demands.specs.Demand1.{RefusedCall, Among}
use Rattle.demands.specs.Demand2.{Obeys}
use Rattle.demands.specs.Service.{gives}

-- an outcome laid together, with the receipt's report and charge
abbrev pub of : Receipt → (results : List ℕ) → (key : Option ℕ) → (image buffer : List ℕ) → Outcome
of r results key image buffer = gives r.report r.charge.0 results key image buffer

-- P holds of all that the contracts allow on an image. Five of the operations are lent the image to read alone: it is
-- as it was.
pub record Allowed (t : Tariff) (img : List ℕ) (P : Call → Outcome → Type 0) : Type 0 where
  pub create : (client expiry : ℕ) (bytes : List ℕ) (time : ℕ) (a : CreateAnswer) (img' : List ℕ)
      → CreatePromise t img client expiry bytes time a img'
      → P (Create client expiry bytes time) (of a.receipt (a.id.0 ∷ []) none img' [])
  pub read : (client id : ℕ) (buffer : List ℕ) (a : ReadAnswer) (buffer' : List ℕ)
      → ReadPromise t img client id buffer a buffer'
      → P (Read client id buffer) (of a.receipt [] none img buffer')
  pub status : (client id : ℕ) (a : StatusAnswer)
      → StatusPromise t img client id a
      → P (Status client id) (of a.receipt (a.owner.0 ∷ a.created.0 ∷ a.expires.0 ∷ []) none img [])
  pub destroy : (client id time : ℕ) (a : DestroyAnswer) (img' : List ℕ)
      → DestroyPromise t img client id time a img'
      → P (Destroy client id time) (of a.receipt [] none img' [])
  pub replace : (client id : ℕ) (bytes : List ℕ) (time : ℕ) (a : ReplaceAnswer) (img' : List ℕ)
      → ReplacePromise t img client id bytes time a img'
      → P (Replace client id bytes time) (of a.receipt (a.id.0 ∷ []) none img' [])
  pub set_expiry : (client id expiry time : ℕ) (a : SetExpiryAnswer) (img' : List ℕ)
      → SetExpiryPromise t img client id expiry time a img'
      → P (SetExpiry client id expiry time) (of a.receipt [] none img' [])
  pub get_ids : (client key count : ℕ) (ids : List ℕ) (a : GetIdsAnswer) (ids' : List ℕ)
      → GetIdsPromise t img client key count ids a ids'
      → P (GetIds client key count ids) (of a.receipt (a.entries ∷ []) (some a.key) img ids')
  pub get_count : (client : ℕ) (a : GetCountAnswer)
      → GetCountPromise t img client a
      → P (GetCount client) (of a.receipt (a.count ∷ []) none img [])
  pub scavenge : (client key time : ℕ) (a : ScavengeAnswer) (img' : List ℕ)
      → ScavengePromise t img client key time a img'
      → P (Scavenge client key time) (of a.receipt (a.count ∷ []) (some a.key) img' [])
  pub profile : (client key : ℕ) (buffer : List ℕ) (a : ProfileAnswer) (buffer' : List ℕ)
      → ProfilePromise t img client key buffer a buffer'
      → P (Profile client key buffer) (of a.receipt (a.entries ∷ []) (some a.key) img buffer')

pub record Contracts : Type 0 where
  -- Check says yes exactly for the images that Demand 2 speaks of, and what Format makes is PRG-62's first state
  -- (`States`)
  pub check : (img : List ℕ) (answer : Bool) → CheckPromise img answer → (answer ≡ true) ↔ Sound img
  pub format : (n : ℕ) (img : List ℕ) (r : Report) (img' : List ℕ) → FormatPromise n img r img' → r ≡ Success
      → (number_right n ≡ true) × (img' ≡ fresh_image n)
  pub demand1 : (t : Tariff) (img : List ℕ)
      → Allowed t img (λ c o. Among (rows_of c img) o.report × (¬ (o.report ≡ Success) → RefusedCall t c img o))
  pub demand2 : (t : Tariff) (img : List ℕ) → Sound img → (m : n_of img ≤ 4096)
      → Allowed t img (λ c o. Obeys t c img m o)
