-- SETTLED. Two outcomes that one promise allows are equal, and so is all memory lent to the function. The statement;
-- its proof is in proofs/Settled.antt.
use Rattle.std.specs.Prelude.{ℕ, ◌≡◌, List, Option}
use Rattle.kinds.specs.declared.GetIdsAnswer.{GetIdsAnswer}
use Rattle.kinds.specs.declared.User.{User}
use Rattle.kinds.specs.declared.Walk.{Walk}
use Rattle.tariff.specs.declared.Tariff.{Tariff}
use Rattle.promise.specs.Sound.{CheckPromise}
use Rattle.promise.specs.Format.{FormatPromise}
use Rattle.promise.specs.Create.{CreatePromise}
use Rattle.promise.specs.Read.{ReadPromise}
use Rattle.promise.specs.Status.{StatusPromise}
use Rattle.promise.specs.Destroy.{DestroyPromise}
use Rattle.promise.specs.Replace.{ReplacePromise}
use Rattle.promise.specs.SetExpiry.{SetExpiryPromise}
use Rattle.promise.specs.GetIds.{GetIdsPromise}
use Rattle.promise.specs.GetCount.{GetCountPromise}
use Rattle.promise.specs.Scavenge.{ScavengePromise}
use Rattle.promise.specs.Profile.{ProfilePromise}
use Rattle.promise.specs.Walk.{StepPromise}
use Rattle.series.specs.Reader.{OpenPromise, NextPromise}
use Rattle.series.specs.declared.Place.{Place}
use Rattle.series.specs.declared.Sample.{Sample}

-- a promise of an answer, and one of an answer and of the memory lent, settle them
abbrev pub Answer : {A : Type 0} → (A → Type 0) → Type 0
Answer {A} promise = (a b : A) → promise a → promise b → a ≡ b

abbrev pub Memory : {A : Type 0} → (A → List ℕ → Type 0) → Type 0
Memory {A} promise = (a b : A) (x y : List ℕ) → promise a x → promise b y → (a ≡ b) × (x ≡ y)

pub record Settled : Type 0 where
  pub check : (img : List ℕ) → Answer (CheckPromise img)
  pub format : (n : ℕ) (img : List ℕ) → Memory (FormatPromise n img)
  pub create : (t : Tariff) (img : List ℕ) (client expiry : ℕ) (bytes : List ℕ) (time : ℕ)
      → Memory (CreatePromise t img client expiry bytes time)
  pub read : (t : Tariff) (img : List ℕ) (client id : ℕ) (buffer : List ℕ) → Memory (ReadPromise t img client id buffer)
  pub status : (t : Tariff) (img : List ℕ) (client id : ℕ) → Answer (StatusPromise t img client id)
  pub destroy : (t : Tariff) (img : List ℕ) (client id time : ℕ) → Memory (DestroyPromise t img client id time)
  pub replace : (t : Tariff) (img : List ℕ) (client id : ℕ) (bytes : List ℕ) (time : ℕ)
      → Memory (ReplacePromise t img client id bytes time)
  pub set_expiry : (t : Tariff) (img : List ℕ) (client id expiry time : ℕ)
      → Memory (SetExpiryPromise t img client id expiry time)
  pub get_ids : (t : Tariff) (img : List ℕ) (client key count : ℕ) (ids : List ℕ)
      → Memory (GetIdsPromise t img client key count ids)
  pub get_count : (t : Tariff) (img : List ℕ) (client : ℕ) → Answer (GetCountPromise t img client)
  pub scavenge : (t : Tariff) (img : List ℕ) (client key time : ℕ) → Memory (ScavengePromise t img client key time)
  pub profile : (t : Tariff) (img : List ℕ) (client key : ℕ) (buffer : List ℕ)
      → Memory (ProfilePromise t img client key buffer)
  -- a step's record is lent too
  pub step : (t : Tariff) (img : List ℕ) (w : Walk) (ids : List ℕ) (a b : GetIdsAnswer) (w' w'' : Walk)
      (ids' ids'' : List ℕ)
      → StepPromise t img w ids a w' ids' → StepPromise t img w ids b w'' ids'' → (a ≡ b) × (w' ≡ w'') × (ids' ≡ ids'')
  -- a reader's opening, and a step of it
  pub open_series : (img : List ℕ) (client : User) (series : ℕ) → Answer (OpenPromise img client series)
  pub next_sample : (img : List ℕ) (p : Place) (a b : Option Sample) (p' p'' : Place)
      → NextPromise img p a p' → NextPromise img p b p'' → (a ≡ b) × (p' ≡ p'')
