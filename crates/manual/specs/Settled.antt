-- What is proved of the ten operations (proofs/Settled.antt): the inputs settle the report, the new state and, on
-- success, the outputs, once these choices are fixed: the new id of Create and Replace; the key returned by GetIds,
-- Scavenge and Profile; Profile's order. GetIds' ids are settled as a set. Document 01 fixes all of them, and the order
-- of the ids.
use Rattle.std.specs.Prelude.{ℕ, ◌≡◌, List, ℤ}
use Rattle.run.specs.Run.{times}
use Rattle.manual.specs.Given.{Constants, Report, SuccessReport, Op}
use Rattle.manual.specs.State.{BlockInfo, SS, φBasicParams, by, ΞSS}
use Rattle.manual.specs.Client.{Create, Read, Status, Destroy, Replace, SetExpiry, GetIds, GetCount}
use Rattle.manual.specs.Manager.{Scavenge, Profile}
use Rattle.manual.specs.Tariff.{Costs, φSSTariff}

-- two outcomes are one: the reports, the states and, on success, the outputs
pub record Same (r r' : Report) (s' s'' : SS) (outputs : Type 0) : Type 0 where
  pub report : r ≡ r'
  pub state : ΞSS s' s''
  pub results : r ≡ SuccessReport → outputs

-- an operation, as a relation of the basic parameters, the states before and after, and the outputs, has one outcome
-- for one call
abbrev pub Settles : {A : Type 0} → (φBasicParams → SS → SS → A → Type 0) → (A → A → Type 0) → Type 0
Settles {A} operation alike =
    (clientnum now : ℕ) (r r' : Report) (s s' s'' : SS) (a a' : A)
    → operation (by clientnum now r) s s' a
    → operation (by clientnum now r') s s'' a'
    → Same r r' s' s'' (alike a a')

pub record Settled (k : Constants) : Type 0 where
  pub create : (expiry? : ℕ) (data? : List ℕ) (id! : ℕ)
      → Settles {A = Unit {0}} (λ p s s' a. Create k p s s' expiry? data? id!) ◌≡◌
  pub read : (id? : ℕ) → Settles {A = List ℕ} (λ p s s' data!. Read p s s' id? data!) ◌≡◌
  pub status : (id? : ℕ) → Settles {A = BlockInfo}
      (λ p s s' a. Status p s s' id? a.owner a.created a.expires) ◌≡◌
  pub destroy : (id? : ℕ) → Settles {A = Unit {0}} (λ p s s' a. Destroy k p s s' id?) ◌≡◌
  pub replace : (id? : ℕ) (data? : List ℕ) (id! : ℕ)
      → Settles {A = Unit {0}} (λ p s s' a. Replace k p s s' id? data? id!) ◌≡◌
  pub set_expiry : (id? expiry? : ℕ) → Settles {A = Unit {0}} (λ p s s' a. SetExpiry k p s s' id? expiry?) ◌≡◌
  pub get_ids : (key? count? key! : ℕ)
      → Settles {A = List ℕ} (λ p s s' idset!. GetIds k p s s' key? count? key! idset!) (λ l m. (x : ℕ) → times x l
      ≡ times x m)
  pub get_count : Settles {A = ℕ} (λ p s s' count!. GetCount p s s' count!) ◌≡◌
  pub scavenge : (key? key! : ℕ) → Settles {A = ℕ} (λ p s s' count!. Scavenge k p s s' key? key! count!) ◌≡◌
  pub profile : (key? key! : ℕ) (order : List ℕ)
      → Settles {A = List BlockInfo} (λ p s s' infoseq!. Profile k p s s' key? key! order infoseq!) ◌≡◌

-- and the charge is settled by the operation, its basic parameters and the blocks concerned
abbrev pub Charged : Costs → Type 0
Charged t =
    (basic : φBasicParams) (op : Op) (block block' : BlockInfo) (c c' : ℤ)
    → φSSTariff t (record { basic = basic; op? = op; cost! = c }) block block'
    → φSSTariff t (record { basic = basic; op? = op; cost! = c' }) block block' → c ≡ c'
