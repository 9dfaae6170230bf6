-- What is proved of the ten operations (proofs/Kept.antt): each keeps SS's invariants, and none issues an id that is
-- stored; what is so of the new ids, as document 01 reads them, and of created ≤ expires.
use Rattle.std.specs.Prelude.{ℕ, ◌≤◌, ◌<◌, ◌≡◌, List, ◌↔◌, ◌≢◌}
use Rattle.manual.specs.Sets.{◌∈◌, ◌∉◌, ◌∖◌, ◌⊆◌, ◌≈◌}
use Rattle.manual.specs.Given.{Constants}
use Rattle.manual.specs.State.{BlockInfo, SS, φBasicParams, dom, Ordered, Invariant, InitSS, NewIds, ΔSS}
use Rattle.manual.specs.Client.{Create_success, Create, Read, Status, Destroy, Replace_success, Replace}
use Rattle.manual.specs.Client.{Set_expiry_success, SetExpiry, GetIds, GetCount}
use Rattle.manual.specs.Manager.{Scavenge, Profile}

module _ (k : Constants) where
  -- an id that is issued was not stored
  pub record Issued : Type 0 where
    pub create : {p : φBasicParams} {s s' : SS} {expiry? : ℕ} {data? : List ℕ} {id! : ℕ} → Invariant k s
        → Create_success k p s s' expiry? data? id! → id! ∉ dom s.blocks
    pub replace : {p : φBasicParams} {s s' : SS} {id? : ℕ} {data? : List ℕ} {id! : ℕ} → Invariant k s
        → Replace_success k p s s' id? data? id! → id! ∉ dom s.blocks

  -- the invariants hold afterwards; and any id issued is removed from the set of new ids, and so can never be issued
  -- again: newids' is part of newids \ dom blocks', to which PRG-62's own rule sets it (document 01's also removes ids
  -- that were never issued)
  pub record Keeps (s s' : SS) : Type 0 where
    pub invariant : Invariant k s'
    pub issued : s'.newids ⊆ s.newids ∖ dom s'.blocks

  abbrev pub Keeping : (SS → SS → Type 0) → Type 0
  Keeping operation = (s s' : SS) → Invariant k s → operation s s' → Keeps s s'

  pub record Kept : Type 0 where
    pub init : {s' : SS} → InitSS k s' → Invariant k s'
    pub create : {p : φBasicParams} {expiry? : ℕ} {data? : List ℕ} {id! : ℕ}
        → Keeping (λ s s'. Create k p s s' expiry? data? id!)
    pub read : {p : φBasicParams} {id? : ℕ} {data! : List ℕ} → Keeping (λ s s'. Read p s s' id? data!)
    pub status : {p : φBasicParams} {id? owner! created! expires! : ℕ}
        → Keeping (λ s s'. Status p s s' id? owner! created! expires!)
    pub destroy : {p : φBasicParams} {id? : ℕ} → Keeping (λ s s'. Destroy k p s s' id?)
    pub replace : {p : φBasicParams} {id? : ℕ} {data? : List ℕ} {id! : ℕ}
        → Keeping (λ s s'. Replace k p s s' id? data? id!)
    pub set_expiry : {p : φBasicParams} {id? expiry? : ℕ} → Keeping (λ s s'. SetExpiry k p s s' id? expiry?)
    pub get_ids : {p : φBasicParams} {key? count? key! : ℕ} {idset! : List ℕ}
        → Keeping (λ s s'. GetIds k p s s' key? count? key! idset!)
    pub get_count : {p : φBasicParams} {count! : ℕ} → Keeping (λ s s'. GetCount p s s' count!)
    pub scavenge : {p : φBasicParams} {key? key! count! : ℕ} → Keeping (λ s s'. Scavenge k p s s' key? key! count!)
    pub profile : {p : φBasicParams} {key? key! : ℕ} {order : List ℕ} {infoseq! : List BlockInfo}
        → Keeping (λ s s'. Profile k p s s' key? key! order infoseq!)

  -- document 01's set of new ids: it is InitSS's at clock 0, where NullId alone has no time, and ΔSS says that it
  -- follows the clock
  pub record NewIdsRead : Type 0 where
    pub start : {s' : SS} → k.time k.NullId ≡ 0 → ((x : ℕ) → x ∈ k.BlockId → x ≢ k.NullId → 0 < k.time x)
        → InitSS k s' → s'.newids ≈ NewIds k 0
    pub moved : (p : φBasicParams) (s s' : SS) (clock : ℕ) → clock ≤ p.now → s.newids ≈ NewIds k clock
        → ΔSS k p s s' ↔ (s'.newids ≈ NewIds k p.now)

  -- created ≤ expires: so for a block that Create or SetExpiry stores; for one that Replace stores, only if the old one
  -- had not expired
  pub record Dated : Type 0 where
    pub create : {p : φBasicParams} {s s' : SS} {expiry? : ℕ} {data? : List ℕ} {id! : ℕ}
        (c : Create_success k p s s' expiry? data? id!)
        → Ordered c.newblock
    pub replace : {p : φBasicParams} {s s' : SS} {id? : ℕ} {data? : List ℕ} {id! : ℕ}
        (c : Replace_success k p s s' id? data? id!)
        → Ordered c.newblock ↔ (p.now ≤ c.block.expires)
    pub set_expiry : {p : φBasicParams} {s s' : SS} {id? expiry? : ℕ} (c : Set_expiry_success k p s s' id? expiry?)
        → c.block.created ≤ p.now → Ordered c.newblock
