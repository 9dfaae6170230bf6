-- From block numbers to the key-linked operations. Document 01: a call visits the block numbers from the key upward, at
-- most 64 and not past the last; GetIds also stops as soon as it has named the asked count.
use Rattle.std.specs.Prelude.{ℕ, ◌+◌, ◌≤◌, ◌<◌, ◌≡◌, Bool, true, List, map, length}
use Rattle.std.proofs.Math.Option.{some}
use Rattle.run.specs.Run as Run
use Rattle.run.specs.Run.{picked, stride}
use Rattle.manual.specs.Sets.{Set, ◌∈◌, ◌∩◌, ◌∖◌, ◌≈◌, HasSize}
use Rattle.manual.specs.Given.{Constants}
use Rattle.manual.specs.State.{BlockInfo, SS, φBasicParams, dom, owned, expired, ◌⩤◌, ΔSS, ΞSS}
use Rattle.manual.specs.Frames.{EndKey, KeySet}
use Rattle.manual.specs.Reports.{Success}
use Rattle.manual.specs.Client.{Get_ids_success, GetIds}
use Rattle.manual.specs.Manager.{info_of, Scavenge, Profile}
use Rattle.manual.specs.Walk.{Call}

-- what a scan gives
pub record Scan : Type 0 where
  pub key! : ℕ
  pub ids : List ℕ

module _ (k : Constants) where
  -- how a set of ids shows in the block numbers: each number that passes the test holds an id of the set, and each id
  -- of the set stands at its own number
  pub record Shows (xs : Set) (test : ℕ → Bool) (id_at : ℕ → ℕ) : Type 0 where
    pub holds : (b : ℕ) → b < k.MaxBlocks → test b ≡ true → (id_at b ∈ xs) × (k.num (id_at b) ≡ b)
    pub stands : (x : ℕ) → x ∈ xs → (x ∈ k.BlockId) × (test (k.num x) ≡ true) × (id_at (k.num x) ≡ x)

  -- how many numbers Scavenge and Profile visit, and how many GetIds does
  abbrev pub reach : (key? : ℕ) → ℕ
  reach key? = Run.reach k.MaxBlocks key?

  abbrev pub reach_for : (ℕ → Bool) → (count? key? : ℕ) → ℕ
  reach_for test count? key? = stride test k.MaxBlocks count? key?

  -- the key returned is the number after the last one visited, which is the end key after the last of all; the ids
  -- named are those at the visited numbers that pass, rising
  abbrev pub scan : (ℕ → Bool) → (ℕ → ℕ) → (key? visited : ℕ) → Scan
  scan test id_at key? visited =
      record {
        key! = key? + visited;
        ids = map id_at (picked test key? visited);
      }

  -- Scavenge's and Profile's, and GetIds'
  abbrev pub pass : (ℕ → Bool) → (ℕ → ℕ) → (key? : ℕ) → Scan
  pass test id_at key? = scan test id_at key? (reach key?)

  abbrev pub pass_for : (ℕ → Bool) → (ℕ → ℕ) → (count? key? : ℕ) → Scan
  pass_for test id_at count? key? = scan test id_at key? (reach_for test count? key?)

  -- what is proved of a scan of block numbers (proofs/Scan.antt)
  pub record Scans : Type 0 where
    -- whatever the set: it is φKey's subset, and passes as many numbers as it visits
    pub call : {xs : Set} {test : ℕ → Bool} {id_at : ℕ → ℕ} → Shows xs test id_at
        → (key? visited : ℕ) → 0 < visited → key? + visited ≤ EndKey k
        → Call k xs key? (scan test id_at key? visited).key! visited (scan test id_at key? visited).ids
    -- the set has as many members as there are numbers that pass
    pub size : {xs : Set} {test : ℕ → Bool} {id_at : ℕ → ℕ} → Shows xs test id_at
        → HasSize xs (length (picked test 0 k.MaxBlocks))
    -- and so the three operations, where document 01 does not refuse them
    pub get_ids : {p : φBasicParams} {s s' : SS} {test : ℕ → Bool} {id_at : ℕ → ℕ}
        → Shows (owned p.clientnum s.blocks) test id_at
        → (key? count? : ℕ) → key? < EndKey k → 0 < count? → Success p → ΞSS s s'
        → GetIds k p s s' key? count? (pass_for test id_at count? key?).key! (pass_for test id_at count? key?).ids
    pub scavenge : {p : φBasicParams} {s s' : SS} {test : ℕ → Bool} {id_at : ℕ → ℕ}
        → Shows (expired p.now s.blocks) test id_at
        → (key? : ℕ) → key? < EndKey k → p.clientnum ≡ k.Manager → Success p
        → s'.blocks ≈ (KeySet k (pass test id_at key?).key! ∖ KeySet k key?) ∩ expired p.now s.blocks ⩤ s.blocks
        → ΔSS k p s s'
        → Scavenge k p s s' key? (pass test id_at key?).key! (length (pass test id_at key?).ids)
    pub profile : {p : φBasicParams} {s s' : SS} {test : ℕ → Bool} {id_at : ℕ → ℕ} → Shows (dom s.blocks) test id_at
        → 64 ≤ k.MaxInfos
        → (key? : ℕ) → key? < EndKey k → p.clientnum ≡ k.Manager → Success p → ΞSS s s'
        → (infoseq! : List BlockInfo) → map some infoseq! ≡ map (λ x. info_of (s.blocks x)) (pass test id_at key?).ids
        → Profile k p s s' key? (pass test id_at key?).key! (pass test id_at key?).ids infoseq!

  -- PRG-62 lets GetIds ask for zero ids though its key must grow: both cannot hold where the next block is the client's
  -- (proofs/Complete.antt). So document 01 refuses a count? of 0.
  abbrev pub NoZeroCount : Type 0
  NoZeroCount =
      (p : φBasicParams) (s s' : SS) (x key! : ℕ) (idset! : List ℕ) → x ∈ k.BlockId
      → x ∈ owned p.clientnum s.blocks
      → Get_ids_success k p s s' (k.num x) 0 key! idset! → ⊥
