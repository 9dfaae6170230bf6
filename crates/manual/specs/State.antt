-- PRG-62, User Manual, sections 2 and 3: blocks, the state SS with its invariants, its start, and the general schemas
-- ΔSS and ΞSS.
use Rattle.std.specs.Prelude.{ℕ, ◌≤◌, Bool, true, false, cond, ◌&&◌, List, eqb, ltb}
use Rattle.std.proofs.Math.Option.{Option, none, some}
use Rattle.manual.specs.Sets.{Set, ◌∈◌, ◌∉◌, only, ◌∪◌, ◌∖◌, ◌⊆◌, ◌≈◌, HasSize}
use Rattle.manual.specs.Given.{Constants, Report}

-- ---- 2.1 Blocks

-- BlockInfo
pub record BlockInfo : Type 0 where
  pub owner : ℕ
  pub created : ℕ
  pub expires : ℕ

-- Block: BlockInfo, and data : BlockData, which is called bytes here
pub record Block : Type 0 where
  pub owner : ℕ
  pub created : ℕ
  pub expires : ℕ
  pub bytes : List ℕ

-- block ↾ BlockInfo
abbrev pub info : Block → BlockInfo
info b = record { owner = b.owner; created = b.created; expires = b.expires }

-- BlockInfo's line created ≤ expires. It is no part of SS here: PRG-62's Replace does not keep it, and document 01
-- follows PRG-62 until request W3.
abbrev pub Ordered : Block → Type 0
Ordered b = b.created ≤ b.expires

-- BlockId ⇸ Block
abbrev pub Blocks : Type 0
Blocks = ℕ → Option Block

abbrev pub meets : (Block → Bool) → Option Block → Bool
meets t none = false
meets t (some b) = t b

-- { x : dom blocks | t (blocks(x)) }
abbrev pub such : (Block → Bool) → Blocks → Set
such t m x = meets t (m x)

abbrev pub dom : Blocks → Set
dom m = such (λ b. true) m

-- { x : dom blocks | blocks(x).owner = clientnum }
abbrev pub owned : ℕ → Blocks → Set
owned clientnum m = such (λ b. eqb b.owner clientnum) m

-- { x : dom blocks | blocks(x).expires < now }
abbrev pub expired : ℕ → Blocks → Set
expired now m = such (λ b. ltb b.expires now) m

-- m ⊕ {i ↦ b}, which is m ∪ {i ↦ b} where i is not in dom m
abbrev pub put : Blocks → ℕ → Block → Blocks
put m i b x = cond (eqb x i) (some b) (m x)

-- X ⩤ m
infixr 30 ◌⩤◌
abbrev pub ◌⩤◌ : Set → Blocks → Blocks
(X ⩤ m) x = cond (X x) none (m x)

-- ---- 2.2 Overall state

-- SS
pub record SS : Type 0 where
  pub blocks : Blocks
  pub newids : Set

-- φBasicParams
pub record φBasicParams : Type 0 where
  pub clientnum : ℕ
  pub now : ℕ
  pub report! : Report

-- a call by clientnum at now, and its report
abbrev pub by : (clientnum now : ℕ) → Report → φBasicParams
by clientnum now report = record { clientnum = clientnum; now = now; report! = report }

module _ (k : Constants) where
  -- SS's invariants: blocks : BlockId ⇸ Block and newids : 𝔽 BlockId; #blocks ≤ MaxBlocks; newids ∩ dom blocks = ∅;
  -- NullId ∉ dom blocks ∪ newids
  pub record Invariant (s : SS) : Type 0 where
    pub ids : dom s.blocks ∪ s.newids ⊆ k.BlockId
    pub few : (n : ℕ) × HasSize (dom s.blocks) n × (n ≤ k.MaxBlocks)
    pub fresh : (x : ℕ) → x ∈ s.newids → x ∉ dom s.blocks
    pub null : k.NullId ∉ dom s.blocks ∪ s.newids

  -- InitSS: blocks' = ∅, newids' = BlockId \ {NullId}
  pub record InitSS (s' : SS) : Type 0 where
    pub blocks : s'.blocks ≈ (λ x. none)
    pub newids : s'.newids ≈ k.BlockId ∖ only k.NullId

  -- ---- 3 Operation parameters

  -- those of X whose time is above t
  abbrev pub later : ℕ → Set → Set
  later t X x = X x && ltb t (k.time x)

  -- document 01's reading of the set of new ids: those whose time is above the clock (and whose block number is below
  -- N, as all of BlockId)
  abbrev pub NewIds : (clock : ℕ) → Set
  NewIds clock = later clock k.BlockId

  -- ΔSS. PRG-62's line is newids' = newids \ dom blocks'; document 01 puts its own in the place of it: those whose time
  -- is above the clock, which becomes now. What it keeps of PRG-62's is in Kept.antt.
  abbrev pub ΔSS : φBasicParams → SS → SS → Type 0
  ΔSS p s s' = s'.newids ≈ later p.now s.newids

-- ΞSS: θSS' = θSS
pub record ΞSS (s s' : SS) : Type 0 where
  pub blocks : s'.blocks ≈ s.blocks
  pub newids : s'.newids ≈ s.newids
