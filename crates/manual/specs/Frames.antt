-- PRG-62, User Manual, sections 3.1 and 3.2: the framing schemas of the operations on one block and of the key-linked
-- operations.
use Rattle.std.specs.Prelude.{ℕ, ◌≤◌, ◌≡◌, ◌&&◌, ltb}
use Rattle.std.proofs.Math.Option.{some}
use Rattle.manual.specs.Sets.{Set, ◌∈◌, ∅, ◌∩◌, ◌∖◌, ◌⊂◌, ◌≈◌}
use Rattle.manual.specs.Given.{Constants}
use Rattle.manual.specs.State.{Block, SS, φBasicParams}

-- ---- 3.1 Block-specific operations

-- φBlock: id? ∈ dom blocks, block = blocks(id?)
abbrev pub φBlock : SS → (id? : ℕ) → Block → Type 0
φBlock s id? block = s.blocks id? ≡ some block

module _ (k : Constants) where
  -- φNewBlock: newblock.owner = clientnum, newblock.created = now, id! ∈ newids. Document 01 makes id! from the block
  -- number and now.
  pub record φNewBlock (p : φBasicParams) (s : SS) (newblock : Block) (id! : ℕ) : Type 0 where
    pub owner : newblock.owner ≡ p.clientnum
    pub created : newblock.created ≡ p.now
    pub new : id! ∈ s.newids
    pub made : k.time id! ≡ p.now

  -- ---- 3.2 Key-linked operations

  -- a key is a block number, and the number after the last one stands for the end key
  abbrev pub StartKey : ℕ
  StartKey = 0

  abbrev pub EndKey : ℕ
  EndKey = k.MaxBlocks

  -- KeySet, from dom KeySet = 0 .. EndKey: the ids whose block number is below the key
  abbrev pub KeySet : ℕ → Set
  KeySet key x = k.BlockId x && ltb (k.num x) key

  -- what PRG-62 asks of KeySet (proofs/Keys.antt)
  pub record KeySets : Type 0 where
    pub start : KeySet StartKey ≈ ∅
    pub end : KeySet EndKey ≈ k.BlockId

  -- φKey: KeySet(key?) ⊂ KeySet(key!), subxs = (KeySet(key!) \ KeySet(key?)) ∩ xs
  pub record φKey (key? key! : ℕ) (xs subxs : Set) : Type 0 where
    pub valid : key! ≤ EndKey
    pub grows : KeySet key? ⊂ KeySet key!
    pub part : subxs ≈ (KeySet key! ∖ KeySet key?) ∩ xs
