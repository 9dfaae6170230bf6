-- PRG-62, User Manual, section 5.1: the eight client operations, each its successful outcome and then its total form.
use Rattle.std.specs.Prelude.{ℕ, ◌≤◌, max, ◌≡◌, List, length}
use Rattle.manual.specs.Sets.{Set, only, ◌≈◌, Lists, HasSize}
use Rattle.manual.specs.Given.{Constants}
use Rattle.manual.specs.State.{Block, SS, φBasicParams, owned, put, ◌⩤◌, ΔSS, ΞSS}
use Rattle.manual.specs.Frames.{φBlock, φNewBlock, φKey}
use Rattle.manual.specs.Reports.{◌⊕◌, Success, NoSuchBlock, NoSpace, NotOwner, BadKey}

-- ---- Create: store the given data until the given expiry time, under a new identity

module _ (k : Constants) (p : φBasicParams) (s s' : SS) (expiry? : ℕ) (data? : List ℕ) (id! : ℕ) where
  -- newblock.expires = max {now, expiry?}, newblock.data = data?, blocks' = blocks ∪ {id! ↦ newblock}
  pub record Create_success : Type 0 where
    pub newblock : Block
    pub new : φNewBlock k p s newblock id!
    pub expires : newblock.expires ≡ max p.now expiry?
    pub bytes : newblock.bytes ≡ data?
    pub blocks : s'.blocks ≈ put s.blocks id! newblock
    pub newids : ΔSS k p s s'

  abbrev pub Create : Type 0
  Create = (Create_success × Success p) ⊕ NoSpace k p s s'

-- ---- Read: the data of the block stored with identity id?

module _ (p : φBasicParams) (s s' : SS) (id? : ℕ) (data! : List ℕ) where
  -- data! = block.data
  pub record Read_success : Type 0 where
    pub block : Block
    pub old : φBlock s id? block
    pub bytes : data! ≡ block.bytes
    pub same : ΞSS s s'

  abbrev pub Read : Type 0
  Read = (Read_success × Success p) ⊕ NoSuchBlock p s s' id?

-- ---- Status: its owner, and its times of creation and expiry

module _ (p : φBasicParams) (s s' : SS) (id? owner! created! expires! : ℕ) where
  -- owner! = block.owner, created! = block.created, expires! = block.expires
  pub record Status_success : Type 0 where
    pub block : Block
    pub old : φBlock s id? block
    pub owner : owner! ≡ block.owner
    pub created : created! ≡ block.created
    pub expires : expires! ≡ block.expires
    pub same : ΞSS s s'

  abbrev pub Status : Type 0
  Status = (Status_success × Success p) ⊕ NoSuchBlock p s s' id?

-- ---- Destroy: remove the block from the service

module _ (k : Constants) (p : φBasicParams) (s s' : SS) (id? : ℕ) where
  -- blocks' = {id?} ⩤ blocks
  pub record Destroy_success : Type 0 where
    pub block : Block
    pub old : φBlock s id? block
    pub blocks : s'.blocks ≈ only id? ⩤ s.blocks
    pub newids : ΔSS k p s s'

  abbrev pub Destroy : Type 0
  Destroy = (Destroy_success × Success p) ⊕ NotOwner p s s' id? ⊕ NoSuchBlock p s s' id?

-- ---- Replace: the block by one with the given data, under a new identity

module _ (k : Constants) (p : φBasicParams) (s s' : SS) (id? : ℕ) (data? : List ℕ) (id! : ℕ) where
  -- newblock.expires = block.expires, newblock.data = data?, blocks' = ({id?} ⩤ blocks) ∪ {id! ↦ newblock}
  pub record Replace_success : Type 0 where
    pub block : Block
    pub old : φBlock s id? block
    pub newblock : Block
    pub new : φNewBlock k p s newblock id!
    pub expires : newblock.expires ≡ block.expires
    pub bytes : newblock.bytes ≡ data?
    pub blocks : s'.blocks ≈ put (only id? ⩤ s.blocks) id! newblock
    pub newids : ΔSS k p s s'

  abbrev pub Replace : Type 0
  Replace = (Replace_success × Success p) ⊕ NotOwner p s s' id? ⊕ NoSuchBlock p s s' id?

-- ---- SetExpiry: give the block a new expiry time

module _ (k : Constants) (p : φBasicParams) (s s' : SS) (id? expiry? : ℕ) where
  -- newblock has block's owner, created and data, newblock.expires = max {now, expiry?}, blocks' = blocks ⊕ {id? ↦
  -- newblock}
  pub record Set_expiry_success : Type 0 where
    pub block : Block
    pub old : φBlock s id? block
    pub newblock : Block
    pub owner : newblock.owner ≡ block.owner
    pub created : newblock.created ≡ block.created
    pub expires : newblock.expires ≡ max p.now expiry?
    pub bytes : newblock.bytes ≡ block.bytes
    pub blocks : s'.blocks ≈ put s.blocks id? newblock
    pub newids : ΔSS k p s s'

  abbrev pub SetExpiry : Type 0
  SetExpiry = (Set_expiry_success × Success p) ⊕ NotOwner p s s' id? ⊕ NoSuchBlock p s s' id?

-- ---- GetIds: at most count? of the ids that the client owns. Document 01 refuses a count? of 0.

module _ (k : Constants) (p : φBasicParams) (s s' : SS) (key? count? key! : ℕ) (idset! : List ℕ) where
  -- xs = {x : dom blocks | blocks(x).owner = clientnum}, idset! = subxs, #idset! ≤ count?
  pub record Get_ids_success : Type 0 where
    pub subxs : Set
    pub keys : φKey k key? key! (owned p.clientnum s.blocks) subxs
    pub idset : Lists idset! subxs
    pub few : length idset! ≤ count?
    pub same : ΞSS s s'

  abbrev pub GetIds : Type 0
  GetIds = (Get_ids_success × Success p) ⊕ BadKey k p s s' key?

-- ---- GetCount: the number of blocks that the client owns, with those that have expired and still stand

module _ (p : φBasicParams) (s s' : SS) (count! : ℕ) where
  -- xs = {x : dom blocks | blocks(x).owner = clientnum}, count! = #xs
  pub record Get_count_success : Type 0 where
    pub count : HasSize (owned p.clientnum s.blocks) count!
    pub same : ΞSS s s'

  abbrev pub GetCount : Type 0
  GetCount = Get_count_success × Success p
