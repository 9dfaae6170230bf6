-- PRG-62, User Manual, section 5.2: the two operations of the service manager.
use Rattle.std.specs.Prelude.{ℕ, ◌≤◌, ◌≡◌, List, map, length}
use Rattle.std.proofs.Math.Option.{Option, none, some}
use Rattle.manual.specs.Sets.{Set, ◌≈◌, Lists, HasSize}
use Rattle.manual.specs.Given.{Constants}
use Rattle.manual.specs.State.{BlockInfo, Block, SS, φBasicParams, info, dom, expired, ◌⩤◌, ΔSS, ΞSS}
use Rattle.manual.specs.Frames.{φKey}
use Rattle.manual.specs.Reports.{◌⊕◌, Success, BadKey, NotManager}

-- ---- Scavenge: remove a set of expired blocks, and give the number removed

module _ (k : Constants) (p : φBasicParams) (s s' : SS) (key? key! count! : ℕ) where
  -- xs = {x : dom blocks | blocks(x).expires < now}, count! = #subxs, blocks' = subxs ⩤ blocks
  pub record Scavenge_success : Type 0 where
    pub subxs : Set
    pub keys : φKey k key? key! (expired p.now s.blocks) subxs
    pub count : HasSize subxs count!
    pub blocks : s'.blocks ≈ subxs ⩤ s.blocks
    pub newids : ΔSS k p s s'

  abbrev pub Scavenge : Type 0
  Scavenge = (Scavenge_success × Success p) ⊕ BadKey k p s s' key? ⊕ NotManager k p s s'

-- ---- Profile: information about the blocks stored, in some arbitrary ordering

-- blocks(x) ↾ BlockInfo
abbrev pub info_of : Option Block → Option BlockInfo
info_of none = none
info_of (some b) = some (info b)

module _ (k : Constants) (p : φBasicParams) (s s' : SS) (key? key! : ℕ) (order : List ℕ)
    (infoseq! : List BlockInfo) where
  -- xs = dom blocks, dom order = 1..#subxs, ran order = subxs, infoseq! = λ i : dom order • blocks(order(i)) ↾
  -- BlockInfo; infoseq! : BlockInfoSeq, so #infoseq! ≤ MaxInfos
  pub record Profile_success : Type 0 where
    pub subxs : Set
    pub keys : φKey k key? key! (dom s.blocks) subxs
    pub ordered : Lists order subxs
    pub infoseq : map some infoseq! ≡ map (λ x. info_of (s.blocks x)) order
    pub limited : length infoseq! ≤ k.MaxInfos
    pub same : ΞSS s s'

  abbrev pub Profile : Type 0
  Profile = (Profile_success × Success p) ⊕ BadKey k p s s' key? ⊕ NotManager k p s s'
