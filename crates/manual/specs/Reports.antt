-- PRG-62, User Manual, section 4: Success, the five error schemas, and schema overriding.
use Rattle.std.specs.Prelude.{ℕ, ◌≤◌, ◌≡◌, ◌⊎◌, ◌≢◌}
use Rattle.manual.specs.Sets.{◌∉◌, HasSize}
use Rattle.manual.specs.Given.{Constants, Report, SuccessReport, NoSuchBlockReport, NoSpaceReport, NotOwnerReport}
use Rattle.manual.specs.Given.{BadKeyReport, NotManagerReport}
use Rattle.manual.specs.State.{Block, SS, φBasicParams, dom, ΞSS}
use Rattle.manual.specs.Frames.{φBlock, EndKey}

-- Success: report! = SuccessReport
abbrev pub Success : φBasicParams → Type 0
Success p = p.report! ≡ SuccessReport

-- an error schema: its precondition, and what is so where that holds
pub record Error : Type 1 where
  pub pre : Type 0
  pub outcome : Type 0

-- success ⊕ error: the error where its precondition is satisfied, else the success; so later errors win
infixl 10 ◌⊕◌
abbrev pub ◌⊕◌ : Type 0 → Error → Type 0
success ⊕ error = (error.pre × error.outcome) ⊎ ((¬ error.pre) × success)

-- failure leaves the state of the service unchanged
pub record Failed (p : φBasicParams) (s s' : SS) (report : Report) : Type 0 where
  pub same : ΞSS s s'
  pub report! : p.report! ≡ report

-- NoSuchBlock: id? ∉ dom blocks
abbrev pub NoSuchBlock : φBasicParams → SS → SS → (id? : ℕ) → Error
NoSuchBlock p s s' id? = record { pre = id? ∉ dom s.blocks; outcome = Failed p s s' NoSuchBlockReport }

-- NotOwner: φBlock, block.owner ≠ clientnum
abbrev pub NotOwner : φBasicParams → SS → SS → (id? : ℕ) → Error
NotOwner p s s' id? =
    record {
      pre = (block : Block) × φBlock s id? block
          × (block.owner ≢ p.clientnum);
      outcome = Failed p s s' NotOwnerReport;
    }

module _ (k : Constants) where
  -- NoSpace: #blocks = MaxBlocks
  abbrev pub NoSpace : φBasicParams → SS → SS → Error
  NoSpace p s s' = record { pre = HasSize (dom s.blocks) k.MaxBlocks; outcome = Failed p s s' NoSpaceReport }

  -- BadKey: key? ∉ dom KeySet \ {EndKey}
  abbrev pub BadKey : φBasicParams → SS → SS → (key? : ℕ) → Error
  BadKey p s s' key? = record { pre = EndKey k ≤ key?; outcome = Failed p s s' BadKeyReport }

  -- NotManager: clientnum ≠ Manager
  abbrev pub NotManager : φBasicParams → SS → SS → Error
  NotManager p s s' = record { pre = p.clientnum ≢ k.Manager; outcome = Failed p s s' NotManagerReport }
