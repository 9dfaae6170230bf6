-- PRG-62, User Manual, section 1: the given sets and the implementation's constants. Identifiers, times, user numbers
-- and keys are numbers; BlockData is a list of bytes.
use Rattle.std.specs.Prelude.{ℕ, ◌<◌, ◌≡◌}
use Rattle.manual.specs.Sets.{Set, ◌∈◌}

-- what an implementation settles; document 01 does it for each number of blocks
pub record Constants : Type 0 where
  pub MaxBlocks : ℕ
  pub MaxInfos : ℕ
  pub Manager : ℕ
  pub NullId : ℕ
  -- [BlockId]. It is finite in PRG-62; no law here needs that, since the block numbers are finitely many.
  pub BlockId : Set
  -- an identifier stands for a block number and a time (PRG-62's BID, in the Implementor Manual)
  pub num : ℕ → ℕ
  pub time : ℕ → ℕ
  -- the block numbers are those below MaxBlocks, and each has an identifier
  pub numbered : (x : ℕ) → x ∈ BlockId → num x < MaxBlocks
  pub named : (b : ℕ) → b < MaxBlocks → (x : ℕ) × (x ∈ BlockId) × (num x ≡ b)

-- [Report], by section 4
pub data Report : Type 0 where
  SuccessReport NoSuchBlockReport NoSpaceReport NotOwnerReport BadKeyReport NotManagerReport : Report

-- [Op], by section 7
pub data Op : Type 0 where
  CreateOp ReadOp StatusOp DestroyOp ReplaceOp SetExpiryOp GetIdsOp GetCountOp ScavengeOp ProfileOp : Op
