-- PRG-62, User Manual, section 6: what an operation costs.
use Rattle.std.specs.Prelude.{ℕ, ◌≡◌, ℤ, pos, ◌+ℤ◌, ◌-ℤ◌, ◌*ℤ◌}
use Rattle.manual.specs.Given.{Op, CreateOp, ReadOp, StatusOp, DestroyOp, ReplaceOp, SetExpiryOp, GetIdsOp}
use Rattle.manual.specs.Given.{GetCountOp, ScavengeOp, ProfileOp}
use Rattle.manual.specs.State.{BlockInfo, φBasicParams}
use Rattle.manual.specs.Reports.{Success}

-- the expense of performing each operation, of an error, and of storing a block for one tick
pub record Costs : Type 0 where
  pub CreateCost : ℤ
  pub ReadCost : ℤ
  pub StatusCost : ℤ
  pub DestroyCost : ℤ
  pub ReplaceCost : ℤ
  pub SetExpiryCost : ℤ
  pub GetIdsCost : ℤ
  pub GetCountCost : ℤ
  pub ScavengeCost : ℤ
  pub ProfileCost : ℤ
  pub ErrorCost : ℤ
  pub BlockCost : ℤ

-- φParams
pub record φParams : Type 0 where
  pub basic : φBasicParams
  pub op? : Op
  pub cost! : ℤ

module _ (t : Costs) where
  -- BlockTariff(created, expires) = BlockCost * (expires - created)
  abbrev pub BlockTariff : (created expires : ℕ) → ℤ
  BlockTariff created expires = t.BlockCost *ℤ (pos expires -ℤ pos created)

  -- SSTariff's lines, one for each operation: block is the stored block that the operation is given, block' the one
  -- that it stores
  abbrev pub cost_of : Op → (now : ℕ) → (block block' : BlockInfo) → ℤ
  cost_of CreateOp now block block' = t.CreateCost +ℤ BlockTariff block'.created block'.expires
  cost_of ReadOp now block block' = t.ReadCost
  cost_of StatusOp now block block' = t.StatusCost
  cost_of DestroyOp now block block' = t.DestroyCost -ℤ BlockTariff block.created block.expires +ℤ BlockTariff
      block.created now
  cost_of ReplaceOp now block block' =
      t.ReplaceCost -ℤ BlockTariff block.created block.expires +ℤ BlockTariff block.created now
      +ℤ BlockTariff block'.created block'.expires
  cost_of SetExpiryOp now block block' =
      t.SetExpiryCost -ℤ BlockTariff block.created block.expires +ℤ BlockTariff block'.created
      block'.expires
  cost_of GetIdsOp now block block' = t.GetIdsCost
  cost_of GetCountOp now block block' = t.GetCountCost
  cost_of ScavengeOp now block block' = t.ScavengeCost
  cost_of ProfileOp now block block' = t.ProfileCost

  -- SSTariff: op? = CreateOp ⇒ cost! = CreateCost + BlockTariff(created', expires'), and so on
  abbrev pub SSTariff : φParams → (block block' : BlockInfo) → Type 0
  SSTariff p block block' = p.cost! ≡ cost_of p.op? p.basic.now block block'

  -- ErrorTariff: cost! = ErrorCost
  abbrev pub ErrorTariff : φParams → Type 0
  ErrorTariff p = p.cost! ≡ t.ErrorCost

  -- φSSTariff: Success ⇒ SSTariff, ¬ Success ⇒ ErrorTariff
  pub record φSSTariff (p : φParams) (block block' : BlockInfo) : Type 0 where
    pub success : Success p.basic → SSTariff p block block'
    pub error : (¬ (Success p.basic)) → ErrorTariff p
