-- `tariff::price` meets its contract: a price is its own amount.
use mathlib.Core.Path.{ap}
use native.Mathlib.Omega.{arith}
use Rattle.kinds.specs.Kinds.{money}
use Rattle.tariff.proofs.Signed.{to_pos}
use Rattle.tariff.proofs.price.Goals as goal

pub returns : goal.returns
returns c = ap money (to_pos _ (omega arith))
