-- `tariff::worth` meets its contract: a number of 16 bits times one of 40 fits.
use Prim.Native.Nat.{ℕ, ◌*◌, ◌-◌, ◌^◌, ◌≤◌, ◌<◌}
use mathlib.Core.Path.{refl}
use native.Mathlib.Omega.{arith}
use Rattle.plain.specs.Numbers.{product}
use Rattle.tariff.proofs.worth.Goals as goal

bound : (rate at : ℕ) → rate < 2 ^ 16 → at < 2 ^ 40 → rate * at ≤ (2 ^ 16 - 1) * (2 ^ 40 - 1)
bound rate at h f = product 16 40 h f

pub overflow_mul-result : goal.overflow_mul-result
overflow_mul-result c = omega (arith, bound c.args.rate c.args.at.0 (omega arith) c.requires)

pub returns : goal.returns
returns c = (refl, omega (arith, bound c.args.rate c.args.at.0 (omega arith) c.requires))
