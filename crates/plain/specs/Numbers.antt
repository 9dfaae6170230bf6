-- Facts of numbers that the library lacks.
-- Assumes nothing.
use Rattle.std.specs.Prelude.{ℕ, ◌*◌, ◌-◌, ◌^◌, ◌≤◌, ◌<◌, ◌⊎◌}
use Rattle.std.proofs.Common.{inl, inr, mul-le-mul, arith}
use Rattle.std.proofs.Math.Decide.{dec_lt}

pub lt_or_le : (a b : ℕ) → (a < b) ⊎ (b ≤ a)
lt_or_le a b = go (dec_lt a b)
  where
    go : Dec (a < b) → (a < b) ⊎ (b ≤ a)
    go (yes h) = inl h
    go (no h) = inr (omega arith)

-- the product of a number of i bits and one of j bits
pub product : (i j : ℕ) {a b : ℕ} → a < 2 ^ i → b < 2 ^ j → a * b ≤ (2 ^ i - 1) * (2 ^ j - 1)
product i j ha hb = mul-le-mul {n₂ = 2 ^ i - 1} {m₂ = 2 ^ j - 1} (omega arith) (omega arith)
