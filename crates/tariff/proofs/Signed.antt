-- The difference of two unsigned numbers below 2^63, taken at 64 signed bits.
-- Assumes nothing.
use mathlib.Core.Path.{◌≡◌, ◌∙◌}
use Prim.Native.Nat.{ℕ, ◌^◌, ◌<◌}
use lib.IntN.{pos, ◌-ℤ◌}
use borrow.Author.Tests.{lt-ltb}
use mir.Syntax.{w64}
use mir.Val.{SFits, to_z, of_z}
use mir.ValLaws.{to_z-of_z}
use Rattle.tariff.specs.Diff.{diff, diff_minus, mag-diff}

pub to_pos : (n : ℕ) → n < 2 ^ 63 → to_z w64 n ≡ pos n
to_pos n h = rw (lt-ltb n (2 ^ 63) h)

pub fits_diff : (a b : ℕ) → a < 2 ^ 63 → b < 2 ^ 63 → SFits w64 (to_z w64 a -ℤ to_z w64 b)
fits_diff a b ha hb = rw (to_pos a ha, to_pos b hb, diff_minus a b) (record { sfits = mag-diff a b (2 ^ 63) ha hb })

pub is_diff : (a b : ℕ) → a < 2 ^ 63 → b < 2 ^ 63 → to_z w64 (of_z w64 (to_z w64 a -ℤ to_z w64 b)) ≡ diff a b
is_diff a b ha hb = to_z-of_z w64 _ (fits_diff a b ha hb) ∙ rw (to_pos a ha, to_pos b hb) (diff_minus a b)
