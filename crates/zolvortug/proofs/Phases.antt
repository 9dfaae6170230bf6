-- The NaN that a phase is where there is none, by its bits.
-- Assumes nothing.
use Rattle.std.proofs.Common.{◌≡◌, refl}
use lib.Ieee.{nan, binary64, of_bits}

pub no_number : of_bits binary64 9221120237041090560 ≡ nan
unfolding of_bits
no_number = refl
