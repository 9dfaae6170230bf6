-- `tariff::net` meets its contract: the difference of two numbers below 2^63 fits 64 signed bits.
use mathlib.Core.Path.{ap}
use Rattle.kinds.specs.Kinds.{money}
use Rattle.tariff.proofs.Signed.{fits_diff, is_diff}
use Rattle.tariff.proofs.net.Goals as goal

pub overflow_sub-result : goal.overflow_sub-result
overflow_sub-result c = fits_diff _ _ c.requires.0 c.requires.1

pub returns : goal.returns
returns c = ap money (is_diff _ _ c.requires.0 c.requires.1)
