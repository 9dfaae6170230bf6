-- `ident::round` meets its contract: the product of two halves fits 64 bits.
use Prim.Native.Nat.{◌*◌, ◌-◌, ◌^◌, ◌≤◌}
use mathlib.Core.Path.{refl}
use native.Mathlib.Omega.{arith}
use Rattle.plain.specs.Numbers.{product}
use Rattle.ident.specs.Ident.{low, round_of}
use Rattle.ident.proofs.round.Goals as goal

halves : (c : goal.Start) → low c.args.x * c.args.k ≤ (2 ^ 32 - 1) * (2 ^ 32 - 1)
halves c = product 32 32 (omega arith) (omega arith)

pub returns : goal.returns
unfolding round_of
returns c = refl

pub overflow_mul-result-2 : goal.overflow_mul-result-2
overflow_mul-result-2 c = omega (arith, halves c)

pub overflow_add-result : goal.overflow_add-result
overflow_add-result c = omega (arith, halves c)
