-- `ident::unround` meets its contract: the product of two halves fits 64 bits.
use Prim.Native.Nat.{◌*◌, ◌-◌, ◌^◌, ◌≤◌}
use mathlib.Core.Path.{refl}
use native.Mathlib.Omega.{arith}
use Rattle.plain.specs.Numbers.{product}
use Rattle.ident.specs.Ident.{high, unround_of}
use Rattle.ident.proofs.unround.Goals as goal

halves : (c : goal.Start) → high c.args.y * c.args.k ≤ (2 ^ 32 - 1) * (2 ^ 32 - 1)
halves c = product 32 32 (omega arith) (omega arith)

pub returns : goal.returns
unfolding unround_of
returns c = refl

pub overflow_mul-result : goal.overflow_mul-result
overflow_mul-result c = omega (arith, halves c)
