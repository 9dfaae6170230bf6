-- A part of a slice that is lent to a call, as the checker states it, in the words of Word.antt and Write.antt.
-- Assumes nothing.
use Prim.Native.Nat.{ℕ, ◌+◌, ◌-◌}
use mathlib.Core.Path.{◌≡◌}
use mathlib.Core.List.{List}
use native.Mathlib.Nat.{le_of_eq}
use native.Mathlib.Omega.{arith}
use lib.ListN.{length, take, drop, length-drop}
use lib.Seq.{take_all}
use Rattle.word.specs.Word.{part}

-- from a up to e, k bytes
pub lent-part : (l : List ℕ) (a e k : ℕ) → e ≡ a + k → take (e - a) (drop a l) ≡ part l a k
unfolding part
lent-part l a e k p = let q : e - a ≡ k = omega arith in rw q

-- from a up to the end
pub lent-rest : (l : List ℕ) (a : ℕ) → take (length l - a) (drop a l) ≡ drop a l
lent-rest l a = take_all (length l - a) (drop a l) (le_of_eq (length-drop a l))
