-- Bit j of the number that bytes spell is a bit of the byte that it stands in.
-- Assumes nothing.
use Prim.Native.Nat.{ℕ, suc, ◌+◌, ◌-◌, ◌*◌, ◌/◌, ◌%◌, ◌^◌, ◌≤◌, ◌<◌}
use mathlib.Core.Path.{◌≡◌, sym, ap, ◌∙◌}
use mathlib.Core.List.{List, [], ◌∷◌}
use mathlib.Core.Logic.{◌⊎◌, inl, inr}
use native.Mathlib.Omega.{arith}
use lib.ListN.{length, get_or}
use lib.Pow.{shr-shr, shr_le}
use Rattle.plain.specs.Numbers.{lt_or_le}
use Rattle.word.specs.Word.{part, le, word_at, Bytes}
use Rattle.word.specs.Bits.{byte_bit}
use Rattle.word.proofs.Laws.{get_or-part, bytes-part}
use Rattle.word.proofs.Bytes.{word_one}

none : (j : ℕ) → 0 / 2 ^ j ≡ 0
none j = omega (arith, shr_le 0 j)

le_bit : (bs : List ℕ) → Bytes bs → (j : ℕ) → le bs / 2 ^ j % 2 ≡ get_or bs (j / 8) 0 / 2 ^ (j % 8) % 2
unfolding le
le_bit [] h j = rw (none j, none (j % 8))
le_bit (b ∷ bs) h j = go (lt_or_le j 8) (le_bit bs (λ i. h (suc i)) (j - 8))
  where
    go : (j < 8) ⊎ (8 ≤ j) → le bs / 2 ^ (j - 8) % 2 ≡ get_or bs ((j - 8) / 8) 0 / 2 ^ ((j - 8) % 8) % 2
        → (b + 256 * le bs) / 2 ^ j % 2 ≡ get_or (b ∷ bs) (j / 8) 0 / 2 ^ (j % 8) % 2
    go (inl l) f =
        let d : j / 8 ≡ 0 = omega arith in
        let r : j % 8 ≡ j = omega arith in
        let e : (b + 256 * le bs) % 256 ≡ b = omega (arith, h 0) in
        rw (d, r) (sym (byte_bit j (b + 256 * le bs) l) ∙ rw e)
    go (inr l) f =
        let d : j / 8 ≡ suc ((j - 8) / 8) = omega arith in
        let r : j % 8 ≡ (j - 8) % 8 = omega arith in
        let e : (b + 256 * le bs) / 2 ^ 8 ≡ le bs = omega (arith, h 0) in
        let s : j ≡ 8 + (j - 8) = omega arith in
        rw (d, r) (ap (λ (x : ℕ). (b + 256 * le bs) / 2 ^ x % 2) s ∙ rw (← shr-shr (b + 256 * le bs) 8 (j - 8), e) f)

pub word_bit : (k : ℕ) (l : List ℕ) (at j : ℕ) → Bytes l → at + k ≤ length l → j < 8 * k
    → word_at k l at / 2 ^ j % 2 ≡ word_at 1 l (at + j / 8) / 2 ^ (j % 8) % 2
word_bit k l at j b h f =
    le_bit (part l at k) (bytes-part l at k b) j
    ∙ rw (get_or-part l at k (j / 8) (omega arith), word_one l (at + j / 8) (omega arith))
