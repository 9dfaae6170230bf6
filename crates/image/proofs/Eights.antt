-- The eight headers of one byte of the map: where all are free they are good where their 512 bytes are zero, and add
-- nothing to the tally; and the headers from one byte of the map on, in eights.
-- Assumes nothing.
use Rattle.std.proofs.Common.{◌≡◌, ℕ, zero, suc, ◌+◌, ◌-◌, ◌*◌, ◌/◌, ◌<◌, ◌≤◌, Bool, true, false, List, length}
use Rattle.std.proofs.Common.{sym, refl, ap, ◌∙◌, arith}
use Rattle.word.specs.Word.{part, word_at, all_zero}
use Rattle.word.proofs.Laws.{part_split}
use Rattle.word.proofs.Bytes.{all_zero_append}
use Rattle.run.specs.Run.{all_of, times}
use Rattle.run.proofs.Laws.{all_parts, all-each, all_same, picked_none}
use mathlib.Core.Bool.{and-true, and-false}
use Rattle.promise.specs.Layout.{map_at}
use Rattle.promise.specs.Header.{header_of, is_used}
use Rattle.promise.proofs.HeaderLaws.{zero-unused}
use Rattle.promise.specs.Map.{free, good}
use Rattle.image.specs.Image.{Known, bit_of, owners_from}
use Rattle.image.proofs.Lowest.{one_bits}
use Rattle.image.proofs.Headers.{good_is_zero}

-- ---- headers that are zero, one after the other

part_none : (l : List ℕ) (at : ℕ) → true ≡ all_zero (part l at (64 * 0))
unfolding part all_zero
part_none l at = refl

zeros_run : (img : List ℕ) (b k : ℕ) → 64 * (b + k) ≤ length img
    → all_of (λ b. all_zero (header_of img b)) b k ≡ all_zero (part img (64 * b) (64 * k))
unfolding all_of header_of
zeros_run img b zero h = part_none img (64 * b)
zeros_run img b (suc k) h =
    let e : 64 * suc k ≡ 64 + 64 * k = omega arith in
    let g : 64 * (b + 1) ≡ 64 * b + 64 = omega arith in
    rw (e, part_split img (64 * b) 64 (64 * k) (omega arith), all_zero_append, zeros_run img (b + 1) k (omega arith), g)

-- ---- a byte of the map that is 255

full : (j : ℕ) → j < 8 → bit_of 255 j ≡ true
unfolding bit_of
full zero h = refl
full (suc zero) h = refl
full (suc (suc zero)) h = refl
full (suc (suc (suc zero))) h = refl
full (suc (suc (suc (suc zero)))) h = refl
full (suc (suc (suc (suc (suc zero))))) h = refl
full (suc (suc (suc (suc (suc (suc zero)))))) h = refl
full (suc (suc (suc (suc (suc (suc (suc zero))))))) h = refl
full (suc (suc (suc (suc (suc (suc (suc (suc j)))))))) h = absurd (omega arith)

module _ (img : List ℕ) (n clock i m : ℕ) (known : Known img n clock) (h : i < n / 8) (e : m
    ≡ word_at 1 img (map_at n + i)) (f : m ≡ 255) where
  all-free : (b : ℕ) → 8 * i ≤ b → b < 8 * i + 8 → free n img b ≡ true
  all-free b l u =
      let d : b ≡ 8 * i + (b - 8 * i) = omega arith in
      ap (λ (x : ℕ). free n img x) d ∙ one_bits n img i m e (b - 8 * i) (omega arith)
      ∙ rw f (full (b - 8 * i) (omega arith))

  pub eight_free : all_zero (part img (64 * (8 * i)) (8 * 64)) ≡ all_of (good img) (8 * i) 8
  eight_free =
      sym (zeros_run img (8 * i) 8 (omega (arith, known.laid.size)))
      ∙ all_same (λ b. all_zero (header_of img b)) (good img) (8 * i) 8
      (λ b l u. good_is_zero img n clock b known (all-free b l u))

  pub eight_none : all_zero (part img (64 * (8 * i)) (8 * 64)) ≡ true → (u : ℕ)
      → times u (owners_from img (8 * i) 8) ≡ 0
  unfolding times
  eight_none z u =
      let w = zeros_run img (8 * i) 8 (omega (arith, known.laid.size)) ∙ z in
      rw (picked_none (λ b. is_used (header_of img b)) (8 * i) 8
      (λ b l v. zero-unused (header_of img b) (all-each (λ b. all_zero (header_of img b)) (8 * i) 8 b w l v)))

-- ---- all of a run pass, as far as a loop has come: number i, or the eight from 8 * i on

module _ (p : ℕ → Bool) where
  pub all_none : (b : ℕ) → all_of p b 0 ≡ true
  unfolding all_of
  all_none b = refl

  parts_pass : (b k m i : ℕ) → i ≡ b + k → all_of p b k ≡ true → all_of p i m ≡ true → all_of p b (k + m) ≡ true
  parts_pass b k m i q e f = rw (all_parts p b k m, e, ← q, f)

  part_fails : (b k m i : ℕ) → b ≤ i → i + m ≤ b + k → all_of p i m ≡ false → all_of p b k ≡ false
  part_fails b k m i h l e =
      let q : k ≡ (i - b) + (m + (k - (i - b) - m)) = omega arith in
      let r : b + (i - b) ≡ i = omega arith in
      rw (q, all_parts p b (i - b) (m + (k - (i - b) - m)), r, all_parts p i m (k - (i - b) - m), e, and-false)

  only : (i : ℕ) → all_of p i 1 ≡ p i
  unfolding all_of
  only i = and-true (p i)

  pub all_more : (b k i : ℕ) → i ≡ b + k → all_of p b k ≡ true → p i ≡ true → all_of p b (k + 1) ≡ true
  all_more b k i q e f = parts_pass b k 1 i q e (only i ∙ f)

  pub all_fails : (b k i : ℕ) → b ≤ i → i < b + k → p i ≡ false → all_of p b k ≡ false
  all_fails b k i h l e = part_fails b k 1 i h (omega arith) (only i ∙ e)

  pub eights_more : (i : ℕ) → all_of p 0 (8 * i) ≡ true → all_of p (8 * i) 8 ≡ true → all_of p 0 (8 * (i + 1)) ≡ true
  eights_more i e f =
      let q : 8 * (i + 1) ≡ 8 * i + 8 = omega arith in
      rw q (parts_pass 0 (8 * i) 8 (8 * i) (omega arith) e f)

  pub eights_fail : (n i : ℕ) → i < n / 8 → all_of p (8 * i) 8 ≡ false → all_of p 0 n ≡ false
  eights_fail n i h e = part_fails 0 n 8 (8 * i) (omega arith) (omega arith) e
