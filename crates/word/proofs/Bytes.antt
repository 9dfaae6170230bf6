-- What the library reads from bytes and writes to them, in the words of Word.antt and Write.antt: a number from its
-- bytes in a row, a part that is lent and written to, and the zero test.
-- Assumes nothing.
use Prim.Native.Nat.{ℕ, zero, suc, ◌+◌, ◌*◌, ◌/◌, ◌≤◌, ◌<◌}
use mathlib.Core.Path.{◌≡◌, refl, sym, ap, ◌∙◌}
use mathlib.Core.Bool.{Bool, ◌&&◌, and_assoc, and-true}
use mathlib.Core.List.{List, [], ◌∷◌, ◌++◌, append_assoc}
use native.Mathlib.Numerals.{add-one}
use native.Mathlib.Nat.{mod-eq_of_lt}
use native.Mathlib.Omega.{arith}
use borrow.Author.Tests.{ne_eqb}
use borrow.Rule.Slice.PartMut.{put_mid}
use lib.Bits.{bit_or, or_add_and, and_le_r}
use lib.Dec.{eqb}
use lib.ListN.{length, take, drop, get_or, set, length-take, length-drop, take-append-drop}
use lib.Seq.{drop-cons, drop-drop, sets-eq}
use Rattle.std.specs.Int.{w32, w64, from_le_bytes, to_le_bytes}
use Rattle.std.specs.List.{fold}
use Rattle.std.specs.Simd.{first_chunks}
use Rattle.std.proofs.lemmas.Nat.{le_bytes_4, le_bytes_8}
use Rattle.word.specs.Word.{part, le, word_at, bytes_of, all_zero, Spelled}
use Rattle.word.specs.Write.{over}
use Rattle.word.proofs.Laws.{length-bytes_of, bytes-bytes_of, le-bytes_of, part_split}

-- ---- a part, from its first byte on

pub part_turn : (l : List ℕ) (at k : ℕ) → at < length l → part l at (suc k) ≡ get_or l at 0 ∷ part l (at + 1) k
unfolding part
part_turn l at k h = rw (drop-cons l at 0 h, add-one)

pub word_one : (l : List ℕ) (at : ℕ) → at < length l → word_at 1 l at ≡ get_or l at 0
unfolding le part
word_one l at h = rw (drop-cons l at 0 h) (omega arith)

-- a number, from its byte i on
word_turn : (l : List ℕ) (at i k : ℕ) → at + i < length l
    → word_at (suc k) l (at + i) ≡ get_or l (at + i) 0 + 256 * word_at k l (at + (i + 1))
unfolding le
word_turn l at i k h =
    let e : at + (i + 1) ≡ at + i + 1 = omega arith in
    rw (e, part_turn l (at + i) k h)

pub word_first : (l : List ℕ) (at k : ℕ) → at < length l
    → word_at (suc k) l at ≡ get_or l at 0 + 256 * word_at k l (at + 1)
unfolding le
word_first l at k h = rw (part_turn l at k h)

-- ---- numbers, as the library spells them

pub le_four : (bs : List ℕ) → length bs ≡ 4 → from_le_bytes w32 bs ≡ le bs
unfolding le
le_four (a ∷ b ∷ c ∷ d ∷ []) h = omega arith
le_four _ h = absurd (omega arith)

pub le_eight : (bs : List ℕ) → length bs ≡ 8 → from_le_bytes w64 bs ≡ le bs
unfolding le
le_eight (a ∷ b ∷ c ∷ d ∷ e ∷ f ∷ g ∷ i ∷ []) h = omega arith
le_eight _ h = absurd (omega arith)

-- the bytes at a place, in a row
pub read_four : (l : List ℕ) (at : ℕ) → at + 4 ≤ length l
    → from_le_bytes w32 (get_or l at 0 ∷ get_or l (at + 1) 0 ∷ get_or l (at + 2) 0 ∷ get_or l (at + 3) 0 ∷ [])
    ≡ word_at 4 l at
read_four l at h =
    omega (
      arith,
      word_first l at 3 (omega arith),
      word_turn l at 1 2 (omega arith),
      word_turn l at 2 1 (omega arith),
      word_one l (at + 3) (omega arith),
    )

pub read_eight : (l : List ℕ) (at : ℕ) → at + 8 ≤ length l
    → from_le_bytes w64
    (get_or l at 0 ∷ get_or l (at + 1) 0 ∷ get_or l (at + 2) 0 ∷ get_or l (at + 3) 0
    ∷ get_or l (at + 4) 0 ∷ get_or l (at + 5) 0 ∷ get_or l (at + 6) 0 ∷ get_or l (at + 7) 0 ∷ [])
    ≡ word_at 8 l at
read_eight l at h =
    omega (
      arith,
      word_first l at 7 (omega arith),
      word_turn l at 1 6 (omega arith),
      word_turn l at 2 5 (omega arith),
      word_turn l at 3 4 (omega arith),
      word_turn l at 4 3 (omega arith),
      word_turn l at 5 2 (omega arith),
      word_turn l at 6 1 (omega arith),
      word_one l (at + 7) (omega arith),
    )

pub bytes_four : (v : ℕ) → Spelled 4 v → to_le_bytes w32 v ≡ bytes_of 4 v
bytes_four v h = le_bytes_4 (bytes_of 4 v) v (length-bytes_of 4 v) (bytes-bytes_of 4 v)
    (sym (le_four (bytes_of 4 v) (length-bytes_of 4 v) ∙ le-bytes_of 4 v h))

pub bytes_eight : (v : ℕ) → Spelled 8 v → to_le_bytes w64 v ≡ bytes_of 8 v
bytes_eight v h = le_bytes_8 (bytes_of 8 v) v (length-bytes_of 8 v) (bytes-bytes_of 8 v)
    (sym (le_eight (bytes_of 8 v) (length-bytes_of 8 v) ∙ le-bytes_of 8 v h))

-- ---- a part that is lent, and written to

pub lent_over : (l : List ℕ) (at k : ℕ) (vs : List ℕ) → k ≡ length vs → put_mid at k l vs ≡ over l at vs
unfolding over
lent_over l at k vs e = rw (e, append_assoc, drop-drop)

-- one byte
pub set_over : (l : List ℕ) (at v : ℕ) → at + 1 ≤ length l → v < 256 → set l at v ≡ over l at (bytes_of 1 v)
unfolding over bytes_of
set_over l at v h f = rw (mod-eq_of_lt f) (sets-eq (v ∷ []) l at h)

-- ---- the zero test: the bits of all together are 0 where each number is

or_zero : (a b : ℕ) → eqb (bit_or a b) 0 ≡ (eqb a 0 && eqb b 0)
or_zero zero b = refl
or_zero (suc a) b =
    rw (
      ne_eqb (bit_or (suc a) b) 0 (λ e. omega (arith, or_add_and (suc a) b, and_le_r (suc a) b)),
      ne_eqb (suc a) 0
          (λ e. omega arith),
    )

sum_zero : (b x : ℕ) → eqb (b + 256 * x) 0 ≡ (eqb b 0 && eqb x 0)
sum_zero zero zero = refl
sum_zero zero (suc x) = rw (ne_eqb (0 + 256 * suc x) 0 (λ e. omega arith), ne_eqb (suc x) 0 (λ e. omega arith))
sum_zero (suc b) x = rw (ne_eqb (suc b + 256 * x) 0 (λ e. omega arith), ne_eqb (suc b) 0 (λ e. omega arith))

pub zero-le : (bs : List ℕ) → eqb (le bs) 0 ≡ all_zero bs
unfolding le all_zero
zero-le [] = refl
zero-le (b ∷ bs) = sum_zero b (le bs) ∙ ap (λ (z : Bool). eqb b 0 && z) (zero-le bs)

pub all_zero_append : (xs ys : List ℕ) → all_zero (xs ++ ys) ≡ (all_zero xs && all_zero ys)
unfolding all_zero
all_zero_append [] ys = refl
all_zero_append (x ∷ xs) ys = ap (λ (z : Bool). eqb x 0 && z) (all_zero_append xs ys)
    ∙ sym (and_assoc (eqb x 0) (all_zero xs) (all_zero ys))

bits_of_words : (n any : ℕ) (l : List ℕ) → 8 * n ≤ length l
    → eqb (fold (λ any w. bit_or any (from_le_bytes w64 w)) any (first_chunks 8 n l)) 0
    ≡ (eqb any 0 && all_zero (part l 0 (8 * n)))
unfolding all_zero part
bits_of_words zero any l h = sym (and-true (eqb any 0))
bits_of_words (suc n) any l h =
    let e : 8 * suc n ≡ 8 + 8 * n = omega arith in
    let w : eqb (from_le_bytes w64 (take 8 l)) 0 ≡ all_zero (take 8 l) =
    ap (λ x. eqb x 0) (le_eight (take 8 l) (simp length-take (omega arith))) ∙ zero-le (take 8 l) in
    bits_of_words n (bit_or any (from_le_bytes w64 (take 8 l))) (drop 8 l) (rw length-drop (omega arith))
    ∙ rw (or_zero, w, e, part_split l 0 8 (8 * n) (omega arith), all_zero_append)
    (and_assoc (eqb any 0) (all_zero (take 8 l)) (all_zero (take (8 * n) (drop 8 l))))

bits_of_bytes : (bits : ℕ) (bs : List ℕ) → eqb (fold bit_or bits bs) 0 ≡ (eqb bits 0 && all_zero bs)
unfolding all_zero
bits_of_bytes bits [] = sym (and-true (eqb bits 0))
bits_of_bytes bits (b ∷ bs) = bits_of_bytes (bit_or bits b) bs
    ∙ rw or_zero (and_assoc (eqb bits 0) (eqb b 0) (all_zero bs))

-- whole words, and the bytes that are left
pub bits_of : (l : List ℕ)
    → eqb (fold bit_or (fold (λ any w. bit_or any (from_le_bytes w64 w)) 0 (first_chunks 8 (length l / 8) l))
    (drop (length l / 8 * 8) l)) 0
    ≡ all_zero l
unfolding part
bits_of l =
    let n = length l / 8 in
    let e : n * 8 ≡ 8 * n = omega arith in
    bits_of_bytes (fold (λ any w. bit_or any (from_le_bytes w64 w)) 0 (first_chunks 8 n l)) (drop (n * 8) l)
    ∙ rw (bits_of_words n 0 l (omega arith), e, ← all_zero_append)
    (ap all_zero (take-append-drop (8 * n) l))
