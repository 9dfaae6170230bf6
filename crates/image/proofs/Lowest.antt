-- The lowest free block, k bytes of the map at a time: where all are 0 they are passed, and the first that are not have
-- it at their lowest bit.
-- Assumes nothing.
use Rattle.std.proofs.Common.{◌≡◌, ℕ, zero, suc, ◌+◌, ◌-◌, ◌*◌, ◌/◌, ◌%◌, ◌^◌, ◌<◌, ◌≤◌, cond, eqb, List, length, sym}
use Rattle.std.proofs.Common.{refl, ap, ◌∙◌, add-zero, ltb, arith, shr-shr}
use native.Mathlib.Nat.{sub-zero}
use Rattle.std.specs.Prelude.{Some, None}
use borrow.Author.Tests.{lt-ltb, le-ltb, ltb-true, ltb-false}
use lib.Count.{under, count_trailing_zeros}
use Rattle.word.specs.Word.{word_at, Bytes}
use Rattle.word.proofs.WordBits.{word_bit}
use Rattle.run.specs.Run.{first}
use Rattle.run.proofs.Laws.{first_within, first_beyond, first-moved}
use Rattle.run.proofs.Turns.{first_end}
use Rattle.promise.specs.Layout.{map_at}
use Rattle.promise.specs.Map.{free}
use Rattle.plain.specs.Tests.{was_first, was_second, apart}
use Rattle.kinds.specs.Kinds.{block_num}
use Rattle.kinds.specs.declared.BlockNum.{BlockNum}
use Rattle.image.specs.Image.{bit_of, lowest_from}

-- ---- the lowest bit is the count of the zeros below it

bits_first : (m b k : ℕ) → first (bit_of m) b k ≡ b + count_trailing_zeros k (m / 2 ^ b)
unfolding first bit_of count_trailing_zeros
bits_first m b zero = omega arith
bits_first m b (suc k) = go (m / 2 ^ b % 2) (omega arith) (bits_first m (b + 1) k
    ∙ ap (λ (x : ℕ). b + 1 + count_trailing_zeros k x) (sym (shr-shr m b 1)))
  where
    go : (d : ℕ) → d < 2 → first (bit_of m) (b + 1) k ≡ b + 1 + count_trailing_zeros k (m / 2 ^ b / 2)
        → cond (eqb d 1) b (first (bit_of m) (b + 1) k) ≡ b + under d (count_trailing_zeros k (m / 2 ^ b / 2))
    go zero h e = e ∙ omega arith
    go (suc zero) h e = omega arith
    go (suc (suc d)) h e = absurd (omega arith)

pub lowest-first : (k m : ℕ) → count_trailing_zeros k m ≡ first (bit_of m) 0 k
lowest-first k m = let e : m / 2 ^ 0 ≡ m = omega arith in sym (rw e at (bits_first m 0 k) ∙ omega arith)

-- a number that is not 0 has a bit that is 1
trailing_lt : (k m : ℕ) → 0 < m → m < 2 ^ k → count_trailing_zeros k m < k
unfolding count_trailing_zeros
trailing_lt zero m h l = absurd (omega arith)
trailing_lt (suc k) m h l = go (m % 2) refl (trailing_lt k (m / 2))
  where
    go : (d : ℕ) → m % 2 ≡ d → (0 < m / 2 → m / 2 < 2 ^ k → count_trailing_zeros k (m / 2) < k)
        → under d (count_trailing_zeros k (m / 2)) < suc k
    go zero e r = omega (arith, r (omega arith) (omega arith))
    go (suc d) e r = omega arith

none : (k : ℕ) → count_trailing_zeros k 0 ≡ k
unfolding count_trailing_zeros
none zero = refl
none (suc k) = ap suc (none k)

-- ---- the k blocks from block i on, whose bits of the map are those of a number

-- bit j of one byte, and of eight
pub one_bits : (n : ℕ) (img : List ℕ) (i m : ℕ) → m ≡ word_at 1 img (map_at n + i) → (j : ℕ) → j < 8
    → free n img (8 * i + j) ≡ bit_of m j
unfolding free bit_of
one_bits n img i m e j l =
    let d : (8 * i + j) / 8 ≡ i = omega arith in
    let r : (8 * i + j) % 8 ≡ j = omega arith in
    rw (d, r, e)

pub eight_bits : (n : ℕ) (img : List ℕ) (i m : ℕ) → Bytes img → map_at n + 8 * i + 8 ≤ length img
    → m ≡ word_at 8 img (map_at n + 8 * i)
    → (j : ℕ) → j < 64 → free n img (64 * i + j) ≡ bit_of m j
unfolding free bit_of
eight_bits n img i m b h e j l =
    let d : map_at n + (64 * i + j) / 8 ≡ map_at n + 8 * i + j / 8 = omega arith in
    let r : (64 * i + j) % 8 ≡ j % 8 = omega arith in
    rw (d, r, e, word_bit 8 img (map_at n + 8 * i) j b h l)

module _ (n : ℕ) (img : List ℕ) (i k m : ℕ) (bits : (j : ℕ) → j < k → free n img (i + j) ≡ bit_of m j) (h : i + k
    ≤ n) where
  its_first : first (free n img) i k ≡ i + count_trailing_zeros k m
  its_first =
      rw add-zero at (first-moved (free n img) (bit_of m) i 0 k (λ x l u. bits x (omega arith)))
      ∙ ap (λ (x : ℕ). i + x) (sym (lowest-first k m))

  -- the blocks from there on are those of the k bits and those after them
  rest : n - i ≡ k + (n - (i + k))
  rest = omega arith

  pub lowest_turn : m ≡ 0 → first (free n img) (i + k) (n - (i + k)) ≡ first (free n img) i (n - i)
  lowest_turn q =
      rw (rest, first_beyond (free n img) i k (n - (i + k)) (its_first ∙ rw (q, none k)))

  pub lowest_below : 0 < m → m < 2 ^ k → i + count_trailing_zeros k m < n
  lowest_below l u = omega (arith, trailing_lt k m l u)

  pub lowest_here : 0 < m → m < 2 ^ k → i + count_trailing_zeros k m ≡ first (free n img) i (n - i)
  lowest_here l u =
      rw (rest, first_within (free n img) i k (n - (i + k)) (omega (arith, its_first, trailing_lt k m l u)))
      (sym its_first)

-- what is found, and where no block is left
pub some_free : (n : ℕ) (img : List ℕ) (b x : ℕ) → x ≡ first (free n img) b (n - b) → x < n
    → Some (block_num x) ≡ lowest_from n img b
unfolding lowest_from
some_free n img b x e h = sym (rw (← e, lt-ltb x n h))

pub none_free : (n : ℕ) (img : List ℕ) (b : ℕ) → first (free n img) n (n - n) ≡ first (free n img) b (n - b)
    → None ≡ lowest_from n img b
unfolding lowest_from
none_free n img b e =
    let z : n ≡ first (free n img) b (n - b) = omega (arith, first_end (free n img) n (n - n) (omega arith), e) in
    sym (rw (← z, le-ltb n n (omega arith)))

pub same_lowest : (n : ℕ) (img : List ℕ) (a b : ℕ) → first (free n img) a (n - a) ≡ first (free n img) b (n - b)
    → lowest_from n img a ≡ lowest_from n img b
unfolding lowest_from
same_lowest n img a b e = rw e

-- what the answer tells
pub told_none : (n : ℕ) (img : List ℕ) → lowest_from n img 0 ≡ None → n ≤ first (free n img) 0 n
unfolding lowest_from
told_none n img f =
    let w = was_second (ltb (first (free n img) 0 (n - 0)) n) (λ z. apart cc) f in
    rw sub-zero at (ltb-false (first (free n img) 0 (n - 0)) n w.0)

pub told_some : (n : ℕ) (img : List ℕ) (b : BlockNum) → lowest_from n img 0 ≡ Some b
    → (first (free n img) 0 n ≡ b.0) × (b.0 < n)
unfolding lowest_from
told_some n img b f =
    let w = was_first (ltb (first (free n img) 0 (n - 0)) n) (λ z. apart cc) f in
    let t : block_num (first (free n img) 0 (n - 0)) ≡ b = cc w.1 in
    let q = ap (λ (x : BlockNum). x.0) t in
    (rw sub-zero at q, rw q at (ltb-true (first (free n img) 0 (n - 0)) n w.0))
