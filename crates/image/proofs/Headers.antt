-- A header's rule in the parts that the code tests, and a header and a service block as the code writes them, piece by
-- piece.
-- Assumes nothing.
use Rattle.std.proofs.Common.{◌≡◌, ℕ, zero, suc, ◌+◌, ◌-◌, ◌*◌, ◌/◌, ◌%◌, ◌^◌, ◌<◌, ◌≤◌, Bool, true, false, ◌&&◌, eqb}
use Rattle.std.proofs.Common.{leb, ◌⊎◌, List, [], ◌∷◌, ◌++◌, length, take, drop, sym, refl, ap, ◌∙◌, inl, inr}
use Rattle.std.proofs.Common.{append-nil, arith, length-append, drop_of_length-le, eq-eqb, ne_eqb, eqb-true, le-leb}
use Rattle.std.proofs.Common.{leb-true}
use mathlib.Core.Bool.{and-true, and-false, or-false}
use native.Mathlib.Decide.{ℕ_discrete}
use borrow.Author.Tests.{lt-leb}
use Rattle.plain.specs.Numbers.{lt_or_le}
use Rattle.plain.specs.Tests.{all, both, nth, all_append}
use Rattle.word.specs.Word.{part, word_at, bytes_of, blank, all_zero, Bytes}
use Rattle.word.specs.Write.{over}
use Rattle.word.proofs.Laws.{length-bytes_of, length-blank, length_part, part-part, over_append}
use Rattle.word.proofs.Lent.{lent-part}
use Rattle.word.proofs.Bytes.{word_first, word_one, zero-le}
use Rattle.ident.specs.Ident.{id_of}
use Rattle.promise.specs.Layout.{data_at}
use Rattle.promise.specs.Header.{header_of, is_used, owner_of, id_in, created_of, used_right, good_header, header_bytes}
use Rattle.promise.specs.Trailer.{clock_of}
use Rattle.promise.specs.Map.{free, good}
use Rattle.promise.specs.Counts.{data_of, service_block}
use Rattle.image.proofs.Pieces.{next}
use Rattle.image.specs.Image.{Known, shape_tests, time_tests}

-- ---- the rule of a used header in parts

pub parts : (clock b : ℕ) (h : List ℕ)
    → used_right clock b h ≡ (all (shape_tests h) && (all (time_tests clock h)
    && eqb (id_in h) (id_of (created_of h) b)))
unfolding all used_right
parts clock b h =
    all_append (shape_tests h) (time_tests clock h ++ (eqb (id_in h) (id_of (created_of h) b) ∷ []))
    ∙ ap (λ r. all (shape_tests h) && r)
    (all_append (time_tests clock h) (eqb (id_in h) (id_of (created_of h) b) ∷ [])
    ∙ ap (λ r. all (time_tests clock h) && r) (and-true (eqb (id_in h) (id_of (created_of h) b))))

-- ---- the first 8 bytes as one number: used, and above it the owner where the six zero bytes are zero

above : (b y : ℕ) → leb (b + 256 * y) 63 ≡ (eqb y 0 && leb b 63)
above b zero = let e : b + 256 * 0 ≡ b = omega arith in rw e
above b (suc y) = rw (ne_eqb (suc y) 0 (λ e. omega arith)) (lt-leb (b + 256 * suc y) 63 (omega arith))

-- less 1, and without the owner's six bits, it is 0
masked : (x y : ℕ) → y < 2 ^ 64 → (y + 1) % 2 ^ 64 ≡ x
    → eqb (y - 256 * (y / 256 % 64)) 0 ≡ (eqb (x % 256) 1 && leb (x / 256) 63)
masked x y h e = go (ℕ_discrete (x % 256) 1) (lt_or_le (x / 256) 64)
  where
    go : Dec (x % 256 ≡ 1) → (x / 256 < 64) ⊎ (64 ≤ x / 256)
        → eqb (y - 256 * (y / 256 % 64)) 0 ≡ (eqb (x % 256) 1 && leb (x / 256) 63)
    go (yes q) (inl l) = rw (eq-eqb (x % 256) 1 q, le-leb (x / 256) 63 (omega arith))
        (eq-eqb (y - 256 * (y / 256 % 64)) 0 (omega arith))
    go (yes q) (inr l) = rw (eq-eqb (x % 256) 1 q, lt-leb (x / 256) 63 (omega arith))
        (ne_eqb (y - 256 * (y / 256 % 64)) 0 (λ z. omega arith))
    go (no d) o = rw (ne_eqb (x % 256) 1 d) (ne_eqb (y - 256 * (y / 256 % 64)) 0 (λ z. d (omega arith)))

turned : (s z o t : Bool) → ((s && (z && o)) && t) ≡ (s && (z && (t && (o && true))))
turned false z o t = refl
turned true false o t = refl
turned true true true true = refl
turned true true true false = refl
turned true true false true = refl
turned true true false false = refl

pub shape_word : (h : List ℕ) (x y : ℕ) → Bytes h → length h ≡ 64 → x ≡ word_at 8 h 0 → y < 2 ^ 64
    → (y + 1) % 2 ^ 64 ≡ x
    → (eqb (y - 256 * (y / 256 % 64)) 0 && all_zero (part h 48 16)) ≡ all (shape_tests h)
unfolding all
shape_word h x y b e q k p =
    let f = word_first h 0 7 (omega arith) in
    let g = word_first h 1 6 (omega arith) in
    let u = word_one h 0 (omega arith) in
    let v = word_one h 1 (omega arith) in
    let r : x % 256 ≡ word_at 1 h 0 = omega (arith, b 0) in
    let d : x / 256 ≡ word_at 1 h 1 + 256 * word_at 6 h 2 = omega (arith, b 0) in
    rw (masked x y k p, r, d, above, zero-le (part h 2 6))
    (turned (is_used h) (all_zero (part h 2 6)) (leb (owner_of h) 63) (all_zero (part h 48 16)))

-- the owner of a header of that shape
pub owner_word : (h : List ℕ) (x : ℕ) → Bytes h → length h ≡ 64 → x ≡ word_at 8 h 0 → all (shape_tests h) ≡ true
    → (x / 256 ≡ owner_of h) × (owner_of h < 64)
owner_word h x b e q s =
    let f = word_first h 0 7 (omega arith) in
    let g = word_first h 1 6 (omega arith) in
    let u = word_one h 0 (omega arith) in
    let v = word_one h 1 (omega arith) in
    let z = eqb-true (word_at 6 h 2) 0 (zero-le (part h 2 6) ∙ nth (shape_tests h) 1 s) in
    let o = leb-true (owner_of h) 63 (nth (shape_tests h) 3 s) in
    (omega (arith, b 0), omega arith)

pub created-by : (clock : ℕ) (h : List ℕ) → all (time_tests clock h) ≡ true → created_of h ≤ clock
created-by clock h e = leb-true (created_of h) clock (nth (time_tests clock h) 1 e)

pub ruleset used_parts = (parts, created-by)

module _ (clock b : ℕ) (h : List ℕ) where
  -- ---- good, by the map bit

  pub good-free : all_zero h ≡ good_header clock b true h
  unfolding good_header
  good-free = sym (rw (and-true, and-false, or-false))

  pub good-used : used_right clock b h ≡ good_header clock b false h
  unfolding good_header
  good-used = sym (rw (and-false, and-true))

pub ruleset good_cases = (good-free, good-used)

-- by the map bit
pub good_is_zero : (img : List ℕ) (n clock b : ℕ) → Known img n clock → free n img b ≡ true
    → all_zero (header_of img b) ≡ good img b
unfolding good
good_is_zero img n clock b k e = rw (k.its_n, e) (good-free (clock_of img) b (header_of img b))

pub good_is_used : (img : List ℕ) (n clock b : ℕ) → Known img n clock → free n img b ≡ false
    → used_right clock b (header_of img b) ≡ good img b
unfolding good
good_is_used img n clock b k e = rw (k.its_n, k.its_clock, e) (good-used clock b (header_of img b))

-- the shape of a header that is right for a used block
pub right_shape : (clock b : ℕ) (h : List ℕ) → used_right clock b h ≡ true → all (shape_tests h) ≡ true
right_shape clock b h e = (both (all (shape_tests h)) _ (sym (parts clock b h) ∙ e)).0

-- ---- a header, written piece by piece

pub header_written : (l : List ℕ) (at owner id created expires : ℕ) (tag : List ℕ) → at ≤ length l → length tag ≡ 16
    → over (over (over (over
    (over (over (over (over l at (bytes_of 1 1)) (at + 1) (bytes_of 1 owner)) (at + 2) (blank 6)) (at + 8)
    (bytes_of 8 id)) (at + 16) (bytes_of 8 created)) (at + 24) (bytes_of 8 expires)) (at + 32) tag) (at + 48)
    (blank 16)
    ≡ over l at (header_bytes owner id created expires tag)
unfolding header_bytes
header_written l at owner id created expires tag h e =
    let s1 = next l at h _ _ 1 (refl, length-bytes_of 1 1) (bytes_of 1 owner) 1 (length-bytes_of 1 owner) in
    let s2 = next l at h _ _ 2 s1 (blank 6) 6 (length-blank 6) in
    let s3 = next l at h _ _ 8 s2 (bytes_of 8 id) 8 (length-bytes_of 8 id) in
    let s4 = next l at h _ _ 16 s3 (bytes_of 8 created) 8 (length-bytes_of 8 created) in
    let s5 = next l at h _ _ 24 s4 (bytes_of 8 expires) 8 (length-bytes_of 8 expires) in
    let s6 = next l at h _ _ 32 s5 tag 16 e in
    (next l at h _ _ 48 s6 (blank 16) 16 (length-blank 16)).0

-- ---- service blocks

-- a buffer that two writes fill
pub filled : (l xs ys : List ℕ) (k : ℕ) → length xs ≡ k → length l ≡ k + length ys → over (over l 0 xs) k ys ≡ xs ++ ys
unfolding over
filled l xs ys k e h =
    let z : k ≡ 0 + length xs = omega arith in
    ap (λ (x : ℕ). over (over l 0 xs) x ys) z ∙ over_append l 0 xs ys (omega arith)
    ∙ rw (drop_of_length-le l {i = 0 + length (xs ++ ys)} (rw length-append (omega arith))) (append-nil (xs ++ ys))

-- the tag and the data block, lent from the image, fill a buffer of 528 bytes
pub block_given : (buffer img : List ℕ) (n b : ℕ) → length buffer ≡ 528 → data_at n b + 512 ≤ length img → b < n
    → over (over buffer 0 (take (64 * b + 32 + 16 - (64 * b + 32)) (drop (64 * b + 32) img))) 16
    (take (data_at n b + 512 - data_at n b) (drop (data_at n b) img))
    ≡ service_block n img b
unfolding header_of data_of
block_given buffer img n b e h l =
    let k = length_part img (64 * b + 32) 16 (omega arith) in
    let m = length_part img (data_at n b) 512 h in
    rw (
      lent-part img (64 * b + 32) (64 * b + 32 + 16) 16 refl,
      lent-part img (data_at n b) (data_at n b + 512) 512 refl,
    )
    (filled buffer (part img (64 * b + 32) 16) (part img (data_at n b) 512) 16 k (omega arith)
    ∙ ap (λ r. r ++ part img (data_at n b) 512) (sym (part-part img (64 * b) 64 32 16 (omega arith))))
