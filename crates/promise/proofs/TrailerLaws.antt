-- The trailer's rule and its bytes say the same: an image with a right trailer ends in `trailer_bytes` of its N and its
-- clock, and an image of the right length that ends in such bytes has a right trailer.
-- Assumes nothing.
use Prim.Native.Nat.{ℕ, ◌+◌, ◌-◌, ◌%◌, ◌^◌, ◌≤◌, ◌<◌}
use mathlib.Core.Path.{◌≡◌, refl, sym, ap, ap₂, ◌∙◌}
use mathlib.Core.Bool.{true, ◌&&◌}
use mathlib.Core.List.{List, ◌++◌}
use native.Mathlib.Omega.{arith}
use borrow.Author.Tests.{eqb-true, leb-true, ltb-true, eq-eqb, le-leb, lt-ltb}
use lib.Dec.{eqb, leb}
use lib.ListN.{length}
use Rattle.plain.specs.Tests.{both, nth, also, done}
use Rattle.word.specs.Word.{part, le, word_at, bytes_of, blank, all_zero, Bytes}
use Rattle.word.proofs.Laws.{length_part, part_whole, part_split, bytes-part, word_bytes, le-bytes_of, zero-blank}
use Rattle.word.proofs.Laws.{all_zero-blank, bytes_append, bytes-bytes_of, bytes-blank}
use Rattle.promise.specs.Layout.{number_right, trailer_at, size_of}
use Rattle.promise.specs.Trailer.{trailer_of, n_of, clock_of, back_to_headers, back_to_map, back_to_counts}
use Rattle.promise.specs.Trailer.{back_to_data}
use Rattle.promise.specs.Trailer.{mark, right_trailer, trailer_right, trailer_bytes}

-- ---- N

pub record Number (n : ℕ) : Type 0 where
  pub eights : n % 8 ≡ 0
  pub least : 8 ≤ n
  pub most : n ≤ 4096

pub number : (n : ℕ) → number_right n ≡ true → Number n
unfolding number_right
number n h =
    let w = both (eqb (n % 8) 0 && leb 8 n) (leb n 4096) h in
    let v = both (eqb (n % 8) 0) (leb 8 n) w.0 in
    record { eights = eqb-true (n % 8) 0 v.0; least = leb-true 8 n v.1; most = leb-true n 4096 w.1 }

pub is_number : (n : ℕ) → Number n → number_right n ≡ true
unfolding number_right
is_number n r = rw (eq-eqb (n % 8) 0 r.eights, le-leb 8 n r.least, le-leb n 4096 r.most)

-- ---- what a right trailer says

pub record Right (img : List ℕ) : Type 0 where
  pub number : Number (n_of img)
  pub size : length img ≡ size_of (n_of img)
  pub clock : clock_of img < 2 ^ 40

pub right : (img : List ℕ) → trailer_right img ≡ true → Right img
unfolding trailer_right right_trailer n_of clock_of
right img h =
    record {
      number = number (n_of img) (nth _ 0 h);
      size = eqb-true (length img) (size_of (n_of img)) (nth _ 1 h);
      clock = ltb-true (clock_of img) (2 ^ 40) (nth _ 7 h);
    }

-- it stands where the layout has it
pub trailer_at_lem : (img : List ℕ) (n : ℕ) → length img ≡ size_of n → trailer_of img ≡ part img (trailer_at n) 512
trailer_at_lem img n e = ap (λ (x : ℕ). part img x 512) (omega arith)

-- ---- from the rule to the bytes

mark-bytes : bytes_of 4 (le mark) ≡ mark
unfolding bytes_of le
mark-bytes = refl

module _ (t : List ℕ) (n : ℕ) (b : Bytes t) (e : length t ≡ 512) (h : right_trailer (size_of n) t ≡ true) where
  -- a number that a test of the rule fixes, as bytes
  spelled : (at k v : ℕ) → at + k ≤ 512 → word_at k t at ≡ v → part t at k ≡ bytes_of k v
  spelled at k v f p = sym (word_bytes k t at b (omega arith)) ∙ ap (bytes_of k) p

  zeros : (at k : ℕ) → at + k ≤ 512 → all_zero (part t at k) ≡ true → part t at k ≡ blank k
  zeros at k f p = zero-blank (part t at k) p ∙ ap blank (length_part t at k (omega arith))

  -- the first k bytes and the next m
  joined : (k m : ℕ) (xs ys : List ℕ) → k + m ≤ 512 → part t 0 k ≡ xs → part t k m ≡ ys → part t 0 (k + m) ≡ xs ++ ys
  joined k m xs ys f p q = part_split t 0 k m (omega arith) ∙ ap₂ ◌++◌ p (ap (λ (x : ℕ). part t x m) (omega arith) ∙ q)

  rule_bytes : word_at 4 t 0 ≡ n → t ≡ trailer_bytes n (word_at 8 t 24)
  unfolding right_trailer trailer_bytes
  rule_bytes z =
      sym (part_whole t 512 e)
      ∙ joined 508 4 _ _ (omega arith)
      (joined 32 476 _ _ (omega arith)
      (joined 24 8 _ _ (omega arith)
      (joined 20 4 _ _ (omega arith)
      (joined 16 4 _ _ (omega arith)
      (joined 12 4 _ _ (omega arith)
      (joined 8 4 _ _ (omega arith)
      (joined 4 4 _ _ (omega arith)
      (spelled 0 4 n (omega arith) z)
      (spelled 4 4 (back_to_headers n) (omega arith) (eqb-true _ _ (nth _ 2 h) ∙ ap back_to_headers z)))
      (spelled 8 4 (back_to_map n) (omega arith) (eqb-true _ _ (nth _ 3 h) ∙ ap back_to_map z)))
      (spelled 12 4 (back_to_counts n) (omega arith) (eqb-true _ _ (nth _ 4 h) ∙ ap back_to_counts z)))
      (spelled 16 4 (back_to_data n) (omega arith) (eqb-true _ _ (nth _ 5 h) ∙ ap back_to_data z)))
      (zeros 20 4 (omega arith) (nth _ 6 h)))
      (spelled 24 8 (word_at 8 t 24) (omega arith) refl))
      (zeros 32 476 (omega arith) (nth _ 8 h)))
      (spelled 508 4 (le mark) (omega arith) (eqb-true _ _ (nth _ 9 h)) ∙ mark-bytes)

-- THE RULE IS THE BYTES: an image with a right trailer ends in these
pub rule_is_bytes : (img : List ℕ) → Bytes img → trailer_right img ≡ true
    → part img (trailer_at (n_of img)) 512 ≡ trailer_bytes (n_of img) (clock_of img)
unfolding trailer_right n_of clock_of
rule_is_bytes img b h =
    let r = right img h in
    let n : ℕ = n_of img in
    let t : List ℕ = trailer_of img in
    let k : right_trailer (size_of n) t ≡ true = ap (λ (x : ℕ). right_trailer x t) (sym r.size) ∙ h in
    sym (trailer_at_lem img n r.size)
    ∙ rule_bytes t n (bytes-part img (length img - 512) 512 b)
    (length_part img (length img - 512) 512 (omega arith)) k refl

-- ---- from the bytes to the rule

pub length-trailer_bytes : (n clock : ℕ) → length (trailer_bytes n clock) ≡ 512
unfolding trailer_bytes bytes_of blank
length-trailer_bytes n clock = refl

pub bytes-trailer_bytes : (n clock : ℕ) → Bytes (trailer_bytes n clock)
unfolding trailer_bytes
bytes-trailer_bytes n clock =
    let m : Bytes mark = rw mark-bytes at (bytes-bytes_of 4 (le mark)) in
    search (bytes_append, bytes-bytes_of, bytes-blank, m) depth 9 fits 20000

module _ (n clock : ℕ) (r : Number n) (c : clock < 2 ^ 40) where
  -- each field of the bytes
  field : (at k v : ℕ) → v < 256 ^ k → part (trailer_bytes n clock) at k ≡ bytes_of k v
      → word_at k (trailer_bytes n clock) at ≡ v
  field at k v f p = ap le p ∙ le-bytes_of k v f

  zeroed : (at k : ℕ) → part (trailer_bytes n clock) at k ≡ blank k
      → all_zero (part (trailer_bytes n clock) at k) ≡ true
  zeroed at k p = ap all_zero p ∙ all_zero-blank k

  at_number : word_at 4 (trailer_bytes n clock) 0 ≡ n
  unfolding part trailer_bytes bytes_of blank
  at_number = field 0 4 n (omega arith) refl

  at_headers : word_at 4 (trailer_bytes n clock) 4 ≡ back_to_headers n
  unfolding part trailer_bytes bytes_of blank
  at_headers = field 4 4 (back_to_headers n) (omega arith) refl

  at_map : word_at 4 (trailer_bytes n clock) 8 ≡ back_to_map n
  unfolding part trailer_bytes bytes_of blank
  at_map = field 8 4 (back_to_map n) (omega arith) refl

  at_counts : word_at 4 (trailer_bytes n clock) 12 ≡ back_to_counts n
  unfolding part trailer_bytes bytes_of blank
  at_counts = field 12 4 (back_to_counts n) (omega arith) refl

  at_data : word_at 4 (trailer_bytes n clock) 16 ≡ back_to_data n
  unfolding part trailer_bytes bytes_of blank
  at_data = field 16 4 (back_to_data n) (omega arith) refl

  at-clock : word_at 8 (trailer_bytes n clock) 24 ≡ clock
  unfolding part trailer_bytes bytes_of blank
  at-clock = field 24 8 clock (omega arith) refl

  at_mark : word_at 4 (trailer_bytes n clock) 508 ≡ le mark
  unfolding part trailer_bytes bytes_of blank le
  at_mark = refl

  zero_20 : all_zero (part (trailer_bytes n clock) 20 4) ≡ true
  unfolding part trailer_bytes bytes_of blank
  zero_20 = zeroed 20 4 refl

  zero_32 : all_zero (part (trailer_bytes n clock) 32 476) ≡ true
  unfolding part trailer_bytes bytes_of blank
  zero_32 = zeroed 32 476 refl

  bytes_rule : right_trailer (size_of n) (trailer_bytes n clock) ≡ true
  unfolding right_trailer
  bytes_rule =
      rw at_number
      (also _ _ (is_number n r)
      (also _ _ (eq-eqb (size_of n) (size_of n) refl)
      (also _ _ (eq-eqb _ _ at_headers)
      (also _ _ (eq-eqb _ _ at_map)
      (also _ _ (eq-eqb _ _ at_counts)
      (also _ _ (eq-eqb _ _ at_data)
      (also _ _ zero_20
      (also _ _ (lt-ltb (word_at 8 (trailer_bytes n clock) 24) (2 ^ 40) (rw at-clock c))
      (also _ _ zero_32
      (also _ _ (eq-eqb _ _ at_mark) done))))))))))

-- THE BYTES ARE THE RULE: an image of the right length that ends in these has a right trailer, with this N and this
-- clock
pub record Ends (img : List ℕ) (n clock : ℕ) : Type 0 where
  pub right : trailer_right img ≡ true
  pub number_is : n_of img ≡ n
  pub clock_is : clock_of img ≡ clock

pub bytes_are_rule : (img : List ℕ) (n clock : ℕ) → Number n → clock < 2 ^ 40 → length img ≡ size_of n
    → part img (trailer_at n) 512 ≡ trailer_bytes n clock → Ends img n clock
unfolding trailer_right n_of clock_of
bytes_are_rule img n clock r c e h =
    let t : trailer_of img ≡ trailer_bytes n clock = trailer_at_lem img n e ∙ h in
    record {
      right = ap₂ right_trailer e t ∙ bytes_rule n clock r c;
      number_is = ap (λ l. word_at 4 l 0) t ∙ at_number n clock r c;
      clock_is = ap (λ l. word_at 8 l 24) t ∙ at-clock n clock r c;
    }
