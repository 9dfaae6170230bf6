-- What a reader wants to know of runs of bytes, each over the width: lengths, bounds, that the two spellings of a
-- number undo one another, and what is read after a write, at the same place and at another.
-- Assumes nothing.
use Rattle.std.specs.Prelude.{ℕ, zero, suc, ◌+◌, ◌*◌, ◌-◌, ◌/◌, ◌%◌, ◌^◌, ◌≤◌, ◌<◌, min, ◌≡◌, refl, true, ◌⊎◌, eqb}
use Rattle.std.specs.Prelude.{take, replicate}
use Rattle.std.proofs.Common.{sym, ap₂, ◌∙◌, inl, inr, ⊎_elim, add-zero, pow-suc, div-lt_iff_lt-mul, le_of_eq, le_trans}
use Rattle.std.proofs.Common.{eqb-true, lit<, length-append, length-drop, take-append-drop, drop_of_length-le}
use Rattle.std.proofs.Common.{ext_get_or, take_at, drop-drop, take_all}
use Rattle.std.proofs.Math.Path.{ap}
use mathlib.Core.List.{List, [], ◌∷◌, ◌++◌, append_assoc, append-nil}
use Rattle.std.proofs.Math.Nat.{pow-zero, pow-le-pow_right}
use native.Mathlib.Omega.{arith}
use Rattle.std.proofs.Math.ListN.{length, drop, get_or, length-take, get_or-append, get_or-eq_default}
use Rattle.std.proofs.lemmas.List.{length-replicate, get_or-replicate}
use Rattle.std.proofs.Math.Seq.{get_or-take, get_or-drop, get_or-append-add, take-append_seam, drop-append-add, drop_at}
use Rattle.plain.specs.Numbers.{lt_or_le}
use Rattle.plain.specs.Tests.{both}
use Rattle.word.specs.Word.{part, le, word_at, bytes_of, Spelled, blank, all_zero, Bytes}
use Rattle.word.specs.Write.{over, Write, puts, Apart, Within, Spares, nth, Stays}

-- ---- lengths

pub length_part : (l : List ℕ) (at k : ℕ) → at + k ≤ length l → length (part l at k) ≡ k
unfolding part
length_part l at k h = simp (length-take, length-drop) (omega arith)

pub length-bytes_of : (k v : ℕ) → length (bytes_of k v) ≡ k
unfolding bytes_of
length-bytes_of zero v = refl
length-bytes_of (suc k) v = ap suc (length-bytes_of k _)

pub length-blank : (k : ℕ) → length (blank k) ≡ k
unfolding blank
length-blank k = length-replicate k 0

pub length_over : (l : List ℕ) (at : ℕ) (vs : List ℕ) → at + length vs ≤ length l → length (over l at vs) ≡ length l
unfolding over
length_over l at vs h = simp (length-append, length-take, length-drop) (omega arith)

-- what the places of writes are compared by: `simp sizes (omega arith)` shows Within, Spares and Stays
pub ruleset sizes = (length-bytes_of, length-blank, length-replicate)

-- ---- parts

pub get_or-part : (l : List ℕ) (at k i : ℕ) → i < k → get_or (part l at k) i 0 ≡ get_or l (at + i) 0
unfolding part
get_or-part l at k i h = rw (get_or-take, get_or-drop)

length-part_any : (l : List ℕ) (at k : ℕ) → length (part l at k) ≡ min k (length l - at)
unfolding part
length-part_any l at k = simp (length-take, length-drop)

-- two lists of one length that agree at the places of a part have one part there
pub part_agree : (l l' : List ℕ) (at k : ℕ) → length l ≡ length l'
    → ((x : ℕ) → at ≤ x → x < at + k → get_or l x 0 ≡ get_or l' x 0) → part l at k ≡ part l' at k
part_agree l l' at k e h =
    ext_get_or 0 (part l at k) (part l' at k) (simp length-part_any (omega arith))
    (λ i p. let b : i < k = omega (arith, length-part_any l at k) in
    rw (get_or-part l at k i b, get_or-part l' at k i b) (h (at + i) (omega arith) (omega arith)))

-- a part of a part
pub part-part : (l : List ℕ) (at k i n : ℕ) → i + n ≤ k → part (part l at k) i n ≡ part l (at + i) n
part-part l at k i n h =
    ext_get_or 0 (part (part l at k) i n) (part l (at + i) n) (simp length-part_any (omega arith))
    (λ j p. let b : j < n = omega (arith, length-part_any (part l at k) i n) in
    rw (get_or-part (part l at k) i n j b, get_or-part l at k (i + j) (omega arith), get_or-part l (at + i) n j b)
    (ap (λ (x : ℕ). get_or l x 0) (omega arith)))

-- the whole as a part, and a part in two
pub part_whole : (l : List ℕ) (k : ℕ) → length l ≡ k → part l 0 k ≡ l
unfolding part
part_whole l k e = take_all k l (le_of_eq e)

pub part_split : (l : List ℕ) (at k m : ℕ) → at + (k + m) ≤ length l
    → part l at (k + m) ≡ part l at k ++ part l (at + k) m
part_split l at k m h =
    let e = length_part l at k (omega arith) in
    ext_get_or 0 (part l at (k + m)) (part l at k ++ part l (at + k) m)
    (rw (length_part l at (k + m) h, length-append, e, length_part l (at + k) m (omega arith)))
    (λ i p. let b : i < k + m = omega (arith, length_part l at (k + m) h) in
    get_or-part l at (k + m) i b
    ∙ ⊎_elim
    (λ (q : i < k). sym (get_or-append (part l at k) (part l (at + k) m) 0 i (omega arith) ∙ get_or-part l at k i q))
    (λ (q : k ≤ i).
    let f : length (part l at k) + (i - k) ≡ i = omega arith in
    sym
    (ap (λ (x : ℕ). get_or (part l at k ++ part l (at + k) m) x 0) (sym f)
    ∙ get_or-append-add (part l at k) (part l (at + k) m) (i - k) 0
    ∙ get_or-part l (at + k) m (i - k) (omega arith)
    ∙ ap (λ (x : ℕ). get_or l x 0) (omega arith)))
    (lt_or_le i k))

-- ---- one write

module _ (l : List ℕ) (at : ℕ) (vs : List ℕ) (h : at + length vs ≤ length l) where
  before : (x : ℕ) → x < at → get_or (over l at vs) x 0 ≡ get_or l x 0
  unfolding over
  before x b =
      let n : length (take at l) ≡ at = simp length-take (omega arith) in
      rw append_assoc (get_or-append (take at l) (vs ++ drop (at + length vs) l) 0 x (omega arith)
      ∙ get_or-take at l x 0 b)

  after : (x : ℕ) → at + length vs ≤ x → get_or (over l at vs) x 0 ≡ get_or l x 0
  unfolding over
  after x b =
      let n : length (take at l ++ vs) ≡ at + length vs = simp (length-append, length-take) (omega arith) in
      let e : x ≡ length (take at l ++ vs) + (x - (at + length vs)) = omega arith in
      ap (λ (y : ℕ). get_or (take at l ++ vs ++ drop (at + length vs) l) y 0) e
      ∙ get_or-append-add (take at l ++ vs) (drop (at + length vs) l) (x - (at + length vs)) 0
      ∙ get_or-drop (at + length vs) l (x - (at + length vs)) 0
      ∙ ap (λ (y : ℕ). get_or l y 0) (omega arith)

  -- a place that is not written keeps its byte
  pub kept : (x : ℕ) → (at ≤ x → x < at + length vs → ⊥) → get_or (over l at vs) x 0 ≡ get_or l x 0
  kept x a = ⊎_elim (before x) (λ p. after x (⊎_elim (λ q. absurd (a p q)) (λ q. q) (lt_or_le x (at + length vs))))
      (lt_or_le x at)

  -- what is written elsewhere does not show
  pub frame : (a k : ℕ) → Apart a k at (length vs) → part (over l at vs) a k ≡ part l a k
  frame a k p = part_agree (over l at vs) l a k (length_over l at vs h) (λ x q r. kept x (p x q r))

  -- what is written at a place is read there
  pub same : part (over l at vs) at (length vs) ≡ vs
  unfolding over part
  same =
      rw (append_assoc, drop_at (take at l) (vs ++ drop (at + length vs) l) at (simp length-take (omega arith)))
      (take-append_seam vs (drop (at + length vs) l))

-- to write nothing changes nothing
pub over_nil : (l : List ℕ) (at : ℕ) → over l at [] ≡ l
unfolding over
over_nil l at = rw (append-nil, add-zero) (take-append-drop at l)

-- to write what stands there changes nothing
rest : (l : List ℕ) (at k : ℕ) → take at l ++ (part l at k ++ drop (at + k) l) ≡ l
unfolding part
rest l at k = rw (← drop-drop k at l, take-append-drop k (drop at l)) (take-append-drop at l)

over-part : (l : List ℕ) (at k : ℕ) → at + k ≤ length l → over l at (part l at k) ≡ l
unfolding over
over-part l at k h = rw (length_part l at k h, append_assoc) (rest l at k)

pub over_same : (l : List ℕ) (at : ℕ) (vs : List ℕ) → at + length vs ≤ length l → part l at (length vs) ≡ vs
    → over l at vs ≡ l
over_same l at vs h e = ap (over l at) (sym e) ∙ over-part l at (length vs) h

-- to write all leaves nothing of what was
pub over_whole : (l vs : List ℕ) → length vs ≡ length l → over l 0 vs ≡ vs
unfolding over
over_whole l vs h = rw (drop_of_length-le l {i = 0 + length vs} (omega arith)) (append-nil vs)

-- of two writes to one place the second stands
pub over_again : (l : List ℕ) (at : ℕ) (xs ys : List ℕ) → at + length xs ≤ length l → length xs ≡ length ys
    → over (over l at xs) at ys ≡ over l at ys
unfolding over
over_again l at xs ys h e =
    let n : length (take at l) ≡ at = simp length-take (omega arith) in
    let m : length (take at l ++ xs) ≡ at + length ys = simp (length-append, length-take) (omega arith) in
    rw (drop_at (take at l ++ xs) (drop (at + length xs) l) (at + length ys) m)
    (rw (
      append_assoc (take at l) xs (drop (at + length xs) l),
      take_at (take at l) (xs
          ++ drop (at + length xs) l) at n,
      e,
    ))

-- two writes one after the other are one
pub over_append : (l : List ℕ) (at : ℕ) (xs ys : List ℕ) → at ≤ length l
    → over (over l at xs) (at + length xs) ys ≡ over l at (xs ++ ys)
unfolding over
over_append l at xs ys h =
    let n : length (take at l ++ xs) ≡ at + length xs = simp (length-append, length-take) (omega arith) in
    let e : at + length xs + length ys ≡ length (take at l ++ xs) + length ys = omega arith in
    let f : at + length (xs ++ ys) ≡ at + length xs + length ys = rw length-append (omega arith) in
    rw (f, take_at (take at l ++ xs) (drop (at + length xs) l) (at + length xs) n)
    (ap (λ r. take at l ++ xs ++ ys ++ r)
    (ap (λ (x : ℕ). drop x (take at l ++ xs ++ drop (at + length xs) l)) e
    ∙ drop-append-add (take at l ++ xs) (drop (at + length xs) l) (length ys)
    ∙ drop-drop (length ys) (at + length xs) l)
    ∙ ap (λ r. r ++ drop (at + length xs + length ys) l) (append_assoc (take at l) xs ys))

-- two writes to places that have nothing in common, in either order

written : (l : List ℕ) (at : ℕ) (vs : List ℕ) → at + length vs ≤ length l → (x : ℕ) → at ≤ x → x < at + length vs
    → get_or (over l at vs) x 0 ≡ get_or vs (x - at) 0
written l at vs h x p q =
    let e : at + (x - at) ≡ x = omega arith in
    sym
    (ap (λ r. get_or r (x - at) 0) (sym (same l at vs h))
    ∙ get_or-part (over l at vs) at (length vs) (x - at) (omega arith)
    ∙ ap (λ (y : ℕ). get_or (over l at vs) y 0) e)

pub over_swap : (l : List ℕ) (a : ℕ) (xs : List ℕ) (b : ℕ) (ys : List ℕ) → a + length xs ≤ length l
    → b + length ys ≤ length l
    → Apart a (length xs) b (length ys) → over (over l a xs) b ys ≡ over (over l b ys) a xs
over_swap l a xs b ys ha hb d =
    let m = length_over l a xs ha in
    let n = length_over l b ys hb in
    let f = length_over (over l a xs) b ys (omega arith) in
    let g = length_over (over l b ys) a xs (omega arith) in
    ext_get_or 0 (over (over l a xs) b ys) (over (over l b ys) a xs) (f ∙ m
    ∙ sym (g ∙ n)) (λ x p. at_each x (lt_or_le x a) (lt_or_le x (a + length xs)) (lt_or_le x b)
    (lt_or_le x (b + length ys)))
  where
    m' : b + length ys ≤ length (over l a xs)
    m' = omega (arith, length_over l a xs ha)

    n' : a + length xs ≤ length (over l b ys)
    n' = omega (arith, length_over l b ys hb)

    -- a place of neither, of the first and of the second
    neither : (x : ℕ) → (a ≤ x → x < a + length xs → ⊥) → (b ≤ x → x < b + length ys → ⊥)
        → get_or (over (over l a xs) b ys) x 0 ≡ get_or (over (over l b ys) a xs) x 0
    neither x p q = kept (over l a xs) b ys m' x q ∙ kept l a xs ha x p
        ∙ sym (kept (over l b ys) a xs n' x p ∙ kept l b ys hb x q)

    first : (x : ℕ) → a ≤ x → x < a + length xs
        → get_or (over (over l a xs) b ys) x 0 ≡ get_or (over (over l b ys) a xs) x 0
    first x p q = kept (over l a xs) b ys m' x (d x p q) ∙ written l a xs ha x p q
        ∙ sym (written (over l b ys) a xs n' x p q)

    second : (x : ℕ) → b ≤ x → x < b + length ys
        → get_or (over (over l a xs) b ys) x 0 ≡ get_or (over (over l b ys) a xs) x 0
    second x p q = written (over l a xs) b ys m' x p q
        ∙ sym (kept (over l b ys) a xs n' x (λ r t. d x r t p q) ∙ written l b ys hb x p q)

    at_each : (x : ℕ) → (x < a) ⊎ (a ≤ x) → (x < a + length xs) ⊎ (a + length xs ≤ x) → (x < b) ⊎ (b ≤ x)
        → (x < b + length ys) ⊎ (b + length ys ≤ x)
        → get_or (over (over l a xs) b ys) x 0 ≡ get_or (over (over l b ys) a xs) x 0
    at_each x (inr p) (inl q) r t = first x p q
    at_each x (inl p) q (inr r) (inl t) = second x r t
    at_each x (inr p) (inr q) (inr r) (inl t) = second x r t
    at_each x (inl p) q (inl r) t = neither x (λ u v. omega arith) (λ u v. omega arith)
    at_each x (inl p) q (inr r) (inr t) = neither x (λ u v. omega arith) (λ u v. omega arith)
    at_each x (inr p) (inr q) (inl r) t = neither x (λ u v. omega arith) (λ u v. omega arith)
    at_each x (inr p) (inr q) (inr r) (inr t) = neither x (λ u v. omega arith) (λ u v. omega arith)

-- ---- a list of writes

pub length-puts : (ws : List Write) (l : List ℕ) → Within (length l) ws → length (puts l ws) ≡ length l
unfolding puts
length-puts [] l h = refl
length-puts (w ∷ ws) l h =
    let e = length_over l w.at w.bytes h.0 in
    length-puts ws (over l w.at w.bytes) (rw e h.1) ∙ e

-- a place that no write touches is as it was
pub frames : (ws : List Write) (l : List ℕ) (a k : ℕ) → Within (length l) ws → Spares a k ws
    → part (puts l ws) a k ≡ part l a k
unfolding puts
frames [] l a k h s = refl
frames (w ∷ ws) l a k h s =
    frames ws (over l w.at w.bytes) a k (rw (length_over l w.at w.bytes h.0) h.1) s.1
    ∙ frame l w.at w.bytes h.0 a k s.0

-- a write that no later one touches reads back
pub got : (i : ℕ) (ws : List Write) (l : List ℕ) → Within (length l) ws → Stays i ws
    → part (puts l ws) (nth i ws).at (length (nth i ws).bytes) ≡ (nth i ws).bytes
unfolding puts part
got i [] l h s = refl
got zero (w ∷ ws) l h s =
    frames ws (over l w.at w.bytes) w.at (length w.bytes)
    (rw (length_over l w.at w.bytes h.0) h.1) s
    ∙ same l w.at w.bytes h.0
got (suc i) (w ∷ ws) l h s = got i ws (over l w.at w.bytes)
    (rw (length_over l w.at w.bytes h.0) h.1) s

-- ---- numbers

-- the bytes of a number spell it
pub le-bytes_of : (k v : ℕ) → Spelled k v → le (bytes_of k v) ≡ v
unfolding bytes_of le
le-bytes_of zero v h = omega (arith, rw pow-zero at h)
le-bytes_of (suc k) v h =
    let q : v / 256 < 256 ^ k = (div-lt_iff_lt-mul {k = 256} {x = v} {y = 256 ^ k} (omega arith)).1 (rw pow-suc at h) in
    rw (le-bytes_of k (v / 256) q) (omega arith)

-- bytes are the spelling of the number that they spell
pub bytes_of-le : (bs : List ℕ) → Bytes bs → bytes_of (length bs) (le bs) ≡ bs
unfolding bytes_of le
bytes_of-le [] h = refl
bytes_of-le (b ∷ bs) h =
    let b< : b < 256 = h 0 in
    let m : (b + 256 * le bs) % 256 ≡ b = omega arith in
    let d : (b + 256 * le bs) / 256 ≡ le bs = omega arith in
    rw (m, d) (ap (λ r. b ∷ r) (bytes_of-le bs (λ i. h (suc i))))

-- k bytes spell a number that k bytes can spell
pub le_bound : (bs : List ℕ) → Bytes bs → Spelled (length bs) (le bs)
unfolding le
le_bound [] h = rw pow-zero (omega arith)
le_bound (b ∷ bs) h = rw pow-suc (omega (arith, h 0, le_bound bs (λ i. h (suc i))))

pub bytes-part : (l : List ℕ) (at k : ℕ) → Bytes l → Bytes (part l at k)
bytes-part l at k h i =
    ⊎_elim
    (λ (p : i < k). rw (get_or-part l at k i p) (h (at + i)))
    (λ (p : k ≤ i). rw (get_or-eq_default (part l at k) 0 {n = i} (omega (arith, length-part_any l at k)))
    (omega arith))
    (lt_or_le i k)

pub word_bound : (k : ℕ) (l : List ℕ) (at : ℕ) → Bytes l → Spelled k (word_at k l at)
word_bound k l at h =
    le_trans (le_bound (part l at k) (bytes-part l at k h))
    (pow-le-pow_right (lit< tt) (omega (arith, length-part_any l at k)))

-- the bytes at a place are the spelling of the number there
pub word_bytes : (k : ℕ) (l : List ℕ) (at : ℕ) → Bytes l → at + k ≤ length l → bytes_of k (word_at k l at) ≡ part l at k
word_bytes k l at h f = rw (length_part l at k f) at (bytes_of-le (part l at k) (bytes-part l at k h))

-- a number that is written reads back, at its own place
pub word_same : (k : ℕ) (l : List ℕ) (at v : ℕ) → at + k ≤ length l → Spelled k v
    → word_at k (over l at (bytes_of k v)) at ≡ v
word_same k l at v h b =
    ap le (rw length-bytes_of at (same l at (bytes_of k v) (rw length-bytes_of h))) ∙ le-bytes_of k v b

-- ---- runs of one byte, and of zeros

pub part-replicate : (k v at n : ℕ) → at + n ≤ k → part (replicate k v) at n ≡ replicate n v
part-replicate k v at n h =
    ext_get_or 0 (part (replicate k v) at n) (replicate n v) (simp (length-part_any, length-replicate) (omega arith))
    (λ i p. let b : i < n = omega (arith, simp (length-part_any, length-replicate) at p) in
    rw (
      get_or-part (replicate k v) at n i b,
      get_or-replicate k (at + i) v 0 (omega arith),
      get_or-replicate n i v 0 b,
    ))

pub part-blank : (k at n : ℕ) → at + n ≤ k → part (blank k) at n ≡ blank n
unfolding blank
part-blank k at n h = part-replicate k 0 at n h

pub all_zero-blank : (k : ℕ) → all_zero (blank k) ≡ true
unfolding all_zero blank
all_zero-blank zero = refl
all_zero-blank (suc k) = all_zero-blank k

-- a run that is all zero is as many zero bytes
pub zero-blank : (l : List ℕ) → all_zero l ≡ true → l ≡ blank (length l)
unfolding all_zero blank
zero-blank [] h = refl
zero-blank (b ∷ bs) h = let w = both (eqb b 0) (all_zero bs) h in ap₂ ◌∷◌ (eqb-true b 0 w.0) (zero-blank bs w.1)

-- ---- what is made of bytes is bytes

pub bytes_append : (xs ys : List ℕ) → Bytes xs → Bytes ys → Bytes (xs ++ ys)
bytes_append [] ys h g i = g i
bytes_append (x ∷ xs) ys h g zero = h 0
bytes_append (x ∷ xs) ys h g (suc i) = bytes_append xs ys (λ i. h (suc i)) g i

pub bytes-over : (l : List ℕ) (at : ℕ) (vs : List ℕ) → Bytes l → Bytes vs → Bytes (over l at vs)
unfolding over part
bytes-over l at vs h g =
    bytes_append (take at l ++ vs) (drop (at + length vs) l)
    (bytes_append (take at l) vs (bytes-part l 0 at h) g)
    (λ i. rw get_or-drop (h (at + length vs + i)))

pub bytes-bytes_of : (k v : ℕ) → Bytes (bytes_of k v)
unfolding bytes_of
bytes-bytes_of zero v i = omega arith
bytes-bytes_of (suc k) v zero = omega arith
bytes-bytes_of (suc k) v (suc i) = bytes-bytes_of k (v / 256) i

pub bytes-replicate : (k v : ℕ) → v < 256 → Bytes (replicate k v)
bytes-replicate zero v h i = omega arith
bytes-replicate (suc k) v h zero = h
bytes-replicate (suc k) v h (suc i) = bytes-replicate k v h i

pub bytes-blank : (k : ℕ) → Bytes (blank k)
unfolding blank
bytes-blank k = bytes-replicate k 0 (omega arith)
