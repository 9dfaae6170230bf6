-- Two sound images of bytes with one clock, one map of stored blocks and the same data where none is stored are equal.
-- Assumes nothing.
use Prim.Native.Nat.{ℕ, zero, suc, ◌+◌, ◌-◌, ◌*◌, ◌/◌, ◌%◌, ◌^◌, ◌≤◌, ◌<◌}
use mathlib.Core.Path.{◌≡◌, refl, sym, ap, ap₂, ◌∙◌}
use mathlib.Core.Bool.{Bool, true, false, true≢false}
use mathlib.Core.List.{List, ◌++◌}
use mathlib.Core.Logic.{◌⊎◌, inl, inr}
use mathlib.Core.Option.{none, some}
use native.Mathlib.Omega.{arith}
use native.Mathlib.Nat.{div-div-eq-div-mul, pow-succ', pow-zero}
use borrow.Author.Tests.{eqb-true, eqb-false}
use lib.Dec.{eqb}
use lib.ListN.{length, get_or, take, drop}
use lib.Seq.{ext_get_or, take_at, drop_at}
use Rattle.plain.specs.Numbers.{lt_or_le}
use Rattle.plain.specs.Tests.{when, decide, nth}
use Rattle.word.specs.Word.{part, word_at, bytes_of, blank, all_zero, Bytes}
use Rattle.word.proofs.Laws.{length_part, get_or-part, part_whole, part_split, bytes-part, word_bound, word_bytes}
use Rattle.word.proofs.Laws.{zero-blank}
use Rattle.run.proofs.Tally.{picked_same}
use Rattle.promise.specs.Layout.{size_of}
use Rattle.promise.specs.Trailer.{n_of, clock_of}
use Rattle.promise.specs.Header.{header_of, owner_of, id_in, created_of, expires_of, tag_of, is_used, header_bytes}
use Rattle.promise.specs.Header.{used_right}
use Rattle.promise.specs.Map.{free, spare_zero, good}
use Rattle.promise.specs.Counts.{owned_by, data_of, owned}
use Rattle.promise.specs.Sound.{Sound}
use Rattle.promise.proofs.TrailerLaws.{Number, right, rule_is_bytes}
use Rattle.promise.proofs.CountLaws.{owned-picked, count_at_lem}
use Rattle.promise.proofs.GoodLaws.{taken, Good, good_either, vacant}
use Rattle.manual.specs.Sets.{◌≈◌}
use Rattle.manual.specs.State.{Block}
use Rattle.demands.specs.Stored.{holds, block_in, blocks}
use Rattle.demands.proofs.Slots.{held, stands_at}
use Rattle.demands.proofs.Places.{its_own}

-- ---- a used header is the bytes of its fields

module _ (h : List ℕ) (b : Bytes h) (e : length h ≡ 64) where
  spelled : (at k v : ℕ) → at + k ≤ 64 → word_at k h at ≡ v → part h at k ≡ bytes_of k v
  spelled at k v f p = sym (word_bytes k h at b (omega arith)) ∙ ap (bytes_of k) p

  zeros : (at k : ℕ) → at + k ≤ 64 → all_zero (part h at k) ≡ true → part h at k ≡ blank k
  zeros at k f p = zero-blank (part h at k) p ∙ ap blank (length_part h at k (omega arith))

  joined : (k m : ℕ) (xs ys : List ℕ) → k + m ≤ 64 → part h 0 k ≡ xs → part h k m ≡ ys → part h 0 (k + m) ≡ xs ++ ys
  joined k m xs ys f p q = part_split h 0 k m (omega arith) ∙ ap₂ ◌++◌ p (ap (λ (x : ℕ). part h x m) (omega arith) ∙ q)

  used-bytes : (clock i : ℕ) → used_right clock i h ≡ true
      → h ≡ header_bytes (owner_of h) (id_in h) (created_of h) (expires_of h) (tag_of h)
  unfolding used_right header_bytes
  used-bytes clock i r =
      sym (part_whole h 64 e)
      ∙ joined 48 16 _ _ (omega arith)
      (joined 32 16 _ _ (omega arith)
      (joined 24 8 _ _ (omega arith)
      (joined 16 8 _ _ (omega arith)
      (joined 8 8 _ _ (omega arith)
      (joined 2 6 _ _ (omega arith)
      (joined 1 1 _ _ (omega arith)
      (spelled 0 1 1 (omega arith) (eqb-true _ _ (nth _ 0 r)))
      (spelled 1 1 (owner_of h) (omega arith) refl))
      (zeros 2 6 (omega arith) (nth _ 1 r)))
      (spelled 8 8 (id_in h) (omega arith) refl))
      (spelled 16 8 (created_of h) (omega arith) refl))
      (spelled 24 8 (expires_of h) (omega arith) refl))
      refl)
      (zeros 48 16 (omega arith) (nth _ 2 r))

-- ---- a byte is its bits

bits_settle : (k v w : ℕ) → v < 2 ^ k → w < 2 ^ k → ((j : ℕ) → j < k → eqb (v / 2 ^ j % 2) 1 ≡ eqb (w / 2 ^ j % 2) 1)
    → v ≡ w
bits_settle zero v w h g f = omega arith
bits_settle (suc k) v w h g f =
    let z : eqb (v % 2) 1 ≡ eqb (w % 2) 1 =
    (let y : v / 1 ≡ v = omega arith in let x : w / 1 ≡ w = omega arith in
    rw (pow-zero, y, x) at (f 0 (omega arith))) in
    let r = bits_settle k (v / 2) (w / 2) (omega arith) (omega arith) (λ j l.
    rw (div-div-eq-div-mul v 2 (2 ^ j), div-div-eq-div-mul w 2 (2 ^ j), ← pow-succ' 2 j) (f (suc j) (omega arith))) in
    omega (arith, r, low (eqb (v % 2) 1) refl z)
  where
    low : (t : Bool) → eqb (v % 2) 1 ≡ t → eqb (v % 2) 1 ≡ eqb (w % 2) 1 → v % 2 ≡ w % 2
    low true q z = eqb-true (v % 2) 1 q ∙ sym (eqb-true (w % 2) 1 (sym z ∙ q))
    low false q z = (let d = eqb-false (v % 2) 1 q in let c = eqb-false (w % 2) 1 (sym z ∙ q) in neither d c)
      where
        neither : (v % 2 ≡ 1 → ⊥) → (w % 2 ≡ 1 → ⊥) → v % 2 ≡ w % 2
        neither d c = omega arith

-- ---- a part that is the same has the same bytes

from_part : (a b : List ℕ) (at k x : ℕ) → part a at k ≡ part b at k → at ≤ x → x < at + k → get_or a x 0 ≡ get_or b x 0
from_part a b at k x e l u =
    let z : at + (x - at) ≡ x = omega arith in
    let i : x - at < k = omega arith in
    ap (λ (y : ℕ). get_or a y 0) (sym z)
    ∙ sym (get_or-part a at k (x - at) i)
    ∙ ap (λ p. get_or p (x - at) 0) e
    ∙ get_or-part b at k (x - at) i
    ∙ ap (λ (y : ℕ). get_or b y 0) z

-- ---- a stored block, found in the other image

same_some : {A : Type 0} {x y : A} → some x ≡ some y → x ≡ y
same_some e = cc e

held_there : (t : Bool) (v w : Block) → when t (some v) none ≡ some w → (t ≡ true) × (v ≡ w)
held_there true v w e = (refl, same_some e)
held_there false v w e = absurd (true≢false (cc e))

pub record Twin (n i : ℕ) (a b : List ℕ) : Type 0 where
  pub used : is_used (header_of b i) ≡ true
  pub id : id_in (header_of b i) ≡ id_in (header_of a i)
  pub block : block_in (header_of b i) (data_of n b i) ≡ block_in (header_of a i) (data_of n a i)

twin : (a b : List ℕ) → Sound a → blocks (n_of a) b ≈ blocks (n_of a) a → (i : ℕ) → i < n_of a
    → is_used (header_of a i) ≡ true → Twin (n_of a) i a b
unfolding blocks
twin a b s e i l u =
    let x : ℕ = id_in (header_of a i) in
    let z = stands_at a s i l u in
    let q = rw z.leads at (e x ∙ its_own a s i l u) in
    let w = held_there (holds (n_of a) x (header_of b i)) _ _ q in
    let f = held (n_of a) x (header_of b i) w.0 in
    record { used = f.used; id = f.same; block = w.1 }

-- ---- part by part

tag_same : (h h' d d' : List ℕ) → length h ≡ 64 → length h' ≡ 64 → tag_of h ++ d ≡ tag_of h' ++ d'
    → (tag_of h ≡ tag_of h') × (d ≡ d')
tag_same h h' d d' e f q =
    let l = length_part h 32 16 (omega arith) in
    let m = length_part h' 32 16 (omega arith) in (
      sym (take_at (tag_of h) d 16 l) ∙ ap (take 16) q ∙ take_at (tag_of h') d' 16 m,
      sym (drop_at (tag_of h) d 16 l) ∙ ap (drop 16) q ∙ drop_at (tag_of h') d' 16 m,
    )

word_part : (a b : List ℕ) (at k : ℕ) → Bytes a → Bytes b → at + k ≤ length a → at + k ≤ length b
    → word_at k a at ≡ word_at k b at → part a at k ≡ part b at k
word_part a b at k p q l m e = sym (word_bytes k a at p l) ∙ ap (bytes_of k) e ∙ word_bytes k b at q m

zero-part : (a b : List ℕ) (at k : ℕ) → at + k ≤ length a → at + k ≤ length b → all_zero (part a at k) ≡ true
    → all_zero (part b at k) ≡ true → part a at k ≡ part b at k
zero-part a b at k l m p q =
    zero-blank (part a at k) p ∙ ap blank (length_part a at k l ∙ sym (length_part b at k m))
    ∙ sym (zero-blank (part b at k) q)

-- ---- what a sound image of n blocks, of bytes, has at a number

record Side (n clock : ℕ) (a : List ℕ) : Type 0 where
  size : length a ≡ 576 * n + 1536
  long : (i : ℕ) → i < n → length (header_of a i) ≡ 64
  bytes : (i : ℕ) → Bytes (header_of a i)
  fine : (i : ℕ) → i < n → Good clock i (free n a i) (header_of a i)

side : (n clock : ℕ) (a : List ℕ) → Sound a → Bytes a → n_of a ≡ n → clock_of a ≡ clock → Side n clock a
unfolding header_of good
side n clock a d b e c =
    let z : length a ≡ 576 * n + 1536 = (right a d.trailer).size ∙ ap size_of e in
    record {
      size = z;
      long = λ i l. length_part a (64 * i) 64 (omega arith);
      bytes = λ i. bytes-part a (64 * i) 64 b;
      fine = λ i l. good_either clock i (free n a i) (header_of a i) (rw (e, c) at (d.headers i (rw e l)));
    }

module _ (a b : List ℕ) (sa : Sound a) (sb : Sound b) (ba : Bytes a) (bb : Bytes b) (e : n_of b ≡ n_of a)
    (c : clock_of b ≡ clock_of a) (m : blocks (n_of a) b ≈ blocks (n_of a) a) where
  abbrev n : ℕ
  n = n_of a

  num : Number n
  num = (right a sa.trailer).number

  A : Side n (clock_of a) a
  A = side n (clock_of a) a sa ba refl refl

  B : Side n (clock_of a) b
  B = side n (clock_of a) b sb bb e c

  there : (i : ℕ) → i < n → is_used (header_of a i) ≡ true → Twin n i a b
  there i l u = twin a b sa m i l u

  back : (i : ℕ) → i < n → is_used (header_of b i) ≡ true → is_used (header_of a i) ≡ true
  back i l u = (twin b a sb (λ x. rw e (sym (m x))) i (rw e l) u).used

  -- the tag and the data of a used block
  held_same : (i : ℕ) → i < n → is_used (header_of a i) ≡ true
      → (tag_of (header_of b i) ≡ tag_of (header_of a i)) × (data_of n b i ≡ data_of n a i)
  held_same i l u = tag_same (header_of b i) (header_of a i) _ _ (B.long i l) (A.long i l)
      (ap (λ (x : Block). x.bytes) (there i l u).block)

  -- the header of a block, and its bit
  same_at : (i : ℕ) → i < n → (header_of b i ≡ header_of a i) × (free n b i ≡ free n a i)
  same_at i l = go (A.fine i l) (B.fine i l)
    where
      same_bytes : {o o' i i' c c' x x' : ℕ} {t t' : List ℕ} → o ≡ o' → i ≡ i' → c ≡ c' → x ≡ x' → t ≡ t'
          → header_bytes o i c x t ≡ header_bytes o' i' c' x' t'
      same_bytes p q r s t = cc

      go : Good (clock_of a) i (free n a i) (header_of a i) → Good (clock_of a) i (free n b i) (header_of b i)
          → (header_of b i ≡ header_of a i) × (free n b i ≡ free n a i)
      go (vacant z u q) (vacant z' u' q') = (
        zero-blank (header_of b i) z' ∙ ap blank (B.long i l ∙ sym (A.long i l)) ∙ sym (zero-blank (header_of a i) z),
        q' ∙ sym q,
      )
      go (vacant z u q) (taken r' u' q') = absurd (true≢false (sym (back i l u') ∙ u))
      go (taken r u q) (vacant z' u' q') = absurd (true≢false (sym (there i l u).used ∙ u'))
      go (taken r u q) (taken r' u' q') =
          let t = there i l u in
          let f = same_bytes (ap (λ (x : Block). x.owner) t.block) t.id
          (ap (λ (x : Block). x.created) t.block) (ap (λ (x : Block). x.expires) t.block)
          (held_same i l u).0 in (
            used-bytes (header_of b i) (B.bytes i) (B.long i l) _ i r' ∙ f
                ∙ sym (used-bytes (header_of a i) (A.bytes i) (A.long i l) _ i r),
            q' ∙ sym q,
          )

  pub header_same : (i : ℕ) → i < n_of a → header_of b i ≡ header_of a i
  header_same i l = (same_at i l).0

  map_same : (k : ℕ) → k < n / 8 → part b (64 * n + k) 1 ≡ part a (64 * n + k) 1
  unfolding free
  map_same k l =
      word_part b a (64 * n + k) 1 bb ba (omega (arith, B.size)) (omega (arith, A.size))
      (bits_settle 8 (word_at 1 b (64 * n + k)) (word_at 1 a (64 * n + k))
      (omega (arith, word_bound 1 b (64 * n + k) bb))
      (omega (arith, word_bound 1 a (64 * n + k) ba))
      (λ j h.
      let x : (8 * k + j) / 8 ≡ k = omega arith in
      let y : (8 * k + j) % 8 ≡ j = omega arith in
      rw (x, y) at (same_at (8 * k + j) (omega (arith, num.eights))).1))

  spare_same : part b (64 * n + n / 8) (512 - n / 8) ≡ part a (64 * n + n / 8) (512 - n / 8)
  unfolding spare_zero
  spare_same = zero-part b a _ _ (omega (arith, B.size, num.most)) (omega (arith, A.size, num.most))
      (rw e at sb.spare) sa.spare

  owned_same : (u : ℕ) → owned n b u ≡ owned n a u
  unfolding owned_by
  owned_same u =
      owned-picked n b u
      ∙ ap length (picked_same (owned_by b u) (owned_by a u) 0 n (λ x v w. rw (header_same x (omega arith))))
      ∙ sym (owned-picked n a u)

  count_same : (u : ℕ) → u < 64 → part b (64 * n + 512 + 8 * u) 8 ≡ part a (64 * n + 512 + 8 * u) 8
  count_same u l =
      word_part b a (64 * n + 512 + 8 * u) 8 bb ba (omega (arith, B.size, num.least))
      (omega (arith, A.size, num.least))
      (count_at_lem n b u l ∙ (rw e at (sb.counts u l)) ∙ owned_same u ∙ sym (sa.counts u l)
      ∙ sym (count_at_lem n a u l))

  trailer_same : part b (576 * n + 1024) 512 ≡ part a (576 * n + 1024) 512
  trailer_same = (rw (e, c) at (rule_is_bytes b bb sb.trailer)) ∙ sym (rule_is_bytes a ba sa.trailer)

  -- the data of a used block is stored; that of an unused one is asked for
  data_same : ((i : ℕ) → i < n → is_used (header_of a i) ≡ false → data_of n b i ≡ data_of n a i) → (i : ℕ) → i < n
      → data_of n b i ≡ data_of n a i
  data_same f i l = go (decide (is_used (header_of a i)))
    where
      go : (is_used (header_of a i) ≡ true) ⊎ (is_used (header_of a i) ≡ false) → data_of n b i ≡ data_of n a i
      go (inr u) = f i l u
      go (inl u) = (held_same i l u).1

  -- A SOUND IMAGE OF BYTES IS SETTLED by N, the clock, the stored blocks, and the data of unused numbers
  pub image_settled : ((i : ℕ) → i < n_of a → is_used (header_of a i) ≡ false
      → data_of (n_of a) b i ≡ data_of (n_of a) a i)
      → b ≡ a
  unfolding header_of data_of
  image_settled f =
      ext_get_or 0 b a (B.size ∙ sym A.size)
      (λ x l. each x (omega (arith, B.size)) (lt_or_le x (64 * n)) (lt_or_le x (64 * n + n / 8))
      (lt_or_le x (64 * n + 512))
      (lt_or_le x (64 * n + 1024)) (lt_or_le x (576 * n + 1024)))
    where
      each : (x : ℕ) → x < 576 * n + 1536 → (x < 64 * n) ⊎ (64 * n ≤ x) → (x < 64 * n + n / 8) ⊎ (64 * n + n / 8 ≤ x)
          → (x < 64 * n + 512) ⊎ (64 * n + 512 ≤ x) → (x < 64 * n + 1024) ⊎ (64 * n + 1024 ≤ x) → (x < 576 * n + 1024)
          ⊎ (576 * n + 1024 ≤ x)
          → get_or b x 0 ≡ get_or a x 0
      each x h (inl l) p q r s =
          from_part b a (64 * (x / 64)) 64 x (header_same (x / 64) (omega arith)) (omega arith) (omega arith)
      each x h (inr l) (inl p) q r s =
          from_part b a (64 * n + (x - 64 * n)) 1 x (map_same (x - 64 * n) (omega arith)) (omega arith) (omega arith)
      each x h (inr l) (inr p) (inl q) r s =
          from_part b a (64 * n + n / 8) (512 - n / 8) x spare_same p (omega (arith, num.most))
      each x h (inr l) (inr p) (inr q) (inl r) s =
          let u : ℕ = (x - (64 * n + 512)) / 8 in
          from_part b a (64 * n + 512 + 8 * u) 8 x (count_same u (omega arith)) (omega arith) (omega arith)
      each x h (inr l) (inr p) (inr q) (inr r) (inl s) =
          let i : ℕ = (x - (64 * n + 1024)) / 512 in
          from_part b a (64 * n + 1024 + 512 * i) 512 x (data_same f i (omega arith)) (omega arith) (omega arith)
      each x h (inr l) (inr p) (inr q) (inr r) (inr s) =
          from_part b a (576 * n + 1024) 512 x trailer_same s (omega arith)
