-- Counts lowered by a tally, each client's once, are the counts lowered block by block.
-- Assumes nothing.
use Prim.Native.Nat.{ℕ, zero, suc, ◌+◌, ◌-◌, ◌*◌, ◌^◌, ◌≤◌, ◌<◌, ◌/◌}
use mathlib.Core.Path.{◌≡◌, refl, sym, ap, ◌∙◌}
use mathlib.Core.Bool.{Bool, true, false}
use mathlib.Core.List.{List, [], ◌∷◌}
use native.Mathlib.Decide.{ℕ_discrete}
use native.Mathlib.Omega.{arith}
use borrow.Author.Tests.{lt-ltb, eq-eqb, ne_eqb, ltb-false}
use lib.Dec.{ltb}
use lib.ListN.{length}
use Rattle.plain.specs.Tests.{when}
use Rattle.word.specs.Word.{le, bytes_of, blank, Bytes}
use Rattle.word.specs.Write.{over, puts, Apart}
use Rattle.word.proofs.Laws.{sizes, length_over, frame, word_same, over_swap, over_again, word_bound, bytes-part}
use Rattle.run.specs.Run.{picked, each, Every, times}
use Rattle.promise.specs.Layout.{count_at, size_of, header_at, map_at, trailer_at}
use Rattle.promise.specs.Counts.{count_of, counts_of}
use Rattle.promise.proofs.CountLaws.{count_at_lem}
use Rattle.keys.proofs.Marks.{pass_turn}
use Rattle.promise.specs.Trailer.{clock_set}
use Rattle.promise.specs.Header.{header_of, owner_of}
use Rattle.promise.specs.Map.{map_byte, weight}
use Rattle.promise.proofs.TrailerLaws.{Number}
use Rattle.keys.specs.Marks.{freed}

-- an image of the right length whose counts are numbers of 8 bytes
abbrev pub Counted : (n : ℕ) → List ℕ → Type 0
Counted n s = (length s ≡ size_of n) × ((u : ℕ) → u < 64 → count_of n s u < 2 ^ 64)

-- the count of u, lowered by k
abbrev pub low : (n u k : ℕ) → List ℕ → List ℕ
low n u k s = over s (count_at n u) (bytes_of 8 (count_of n s u - k))

-- the counts of the clients among k from b on, each lowered by what t says
abbrev pub low_all : (n : ℕ) (t : ℕ → ℕ) → List ℕ → (b k : ℕ) → List ℕ
low_all n t s b k = each (λ s u. low n u (t u) s) s (picked (λ u. ltb 0 (t u)) b k)

-- ---- one count

module _ (n : ℕ) (s : List ℕ) (c : Counted n s) (u : ℕ) (h : u < 64) where
  room : (k : ℕ) → count_at n u + length (bytes_of 8 (count_of n s u - k)) ≤ length s
  room k = simp sizes (omega (arith, c.0))

  low_same : (k : ℕ) → count_of n (low n u k s) u ≡ count_of n s u - k
  low_same k =
      sym (count_at_lem n (low n u k s) u h)
      ∙ word_same 8 s (count_at n u) (count_of n s u - k) (omega (arith, c.0)) (omega (arith, c.1 u h))

  low_other : (k v : ℕ) → v < 64 → (v ≡ u → ⊥) → count_of n (low n u k s) v ≡ count_of n s v
  low_other k v g d =
      sym (count_at_lem n (low n u k s) v g)
      ∙ ap le (frame s (count_at n u) _ (room k) (count_at n v) 8 (simp sizes (omega arith)))
      ∙ count_at_lem n s v g

  low-counted : (k : ℕ) → Counted n (low n u k s)
  low-counted k = (length_over s (count_at n u) _ (room k) ∙ c.0, λ v g. go v g (ℕ_discrete v u))
    where
      go : (v : ℕ) → v < 64 → Dec (v ≡ u) → count_of n (low n u k s) v < 2 ^ 64
      go v g (yes q) = rw q (rw (low_same k) (omega (arith, c.1 u h)))
      go v g (no d) = rw (low_other k v g d) (c.1 v g)

  low_again : (j k : ℕ) → low n u k (low n u j s) ≡ low n u (j + k) s
  low_again j k =
      let e : count_of n s u - j - k ≡ count_of n s u - (j + k) = omega arith in
      rw (low_same j, e) (over_again s (count_at n u) _ _ (room j) (simp sizes))

low_swap : (n : ℕ) (s : List ℕ) → Counted n s → (u v j k : ℕ) → u < 64 → v < 64 → (u ≡ v → ⊥)
    → low n u k (low n v j s) ≡ low n v j (low n u k s)
low_swap n s c u v j k g h d =
    rw (low_other n s c v h j u g d, low_other n s c u g k v h (λ e. d (sym e)))
    (over_swap s (count_at n v) _ (count_at n u) _ (room n s c v h j) (room n s c u g k) (simp sizes (omega arith)))

-- ---- a pass over the clients

turned : (n : ℕ) (t : ℕ → ℕ) (s : List ℕ) (b k : ℕ)
    → low_all n t s b (suc k) ≡ low_all n t (when (ltb 0 (t b)) (low n b (t b) s) s) (b + 1) k
turned n t s b k =
    let e : suc k - 1 ≡ k = omega arith in
    sym (rw e at (pass_turn (λ u. ltb 0 (t u)) (λ s u. low n u (t u) s) s b (suc k) (omega arith)))

-- where the two say the same
pub low_agree : (n : ℕ) (t t' : ℕ → ℕ) (k b : ℕ) (s : List ℕ) → ((u : ℕ) → b ≤ u → u < b + k → t u ≡ t' u)
    → low_all n t s b k ≡ low_all n t' s b k
unfolding picked each
low_agree n t t' zero b s e = refl
low_agree n t t' (suc k) b s e =
    turned n t s b k
    ∙ low_agree n t t' k (b + 1) _ (λ u l g. e u (omega arith) (omega arith))
    ∙ rw (e b (omega arith) (omega arith)) (sym (turned n t' s b k))

-- where nothing is to be lowered
low-none : (n k b : ℕ) (s : List ℕ) → low_all n (λ u. 0) s b k ≡ s
unfolding picked each
low-none n zero b s = refl
low-none n (suc k) b s = turned n (λ u. 0) s b k ∙ low-none n k (b + 1) s

-- one more of o
module _ (n : ℕ) (t t' : ℕ → ℕ) (o : ℕ) (h : o < 64) (more : t' o ≡ t o + 1) (same : (u : ℕ) → (u ≡ o → ⊥) → t' u
    ≡ t u) where
  -- at o itself
  at-o : (s : List ℕ) → Counted n s
      → when (ltb 0 (t o)) (low n o (t o) (low n o 1 s)) (low n o 1 s) ≡ when (ltb 0 (t' o)) (low n o (t' o) s) s
  at-o s c = rw (lt-ltb 0 (t' o) (omega arith)) (go (ltb 0 (t o)) refl)
    where
      go : (q : Bool) → ltb 0 (t o) ≡ q
          → when q (low n o (t o) (low n o 1 s)) (low n o 1 s) ≡ low n o (t' o) s
      go true q = low_again n s c o h 1 (t o) ∙ ap (λ (x : ℕ). low n o x s) (omega arith)
      go false q = ap (λ (x : ℕ). low n o x s) (omega (arith, ltb-false 0 (t o) q))

  -- before it
  passed-by : (s : List ℕ) (b : ℕ) → Counted n s → b < 64 → (b ≡ o → ⊥)
      → when (ltb 0 (t b)) (low n b (t b) (low n o 1 s)) (low n o 1 s)
      ≡ low n o 1 (when (ltb 0 (t b)) (low n b (t b) s) s)
  passed-by s b c g d = go (ltb 0 (t b))
    where
      go : (q : Bool) → when q (low n b (t b) (low n o 1 s)) (low n o 1 s) ≡ low n o 1 (when q (low n b (t b) s) s)
      go true = low_swap n s c b o 1 (t b) g h d
      go false = refl

  still : (s : List ℕ) (b : ℕ) → Counted n s → b < 64 → Counted n (when (ltb 0 (t b)) (low n b (t b) s) s)
  still s b c g = go (ltb 0 (t b))
    where
      go : (q : Bool) → Counted n (when q (low n b (t b) s) s)
      go true = low-counted n s c b g (t b)
      go false = c

  one_more : (k b : ℕ) (s : List ℕ) → Counted n s → b + k ≤ 64 → b ≤ o → o < b + k
      → low_all n t (low n o 1 s) b k ≡ low_all n t' s b k
  one_more zero b s c l p q = absurd (omega arith)
  one_more (suc k) b s c l p q = turned n t (low n o 1 s) b k ∙ go (ℕ_discrete b o) (one_more k)
    where
      go : Dec (b ≡ o)
          → ((b : ℕ) (s : List ℕ) → Counted n s → b + k ≤ 64 → b ≤ o → o < b + k → low_all n t (low n o 1 s) b k
          ≡ low_all n t' s b k)
          → low_all n t (when (ltb 0 (t b)) (low n b (t b) (low n o 1 s)) (low n o 1 s)) (b + 1) k
          ≡ low_all n t' s b (suc k)
      go (yes e) r =
          rw e
          (ap (λ x. low_all n t x (o + 1) k) (at-o s c)
          ∙ low_agree n t t' k (o + 1) _ (λ u l g. sym (same u (λ z. omega arith)))
          ∙ sym (turned n t' s o k))
      go (no d) r =
          ap (λ x. low_all n t x (b + 1) k) (passed-by s b c (omega arith) d)
          ∙ r (b + 1) _ (still s b c (omega arith)) (omega arith) (omega arith) (omega arith)
          ∙ rw (sym (same b d)) (sym (turned n t' s b k))

-- ---- block by block, by the owners

pub lowers : (n : ℕ) (us : List ℕ) → Every (λ u. u < 64) us → (s : List ℕ) → Counted n s
    → each (λ s u. low n u 1 s) s us ≡ low_all n (λ u. times u us) s 0 64
unfolding each times
lowers n [] e s c = sym (low-none n 64 0 s)
lowers n (o ∷ us) e s c =
    lowers n us e.1 (low n o 1 s) (low-counted n s c o e.0 1)
    ∙ one_more n (λ u. times u us) (λ u. times u (o ∷ us)) o e.0
    (rw (eq-eqb o o refl) (omega arith)) (λ u d. rw (ne_eqb u o d) (omega arith)) 64 0 s c (omega arith) (omega arith)
    (omega arith)

-- ---- the clock, the headers and the bits leave the counts

module _ (n : ℕ) (img : List ℕ) (r : Number n) where
  kept : (s : List ℕ) (at : ℕ) (vs : List ℕ) → length s ≡ size_of n → at + length vs ≤ length s
      → Apart (count_at n 0) 512 at (length vs)
      → (length (over s at vs) ≡ size_of n) × (counts_of n (over s at vs) ≡ counts_of n s)
  kept s at vs z w a = (length_over s at vs w ∙ z, frame s at vs w (count_at n 0) 512 a)

  -- blocks freed, one after the other
  all_kept : (bs : List ℕ) → Every (λ b. (b < n) × (owner_of (header_of img b) < 64)) bs
      → (s : List ℕ) → length s ≡ size_of n
      → (length (each (freed n) s bs) ≡ size_of n) × (counts_of n (each (freed n) s bs) ≡ counts_of n s)
  unfolding each puts
  all_kept [] e s z = (z, refl)
  all_kept (b ∷ bs) e s z =
      let h = kept s (header_at b) (blank 64) z (simp sizes (omega arith)) (simp sizes (omega arith)) in
      let t : List ℕ = over s (header_at b) (blank 64) in
      let m = kept t (map_at n + b / 8) (bytes_of 1 (map_byte n t b + weight b)) h.0
      (simp sizes (omega (arith, r.most, h.0))) (simp sizes (omega (arith, r.most))) in
      let v = all_kept bs e.1 (freed n s b) m.0 in
      (v.0, v.1 ∙ m.1 ∙ h.1)

  pub swept : (time : ℕ) (bs : List ℕ) → Every (λ b. (b < n) × (owner_of (header_of img b) < 64)) bs
      → length img ≡ size_of n → Bytes img → Counted n (each (freed n) (puts img (clock_set n time ∷ [])) bs)
  unfolding puts count_of
  swept time bs e z y =
      let c = kept img (trailer_at n + 24) (bytes_of 8 time) z (simp sizes (omega arith)) (simp sizes (omega arith)) in
      let m = all_kept bs e _ c.0 in (
        m.0,
        λ u g. rw (m.1, c.1)
            (omega (arith, word_bound 8 (counts_of n img) (8 * u) (bytes-part img (count_at n 0) 512 y))),
      )
