-- What a reader wants to know of a run: which numbers are picked and how often, how far a visit goes and why it stops,
-- and that a run is what its two parts are.
-- Assumes nothing.
use Prim.Native.Nat.{ℕ, zero, suc, ◌+◌, ◌-◌, ◌≤◌, ◌<◌}
use Rattle.std.specs.Prelude.{◌≡◌, Bool, ◌&&◌, ◌⊎◌, length}
use Rattle.std.proofs.Math.Path.{refl, ap}
use Rattle.std.proofs.Common.{sym, ◌∙◌, not-suc-le-zero, eq-or-lt_of_le, eq-eqb, ne_eqb}
use Rattle.std.proofs.Math.Bool.{true, false, cond, and_assoc}
use mathlib.Core.List.{List, [], ◌∷◌, ◌++◌, append_assoc}
use Rattle.std.proofs.Math.Logic.{inl, inr, ⊎_elim}
use native.Mathlib.Omega.{arith}
use Rattle.std.proofs.Math.ListN.{length-append}
use Rattle.plain.specs.Tests.{both, decide}
use Rattle.run.specs.Run.{one, just, picked, all_of, first, visits, each, Every, times}

pub times_append : (x : ℕ) (bs cs : List ℕ) → times x (bs ++ cs) ≡ times x bs + times x cs
unfolding times
times_append x [] cs = omega arith
times_append x (b ∷ bs) cs = omega (arith, times_append x bs cs)

module _ (p : ℕ → Bool) where
  -- ---- one number

  pub one_yes : (b : ℕ) → p b ≡ true → one p b ≡ 1
  unfolding one
  one_yes b e = rw e

  pub one_no : (b : ℕ) → p b ≡ false → one p b ≡ 0
  unfolding one
  one_no b e = rw e

  pub just_yes : (b : ℕ) → p b ≡ true → just p b ≡ b ∷ []
  unfolding just
  just_yes b e = rw e

  pub just_no : (b : ℕ) → p b ≡ false → just p b ≡ []
  unfolding just
  just_no b e = rw e

  -- the two go together: either both are there or neither
  count_of : (t : Bool) (b : ℕ) → (length (cond t (b ∷ []) []) ≡ cond t 1 0) × (cond t 1 0 ≤ 1)
  count_of true b = (refl, omega arith)
  count_of false b = (refl, omega arith)

  pub one-le : (b : ℕ) → one p b ≤ 1
  unfolding one
  one-le b = (count_of (p b) b).1

  pub length-just : (b : ℕ) → length (just p b) ≡ one p b
  unfolding just one
  length-just b = (count_of (p b) b).0

  -- ---- the first: it lies in the run or right after it; within the run it passes; and nothing below it does

  pub first-le : (b k : ℕ) → (b ≤ first p b k) × (first p b k ≤ b + k)
  unfolding first
  first-le b zero = omega arith
  first-le b (suc k) = go (first-le (b + 1) k) (p b)
    where
      go : (b + 1 ≤ first p (b + 1) k) × (first p (b + 1) k ≤ b + 1 + k)
          → (t : Bool) → (b ≤ cond t b (first p (b + 1) k)) × (cond t b (first p (b + 1) k) ≤ b + suc k)
      go r true = omega arith
      go r false = omega arith

  pub first_passes : (b k : ℕ) → first p b k < b + k → p (first p b k) ≡ true
  unfolding first
  first_passes b zero h = absurd (omega arith)
  first_passes b (suc k) h = go (first_passes (b + 1) k) (p b) refl h
    where
      go : (first p (b + 1) k < b + 1 + k → p (first p (b + 1) k) ≡ true)
          → (t : Bool) → p b ≡ t → cond t b (first p (b + 1) k) < b + suc k → p (cond t b (first p (b + 1) k)) ≡ true
      go r true e h = e
      go r false e h = r (omega arith)

  pub first-lowest : (b k x : ℕ) → b ≤ x → x < first p b k → p x ≡ false
  unfolding first
  first-lowest b zero x l h = absurd (omega arith)
  first-lowest b (suc k) x l h = go (first-lowest (b + 1) k x) (p b) refl h
    where
      go : (b + 1 ≤ x → x < first p (b + 1) k → p x ≡ false) → (t : Bool) → p b ≡ t → x < cond t b (first p (b + 1) k)
          → p x ≡ false
      go r true e h = absurd (omega arith)
      go r false e h = ⊎_elim (λ (q : b ≡ x). ap p (sym q) ∙ e) (λ (q : b < x). r (omega arith) h) (eq-or-lt_of_le l)

  -- ---- the first of a run in two parts is that of the first part where it has one, else that of the second

  pub first_within : (b k m : ℕ) → first p b k < b + k → first p b (k + m) ≡ first p b k
  unfolding first
  first_within b zero m h = absurd (omega arith)
  first_within b (suc k) m h = let e : suc k + m
      ≡ suc (k + m) = omega arith in rw e (go (p b) (first_within (b + 1) k m) h)
    where
      go : (t : Bool) → (first p (b + 1) k < b + 1 + k → first p (b + 1) (k + m) ≡ first p (b + 1) k)
          → cond t b (first p (b + 1) k) < b + suc k → cond t b (first p (b + 1) (k + m)) ≡ cond t b (first p (b + 1) k)
      go true r h = refl
      go false r h = r (omega arith)

  pub first_beyond : (b k m : ℕ) → first p b k ≡ b + k → first p b (k + m) ≡ first p (b + k) m
  unfolding first
  first_beyond b zero m h = let e : zero + m ≡ m = omega arith in let z : b + zero ≡ b = omega arith in rw (e, z)
  first_beyond b (suc k) m h =
      let e : suc k + m ≡ suc (k + m) = omega arith in
      let z : b + suc k ≡ b + 1 + k = omega arith in
      rw (e, z) (go (p b) (first_beyond (b + 1) k m) h)
    where
      go : (t : Bool) → (first p (b + 1) k ≡ b + 1 + k → first p (b + 1) (k + m) ≡ first p (b + 1 + k) m)
          → cond t b (first p (b + 1) k) ≡ b + suc k → cond t b (first p (b + 1) (k + m)) ≡ first p (b + 1 + k) m
      go true r h = absurd (omega arith)
      go false r h = r (omega arith)

  -- a test that says of each number of a run what p says b higher
  pub first-moved : (q : ℕ → Bool) (b c k : ℕ) → ((x : ℕ) → c ≤ x → x < c + k → p (b + x) ≡ q x)
      → first p (b + c) k ≡ b + first q c k
  unfolding first
  first-moved q b c zero h = refl
  first-moved q b c (suc k) h =
      let z : b + c + 1 ≡ b + (c + 1) = omega arith in
      rw (z, h c (omega arith) (omega arith))
      (go (q c) (first-moved q b (c + 1) k (λ x l u. h x (omega arith) (omega arith))))
    where
      go : (t : Bool) → first p (b + (c + 1)) k ≡ b + first q (c + 1) k
          → cond t (b + c) (first p (b + (c + 1)) k) ≡ b + cond t c (first q (c + 1) k)
      go true r = refl
      go false r = r

  -- ---- how far a visit goes: somewhere if it may, and at most `most`

  pub visits-pos : (most wanted b : ℕ) → 0 < most → 0 < wanted → 0 < visits p most wanted b
  unfolding visits
  visits-pos zero wanted b h k = absurd (not-suc-le-zero h)
  visits-pos (suc most) zero b h k = absurd (not-suc-le-zero k)
  visits-pos (suc most) (suc wanted) b h k = omega arith

  pub visits-le : (most wanted b : ℕ) → visits p most wanted b ≤ most
  unfolding visits
  visits-le zero wanted b = omega arith
  visits-le (suc most) zero b = omega arith
  visits-le (suc most) (suc wanted) b = omega (arith, visits-le most (suc wanted - one p b) (b + 1))

  -- it picks no more than wanted
  pub picked-le : (most wanted b : ℕ) → length (picked p b (visits p most wanted b)) ≤ wanted
  unfolding visits picked
  picked-le zero wanted b = omega arith
  picked-le (suc most) zero b = omega arith
  picked-le (suc most) (suc wanted) b =
      rw length-append (omega (arith, one-le b, length-just b, picked-le most (suc wanted - one p b) (b + 1)))

  -- it stops for one of two reasons: no more may be visited, or as many as wanted have passed
  pub visits_why : (most wanted b : ℕ)
      → (visits p most wanted b ≡ most) ⊎ (length (picked p b (visits p most wanted b)) ≡ wanted)
  unfolding visits picked
  visits_why zero wanted b = inl refl
  visits_why (suc most) zero b = inr refl
  visits_why (suc most) (suc wanted) b =
      ⊎_elim (λ e. inl (ap suc e)) (λ e. inr (rw length-append (omega (arith, one-le b, length-just b, e))))
      (visits_why most (suc wanted - one p b) (b + 1))

  -- and not before: at each number visited, fewer than wanted have passed
  pub visits-first : (most wanted b k : ℕ) → k < visits p most wanted b → length (picked p b k) < wanted
  unfolding visits picked
  visits-first zero wanted b k h = absurd (not-suc-le-zero h)
  visits-first (suc most) zero b k h = absurd (not-suc-le-zero h)
  visits-first (suc most) (suc wanted) b zero h = omega arith
  visits-first (suc most) (suc wanted) b (suc k) h =
      rw length-append (omega (
        arith,
        one-le b,
        length-just b,
        visits-first most (suc wanted - one p b) (b + 1) k
            (omega arith),
      ))

  -- ---- what is picked: each number of the run that passes, once, and nothing else

  times-just_same : (b : ℕ) → times b (just p b) ≡ one p b
  unfolding just one times
  times-just_same b = go (p b)
    where
      go : (t : Bool) → times b (cond t (b ∷ []) []) ≡ cond t 1 0
      go true = rw (eq-eqb b b refl)
      go false = refl

  times-just_other : (b x : ℕ) → (x ≡ b → ⊥) → times x (just p b) ≡ 0
  unfolding just times
  times-just_other b x d = go (p b)
    where
      go : (t : Bool) → times x (cond t (b ∷ []) []) ≡ 0
      go true = rw (ne_eqb x b d)
      go false = refl

  pub picked-none-below : (b k x : ℕ) → x < b → times x (picked p b k) ≡ 0
  unfolding picked times
  picked-none-below b zero x h = refl
  picked-none-below b (suc k) x h =
      times_append x (just p b) (picked p (b + 1) k)
      ∙ omega (arith, times-just_other b x (λ e. omega arith), picked-none-below (b + 1) k x (omega arith))

  pub picked-none-above : (b k x : ℕ) → b + k ≤ x → times x (picked p b k) ≡ 0
  unfolding picked times
  picked-none-above b zero x h = refl
  picked-none-above b (suc k) x h =
      times_append x (just p b) (picked p (b + 1) k)
      ∙ omega (arith, times-just_other b x (λ e. omega arith), picked-none-above (b + 1) k x (omega arith))

  pub picked_once : (b k x : ℕ) → b ≤ x → x < b + k → times x (picked p b k) ≡ one p x
  unfolding picked
  picked_once b zero x l h = absurd (omega arith)
  picked_once b (suc k) x l h =
      times_append x (just p b) (picked p (b + 1) k)
      ∙ ⊎_elim
      (λ (e : b ≡ x). rw (← e, times-just_same b, picked-none-below (b + 1) k b (omega arith)) (omega arith))
      (λ (e : b < x). rw (times-just_other b x (λ q. omega arith), picked_once (b + 1) k x (omega arith) (omega arith))
      (omega arith))
      (eq-or-lt_of_le l)

  pub picked_few : (b k : ℕ) → length (picked p b k) ≤ k
  unfolding picked
  picked_few b zero = omega arith
  picked_few b (suc k) = rw length-append (omega (arith, one-le b, length-just b, picked_few (b + 1) k))

  pub picked_none : (b k : ℕ) → ((x : ℕ) → b ≤ x → x < b + k → p x ≡ false) → picked p b k ≡ []
  unfolding picked
  picked_none b zero h = refl
  picked_none b (suc k) h = rw
      (just_no b (h b (omega arith) (omega arith)), picked_none (b + 1) k (λ x l u. h x (omega arith) (omega arith)))

  -- ---- a run is what its two parts are

  pub picked_append : (b k m : ℕ) → picked p b (k + m) ≡ picked p b k ++ picked p (b + k) m
  unfolding picked
  picked_append b zero m = let e : zero + m ≡ m = omega arith in let z : b + zero ≡ b = omega arith in rw (e, z)
  picked_append b (suc k) m =
      let e : suc k + m ≡ suc (k + m) = omega arith in
      let z : b + suc k ≡ b + 1 + k = omega arith in
      rw (e, z, append_assoc) (ap (λ r. just p b ++ r) (picked_append (b + 1) k m))

  pub all_parts : (b k m : ℕ) → all_of p b (k + m) ≡ (all_of p b k && all_of p (b + k) m)
  unfolding all_of
  all_parts b zero m = let e : zero + m ≡ m = omega arith in let z : b + zero ≡ b = omega arith in rw (e, z)
  all_parts b (suc k) m =
      let e : suc k + m ≡ suc (k + m) = omega arith in
      let z : b + suc k ≡ b + 1 + k = omega arith in
      rw (e, z, all_parts (b + 1) k m) (sym (and_assoc (p b) (all_of p (b + 1) k) (all_of p (b + 1 + k) m)))

  -- ---- all pass, where each does

  pub all-each : (b k x : ℕ) → all_of p b k ≡ true → b ≤ x → x < b + k → p x ≡ true
  unfolding all_of
  all-each b zero x e l h = absurd (omega arith)
  all-each b (suc k) x e l h =
      let w = both (p b) (all_of p (b + 1) k) e in
      ⊎_elim (λ (q : b ≡ x). ap p (sym q) ∙ w.0)
      (λ (q : b < x). all-each (b + 1) k x w.1 (omega arith) (omega arith)) (eq-or-lt_of_le l)

  pub all_same : (q : ℕ → Bool) (b k : ℕ) → ((x : ℕ) → b ≤ x → x < b + k → p x ≡ q x) → all_of p b k ≡ all_of q b k
  unfolding all_of
  all_same q b zero h = refl
  all_same q b (suc k) h = rw
      (h b (omega arith) (omega arith), all_same q (b + 1) k (λ x l u. h x (omega arith) (omega arith)))

  pub each_all : (b k : ℕ) → ((x : ℕ) → b ≤ x → x < b + k → p x ≡ true) → all_of p b k ≡ true
  unfolding all_of
  each_all b zero h = refl
  each_all b (suc k) h = rw
      (h b (omega arith) (omega arith), each_all (b + 1) k (λ x l u. h x (omega arith) (omega arith)))

  -- ---- what holds of each number that passes holds of each that is picked

  every_append : (P : ℕ → Type 0) (xs ys : List ℕ) → Every P xs → Every P ys → Every P (xs ++ ys)
  every_append P [] ys a b = b
  every_append P (x ∷ xs) ys a b = (a.0, every_append P xs ys a.1 b)

  pub every_picked : (P : ℕ → Type 0) (b k : ℕ) → ((x : ℕ) → b ≤ x → x < b + k → p x ≡ true → P x)
      → Every P (picked p b k)
  unfolding picked
  every_picked P b zero h = tt
  every_picked P b (suc k) h =
      every_append P (just p b) (picked p (b + 1) k)
      (⊎_elim (λ (e : p b ≡ true). rw (just_yes b e) (h b (omega arith) (omega arith) e, tt)) (λ (e : p b
      ≡ false). rw (just_no b e) tt) (decide (p b)))
      (every_picked P (b + 1) k (λ x l u. h x (omega arith) (omega arith)))

-- ---- two changes at each number of a list: all of the one and then all of the other, where they swap, are both at
-- each number in turn

module _ {S : Type 0} (Q : S → Type 0) (P : ℕ → Type 0) (f g : S → ℕ → S)
    (keeps : (s : S) (b : ℕ) → Q s → P b → Q (f s b))
    (keeps' : (s : S) (b : ℕ) → Q s → P b → Q (g s b))
    (swap : (s : S) (b c : ℕ) → Q s → P b → P c → g (f s c) b ≡ f (g s b) c) where
  across : (s : S) (b : ℕ) (cs : List ℕ) → Q s → P b → Every P cs → g (each f s cs) b ≡ each f (g s b) cs
  unfolding each
  across s b [] q p e = refl
  across s b (c ∷ cs) q p e = across (f s c) b cs (keeps s c q e.0) p e.1
      ∙ ap (λ r. each f r cs) (swap s b c q p e.0)

  pub each_both : (s : S) (bs : List ℕ) → Q s → Every P bs → each g (each f s bs) bs ≡ each (λ s b. g (f s b) b) s bs
  unfolding each
  each_both s [] q e = refl
  each_both s (b ∷ bs) q e =
      ap (λ r. each g r bs) (across (f s b) b bs (keeps s b q e.0) e.0 e.1)
      ∙ each_both (g (f s b) b) bs (keeps' (f s b) b (keeps s b q e.0) e.0) e.1
