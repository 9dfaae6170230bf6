-- Sizes: a set has one, and how it changes when a member comes or members go.
-- Assumes nothing.
use Prim.Native.Nat.{ℕ, suc, ◌+◌, ◌≤◌, ◌<◌}
use mathlib.Core.Path.{◌≡◌, refl, sym, ◌∙◌, ap}
use mathlib.Core.Bool.{Bool, true, false, cond, not, ◌&&◌, ◌||◌, and-true, true≢false}
use mathlib.Core.List.{List, [], ◌∷◌, ◌++◌}
use mathlib.Core.Logic.{⊎_elim}
use native.Mathlib.Omega.{arith}
use borrow.Author.Tests.{eqb-true, eq-eqb, ne_eqb}
use lib.Dec.{eqb}
use lib.ListN.{length, length-append}
use Rattle.plain.specs.Tests.{decide, both}
use Rattle.run.specs.Run.{one, just, times}
use Rattle.run.proofs.Laws.{one_yes, one_no, one-le, just_yes, just_no, length-just, times_append}
use Rattle.manual.specs.Sets.{Set, ◌∈◌, ◌∉◌, only, ◌∪◌, ◌∖◌, ◌⊆◌, ◌≈◌, Lists, HasSize, OneSize}

-- ---- one size

-- the list without the first y
del : ℕ → List ℕ → List ℕ
del y [] = []
del y (z ∷ m) = cond (eqb y z) m (z ∷ del y m)

-- what a list is to the list that lacks one y of it
record Deleted (y : ℕ) (m d : List ℕ) : Type 0 where
  times_same : (x : ℕ) → times x m ≡ times x (y ∷ d)
  shorter : length m ≡ suc (length d)

deleted : (y : ℕ) (m : List ℕ) → 0 < times y m → Deleted y m (del y m)
unfolding del times
deleted y [] h = absurd (omega arith)
deleted y (z ∷ m) h = go (λ l. deleted y m l) (eqb y z) refl
  where
    go : (0 < times y m → Deleted y m (del y m)) → (q : Bool) → eqb y z ≡ q
        → Deleted y (z ∷ m) (cond (eqb y z) m (z ∷ del y m))
    go ih true e = rw (e, eqb-true y z e) (record { times_same = λ x. refl; shorter = refl })
    go ih false e =
        let d = ih (omega (arith, rw e at h)) in
        rw e (record { times_same = λ x. omega (arith, d.times_same x); shorter = omega (arith, d.shorter) })

same_length : (l m : List ℕ) → ((x : ℕ) → times x l ≡ times x m) → length l ≡ length m
unfolding times
same_length [] [] h = refl
same_length [] (y ∷ m) h = absurd (omega (arith, rw (eq-eqb y y refl) at (h y)))
same_length (y ∷ l) m h =
    let d = deleted y m (omega (arith, rw (eq-eqb y y refl) at (h y))) in
    omega (arith, d.shorter, same_length l (del y m) (λ x. omega (arith, h x, d.times_same x)))

one_same : {X Y : Set} → X ≈ Y → (x : ℕ) → one X x ≡ one Y x
unfolding one
one_same e x = ap (λ (t : Bool). cond t 1 0) (e x)

-- two lists of one set name alike, and are as long as each other
pub one-naming : {X Y : Set} (l m : List ℕ) → X ≈ Y → Lists l X → Lists m Y → (x : ℕ) → times x l ≡ times x m
one-naming l m e a b x = a x ∙ one_same e x ∙ sym (b x)

pub one-length : {X Y : Set} (l m : List ℕ) → X ≈ Y → Lists l X → Lists m Y → length l ≡ length m
one-length l m e a b = same_length l m (one-naming l m e a b)

pub one_size : {X Y : Set} {n m : ℕ} → X ≈ Y → HasSize X n → HasSize Y m → n ≡ m
one_size e a b = sym a.2 ∙ one-length a.0 b.0 e a.1 b.1 ∙ b.2

pub a_set_has_one_size : OneSize
a_set_has_one_size X n m a b = one_size (λ x. refl) a b

pub resized : {X Y : Set} {n : ℕ} → X ≈ Y → HasSize X n → HasSize Y n
resized e a = (a.0, λ x. a.1 x ∙ one_same e x, a.2)

-- ---- a member comes

pub added : (X : Set) {n : ℕ} (i : ℕ) → i ∉ X → HasSize X n → HasSize (only i ∪ X) (suc n)
unfolding times one
added X i o a = (i ∷ a.0, λ x. go x (eqb x i) refl, ap suc a.2)
  where
    go : (x : ℕ) (q : Bool) → eqb x i ≡ q → cond (eqb x i) 1 0 + times x a.0 ≡ cond (eqb x i || X x) 1 0
    go x true e = let z = a.1 i ∙ one_no X i o in rw (e, eqb-true x i e) (omega arith)
    go x false e = rw (e, a.1 x) (omega arith)

-- ---- members go

keep : Set → List ℕ → List ℕ
keep X [] = []
keep X (y ∷ l) = just X y ++ keep X l

module _ (X : Set) (x : ℕ) where
  just_in : x ∈ X → (y : ℕ) → times x (just X y) ≡ times x (y ∷ [])
  unfolding times
  just_in i y =
      ⊎_elim (λ (e : y ∈ X). rw (just_yes X y e))
      (λ (e : y ∉ X). rw (just_no X y e, ne_eqb x y (λ q. true≢false (sym i ∙ ap X q ∙ e)))) (decide (X y))

  just_out : x ∉ X → (y : ℕ) → times x (just X y) ≡ 0
  unfolding times
  just_out o y =
      ⊎_elim (λ (e : y ∈ X). rw (just_yes X y e, ne_eqb x y (λ q. true≢false (sym e ∙ ap X (sym q) ∙ o))))
      (λ (e : y ∉ X). rw (just_no X y e)) (decide (X y))

  kept_in : x ∈ X → (l : List ℕ) → times x (keep X l) ≡ times x l
  unfolding keep times
  kept_in i [] = refl
  kept_in i (y ∷ l) = times_append x (just X y) (keep X l) ∙ omega (arith, just_in i y, kept_in i l)

  kept_out : x ∉ X → (l : List ℕ) → times x (keep X l) ≡ 0
  unfolding keep times
  kept_out o [] = refl
  kept_out o (y ∷ l) = times_append x (just X y) (keep X l) ∙ omega (arith, just_out o y, kept_out o l)

keep_shorter : (X : Set) (l : List ℕ) → length (keep X l) ≤ length l
unfolding keep
keep_shorter X [] = omega arith
keep_shorter X (y ∷ l) = rw length-append (omega (arith, length-just X y, one-le X y, keep_shorter X l))

pub fewer : {X Y : Set} {n : ℕ} → X ⊆ Y → HasSize Y n → (m : ℕ) × HasSize X m × (m ≤ n)
fewer {X} {Y} s a = (length (keep X a.0), (keep X a.0, names, refl), omega (arith, keep_shorter X a.0, a.2))
  where
    names : Lists (keep X a.0) X
    names x =
        ⊎_elim (λ (e : x ∈ X). kept_in X x e a.0 ∙ a.1 x ∙ one_yes Y x (s x e) ∙ sym (one_yes X x e))
        (λ (e : x ∉ X). kept_out X x e a.0 ∙ sym (one_no X x e)) (decide (X x))

-- one member goes: one fewer
pub taken : (X : Set) {n : ℕ} (i : ℕ) → i ∈ X → HasSize X n → (m : ℕ) × HasSize (X ∖ only i) m × (suc m ≡ n)
taken X {n} i h a = (f.0, f.1, one_size same (added (X ∖ only i) i gone f.1) a)
  where
    f : (m : ℕ) × HasSize (X ∖ only i) m × (m ≤ n)
    f = fewer (λ x e. (both (X x) (not (eqb x i)) e).0) a

    gone : i ∉ X ∖ only i
    gone = rw (h, eq-eqb i i refl)

    same : only i ∪ (X ∖ only i) ≈ X
    same x = go (eqb x i) refl
      where
        go : (q : Bool) → eqb x i ≡ q → eqb x i || (X x && not (eqb x i)) ≡ X x
        go true e = rw e (sym (ap X (eqb-true x i e) ∙ h))
        go false e = rw e (and-true (X x))
