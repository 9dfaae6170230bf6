-- One turn and the end of each definition of Run.antt, in the terms of a loop that counts the number up and what is
-- left down.
-- Assumes nothing.
use Prim.Native.Nat.{ℕ, zero, suc, ◌+◌, ◌-◌, ◌*◌, ◌≤◌, ◌<◌}
use mathlib.Core.Path.{◌≡◌, refl, sym, ap, ◌∙◌}
use mathlib.Core.Bool.{Bool, true, false}
use mathlib.Core.List.{List, [], ◌∷◌, ◌++◌, append-nil, append_assoc}
use native.Mathlib.Nat.{not-suc-le-zero, mul-add}
use native.Mathlib.Omega.{arith}
use lib.ListN.{length, length-append}
use Rattle.plain.specs.Tests.{both}
use Rattle.word.specs.Write.{over}
use Rattle.word.proofs.Laws.{over_nil, over_append}
use Rattle.run.specs.Run.{one, just, picked, all_of, first, visits, rows, each}
use Rattle.run.proofs.Laws.{just_yes, just_no, length-just}

less : (m : ℕ) → suc m - 1 ≡ m
less m = omega arith

module _ (p : ℕ → Bool) where
  -- ---- how many are visited

  pub visits_turn : (most wanted b : ℕ) → 0 < most → 0 < wanted
      → visits p most wanted b ≡ suc (visits p (most - 1) (wanted - one p b) (b + 1))
  unfolding visits
  visits_turn zero wanted b h k = absurd (not-suc-le-zero h)
  visits_turn (suc most) zero b h k = absurd (not-suc-le-zero k)
  visits_turn (suc most) (suc wanted) b h k = rw less

  pub visits_end : (most wanted b : ℕ) → most ≤ 0 → visits p most wanted b ≡ 0
  unfolding visits
  visits_end zero wanted b h = refl
  visits_end (suc most) wanted b h = absurd (not-suc-le-zero h)

  pub visits_full : (most wanted b : ℕ) → wanted ≤ 0 → visits p most wanted b ≡ 0
  unfolding visits
  visits_full zero wanted b h = refl
  visits_full (suc most) zero b h = refl
  visits_full (suc most) (suc wanted) b h = absurd (not-suc-le-zero h)

  -- ---- the first

  pub first-here : (b k : ℕ) → 0 < k → p b ≡ true → first p b k ≡ b
  unfolding first
  first-here b zero h e = absurd (not-suc-le-zero h)
  first-here b (suc k) h e = rw e

  pub first_turn : (b k : ℕ) → 0 < k → p b ≡ false → first p (b + 1) (k - 1) ≡ first p b k
  unfolding first
  first_turn b zero h e = absurd (not-suc-le-zero h)
  first_turn b (suc k) h e = rw (less, e)

  pub first_end : (b k : ℕ) → k ≤ 0 → first p b k ≡ b
  unfolding first
  first_end b zero h = refl
  first_end b (suc k) h = absurd (not-suc-le-zero h)

  -- ---- all pass

  pub all_turn : (b k : ℕ) → 0 < k → p b ≡ true → all_of p (b + 1) (k - 1) ≡ all_of p b k
  unfolding all_of
  all_turn b zero h e = absurd (not-suc-le-zero h)
  all_turn b (suc k) h e = rw (less, e)

  pub all_stop : (b k : ℕ) → 0 < k → p b ≡ false → false ≡ all_of p b k
  unfolding all_of
  all_stop b zero h e = absurd (not-suc-le-zero h)
  all_stop b (suc k) h e = rw e

  pub all_end : (b k : ℕ) → k ≤ 0 → true ≡ all_of p b k
  unfolding all_of
  all_end b zero h = refl
  all_end b (suc k) h = absurd (not-suc-le-zero h)

  pub all_split : (b k : ℕ) → 0 < k → all_of p b k ≡ true → (p b ≡ true) × (all_of p (b + 1) (k - 1) ≡ true)
  unfolding all_of
  all_split b zero h e = absurd (not-suc-le-zero h)
  all_split b (suc k) h e = rw less (both (p b) (all_of p (b + 1) k) e)

  -- ---- all that are visited under p pass q

  module _ (q : ℕ → Bool) where
    pub visited-turn : (most wanted b : ℕ) → 0 < most → 0 < wanted → q b ≡ true
        → all_of q (b + 1) (visits p (most - 1) (wanted - one p b) (b + 1)) ≡ all_of q b (visits p most wanted b)
    unfolding all_of
    visited-turn most wanted b h k e = rw (visits_turn most wanted b h k, e)

    pub visited-stop : (most wanted b : ℕ) → 0 < most → 0 < wanted → q b ≡ false
        → false ≡ all_of q b (visits p most wanted b)
    unfolding all_of
    visited-stop most wanted b h k e = rw (visits_turn most wanted b h k, e)

  -- ---- what passes

  pub picked_turn : (b k : ℕ) → 0 < k → picked p b k ≡ just p b ++ picked p (b + 1) (k - 1)
  unfolding picked
  picked_turn b zero h = absurd (not-suc-le-zero h)
  picked_turn b (suc k) h = rw less

  pub picked_end : (b k : ℕ) → k ≤ 0 → picked p b k ≡ []
  unfolding picked
  picked_end b zero h = refl
  picked_end b (suc k) h = absurd (not-suc-le-zero h)

  pub count_turn : (b k : ℕ) → 0 < k → length (picked p b k) ≡ one p b + length (picked p (b + 1) (k - 1))
  count_turn b k h = rw (picked_turn b k h, length-append, length-just)

  pub count_end : (b k : ℕ) → k ≤ 0 → length (picked p b k) ≡ 0
  count_end b k h = rw (picked_end b k h)

  -- ---- a state that f changes at each that passes

  module _ {S : Type 0} (f : S → ℕ → S) where
    each_append : (s : S) (xs ys : List ℕ) → each f s (xs ++ ys) ≡ each f (each f s xs) ys
    unfolding each
    each_append s [] ys = refl
    each_append s (x ∷ xs) ys = each_append (f s x) xs ys

    pub each-yes : (s : S) (b : ℕ) → p b ≡ true → f s b ≡ each f s (just p b)
    unfolding each
    each-yes s b e = rw (just_yes p b e)

    pub each-no : (s : S) (b : ℕ) → p b ≡ false → s ≡ each f s (just p b)
    unfolding each
    each-no s b e = rw (just_no p b e)

    pub each_turn : (s : S) (b k : ℕ) → 0 < k
        → each f (each f s (just p b)) (picked p (b + 1) (k - 1)) ≡ each f s (picked p b k)
    each_turn s b k h = rw (picked_turn b k h, each_append)

    pub each-end : (s : S) (b k : ℕ) → k ≤ 0 → s ≡ each f s (picked p b k)
    unfolding each
    each-end s b k h = rw (picked_end b k h)

  -- ---- a buffer that takes the row f of each that passes, w bytes a row: the rows that are left, written over what
  -- there is

  module _ (f : ℕ → List ℕ) where
    rows_append : (xs ys : List ℕ) → rows f (xs ++ ys) ≡ rows f xs ++ rows f ys
    unfolding rows
    rows_append [] ys = refl
    rows_append (x ∷ xs) ys = ap (λ r. f x ++ r) (rows_append xs ys) ∙ sym (append_assoc (f x) (rows f xs) (rows f ys))

    pub row-yes : (b : ℕ) → p b ≡ true → rows f (just p b) ≡ f b
    unfolding rows
    row-yes b e = rw (just_yes p b e) (append-nil (f b))

    pub row-no : (b : ℕ) → p b ≡ false → rows f (just p b) ≡ []
    unfolding rows
    row-no b e = rw (just_no p b e)

    module _ (w : ℕ) (wide : (b : ℕ) → length (f b) ≡ w) where
      pub length-rows : (bs : List ℕ) → length (rows f bs) ≡ w * length bs
      unfolding rows
      length-rows [] = omega arith
      length-rows (b ∷ bs) = rw (length-append, wide, length-rows bs) (omega arith)

      pub rows-turn : (l : List ℕ) (i b k : ℕ) → 0 < k → w * i ≤ length l
          → over (over l (w * i) (rows f (just p b))) (w * (i + one p b)) (rows f (picked p (b + 1) (k - 1)))
          ≡ over l (w * i) (rows f (picked p b k))
      rows-turn l i b k h g =
          let e : w * (i + one p b) ≡ w * i + length (rows f (just p b)) = rw (mul-add, length-rows, length-just) in
          rw (
            e,
            over_append l (w * i) (rows f (just p b)) (rows f (picked p (b + 1) (k - 1))) g,
            picked_turn b k h,
            rows_append,
          )

      pub rows_end : (l : List ℕ) (i b k : ℕ) → k ≤ 0 → over l i (rows f (picked p b k)) ≡ l
      unfolding rows
      rows_end l i b k h = rw (picked_end b k h) (over_nil l i)
