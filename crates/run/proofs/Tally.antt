-- Laws of runs that soundness needs: what one number changes in a run, and how many of a run an owner has.
-- Assumes nothing.
use Prim.Native.Nat.{ℕ, zero, suc, ◌+◌, ◌-◌, ◌≤◌, ◌<◌}
use Rattle.std.specs.Prelude.{◌≡◌, Bool, ◌&&◌, ◌||◌, ◌≢◌, ◌⊎◌, length}
use Rattle.std.proofs.Math.Path.{refl}
use Rattle.std.proofs.Common.{sym, ap, ◌∙◌, inl, inr, ⊎_elim, eq-or-lt_of_le, arith}
use Rattle.std.proofs.Math.Bool.{true, false, cond}
use mathlib.Core.List.{[], ◌∷◌, map, map-append}
use Rattle.std.proofs.Math.Decide.{ℕ_discrete}
use borrow.Author.Tests.{eq-eqb, ne_eqb}
use Rattle.std.proofs.Math.Dec.{eqb}
use Rattle.std.proofs.Math.ListN.{length-append}
use Rattle.plain.specs.Tests.{decide}
use Rattle.run.specs.Run.{one, just, picked, times}
use Rattle.run.proofs.Laws.{one_yes, one_no, just_yes, length-just, times_append, picked_few, picked_append}

one_same : (p q : ℕ → Bool) (b : ℕ) → p b ≡ q b → one p b ≡ one q b
unfolding one
one_same p q b e = rw e

pub picked_same : (p q : ℕ → Bool) (b k : ℕ) → ((x : ℕ) → b ≤ x → x < b + k → p x ≡ q x) → picked p b k ≡ picked q b k
unfolding picked just
picked_same p q b zero h = refl
picked_same p q b (suc k) h = rw
    (h b (omega arith) (omega arith), picked_same p q (b + 1) k (λ x l u. h x (omega arith) (omega arith)))

-- two tests that differ at most at c
pub picked_changed : (p q : ℕ → Bool) (c b k : ℕ) → b ≤ c → c < b + k
    → ((x : ℕ) → b ≤ x → x < b + k → x ≢ c → q x ≡ p x)
    → length (picked q b k) + one p c ≡ length (picked p b k) + one q c
unfolding picked
picked_changed p q c b zero l u h = absurd (omega arith)
picked_changed p q c b (suc k) l u h =
    rw (length-append (just q b), length-append (just p b))
    (⊎_elim
    (λ (e : b ≡ c).
    let z = ap length (picked_same q p (b + 1) k (λ x v w. h x (omega arith) (omega arith) (λ r. omega arith))) in
    rw e (omega (arith, length-just p c, length-just q c, rw e at z)))
    (λ (e : b < c).
    omega (
      arith,
      length-just p b,
      length-just q b,
      one_same q p b (h b (omega arith) (omega arith) (λ r. omega arith)),
      picked_changed p q c (b + 1) k (omega arith) (omega arith) (λ x v w d. h x (omega arith) (omega arith) d),
    ))
    (eq-or-lt_of_le l))

-- all of a run pass, or one of it does not
pub picked_all : (p : ℕ → Bool) (b k : ℕ) → ((x : ℕ) → b ≤ x → x < b + k → p x ≡ true) → length (picked p b k) ≡ k
unfolding picked
picked_all p b zero h = refl
picked_all p b (suc k) h =
    rw (just_yes p b (h b (omega arith) (omega arith)))
    (ap suc (picked_all p (b + 1) k (λ x l u. h x (omega arith) (omega arith))))

pub picked_fewer : (p : ℕ → Bool) (c k : ℕ) → c < k → p c ≡ false → length (picked p 0 k) < k
picked_fewer p c k l e =
    let z = picked_changed p (λ x. eqb x c || p x) c 0 k (omega arith) (omega arith) (λ x v w q. rw (ne_eqb x c q)) in
    let y : one (λ x. eqb x c || p x) c ≡ 1 = one_yes (λ x. eqb x c || p x) c (rw (eq-eqb c c refl)) in
    omega (arith, one_no p c e, picked_few (λ x. eqb x c || p x) 0 k)

-- fewer pass a stronger test, and fewer are in a part of a run
pub picked_mono : (p q : ℕ → Bool) (b k : ℕ) → ((x : ℕ) → p x ≡ true → q x ≡ true)
    → length (picked p b k) ≤ length (picked q b k)
unfolding picked
picked_mono p q b zero h = omega arith
picked_mono p q b (suc k) h =
    rw (length-append (just p b), length-append (just q b))
    (omega (arith, length-just p b, length-just q b, one-mono (decide (p b)), picked_mono p q (b + 1) k h))
  where
    one-mono : (p b ≡ true) ⊎ (p b ≡ false) → one p b ≤ one q b
    one-mono (inl e) = omega (arith, one_yes p b e, one_yes q b (h b e))
    one-mono (inr e) = omega (arith, one_no p b e)

pub picked-part : (p : ℕ → Bool) (b k n : ℕ) → b + k ≤ n → length (picked p b k) ≤ length (picked p 0 n)
picked-part p b k n h =
    let e : b + (k + (n - (b + k))) ≡ n = omega arith in
    let z : 0 + b ≡ b = omega arith in
    let w = rw z at (ap length (picked_append p 0 b (k + (n - (b + k)))) ∙ length-append (picked p 0 b) _) in
    let v = ap length (picked_append p b k (n - (b + k))) ∙ length-append (picked p b k) _ in
    let u : length (picked p b k) ≤ length (picked p 0 (b + (k + (n - (b + k))))) = omega (arith, w, v) in
    rw e at u

-- an owner, as often as among the owners of a run
module _ (p : ℕ → Bool) (f : ℕ → ℕ) (u : ℕ) where
  abbrev his : ℕ → Bool
  his x = p x && eqb (f x) u

  his-one : (b : ℕ) → times u (map f (just p b)) ≡ one his b
  unfolding times one just
  his-one b = go (p b) (ℕ_discrete u (f b))
    where
      go : (t : Bool) → Dec (u ≡ f b) → times u (map f (cond t (b ∷ []) [])) ≡ cond (t && eqb (f b) u) 1 0
      go false d = refl
      go true (yes q) = rw (eq-eqb u (f b) q, eq-eqb (f b) u (sym q))
      go true (no d) = rw (ne_eqb u (f b) d, ne_eqb (f b) u (λ r. d (sym r)))

  pub times-picked : (b k : ℕ) → times u (map f (picked p b k)) ≡ length (picked his b k)
  unfolding picked times
  times-picked b zero = refl
  times-picked b (suc k) =
      rw (
        map-append,
        times_append u (map f (just p b)),
        length-append,
        his-one b,
        length-just his b,
        times-picked
            (b + 1) k,
      )
