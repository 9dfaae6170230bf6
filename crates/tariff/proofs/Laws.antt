-- Laws of the charges: each is one difference of two naturals, and none leaves the range of Money.
-- Assumes nothing.
use Rattle.std.specs.Prelude.{◌≡◌, ℕ, ◌+◌, ◌*◌, ◌^◌, ◌<◌, ℤ, pos, negsuc}
use Rattle.std.proofs.Common.{◌∙◌, arith}
use Rattle.std.specs.Int.Signed.{mag}
use Rattle.plain.specs.Numbers.{product}
use Rattle.tariff.specs.Charges.{T, create_charge, destroy_charge, replace_charge, set_expiry_charge}
use Rattle.tariff.specs.Diff.{diff, diff_minus, diff_mul, diff_neg, diff-pos, diff_add, diff_same, mag-diff}
use Rattle.tariff.specs.declared.Tariff.{Tariff}

pub T-diff : (t : Tariff) (c e : ℕ) → T t c e ≡ diff (t.rate * e) (t.rate * c)
unfolding T
T-diff t c e = rw (diff_minus e c) (diff_mul t.rate e c)

-- ---- each charge as what is owed less what is given back

pub create_diff : (t : Tariff) (c' e' : ℕ) → create_charge t c' e' ≡ diff (t.create + t.rate * e') (t.rate * c')
unfolding create_charge
create_diff t c' e' = simp (T-diff, ← diff-pos, diff_add) (diff_same _ _ _ _ (omega arith))

pub destroy_diff : (t : Tariff) (c e now : ℕ)
    → destroy_charge t c e now ≡ diff (t.destroy + t.rate * now) (t.rate * e)
unfolding destroy_charge
destroy_diff t c e now = simp (T-diff, diff_neg, ← diff-pos, diff_add) (diff_same _ _ _ _ (omega arith))

pub replace_diff : (t : Tariff) (c e now c' e' : ℕ)
    → replace_charge t c e now c' e' ≡ diff (t.replace + t.rate * now + t.rate * e') (t.rate * e + t.rate * c')
unfolding replace_charge
replace_diff t c e now c' e' = simp (T-diff, diff_neg, ← diff-pos, diff_add) (diff_same _ _ _ _ (omega arith))

pub set_expiry_diff : (t : Tariff) (c e c' e' : ℕ)
    → set_expiry_charge t c e c' e' ≡ diff (t.setexpiry + t.rate * c + t.rate * e') (t.rate * e + t.rate * c')
unfolding set_expiry_charge
set_expiry_diff t c e c' e' = simp (T-diff, diff_neg, ← diff-pos, diff_add) (diff_same _ _ _ _ (omega arith))

-- ---- as the code has them: Replace's new block is created at the time of the call, and SetExpiry's when the old one
-- was

pub replace_now : (t : Tariff) (c e now e' : ℕ)
    → replace_charge t c e now now e' ≡ diff (t.replace + t.rate * e') (t.rate * e)
replace_now t c e now e' = replace_diff t c e now now e' ∙ diff_same _ _ _ _ (omega arith)

pub set_expiry_moved : (t : Tariff) (c e e' : ℕ)
    → set_expiry_charge t c e c e' ≡ diff (t.setexpiry + t.rate * e') (t.rate * e)
set_expiry_moved t c e e' = set_expiry_diff t c e c e' ∙ diff_same _ _ _ _ (omega arith)

-- ---- no charge leaves the range of Money, 64 signed bits

abbrev pub InMoney : ℤ → Type 0
InMoney z = mag z < 2 ^ 63

-- prices are passed as numbers of 32 bits, the rate as one of 16
pub record Passed (t : Tariff) : Type 0 where
  pub create : t.create < 2 ^ 32
  pub read : t.read < 2 ^ 32
  pub status : t.status < 2 ^ 32
  pub destroy : t.destroy < 2 ^ 32
  pub replace : t.replace < 2 ^ 32
  pub setexpiry : t.setexpiry < 2 ^ 32
  pub getids : t.getids < 2 ^ 32
  pub getcount : t.getcount < 2 ^ 32
  pub scavenge : t.scavenge < 2 ^ 32
  pub profile : t.profile < 2 ^ 32
  pub error : t.error < 2 ^ 32
  pub rate : t.rate < 2 ^ 16

-- a price alone
pub price_range : (p : ℕ) → p < 2 ^ 32 → InMoney (pos p)
price_range p h = omega arith

module _ (t : Tariff) (ok : Passed t) where
  worth : (at : ℕ) → at < 2 ^ 40 → t.rate * at < 2 ^ 56
  worth at h = omega (arith, product 16 40 {a = t.rate} {b = at} ok.rate h)

  pub create_range : (c' e' : ℕ) → c' < 2 ^ 40 → e' < 2 ^ 40 → InMoney (create_charge t c' e')
  create_range c' e' hc he = rw (create_diff t c' e')
      (mag-diff _ _ (2 ^ 63) (omega (arith, worth e' he)) (omega (arith, worth c' hc)))

  pub destroy_range : (c e now : ℕ) → e < 2 ^ 40 → now < 2 ^ 40 → InMoney (destroy_charge t c e now)
  destroy_range c e now he hn = rw (destroy_diff t c e now)
      (mag-diff _ _ (2 ^ 63) (omega (arith, worth now hn)) (omega (arith, worth e he)))

  pub replace_range : (c e now c' e' : ℕ) → e < 2 ^ 40 → now < 2 ^ 40 → c' < 2 ^ 40 → e' < 2 ^ 40
      → InMoney (replace_charge t c e now c' e')
  replace_range c e now c' e' he hn hc he' =
      rw (replace_diff t c e now c' e')
      (mag-diff _ _ (2 ^ 63) (omega (arith, worth now hn, worth e' he')) (omega (arith, worth e he, worth c' hc)))

  pub set_expiry_range : (c e c' e' : ℕ) → c < 2 ^ 40 → e < 2 ^ 40 → c' < 2 ^ 40 → e' < 2 ^ 40
      → InMoney (set_expiry_charge t c e c' e')
  set_expiry_range c e c' e' hc he hc' he' =
      rw (set_expiry_diff t c e c' e')
      (mag-diff _ _ (2 ^ 63) (omega (arith, worth c hc, worth e' he')) (omega (arith, worth e he, worth c' hc')))

-- ---- the charges of the fourteen calls that have a storage part: the first, fifth, sixth and twelfth, at prices of 10
-- and a rate of 2

module _ (t : Tariff) (r : t.rate ≡ 2) where
  pub first : t.create ≡ 10 → create_charge t 100 500 ≡ pos 810
  unfolding create_charge T
  first p = rw (p, r)

  pub fifth : t.setexpiry ≡ 10 → set_expiry_charge t 100 500 100 300 ≡ negsuc 389
  unfolding set_expiry_charge T
  fifth p = rw (p, r)

  pub sixth : t.replace ≡ 10 → replace_charge t 101 101 110 110 101 ≡ pos 10
  unfolding replace_charge T
  sixth p = rw (p, r)

  pub twelfth : t.destroy ≡ 10 → destroy_charge t 100 300 350 ≡ pos 110
  unfolding destroy_charge T
  twelfth p = rw (p, r)
