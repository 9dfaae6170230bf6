-- Bits of a number: what can be taken away and added, and that one bit changed leaves the others.
-- Assumes nothing.
use Rattle.std.specs.Prelude.{ℕ, zero, suc, ◌+◌, ◌-◌, ◌/◌, ◌%◌, ◌^◌, ◌≤◌, ◌<◌, ◌≡◌, refl, false, ◌≢◌, eqb}
use Rattle.std.proofs.Common.{sym, ap, not-suc-le-zero, arith}
use Rattle.std.proofs.Math.Nat.{div-div-eq-div-mul, pow-succ'}
use Rattle.std.proofs.lemmas.Bool.{eqb-false}

-- bit j + 1 of x is bit j of its half
half : (x j : ℕ) → x / 2 ^ suc j ≡ x / 2 / 2 ^ j
half x j = rw pow-succ' (sym (div-div-eq-div-mul x 2 (2 ^ j)))

-- ---- a bit that is 1 can be taken away

pub bit_le : (i x : ℕ) → x / 2 ^ i % 2 ≡ 1 → 2 ^ i ≤ x
bit_le zero x z = omega arith
bit_le (suc i) x z = omega (arith, bit_le i (x / 2) (rw half at z))

pub clear_same : (i x : ℕ) → x / 2 ^ i % 2 ≡ 1 → (x - 2 ^ i) / 2 ^ i % 2 ≡ 0
clear_same zero x z = omega arith
clear_same (suc i) x z =
    let e : (x - 2 ^ suc i) / 2 ≡ x / 2 - 2 ^ i = omega arith in
    rw (half (x - 2 ^ suc i) i, e) (clear_same i (x / 2) (rw half at z))

pub clear_other : (i j x : ℕ) → j ≢ i → x / 2 ^ i % 2 ≡ 1 → (x - 2 ^ i) / 2 ^ j % 2 ≡ x / 2 ^ j % 2
clear_other zero zero x ne z = absurd (ne refl)
clear_other zero (suc j) x ne z =
    let e : (x - 1) / 2 ≡ x / 2 = omega arith in
    rw (half (x - 1) j, half x j, e)
clear_other (suc i) zero x ne z = omega (arith, bit_le (suc i) x z)
clear_other (suc i) (suc j) x ne z =
    let e : (x - 2 ^ suc i) / 2 ≡ x / 2 - 2 ^ i = omega arith in
    rw (half (x - 2 ^ suc i) j, half x j, e) (clear_other i j (x / 2) (λ q. ne (ap suc q)) (rw half at z))

-- ---- a bit that is 0 can be added

pub bit_zero : (x : ℕ) → eqb (x % 2) 1 ≡ false → x % 2 ≡ 0
bit_zero x h = omega (arith, eqb-false (x % 2) 1 h)

pub bit_fits : (i k x : ℕ) → i < k → x < 2 ^ k → x / 2 ^ i % 2 ≡ 0 → x + 2 ^ i < 2 ^ k
bit_fits i zero x h l z = absurd (not-suc-le-zero h)
bit_fits zero (suc k) x h l z = omega arith
bit_fits (suc i) (suc k) x h l z = omega (arith, bit_fits i k (x / 2) (omega arith) (omega arith) (rw half at z))

pub set_same : (i x : ℕ) → x / 2 ^ i % 2 ≡ 0 → (x + 2 ^ i) / 2 ^ i % 2 ≡ 1
set_same zero x z = omega arith
set_same (suc i) x z =
    let e : (x + 2 ^ suc i) / 2 ≡ x / 2 + 2 ^ i = omega arith in
    rw (half (x + 2 ^ suc i) i, e) (set_same i (x / 2) (rw half at z))

pub set_other : (i j x : ℕ) → j ≢ i → x / 2 ^ i % 2 ≡ 0 → (x + 2 ^ i) / 2 ^ j % 2 ≡ x / 2 ^ j % 2
set_other zero zero x ne z = absurd (ne refl)
set_other zero (suc j) x ne z =
    let e : (x + 1) / 2 ≡ x / 2 = omega arith in
    rw (half (x + 1) j, half x j, e)
set_other (suc i) zero x ne z = omega arith
set_other (suc i) (suc j) x ne z =
    let e : (x + 2 ^ suc i) / 2 ≡ x / 2 + 2 ^ i = omega arith in
    rw (half (x + 2 ^ suc i) j, half x j, e) (set_other i j (x / 2) (λ q. ne (ap suc q)) (rw half at z))

-- a byte has the low eight bits of what it was made from
pub byte_bit : (j x : ℕ) → j < 8 → x % 256 / 2 ^ j % 2 ≡ x / 2 ^ j % 2
byte_bit zero x h = omega arith
byte_bit (suc zero) x h = omega arith
byte_bit (suc (suc zero)) x h = omega arith
byte_bit (suc (suc (suc zero))) x h = omega arith
byte_bit (suc (suc (suc (suc zero)))) x h = omega arith
byte_bit (suc (suc (suc (suc (suc zero))))) x h = omega arith
byte_bit (suc (suc (suc (suc (suc (suc zero)))))) x h = omega arith
byte_bit (suc (suc (suc (suc (suc (suc (suc zero))))))) x h = omega arith
byte_bit (suc (suc (suc (suc (suc (suc (suc (suc j)))))))) x h = absurd (omega arith)
