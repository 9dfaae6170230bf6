-- A run of block numbers: the k numbers from b upward, under a test p.
use Rattle.std.specs.Prelude.{ℕ, zero, suc, ◌+◌, ◌-◌, min, Bool, true, cond, ◌&&◌, List, [], ◌∷◌, ◌++◌, eqb}

-- number b as a count and as a list: 1 and b alone where it passes, else 0 and nothing
unfoldable pub one : (ℕ → Bool) → ℕ → ℕ
one p b = cond (p b) 1 0

unfoldable pub just : (ℕ → Bool) → ℕ → List ℕ
just p b = cond (p b) (b ∷ []) []

-- those of the run that pass, rising
unfoldable pub picked : (ℕ → Bool) → (b k : ℕ) → List ℕ
picked p b zero = []
picked p b (suc k) = just p b ++ picked p (b + 1) k

-- all of the run pass
unfoldable pub all_of : (ℕ → Bool) → (b k : ℕ) → Bool
all_of p b zero = true
all_of p b (suc k) = p b && all_of p (b + 1) k

-- the lowest of the run that passes; the number after the run where none does
unfoldable pub first : (ℕ → Bool) → (b k : ℕ) → ℕ
first p b zero = b
first p b (suc k) = cond (p b) b (first p (b + 1) k)

-- how many numbers are visited from b upward: at most `most`, and none after the wanted count has passed
unfoldable pub visits : (ℕ → Bool) → (most wanted b : ℕ) → ℕ
visits p zero wanted b = 0
visits p (suc most) zero b = 0
visits p (suc most) (suc wanted) b = suc (visits p most (suc wanted - one p b) (b + 1))

-- a key call over n numbers visits those from its key upward, at most 64 and not past n; one that is asked for a count,
-- none after that many have passed
abbrev pub reach : (n key : ℕ) → ℕ
reach n key = min 64 (n - key)

abbrev pub stride : (ℕ → Bool) → (n count key : ℕ) → ℕ
stride p n count key = visits p (reach n key) count key

-- the bytes f of each number of a list, one after the other
unfoldable pub rows : (ℕ → List ℕ) → List ℕ → List ℕ
rows f [] = []
rows f (b ∷ bs) = f b ++ rows f bs

-- a state, changed by f at each number of a list in turn
module _ {S : Type 0} where
  unfoldable pub each : (S → ℕ → S) → S → List ℕ → S
  each f s [] = s
  each f s (b ∷ bs) = each f (f s b) bs

-- P holds of each number of a list
abbrev pub Every : (ℕ → Type 0) → List ℕ → Type 0
Every P [] = Unit {0}
Every P (b ∷ bs) = P b × Every P bs

-- how often a number stands in a list
unfoldable pub times : ℕ → List ℕ → ℕ
times x [] = 0
times x (b ∷ bs) = cond (eqb x b) 1 0 + times x bs
