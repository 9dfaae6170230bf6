-- Z's sets of numbers, as tests; and lists that name the members of a set.
use Rattle.std.specs.Prelude.{ℕ, ◌≡◌, Bool, true, false, not, ◌&&◌, ◌||◌, List, eqb, length}
use Rattle.run.specs.Run.{one, times}

abbrev pub Set : Type 0
Set = ℕ → Bool

infix 20 ◌∈◌
abbrev pub ◌∈◌ : ℕ → Set → Type 0
x ∈ X = X x ≡ true

infix 20 ◌∉◌
abbrev pub ◌∉◌ : ℕ → Set → Type 0
x ∉ X = X x ≡ false

abbrev pub ∅ : Set
∅ x = false

-- {i}
abbrev pub only : ℕ → Set
only i x = eqb x i

infixl 40 ◌∩◌
abbrev pub ◌∩◌ : Set → Set → Set
(X ∩ Y) x = X x && Y x

infixl 35 ◌∪◌
abbrev pub ◌∪◌ : Set → Set → Set
(X ∪ Y) x = X x || Y x

infixl 40 ◌∖◌
abbrev pub ◌∖◌ : Set → Set → Set
(X ∖ Y) x = X x && not (Y x)

infix 20 ◌⊆◌
abbrev pub ◌⊆◌ : Set → Set → Type 0
X ⊆ Y = (x : ℕ) → x ∈ X → x ∈ Y

-- a proper subset: some member of Y is none of X
infix 20 ◌⊂◌
abbrev pub ◌⊂◌ : Set → Set → Type 0
X ⊂ Y = (X ⊆ Y) × ((x : ℕ) × (x ∈ Y) × (x ∉ X))

-- two sets, or two maps, are equal: at each number
infix 20 ◌≈◌
abbrev pub ◌≈◌ : {A : Type 0} → (ℕ → A) → (ℕ → A) → Type 0
f ≈ g = (x : ℕ) → f x ≡ g x

-- the list names each member of the set once, and nothing else
abbrev pub Lists : List ℕ → Set → Type 0
Lists l X = (x : ℕ) → times x l ≡ one X x

-- #X = n
abbrev pub HasSize : Set → ℕ → Type 0
HasSize X n = (l : List ℕ) × Lists l X × (length l ≡ n)

-- a set has one size (proofs/Sizes.antt)
abbrev pub OneSize : Type 0
OneSize = (X : Set) (n m : ℕ) → HasSize X n → HasSize X m → n ≡ m
