-- A change of a list of bytes, as a list of writes, and when it leaves a place alone.
use Rattle.std.specs.Prelude.{ℕ, zero, suc, ◌+◌, ◌≤◌, ◌<◌, List, [], ◌∷◌, ◌++◌, length, take, drop}

-- l, with the bytes vs from a place on instead of its own
unfoldable pub over : List ℕ → ℕ → List ℕ → List ℕ
over l at vs = take at l ++ vs ++ drop (at + length vs) l

-- these bytes, to this place
pub record Write : Type 0 where
  pub at : ℕ
  pub bytes : List ℕ

-- the writes of a list, the first one first
unfoldable pub puts : List ℕ → List Write → List ℕ
puts l [] = l
puts l (w ∷ ws) = puts (over l w.at w.bytes) ws

-- the k places from a and the n places from i have none in common
abbrev pub Apart : ℕ → ℕ → ℕ → ℕ → Type 0
Apart a k i n = (x : ℕ) → a ≤ x → x < a + k → i ≤ x → x < i + n → ⊥

-- every write lies within size bytes
abbrev pub Within : ℕ → List Write → Type 0
Within size [] = Unit {0}
Within size (w ∷ ws) = (w.at + length w.bytes ≤ size) × Within size ws

-- no write touches the k places from a
abbrev pub Spares : ℕ → ℕ → List Write → Type 0
Spares a k [] = Unit {0}
Spares a k (w ∷ ws) = Apart a k w.at (length w.bytes) × Spares a k ws

-- write i of a list
abbrev pub nth : ℕ → List Write → Write
nth i [] = record { at = 0; bytes = [] }
nth zero (w ∷ ws) = w
nth (suc i) (w ∷ ws) = nth i ws

-- no write after write i touches its place
abbrev pub Stays : ℕ → List Write → Type 0
Stays i [] = Unit {0}
Stays zero (w ∷ ws) = Spares w.at (length w.bytes) ws
Stays (suc i) (w ∷ ws) = Stays i ws
