-- Document 01, Identifiers: p from a time and a block number, the four rounds that disguise it, their undoing, and
-- 'shaped'.
use Rattle.std.specs.Prelude.{Bool, ◌&&◌, List, [], ◌∷◌, ℕ, ◌+◌, ◌-◌, ◌*◌, ◌/◌, ◌%◌, ◌^◌, ltb, leb, Option}
use Rattle.std.specs.Prelude.{Some, None}
use Rattle.plain.specs.Tests.{when}
use Rattle.kinds.specs.Kinds.{block_num}
use Rattle.kinds.specs.declared.BlockNum.{BlockNum}

-- zero is never issued
abbrev pub null_id : ℕ
null_id = 0

-- p = time · 4096 + b
abbrev pub place : (time b : ℕ) → ℕ
place time b = time * 4096 + b

-- a number of 64 bits as its halves of 32 bits, (L, R)
abbrev pub high : ℕ → ℕ
high x = x / 2 ^ 32

abbrev pub low : ℕ → ℕ
low x = x % 2 ^ 32

abbrev pub joined : (l r : ℕ) → ℕ
joined l r = l * 2 ^ 32 + r

-- one round sends (L, R) to (R, (L + R·K) mod 2^32)
unfoldable pub round_of : (k x : ℕ) → ℕ
round_of k x = joined (low x) ((high x + low x * k) % 2 ^ 32)

-- its undoing sends (L, R) to ((R - L·K) mod 2^32, L)
unfoldable pub unround_of : (k y : ℕ) → ℕ
unround_of k y = joined ((low y + (2 ^ 32 - high y * k % 2 ^ 32)) % 2 ^ 32) (high y)

-- the rounds of a list of constants in turn, and their undoing from the last to the first
unfoldable pub rounds : List ℕ → ℕ → ℕ
rounds [] x = x
rounds (k ∷ ks) x = rounds ks (round_of k x)

unfoldable pub unrounds : List ℕ → ℕ → ℕ
unrounds [] y = y
unrounds (k ∷ ks) y = unround_of k (unrounds ks y)

-- K in turn
abbrev pub keys : List ℕ
keys = 2654435761 ∷ 2246822519 ∷ 3266489917 ∷ 668265263 ∷ []

unfoldable pub disguised : ℕ → ℕ
disguised p = rounds keys p

unfoldable pub undone : ℕ → ℕ
undone id = unrounds keys id

-- the id made from a time and a block number
unfoldable pub id_of : (time b : ℕ) → ℕ
id_of time b = disguised (place time b)

-- the time and the block number of p
abbrev pub time_of : ℕ → ℕ
time_of p = p / 4096

abbrev pub block_of : ℕ → ℕ
block_of p = p % 4096

-- p below 2^52, a time of at least 1 and b below N
unfoldable pub shaped_in : (n p : ℕ) → Bool
shaped_in n p = ltb p (2 ^ 52) && leb 1 (time_of p) && ltb (block_of p) n

-- the answer, for what an id gives undone: the block number where it is shaped
unfoldable pub shape_of : (p n : ℕ) → Option BlockNum
shape_of p n = when (shaped_in n p) (Some (block_num (block_of p))) None
