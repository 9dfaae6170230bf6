-- Runs of bytes in a list of bytes, and the numbers that they spell, lowest byte first. Each is over the width k, in
-- bytes.
use Rattle.std.specs.Prelude.{ℕ, zero, suc, ◌+◌, ◌*◌, ◌/◌, ◌%◌, ◌^◌, ◌<◌, Bool, true, ◌&&◌, List, [], ◌∷◌, eqb, take}
use Rattle.std.specs.Prelude.{drop, get_or, replicate}

-- the k bytes from a place
unfoldable pub part : List ℕ → ℕ → ℕ → List ℕ
part l at k = take k (drop at l)

-- the number that a run of bytes spells
unfoldable pub le : List ℕ → ℕ
le [] = 0
le (b ∷ bs) = b + 256 * le bs

-- the number of k bytes at a place
abbrev pub word_at : ℕ → List ℕ → ℕ → ℕ
word_at k l at = le (part l at k)

-- the k bytes that spell v, or its k low bytes where v has more
unfoldable pub bytes_of : ℕ → ℕ → List ℕ
bytes_of zero v = []
bytes_of (suc k) v = v % 256 ∷ bytes_of k (v / 256)

-- k bytes can spell v
abbrev pub Spelled : ℕ → ℕ → Type 0
Spelled k v = v < 256 ^ k

-- k zero bytes
unfoldable pub blank : ℕ → List ℕ
blank k = replicate k 0

-- every byte is zero
unfoldable pub all_zero : List ℕ → Bool
all_zero [] = true
all_zero (b ∷ bs) = eqb b 0 && all_zero bs

-- every element is a byte
abbrev pub Bytes : List ℕ → Type 0
Bytes l = (i : ℕ) → get_or l i 0 < 256
