-- What the tests of the headers that a key call visits come to; and what Profile takes from a header.
use Rattle.std.specs.Prelude.{ℕ, Bool, List, ◌++◌, Option, Some, None}
use Rattle.plain.specs.Tests.{when}
use Rattle.word.specs.Word.{bytes_of}
use Rattle.promise.specs.Header.{header_of, is_used, owner_of, created_of, expires_of}
use Rattle.promise.specs.Keys.{visited_good}

-- how many there are; none where one of them is not good
unfoldable pub visited_of : List ℕ → (key visited : ℕ) → Option ℕ
visited_of img key visited = when (visited_good img key visited) (Some visited) None

-- a block is used
abbrev pub used : List ℕ → ℕ → Bool
used img b = is_used (header_of img b)

-- a header's entry in a profile
abbrev pub entry_of : (h : List ℕ) → List ℕ
entry_of h = bytes_of 8 (owner_of h) ++ bytes_of 8 (created_of h) ++ bytes_of 8 (expires_of h)
