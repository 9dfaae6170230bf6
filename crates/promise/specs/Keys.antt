-- Document 01, Keys: which headers a key call visits, and the key that it gives.
use Rattle.std.specs.Prelude.{ℕ, Bool, List, eqb}
use Rattle.plain.specs.Tests.{when}
use Rattle.run.specs.Run as Run
use Rattle.run.specs.Run.{all_of}
use Rattle.promise.specs.Trailer.{n_of}
use Rattle.promise.specs.Map.{good}

-- 0 is the start key, 65,535 is the end key
abbrev pub start_key : ℕ
start_key = 0

abbrev pub end_key : ℕ
end_key = 65535

-- a call visits headers from k upward and stops after 64 headers or at N
abbrev pub reach : List ℕ → (key : ℕ) → ℕ
reach img key = Run.reach (n_of img) key

-- stopped at N, the key is the end key, else the next block number
unfoldable pub key_at : (n stopped : ℕ) → ℕ
key_at n stopped = when (eqb stopped n) end_key stopped

-- all visited headers are good
abbrev pub visited_good : List ℕ → (key visited : ℕ) → Bool
visited_good img key visited = all_of (good img) key visited
