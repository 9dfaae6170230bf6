-- The blocks that Scavenge removes, as marks: for each header visited, in turn, whether its block is to go; and as a
-- tally of those that each client loses.
use Rattle.std.specs.Prelude.{ℕ, ◌+◌, ◌-◌, ◌<◌, ◌≡◌, Bool, false, ◌&&◌, List, [], ◌∷◌, eqb, leb, ltb}
use Rattle.std.specs.Prelude.{length, get_or, set, Option, Some, None}
use Rattle.plain.specs.Tests.{when}
use Rattle.kinds.specs.Kinds.{user}
use Rattle.kinds.specs.declared.User.{User}
use Rattle.word.specs.Write.{puts}
use Rattle.run.specs.Run.{picked, each}
use Rattle.promise.specs.Trailer.{clock_set}
use Rattle.promise.specs.Header.{header_of, owner_of, header_zeroed}
use Rattle.promise.specs.Counts.{count_of, count_set}
use Rattle.promise.specs.Scavenge.{expired, map_freed}

-- the client that loses a block: its owner, where it is expired
unfoldable pub loser_of : List ℕ → (time b : ℕ) → Option User
loser_of img time b = when (expired img time b) (Some (user (owner_of (header_of img b)))) None

-- client u loses block b
abbrev pub loses : List ℕ → (time u b : ℕ) → Bool
loses img time u b = expired img time b && eqb (owner_of (header_of img b)) u

-- block b, whose mark stands at place b - from, is to go
abbrev pub marked : (marks : List Bool) (from : ℕ) → ℕ → Bool
marked marks from b = get_or marks (b - from) false

-- a tally with one more at u
abbrev pub raised_at : (u : ℕ) → List ℕ → List ℕ
raised_at u tally = set tally u (get_or tally u 0 + 1)

-- and with one more for a client that loses a block
abbrev pub raised_by : Option User → List ℕ → List ℕ
raised_by None tally = tally
raised_by (Some u) tally = raised_at u.0 tally

-- a client's count is not below its tally
abbrev pub has_count : (n : ℕ) (img tally : List ℕ) (u : ℕ) → Bool
has_count n img tally u = leb (get_or tally u 0) (count_of n img u)

-- a tally that says of each client how many of the k blocks from a number upward it loses
abbrev pub Tallies : (img : List ℕ) (time from k : ℕ) (tally : List ℕ) → Type 0
Tallies img time from k tally = (u : ℕ) → u < 64 → get_or tally u 0 ≡ length (picked (loses img time u) from k)

-- the header of a block zeroed, then its bit freed; a client's count lowered by k, and by its tally, where it has one
abbrev pub freed : (n : ℕ) → List ℕ → ℕ → List ℕ
freed n s b = map_freed n (puts s (header_zeroed b ∷ [])) b

abbrev pub lowered : (n u k : ℕ) → List ℕ → List ℕ
lowered n u k s = puts s (count_set n u (count_of n s u - k) ∷ [])

abbrev pub owes : (tally : List ℕ) → ℕ → Bool
owes tally u = ltb 0 (get_or tally u 0)

abbrev pub lowered_by : (n : ℕ) (tally : List ℕ) → List ℕ → ℕ → List ℕ
lowered_by n tally s u = lowered n u (get_or tally u 0) s

-- the changes of one call, in the order of the stores: the clock, header and bit of each block from the lowest, the
-- counts
abbrev pub removed_by : (n time : ℕ) (marks : List Bool) (tally : List ℕ) (from k : ℕ) → List ℕ → List ℕ
removed_by n time marks tally from k img =
    let bs : List ℕ = picked (marked marks from) from k in
    each (lowered_by n tally) (each (freed n) (puts img (clock_set n time ∷ [])) bs) (picked (owes tally) 0 64)

-- the first k marks are those of the blocks from a number upward
abbrev pub Marks : (img : List ℕ) (time from k : ℕ) (marks : List Bool) → Type 0
Marks img time from k marks = (i : ℕ) → i < k → get_or marks i false ≡ expired img time (from + i)

-- both
abbrev pub Lost : (img : List ℕ) (time from k : ℕ) (marks : List Bool) (tally : List ℕ) → Type 0
Lost img time from k marks tally = Marks img time from k marks × Tallies img time from k tally
