-- The rows of document 01's table that follow those in front, in the groups that the code tests one after the other;
-- what the tests find; and the stores.
use Rattle.std.specs.Prelude.{ℕ, ◌-◌, Bool, not, List, [], ◌∷◌, ◌++◌}
use Rattle.kinds.specs.Kinds.{block_num}
use Rattle.kinds.specs.declared.Report.TheVariants.{BadRoom, Damaged, NoSuchBlock, NotOwner}
use Rattle.word.specs.Word.{part}
use Rattle.word.specs.Write.{Write}
use Rattle.promise.specs.Layout.{header_at, data_at}
use Rattle.promise.specs.Trailer.{n_of, clock_set}
use Rattle.promise.specs.Header.{header_bytes}
use Rattle.promise.specs.Counts.{count_of, count_set}
use Rattle.promise.specs.Refusals.{Row, row}
use Rattle.promise.specs.Map.{bit_taken}
use Rattle.promise.specs.Lookup.{lookup_damaged, no_such_block, not_owner}
use Rattle.store.specs.declared.lookup.Found.{Found}

-- ---- a block by its id

-- N and a block
abbrev pub found : List ℕ → (b : ℕ) → Found
found img b = record { n = n_of img; b = block_num b }

-- room: the lent buffer is of 528 bytes, or none is wanted
unfoldable pub find_rows : List ℕ → (id : ℕ) → (room : Bool) → List Row
find_rows img id room =
    row (not room) BadRoom
    ∷ row (lookup_damaged img id) Damaged
    ∷ row (no_such_block img id) NoSuchBlock
    ∷ []

unfoldable pub own_rows : List ℕ → (client id : ℕ) → (room : Bool) → List Row
own_rows img client id room = find_rows img id room ++ (row (not_owner img client id) NotOwner ∷ [])

-- how many blocks a client has after one of them is destroyed
abbrev pub left_of : List ℕ → (client : ℕ) → ℕ
left_of img client = count_of (n_of img) img client - 1

-- ---- the stores

-- a block that is new as of now, in the order of the stores: the clock, the data, the header
abbrev pub block_writes : (n b owner id expires : ℕ) (bytes : List ℕ) (time : ℕ) → List Write
block_writes n b owner id expires bytes time =
    clock_set n time
    ∷ record { at = data_at n b; bytes = part bytes 16 512 }
    ∷ record { at = header_at b; bytes = header_bytes owner id time expires (part bytes 0 16) }
    ∷ []

-- and where the block was free: then its bit, and the owner's count
abbrev pub fill_writes : (img : List ℕ) (n b owner id expires count : ℕ) (bytes : List ℕ) (time : ℕ) → List Write
fill_writes img n b owner id expires count bytes time =
    block_writes n b owner id expires bytes time ++ (bit_taken n img b ∷ count_set n owner count ∷ [])
