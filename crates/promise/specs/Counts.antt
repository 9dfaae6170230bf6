-- Document 01, Counts and Data: how many blocks a client owns, and the bytes of a service block.
use Rattle.std.specs.Prelude.{ℕ, ◌*◌, Bool, ◌&&◌, List, ◌++◌, map, eqb}
use Rattle.word.specs.Word.{part, word_at, bytes_of}
use Rattle.word.specs.Write.{Write}
use Rattle.run.specs.Run.{picked, times}
use Rattle.promise.specs.Layout.{count_at, data_at}
use Rattle.promise.specs.Header.{header_of, is_used, owner_of, tag_of}

-- the counts block; 8 bytes for each client, the blocks it owns
abbrev pub counts_of : (n : ℕ) → List ℕ → List ℕ
counts_of n img = part img (count_at n 0) 512

unfoldable pub count_of : (n : ℕ) → List ℕ → ℕ → ℕ
count_of n img u = word_at 8 (counts_of n img) (8 * u)

abbrev pub count_set : (n u count : ℕ) → Write
count_set n u count = record { at = count_at n u; bytes = bytes_of 8 count }

-- block b is used and u's
unfoldable pub owned_by : List ℕ → ℕ → ℕ → Bool
owned_by img u b = is_used (header_of img b) && eqb (owner_of (header_of img b)) u

-- the owners of the used headers, and the number of used headers with that owner
unfoldable pub owners : (n : ℕ) → List ℕ → List ℕ
owners n img = map (λ b. owner_of (header_of img b)) (picked (λ b. is_used (header_of img b)) 0 n)

unfoldable pub owned : (n : ℕ) → List ℕ → ℕ → ℕ
owned n img u = times u (owners n img)

-- the data block of block b
unfoldable pub data_of : (n : ℕ) → List ℕ → ℕ → List ℕ
data_of n img b = part img (data_at n b) 512

-- a service block is 528 bytes, first the 16 of the tag, then the 512 of its data block
abbrev pub service_block : (n : ℕ) → List ℕ → ℕ → List ℕ
service_block n img b = tag_of (header_of img b) ++ data_of n img b
