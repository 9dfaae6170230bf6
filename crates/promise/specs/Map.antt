-- Document 01, Map: which blocks are free; and with it, whether a block's header is good.
use Rattle.std.specs.Prelude.{ℕ, ◌+◌, ◌-◌, ◌/◌, ◌%◌, ◌^◌, Bool, List, eqb}
use Rattle.word.specs.Word.{part, word_at, bytes_of, all_zero}
use Rattle.word.specs.Write.{Write}
use Rattle.promise.specs.Layout.{map_at}
use Rattle.promise.specs.Trailer.{n_of, clock_of}
use Rattle.promise.specs.Header.{header_of, good_header}

-- bit b is at byte b div 8, weight 2^(b mod 8)
abbrev pub map_byte : (n : ℕ) → List ℕ → ℕ → ℕ
map_byte n img b = word_at 1 img (map_at n + b / 8)

abbrev pub weight : ℕ → ℕ
weight b = 2 ^ (b % 8)

-- 1 is free, 0 is used
unfoldable pub free : (n : ℕ) → List ℕ → ℕ → Bool
free n img b = eqb (map_byte n img b / weight b % 2) 1

-- bits from N on are 0: as N is a multiple of 8, these are the map block's bytes from N/8 on
unfoldable pub spare_zero : (n : ℕ) → List ℕ → Bool
spare_zero n img = all_zero (part img (map_at n + n / 8) (512 - n / 8))

-- the bit of a free block, made 0; and that of a used block, made 1
abbrev pub bit_taken : (n : ℕ) → List ℕ → ℕ → Write
bit_taken n img b = record { at = map_at n + b / 8; bytes = bytes_of 1 (map_byte n img b - weight b) }

abbrev pub bit_freed : (n : ℕ) → List ℕ → ℕ → Write
bit_freed n img b = record { at = map_at n + b / 8; bytes = bytes_of 1 (map_byte n img b + weight b) }

-- the header of block b is good, in the image as it stands
unfoldable pub good : List ℕ → ℕ → Bool
good img b = good_header (clock_of img) b (free (n_of img) img b) (header_of img b)
