-- Document 01, Trailer: the last 512 bytes of an image, pointing back.
use Rattle.std.specs.Prelude.{ℕ, ◌+◌, ◌-◌, ◌/◌, Bool, List, [], ◌∷◌, ◌++◌, eqb, ltb, length}
use Rattle.plain.specs.Tests.{all}
use Rattle.word.specs.Word.{part, le, word_at, bytes_of, blank, all_zero}
use Rattle.word.specs.Write.{Write}
use Rattle.promise.specs.Layout.{number_right, trailer_at, size_of, end_of_time}

-- the last 512 bytes
abbrev pub trailer_of : List ℕ → List ℕ
trailer_of img = part img (length img - 512) 512

-- at 0 N; at 24 the clock
unfoldable pub n_of : List ℕ → ℕ
n_of img = word_at 4 (trailer_of img) 0

unfoldable pub clock_of : List ℕ → ℕ
clock_of img = word_at 8 (trailer_of img) 24

-- the distance in blocks from the trailer back to the first header block, the map, the counts, the first data block
abbrev pub back_to_headers : ℕ → ℕ
back_to_headers n = n / 8 + n + 2

abbrev pub back_to_map : ℕ → ℕ
back_to_map n = n + 2

abbrev pub back_to_counts : ℕ → ℕ
back_to_counts n = n + 1

abbrev pub back_to_data : ℕ → ℕ
back_to_data n = n

-- at 508 the bytes 50 52 36 32 hex
abbrev pub mark : List ℕ
mark = 0x50 ∷ 0x52 ∷ 0x36 ∷ 0x32 ∷ []

-- the 512 bytes t are right as the trailer of an image of `size` bytes: N is right and the length agrees with it; at 4,
-- 8, 12, 16 the distances; the clock is in range; the mark; and all other bytes are zero
unfoldable pub right_trailer : (size : ℕ) (t : List ℕ) → Bool
right_trailer size t =
    let n : ℕ = word_at 4 t 0 in
    all
    (number_right n
    ∷ eqb size (size_of n)
    ∷ eqb (word_at 4 t 4) (back_to_headers n)
    ∷ eqb (word_at 4 t 8) (back_to_map n)
    ∷ eqb (word_at 4 t 12) (back_to_counts n)
    ∷ eqb (word_at 4 t 16) (back_to_data n)
    ∷ all_zero (part t 20 4)
    ∷ ltb (word_at 8 t 24) end_of_time
    ∷ all_zero (part t 32 476)
    ∷ eqb (word_at 4 t 508) (le mark)
    ∷ [])

-- the trailer of an image is right
unfoldable pub trailer_right : List ℕ → Bool
trailer_right img = right_trailer (length img) (trailer_of img)

-- the bytes of a right trailer
unfoldable pub trailer_bytes : (n clock : ℕ) → List ℕ
trailer_bytes n clock =
    bytes_of 4 n ++ bytes_of 4 (back_to_headers n) ++ bytes_of 4 (back_to_map n) ++ bytes_of 4 (back_to_counts n)
    ++ bytes_of 4 (back_to_data n)
    ++ blank 4 ++ bytes_of 8 clock ++ blank 476 ++ mark

-- on success the image's clock becomes now
abbrev pub clock_set : (n time : ℕ) → Write
clock_set n time = record { at = trailer_at n + 24; bytes = bytes_of 8 time }
