-- Document 01, The image: the number of service blocks, and where things stand in an image of n of them.
use Rattle.std.specs.Prelude.{ℕ, ◌+◌, ◌*◌, ◌%◌, ◌^◌, Bool, ◌&&◌, eqb, leb}

-- N, the number of service blocks, is a multiple of 8 from 8 to 4,096
unfoldable pub number_right : ℕ → Bool
number_right n = eqb (n % 8) 0 && leb 8 n && leb n 4096

-- in order, in disk blocks of 512 bytes: N/8 header blocks, one map block, one counts block, N data blocks, one trailer
-- block
abbrev pub header_at : ℕ → ℕ
header_at b = 64 * b

abbrev pub map_at : ℕ → ℕ
map_at n = 64 * n

abbrev pub count_at : (n u : ℕ) → ℕ
count_at n u = 64 * n + 512 + 8 * u

abbrev pub data_at : (n b : ℕ) → ℕ
data_at n b = 64 * n + 1024 + 512 * b

abbrev pub trailer_at : ℕ → ℕ
trailer_at n = 576 * n + 1024

-- the bytes of the whole
abbrev pub size_of : ℕ → ℕ
size_of n = 576 * n + 1536

-- times are below 2^40
abbrev pub end_of_time : ℕ
end_of_time = 2 ^ 40
