-- What a caller knows of an image whose trailer it has read; what that reading answers; and the parts of document 01's
-- rules that the code tests one after the other.
use Rattle.std.specs.Prelude.{◌≡◌, ℕ, ◌+◌, ◌/◌, ◌-◌, ◌%◌, ◌^◌, ◌<◌, Bool, ◌&&◌, ltb, List, [], ◌∷◌, map, length, ◌==◌}
use Rattle.std.specs.Prelude.{nat_eq, nat_le, nat_lt, slice_index, slice_set, Option, Some, None}
use Rattle.plain.specs.Tests.{when}
use Rattle.word.specs.Word.{part, le, word_at, all_zero}
use Rattle.kinds.specs.Kinds.{tick, block_num}
use Rattle.kinds.specs.declared.BlockNum.{BlockNum}
use Rattle.run.specs.Run.{first, picked, all_of, times}
use Rattle.promise.specs.Layout.{size_of, end_of_time}
use Rattle.promise.specs.Trailer.{n_of, clock_of, back_to_headers, back_to_map, back_to_counts, back_to_data, mark}
use Rattle.promise.specs.Trailer.{trailer_right}
use Rattle.promise.specs.Header.{header_of, is_used, owner_of, created_of, expires_of}
use Rattle.promise.specs.Map.{free, spare_zero, good}
use Rattle.promise.specs.Counts.{count_of, owners}
use Rattle.promise.proofs.TrailerLaws.{Number}
use Rattle.image.specs.declared.trailer.Trailer.{Trailer}

-- it is laid out for n service blocks
pub record Laid (img : List ℕ) (n : ℕ) : Type 0 where
  pub number : Number n
  pub size : length img ≡ size_of n

-- n and clock are its trailer's
pub record Known (img : List ℕ) (n clock : ℕ) : Type 0 where
  pub laid : Laid img n
  pub its_n : n_of img ≡ n
  pub its_clock : clock_of img ≡ clock
  pub in_time : clock < 2 ^ 40

-- what its trailer says, and what a reading answers: that, where the trailer is right
abbrev pub trailer_in : List ℕ → Trailer
trailer_in img = record { n = n_of img; clock = tick (clock_of img) }

unfoldable pub trailer_answer : List ℕ → Option Trailer
trailer_answer img = when (trailer_right img) (Some (trailer_in img)) None

-- the tests of the distances, and of what follows them
abbrev pub distance_tests : (t : List ℕ) (n : ℕ) → List Bool
distance_tests t n =
    (word_at 4 t 4 == back_to_headers n)
    ∷ (word_at 4 t 8 == back_to_map n)
    ∷ (word_at 4 t 12 == back_to_counts n)
    ∷ (word_at 4 t 16 == back_to_data n)
    ∷ []

abbrev pub rest_tests : (t : List ℕ) → List Bool
rest_tests t =
    all_zero (part t 20 4)
    ∷ nat_lt (word_at 8 t 24) end_of_time
    ∷ all_zero (part t 32 476)
    ∷ (word_at 4 t 508 == le mark)
    ∷ []

-- the tests of a used header's fixed bytes, and of its times
abbrev pub shape_tests : (h : List ℕ) → List Bool
shape_tests h = is_used h ∷ all_zero (part h 2 6) ∷ all_zero (part h 48 16) ∷ nat_le (owner_of h) 63 ∷ []

abbrev pub time_tests : (clock : ℕ) (h : List ℕ) → List Bool
time_tests clock h = nat_le 1 (created_of h) ∷ nat_le (created_of h) clock ∷ nat_le 1 (expires_of h) ∷ ltb
    (expires_of h) end_of_time ∷ []

-- bit j of a byte is 1
unfoldable pub bit_of : (m j : ℕ) → Bool
bit_of m j = m / 2 ^ j % 2 == 1

-- the lowest free block of those from b up to n
unfoldable pub lowest_from : (n : ℕ) → List ℕ → (b : ℕ) → Option BlockNum
lowest_from n img b =
    let x : ℕ = first (free n img) b (n - b) in
    when (ltb x n) (Some (block_num x)) None

-- a tally of owners with one more block for the owner of a used header
unfoldable pub tallied : (h tally : List ℕ) → List ℕ
tallied h tally = when (is_used h) (slice_set tally (owner_of h) (slice_index tally (owner_of h) + 1)) tally

-- the owners of the used headers among k from b on
abbrev pub owners_from : (img : List ℕ) (b k : ℕ) → List ℕ
owners_from img b k = map (λ b. owner_of (header_of img b)) (picked (λ b. is_used (header_of img b)) b k)

-- a client's count is its tally
abbrev pub same_count : (n : ℕ) (img tally : List ℕ) (u : ℕ) → Bool
same_count n img tally u = count_of n img u == slice_index tally u

-- all of an image but its trailer is sound
unfoldable pub body_sound : List ℕ → Bool
body_sound img =
    let n : ℕ = n_of img in
    all_of (good img) 0 n && spare_zero n img && all_of (λ u. nat_eq (count_of n img u) (times u (owners n img))) 0 64
