-- What Format's parts write.
use Rattle.std.specs.Prelude.{ℕ, List, ◌++◌}
use Rattle.word.specs.Word.{bytes_of}
use Rattle.promise.specs.Trailer.{back_to_headers, back_to_map, back_to_counts, back_to_data}

-- the first five numbers of a trailer: N and the distances
abbrev pub numbers : ℕ → List ℕ
numbers n = bytes_of 4 n ++ bytes_of 4 (back_to_headers n) ++ bytes_of 4 (back_to_map n)
    ++ bytes_of 4 (back_to_counts n)
    ++ bytes_of 4 (back_to_data n)
