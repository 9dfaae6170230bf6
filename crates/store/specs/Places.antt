-- What Create's tests find.
use Rattle.std.specs.Prelude.{ℕ, List}
use Rattle.kinds.specs.Kinds.{block_num}
use Rattle.promise.specs.Trailer.{n_of}
use Rattle.promise.specs.Counts.{count_of}
use Rattle.promise.specs.Create.{lowest_free}
use Rattle.store.specs.declared.create.Place.{Place}

-- N, the lowest free block, and how many blocks the client has
abbrev pub place_for : List ℕ → (client : ℕ) → Place
place_for img client = record {
  n = n_of img;
  b = block_num (lowest_free img);
  count = count_of (n_of img) img client;
}
