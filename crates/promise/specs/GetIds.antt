-- Document 01, GetIds: it visits headers from the key upward, names the client's ids among them in rising block number,
-- and also stops as soon as it has named the asked count.
use Rattle.std.specs.Prelude.{ℕ, ◌+◌, ◌*◌, ◌≡◌, not, List, [], ◌∷◌, length}
use Rattle.plain.specs.Tests.{when}
use Rattle.word.specs.Word.{bytes_of}
use Rattle.word.specs.Write.{over}
use Rattle.kinds.specs.declared.GetIdsAnswer.{GetIdsAnswer}
use Rattle.kinds.specs.declared.Report.{Report}
use Rattle.kinds.specs.declared.Report.TheVariants.{Success, BadImage, BadUser, BadKey, BadCount, BadRoom, Damaged}
use Rattle.tariff.specs.Charges.{get_ids_charge}
use Rattle.tariff.specs.declared.Tariff.{Tariff}
use Rattle.run.specs.Run.{picked, stride, rows}
use Rattle.promise.specs.Trailer.{n_of}
use Rattle.promise.specs.Header.{header_of, id_in}
use Rattle.promise.specs.Counts.{owned_by}
use Rattle.promise.specs.Refusals.{Row, row, lowest, succeeds, bad_image, bad_user, bad_key, bad_count, too_small}
use Rattle.promise.specs.Refusals.{receipt, refusal}
use Rattle.promise.specs.Keys.{key_at, visited_good}

-- how many headers are visited
unfoldable pub ids_visited : List ℕ → (client key count : ℕ) → ℕ
ids_visited img client key count = stride (owned_by img client) (n_of img) count key

-- the block numbers of the ids that are named
unfoldable pub ids_named : List ℕ → (client key count : ℕ) → List ℕ
ids_named img client key count = picked (owned_by img client) key (ids_visited img client key count)

-- an id, 8 bytes
unfoldable pub id_row : List ℕ → (b : ℕ) → List ℕ
id_row img b = bytes_of 8 (id_in (header_of img b))

unfoldable pub get_ids_rows : List ℕ → (client key count : ℕ) → (ids : List ℕ) → List Row
get_ids_rows img client key count ids =
    row (bad_image img) BadImage
    ∷ row (bad_user client) BadUser
    ∷ row (bad_key img key) BadKey
    ∷ row (bad_count count) BadCount
    ∷ row (too_small ids (8 * count)) BadRoom
    ∷ row (not (visited_good img key (ids_visited img client key count))) Damaged
    ∷ []

unfoldable pub get_ids_report : List ℕ → (client key count : ℕ) → (ids : List ℕ) → Report
get_ids_report img client key count ids = lowest (get_ids_rows img client key count ids)

unfoldable pub get_ids_answer : Tariff → List ℕ → (client key count : ℕ) → (ids : List ℕ) → GetIdsAnswer
get_ids_answer t img client key count ids =
    let r : Report = get_ids_report img client key count ids in
    when (succeeds r)
    (record {
      receipt = receipt Success (get_ids_charge t);
      key = key_at (n_of img) (key + ids_visited img client key count);
      entries = length (ids_named img client key count);
    })
    (record { receipt = refusal t r; key = key; entries = 0 })

-- bytes of the buffer after the last written entry keep their values
unfoldable pub get_ids_buffer : List ℕ → (client key count : ℕ) → (ids : List ℕ) → List ℕ
get_ids_buffer img client key count ids =
    when (succeeds (get_ids_report img client key count ids))
    (over ids 0 (rows (id_row img) (ids_named img client key count))) ids

pub record GetIdsPromise (t : Tariff) (img : List ℕ) (client key count : ℕ) (ids : List ℕ) (a : GetIdsAnswer)
    (ids' : List ℕ) : Type 0 where
  pub answer : a ≡ get_ids_answer t img client key count ids
  pub given : ids' ≡ get_ids_buffer img client key count ids
