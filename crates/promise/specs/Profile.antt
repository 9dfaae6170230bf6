-- Document 01, Profile: it writes, for each used block in rising block number, owner, created, expires, 8 bytes each.
use Rattle.std.specs.Prelude.{ℕ, ◌+◌, ◌≡◌, not, List, [], ◌∷◌, ◌++◌, length}
use Rattle.plain.specs.Tests.{when}
use Rattle.word.specs.Word.{bytes_of}
use Rattle.word.specs.Write.{over}
use Rattle.kinds.specs.declared.ProfileAnswer.{ProfileAnswer}
use Rattle.kinds.specs.declared.Report.{Report}
use Rattle.kinds.specs.declared.Report.TheVariants.{Success, BadImage, BadUser, NotManager, BadKey, BadRoom, Damaged}
use Rattle.tariff.specs.Charges.{profile_charge}
use Rattle.tariff.specs.declared.Tariff.{Tariff}
use Rattle.run.specs.Run.{picked, rows}
use Rattle.promise.specs.Trailer.{n_of}
use Rattle.promise.specs.Header.{header_of, is_used, owner_of, created_of, expires_of}
use Rattle.promise.specs.Refusals.{Row, row, lowest, succeeds, bad_image, bad_user, not_manager, bad_key, too_small}
use Rattle.promise.specs.Refusals.{receipt, refusal}
use Rattle.promise.specs.Keys.{reach, key_at, visited_good}

-- the used blocks among the headers visited
unfoldable pub profiled : List ℕ → (key : ℕ) → List ℕ
profiled img key = picked (λ b. is_used (header_of img b)) key (reach img key)

-- an entry, 24 bytes
unfoldable pub profile_row : List ℕ → (b : ℕ) → List ℕ
profile_row img b = let h : List ℕ = header_of img b in bytes_of 8 (owner_of h) ++ bytes_of 8 (created_of h)
    ++ bytes_of 8 (expires_of h)

unfoldable pub profile_rows : List ℕ → (client key : ℕ) → (buffer : List ℕ) → List Row
profile_rows img client key buffer =
    row (bad_image img) BadImage
    ∷ row (bad_user client) BadUser
    ∷ row (not_manager client) NotManager
    ∷ row (bad_key img key) BadKey
    ∷ row (too_small buffer 1536) BadRoom
    ∷ row (not (visited_good img key (reach img key))) Damaged
    ∷ []

unfoldable pub profile_report : List ℕ → (client key : ℕ) → (buffer : List ℕ) → Report
profile_report img client key buffer = lowest (profile_rows img client key buffer)

unfoldable pub profile_answer : Tariff → List ℕ → (client key : ℕ) → (buffer : List ℕ) → ProfileAnswer
profile_answer t img client key buffer =
    let r : Report = profile_report img client key buffer in
    when (succeeds r)
    (record {
      receipt = receipt Success (profile_charge t);
      key = key_at (n_of img) (key + reach img key);
      entries = length (profiled img key);
    })
    (record { receipt = refusal t r; key = key; entries = 0 })

-- bytes of the buffer after the last written entry keep their values
unfoldable pub profile_buffer : List ℕ → (client key : ℕ) → (buffer : List ℕ) → List ℕ
profile_buffer img client key buffer =
    when (succeeds (profile_report img client key buffer))
    (over buffer 0 (rows (profile_row img) (profiled img key))) buffer

pub record ProfilePromise (t : Tariff) (img : List ℕ) (client key : ℕ) (buffer : List ℕ) (a : ProfileAnswer)
    (buffer' : List ℕ) : Type 0 where
  pub answer : a ≡ profile_answer t img client key buffer
  pub given : buffer' ≡ profile_buffer img client key buffer
