-- Document 01, Replace: it keeps the block number, so it works in a full store. Owner is the client, created is now,
-- expires is the old block's expires; a new id is made.
use Rattle.std.specs.Prelude.{ℕ, ◌≡◌, List, [], ◌∷◌}
use Rattle.plain.specs.Tests.{when}
use Rattle.word.specs.Word.{part}
use Rattle.word.specs.Write.{Write, puts}
use Rattle.kinds.specs.Kinds.{ident}
use Rattle.kinds.specs.declared.ReplaceAnswer.{ReplaceAnswer}
use Rattle.kinds.specs.declared.Report.{Report}
use Rattle.kinds.specs.declared.Report.TheVariants.{Success, BadImage, BadUser, BadTime, ClockNotLater, BadRoom}
use Rattle.kinds.specs.declared.Report.TheVariants.{Damaged, NoSuchBlock, NotOwner}
use Rattle.ident.specs.Ident.{null_id, id_of}
use Rattle.tariff.specs.Charges.{replace_charge}
use Rattle.tariff.specs.declared.Tariff.{Tariff}
use Rattle.promise.specs.Layout.{header_at, data_at}
use Rattle.promise.specs.Trailer.{n_of, clock_set}
use Rattle.promise.specs.Header.{created_of, expires_of, header_bytes}
use Rattle.promise.specs.Refusals.{Row, row, lowest, succeeds, bad_image, bad_user, bad_now, not_later, not_a_block}
use Rattle.promise.specs.Refusals.{receipt, refusal}
use Rattle.promise.specs.Lookup.{leads_to, header_for, lookup_damaged, no_such_block, not_owner}

-- when the new block expires
abbrev pub replace_expires : List ℕ → (id : ℕ) → ℕ
replace_expires img id = expires_of (header_for img id)

unfoldable pub replace_rows : List ℕ → (client id : ℕ) → List ℕ → (time : ℕ) → List Row
replace_rows img client id bytes time =
    row (bad_image img) BadImage
    ∷ row (bad_user client) BadUser
    ∷ row (bad_now time) BadTime
    ∷ row (not_later img time) ClockNotLater
    ∷ row (not_a_block bytes) BadRoom
    ∷ row (lookup_damaged img id) Damaged
    ∷ row (no_such_block img id) NoSuchBlock
    ∷ row (not_owner img client id) NotOwner
    ∷ []

unfoldable pub replace_report : List ℕ → (client id : ℕ) → List ℕ → (time : ℕ) → Report
replace_report img client id bytes time = lowest (replace_rows img client id bytes time)

-- the clock, the data, the header
unfoldable pub replace_writes : List ℕ → (client id : ℕ) → List ℕ → (time : ℕ) → List Write
replace_writes img client id bytes time =
    let n : ℕ = n_of img in
    let b : ℕ = leads_to id in
    clock_set n time
    ∷ record { at = data_at n b; bytes = part bytes 16 512 }
    ∷ record {
      at = header_at b;
      bytes = header_bytes client (id_of time b) time (replace_expires img id) (part bytes 0 16);
    }
    ∷ []

unfoldable pub replace_image : List ℕ → (client id : ℕ) → List ℕ → (time : ℕ) → List ℕ
replace_image img client id bytes time =
    when (succeeds (replace_report img client id bytes time)) (puts img (replace_writes img client id bytes time)) img

unfoldable pub replace_answer : Tariff → List ℕ → (client id : ℕ) → List ℕ → (time : ℕ) → ReplaceAnswer
replace_answer t img client id bytes time =
    let r : Report = replace_report img client id bytes time in
    let h : List ℕ = header_for img id in
    when (succeeds r)
    (record {
      receipt = receipt Success (replace_charge t (created_of h) (expires_of h) time time (replace_expires img id));
      id = ident (id_of time (leads_to id));
    })
    (record { receipt = refusal t r; id = ident null_id })

pub record ReplacePromise (t : Tariff) (img : List ℕ) (client id : ℕ) (bytes : List ℕ) (time : ℕ) (a : ReplaceAnswer)
    (img' : List ℕ) : Type 0 where
  pub answer : a ≡ replace_answer t img client id bytes time
  pub image : img' ≡ replace_image img client id bytes time
