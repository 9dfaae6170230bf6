-- Document 01, Read: it gives the 528 bytes.
use Rattle.std.specs.Prelude.{ℕ, ◌≡◌, List, [], ◌∷◌}
use Rattle.plain.specs.Tests.{when}
use Rattle.kinds.specs.declared.ReadAnswer.{ReadAnswer}
use Rattle.kinds.specs.declared.Report.{Report}
use Rattle.kinds.specs.declared.Report.TheVariants.{Success, BadImage, BadUser, BadRoom, Damaged, NoSuchBlock}
use Rattle.tariff.specs.Charges.{read_charge}
use Rattle.tariff.specs.declared.Tariff.{Tariff}
use Rattle.promise.specs.Trailer.{n_of}
use Rattle.promise.specs.Counts.{service_block}
use Rattle.promise.specs.Refusals.{Row, row, lowest, succeeds, bad_image, bad_user, not_a_block, receipt, refusal}
use Rattle.promise.specs.Lookup.{leads_to, lookup_damaged, no_such_block}

unfoldable pub read_rows : List ℕ → (client id : ℕ) → (buffer : List ℕ) → List Row
read_rows img client id buffer =
    row (bad_image img) BadImage
    ∷ row (bad_user client) BadUser
    ∷ row (not_a_block buffer) BadRoom
    ∷ row (lookup_damaged img id) Damaged
    ∷ row (no_such_block img id) NoSuchBlock
    ∷ []

unfoldable pub read_report : List ℕ → (client id : ℕ) → (buffer : List ℕ) → Report
read_report img client id buffer = lowest (read_rows img client id buffer)

unfoldable pub read_answer : Tariff → List ℕ → (client id : ℕ) → (buffer : List ℕ) → ReadAnswer
read_answer t img client id buffer =
    let r : Report = read_report img client id buffer in
    when (succeeds r) (record { receipt = receipt Success (read_charge t) }) (record { receipt = refusal t r })

unfoldable pub read_buffer : List ℕ → (client id : ℕ) → (buffer : List ℕ) → List ℕ
read_buffer img client id buffer =
    when (succeeds (read_report img client id buffer)) (service_block (n_of img) img (leads_to id)) buffer

pub record ReadPromise (t : Tariff) (img : List ℕ) (client id : ℕ) (buffer : List ℕ) (a : ReadAnswer)
    (buffer' : List ℕ) : Type 0 where
  pub answer : a ≡ read_answer t img client id buffer
  pub given : buffer' ≡ read_buffer img client id buffer
