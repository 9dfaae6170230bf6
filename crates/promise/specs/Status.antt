-- Document 01, Status: it gives owner, created, expires.
use Rattle.std.specs.Prelude.{ℕ, ◌≡◌, List, [], ◌∷◌}
use Rattle.plain.specs.Tests.{when}
use Rattle.kinds.specs.Kinds.{user, tick}
use Rattle.kinds.specs.declared.StatusAnswer.{StatusAnswer}
use Rattle.kinds.specs.declared.Report.{Report}
use Rattle.kinds.specs.declared.Report.TheVariants.{Success, BadImage, BadUser, Damaged, NoSuchBlock}
use Rattle.tariff.specs.Charges.{status_charge}
use Rattle.tariff.specs.declared.Tariff.{Tariff}
use Rattle.promise.specs.Header.{owner_of, created_of, expires_of}
use Rattle.promise.specs.Refusals.{Row, row, lowest, succeeds, bad_image, bad_user, receipt, refusal}
use Rattle.promise.specs.Lookup.{header_for, lookup_damaged, no_such_block}

unfoldable pub status_rows : List ℕ → (client id : ℕ) → List Row
status_rows img client id =
    row (bad_image img) BadImage
    ∷ row (bad_user client) BadUser
    ∷ row (lookup_damaged img id) Damaged
    ∷ row (no_such_block img id) NoSuchBlock
    ∷ []

unfoldable pub status_report : List ℕ → (client id : ℕ) → Report
status_report img client id = lowest (status_rows img client id)

unfoldable pub status_answer : Tariff → List ℕ → (client id : ℕ) → StatusAnswer
status_answer t img client id =
    let r : Report = status_report img client id in
    let h : List ℕ = header_for img id in
    when (succeeds r)
    (record {
      receipt = receipt Success (status_charge t);
      owner = user (owner_of h);
      created = tick (created_of h);
      expires = tick (expires_of h);
    })
    (record { receipt = refusal t r; owner = user 0; created = tick 0; expires = tick 0 })

pub record StatusPromise (t : Tariff) (img : List ℕ) (client id : ℕ) (a : StatusAnswer) : Type 0 where
  pub answer : a ≡ status_answer t img client id
