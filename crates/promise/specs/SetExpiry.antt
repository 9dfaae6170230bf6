-- Document 01, SetExpiry: it sets expires to the later of now and the asked expiry. Nothing else in the header changes.
use Rattle.std.specs.Prelude.{ℕ, ◌+◌, ◌≡◌, ◌||◌, List, [], ◌∷◌}
use Rattle.plain.specs.Tests.{when}
use Rattle.word.specs.Word.{bytes_of}
use Rattle.word.specs.Write.{Write, puts}
use Rattle.kinds.specs.declared.SetExpiryAnswer.{SetExpiryAnswer}
use Rattle.kinds.specs.declared.Report.{Report}
use Rattle.kinds.specs.declared.Report.TheVariants.{Success, BadImage, BadUser, BadTime, ClockNotLater, Damaged}
use Rattle.kinds.specs.declared.Report.TheVariants.{NoSuchBlock, NotOwner}
use Rattle.tariff.specs.Charges.{set_expiry_charge}
use Rattle.tariff.specs.declared.Tariff.{Tariff}
use Rattle.promise.specs.Layout.{header_at}
use Rattle.promise.specs.Trailer.{n_of, clock_set}
use Rattle.promise.specs.Header.{created_of, expires_of, later_of}
use Rattle.promise.specs.Refusals.{Row, row, lowest, succeeds, bad_image, bad_user, bad_now, bad_expiry, not_later}
use Rattle.promise.specs.Refusals.{receipt, refusal}
use Rattle.promise.specs.Lookup.{leads_to, header_for, lookup_damaged, no_such_block, not_owner}

unfoldable pub set_expiry_rows : List ℕ → (client id expiry time : ℕ) → List Row
set_expiry_rows img client id expiry time =
    row (bad_image img) BadImage
    ∷ row (bad_user client) BadUser
    ∷ row (bad_now time || bad_expiry expiry) BadTime
    ∷ row (not_later img time) ClockNotLater
    ∷ row (lookup_damaged img id) Damaged
    ∷ row (no_such_block img id) NoSuchBlock
    ∷ row (not_owner img client id) NotOwner
    ∷ []

unfoldable pub set_expiry_report : List ℕ → (client id expiry time : ℕ) → Report
set_expiry_report img client id expiry time = lowest (set_expiry_rows img client id expiry time)

-- the clock, and the header's expires
unfoldable pub set_expiry_writes : List ℕ → (id expiry time : ℕ) → List Write
set_expiry_writes img id expiry time =
    clock_set (n_of img) time
    ∷ record { at = header_at (leads_to id) + 24; bytes = bytes_of 8 (later_of time expiry) }
    ∷ []

unfoldable pub set_expiry_image : List ℕ → (client id expiry time : ℕ) → List ℕ
set_expiry_image img client id expiry time =
    when (succeeds (set_expiry_report img client id expiry time)) (puts img (set_expiry_writes img id expiry time)) img

unfoldable pub set_expiry_answer : Tariff → List ℕ → (client id expiry time : ℕ) → SetExpiryAnswer
set_expiry_answer t img client id expiry time =
    let r : Report = set_expiry_report img client id expiry time in
    let h : List ℕ = header_for img id in
    when (succeeds r)
    (record {
      receipt = receipt Success
          (set_expiry_charge t (created_of h) (expires_of h) (created_of h) (later_of time expiry));
    })
    (record { receipt = refusal t r })

pub record SetExpiryPromise (t : Tariff) (img : List ℕ) (client id expiry time : ℕ) (a : SetExpiryAnswer)
    (img' : List ℕ) : Type 0 where
  pub answer : a ≡ set_expiry_answer t img client id expiry time
  pub image : img' ≡ set_expiry_image img client id expiry time
