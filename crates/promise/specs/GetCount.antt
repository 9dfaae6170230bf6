-- Document 01, GetCount: it reads the client's count; expired blocks that still stand are included.
use Rattle.std.specs.Prelude.{ℕ, ◌≡◌, Bool, List, [], ◌∷◌, ltb}
use Rattle.plain.specs.Tests.{when}
use Rattle.kinds.specs.declared.GetCountAnswer.{GetCountAnswer}
use Rattle.kinds.specs.declared.Report.{Report}
use Rattle.kinds.specs.declared.Report.TheVariants.{Success, BadImage, BadUser, Damaged}
use Rattle.tariff.specs.Charges.{get_count_charge}
use Rattle.tariff.specs.declared.Tariff.{Tariff}
use Rattle.promise.specs.Trailer.{n_of}
use Rattle.promise.specs.Counts.{count_of}
use Rattle.promise.specs.Refusals.{Row, row, lowest, succeeds, bad_image, bad_user, receipt, refusal}

-- 9: GetCount finds more than N
abbrev pub get_count_damaged : List ℕ → (client : ℕ) → Bool
get_count_damaged img client = ltb (n_of img) (count_of (n_of img) img client)

unfoldable pub get_count_rows : List ℕ → (client : ℕ) → List Row
get_count_rows img client =
    row (bad_image img) BadImage
    ∷ row (bad_user client) BadUser
    ∷ row (get_count_damaged img client) Damaged
    ∷ []

unfoldable pub get_count_report : List ℕ → (client : ℕ) → Report
get_count_report img client = lowest (get_count_rows img client)

unfoldable pub get_count_answer : Tariff → List ℕ → (client : ℕ) → GetCountAnswer
get_count_answer t img client =
    let r : Report = get_count_report img client in
    when (succeeds r)
    (record { receipt = receipt Success (get_count_charge t); count = count_of (n_of img) img client })
    (record { receipt = refusal t r; count = 0 })

pub record GetCountPromise (t : Tariff) (img : List ℕ) (client : ℕ) (a : GetCountAnswer) : Type 0 where
  pub answer : a ≡ get_count_answer t img client
