-- Document 01, Destroy: it zeroes the header, frees the bit and lowers the count. The data block's bytes stay.
use Rattle.std.specs.Prelude.{ℕ, ◌-◌, ◌≡◌, Bool, not, ◌&&◌, ◌||◌, List, [], ◌∷◌, eqb}
use Rattle.plain.specs.Tests.{when}
use Rattle.word.specs.Write.{Write, puts}
use Rattle.kinds.specs.declared.DestroyAnswer.{DestroyAnswer}
use Rattle.kinds.specs.declared.Report.{Report}
use Rattle.kinds.specs.declared.Report.TheVariants.{Success, BadImage, BadUser, BadTime, ClockNotLater, Damaged}
use Rattle.kinds.specs.declared.Report.TheVariants.{NoSuchBlock, NotOwner}
use Rattle.tariff.specs.Charges.{destroy_charge}
use Rattle.tariff.specs.declared.Tariff.{Tariff}
use Rattle.promise.specs.Trailer.{n_of, clock_set}
use Rattle.promise.specs.Header.{header_zeroed, owner_of, created_of, expires_of}
use Rattle.promise.specs.Map.{bit_freed}
use Rattle.promise.specs.Counts.{count_of, count_set}
use Rattle.promise.specs.Refusals.{Row, row, lowest, succeeds, bad_image, bad_user, bad_now, not_later, receipt}
use Rattle.promise.specs.Refusals.{refusal}
use Rattle.promise.specs.Lookup.{leads_to, header_for, lookup_damaged, no_such_block, not_owner}

-- 9: also where neither 10 nor 11 applies and the owner's count is 0
unfoldable pub destroy_damaged : List ℕ → (client id : ℕ) → Bool
destroy_damaged img client id =
    lookup_damaged img id
    || (not (no_such_block img id) && not (not_owner img client id)
    && eqb (count_of (n_of img) img (owner_of (header_for img id))) 0)

unfoldable pub destroy_rows : List ℕ → (client id time : ℕ) → List Row
destroy_rows img client id time =
    row (bad_image img) BadImage
    ∷ row (bad_user client) BadUser
    ∷ row (bad_now time) BadTime
    ∷ row (not_later img time) ClockNotLater
    ∷ row (destroy_damaged img client id) Damaged
    ∷ row (no_such_block img id) NoSuchBlock
    ∷ row (not_owner img client id) NotOwner
    ∷ []

unfoldable pub destroy_report : List ℕ → (client id time : ℕ) → Report
destroy_report img client id time = lowest (destroy_rows img client id time)

-- the clock, the header, the map, the count
unfoldable pub destroy_writes : List ℕ → (id time : ℕ) → List Write
destroy_writes img id time =
    let n : ℕ = n_of img in
    let u : ℕ = owner_of (header_for img id) in
    clock_set n time
    ∷ header_zeroed (leads_to id)
    ∷ bit_freed n img (leads_to id)
    ∷ count_set n u (count_of n img u - 1)
    ∷ []

unfoldable pub destroy_image : List ℕ → (client id time : ℕ) → List ℕ
destroy_image img client id time = when (succeeds (destroy_report img client id time))
    (puts img (destroy_writes img id time)) img

unfoldable pub destroy_answer : Tariff → List ℕ → (client id time : ℕ) → DestroyAnswer
destroy_answer t img client id time =
    let r : Report = destroy_report img client id time in
    let h : List ℕ = header_for img id in
    when (succeeds r)
    (record { receipt = receipt Success (destroy_charge t (created_of h) (expires_of h) time) })
    (record { receipt = refusal t r })

pub record DestroyPromise (t : Tariff) (img : List ℕ) (client id time : ℕ) (a : DestroyAnswer)
    (img' : List ℕ) : Type 0 where
  pub answer : a ≡ destroy_answer t img client id time
  pub image : img' ≡ destroy_image img client id time
