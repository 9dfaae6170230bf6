-- Document 01, Scavenge: it removes, as Destroy does, blocks whose expires is less than now, strictly, and gives their
-- number.
use Rattle.std.specs.Prelude.{ℕ, ◌+◌, ◌-◌, ◌≡◌, Bool, not, ◌&&◌, ◌||◌, List, [], ◌∷◌, map, eqb, leb, ltb, length}
use Rattle.plain.specs.Tests.{when}
use Rattle.word.specs.Write.{puts}
use Rattle.kinds.specs.declared.ScavengeAnswer.{ScavengeAnswer}
use Rattle.kinds.specs.declared.Report.{Report}
use Rattle.kinds.specs.declared.Report.TheVariants.{Success, BadImage, BadUser, BadTime, ClockNotLater, NotManager}
use Rattle.kinds.specs.declared.Report.TheVariants.{BadKey, Damaged}
use Rattle.tariff.specs.Charges.{scavenge_charge}
use Rattle.tariff.specs.declared.Tariff.{Tariff}
use Rattle.run.specs.Run.{picked, all_of, each}
use Rattle.promise.specs.Trailer.{n_of, clock_set}
use Rattle.promise.specs.Header.{header_of, is_used, owner_of, expires_of, header_zeroed}
use Rattle.promise.specs.Map.{bit_freed}
use Rattle.promise.specs.Counts.{count_of, count_set}
use Rattle.promise.specs.Refusals.{Row, row, lowest, succeeds, bad_image, bad_user, bad_now, not_later, not_manager}
use Rattle.promise.specs.Refusals.{bad_key, receipt, refusal}
use Rattle.promise.specs.Keys.{reach, key_at, visited_good}

-- block b is used and its expires is less than now, strictly
unfoldable pub expired : List ℕ → (time b : ℕ) → Bool
expired img time b = is_used (header_of img b) && ltb (expires_of (header_of img b)) time

-- the blocks that one call removes, in rising block number
unfoldable pub gone : List ℕ → (key time : ℕ) → List ℕ
gone img key time = picked (expired img time) key (reach img key)

-- of these, how many one owner loses
unfoldable pub gone_of : List ℕ → (key time u : ℕ) → ℕ
gone_of img key time u =
    length (picked (λ b. expired img time b && eqb (owner_of (header_of img b)) u) key (reach img key))

-- 9: a visited header is not good, or Scavenge would take a count below 0
unfoldable pub scavenge_damaged : List ℕ → (key time : ℕ) → Bool
scavenge_damaged img key time =
    not (visited_good img key (reach img key))
    || not (all_of (λ u. leb (gone_of img key time u) (count_of (n_of img) img u)) 0 64)

unfoldable pub scavenge_rows : List ℕ → (client key time : ℕ) → List Row
scavenge_rows img client key time =
    row (bad_image img) BadImage
    ∷ row (bad_user client) BadUser
    ∷ row (bad_now time) BadTime
    ∷ row (not_later img time) ClockNotLater
    ∷ row (not_manager client) NotManager
    ∷ row (bad_key img key) BadKey
    ∷ row (scavenge_damaged img key time) Damaged
    ∷ []

unfoldable pub scavenge_report : List ℕ → (client key time : ℕ) → Report
scavenge_report img client key time = lowest (scavenge_rows img client key time)

-- the map's bit of a block freed, and the count of a block's owner lowered, in the image as it then stands; the owner
-- is the one that the block had before
abbrev pub map_freed : (n : ℕ) → List ℕ → ℕ → List ℕ
map_freed n s b = puts s (bit_freed n s b ∷ [])

abbrev pub count_lowered : (n : ℕ) (img : List ℕ) → List ℕ → ℕ → List ℕ
count_lowered n img s b = let u : ℕ = owner_of (header_of img b) in puts s (count_set n u (count_of n s u - 1) ∷ [])

-- the clock, the headers from the lowest, the map, the counts
unfoldable pub scavenged : List ℕ → (key time : ℕ) → List ℕ
scavenged img key time =
    let n : ℕ = n_of img in
    let bs : List ℕ = gone img key time in
    each (count_lowered n img) (each (map_freed n) (puts img (clock_set n time ∷ map header_zeroed bs)) bs) bs

unfoldable pub scavenge_image : List ℕ → (client key time : ℕ) → List ℕ
scavenge_image img client key time = when (succeeds (scavenge_report img client key time)) (scavenged img key time) img

unfoldable pub scavenge_answer : Tariff → List ℕ → (client key time : ℕ) → ScavengeAnswer
scavenge_answer t img client key time =
    let r : Report = scavenge_report img client key time in
    when (succeeds r)
    (record {
      receipt = receipt Success (scavenge_charge t);
      key = key_at (n_of img) (key + reach img key);
      count = length (gone img key time);
    })
    (record { receipt = refusal t r; key = key; count = 0 })

pub record ScavengePromise (t : Tariff) (img : List ℕ) (client key time : ℕ) (a : ScavengeAnswer)
    (img' : List ℕ) : Type 0 where
  pub answer : a ≡ scavenge_answer t img client key time
  pub image : img' ≡ scavenge_image img client key time
