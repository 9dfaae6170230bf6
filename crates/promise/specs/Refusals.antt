-- Document 01, Reports, in the order they are tested: the rows that operations share, and the lowest number that
-- applies.
use Rattle.std.specs.Prelude.{ℕ, ◌<◌, ◌≡◌, Bool, true, false, not, ◌&&◌, ◌||◌, List, [], ◌∷◌, eqb, leb, ltb, ℤ, length}
use Rattle.plain.specs.Tests.{when}
use Rattle.kinds.specs.Kinds.{money}
use Rattle.kinds.specs.Report.{number_of}
use Rattle.kinds.specs.declared.Receipt.{Receipt}
use Rattle.kinds.specs.declared.Report.{Report}
use Rattle.kinds.specs.declared.Report.TheVariants.{Success}
use Rattle.tariff.specs.Charges.{error_charge}
use Rattle.tariff.specs.declared.Tariff.{Tariff}
use Rattle.promise.specs.Layout.{end_of_time}
use Rattle.promise.specs.Trailer.{n_of, clock_of, trailer_right}

-- a row of the table: its report, and whether it is to be given
pub record Row : Type 0 where
  pub applies : Bool
  pub report : Report

abbrev pub row : Bool → Report → Row
row t r = record { applies = t; report = r }

-- the lowest number that applies is given: rows stand in the order of their numbers, and Success is for no other
unfoldable pub lowest : List Row → Report
lowest [] = Success
lowest (r ∷ rs) = when r.applies r.report (lowest rs)

abbrev pub succeeds : Report → Bool
succeeds r = eqb (number_of r) 0

-- what that says of a report: no lower row applies, and it is a row that applies, or Success where no row does
unfoldable pub applies : List Row → ℕ → Bool
applies [] k = false
applies (r ∷ rs) k = (r.applies && eqb (number_of r.report) k) || applies rs k

pub record Given (rows : List Row) (r : Report) : Type 0 where
  pub first : (k : ℕ) → k < number_of r → applies rows k ≡ false
  pub refused : 0 < number_of r → applies rows (number_of r) ≡ true
  pub clear : number_of r ≡ 0 → (k : ℕ) → applies rows k ≡ false

-- 1: length or trailer wrong
abbrev pub bad_image : List ℕ → Bool
bad_image img = not (trailer_right img)

-- 2: client above 63
abbrev pub bad_user : ℕ → Bool
bad_user client = ltb 63 client

-- 3: now or the asked expiry out of range (an expiry of 0 is allowed)
unfoldable pub bad_now : ℕ → Bool
bad_now time = eqb time 0 || leb end_of_time time

abbrev pub bad_expiry : ℕ → Bool
bad_expiry expiry = leb end_of_time expiry

-- 4: now not above the clock
abbrev pub not_later : List ℕ → ℕ → Bool
not_later img time = leb time (clock_of img)

-- 5: client not 0
abbrev pub not_manager : ℕ → Bool
not_manager client = not (eqb client 0)

-- 6: key not below N (the end key is refused too)
abbrev pub bad_key : List ℕ → ℕ → Bool
bad_key img key = leb (n_of img) key

-- 7: count 0 or above 64
unfoldable pub bad_count : ℕ → Bool
bad_count count = eqb count 0 || ltb 64 count

-- 8: data buffer not 528; a buffer below what is asked for
abbrev pub not_a_block : List ℕ → Bool
not_a_block bytes = not (eqb (length bytes) 528)

abbrev pub too_small : List ℕ → ℕ → Bool
too_small buffer asked = ltb (length buffer) asked

-- what is given: the report with the charge; for a refusal, the error price
abbrev pub receipt : Report → ℤ → Receipt
receipt r charge = record { report = r; charge = money charge }

abbrev pub refusal : Tariff → Report → Receipt
refusal t r = receipt r (error_charge t)
