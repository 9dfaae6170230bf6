-- The rows of document 01's table that stand in front, in the groups that the code tests one after the other, and what
-- a group answers.
use Rattle.std.specs.Prelude.{ℕ, Bool, ◌||◌, List, [], ◌∷◌, ◌++◌, Result, Ok, Err}
use Rattle.plain.specs.Tests.{when}
use Rattle.kinds.specs.declared.Report.{Report}
use Rattle.kinds.specs.declared.Report.TheVariants.{BadImage, BadUser, BadTime, ClockNotLater}
use Rattle.promise.specs.Refusals.{Row, row, succeeds, bad_image, bad_user, bad_now, bad_expiry, not_later}
use Rattle.image.specs.Image.{trailer_in}
use Rattle.image.specs.declared.trailer.Trailer.{Trailer}

-- the image and the client; for an operation that changes the store, also the times

unfoldable pub reading_rows : List ℕ → (client : ℕ) → List Row
reading_rows img client = row (bad_image img) BadImage ∷ row (bad_user client) BadUser ∷ []

unfoldable pub bad_times : (expiry time : ℕ) → Bool
bad_times expiry time = bad_now time || bad_expiry expiry

unfoldable pub time_rows : List ℕ → (expiry time : ℕ) → List Row
time_rows img expiry time = row (bad_times expiry time) BadTime ∷ row (not_later img time) ClockNotLater ∷ []

unfoldable pub changing_rows : List ℕ → (client expiry time : ℕ) → List Row
changing_rows img client expiry time = reading_rows img client ++ time_rows img expiry time

-- what tests answer: a value where no row applies, else the report of the lowest that does
unfoldable pub answered : {A : Type 0} → Report → A → Result A Report
answered r a = when (succeeds r) (Ok a) (Err r)

-- the tests in front: what the trailer says
abbrev pub front_of : Report → List ℕ → Result Trailer Report
front_of r img = answered r (trailer_in img)
