-- The rows of each operation between those in front and the headers: they are decided by numbers alone. And what the
-- tests find.
use Rattle.std.specs.Prelude.{ℕ, ◌*◌, Bool, List, [], ◌∷◌, leb, ltb}
use Rattle.kinds.specs.declared.Report.TheVariants.{NotManager, BadKey, BadCount, BadRoom}
use Rattle.promise.specs.Trailer.{n_of}
use Rattle.promise.specs.Refusals.{Row, row, not_manager, bad_count}
use Rattle.keys.specs.declared.visit.Span.{Span}

abbrev pub ids_rows : (n key count room : ℕ) → List Row
ids_rows n key count room =
    row (leb n key) BadKey
    ∷ row (bad_count count) BadCount
    ∷ row (ltb room (8 * count)) BadRoom
    ∷ []

-- of Scavenge, which is lent no buffer, and of Profile
abbrev pub manager_rows : (n client key : ℕ) (small : Bool) → List Row
manager_rows n client key small = row (not_manager client) NotManager ∷ row (leb n key) BadKey ∷ row small BadRoom ∷ []

-- the headers that a call visits from its key upward
abbrev pub span : List ℕ → (key visited : ℕ) → Span
span img key visited = record { n = n_of img; from = key; visited = visited }
