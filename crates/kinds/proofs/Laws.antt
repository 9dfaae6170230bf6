-- A report is known by its number.
-- Assumes nothing.
use Rattle.std.specs.Prelude.{◌≡◌, refl, List, [], ◌∷◌, ℕ, get_or}
use Rattle.std.proofs.Common.{sym, ap, ◌∙◌}
use Rattle.kinds.specs.Report.{number_of}
use Rattle.kinds.specs.declared.Report.{Report}
use Rattle.kinds.specs.declared.Report.TheVariants.{Success, BadImage, BadUser, BadTime, ClockNotLater}
use Rattle.kinds.specs.declared.Report.TheVariants.{NotManager, BadKey, BadCount, BadRoom, Damaged, NoSuchBlock}
use Rattle.kinds.specs.declared.Report.TheVariants.{NotOwner, NoSpace, NoSeries, BadTag, SequenceTwice}

-- the reports in the order in which they are tested
abbrev pub in_order : List Report
in_order = Success ∷ BadImage ∷ BadUser ∷ BadTime ∷ ClockNotLater ∷ NotManager ∷ BadKey ∷ BadCount ∷ BadRoom ∷ Damaged ∷
    NoSuchBlock ∷ NotOwner ∷ NoSpace ∷ NoSeries ∷ BadTag ∷ SequenceTwice ∷ []

-- a report stands at its own number
pub placed : (r : Report) → get_or in_order (number_of r) Success ≡ r
placed Success = refl
placed BadImage = refl
placed BadUser = refl
placed BadTime = refl
placed ClockNotLater = refl
placed NotManager = refl
placed BadKey = refl
placed BadCount = refl
placed BadRoom = refl
placed Damaged = refl
placed NoSuchBlock = refl
placed NotOwner = refl
placed NoSpace = refl
placed NoSeries = refl
placed BadTag = refl
placed SequenceTwice = refl

-- no two reports have one number
pub injective : (r s : Report) → number_of r ≡ number_of s → r ≡ s
injective r s e = sym (placed r) ∙ ap (λ (n : ℕ). get_or in_order n Success) e ∙ placed s
