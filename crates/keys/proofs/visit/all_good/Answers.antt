-- `keys::visit::all_good` meets its contract.
use mathlib.Core.Path.{◌∙◌}
use Rattle.keys.proofs.Visits.{all-told}
use Rattle.keys.proofs.visit.all_good.Goals as goal

pub returns : goal.returns
returns c = c.is_some.ensures ∙ rw c.visit.ensures (all-told _ _ _ _ _ c.requires.1)
