-- `store::lookup::seek` meets its contract.
use Rattle.std.proofs.Common.{sym, ◌∙◌}
use Rattle.front.proofs.Fronts.{exit, reading_known}
use Rattle.store.proofs.Lookups.{not_read, not_found, is_sought}
use Rattle.store.proofs.lookup.seek.Goals as goal

pub returns-in_err-n : goal.returns-in_err-n
returns-in_err-n c =
    exit _ c.from_residual.ensures.1 (not_read _ _ _ _ _ (sym c.reading.ensures ∙ c.in_err-n.was))

pub invariant_of-find : goal.invariant_of-find
invariant_of-find c = record { known = reading_known _ _ _ (sym c.reading.ensures ∙ c.in_ok-n.was) }

pub returns-in_err-b : goal.returns-in_err-b
returns-in_err-b c =
    exit _ c.from_residual-in_err-b.ensures.1
    (not_found _ _ _ _ _ (sym c.reading.ensures ∙ c.in_ok-n.was) _ (sym c.find.ensures ∙ c.in_err-b.was))

pub returns : goal.returns
returns c = sym (is_sought _ _ _ _ _ (sym c.reading.ensures ∙ c.in_ok-n.was) _ (sym c.find.ensures ∙ c.in_ok-b.was))
