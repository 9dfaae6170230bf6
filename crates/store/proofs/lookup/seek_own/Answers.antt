-- `store::lookup::seek_own` meets its contract.
use Rattle.std.proofs.Common.{sym, ◌∙◌}
use Rattle.front.proofs.Fronts.{exit, changing_known}
use Rattle.store.proofs.Lookups.{not_timely, not_there, there_within, another_owner, is_own}
use Rattle.store.proofs.lookup.seek_own.Goals as goal

pub returns-in_err-n : goal.returns-in_err-n
returns-in_err-n c =
    exit _ c.from_residual.ensures.1 (not_timely _ _ _ _ _ _ _ (sym c.changing.ensures ∙ c.in_err-n.was))

pub invariant_of-find : goal.invariant_of-find
invariant_of-find c = record { known = changing_known _ _ _ _ _ (sym c.changing.ensures ∙ c.in_ok-n.was) }

pub returns-in_err-b : goal.returns-in_err-b
returns-in_err-b c =
    exit _ c.from_residual-in_err-b.ensures.1
    (not_there _ _ _ _ _ _ _ (sym c.changing.ensures ∙ c.in_ok-n.was) _ (sym c.find.ensures ∙ c.in_err-b.was))

pub of-requires : goal.of-requires
of-requires c = there_within _ _ _ _ _ _ _ (sym c.changing.ensures ∙ c.in_ok-n.was) _
    (sym c.find.ensures ∙ c.in_ok-b.was)

pub returns-then-ne : goal.returns-then-ne
returns-then-ne c = sym (another_owner _ _ _ _ _ _ _ (sym c.changing.ensures ∙ c.in_ok-n.was) _
    (sym c.find.ensures ∙ c.in_ok-b.was) _ c.of.ensures _ c.owner.ensures (sym c.ne.ensures ∙ c.if-ne.true))

pub returns : goal.returns
returns c = sym (is_own _ _ _ _ _ _ _ (sym c.changing.ensures ∙ c.in_ok-n.was) _
    (sym c.find.ensures ∙ c.in_ok-b.was) _ c.of.ensures _ c.owner.ensures (sym c.ne.ensures ∙ c.if-ne.false))
