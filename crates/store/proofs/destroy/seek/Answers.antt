-- `store::destroy::seek` meets its contract.
use Rattle.std.proofs.Common.{sym, ◌∙◌}
use Rattle.front.proofs.Fronts.{exit}
use Rattle.store.proofs.Changes.{held, not_owned, none_left, some_left}
use Rattle.store.proofs.destroy.seek.Goals as goal

pub returns-in_err-f : goal.returns-in_err-f
returns-in_err-f c = exit _ c.from_residual.ensures.1 (not_owned _ _ _ _ _ (sym c.seek_own.ensures ∙ c.in_err-f.was))

pub count_of-requires : goal.count_of-requires
count_of-requires c =
    let h = held _ _ _ _ _ _ _ (sym c.seek_own.ensures ∙ c.in_ok-f.was) in
    (h.laid, h.user)

pub returns-in_err-left : goal.returns-in_err-left
returns-in_err-left c =
    exit _ c.from_residual-in_err-left.ensures.1
    (none_left _ _ _ _ _ (sym c.seek_own.ensures ∙ c.in_ok-f.was) _ c.count_of.ensures _ c.checked_sub.ensures _
    (sym c.ok_or.ensures.value ∙ c.in_err-left.was))

pub returns : goal.returns
returns c = sym
    (some_left _ _ _ _ _ (sym c.seek_own.ensures ∙ c.in_ok-f.was) _ c.count_of.ensures _ c.checked_sub.ensures _
    (sym c.ok_or.ensures.value ∙ c.in_ok-left.was))
