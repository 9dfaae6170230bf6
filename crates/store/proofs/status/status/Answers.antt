-- `store::status::status` meets its contract.
use Rattle.std.proofs.Common.{sym, ◌∙◌}
use Rattle.front.proofs.Fronts.{done_at}
use Rattle.store.proofs.Sights.{header_within, status_refused, status_found}
use Rattle.store.proofs.status.status.Goals as goal

pub of-h-requires : goal.of-h-requires
of-h-requires c = header_within _ _ _ _ _ (sym c.seek.ensures ∙ c.in-Ok.is)

pub returns-in-Err : goal.returns-in-Err
returns-in-Err c = status_refused _ _ _ _ _ _ (sym c.seek.ensures ∙ c.in-Err.is) c.refused.ensures

pub returns-in-Ok : goal.returns-in-Ok
returns-in-Ok c = status_found _ _ _ _ _ _ (sym c.seek.ensures ∙ c.in-Ok.is)
    (done_at _ _ _ c.done.ensures c.price.ensures) _ c.of-h.ensures _ _ _
    c.owner.ensures c.created.ensures c.expires.ensures
