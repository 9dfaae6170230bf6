-- `store::destroy::destroy` meets its contract.
use Rattle.std.proofs.Common.{sym, ◌∙◌}
use Rattle.front.proofs.Fronts.{done_at}
use Rattle.store.proofs.Changes.{held_within, destroy_held, destroy_refused, destroy_done}
use Rattle.store.proofs.destroy.destroy.Goals as goal

pub of-h-requires : goal.of-h-requires
of-h-requires c =
    let h = destroy_held _ _ _ _ _ _ (sym c.seek.ensures ∙ c.in-Ok.is) in
    held_within _ _ _ h.laid h.below

pub destroy_charge-charge-requires : goal.destroy_charge-charge-requires
destroy_charge-charge-requires c =
    let h = destroy_held _ _ _ _ _ _ (sym c.seek.ensures ∙ c.in-Ok.is) in
    (rw (c.expires.ensures, c.of-h.ensures) h.expires_fits, h.time_fits)

pub erase-requires : goal.erase-requires
erase-requires c =
    let h = destroy_held _ _ _ _ _ _ (sym c.seek.ensures ∙ c.in-Ok.is) in
    (h.laid, h.below, h.bit, h.user)

pub returns-in-Err : goal.returns-in-Err
returns-in-Err c = destroy_refused _ _ _ _ _ _ _ (sym c.seek.ensures ∙ c.in-Err.is) c.refused.ensures

pub returns-in-Ok : goal.returns-in-Ok
returns-in-Ok c = destroy_done _ _ _ _ _ _ _ _ (sym c.seek.ensures ∙ c.in-Ok.is)
    (done_at _ _ _ c.done.ensures (c.destroy_charge-charge.ensures
    ∙ rw (c.created.ensures, c.expires.ensures, c.of-h.ensures))) _ c.erase.ensures
