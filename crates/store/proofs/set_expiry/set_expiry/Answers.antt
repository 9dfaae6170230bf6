-- `store::set_expiry::set_expiry` meets its contract.
use Rattle.std.proofs.Common.{sym, ◌∙◌}
use Rattle.front.proofs.Fronts.{done_at}
use Rattle.store.proofs.Changes.{held, held_within, set_refused, set_done}
use Rattle.store.proofs.Stores.{later_is, later_fits}
use Rattle.store.proofs.set_expiry.set_expiry.Goals as goal

pub of-h-requires : goal.of-h-requires
of-h-requires c =
    let h = held _ _ _ _ _ _ _ (sym c.seek_own.ensures ∙ c.in-Ok.is) in
    held_within _ _ _ h.laid h.below

pub set_expiry_charge-charge-requires : goal.set_expiry_charge-charge-requires
set_expiry_charge-charge-requires c =
    let h = held _ _ _ _ _ _ _ (sym c.seek_own.ensures ∙ c.in-Ok.is) in (
      rw (c.expires.ensures, c.of-h.ensures) h.expires_fits,
      rw c.later_of-until.ensures (later_fits _ _ h.time_fits h.expiry_fits),
    )

pub keep-requires : goal.keep-requires
keep-requires c =
    let h = held _ _ _ _ _ _ _ (sym c.seek_own.ensures ∙ c.in-Ok.is) in
    (h.laid, h.below)

pub returns-in-Err : goal.returns-in-Err
returns-in-Err c = set_refused _ _ _ _ _ _ _ _ (sym c.seek_own.ensures ∙ c.in-Err.is) c.refused.ensures

pub returns-in-Ok : goal.returns-in-Ok
returns-in-Ok c =
    set_done _ _ _ _ _ _ _ _ _
    (held _ _ _ _ _ _ _ (sym c.seek_own.ensures ∙ c.in-Ok.is)) _ (later_is _ _ _ c.later_of-until.ensures)
    (done_at _ _ _ c.done.ensures (c.set_expiry_charge-charge.ensures
    ∙ rw (c.created.ensures, c.expires.ensures, c.of-h.ensures))) _ c.keep.ensures
