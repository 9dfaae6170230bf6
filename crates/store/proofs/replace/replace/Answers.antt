-- `store::replace::replace` meets its contract.
use Rattle.std.proofs.Common.{sym, ◌∙◌, arith, eqb-true}
use Rattle.front.proofs.Fronts.{done_at}
use Rattle.store.proofs.Changes.{held, held_within, replace_refused, replace_done}
use Rattle.store.proofs.Stores.{lent_expires, lent_fits}
use Rattle.store.proofs.replace.replace.Goals as goal

pub of-h-requires : goal.of-h-requires
of-h-requires c =
    let h = held _ _ _ _ _ _ _ (sym c.seek_own.ensures ∙ c.in-Ok.is) in
    held_within _ _ _ h.laid h.below

pub replace_charge-charge-requires : goal.replace_charge-charge-requires
replace_charge-charge-requires c =
    let h = held _ _ _ _ _ _ _ (sym c.seek_own.ensures ∙ c.in-Ok.is) in
    let e = lent_fits _ _ h.expires_fits _ c.of-h.ensures _ c.expires-expires.ensures in
    (omega (arith, e, h.time_fits), omega (arith, e))

pub make-made-requires : goal.make-made-requires
make-made-requires c =
    let h = held _ _ _ _ _ _ _ (sym c.seek_own.ensures ∙ c.in-Ok.is) in
    (h.time_fits, omega (arith, h.below, h.laid.number.most))

pub invariant_of-fresh : goal.invariant_of-fresh
invariant_of-fresh c =
    let h = held _ _ _ _ _ _ _ (sym c.seek_own.ensures ∙ c.in-Ok.is) in
    record { known = h.user; whole = eqb-true _ _ h.its_room }

pub write-requires : goal.write-requires
write-requires c =
    let h = held _ _ _ _ _ _ _ (sym c.seek_own.ensures ∙ c.in-Ok.is) in
    (h.laid, h.below)

pub returns-in-Err : goal.returns-in-Err
returns-in-Err c = replace_refused _ _ _ _ _ _ _ _ (sym c.seek_own.ensures ∙ c.in-Err.is) c.refused.ensures

pub returns-in-Ok : goal.returns-in-Ok
returns-in-Ok c =
    replace_done _ _ _ _ _ _ _ _ _
    (held _ _ _ _ _ _ _ (sym c.seek_own.ensures ∙ c.in-Ok.is)) _ c.make-made.ensures _
    (lent_expires _ _ _ c.of-h.ensures _ c.expires-expires.ensures)
    (done_at _ _ _ c.done.ensures (c.replace_charge-charge.ensures
    ∙ rw (c.created.ensures, c.of-h.ensures))) _ c.write.ensures
