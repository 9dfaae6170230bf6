-- `store::create::create` meets its contract.
use Rattle.std.proofs.Common.{sym, ◌∙◌, arith}
use Rattle.front.proofs.Fronts.{done_at}
use Rattle.store.proofs.Creates.{free_block, create_refused, create_done}
use Rattle.store.proofs.Stores.{later_is, later_fits}
use Rattle.store.proofs.create.create.Goals as goal

pub make-id-requires : goal.make-id-requires
make-id-requires c =
    let h = free_block _ _ _ _ _ _ (sym c.seek_free.ensures ∙ c.in-Ok.is) in
    (h.time_fits, omega (arith, h.below, h.laid.number.most))

pub invariant_of-fresh : goal.invariant_of-fresh
invariant_of-fresh c =
    let h = free_block _ _ _ _ _ _ (sym c.seek_free.ensures ∙ c.in-Ok.is) in
    record { known = h.user; whole = h.its_room }

pub fill-requires : goal.fill-requires
fill-requires c =
    let h = free_block _ _ _ _ _ _ (sym c.seek_free.ensures ∙ c.in-Ok.is) in
    (h.laid, h.below, h.bit, h.counted)

pub create_charge-requires : goal.create_charge-requires
create_charge-requires c =
    let h = free_block _ _ _ _ _ _ (sym c.seek_free.ensures ∙ c.in-Ok.is) in
    (h.time_fits, rw c.later_of-expires.ensures (later_fits _ _ h.time_fits h.expiry_fits))

pub returns-in-Err : goal.returns-in-Err
returns-in-Err c = create_refused _ _ _ _ _ _ _ _ (sym c.seek_free.ensures ∙ c.in-Err.is) c.refused.ensures

pub returns-in-Ok : goal.returns-in-Ok
returns-in-Ok c = create_done _ _ _ _ _ _ _ _
    (free_block _ _ _ _ _ _ (sym c.seek_free.ensures ∙ c.in-Ok.is)) _ (later_is _ _ _ c.later_of-expires.ensures) _
    c.make-id.ensures (done_at _ _ _ c.done.ensures c.create_charge.ensures) _ c.fill.ensures
