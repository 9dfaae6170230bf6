-- `store::read::read` meets its contract.
use Rattle.std.proofs.Common.{sym, ◌∙◌, eqb-true}
use Rattle.front.proofs.Fronts.{done_at}
use Rattle.store.proofs.Sights.{sighted, read_refused, read_found}
use Rattle.store.proofs.read.read.Goals as goal

pub get_block-requires : goal.get_block-requires
get_block-requires c =
    let s = sighted _ _ _ _ _ (sym c.seek.ensures ∙ c.in-Ok.is) in
    (s.laid, s.below, eqb-true _ _ s.its_room)

pub returns-in-Err : goal.returns-in-Err
returns-in-Err c = read_refused _ _ _ _ _ _ _ (sym c.seek.ensures ∙ c.in-Err.is) c.refused.ensures

pub returns-in-Ok : goal.returns-in-Ok
returns-in-Ok c = read_found _ _ _ _ _ _ _ (sym c.seek.ensures ∙ c.in-Ok.is)
    (done_at _ _ _ c.done.ensures c.price.ensures) _ c.get_block.ensures
