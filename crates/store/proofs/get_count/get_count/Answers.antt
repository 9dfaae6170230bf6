-- `store::get_count::get_count` meets its contract.
use Rattle.std.proofs.Common.{sym, ◌∙◌}
use Rattle.front.proofs.Fronts.{done_at}
use Rattle.store.proofs.Sights.{count_refused, counted}
use Rattle.store.proofs.get_count.get_count.Goals as goal

pub returns-in-Err : goal.returns-in-Err
returns-in-Err c = count_refused _ _ _ _ _ (sym c.count.ensures ∙ c.in-Err.is) c.refused.ensures

pub returns-in-Ok : goal.returns-in-Ok
returns-in-Ok c = counted _ _ _ _ _ (sym c.count.ensures ∙ c.in-Ok.is) (done_at _ _ _ c.done.ensures c.price.ensures)
