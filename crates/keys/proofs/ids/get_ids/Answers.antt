-- `keys::ids::get_ids` meets its contract: its tests, and then the ids.
use mathlib.Core.Path.{sym, ◌∙◌}
use Rattle.keys.proofs.Listing.{refuses, room_for, lists}
use Rattle.keys.proofs.ids.get_ids.Goals as goal

pub give_ids-requires : goal.give_ids-requires
give_ids-requires c = let r = room_for _ _ _ _ _ _ (sym c.in-Ok.is ∙ c.tried.ensures) in (r.0, r.1, r.2, r.3)

pub returns-in-Err : goal.returns-in-Err
returns-in-Err c = rw c.refused.ensures (refuses _ _ _ _ _ _ _ (sym c.in-Err.is ∙ c.tried.ensures))

pub returns-in-Ok : goal.returns-in-Ok
returns-in-Ok c = lists _ _ _ _ _ _ (sym c.in-Ok.is ∙ c.tried.ensures) _ _ _
    c.give_ids.ensures.answer c.give_ids.ensures.bytes
