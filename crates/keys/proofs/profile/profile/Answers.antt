-- `keys::profile::profile` meets its contract: its tests, and then the entries.
use mathlib.Core.Path.{sym, ◌∙◌}
use Rattle.keys.proofs.Entries.{refuses, room_for, enters}
use Rattle.keys.proofs.profile.profile.Goals as goal

pub give_profile-requires : goal.give_profile-requires
give_profile-requires c = let r = room_for _ _ _ _ _ (sym c.in-Ok.is ∙ c.tried.ensures) in (r.0, r.1, r.2, r.3)

pub returns-in-Err : goal.returns-in-Err
returns-in-Err c = rw c.refused.ensures (refuses _ _ _ _ _ _ (sym c.in-Err.is ∙ c.tried.ensures))

pub returns-in-Ok : goal.returns-in-Ok
returns-in-Ok c = enters _ _ _ _ _ (sym c.in-Ok.is ∙ c.tried.ensures) _ _ _
    c.give_profile.ensures.answer c.give_profile.ensures.bytes
