-- `image::sound::check` meets its contract: where the trailer is right, what it says is the image's.
use Rattle.std.proofs.Common.{sym, ◌∙◌}
use Rattle.image.proofs.Checks.{told_known}
use Rattle.image.proofs.sound.check.Goals as goal

pub invariant_of-body_sound : goal.invariant_of-body_sound
invariant_of-body_sound c = record { known = told_known _ _ (sym c.read_trailer.ensures ∙ c.in-Some.is) }
