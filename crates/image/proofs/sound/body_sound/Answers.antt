-- `image::sound::body_sound` meets its contract: the tally begins with zeros.
use Rattle.image.proofs.Checks.{zeros}
use Rattle.image.proofs.sound.body_sound.Goals as goal

pub visit_all-requires : goal.visit_all-requires
visit_all-requires c = zeros 64
