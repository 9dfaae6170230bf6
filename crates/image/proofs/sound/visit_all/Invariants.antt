-- `image::sound::visit_all` meets its contract. The invariant: the headers so far are good, and the tally is theirs.
use Rattle.std.proofs.Common.{◌≡◌, ℕ, ◌*◌, true, get_or}
use Rattle.run.specs.Run.{all_of, times}
use Rattle.promise.specs.Map.{good}
use Rattle.image.specs.Image.{owners_from}
use Rattle.image.proofs.sound.visit_all.Given as goal

abbrev pub invariant-loop-i : goal.invariant-loop-i
invariant-loop-i l =
    (all_of (good l.image.bytes.now) 0 (8 * l.i) ≡ true)
    × ((u : ℕ) → get_or l.tally u 0 ≡ times u (owners_from l.image.bytes.now 0 (8 * l.i)))
