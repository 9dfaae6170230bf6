-- `image::sound::visit_each` meets its contract. The invariant: the headers so far are good, and the tally has grown by
-- theirs.
use Rattle.std.proofs.Common.{◌≡◌, ℕ, ◌+◌, ◌*◌, true, length, get_or}
use Rattle.run.specs.Run.{all_of, times}
use Rattle.promise.specs.Map.{good}
use Rattle.image.specs.Image.{owners_from}
use Rattle.image.proofs.sound.visit_each.Given as goal

abbrev pub invariant-loop-j : goal.invariant-loop-j
invariant-loop-j l =
    (length l.tally ≡ 64)
    × (all_of (good l.image.bytes.now) (8 * l.i) l.j ≡ true)
    × ((u : ℕ) → get_or l.tally u 0
    ≡ get_or l.initial.tally u 0 + times u (owners_from l.image.bytes.now (8 * l.i) l.j))
