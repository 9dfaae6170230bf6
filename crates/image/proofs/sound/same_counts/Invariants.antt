-- `image::sound::same_counts` meets its contract. The invariant: the counts of the clients so far are right.
use Rattle.std.proofs.Common.{◌≡◌, true}
use Rattle.run.specs.Run.{all_of}
use Rattle.image.specs.Image.{same_count}
use Rattle.image.proofs.sound.same_counts.Given as goal

abbrev pub invariant-loop-u : goal.invariant-loop-u
invariant-loop-u l = all_of (same_count l.n l.img l.tally) 0 l.u ≡ true
