-- `keys::scavenge::has_counts` meets its contract. The invariant: the answer so far is that for the clients so far.
use mathlib.Core.Path.{◌≡◌}
use Rattle.run.specs.Run.{all_of}
use Rattle.keys.specs.Marks.{has_count}
use Rattle.keys.proofs.scavenge.has_counts.Given as goal

abbrev pub invariant-loop-u : goal.invariant-loop-u
invariant-loop-u l = l.enough ≡ all_of (has_count l.n l.img l.tally) 0 l.u
