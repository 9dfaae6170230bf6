-- `keys::scavenge::lower_counts` meets its contract. The invariant: what is yet to be lowered, lowered in the image as
-- it is, gives the image as it shall be.
use Prim.Native.Nat.{◌-◌}
use mathlib.Core.Path.{◌≡◌}
use lib.ListN.{length}
use Rattle.run.specs.Run.{picked, each}
use Rattle.keys.specs.Marks.{owes, lowered_by}
use Rattle.keys.proofs.scavenge.lower_counts.Given as goal

abbrev pub invariant-loop-u : goal.invariant-loop-u
invariant-loop-u l =
    (length l.img ≡ length l.initial.img)
    × (each (lowered_by l.n l.tally) l.img (picked (owes l.tally) l.u (64 - l.u))
    ≡ each (lowered_by l.n l.tally) l.initial.img (picked (owes l.tally) 0 64))
