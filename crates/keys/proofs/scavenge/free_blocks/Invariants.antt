-- `keys::scavenge::free_blocks` meets its contract. The invariant: what is yet to go, freed in the image as it is,
-- gives the image as it shall be.
use Prim.Native.Nat.{◌+◌, ◌-◌}
use mathlib.Core.Path.{◌≡◌}
use lib.ListN.{length}
use Rattle.run.specs.Run.{picked, each}
use Rattle.keys.specs.Marks.{marked, freed}
use Rattle.keys.proofs.scavenge.free_blocks.Given as goal

abbrev pub invariant-loop-b : goal.invariant-loop-b
invariant-loop-b l =
    (length l.img ≡ length l.initial.img)
    × (l.k + length (picked (marked l.marks l.fn.span.from) l.b (l.fn.span.from + l.fn.span.visited - l.b))
    ≡ length (picked (marked l.marks l.fn.span.from) l.fn.span.from l.fn.span.visited))
    × (each (freed l.fn.span.n) l.img
    (picked (marked l.marks l.fn.span.from) l.b (l.fn.span.from + l.fn.span.visited - l.b))
    ≡ each (freed l.fn.span.n) l.initial.img (picked (marked l.marks l.fn.span.from) l.fn.span.from l.fn.span.visited))
