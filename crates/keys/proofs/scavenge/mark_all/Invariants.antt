-- `keys::scavenge::mark_all` meets its contract. The invariant: the marks made so far are right, and the tally with
-- those that are left is that of all.
use Prim.Native.Nat.{ℕ, ◌+◌, ◌<◌}
use mathlib.Core.Path.{◌≡◌}
use mathlib.Core.Bool.{false}
use lib.ListN.{length, get_or}
use Rattle.promise.specs.Scavenge.{expired}
use Rattle.keys.proofs.Marks.{Tallied}
use Rattle.keys.proofs.scavenge.mark_all.Given as goal

abbrev pub invariant-loop-i : goal.invariant-loop-i
invariant-loop-i l =
    (length l.losses.marks ≡ 64) × (length l.losses.tally ≡ 64)
    × ((j : ℕ) → j < l.i → get_or l.losses.marks j false ≡ expired l.img l.time.0 (l.fn.span.from + j))
    × Tallied l.img l.time.0 l.fn.span.from l.fn.span.visited l.losses.tally l.i
