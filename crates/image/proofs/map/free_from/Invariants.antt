-- `image::map::free_from` meets its contract. The invariant: the lowest free block of those from byte `i` on is the
-- lowest of those from byte `from` on.
use Rattle.std.proofs.Common.{◌≡◌, ◌-◌, ◌*◌}
use Rattle.run.specs.Run.{first}
use Rattle.promise.specs.Map.{free}
use Rattle.image.proofs.map.free_from.Given as goal

abbrev pub invariant-loop-i : goal.invariant-loop-i
invariant-loop-i l =
    first (free l.n l.img) (8 * l.i) (l.n - 8 * l.i) ≡ first (free l.n l.img) (8 * l.from) (l.n - 8 * l.from)
