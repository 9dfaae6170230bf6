-- `image::map::lowest_free` meets its contract. The invariant: the lowest free block of those from 8 bytes `i` on is
-- the lowest of all.
use Rattle.std.proofs.Common.{◌≡◌, ◌-◌, ◌*◌}
use Rattle.run.specs.Run.{first}
use Rattle.promise.specs.Map.{free}
use Rattle.image.proofs.map.lowest_free.Given as goal

abbrev pub invariant-loop-i : goal.invariant-loop-i
invariant-loop-i l = first (free l.n l.img) (64 * l.i) (l.n - 64 * l.i) ≡ first (free l.n l.img) 0 (l.n - 0)
