-- `keys::ids::name_ids` meets its contract. The invariant: what is yet to be named, written over the buffer as it is,
-- gives the buffer as it shall be.
use Prim.Native.Nat.{◌+◌, ◌-◌, ◌*◌}
use mathlib.Core.Path.{◌≡◌}
use lib.ListN.{length}
use Rattle.word.specs.Write.{over}
use Rattle.run.specs.Run.{picked, rows}
use Rattle.promise.specs.Counts.{owned_by}
use Rattle.promise.specs.GetIds.{id_row}
use Rattle.keys.proofs.ids.name_ids.Given as goal

abbrev pub invariant-loop-b : goal.invariant-loop-b
invariant-loop-b l =
    (length l.ids ≡ length l.initial.ids)
    × (l.k + length (picked (owned_by l.img l.client.0) l.b (l.fn.span.from + l.fn.span.visited - l.b))
    ≡ length (picked (owned_by l.img l.client.0) l.fn.span.from l.fn.span.visited))
    × (over l.ids (8 * l.k) (rows (id_row l.img)
    (picked (owned_by l.img l.client.0) l.b (l.fn.span.from + l.fn.span.visited - l.b)))
    ≡ over l.initial.ids 0 (rows (id_row l.img) (picked (owned_by l.img l.client.0) l.fn.span.from l.fn.span.visited)))
