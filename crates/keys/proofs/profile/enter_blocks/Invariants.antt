-- `keys::profile::enter_blocks` meets its contract. The invariant: what is yet to be entered, written over the buffer
-- as it is, gives the buffer as it shall be.
use Prim.Native.Nat.{◌+◌, ◌-◌, ◌*◌}
use mathlib.Core.Path.{◌≡◌}
use lib.ListN.{length}
use Rattle.word.specs.Write.{over}
use Rattle.run.specs.Run.{picked, rows}
use Rattle.promise.specs.Profile.{profile_row}
use Rattle.keys.specs.Visit.{used}
use Rattle.keys.proofs.profile.enter_blocks.Given as goal

abbrev pub invariant-loop-b : goal.invariant-loop-b
invariant-loop-b l =
    (length l.buffer ≡ length l.initial.buffer)
    × (l.k + length (picked (used l.img) l.b (l.fn.span.from + l.fn.span.visited - l.b))
    ≡ length (picked (used l.img) l.fn.span.from l.fn.span.visited))
    × (over l.buffer (24 * l.k) (rows (profile_row l.img)
    (picked (used l.img) l.b (l.fn.span.from + l.fn.span.visited - l.b)))
    ≡ over l.initial.buffer 0 (rows (profile_row l.img) (picked (used l.img) l.fn.span.from l.fn.span.visited)))
