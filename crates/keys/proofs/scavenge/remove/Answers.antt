-- `keys::scavenge::remove` meets its contract: the stores, one after the other; where no block is to go, the
-- counts stay.
use native.Mathlib.Omega.{arith}
use Rattle.keys.proofs.Marks.{removed-none}
use Rattle.keys.proofs.scavenge.remove.Goals as goal

pub returns-else-count-gt0-clause-image : goal.returns-else-count-gt0-clause-image
returns-else-count-gt0-clause-image c =
    let a = c.args in
    let p = c.requires in
    rw (c.free_blocks-count.ensures.image, c.set_clock.ensures)
    (removed-none a.span.n a.time.0 a.losses.now.marks a.losses.now.tally a.span.from a.span.visited a.img.now
    p.3.0 p.3.1 (omega (arith, c.free_blocks-count.ensures.gone, c.if-count-gt0.false)))
