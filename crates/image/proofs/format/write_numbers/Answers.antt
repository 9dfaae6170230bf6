-- `image::format::write_numbers` meets its contract: five writes that follow one another.
use Rattle.std.proofs.Common.{arith}
use Rattle.image.proofs.Fresh.{five}
use Rattle.image.proofs.format.write_numbers.Goals as goal

pub returns : goal.returns
returns c =
    rw (c.put-5.ensures, c.put-4.ensures, c.put-3.ensures, c.put-2.ensures, c.put.ensures)
    (five _ _ _ _ _ _ _ (omega arith))
