-- `image::format::write_trailer` meets its contract: the bytes between the numbers and the mark are zero already.
use Rattle.image.proofs.Fresh.{trailer_made}
use Rattle.image.proofs.format.write_trailer.Goals as goal

pub returns : goal.returns
returns c =
    rw (c.put.ensures, c.write_numbers.ensures) (trailer_made _ _ c.requires.0.size c.requires.1)
