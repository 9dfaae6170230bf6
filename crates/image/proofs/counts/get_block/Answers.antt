-- `image::counts::get_block` meets its contract: the two copies fill the buffer.
use Rattle.std.proofs.Common.{arith}
use Rattle.image.proofs.Headers.{block_given}
use Rattle.image.proofs.counts.get_block.Goals as goal

pub returns : goal.returns
returns c =
    rw (c.paste-2.ensures, c.paste.ensures) (block_given _ _ _ _ (omega arith) (omega arith) (omega arith))
