-- `image::map::take_bit` meets its contract: a free block's bit is 1, so its weight can be taken away.
use Rattle.std.proofs.Common.{eqb-true}
use Rattle.word.specs.Write.{puts}
use Rattle.promise.specs.Map.{free}
use Rattle.word.specs.Bits.{bit_le}
use Rattle.image.proofs.map.take_bit.Goals as goal

pub overflow_sub-m : goal.overflow_sub-m
unfolding free
overflow_sub-m c = rw (c.weight.ensures, c.get-m.ensures)
    (bit_le _ _ (eqb-true _ _ c.requires.2))

pub returns : goal.returns
unfolding puts
returns c = cc
