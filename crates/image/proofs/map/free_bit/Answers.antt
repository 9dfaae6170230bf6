-- `image::map::free_bit` meets its contract: the byte that is written is the sum's low byte.
use Rattle.std.proofs.Common.{◌≡◌, ℕ, ◌%◌, arith}
use Rattle.word.specs.Word.{bytes_of}
use Rattle.word.specs.Write.{puts}
use Rattle.image.proofs.map.free_bit.Goals as goal

low_byte : (x : ℕ) → bytes_of 1 (x % 256) ≡ bytes_of 1 x
unfolding bytes_of
low_byte x = let e : x % 256 % 256 ≡ x % 256 = omega arith in rw e

pub returns : goal.returns
unfolding puts
returns c =
    rw (c.put.ensures, c.weight.ensures, c.get-m.ensures) (rw low_byte)
