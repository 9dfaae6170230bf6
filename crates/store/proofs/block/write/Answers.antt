-- `store::block::write` meets its contract.
use mathlib.Core.Path.{refl}
use Rattle.word.specs.Write.{puts}
use Rattle.word.proofs.Lent.{lent-part}
use Rattle.store.proofs.block.write.Goals as goal

pub returns : goal.returns
unfolding puts
returns c =
    rw (
      c.put_header.ensures,
      c.put_data.ensures,
      c.set_clock.ensures,
      lent-part _ 0 16 16 refl,
    )
