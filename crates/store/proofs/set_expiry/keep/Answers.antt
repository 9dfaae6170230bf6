-- `store::set_expiry::keep` meets its contract.
use Rattle.word.specs.Write.{puts}
use Rattle.store.proofs.set_expiry.keep.Goals as goal

pub returns : goal.returns
unfolding puts
returns c = rw (
  c.put_expires.ensures,
  c.set_clock.ensures,
)
