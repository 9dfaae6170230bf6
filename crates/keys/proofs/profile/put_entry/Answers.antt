-- `keys::profile::put_entry` meets its contract: three writes that follow one another.
use native.Mathlib.Omega.{arith}
use Rattle.keys.proofs.Entries.{entry-written}
use Rattle.keys.proofs.profile.put_entry.Goals as goal

pub returns : goal.returns
returns c =
    rw (
      c.put-3.ensures,
      c.put-2.ensures,
      c.put.ensures,
      c.expires.ensures,
      c.created.ensures,
      c.owner.ensures,
    )
    (entry-written _ _ _ _ _ (omega (arith, c.requires)))
