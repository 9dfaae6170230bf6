-- `store::destroy::erase` meets its contract.
use Rattle.store.proofs.Stores.{erase_kept, erase_all}
use Rattle.store.proofs.destroy.erase.Goals as goal

pub free_bit-requires : goal.free_bit-requires
free_bit-requires c =
    let p = c.requires in
    let k = erase_kept _ _ _ _ p.0 p.1 _ _ c.set_clock.ensures c.zero_header.ensures in
    (k.laid, p.1)

pub returns : goal.returns
returns c =
    let p = c.requires in
    erase_all _ _ _ _ p.0 p.1 _ _ c.set_clock.ensures c.zero_header.ensures _ _ _ _ c.free_bit.ensures
    c.set_count.ensures
