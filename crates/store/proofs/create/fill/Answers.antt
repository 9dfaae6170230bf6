-- `store::create::fill` meets its contract.
use mathlib.Core.Path.{◌∙◌}
use Rattle.store.proofs.Stores.{fill-kept, fill-all}
use Rattle.store.proofs.create.fill.Goals as goal

pub take_bit-requires : goal.take_bit-requires
take_bit-requires c =
    let p = c.requires in
    let k = fill-kept _ _ _ _ _ _ _ _ p.0 p.1 c.args.fresh.whole _ c.write.ensures in
    (k.laid, p.1, k.bit ∙ p.2)

pub returns : goal.returns
returns c =
    let p = c.requires in
    fill-all _ _ _ _ _ _ _ _ p.0 p.1 c.args.fresh.whole _ c.write.ensures _ _ _ c.take_bit.ensures
    c.set_count.ensures
