-- `tariff::create_charge` meets its contract: the price and the new storage.
use Rattle.tariff.proofs.Laws.{create_diff}
use Rattle.tariff.proofs.create_charge.Goals as goal

pub returns : goal.returns
returns c = let a = c.args in cc (create_diff a.t a.created.0 a.expires.0)
