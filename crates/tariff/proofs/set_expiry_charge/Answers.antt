-- `tariff::set_expiry_charge` meets its contract: the old expiry is given back and the new one paid.
use Rattle.tariff.proofs.Laws.{set_expiry_moved}
use Rattle.tariff.proofs.set_expiry_charge.Goals as goal

pub returns : goal.returns
returns c = let a = c.args in cc
    (set_expiry_moved a.t a.created.0 a.expires.0 a.until.0)
