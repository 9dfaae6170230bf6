-- `tariff::destroy_charge` meets its contract: what was paid up to the expiry is given back from now on.
use Rattle.tariff.proofs.Laws.{destroy_diff}
use Rattle.tariff.proofs.destroy_charge.Goals as goal

pub returns : goal.returns
returns c = let a = c.args in cc
    (destroy_diff a.t a.created.0 a.expires.0 a.time.0)
