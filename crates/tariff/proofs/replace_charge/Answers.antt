-- `tariff::replace_charge` meets its contract: of the four terms, those of the time of the call cancel.
use Rattle.tariff.proofs.Laws.{replace_now}
use Rattle.tariff.proofs.replace_charge.Goals as goal

pub returns : goal.returns
returns c = let a = c.args in cc
    (replace_now a.t a.created.0 a.expires.0 a.time.0 a.until.0)
