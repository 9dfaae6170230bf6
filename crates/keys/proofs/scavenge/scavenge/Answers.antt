-- `keys::scavenge::scavenge` meets its contract: what its tests and stores answer, and the results of a refusal.
use mathlib.Core.Path.{sym, ◌∙◌}
use Rattle.keys.proofs.Sweeps.{told_refused, told_done}
use Rattle.keys.proofs.scavenge.scavenge.Goals as goal

pub returns-in-Err : goal.returns-in-Err
returns-in-Err c =
    rw c.refused.ensures (record {
      answer = told_refused _ _ _ _ _ _ (sym c.in-Err.is ∙ c.tried.ensures.answer);
      image = c.tried.ensures.image;
    })

pub returns-in-Ok : goal.returns-in-Ok
returns-in-Ok c = record {
  answer = told_done _ _ _ _ _ _ (sym c.in-Ok.is ∙ c.tried.ensures.answer);
  image = c.tried.ensures.image;
}
