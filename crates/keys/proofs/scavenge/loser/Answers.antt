-- `keys::scavenge::loser` meets its contract.
use mathlib.Core.Path.{sym, ◌∙◌}
use Rattle.keys.proofs.Marks.{loser-unused, loser_stays, loser_goes}
use Rattle.keys.proofs.scavenge.loser.Goals as goal
use Rattle.keys.proofs.scavenge.loser.Goals.{
  then-not-is_used-via-then-not-is_used,
  then-not-is_used-via-else-not-is_used+then-time-expires,
}

pub returns-then-not-is_used : goal.returns-then-not-is_used
returns-then-not-is_used c = elim c.then-not-is_used.branch [
  | then-not-is_used-via-then-not-is_used w ↦
      loser-unused _ _ _ _ c.of-h.ensures (sym c.is_used.ensures ∙ w.if-not-is_used.true)
  | then-not-is_used-via-else-not-is_used+then-time-expires w ↦
      loser_stays _ _ _ _ c.of-h.ensures _ w.expires.ensures w.if-time-expires.true
]

pub returns : goal.returns
returns c =
    loser_goes _ _ _ _ c.of-h.ensures _ c.expires.ensures (sym c.is_used.ensures ∙ c.if-not-is_used.false)
    c.if-time-expires.false _ c.owner.ensures
