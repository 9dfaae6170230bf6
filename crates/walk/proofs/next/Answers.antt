-- `walk::next` meets its contract.
use Rattle.walk.proofs.Steps.{ended, called}
use Rattle.walk.proofs.next.Goals as goal

pub returns-then-w : goal.returns-then-w
returns-then-w c = ended _ _ _ _ c.if-w.true _ c.ended_answer.ensures

pub returns : goal.returns
returns c =
    called _ _ _ _ c.if-w.false _ _ c.get_ids-answer.ensures _ c.moved.ensures
