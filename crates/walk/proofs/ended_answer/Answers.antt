-- `walk::ended_answer` meets its contract.
use Rattle.walk.proofs.ended_answer.Goals as goal

pub returns : goal.returns
returns c = rw c.price.ensures
