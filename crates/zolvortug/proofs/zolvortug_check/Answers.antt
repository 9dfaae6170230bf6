-- `zolvortug::zolvortug_check` meets its contract: it answers what `check` answers.
use Rattle.zolvortug.proofs.zolvortug_check.Goals as goal

pub returns : goal.returns
returns c = c.check.ensures
