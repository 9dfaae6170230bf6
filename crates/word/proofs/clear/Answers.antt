-- `word::clear` meets its contract: zeros are one byte, many times.
use Rattle.word.specs.Word.{blank}
use Rattle.word.proofs.clear.Goals as goal

pub returns : goal.returns
unfolding blank
returns c = c.fill.ensures
