-- `u64::get` meets its contract: the library spells low byte first, as `le` does.
use Rattle.std.proofs.Common.{◌∙◌}
use Rattle.word.proofs.Bytes.{read_eight}
use Rattle.word.proofs.U64Number.get.Goals as goal

pub returns : goal.returns
returns c = c.from_le_bytes.ensures ∙ read_eight _ _ c.requires
