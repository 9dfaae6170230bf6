-- `u32::get` meets its contract: the library spells low byte first, as `le` does.
use Rattle.std.proofs.Common.{◌∙◌}
use Rattle.word.proofs.Bytes.{read_four}
use Rattle.word.proofs.U32Number.get.Goals as goal

pub returns : goal.returns
returns c = c.from_le_bytes.ensures ∙ read_four _ _ c.requires
