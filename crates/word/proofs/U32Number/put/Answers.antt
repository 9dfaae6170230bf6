-- `u32::put` meets its contract: the library spells low byte first, as `bytes_of` does.
use Rattle.std.proofs.Common.{◌∙◌, ap}
use Rattle.word.specs.Write.{over}
use Rattle.word.proofs.Bytes.{bytes_four}
use Rattle.word.proofs.U32Number.put.Goals as goal

pub returns : goal.returns
returns c = c.paste.ensures ∙ ap (over _ _) (c.to_le_bytes.ensures ∙ bytes_four _ c.ranges.v.fits)
