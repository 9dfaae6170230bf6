-- `u8::put` meets its contract: one byte is spelled by itself.
use Rattle.word.proofs.Bytes.{set_over}
use Rattle.word.proofs.U8Number.put.Goals as goal

pub returns : goal.returns
returns c = set_over _ _ _ c.requires c.ranges.v.fits
