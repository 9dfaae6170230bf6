-- `u8::get` meets its contract: one byte spells itself.
use Rattle.std.proofs.Common.{sym, arith}
use Rattle.word.proofs.Bytes.{word_one}
use Rattle.word.proofs.U8Number.get.Goals as goal

pub returns : goal.returns
returns c = sym (word_one _ _ (omega arith))
