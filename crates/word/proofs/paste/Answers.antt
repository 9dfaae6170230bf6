-- `word::paste` meets its contract: the part that is lent becomes src.
use Rattle.std.proofs.Common.{arith}
use Rattle.word.proofs.Bytes.{lent_over}
use Rattle.word.proofs.paste.Goals as goal

pub returns : goal.returns
returns c = rw c.copy_from_slice.ensures.after (lent_over _ _ _ _ (omega arith))
