-- `word::is_zero` meets its contract: whole words, and the bytes that are left.
use Rattle.std.proofs.Common.{◌∙◌, ap, arith}
use Rattle.word.specs.Word.{all_zero}
use Rattle.word.proofs.Bytes.{bits_of}
use Rattle.word.proofs.Lent.{lent-part}
use Rattle.word.proofs.is_zero.Goals as goal

pub returns : goal.returns
returns c =
    rw (c.bits_of_bytes.ensures, c.bits_of_words.ensures, c.as_chunks.ensures.front, c.as_chunks.ensures.back)
    (bits_of _ ∙ ap all_zero (lent-part c.args.s.now c.args.at _ c.args.k (omega arith)))
