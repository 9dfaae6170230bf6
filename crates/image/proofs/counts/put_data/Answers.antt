-- `image::counts::put_data` meets its contract.
use Rattle.std.proofs.Common.{refl, ◌∙◌}
use Rattle.word.proofs.Lent.{lent-part}
use Rattle.image.proofs.counts.put_data.Goals as goal

pub returns : goal.returns
returns c = c.paste.ensures ∙ rw (lent-part _ 16 528 512 refl)
