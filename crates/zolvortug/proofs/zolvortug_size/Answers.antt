-- `zolvortug::zolvortug_size` meets its contract.
use mathlib.Core.Path.{sym, ◌∙◌}
use Rattle.zolvortug.proofs.zolvortug_size.Goals as goal

pub returns-then-number_right : goal.returns-then-number_right
returns-then-number_right c = sym (rw (sym c.number_right.ensures ∙ c.if-number_right.true))

pub returns : goal.returns
returns c = sym (rw (sym c.number_right.ensures ∙ c.if-number_right.false))
