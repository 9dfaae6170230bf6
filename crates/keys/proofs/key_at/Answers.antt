-- `keys::key_at` meets its contract.
use borrow.Author.Tests.{eq-eqb, ne_eqb}
use Rattle.promise.specs.Keys.{key_at}
use Rattle.keys.proofs.key_at.Goals as goal

pub returns-then-stopped-n : goal.returns-then-stopped-n
unfolding key_at
returns-then-stopped-n c = simp (eq-eqb _ _ c.if-stopped-n.true)

pub returns-else-stopped-n : goal.returns-else-stopped-n
unfolding key_at
returns-else-stopped-n c = simp (ne_eqb _ _ c.if-stopped-n.false)
