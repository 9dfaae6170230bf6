-- `keys::managed` meets its contract: each return is a row.
use Rattle.plain.specs.Tests.{cascade}
use Rattle.promise.specs.Refusals.{lowest}
use Rattle.front.specs.Rows.{answered}
use Rattle.keys.proofs.managed.Goals as goal

pub returns-then-u-ne-MANAGER : goal.returns-then-u-ne-MANAGER
unfolding lowest answered
returns-then-u-ne-MANAGER c = search cascade

pub returns-then-n-key : goal.returns-then-n-key
unfolding lowest answered
returns-then-n-key c = search cascade

pub returns-then-small : goal.returns-then-small
unfolding lowest answered
returns-then-small c = search (cascade, c.if-small.true)

pub returns : goal.returns
unfolding lowest answered
returns c = search (cascade, c.if-small.false)
