-- `keys::ids::asked` meets its contract: each return is a row.
use Rattle.plain.specs.Tests.{cascade}
use Rattle.promise.specs.Refusals.{lowest, bad_count}
use Rattle.front.specs.Rows.{answered}
use Rattle.keys.proofs.ids.asked.Goals as goal
use Rattle.keys.proofs.ids.asked.Goals.{then-count-eq0-via-then-count-eq0}
use Rattle.keys.proofs.ids.asked.Goals.{then-count-eq0-via-else-count-eq0+then-count-gt-MOST_IDS}

pub returns-then-n-key : goal.returns-then-n-key
unfolding lowest bad_count answered
returns-then-n-key c = search cascade

pub returns-then-count-eq0 : goal.returns-then-count-eq0
unfolding lowest bad_count answered
returns-then-count-eq0 c =
    elim c.then-count-eq0.branch [
      | then-count-eq0-via-then-count-eq0 w ↦ search cascade
      | then-count-eq0-via-else-count-eq0+then-count-gt-MOST_IDS w ↦ search cascade
    ]

pub returns-then-room-count : goal.returns-then-room-count
unfolding lowest bad_count answered
returns-then-room-count c = search cascade

pub returns : goal.returns
unfolding lowest bad_count answered
returns c = search cascade
