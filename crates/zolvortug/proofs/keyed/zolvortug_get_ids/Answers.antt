-- `zolvortug::keyed::zolvortug_get_ids` meets its contract: the operation's promise, laid flat.
use Rattle.std.proofs.Common.{ap, ◌∙◌}
use Rattle.zolvortug.specs.Flat.{listed}
use Rattle.zolvortug.proofs.keyed.zolvortug_get_ids.Goals as goal

pub returns : goal.returns
returns c =
    let promise = c.get_ids.ensures in
    record { answer = c.into.ensures ∙ ap listed promise.answer; given = promise.given }
