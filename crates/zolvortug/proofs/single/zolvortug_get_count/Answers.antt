-- `zolvortug::single::zolvortug_get_count` meets its contract: the operation's promise, laid flat.
use Rattle.std.proofs.Common.{ap, ◌∙◌}
use Rattle.zolvortug.specs.Flat.{counted}
use Rattle.zolvortug.proofs.single.zolvortug_get_count.Goals as goal

pub returns : goal.returns
returns c =
    let promise = c.get_count.ensures in
    c.into.ensures ∙ ap counted promise.answer
