-- `zolvortug::single::zolvortug_status` meets its contract: the operation's promise, laid flat.
use Rattle.std.proofs.Common.{ap, ◌∙◌}
use Rattle.zolvortug.specs.Flat.{status}
use Rattle.zolvortug.proofs.single.zolvortug_status.Goals as goal

pub returns : goal.returns
returns c =
    let promise = c.status.ensures in
    c.into.ensures ∙ ap status promise.answer
