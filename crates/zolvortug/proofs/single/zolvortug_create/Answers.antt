-- `zolvortug::single::zolvortug_create` meets its contract: the operation's promise, laid flat.
use Rattle.std.proofs.Common.{ap, ◌∙◌}
use Rattle.zolvortug.specs.Flat.{created}
use Rattle.zolvortug.proofs.single.zolvortug_create.Goals as goal

pub returns : goal.returns
returns c =
    let promise = c.create.ensures in
    record { answer = c.into.ensures ∙ ap created promise.answer; image = promise.image }
