-- `zolvortug::single::zolvortug_read` meets its contract: the operation's promise, laid flat.
use Rattle.std.proofs.Common.{ap, ◌∙◌}
use Rattle.zolvortug.specs.Flat.{read}
use Rattle.zolvortug.proofs.single.zolvortug_read.Goals as goal

pub returns : goal.returns
returns c =
    let promise = c.read.ensures in
    record { answer = c.into.ensures ∙ ap read promise.answer; given = promise.given }
