-- `zolvortug::single::zolvortug_replace` meets its contract: the operation's promise, laid flat.
use Rattle.std.proofs.Common.{ap, ◌∙◌}
use Rattle.zolvortug.specs.Flat.{replaced}
use Rattle.zolvortug.proofs.single.zolvortug_replace.Goals as goal

pub returns : goal.returns
returns c =
    let promise = c.replace.ensures in
    record { answer = c.into.ensures ∙ ap replaced promise.answer; image = promise.image }
