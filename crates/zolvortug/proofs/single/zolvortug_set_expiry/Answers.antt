-- `zolvortug::single::zolvortug_set_expiry` meets its contract: the operation's promise, laid flat.
use Rattle.std.proofs.Common.{ap, ◌∙◌}
use Rattle.zolvortug.specs.Flat.{expiry_set}
use Rattle.zolvortug.proofs.single.zolvortug_set_expiry.Goals as goal

pub returns : goal.returns
returns c =
    let promise = c.set_expiry.ensures in
    record { answer = c.into.ensures ∙ ap expiry_set promise.answer; image = promise.image }
