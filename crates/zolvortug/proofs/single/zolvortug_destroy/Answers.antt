-- `zolvortug::single::zolvortug_destroy` meets its contract: the operation's promise, laid flat.
use Rattle.std.proofs.Common.{ap, ◌∙◌}
use Rattle.zolvortug.specs.Flat.{destroyed}
use Rattle.zolvortug.proofs.single.zolvortug_destroy.Goals as goal

pub returns : goal.returns
returns c =
    let promise = c.destroy.ensures in
    record { answer = c.into.ensures ∙ ap destroyed promise.answer; image = promise.image }
