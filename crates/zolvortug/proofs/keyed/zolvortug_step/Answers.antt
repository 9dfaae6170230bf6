-- `zolvortug::keyed::zolvortug_step` meets its contract: the operation's promise, laid flat.
use Rattle.std.proofs.Common.{ap₂, ◌∙◌}
use Rattle.zolvortug.specs.Flat.{stepped}
use Rattle.zolvortug.proofs.keyed.zolvortug_step.Goals as goal

pub returns : goal.returns
returns c =
    let promise = c.next.ensures in
    record { answer = c.into.ensures ∙ ap₂ stepped promise.answer promise.walk; given = promise.given }
