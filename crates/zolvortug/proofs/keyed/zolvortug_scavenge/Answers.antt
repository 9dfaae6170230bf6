-- `zolvortug::keyed::zolvortug_scavenge` meets its contract: the operation's promise, laid flat.
use Rattle.std.proofs.Common.{ap, ◌∙◌}
use Rattle.zolvortug.specs.Flat.{scavenged}
use Rattle.zolvortug.proofs.keyed.zolvortug_scavenge.Goals as goal

pub returns : goal.returns
returns c =
    let promise = c.scavenge.ensures in
    record { answer = c.into.ensures ∙ ap scavenged promise.answer; image = promise.image }
