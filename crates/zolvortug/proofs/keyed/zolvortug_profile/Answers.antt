-- `zolvortug::keyed::zolvortug_profile` meets its contract: the operation's promise, laid flat.
use Rattle.std.proofs.Common.{ap, ◌∙◌}
use Rattle.zolvortug.specs.Flat.{profiled}
use Rattle.zolvortug.proofs.keyed.zolvortug_profile.Goals as goal

pub returns : goal.returns
returns c =
    let promise = c.profile.ensures in
    record { answer = c.into.ensures ∙ ap profiled promise.answer; given = promise.given }
