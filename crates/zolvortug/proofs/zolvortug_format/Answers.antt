-- `zolvortug::zolvortug_format` meets its contract: Format's promise, with the report's number.
use Rattle.std.proofs.Common.{◌∙◌, ap}
use Rattle.kinds.specs.Report.{number_of}
use Rattle.zolvortug.proofs.zolvortug_format.Goals as goal

pub returns : goal.returns
returns c =
    let promise = c.format.ensures in
    record { report = c.from.ensures ∙ ap number_of promise.report; image = promise.image }
