-- `zolvortug::places::zolvortug_series_open` meets its contract.
use Rattle.std.proofs.Common.{◌∙◌, ap}
use Rattle.zolvortug.specs.Places.{flat}
use Rattle.zolvortug.proofs.places.zolvortug_series_open.Goals as goal

pub returns : goal.returns
returns c = c.into.ensures ∙ ap flat c.start.ensures
