-- `zolvortug::places::write_place` meets its contract.
use mathlib.Core.Path.{refl}
use Rattle.zolvortug.specs.Places.{words_after}
use Rattle.zolvortug.proofs.places.write_place.Goals as goal

pub returns : goal.returns
unfolding words_after
returns c = refl
