-- `ident::make` meets its contract.
use mathlib.Core.Path.{ap}
use Rattle.kinds.specs.Kinds.{ident}
use Rattle.ident.specs.Ident.{id_of}
use Rattle.ident.proofs.make.Goals as goal

pub returns : goal.returns
unfolding id_of
returns c = ap ident c.disguise.ensures
