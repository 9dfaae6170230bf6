-- `ident::disguise` meets its contract: the rounds of the list are a fold.
use Rattle.ident.specs.Ident.{rounds, disguised}
use Rattle.ident.proofs.disguise.Goals as goal

pub returns : goal.returns
unfolding disguised rounds
returns c = c.up.ensures
