-- `ident::undo` meets its contract: their undoing is a fold from the list's end.
use Rattle.ident.specs.Ident.{unrounds, undone}
use Rattle.ident.proofs.undo.Goals as goal

pub returns : goal.returns
unfolding undone unrounds
returns c = c.down.ensures
