-- `ident::shaped` meets its contract: each return is a case of 'shaped'.
use Rattle.std.proofs.Common.{sym}
use Rattle.plain.specs.Tests.{cascade}
use Rattle.ident.specs.Ident.{shaped_in, shape_of}
use Rattle.ident.proofs.shaped.Goals as goal
use Rattle.ident.proofs.shaped.Goals.{
  then-p-ge4503599627370496-via-then-p-ge4503599627370496,
  then-p-ge4503599627370496-via-else-p-ge4503599627370496+then-p-lt1,
}

pub returns-then-p-ge4503599627370496 : goal.returns-then-p-ge4503599627370496
unfolding shape_of shaped_in
returns-then-p-ge4503599627370496 c = elim c.then-p-ge4503599627370496.branch [
  | then-p-ge4503599627370496-via-then-p-ge4503599627370496 w ↦ search (cascade, sym c.undo-p.ensures)
  | then-p-ge4503599627370496-via-else-p-ge4503599627370496+then-p-lt1 w ↦ search (cascade, sym c.undo-p.ensures)
]

pub returns-then-b-n : goal.returns-then-b-n
unfolding shape_of shaped_in
returns-then-b-n c = search (cascade, sym c.undo-p.ensures)

pub returns-else-b-n : goal.returns-else-b-n
unfolding shape_of shaped_in
returns-else-b-n c = search (cascade, sym c.undo-p.ensures)
