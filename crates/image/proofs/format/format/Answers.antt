-- `image::format::format` meets its contract: it refuses where the definition does, and else its three writes make the
-- fresh image.
use Rattle.std.proofs.Common.{◌≡◌, true, false, sym, ◌∙◌, ne_eqb}
use mathlib.Core.Bool.{and-false}
use Rattle.promise.specs.Layout.{number_right}
use Rattle.image.proofs.Fresh.{mapped, ready, formatted, refused}
use Rattle.image.proofs.format.format.Goals as goal

pub returns-then-not-number_right : goal.returns-then-not-number_right
returns-then-not-number_right c =
    let e : number_right c.args.n ≡ false = sym c.number_right.ensures
    ∙ c.if-not-number_right.true in
    refused _ _ (rw e)

pub returns-then-size-m : goal.returns-then-size-m
returns-then-size-m c = refused _ _ (rw (ne_eqb _ _ c.if-size-m.true, and-false))

pub write_trailer-requires : goal.write_trailer-requires
unfolding mapped
write_trailer-requires c =
    let right : number_right c.args.n ≡ true = sym c.number_right.ensures ∙ c.if-not-number_right.false in
    rw (c.fill.ensures, c.clear.ensures) (ready _ _ right c.if-size-m.false)

pub returns : goal.returns
unfolding mapped
returns c =
    let right : number_right c.args.n ≡ true = sym c.number_right.ensures ∙ c.if-not-number_right.false in
    rw (c.write_trailer.ensures, c.fill.ensures, c.clear.ensures)
    (formatted _ _ right c.if-size-m.false)
