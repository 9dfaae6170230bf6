-- `image::sound::visit_eight` meets its contract: eight free headers are good where their 512 bytes are zero, and add
-- nothing.
use Rattle.std.proofs.Common.{sym, ◌∙◌, arith}
use Rattle.image.proofs.Eights.{eight_free, eight_none}
use Rattle.image.proofs.sound.visit_eight.Goals as goal

pub returns-then-m : goal.returns-then-m
returns-then-m c =
    let a = c.args in
    let img = a.image.bytes.now in record {
      answer = c.is_zero.ensures ∙ eight_free img a.image.n a.image.clock.0 a.i c.get-m.result a.image.known
          c.requires.0 c.get-m.ensures c.if-m.true;
      tally = λ e u. omega (
        arith,
        eight_none img a.image.n a.image.clock.0 a.i c.get-m.result a.image.known c.requires.0
            c.get-m.ensures c.if-m.true (sym c.is_zero.ensures ∙ e) u,
      );
    }
