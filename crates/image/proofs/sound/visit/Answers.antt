-- `image::sound::visit` meets its contract, by the map bit.
use Rattle.std.proofs.Common.{sym, refl, ap, ◌∙◌}
use Rattle.word.specs.Word.{all_zero}
use Rattle.promise.specs.Header.{used_right}
use Rattle.image.specs.Image.{tallied}
use Rattle.image.proofs.Headers.{good_is_zero, good_is_used, right_shape}
use Rattle.image.proofs.Tallies.{free_tally}
use Rattle.image.proofs.sound.visit.Goals as goal

pub returns-then-bit : goal.returns-then-bit
returns-then-bit c =
    let z = c.is_zero.ensures ∙ ap all_zero c.of-h.ensures in
    record {
      answer = z ∙ good_is_zero c.args.image.bytes.now _ _ c.args.b.0 c.args.image.known
          (sym c.requires.1 ∙ c.if-bit.true);
      tally = free_tally _ _ _ z;
    }

pub returns-then-not-used_right : goal.returns-then-not-used_right
returns-then-not-used_right c =
    let e = c.used_right.ensures ∙ ap (λ h. used_right c.args.image.clock.0 c.args.b.0 h) c.of-h.ensures in
    record {
      answer = sym c.if-not-used_right.true ∙ e
          ∙ good_is_used c.args.image.bytes.now _ _ c.args.b.0 c.args.image.known (sym c.requires.1 ∙ c.if-bit.false);
      tally = refl;
    }

pub tally_owner-requires : goal.tally_owner-requires
tally_owner-requires c =
    (right_shape _ c.args.b.0 _ (sym c.used_right.ensures ∙ c.if-not-used_right.false), c.requires.2)

pub returns : goal.returns
returns c =
    let e = c.used_right.ensures ∙ ap (λ h. used_right c.args.image.clock.0 c.args.b.0 h) c.of-h.ensures in
    record {
      answer = sym c.if-not-used_right.false ∙ e
          ∙ good_is_used c.args.image.bytes.now _ _ c.args.b.0 c.args.image.known (sym c.requires.1 ∙ c.if-bit.false);
      tally = c.tally_owner.ensures ∙ ap (λ h. tallied h c.args.tally.now) c.of-h.ensures;
    }
