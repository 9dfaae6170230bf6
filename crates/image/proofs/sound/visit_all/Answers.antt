-- `image::sound::visit_all` meets its contract: eight headers more, or an eight that fails.
use Rattle.std.proofs.Common.{◌≡◌, ◌*◌, sym, ◌∙◌, true≢false, arith}
use Rattle.image.proofs.Eights.{all_none, eights_more, eights_fail}
use Rattle.image.proofs.Tallies.{owners_none, owners_eight, owners_all, few}
use Rattle.image.proofs.sound.visit_all.Goals as goal

pub loop-i-init : goal.loop-i-init
loop-i-init c = (all_none _ 0, λ u. c.requires u ∙ sym (owners_none c.args.image.bytes.now 0 u))

pub visit_eight-requires : goal.visit_eight-requires
visit_eight-requires c = (
  c.loop-i-test.true,
  λ u. omega (
    arith,
    c.loop-i.invariant.1 u,
    few c.args.image.bytes.now 0 (8 * c.loop-i.i) u,
    c.args.image.known.laid.number.most,
  ),
)

pub returns-then-not-visit_eight : goal.returns-then-not-visit_eight
returns-then-not-visit_eight c = record {
  answer = sym (eights_fail _ c.args.image.n c.loop-i.i c.loop-i-test.true (sym c.visit_eight.ensures.answer
      ∙ c.if-not-visit_eight.true));
  tally = λ e. absurd (true≢false (sym e));
}

pub loop-i-preserved : goal.loop-i-preserved
loop-i-preserved c =
    let l = c.loop-i in
    let r = c.if-not-visit_eight.false in
    let t = c.visit_eight.ensures.tally r in (
      eights_more _ l.i l.invariant.0 (sym c.visit_eight.ensures.answer ∙ r),
      λ u. omega (arith, t u, owners_eight c.args.image.bytes.now l.i u, l.invariant.1 u),
    )

pub returns : goal.returns
returns c =
    let l = c.loop-i in
    let q : 8 * l.i ≡ c.args.image.n = omega (arith, c.args.image.known.laid.number.eights) in record {
      answer = sym (rw q at l.invariant.0);
      tally = λ e u h. (rw q at l.invariant.1) u ∙ owners_all c.args.image.bytes.now c.args.image.n u;
    }
