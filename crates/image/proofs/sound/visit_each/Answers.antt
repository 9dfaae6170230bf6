-- `image::sound::visit_each` meets its contract: a header more, or a header that fails.
use Rattle.std.proofs.Common.{rules, ◌≡◌, ◌+◌, ◌*◌, length, get_or, sym, ap, ◌∙◌, true≢false, arith}
use Rattle.image.specs.Image.{bit_of}
use Rattle.image.proofs.Eights.{all_none, all_more, all_fails}
use Rattle.image.proofs.Lowest.{one_bits}
use Rattle.image.proofs.Tallies.{length-tallied, visited, owners_none, few}
use Rattle.image.proofs.sound.visit_each.Goals as goal

pub loop-j-init : goal.loop-j-init
loop-j-init c = (
  search rules,
  all_none _ (8 * c.args.i),
  λ u. omega (arith, owners_none c.args.image.bytes.now (8 * c.args.i) u),
)

pub visit-requires : goal.visit-requires
unfolding bit_of
visit-requires c =
    let l = c.loop-j in
    let img = c.args.image.bytes.now in
    let i = c.args.i in (
      omega (arith, c.requires.0),
      sym (one_bits c.args.image.n img i c.args.m c.requires.1 l.j (omega arith)),
      λ u. omega (arith, l.invariant.2 u, c.requires.2 u, few img (8 * i) l.j u),
    )

pub returns-then-not-visit : goal.returns-then-not-visit
returns-then-not-visit c =
    let b = 8 * c.args.i in record {
      answer = sym (all_fails _ b 8 (b + c.loop-j.j) (omega arith) (omega arith) (sym c.visit.ensures.answer
          ∙ c.if-not-visit.true));
      tally = λ e. absurd (true≢false (sym e));
    }

pub loop-j-preserved : goal.loop-j-preserved
loop-j-preserved c =
    let l = c.loop-j in
    let b = 8 * c.args.i in
    let r = c.if-not-visit.false in
    let g = sym c.visit.ensures.answer ∙ r in
    let e = rw r at c.visit.ensures.tally in (
      ap length e ∙ length-tallied _ _ ∙ l.invariant.0,
      all_more _ b l.j (b + l.j) (omega arith) l.invariant.1 g,
      λ u. visited c.args.image.bytes.now b l.j u (get_or c.args.tally.now u 0) l.tally c.visit.new.tally g
          l.invariant.0 e (l.invariant.2 u),
    )

pub returns : goal.returns
returns c =
    let l = c.loop-j in
    let q : l.j ≡ 8 = omega arith in record {
      answer = sym (rw q at l.invariant.1);
      tally = λ e. rw q at l.invariant.2;
    }
