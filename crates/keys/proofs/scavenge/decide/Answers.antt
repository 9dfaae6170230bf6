-- `keys::scavenge::decide` meets its contract.
use mathlib.Core.Path.{sym, ◌∙◌}
use mathlib.Core.Bool.{true≢false}
use Rattle.keys.proofs.Sweeps.{decided, bad_header}
use Rattle.keys.proofs.scavenge.decide.Goals as goal

pub returns-then-not-all_good : goal.returns-then-not-all_good
returns-then-not-all_good c =
    let p = c.requires in record {
      answer = bad_header _ _ _ _ _ c.args.image.known.its_n p.1
          (sym c.all_good.ensures ∙ c.if-not-all_good.true);
      losses = λ e. absurd (true≢false (sym e));
    }

pub returns : goal.returns
returns c =
    let a = c.args in
    let g = sym c.all_good.ensures ∙ c.if-not-all_good.false in record {
      answer = c.has_counts.ensures
          ∙ decided a.image.bytes.now a.time.0 a.span.from a.span.visited g a.image.n a.image.known.its_n c.requires.1
          c.mark_all.new.losses.tally c.mark_all.ensures.1;
      losses = λ e. c.mark_all.ensures;
    }
