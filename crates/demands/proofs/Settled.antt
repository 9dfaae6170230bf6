-- The promises settle what they speak of: each is a set of equations.
-- Assumes nothing.
use mathlib.Core.Path.{◌≡◌, sym, ◌∙◌}
use Rattle.demands.specs.Settled.{Settled}

both_are : {A : Type 0} {x y z : A} → x ≡ z → y ≡ z → x ≡ y
both_are p q = p ∙ sym q

pub settled : Settled
settled =
    record {
      check = λ img a b p q. both_are p q;
      format = λ n img a b x y p q. (both_are p.report q.report, both_are p.image q.image);
      create = λ t img client expiry bytes time a b x y p q.
          (both_are p.answer q.answer, both_are p.image q.image);
      read = λ t img client id buffer a b x y p q. (both_are p.answer q.answer, both_are p.given q.given);
      status = λ t img client id a b p q. both_are p.answer q.answer;
      destroy = λ t img client id time a b x y p q. (both_are p.answer q.answer, both_are p.image q.image);
      replace = λ t img client id bytes time a b x y p q.
          (both_are p.answer q.answer, both_are p.image q.image);
      set_expiry = λ t img client id expiry time a b x y p q.
          (both_are p.answer q.answer, both_are p.image q.image);
      get_ids = λ t img client key count ids a b x y p q.
          (both_are p.answer q.answer, both_are p.given q.given);
      get_count = λ t img client a b p q. both_are p.answer q.answer;
      scavenge =
          λ t img client key time a b x y p q. (both_are p.answer q.answer, both_are p.image q.image);
      profile =
          λ t img client key buffer a b x y p q. (both_are p.answer q.answer, both_are p.given q.given);
      step = λ t img w ids a b w' w'' ids' ids'' p q.
          (both_are p.answer q.answer, both_are p.walk q.walk, both_are p.given q.given);
      open_series = λ img client series a b p q. both_are p q;
      next_sample = λ img p a b p' p'' x y. (both_are x.answer y.answer, both_are x.place y.place);
    }
