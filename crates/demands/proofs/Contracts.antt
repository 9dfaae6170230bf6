-- The contracts of the ten operations meet Demand 1 and Demand 2: what a promise allows is our outcome.
-- Assumes nothing.
use Prim.Native.Nat.{ℕ}
use mathlib.Core.Path.{◌≡◌, refl, sym, ap, ◌∙◌}
use mathlib.Core.Bool.{Bool, true, false}
use mathlib.Core.List.{List}
use native.Mathlib.Omega.{arith}
use lib.Dec.{eqb}
use lib.ListN.{length}
use Rattle.plain.specs.Tests.{when, both}
use Rattle.kinds.specs.Report.{number_of}
use Rattle.kinds.specs.declared.Report.{Report}
use Rattle.kinds.specs.declared.Report.TheVariants.{Success, BadImage}
use Rattle.tariff.specs.declared.Tariff.{Tariff}
use Rattle.promise.specs.Layout.{number_right, size_of}
use Rattle.promise.specs.Format.{fresh_image, format_right, format_report, format_image, FormatPromise}
use Rattle.promise.specs.Call.{Call, Create, Read, Status, Destroy, Replace, SetExpiry, GetIds, GetCount, Scavenge}
use Rattle.promise.specs.Call.{Profile, Outcome, outcome}
use Rattle.promise.proofs.Laws.{is_sound, sound}
use Rattle.demands.specs.ByContract.{Allowed, Contracts}
use Rattle.demands.proofs.Demand1 as D1
use Rattle.demands.proofs.Demand2 as D2

ours : (t : Tariff) (img : List ℕ) (P : Call → Outcome → Type 0) → ((c : Call) → P c (outcome t c img))
    → Allowed t img P
unfolding outcome
ours t img P f =
    record {
      create = λ client expiry bytes time a img' p. rw (p.answer, p.image) (f (Create client expiry bytes time));
      read = λ client id buffer a buffer' p. rw (p.answer, p.given) (f (Read client id buffer));
      status = λ client id a p. rw p.answer (f (Status client id));
      destroy = λ client id time a img' p. rw (p.answer, p.image) (f (Destroy client id time));
      replace = λ client id bytes time a img' p. rw (p.answer, p.image) (f (Replace client id bytes time));
      set_expiry = λ client id expiry time a img' p. rw (p.answer, p.image) (f (SetExpiry client id expiry time));
      get_ids = λ client key count ids a ids' p. rw (p.answer, p.given) (f (GetIds client key count ids));
      get_count = λ client a p. rw p.answer (f (GetCount client));
      scavenge = λ client key time a img' p. rw (p.answer, p.image) (f (Scavenge client key time));
      profile = λ client key buffer a buffer' p. rw (p.answer, p.given) (f (Profile client key buffer));
    }

-- Format succeeds where its inputs are right
formatted : (n : ℕ) (img : List ℕ) (r : Report) (img' : List ℕ) → FormatPromise n img r img' → r ≡ Success
    → (number_right n ≡ true) × (img' ≡ fresh_image n)
unfolding format_report format_image
formatted n img r img' p e = go (format_right n img) refl (sym p.report ∙ e) p.image
  where
    go : (t : Bool) → format_right n img ≡ t → when t Success BadImage ≡ Success → img' ≡ when t (fresh_image n) img
        → (number_right n ≡ true) × (img' ≡ fresh_image n)
    go true q s i = ((both (number_right n) (eqb (length img) (size_of n)) q).0, i)
    go false q s i = absurd (omega (arith, ap number_of s))

pub contracts : Contracts
contracts =
    record {
      check = λ img answer p. (λ e. sound img (sym p ∙ e), λ d. p ∙ is_sound img d);
      format = formatted;
      demand1 = λ t img. ours t img _ (λ c. ((D1.demand1).listed t c img, (D1.demand1).refused t c img));
      demand2 = λ t img d m. ours t img _ (λ c. (D2.demand2).obeys t c img d m);
    }
