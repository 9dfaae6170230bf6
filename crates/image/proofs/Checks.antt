-- Check's test in the parts that the code tests one after the other.
-- Assumes nothing.
use Rattle.std.proofs.Common.{◌≡◌, ℕ, zero, suc, ◌<◌, true, false, ◌&&◌, eqb, List, get_or, replicate, sym, refl, ap}
use Rattle.std.proofs.Common.{◌∙◌, arith}
use mathlib.Core.Bool.{and_assoc}
use Rattle.std.specs.Prelude.{Some, None}
use Rattle.plain.specs.Tests.{was_first, was_second, apart}
use Rattle.run.specs.Run.{all_of, times}
use Rattle.run.proofs.Laws.{all_same}
use Rattle.promise.specs.Layout.{size_of}
use Rattle.promise.specs.Trailer.{n_of, clock_of, trailer_right}
use Rattle.promise.proofs.TrailerLaws.{right}
use Rattle.promise.specs.Map.{spare_zero, good}
use Rattle.promise.specs.Counts.{count_of, owners}
use Rattle.promise.specs.Sound.{sound_image}
use Rattle.image.specs.Image.{Known, trailer_in, trailer_answer, same_count, body_sound}
use Rattle.image.specs.declared.trailer.Trailer.{Trailer}

-- a tally that begins with zeros
pub zeros : (k u : ℕ) → ◌≡◌ {A = ℕ} (get_or (replicate k 0) u 0) 0
zeros zero u = refl
zeros (suc k) zero = refl
zeros (suc k) (suc u) = zeros k u

-- ---- all but the trailer

module _ (img : List ℕ) (n : ℕ) (e : n_of img ≡ n) where
  pub bad_header : all_of (good img) 0 n ≡ false → false ≡ body_sound img
  unfolding body_sound
  bad_header h = rw (e, h)

  pub bad_spare : all_of (good img) 0 n ≡ true → spare_zero n img ≡ false → false ≡ body_sound img
  unfolding body_sound
  bad_spare h s = rw (e, h, s)

  pub by_counts : all_of (good img) 0 n ≡ true → spare_zero n img ≡ true
      → (tally : List ℕ) → ((u : ℕ) → u < 64 → get_or tally u 0 ≡ times u (owners n img))
      → all_of (same_count n img tally) 0 64 ≡ body_sound img
  unfolding body_sound
  by_counts h s tally t =
      rw (e, h, s)
      (all_same (same_count n img tally) (λ u. eqb (count_of n img u) (times u (owners n img))) 0 64
      (λ u l b. ap (λ (x : ℕ). eqb (count_of n img u) x) (t u (omega arith))))

-- ---- the trailer, and the rest

split : (img : List ℕ) → sound_image img ≡ (trailer_right img && body_sound img)
unfolding sound_image body_sound count_of
split img =
    ap (λ r. r && all_of (λ u. eqb (count_of (n_of img) img u) (times u (owners (n_of img) img))) 0 64)
    (and_assoc (trailer_right img) (all_of (good img) 0 (n_of img)) (spare_zero (n_of img) img))
    ∙ and_assoc (trailer_right img) (all_of (good img) 0 (n_of img)
    && spare_zero (n_of img) img) (all_of (λ u. eqb (count_of (n_of img) img u) (times u (owners (n_of img) img))) 0 64)

-- what a reading that answered None, or Some, tells
pub not_right : (img : List ℕ) → trailer_answer img ≡ None → trailer_right img ≡ false
unfolding trailer_answer
not_right img e = (was_second (trailer_right img) (λ q. apart cc) e).0

pub told_bad : (img : List ℕ) → trailer_answer img ≡ None → false ≡ sound_image img
told_bad img e = sym (split img ∙ rw (not_right img e))

-- an image whose trailer is right
pub known : (img : List ℕ) (n clock : ℕ) → trailer_right img ≡ true → n_of img ≡ n → clock_of img ≡ clock
    → Known img n clock
known img n clock h p q =
    let r = right img h in
    record {
      laid = record {
        number = rw p at r.number;
        size = r.size ∙ ap size_of p;
      };
      its_n = p;
      its_clock = q;
      in_time = omega (arith, r.clock);
    }

module _ (img : List ℕ) (t : Trailer) (e : trailer_answer img ≡ Some t) where
  pub its_trailer : trailer_right img ≡ true
  unfolding trailer_answer
  its_trailer = (was_first (trailer_right img) (λ q. apart cc) e).0

  pub its : trailer_in img ≡ t
  unfolding trailer_answer
  its = cc (rw its_trailer at e)

  pub told_known : Known img t.n t.clock.0
  told_known =
      known img t.n t.clock.0 its_trailer (ap (λ (x : Trailer). x.n) its)
      (ap (λ (x : Trailer). x.clock.0) its)

  pub told_body : body_sound img ≡ sound_image img
  told_body = sym (split img ∙ rw its_trailer)

-- ---- the cases of each

pub ruleset body_cases = (bad_header, bad_spare, by_counts)

pub ruleset check_cases = (told_bad, told_body)
