-- The trailer's rule in the parts that the code tests, and what a reading answers in each case.
-- Assumes nothing.
use Rattle.std.proofs.Common.{◌≡◌, ℕ, ◌-◌, ◌<◌, ◌≤◌, true, false, ◌&&◌, eqb, List, length, take, drop, sym, refl, ap}
use Rattle.std.specs.Prelude.{Some, None}
use Rattle.std.proofs.Common.{◌∙◌, ⊎_elim, arith, ne_eqb}
use Rattle.plain.specs.Tests.{all, all_append, decide}
use Rattle.word.specs.Word.{word_at}
use Rattle.word.proofs.Lent.{lent-part}
use Rattle.kinds.specs.Kinds.{tick}
use Rattle.promise.specs.Layout.{number_right, size_of}
use Rattle.promise.specs.Trailer.{trailer_of, n_of, clock_of, right_trailer, trailer_right}
use Rattle.image.specs.Image.{trailer_answer, distance_tests, rest_tests}

-- ---- the rule in parts

pub parts : (size : ℕ) (t : List ℕ)
    → right_trailer size t ≡ (number_right (word_at 4 t 0)
    && (eqb size (size_of (word_at 4 t 0)) && (all (distance_tests t (word_at 4 t 0)) && all (rest_tests t))))
unfolding all right_trailer
parts size t =
    ap (λ r. number_right (word_at 4 t 0) && (eqb size (size_of (word_at 4 t 0)) && r))
    (all_append (distance_tests t (word_at 4 t 0)) (rest_tests t))

module _ (size : ℕ) (t : List ℕ) (n : ℕ) (e : n ≡ word_at 4 t 0) where
  bad_number : number_right n ≡ false → false ≡ right_trailer size t
  bad_number h = sym (parts size t ∙ rw (← e, h))

  bad_size : number_right n ≡ true → (size ≡ size_of n → ⊥) → false ≡ right_trailer size t
  bad_size h d = sym (parts size t ∙ rw (← e, h, ne_eqb size (size_of n) d))

-- ---- what a reading answers

short : (img : List ℕ) → length img < 512 → trailer_right img ≡ false
unfolding trailer_right
short img h =
    sym (⊎_elim (λ e. bad_size (length img) (trailer_of img) (word_at 4 (trailer_of img) 0) refl e (λ q. omega arith))
    (bad_number (length img) (trailer_of img) (word_at 4 (trailer_of img) 0) refl)
    (decide (number_right (word_at 4 (trailer_of img) 0))))

pub answer_short : (img : List ℕ) → length img < 512 → trailer_answer img ≡ None
unfolding trailer_answer
answer_short img h = rw (short img h)

-- the trailer as it is lent to a call: from 512 bytes before the end up to the end
module _ (img : List ℕ) (at : ℕ) (h : 512 ≤ length img) (e : at ≡ length img - 512) where
  abbrev lent : List ℕ
  lent = take (length img - at) (drop at img)

  is_trailer : lent ≡ trailer_of img
  is_trailer = rw e (lent-part img (length img - 512) (length img) 512 (omega arith))

  pub answer_bad : right_trailer (length img) lent ≡ false → trailer_answer img ≡ None
  unfolding trailer_answer trailer_right
  answer_bad f = rw (← is_trailer, f)

  pub answer_right : right_trailer (length img) lent ≡ true
      → trailer_answer img ≡ Some (record { n = word_at 4 lent 0; clock = tick (word_at 8 lent 24) })
  unfolding trailer_answer trailer_right n_of clock_of
  answer_right f = rw (← is_trailer, f)

pub ruleset trailer_cases = (answer_short, answer_bad, answer_right)
