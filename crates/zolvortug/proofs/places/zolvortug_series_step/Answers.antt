-- `zolvortug::places::zolvortug_series_step` meets its contract.
use mathlib.Core.Path.{refl}
use borrow.Author.Tests.{eq-eqb, ne_eqb}
use Rattle.zolvortug.specs.Places.{step_answer, step_words}
use Rattle.zolvortug.proofs.places.zolvortug_series_step.Goals as goal

pub returns-then-p-ne-WORDS : goal.returns-then-p-ne-WORDS
unfolding step_answer step_words
returns-then-p-ne-WORDS c =
    rw (ne_eqb _ 9 c.if-p-ne-WORDS.true, c.phase_of.ensures) (record { answer = refl; place = refl })

pub returns : goal.returns
unfolding step_answer step_words
returns c =
    rw (
      eq-eqb _ 9 c.if-p-ne-WORDS.false,
      c.answer_number.ensures,
      c.phase_of-2.ensures,
      c.write_place.ensures,
      c.next-s.ensures,
      c.read_place.ensures,
    )
    (record { answer = refl; place = refl })
