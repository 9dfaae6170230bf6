-- What C and Rust are given of a reader: its place as nine words, and an answer as its number and its phase.
use Rattle.std.specs.Prelude.{ℕ, List, eqb, Float, length, get_or, set, Option, Some, None}
use Rattle.std.specs.Float.{nan}
use Rattle.plain.specs.Tests.{when}
use Rattle.kinds.specs.Kinds.{user}
use Rattle.kinds.specs.Report.{number_of}
use Rattle.kinds.specs.declared.Report.TheVariants.{Success}
use Rattle.series.specs.Reader.{stepped}
use Rattle.series.specs.declared.Sample.{Sample}
use Rattle.series.specs.declared.Sample.TheVariants.{Phase, Gap}
use Rattle.series.specs.declared.Place as P
use Rattle.zolvortug.specs.declared.places.Place.{Place}
use Rattle.zolvortug.specs.declared.places.Sampled.{Sampled}

abbrev pub flat : P.Place → Place
flat p = record {
  n = p.n;
  client = p.client.0;
  series = p.series;
  block = p.block;
  sequence = p.sequence;
  slot = p.slot;
  at = p.at;
  end = p.end;
  report = number_of p.report;
}

-- the place that nine words stand for, in the same order; no step looks at its report
abbrev pub place_in : List ℕ → P.Place
place_in w = record {
  report = Success;
  n = get_or w 0 0;
  client = user (get_or w 1 0);
  series = get_or w 2 0;
  block = get_or w 3 0;
  sequence = get_or w 4 0;
  slot = get_or w 5 0;
  at = get_or w 6 0;
  end = get_or w 7 0;
}

-- what a step changes of them
unfoldable pub words_after : List ℕ → P.Place → List ℕ
words_after w p = set (set (set (set w 3 p.block) 4 p.sequence) 5 p.slot) 6 p.at

-- a step on words that are not nine answers that the series has ended, and leaves them
unfoldable pub step_answer : (img w : List ℕ) → Option Sample
step_answer img w = when (eqb (length w) 9) (stepped img (place_in w)).answer None

unfoldable pub step_words : (img w : List ℕ) → List ℕ
step_words img w = when (eqb (length w) 9) (words_after w (stepped img (place_in w)).place) w

-- the number of each answer
abbrev pub answer_number : Option Sample → ℕ
answer_number None = 0
answer_number (Some (Phase x)) = 1
answer_number (Some Gap) = 2

-- the phase; a NaN where there is none, so that a gap cannot be taken for a phase
abbrev pub phase_of : Option Sample → Float
phase_of None = nan
phase_of (Some (Phase x)) = x
phase_of (Some Gap) = nan

abbrev pub sampled : Option Sample → Sampled
sampled a = record { phase = phase_of a; answer = answer_number a }
