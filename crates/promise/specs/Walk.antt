-- Document 01, Keys: a walk kept in one record, and what a step does to it.
use Rattle.std.specs.Prelude.{ℕ, ◌≡◌, false, List, eqb, pos}
use Rattle.plain.specs.Tests.{when}
use Rattle.kinds.specs.declared.GetIdsAnswer.{GetIdsAnswer}
use Rattle.kinds.specs.declared.Report.TheVariants.{Success}
use Rattle.kinds.specs.declared.User.{User}
use Rattle.kinds.specs.declared.Walk.{Walk}
use Rattle.tariff.specs.declared.Tariff.{Tariff}
use Rattle.promise.specs.Refusals.{receipt, succeeds}
use Rattle.promise.specs.Keys.{start_key, end_key}
use Rattle.promise.specs.GetIds.{get_ids_report, get_ids_answer, get_ids_buffer}

-- a walk that has not begun: the start key, and not ended
abbrev pub started : (client : User) (count : ℕ) → Walk
started client count = record { client = client; count = count; key = start_key; ended = false }

-- a step on an ended walk is looked at before anything else: it answers Success, names nothing, returns the end key and
-- charges 0
abbrev pub ended_answer : GetIdsAnswer
ended_answer = record { receipt = receipt Success (pos 0); key = end_key; entries = 0 }

-- any other step is a GetIds call with the record's client, key and count
unfoldable pub step_answer : Tariff → List ℕ → Walk → (ids : List ℕ) → GetIdsAnswer
step_answer t img w ids = when w.ended ended_answer (get_ids_answer t img w.client.0 w.key w.count ids)

unfoldable pub step_buffer : List ℕ → Walk → (ids : List ℕ) → List ℕ
step_buffer img w ids = when w.ended ids (get_ids_buffer img w.client.0 w.key w.count ids)

-- the record with the key that a call returned; it has ended where that is the end key
abbrev pub moved_to : Walk → (key : ℕ) → Walk
moved_to w key = record { client = w.client; count = w.count; key = key; ended = eqb key end_key }

-- a successful call moves the record; a refused step leaves it as it was, and a step on an ended walk changes nothing
unfoldable pub step_walk : Tariff → List ℕ → Walk → (ids : List ℕ) → Walk
step_walk t img w ids =
    when w.ended w
    (when (succeeds (get_ids_report img w.client.0 w.key w.count ids))
    (moved_to w (step_answer t img w ids).key) w)

pub record StepPromise (t : Tariff) (img : List ℕ) (w : Walk) (ids : List ℕ) (a : GetIdsAnswer) (w' : Walk)
    (ids' : List ℕ) : Type 0 where
  pub answer : a ≡ step_answer t img w ids
  pub walk : w' ≡ step_walk t img w ids
  pub given : ids' ≡ step_buffer img w ids
