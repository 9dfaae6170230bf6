-- The small store of three blocks: the user's incident with the old store, and a walk of three calls with ours.
-- Assumes nothing.
use Prim.Native.Nat.{ℕ}
use mathlib.Core.Path.{◌≡◌, refl, sym, ap, ap₂, ◌∙◌}
use mathlib.Core.List.{List, [], ◌∷◌, ◌++◌}
use mathlib.Core.Bool.{true}
use mathlib.Core.Option.{none, some}
use native.Mathlib.Omega.{arith}
use Rattle.kinds.specs.declared.Report.TheVariants.{Success}
use Rattle.ident.specs.Ident.{id_of}
use Rattle.run.specs.Run.{times}
use Rattle.promise.specs.Layout.{number_right}
use Rattle.promise.specs.Keys.{start_key, end_key}
use Rattle.promise.specs.Sound.{Sound}
use Rattle.promise.specs.Call.{Create, Destroy, Replace, GetIds, Scavenge, outcome}
use Rattle.manual.specs.Sets.{◌∈◌}
use Rattle.demands.specs.Demand3.{Walk, named, Throughout, listed, Demand3, last, more}
use Rattle.fourteen.specs.Table.{prices}
use Rattle.demands.specs.Example.{at, creates, id0, id1, bytes, id2, three, room}
use Rattle.demands.specs.WrongStores.{old_store}
use Rattle.demands.specs.Service.{Priced}
use Rattle.demands.proofs.Demand2.{demand2, states}
use Rattle.demands.proofs.Sights.{saw, sights, stood_at, report_at, key_at_lem, gave_at, opened}
use Rattle.demands.proofs.Demand3.{demand3}

-- ---- the incident: a clean-up between two calls removes an early block, and the old store never names one that stood

three_sound : Sound three
unfolding three number_right
three_sound = (states.reached outcome demand2 creates 8 refl).0

-- list one id; that block expires and is cleaned up; list on
abbrev incident-calls : List Priced
incident-calls = at (GetIds 3 0 1 room) ∷ at (Scavenge 0 0 15) ∷ at (GetIds 3 1 1 room) ∷ []

old_ran : sights old_store 3 id1 incident-calls three
    ≡ saw true Success (some 1) (id0 ∷ []) ∷ saw true Success (some end_key) (1 ∷ [])
    ∷ saw true Success (some end_key) (id2 ∷ []) ∷ []
unfolding opened
old_ran = refl

abbrev incident : Walk old_store 3 three start_key
unfolding sights
incident = more prices 1 room 1 (report_at old_ran 0) (key_at_lem old_ran 0) (λ e. omega arith)
    (at (Scavenge 0 0 15) ∷ [])
    (last prices 1 room (report_at old_ran 2) (key_at_lem old_ran 2))

-- block 1 old_stood throughout, and is never named
old_stood : Throughout old_store 3 (λ i. id1 ∈ listed 3 i) incident
unfolding sights
old_stood = (stood_at old_ran 0, (stood_at old_ran 1, (stood_at old_ran 2, tt)), stood_at old_ran 2)

old_names : named old_store 3 incident ≡ id0 ∷ id2 ∷ []
unfolding sights
old_names = ap₂ {C = List ℕ} (λ a b. a ++ b) (gave_at old_ran 0) (gave_at old_ran 2)

lost : times id1 (id0 ∷ id2 ∷ []) ≡ 0
unfolding opened
lost = refl

pub old_store_lem : ¬ Demand3 old_store
old_store_lem d =
    let e : ◌≡◌ {A = ℕ} 0 1 = sym lost ∙ ap (times id1) (sym old_names)
    ∙ (d.complete 3 three three_sound incident).once id1 old_stood in
    omega arith

-- ---- Demand 3 is not empty

-- block 0 is destroyed and stored anew, behind the walk; block 1 is replaced, behind it too; the new block 0 expires
-- and is cleaned up
abbrev pub example-calls : List Priced
example-calls =
    at (GetIds 3 0 1 room)
    ∷ at (Destroy 3 id0 4)
    ∷ at (Create 3 6 bytes 5)
    ∷ at (GetIds 3 1 1 room)
    ∷ at (Replace 3 id1 bytes 7)
    ∷ at (Scavenge 0 0 8)
    ∷ at (GetIds 3 2 2 (room ++ room))
    ∷ []

pub ran : sights outcome 3 id2 example-calls three
    ≡ saw true Success (some 1) (id0 ∷ [])
    ∷ saw true Success none []
    ∷ saw true Success none (id_of 5 0 ∷ [])
    ∷ saw true Success (some 2) (id1 ∷ [])
    ∷ saw true Success none (id_of 7 1 ∷ [])
    ∷ saw true Success (some end_key) (1 ∷ [])
    ∷ saw true Success (some end_key) (id2 ∷ [])
    ∷ []
unfolding opened
ran = refl

abbrev pub example : Walk outcome 3 three start_key
unfolding sights
example =
    more prices 1 room 1 (report_at ran 0) (key_at_lem ran 0) (λ e. omega arith)
    (at (Destroy 3 id0 4) ∷ at (Create 3 6 bytes 5) ∷ [])
    (more prices 1 room 2 (report_at ran 3) (key_at_lem ran 3) (λ e. omega arith)
    (at (Replace 3 id1 bytes 7) ∷ at (Scavenge 0 0 8) ∷ [])
    (last prices 2 (room ++ room) (report_at ran 6) (key_at_lem ran 6)))

pub names : named outcome 3 example ≡ id0 ∷ id1 ∷ id2 ∷ []
unfolding sights
names = ap₂ {C = List ℕ} (λ a b. a ++ b) (gave_at ran 0)
    (ap₂ {C = List ℕ} (λ a b. a ++ b) (gave_at ran 3) (gave_at ran 6))

-- block 2 stood throughout: Demand 3 says of it what the run shows
stood : Throughout outcome 3 (λ i. id2 ∈ listed 3 i) example
unfolding sights
stood = (
  stood_at ran 0,
  (stood_at ran 1, (stood_at ran 2, (stood_at ran 3, tt))),
  (stood_at ran 3, (stood_at ran 4, (stood_at ran 5, (stood_at ran 6, tt))), stood_at ran 6),
)

pub example_once : times id2 (named outcome 3 example) ≡ 1
example_once = (demand3.complete 3 three three_sound example).once id2 stood
