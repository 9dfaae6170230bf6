-- Three services whose listing is wrong where a store has more blocks than a key call visits.
-- Assumes nothing.
use Prim.Native.Nat.{ℕ, ◌-◌, ◌*◌, ◌≤◌, ◌<◌}
use mathlib.Core.Path.{◌≡◌, refl, sym, ap, ◌∙◌}
use mathlib.Core.Bool.{true}
use mathlib.Core.List.{List, []}
use mathlib.Core.Logic.{◌≢◌, ◌⊎◌, inl, inr}
use mathlib.Core.Option.{some}
use native.Mathlib.Omega.{arith}
use borrow.Author.Tests.{le-ltb, lt-leb, ne_eqb}
use lib.ListN.{length, length-map}
use Rattle.kinds.specs.declared.Report.TheVariants.{Success}
use Rattle.run.specs.Run.{picked, visits, times}
use Rattle.run.proofs.Laws.{visits-le, visits_why}
use Rattle.promise.specs.Layout.{number_right}
use Rattle.promise.specs.Trailer.{n_of}
use Rattle.promise.specs.Header.{header_of, id_in}
use Rattle.promise.specs.Counts.{owned_by}
use Rattle.promise.specs.Refusals.{lowest, bad_count}
use Rattle.promise.specs.Keys.{start_key, end_key, reach}
use Rattle.promise.specs.GetIds.{ids_visited, ids_named, get_ids_rows, get_ids_report, get_ids_answer}
use Rattle.promise.specs.Sound.{Sound}
use Rattle.promise.specs.Call.{GetIds, Outcome, outcome}
use Rattle.promise.proofs.KeyLaws.{ids_move}
use Rattle.demands.specs.Demand2.{result, ids_in, Demand2}
use Rattle.demands.specs.Demand3.{asked, Walk, named, Demand3, last}
use Rattle.fourteen.specs.Table.{prices}
use Rattle.demands.specs.Example.{room}
use Rattle.demands.specs.WrongStores.{stops_at_nothing, names_all_at_once, visits_all}
use Rattle.demands.proofs.Slots.{most}
use Rattle.demands.proofs.Keyed.{all-good}
use Rattle.demands.proofs.Far.{far, far_sound, far_number, far_names, far-all, far-listed}
use Rattle.demands.proofs.Buffers.{length_ids}

-- a GetIds call on a sound image succeeds where its inputs are in range
is_listed : (img : List ℕ) → Sound img → (client key count : ℕ) (ids : List ℕ) → client < 64 → key < n_of img
    → 0 < count
    → count ≤ 64
    → 8 * count ≤ length ids → get_ids_report img client key count ids ≡ Success
unfolding get_ids_report get_ids_rows lowest bad_count
is_listed img d client key count ids u k l m h =
    rw (
      d.trailer,
      le-ltb 63 client (omega arith),
      lt-leb (n_of img) key k,
      ne_eqb count 0 (λ e. omega arith),
      le-ltb 64 count m,
      le-ltb (length ids) (8 * count) h,
      all-good img d key (ids_visited img client key count) (ids_move img client key count k l).1,
    )

right : number_right 72 ≡ true
unfolding number_right
right = refl

-- seventy-two blocks, of which client 3 has number 64
abbrev img : List ℕ
img = far 72

sound : Sound img
sound = far_sound 72 right (omega arith)

number : n_of img ≡ 72
number = far_number 72 right (omega arith)

-- the first call names nothing
names_none : ids_named img 3 start_key 1 ≡ []
unfolding ids_named ids_visited
names_none = far_names 72 right (omega arith) (ids_visited img 3 start_key 1)
    (omega (arith, visits-le (owned_by img 3) (reach img start_key) 1 start_key))

succeeds : get_ids_report img 3 start_key 1 room ≡ Success
succeeds = is_listed img sound 3 start_key 1 room (omega arith) (omega (arith, number)) (omega arith) (omega arith)
    (omega arith)

-- ---- "nothing named" read as the end: block 64 is never named

stops_well : (asked stops_at_nothing 3 prices img start_key 1 room).report ≡ Success
unfolding stops_at_nothing outcome get_ids_answer
stops_well = rw (succeeds, names_none)

stops_end : (asked stops_at_nothing 3 prices img start_key 1 room).key ≡ some end_key
unfolding stops_at_nothing outcome get_ids_answer
stops_end = rw (succeeds, names_none)

abbrev short : Walk stops_at_nothing 3 img start_key
short = last prices 1 room stops_well stops_end

short_names : named stops_at_nothing 3 short ≡ []
unfolding stops_at_nothing outcome get_ids_answer ids_in
short_names = rw (succeeds, names_none)

pub stops_at_nothing_lem : ¬ Demand3 stops_at_nothing
unfolding times
stops_at_nothing_lem d =
    let e = (d.complete 3 img sound short).once (id_in (header_of img 64)) (far-listed 72 right (omega arith)) in
    let z : ◌≡◌ {A = ℕ} 0 1 = ap (times (id_in (header_of img 64))) (sym short_names) ∙ e in
    omega arith

-- ---- all named in the first call: it names block 64, whose header it does not visit

abbrev first : Outcome
first = names_all_at_once prices (GetIds 3 start_key 1 room) img

first_well : first.report ≡ Success
unfolding names_all_at_once outcome get_ids_answer
first_well = rw succeeds

names_one : length (ids_in (result first 0) first.buffer) ≡ 1
unfolding names_all_at_once outcome get_ids_answer ids_in
names_one = rw (succeeds, number, far-all 72 right (omega arith))

pub names_all_at_once_lem : ¬ Demand2 names_all_at_once
names_all_at_once_lem d =
    let e = ((d.obeys prices (GetIds 3 start_key 1 room) img sound (most img sound)).choices first_well).1 in
    omega (arith, names_one, rw names_none at (ap length e))

-- ---- no limit of 64: it names block 64 too

abbrev all : Outcome
all = visits_all prices (GetIds 3 start_key 1 room) img

abbrev farther : ℕ
farther = visits (owned_by img 3) (n_of img - start_key) 1 start_key

all_well : all.report ≡ Success
unfolding visits_all outcome get_ids_answer
all_well = rw succeeds

all_names : result all 0 ≡ length (picked (owned_by img 3) start_key farther)
unfolding visits_all outcome get_ids_answer
all_names = rw (succeeds, length-map)

names_some : length (picked (owned_by img 3) start_key farther) ≢ 0
names_some e = go (visits_why (owned_by img 3) (n_of img - start_key) 1 start_key)
  where
    go : (farther ≡ n_of img - start_key) ⊎ (length (picked (owned_by img 3) start_key farther) ≡ 1) → ⊥
    go (inl q) =
        let z : farther ≡ 72 = q ∙ ap (λ n. n - start_key) number in
        omega (
          arith,
          e,
          ap (λ k. length (picked (owned_by img 3) start_key k)) z ∙ ap length (far-all 72 right (omega arith)),
        )
    go (inr q) = omega arith

pub visits-all : ¬ Demand2 visits_all
visits-all d =
    let e = ((d.obeys prices (GetIds 3 start_key 1 room) img sound (most img sound)).choices all_well).1 in
    names_some (sym all_names ∙ sym (length_ids (result all 0) all.buffer) ∙ rw names_none at (ap length e))
