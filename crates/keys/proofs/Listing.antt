-- GetIds: the ids that it writes, and what its tests and a call of it answer.
-- Assumes nothing.
use Prim.Native.Nat.{ℕ, ◌+◌, ◌*◌, ◌≤◌, ◌<◌}
use mathlib.Core.Path.{◌≡◌, refl, sym, ◌∙◌}
use mathlib.Core.Bool.{Bool, true, false, not}
use mathlib.Core.List.{List, []}
use native.Mathlib.Omega.{arith}
use borrow.Author.Tests.{leb-false, ltb-false}
use lib.ListN.{length}
use Rattle.std.specs.Prelude.{Ok, Err, ok_or}
use Rattle.word.specs.Word.{bytes_of}
use Rattle.word.specs.Write.{over}
use Rattle.word.proofs.Laws.{length-bytes_of, over_nil}
use Rattle.run.specs.Run as Run
use Rattle.run.specs.Run.{one, just, picked, visits, reach, rows}
use Rattle.run.proofs.Laws.{one_yes, one_no, visits-le, picked-le}
use Rattle.run.proofs.Turns.{row-yes, row-no}
use Rattle.kinds.specs.declared.GetIdsAnswer.{GetIdsAnswer}
use Rattle.kinds.specs.declared.Report.{Report}
use Rattle.kinds.specs.declared.Report.TheVariants.{Success, Damaged}
use Rattle.tariff.specs.Charges.{get_ids_charge}
use Rattle.tariff.specs.declared.Tariff.{Tariff}
use Rattle.promise.specs.Trailer.{n_of}
use Rattle.promise.specs.Header.{header_of, id_in}
use Rattle.promise.specs.Counts.{owned_by}
use Rattle.promise.specs.Refusals.{Row, lowest, receipt, refusal}
use Rattle.promise.proofs.RefusalLaws.{rising}
use Rattle.promise.proofs.RowLaws.{clear, count_fits}
use Rattle.promise.specs.Keys.{key_at, visited_good}
use Rattle.promise.specs.GetIds.{ids_visited, ids_named, id_row, get_ids_rows, get_ids_report, get_ids_answer}
use Rattle.promise.specs.GetIds.{get_ids_buffer}
use Rattle.promise.specs.GetIds.{GetIdsPromise}
use Rattle.image.specs.Image.{trailer_in, Laid}
use Rattle.front.specs.Rows.{reading_rows, front_of}
use Rattle.image.specs.declared.trailer.Trailer.{Trailer}
use Rattle.front.proofs.Fronts.{reading_rising, reading_known}
use Rattle.keys.specs.Visit.{visited_of}
use Rattle.keys.specs.Asked.{ids_rows}
use Rattle.keys.specs.declared.visit.Span.{Span}
use Rattle.keys.proofs.Rows.{Clear, clears, in_groups, Call, Tried, reached, tried_damaged, tried_well}
use Rattle.keys.proofs.Rows.{refused, let_through, its_span, front_passes, asked_passes}
use Rattle.keys.proofs.Visits.{told_bad, told-good}

-- an entry has 8 bytes
pub length-id_row : (img : List ℕ) (b : ℕ) → length (id_row img b) ≡ 8
unfolding id_row
length-id_row img b = length-bytes_of 8 (id_in (header_of img b))

-- ---- where the numbers refuse nothing

pub record Fits (n key count room : ℕ) : Type 0 where
  pub below : key < n
  pub some : 0 < count
  pub few : count ≤ 64
  pub fits : 8 * count ≤ room

pub fit : (n key count room : ℕ) → Clear (ids_rows n key count room) → Fits n key count room
fit n key count room z =
    let a = clear _ _ (omega arith) (clears (ids_rows n key count room) z) in
    let b = clear _ _ (omega arith) a.1 in
    let c = clear _ [] (omega arith) b.1 in
    let k = count_fits count b.0 in
    record {
      below = leb-false n key a.0;
      some = k.0;
      few = k.1;
      fits = omega (arith, ltb-false room (8 * count) c.0);
    }

-- ---- one block

module _ (img : List ℕ) (client b : ℕ) (ids : List ℕ) (k : ℕ) where
  pub not_named : owned_by img client b ≡ false
      → (k ≡ k + one (owned_by img client) b) × (ids ≡ over ids (8 * k)
      (rows (id_row img) (just (owned_by img client) b)))
  not_named e = (
    omega (arith, one_no (owned_by img client) b e),
    sym
        (rw (row-no (owned_by img client) (id_row img) b e) (over_nil ids (8 * k))),
  )

  pub named : (h : List ℕ) → h ≡ header_of img b → (id : ℕ) → owned_by img client b ≡ true → id ≡ id_in h
      → (k + 1 ≡ k + one (owned_by img client) b)
      × (over ids (8 * k) (bytes_of 8 id) ≡ over ids (8 * k) (rows (id_row img) (just (owned_by img client) b)))
  unfolding id_row
  named h p id e q = (
    omega (arith, one_yes (owned_by img client) b e),
    sym
        (rw (row-yes (owned_by img client) (id_row img) b e, q, p)),
  )

-- ---- the report

pub ids_rising : (n key count room : ℕ) → rising 1 (ids_rows n key count room) ≡ true
unfolding rising
ids_rising n key count room = refl

module _ (img : List ℕ) (client key count : ℕ) (ids : List ℕ) where
  abbrev asked : ℕ → List Row
  asked n = ids_rows n key count (length ids)

  abbrev damaged : Bool
  damaged = not (visited_good img key (ids_visited img client key count))

  pub by_rows : (n : ℕ) → n_of img ≡ n
      → get_ids_report img client key count ids ≡ lowest (in_groups (reading_rows img client) (asked n) damaged)
  unfolding get_ids_report get_ids_rows reading_rows
  by_rows n k = rw k

  abbrev pub the_call : Call
  the_call = record {
    img = img;
    key = key;
    front = reading_rows img client;
    asked = asked;
    damaged = damaged;
    visited = ids_visited img client key count;
    report = get_ids_report img client key count ids;
    by_rows = by_rows;
    front_rising = reading_rising img client;
    asked_rising = λ n. ids_rising n key count (length ids);
  }

  module _ (t : Trailer) (o : front_of (lowest (reading_rows img client)) img ≡ Ok t) (z : Clear (asked t.n)) (m : ℕ)
      (e : m ≡ Run.reach t.n key) where
    its-visited : visits (owned_by img client) m count key ≡ ids_visited img client key count
    unfolding ids_visited
    its-visited = rw (reached the_call o e)

    pub tried_found : (r : Report)
        → ok_or (visited_of img key (visits (owned_by img client) m count key)) Damaged ≡ Err r → Tried the_call (Err r)
    tried_found r f =
        let g = told_bad img key (ids_visited img client key count) r (rw its-visited at f) in
        rw g.1 (tried_damaged the_call o z (rw g.0))

    pub tried_visited : (visited : ℕ)
        → ok_or (visited_of img key (visits (owned_by img client) m count key)) Damaged ≡ Ok visited
        → Tried the_call (Ok (record { n = t.n; from = key; visited = visited }))
    tried_visited visited f =
        let g = told-good img key (ids_visited img client key count) visited (rw its-visited at f) in
        tried_well the_call o z g.1 (rw g.0)

  pub refuses : (t : Tariff) (r : Report) → Tried the_call (Err r)
      → GetIdsPromise t img client key count ids (record { receipt = refusal t r; key = key; entries = 0 }) ids
  unfolding get_ids_answer get_ids_buffer
  refuses t r e = let w = refused the_call e in record { answer = rw (w.0, w.1); given = rw (w.0, w.1) }

  module _ (s : Span) (e : Tried the_call (Ok s)) where
    pub room_for : Laid img s.n × (s.from + s.visited ≤ s.n)
        × (length (picked (owned_by img client) s.from s.visited) ≤ 64)
        × (8 * length (picked (owned_by img client) s.from s.visited) ≤ length ids)
    unfolding ids_visited
    room_for =
        let f = fit (n_of img) key count (length ids) (asked_passes the_call e) in
        let p = owned_by img client in
        let m = reach (n_of img) key in
        rw (← its_span the_call e) (
          (reading_known img client (trailer_in img) (front_passes the_call e)).laid,
          omega (arith, visits-le p m count key),
          omega (arith, picked-le p m count key),
          omega (arith, picked-le p m count key),
        )

    pub lists : (t : Tariff) (a : GetIdsAnswer) (ids' : List ℕ)
        → a ≡ record {
          receipt = receipt Success (get_ids_charge t);
          key = key_at s.n (s.from + s.visited);
          entries = length (picked (owned_by img client) s.from s.visited);
        }
        → ids' ≡ over ids 0 (rows (id_row img) (picked (owned_by img client) s.from s.visited))
        → GetIdsPromise t img client key count ids a ids'
    unfolding get_ids_answer get_ids_buffer ids_named
    lists t a ids' p q =
        let w = let_through the_call e in
        let l = its_span the_call e in
        record { answer = rw w (p ∙ rw (← l)); given = rw w (q ∙ rw (← l)) }
