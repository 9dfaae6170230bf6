-- Profile: the entries that it writes, and what its tests and a call of it answer.
-- Assumes nothing.
use Prim.Native.Nat.{ℕ, ◌+◌, ◌*◌, ◌≤◌}
use mathlib.Core.Path.{◌≡◌, refl, sym, ◌∙◌}
use mathlib.Core.Bool.{Bool, true, false, not}
use mathlib.Core.List.{List, ◌++◌}
use native.Mathlib.Omega.{arith}
use borrow.Author.Tests.{ltb-false}
use lib.Dec.{ltb}
use lib.ListN.{length}
use Rattle.std.specs.Prelude.{Ok, Err}
use Rattle.word.specs.Word.{bytes_of}
use Rattle.word.specs.Write.{over}
use Rattle.word.proofs.Laws.{length-bytes_of, over_nil}
use Rattle.run.specs.Run.{one, just, picked, rows}
use Rattle.run.proofs.Laws.{one_yes, one_no}
use Rattle.run.proofs.Turns.{row-yes, row-no}
use Rattle.kinds.specs.declared.ProfileAnswer.{ProfileAnswer}
use Rattle.kinds.specs.declared.Report.{Report}
use Rattle.kinds.specs.declared.Report.TheVariants.{Success}
use Rattle.tariff.specs.Charges.{profile_charge}
use Rattle.tariff.specs.declared.Tariff.{Tariff}
use Rattle.promise.specs.Trailer.{n_of}
use Rattle.promise.specs.Header.{header_of, is_used}
use Rattle.promise.specs.Refusals.{Row, lowest, receipt, refusal}
use Rattle.promise.specs.Keys.{reach, key_at, visited_good}
use Rattle.promise.specs.Profile.{profiled, profile_row, profile_rows, profile_report, profile_answer, profile_buffer}
use Rattle.promise.specs.Profile.{ProfilePromise}
use Rattle.image.specs.Image.{trailer_in, Laid}
use Rattle.image.proofs.Pieces.{next}
use Rattle.front.specs.Rows.{reading_rows}
use Rattle.front.proofs.Fronts.{reading_rising, reading_known}
use Rattle.keys.specs.Visit.{used, entry_of}
use Rattle.keys.specs.Asked.{manager_rows}
use Rattle.keys.specs.declared.visit.Span.{Span}
use Rattle.keys.proofs.Rows.{in_groups, manager_rising, manager_fit, Call, Tried, refused}
use Rattle.keys.proofs.Rows.{let_through, its_span, front_passes, asked_passes}

-- an entry has 24 bytes
pub length-profile_row : (img : List ℕ) (b : ℕ) → length (profile_row img b) ≡ 24
unfolding profile_row bytes_of
length-profile_row img b = refl

-- it is written in three pieces
pub entry-written : (l : List ℕ) (at owner created expires : ℕ) → at ≤ length l
    → over (over (over l at (bytes_of 8 owner)) (at + 8) (bytes_of 8 created)) (at + 16) (bytes_of 8 expires)
    ≡ over l at (bytes_of 8 owner ++ bytes_of 8 created ++ bytes_of 8 expires)
entry-written l at owner created expires h =
    let s = next l at h _ _ 8 (refl, length-bytes_of 8 owner) (bytes_of 8 created) 8 (length-bytes_of 8 created) in
    (next l at h _ _ 16 s (bytes_of 8 expires) 8 (length-bytes_of 8 expires)).0

-- ---- one block

module _ (img : List ℕ) (b : ℕ) (buffer : List ℕ) (k : ℕ) where
  -- its header as it was lent
  module _ (h : List ℕ) (p : h ≡ header_of img b) where
    pub not_entered : is_used h ≡ false
        → (k ≡ k + one (used img) b) × (buffer ≡ over buffer (24 * k) (rows (profile_row img) (just (used img) b)))
    not_entered f =
        let e = rw p at f in (
          omega (arith, one_no (used img) b e),
          sym
              (rw (row-no (used img) (profile_row img) b e) (over_nil buffer (24 * k))),
        )

    pub is_one : is_used h ≡ true → one (used img) b ≡ 1
    is_one f = one_yes (used img) b (rw p at f)

    pub entered : is_used h ≡ true
        → (k + 1 ≡ k + one (used img) b) ×
        (over buffer (24 * k) (entry_of h) ≡ over buffer (24 * k) (rows (profile_row img) (just (used img) b)))
    unfolding profile_row
    entered f =
        let e = rw p at f in
        (omega (arith, is_one f), sym (rw (row-yes (used img) (profile_row img) b e, p)))

-- ---- the report

module _ (img : List ℕ) (client key : ℕ) (buffer : List ℕ) where
  abbrev asked : ℕ → List Row
  asked n = manager_rows n client key (ltb (length buffer) 1536)

  abbrev damaged : Bool
  damaged = not (visited_good img key (reach img key))

  pub by_rows : (n : ℕ) → n_of img ≡ n
      → profile_report img client key buffer ≡ lowest (in_groups (reading_rows img client) (asked n) damaged)
  unfolding profile_report profile_rows reading_rows
  by_rows n k = rw k

  abbrev pub the_call : Call
  the_call = record {
    img = img;
    key = key;
    front = reading_rows img client;
    asked = asked;
    damaged = damaged;
    visited = reach img key;
    report = profile_report img client key buffer;
    by_rows = by_rows;
    front_rising = reading_rising img client;
    asked_rising = λ n. manager_rising n client key (ltb (length buffer) 1536);
  }

  pub refuses : (t : Tariff) (r : Report) → Tried the_call (Err r)
      → ProfilePromise t img client key buffer (record { receipt = refusal t r; key = key; entries = 0 }) buffer
  unfolding profile_answer profile_buffer
  refuses t r e = let w = refused the_call e in record { answer = rw (w.0, w.1); given = rw (w.0, w.1) }

  module _ (s : Span) (e : Tried the_call (Ok s)) where
    pub room_for : Laid img s.n × (s.from + s.visited ≤ s.n) × (s.visited ≤ 64) × (1536 ≤ length buffer)
    room_for =
        let f = manager_fit (n_of img) client key (ltb (length buffer) 1536) (asked_passes the_call e) in
        rw (← its_span the_call e) (
          (reading_known img client (trailer_in img) (front_passes the_call e)).laid,
          omega arith,
          omega arith,
          ltb-false (length buffer) 1536 f.1,
        )

    pub enters : (t : Tariff) (a : ProfileAnswer) (buffer' : List ℕ)
        → a ≡ record {
          receipt = receipt Success (profile_charge t);
          key = key_at s.n (s.from + s.visited);
          entries = length (picked (used img) s.from s.visited);
        }
        → buffer' ≡ over buffer 0 (rows (profile_row img) (picked (used img) s.from s.visited))
        → ProfilePromise t img client key buffer a buffer'
    unfolding profile_answer profile_buffer profiled
    enters t a buffer' p q =
        let w = let_through the_call e in
        let l = its_span the_call e in
        record { answer = rw w (p ∙ rw (← l)); given = rw w (q ∙ rw (← l)) }
