-- Scavenge: what the marks say is what the promise says, and what its tests and a call of it answer.
-- Assumes nothing.
use Prim.Native.Nat.{ℕ, ◌+◌, ◌≤◌, ◌<◌}
use mathlib.Core.Path.{◌≡◌, refl, sym, ap, ◌∙◌}
use mathlib.Core.Bool.{Bool, true, false, not}
use mathlib.Core.List.{List, [], ◌∷◌, map}
use native.Mathlib.Omega.{arith}
use borrow.Author.Tests.{not-false}
use lib.Dec.{leb}
use lib.ListN.{length, get_or}
use Rattle.plain.specs.Tests.{neither}
use Rattle.word.specs.Write.{puts}
use Rattle.run.specs.Run as Run
use Rattle.run.specs.Run.{picked, all_of, each, Every, times}
use Rattle.run.proofs.Laws.{all_same, every_picked}
use Rattle.run.proofs.Tally.{picked_same, times-picked}
use Rattle.kinds.specs.declared.ScavengeAnswer.{ScavengeAnswer}
use Rattle.kinds.specs.declared.Report.{Report}
use Rattle.kinds.specs.declared.Report.TheVariants.{Success}
use Rattle.tariff.specs.Charges.{scavenge_charge}
use Rattle.tariff.specs.declared.Tariff.{Tariff}
use Rattle.promise.specs.Trailer.{n_of, clock_set}
use Rattle.promise.specs.Header.{header_of, owner_of}
use Rattle.promise.proofs.ScavengeLaws.{free_in_turn}
use Rattle.promise.specs.Counts.{count_of}
use Rattle.promise.specs.Refusals.{Row, lowest, receipt, refusal}
use Rattle.promise.specs.Keys.{reach, key_at, visited_good}
use Rattle.promise.specs.Scavenge.{expired, gone, gone_of, scavenge_damaged, scavenge_rows, scavenge_report}
use Rattle.promise.specs.Scavenge.{scavenged, scavenge_image, scavenge_answer, ScavengePromise, count_lowered}
use Rattle.front.specs.Rows.{reading_rows, time_rows, changing_rows, answered}
use Rattle.front.proofs.Fronts.{changing_rising, changing_known, no_expiry, told_err, told_ok}
use Rattle.keys.specs.Marks.{loses, marked, has_count, freed, removed_by, Marks, Tallies, Lost}
use Rattle.keys.specs.Asked.{manager_rows}
use Rattle.keys.specs.declared.visit.Span.{Span}
use Rattle.keys.proofs.Rows.{in_groups, manager_rising, manager_fit, Call, Tried, refused}
use Rattle.keys.proofs.Rows.{let_through, its_span, front_passes, asked_passes, well}
use Rattle.std.specs.Prelude.{Result, Ok, Err}
use Rattle.keys.proofs.Marks.{marked_is, owner_below}
use Rattle.keys.proofs.Lowers.{low, low_agree, lowers, swept}
use Rattle.word.specs.Word.{Bytes, bytes_of}
use Rattle.word.proofs.Laws.{sizes, length_over}
use Rattle.promise.proofs.TrailerLaws.{Number}
use Rattle.promise.specs.Layout.{size_of, trailer_at}
use Rattle.image.specs.Image.{trailer_in, Laid}

-- ---- runs

-- what holds of each number of a list says of the mapped list
every_map : (g : ℕ → ℕ) (P Q : ℕ → Type 0) → ((b : ℕ) → P b → Q (g b)) → (bs : List ℕ) → Every P bs → Every Q (map g bs)
every_map g P Q f [] e = e
every_map g P Q f (b ∷ bs) e = (f b e.0, every_map g P Q f bs e.1)

-- a change at f of each number of a list is one at each number of the mapped list
each_map : {S : Type 0} (f : S → ℕ → S) (g : ℕ → ℕ) (s : S) (bs : List ℕ)
    → each (λ s b. f s (g b)) s bs ≡ each f s (map g bs)
unfolding each
each_map f g s [] = refl
each_map f g s (b ∷ bs) = each_map f g (f s (g b)) bs

twice : (t : Bool) → t ≡ not (not t)
twice true = refl
twice false = refl

-- ---- what the marks say, where all visited headers are good

module _ (img : List ℕ) (time from k : ℕ) (g : visited_good img from k ≡ true) where
  -- ---- and the headers visited are those that a call reaches

  module _ (n : ℕ) (its : n_of img ≡ n) (e : k ≡ Run.reach n from) where
    its-reach : k ≡ reach img from
    its-reach = rw its e

    gone-is : (marks : List Bool) → Marks img time from k marks
        → picked (marked marks from) from k ≡ gone img from time
    unfolding gone
    gone-is marks f = picked_same (marked marks from) (expired img time) from k (marked_is img time from k marks f)
        ∙ ap (picked (expired img time) from) its-reach

    pub decided : (tally : List ℕ) → Tallies img time from k tally
        → all_of (has_count n img tally) 0 64 ≡ not (scavenge_damaged img from time)
    unfolding scavenge_damaged gone_of
    decided tally t =
        let v = rw its-reach at g in
        let q : all_of (has_count n img tally) 0 64
        ≡ all_of (λ u. leb (gone_of img from time u) (count_of (n_of img) img u)) 0 64 =
        all_same (has_count n img tally)
        (λ u. leb (gone_of img from time u) (count_of (n_of img) img u)) 0 64
        (λ u l b.
        ap (λ (x : ℕ). leb x (count_of n img u)) (t u b
        ∙ ap (λ (x : ℕ). length (picked (loses img time u) from x)) its-reach)
        ∙ ap (λ (x : ℕ). leb (gone_of img from time u) (count_of x img u)) (sym its)) in
        q ∙ rw v (twice _)

    -- the tally is that of the owners of the blocks that are gone
    tally-times : (tally : List ℕ) → Tallies img time from k tally → (u : ℕ) → 0 ≤ u → u < 64
        → get_or tally u 0 ≡ times u (map (λ b. owner_of (header_of img b)) (gone img from time))
    unfolding gone
    tally-times tally y u l h =
        y u h ∙ ap (λ (x : ℕ). length (picked (loses img time u) from x)) its-reach
        ∙ sym (times-picked (expired img time) (λ b. owner_of (header_of img b)) u from (reach img from))

    -- their numbers are below n, and their owners are clients
    blocks : Every (λ b. (b < n) × (owner_of (header_of img b) < 64)) (gone img from time)
    unfolding gone
    blocks = every_picked (expired img time) _ from (reach img from)
        (λ b l u x. (omega (arith, its-reach, e), owner_below img time from k g b l (omega (arith, its-reach)) x))

    removed-is : Number n → length img ≡ size_of n → Bytes img → (marks : List Bool) → Marks img time from k marks
        → (tally : List ℕ) → Tallies img time from k tally
        → removed_by n time marks tally from k img ≡ scavenged img from time
    unfolding scavenged puts
    removed-is r z y marks f tally t =
        let bs : List ℕ = gone img from time in
        let us : List ℕ = map (λ b. owner_of (header_of img b)) bs in
        let s₀ : List ℕ = puts img (clock_set n time ∷ []) in
        let s : List ℕ = each (freed n) s₀ bs in
        let q : length s₀ ≡ size_of n = length_over img (trailer_at n + 24) (bytes_of 8 time) (simp sizes (omega arith))
        ∙ z in
        rw (gone-is marks f, its)
        (low_agree n (λ u. get_or tally u 0) (λ u. times u us) 64 0 s (tally-times tally t)
        ∙ sym (lowers n us (every_map _ _ (λ u. u < 64) (λ b p. p.1) bs blocks) s (swept n img r time bs blocks z y))
        ∙ sym (each_map (λ s u. low n u 1 s) (λ b. owner_of (header_of img b)) s bs)
        ∙ ap (λ x. each (count_lowered n img) x bs) (sym (free_in_turn n img r s₀ bs q blocks)))

-- a header visited is not good
pub bad_header : (img : List ℕ) (time from k n : ℕ) → n_of img ≡ n → k ≡ Run.reach n from
    → visited_good img from k ≡ false → false ≡ not (scavenge_damaged img from time)
unfolding scavenge_damaged
bad_header img time from k n its e g =
    let v : visited_good img from (reach img from) ≡ false = rw (its, ← e) g in
    sym (rw v)

-- where nothing is damaged, all visited headers are good
good_headers : (img : List ℕ) (key time : ℕ) → scavenge_damaged img key time ≡ false
    → visited_good img key (reach img key) ≡ true
unfolding scavenge_damaged
good_headers img key time e =
    not-false _
    (neither (not (visited_good img key (reach img key)))
    (not (all_of (λ u. leb (gone_of img key time u) (count_of (n_of img) img u)) 0 64)) e).0

-- ---- the report

module _ (img : List ℕ) (client key time : ℕ) where
  abbrev before : List Row
  before = changing_rows img client 0 time

  abbrev asked : ℕ → List Row
  asked n = manager_rows n client key false

  pub by_rows : (n : ℕ) → n_of img ≡ n
      → scavenge_report img client key time ≡ lowest (in_groups before (asked n) (scavenge_damaged img key time))
  unfolding scavenge_report scavenge_rows changing_rows reading_rows time_rows lowest
  by_rows n k = rw (no_expiry time, k)

  abbrev pub the_call : Call
  the_call = record {
    img = img;
    key = key;
    front = before;
    asked = asked;
    damaged = scavenge_damaged img key time;
    visited = reach img key;
    report = scavenge_report img client key time;
    by_rows = by_rows;
    front_rising = changing_rising img client 0 time;
    asked_rising = λ n. manager_rising n client key false;
  }

  -- what a call is told at its end: its own answer, or the report that refuses it
  abbrev pub Told : Tariff → Result ScavengeAnswer Report → Type 0
  Told t x = x ≡ answered (scavenge_report img client key time) (scavenge_answer t img client key time)

  pub refuses : (t : Tariff) (r : Report) → Tried the_call (Err r)
      → Told t (Err r) × (img ≡ scavenge_image img client key time)
  unfolding scavenge_image answered
  refuses t r e = let w = refused the_call e in (rw (w.0, w.1), rw (w.0, w.1))

  pub told_refused : (t : Tariff) (r : Report) → Told t (Err r)
      → record { receipt = refusal t r; key = key; count = 0 } ≡ scavenge_answer t img client key time
  unfolding scavenge_answer
  told_refused t r e = let w = told_err (scavenge_report img client key time) _ r (sym e) in rw (w.1, rw w.1 at w.0)

  pub told_done : (t : Tariff) (a : ScavengeAnswer) → Told t (Ok a) → a ≡ scavenge_answer t img client key time
  told_done t a e = sym (told_ok (scavenge_report img client key time) _ a (sym e)).1

  module _ (s : Span) (e : Tried the_call (Ok s)) where
    its_laid : Laid img (n_of img)
    its_laid = (changing_known img client 0 time (trailer_in img) (front_passes the_call e)).laid

    pub room_for : (marks : List Bool) (tally : List ℕ) → Lost img time key (reach img key) marks tally
        → Laid img s.n × (s.from + s.visited ≤ s.n) × (s.visited ≤ 64)
        × Lost img time s.from s.visited marks tally
    room_for marks tally lost =
        let f = manager_fit (n_of img) client key false (asked_passes the_call e) in
        rw (← its_span the_call e) (its_laid, omega arith, omega arith, lost)

    pub sweeps : (t : Tariff) (marks : List Bool) (tally : List ℕ)
        → Lost img time key (reach img key) marks tally → Bytes img
        → (a : ScavengeAnswer) (img' : List ℕ)
        → a ≡ record {
          receipt = receipt Success (scavenge_charge t);
          key = key_at s.n (s.from + s.visited);
          count = length (picked (marked marks s.from) s.from s.visited);
        }
        → img' ≡ removed_by s.n time marks tally s.from s.visited img
        → ScavengePromise t img client key time a img'
    unfolding scavenge_answer scavenge_image
    sweeps t marks tally (f, y) b a img' p q =
        let l = its_laid in
        let g = good_headers img key time (well the_call e) in
        let m = reach img key in
        record {
          answer = rw (let_through the_call e) (p ∙ rw (← its_span the_call e)
              (rw (gone-is img time key m g (n_of img) refl refl marks f)));
          image = rw (let_through the_call e) (q ∙ rw (← its_span the_call e)
              (removed-is img time key m g (n_of img) refl refl l.number l.size b marks f tally y));
        }

    pub tells : (t : Tariff) (a : ScavengeAnswer) → a ≡ scavenge_answer t img client key time → Told t (Ok a)
    unfolding answered
    tells t a q = rw (let_through the_call e, q)
