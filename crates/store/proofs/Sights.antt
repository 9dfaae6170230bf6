-- What GetCount, Status and Read answer, in the cases that the code tells apart.
-- Assumes nothing.
use Prim.Native.Nat.{ℕ, ◌+◌, ◌*◌, ◌≤◌, ◌<◌}
use mathlib.Core.Path.{◌≡◌, refl, sym, ap, ◌∙◌}
use mathlib.Core.Bool.{Bool, true}
use mathlib.Core.List.{List, [], ◌∷◌, append-nil}
use native.Mathlib.Omega.{arith}
use borrow.Author.Tests.{lt-ltb, le-ltb}
use lib.Dec.{eqb}
use lib.IntN.{pos}
use lib.ListN.{length}
use Rattle.std.specs.Prelude.{Result, Ok, Err}
use Rattle.kinds.specs.Kinds.{user, tick}
use Rattle.kinds.specs.declared.Receipt.{Receipt}
use Rattle.kinds.specs.declared.Report.{Report}
use Rattle.kinds.specs.declared.Report.TheVariants.{Success, Damaged}
use Rattle.kinds.specs.declared.Tick.{Tick}
use Rattle.kinds.specs.declared.User.{User}
use Rattle.tariff.specs.declared.Tariff.{Tariff}
use Rattle.promise.specs.Trailer.{n_of, clock_of}
use Rattle.promise.specs.Header.{header_of, owner_of, created_of, expires_of}
use Rattle.promise.specs.Counts.{count_of, service_block}
use Rattle.promise.specs.Refusals.{Row, row, lowest, receipt, refusal}
use Rattle.promise.specs.Lookup.{leads_to}
use Rattle.promise.specs.GetCount.{GetCountPromise, get_count_answer, get_count_report, get_count_rows}
use Rattle.promise.specs.GetCount.{get_count_damaged}
use Rattle.promise.specs.Status.{StatusPromise, status_answer, status_report, status_rows}
use Rattle.promise.specs.Read.{ReadPromise, read_answer, read_buffer, read_report, read_rows}
use Rattle.image.specs.Image.{Laid, trailer_in}
use Rattle.image.specs.declared.trailer.Trailer.{Trailer}
use Rattle.image.proofs.Checks.{known}
use Rattle.front.specs.Rows.{reading_rows, front_of, answered}
use Rattle.front.proofs.Fronts.{told_err, told_ok, err_more, ok_more, is_admitted, reading_rising}
use Rattle.store.specs.Store.{find_rows, found}
use Rattle.store.specs.declared.lookup.Found.{Found}
use Rattle.store.proofs.Lookups.{seek_rows, seek_answer, There, is_found}

-- ---- GetCount

module _ (img : List ℕ) (client : ℕ) where
  abbrev rest : List Row
  rest = row (get_count_damaged img client) Damaged ∷ []

  abbrev pub count_answer : Result ℕ Report
  count_answer = answered (lowest (get_count_rows img client)) (count_of (n_of img) img client)

  pub not_counted : (r : Report) → front_of (lowest (reading_rows img client)) img ≡ Err r → count_answer ≡ Err r
  unfolding get_count_rows reading_rows
  not_counted r e = err_more (reading_rows img client) rest (trailer_in img) (count_of (n_of img) img client) r e

  module _ (t : Trailer) (e : front_of (lowest (reading_rows img client)) img ≡ Ok t) where
    by_rest : answered (lowest rest) (count_of (n_of img) img client) ≡ count_answer
    unfolding get_count_rows reading_rows
    by_rest = ok_more (reading_rows img client) rest (trailer_in img) (count_of (n_of img) img client)
        (reading_rising img client) t e

    its_n : n_of img ≡ t.n
    its_n = ap (λ (x : Trailer). x.n) (told_ok (lowest (reading_rows img client)) (trailer_in img) t e).1

    module _ (count : ℕ) (c : count ≡ count_of t.n img client) where
      pub count_damaged : t.n < count → count_answer ≡ Err Damaged
      unfolding answered lowest
      count_damaged h = sym by_rest ∙ rw (its_n, ← c, lt-ltb t.n count h)

      pub is_counted : count ≤ t.n → count_answer ≡ Ok count
      unfolding answered lowest
      is_counted h = sym by_rest ∙ rw (its_n, ← c, le-ltb t.n count h)

module _ (t : Tariff) (img : List ℕ) (client : ℕ) (x : Receipt) where
  pub count_refused : (r : Report) → count_answer img client ≡ Err r → x ≡ refusal t r
      → GetCountPromise t img client (record { receipt = x; count = 0 })
  unfolding get_count_answer get_count_report
  count_refused r e p =
      let w = told_err (lowest (get_count_rows img client)) (count_of (n_of img) img client) r e in
      record { answer = rw (w.0, w.1, p) }

  pub counted : (count : ℕ) → count_answer img client ≡ Ok count → x ≡ receipt Success (pos t.getcount)
      → GetCountPromise t img client (record { receipt = x; count = count })
  unfolding get_count_answer get_count_report
  counted count e p =
      let w = told_ok (lowest (get_count_rows img client)) (count_of (n_of img) img client) count e in
      record { answer = rw (w.0, w.1, p) }

-- ---- a block that was found for a reader

pub record Sighted (img : List ℕ) (client id : ℕ) (room : Bool) (f : Found) : Type 0 where
  pub there : There img id
  pub its_room : room ≡ true
  pub its_n : n_of img ≡ f.n
  pub its_b : leads_to id ≡ f.b.0
  pub laid : Laid img f.n
  pub below : f.b.0 < f.n

pub sighted : (img : List ℕ) (client id : ℕ) (room : Bool) (f : Found) → seek_answer img client id room ≡ Ok f
    → Sighted img client id room f
sighted img client id room f e =
    let w = told_ok (lowest (seek_rows img client id room)) (found img (leads_to id)) f e in
    let a = is_admitted img client (find_rows img id room) w.0 in
    let h = is_found img id room [] (rw append-nil a.1) in
    let n : n_of img ≡ f.n = ap (λ (x : Found). x.n) w.1 in
    let b : leads_to id ≡ f.b.0 = ap (λ (x : Found). x.b.0) w.1 in
    record {
      there = h.1;
      its_room = h.0;
      its_n = n;
      its_b = b;
      laid = (known img f.n (clock_of img) a.0.trailer n refl).laid;
      below = omega (arith, h.1.below, n, b);
    }

pub header_within : (img : List ℕ) (client id : ℕ) (room : Bool) (f : Found) → seek_answer img client id room ≡ Ok f
    → 64 * f.b.0 + 64 ≤ length img
header_within img client id room f e =
    let s = sighted img client id room f e in
    omega (arith, s.below, s.laid.size)

-- ---- Status

module _ (t : Tariff) (img : List ℕ) (client id : ℕ) (x : Receipt) where
  pub status_refused : (r : Report) → seek_answer img client id true ≡ Err r → x ≡ refusal t r
      → StatusPromise t img client id (record { receipt = x; owner = user 0; created = tick 0; expires = tick 0 })
  unfolding status_answer status_report status_rows reading_rows find_rows lowest
  status_refused r e p =
      let w = told_err (lowest (seek_rows img client id true)) (found img (leads_to id)) r e in
      record { answer = rw (w.0, w.1, p) }

  pub status_found : (f : Found) → seek_answer img client id true ≡ Ok f
      → x ≡ receipt Success (pos t.status) → (h : List ℕ) → h ≡ header_of img f.b.0
      → (o : User) (c e : Tick) → o ≡ user (owner_of h) → c ≡ tick (created_of h) → e ≡ tick (expires_of h)
      → StatusPromise t img client id (record { receipt = x; owner = o; created = c; expires = e })
  unfolding status_answer status_report status_rows reading_rows find_rows lowest
  status_found f s p h q o c e g k l =
      let w = told_ok (lowest (seek_rows img client id true)) (found img (leads_to id)) f s in
      record { answer = rw (w.0, ap (λ (x : Found). x.b.0) w.1, ← q, p, g, k, l) }

-- ---- Read

module _ (t : Tariff) (img : List ℕ) (client id : ℕ) (buffer : List ℕ) (x : Receipt) where
  abbrev room : Bool
  room = eqb (length buffer) 528

  pub read_refused : (r : Report) → seek_answer img client id room ≡ Err r → x ≡ refusal t r
      → ReadPromise t img client id buffer (record { receipt = x }) buffer
  unfolding read_answer read_buffer read_report read_rows reading_rows find_rows
  read_refused r e p =
      let w = told_err (lowest (seek_rows img client id room)) (found img (leads_to id)) r e in
      record { answer = rw (w.0, w.1, p); given = rw w.0 }

  pub read_found : (f : Found) → seek_answer img client id room ≡ Ok f → x ≡ receipt Success (pos t.read)
      → (buffer' : List ℕ) → buffer' ≡ service_block f.n img f.b.0
      → ReadPromise t img client id buffer (record { receipt = x }) buffer'
  unfolding read_answer read_buffer read_report read_rows reading_rows find_rows
  read_found f s p buffer' q =
      let w = told_ok (lowest (seek_rows img client id room)) (found img (leads_to id)) f s in
      record {
        answer = rw (w.0, p);
        given = rw (w.0, ap (λ (x : Found). x.n) w.1, ap (λ (x : Found). x.b.0) w.1, q);
      }
