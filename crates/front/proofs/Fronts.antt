-- The tests in front: what they answer in each case, and what is known where none applies.
-- Assumes nothing.
use Prim.Native.Nat.{ℕ, ◌^◌, ◌≤◌, ◌<◌}
use mathlib.Core.Path.{◌≡◌, refl, sym, ◌∙◌, ap}
use mathlib.Core.Bool.{true, false, or-false}
use mathlib.Core.List.{List, [], ◌++◌, append-nil}
use Rattle.std.specs.Prelude.{Some, None, Result, Ok, Err}
use Rattle.std.specs.Result.{IsErrAnd}
use native.Mathlib.Omega.{arith}
use borrow.Author.Tests.{lt-ltb, le-ltb, le-leb, lt-leb, not-false}
use lib.IntN.{ℤ}
use Rattle.plain.specs.Tests.{neither, was_first, was_second, apart}
use Rattle.kinds.specs.Kinds.{money}
use Rattle.kinds.specs.declared.Money.{Money}
use Rattle.kinds.specs.declared.Receipt.{Receipt}
use Rattle.kinds.specs.declared.Report.{Report}
use Rattle.kinds.specs.declared.Report.TheVariants.{Success, BadImage, BadUser, BadTime, ClockNotLater}
use Rattle.promise.specs.Trailer.{clock_of, trailer_right}
use Rattle.promise.specs.Refusals.{Row, lowest, succeeds, bad_now, bad_expiry, receipt}
use Rattle.promise.proofs.RefusalLaws.{rising}
use Rattle.promise.proofs.RowLaws.{stopped, clear, passed, now_fits, expiry_fits, is_later, is_client}
use Rattle.image.specs.Image.{Known, trailer_in, trailer_answer}
use Rattle.image.specs.declared.trailer.Trailer.{Trailer}
use Rattle.image.proofs.Checks.{not_right, its_trailer, its, known}
use Rattle.front.specs.Rows.{bad_times, reading_rows, time_rows, changing_rows, front_of, answered}

-- ---- what an answer tells of its report

pub told_err : {A : Type 0} (r : Report) (a : A) (s : Report) → answered r a ≡ Err s → (succeeds r ≡ false) × (r ≡ s)
unfolding answered
told_err r a s e = let w = was_second (succeeds r) (λ q. apart cc) e in (w.0, cc w.1)

pub told_ok : {A : Type 0} (r : Report) (a b : A) → answered r a ≡ Ok b → (succeeds r ≡ true) × (a ≡ b)
unfolding answered
told_ok r a b e = let w = was_first (succeeds r) (λ q. apart cc) e in (w.0, cc w.1)

-- `?` gives on the report that it was given
pub rethrown : {A : Type 0} (x : Result A Report) (r : Report) → IsErrAnd x (λ s. s ≡ r) → x ≡ Err r
rethrown (Ok a) r h = absurd h
rethrown (Err s) r h = rw h

pub exit : {A : Type 0} (x : Result A Report) {z : Result A Report} {r : Report} → IsErrAnd x (λ s. s ≡ r) → z ≡ Err r
    → x ≡ z
exit x {r = r} h e = rethrown x r h ∙ sym e

-- ---- the answer of two groups

module _ (xs ys : List Row) {A B : Type 0} (a : A) (b : B) where
  pub err_more : (r : Report) → answered (lowest xs) a ≡ Err r → answered (lowest (xs ++ ys)) b ≡ Err r
  unfolding answered
  err_more r e = let w = told_err (lowest xs) a r e in rw (stopped xs ys w.0, w.0, w.1)

  pub ok_more : rising 1 xs ≡ true → (x : A) → answered (lowest xs) a ≡ Ok x
      → answered (lowest ys) b ≡ answered (lowest (xs ++ ys)) b
  ok_more u x e = rw (passed 1 xs ys (omega arith) u (told_ok (lowest xs) a x e).0)

  pub ok_err : rising 1 xs ≡ true → (x : A) → answered (lowest xs) a ≡ Ok x → {C : Type 0} (c : C) (r : Report)
      → answered (lowest ys) c ≡ Err r → answered (lowest (xs ++ ys)) b ≡ Err r
  unfolding answered
  ok_err u x e c r f =
      let w = told_err (lowest ys) c r f in
      rw (passed 1 xs ys (omega arith) u (told_ok (lowest xs) a x e).0, w.0, w.1)

-- ---- the image and the client

module _ (img : List ℕ) (client : ℕ) where
  pub bad_image_lem : trailer_answer img ≡ None → front_of (lowest (reading_rows img client)) img ≡ Err BadImage
  unfolding answered lowest reading_rows
  bad_image_lem e = rw (not_right img e)

  pub bad_user_lem : (t : Trailer) → trailer_answer img ≡ Some t → 63 < client
      → front_of (lowest (reading_rows img client)) img ≡ Err BadUser
  unfolding answered lowest reading_rows
  bad_user_lem t e h = rw (its_trailer img t e, lt-ltb 63 client h)

  pub admitted : (t : Trailer) → trailer_answer img ≡ Some t → client ≤ 63
      → front_of (lowest (reading_rows img client)) img ≡ Ok t
  unfolding answered lowest reading_rows
  admitted t e h = rw (its_trailer img t e, le-ltb 63 client h, its img t e)

pub reading_rising : (img : List ℕ) (client : ℕ) → rising 1 (reading_rows img client) ≡ true
unfolding rising reading_rows
reading_rising img client = refl

-- where neither applies
pub record Admitted (img : List ℕ) (client : ℕ) : Type 0 where
  pub trailer : trailer_right img ≡ true
  pub user : client < 64

pub is_admitted : (img : List ℕ) (client : ℕ) (ws : List Row) → succeeds (lowest (reading_rows img client ++ ws)) ≡ true
    → Admitted img client × (succeeds (lowest ws) ≡ true)
unfolding reading_rows
is_admitted img client ws e =
    let w = clear _ _ (omega arith) e in
    let v = clear _ _ (omega arith) w.1 in
    (record { trailer = not-false (trailer_right img) w.0; user = is_client client v.0 }, v.1)

pub its_own : (img : List ℕ) (n clock : ℕ) → Known img n clock → Known img n (clock_of img)
its_own img n clock k = record
    { laid = k.laid; its_n = k.its_n; its_clock = refl; in_time = rw k.its_clock k.in_time }

pub reading_known : (img : List ℕ) (client : ℕ) (t : Trailer)
    → front_of (lowest (reading_rows img client)) img ≡ Ok t → Known img t.n t.clock.0
reading_known img client t e =
    let w = told_ok (lowest (reading_rows img client)) (trailer_in img) t e in
    let a = is_admitted img client [] (rw append-nil w.0) in
    known img t.n t.clock.0 a.0.trailer (ap (λ (x : Trailer). x.n) w.1) (ap (λ (x : Trailer). x.clock.0) w.1)

pub reading_client : (img : List ℕ) (client : ℕ) (t : Trailer)
    → front_of (lowest (reading_rows img client)) img ≡ Ok t → client < 64
reading_client img client t e =
    (is_admitted img client []
    (rw append-nil (told_ok (lowest (reading_rows img client)) (trailer_in img) t e).0)).0.user

-- ---- the times

pub refused_front : (img : List ℕ) (client expiry time : ℕ) (r : Report)
    → front_of (lowest (reading_rows img client)) img ≡ Err r
    → front_of (lowest (changing_rows img client expiry time)) img ≡ Err r
unfolding changing_rows
refused_front img client expiry time r e =
    err_more (reading_rows img client) (time_rows img expiry time) (trailer_in img) (trailer_in img) r e

module _ (img : List ℕ) (client expiry time : ℕ) (t : Trailer) (o : front_of (lowest (reading_rows img client)) img
    ≡ Ok t) where
  told : trailer_in img ≡ t
  told = (told_ok (lowest (reading_rows img client)) (trailer_in img) t o).1

  to_times : front_of (lowest (changing_rows img client expiry time)) img
      ≡ front_of (lowest (time_rows img expiry time)) img
  unfolding changing_rows
  to_times = sym (ok_more (reading_rows img client) (time_rows img expiry time) (trailer_in img) (trailer_in img)
      (reading_rising img client) t o)

  pub bad_time : bad_times expiry time ≡ true
      → front_of (lowest (changing_rows img client expiry time)) img ≡ Err BadTime
  unfolding answered lowest time_rows
  bad_time e = to_times ∙ rw e

  pub not-later : bad_times expiry time ≡ false → time ≤ t.clock.0
      → front_of (lowest (changing_rows img client expiry time)) img ≡ Err ClockNotLater
  unfolding answered lowest time_rows
  not-later e h = to_times ∙ rw (e, ap (λ (x : Trailer). x.clock.0) told, le-leb time t.clock.0 h)

  pub in_time : bad_times expiry time ≡ false → t.clock.0 < time
      → front_of (lowest (changing_rows img client expiry time)) img ≡ Ok t
  unfolding answered lowest time_rows
  in_time e h =
      let l : clock_of img < time = omega (arith, ap (λ (x : Trailer). x.clock.0) told) in
      to_times ∙ rw (e, lt-leb time (clock_of img) l) (ap Ok told)

pub record Timely (img : List ℕ) (expiry time : ℕ) : Type 0 where
  pub begun : 1 ≤ time
  pub time_fits : time < 2 ^ 40
  pub expiry_fits : expiry < 2 ^ 40
  pub later : clock_of img < time

pub is_timely : (img : List ℕ) (expiry time : ℕ) (ws : List Row)
    → succeeds (lowest (time_rows img expiry time ++ ws)) ≡ true
    → Timely img expiry time × (succeeds (lowest ws) ≡ true)
unfolding time_rows bad_times
is_timely img expiry time ws e =
    let w = clear _ _ (omega arith) e in
    let v = clear _ _ (omega arith) w.1 in
    let u = neither (bad_now time) (bad_expiry expiry) w.0 in
    let f = now_fits time u.0 in (
      record {
        begun = f.0;
        time_fits = f.1;
        expiry_fits = expiry_fits expiry u.1;
        later = is_later img time v.0;
      },
      v.1,
    )

-- an operation that is asked for no expiry
pub no_expiry : (time : ℕ) → bad_times 0 time ≡ bad_now time
unfolding bad_times
no_expiry time = or-false (bad_now time)

-- ---- both

pub changing_rising : (img : List ℕ) (client expiry time : ℕ) → rising 1 (changing_rows img client expiry time) ≡ true
unfolding rising reading_rows time_rows changing_rows
changing_rising img client expiry time = refl

pub changing_known : (img : List ℕ) (client expiry time : ℕ) (t : Trailer)
    → front_of (lowest (changing_rows img client expiry time)) img ≡ Ok t
    → Known img t.n t.clock.0
unfolding changing_rows
changing_known img client expiry time t e =
    let w = told_ok (lowest (changing_rows img client expiry time)) (trailer_in img) t e in
    let a = is_admitted img client (time_rows img expiry time) w.0 in
    known img t.n t.clock.0 a.0.trailer (ap (λ (x : Trailer). x.n) w.1) (ap (λ (x : Trailer). x.clock.0) w.1)

pub changing_client : (img : List ℕ) (client expiry time : ℕ) (t : Trailer)
    → front_of (lowest (changing_rows img client expiry time)) img ≡ Ok t → client < 64
unfolding changing_rows
changing_client img client expiry time t e =
    (is_admitted img client (time_rows img expiry time)
    (told_ok (lowest (changing_rows img client expiry time)) (trailer_in img) t e).0).0.user

-- ---- the receipt of a success

pub done_at : (x : Receipt) (m : Money) (z : ℤ) → x ≡ record { report = Success; charge = m } → m ≡ money z
    → x ≡ receipt Success z
done_at x m z e p = e ∙ ap (λ (y : Money). record { report = Success; charge = y }) p

-- ---- the cases of each

pub ruleset reading_cases = (bad_image_lem, bad_user_lem, admitted)

pub ruleset changing_cases = (refused_front, bad_time, not-later, in_time)
