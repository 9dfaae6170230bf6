-- What SetExpiry, Destroy and Replace answer and leave, in the cases that the code tells apart.
-- Assumes nothing.
use Rattle.std.specs.Prelude.{Result, Ok, Err, Option, Some, None}
use Rattle.std.specs.Option.{SomeIff, ok_or}
use Prim.Native.Nat.{ℕ, zero, suc, ◌+◌, ◌-◌, ◌*◌, ◌^◌, ◌≤◌, ◌<◌}
use mathlib.Core.Path.{◌≡◌, refl, sym, ap, ◌∙◌}
use mathlib.Core.Bool.{Bool, true, false, not, ◌&&◌, ◌||◌, true≢false}
use mathlib.Core.List.{List, [], ◌∷◌, ◌++◌}
use native.Mathlib.Omega.{arith}
use borrow.Author.Tests.{eqb-true, eq-eqb, ne_eqb, not-false}
use lib.Dec.{eqb}
use lib.ListN.{length}
use Rattle.plain.specs.Tests.{when, apart}
use Rattle.word.specs.Word.{bytes_of}
use Rattle.word.specs.Write.{puts}
use Rattle.kinds.specs.Kinds.{ident}
use Rattle.kinds.specs.declared.Id.{Id}
use Rattle.kinds.specs.declared.Receipt.{Receipt}
use Rattle.kinds.specs.declared.Report.{Report}
use Rattle.kinds.specs.declared.Report.TheVariants.{Success, BadImage, BadUser, BadTime, ClockNotLater, BadRoom}
use Rattle.kinds.specs.declared.Report.TheVariants.{Damaged, NoSuchBlock, NotOwner}
use Rattle.ident.specs.Ident.{null_id, id_of}
use Rattle.tariff.specs.Charges.{set_expiry_charge, destroy_charge, replace_charge}
use Rattle.tariff.specs.declared.Tariff.{Tariff}
use Rattle.promise.specs.Layout.{header_at}
use Rattle.promise.specs.Trailer.{n_of, clock_of, clock_set}
use Rattle.promise.specs.Header.{header_of, owner_of, created_of, expires_of, later_of, header_zeroed}
use Rattle.promise.specs.Map.{free, bit_freed}
use Rattle.promise.specs.Counts.{count_of, count_set}
use Rattle.promise.specs.Refusals.{Row, row, lowest, succeeds, bad_image, bad_user, bad_now, not_later, receipt}
use Rattle.promise.specs.Refusals.{refusal}
use Rattle.promise.proofs.RefusalLaws.{rising}
use Rattle.promise.specs.Lookup.{leads_to, header_for, lookup_damaged, no_such_block, not_owner}
use Rattle.promise.specs.SetExpiry.{SetExpiryPromise, set_expiry_answer, set_expiry_image, set_expiry_report}
use Rattle.promise.specs.SetExpiry.{set_expiry_rows}
use Rattle.promise.specs.SetExpiry.{set_expiry_writes}
use Rattle.promise.specs.Destroy.{DestroyPromise, destroy_answer, destroy_image, destroy_report, destroy_rows}
use Rattle.promise.specs.Destroy.{destroy_writes, destroy_damaged}
use Rattle.promise.specs.Replace.{ReplacePromise, replace_answer, replace_image, replace_report, replace_rows}
use Rattle.promise.specs.Replace.{replace_writes}
use Rattle.image.specs.Image.{Laid}
use Rattle.image.proofs.Checks.{known}
use Rattle.front.specs.Rows.{time_rows, answered}
use Rattle.promise.proofs.RowLaws.{clear, stopped, passed, same_rest}
use Rattle.front.proofs.Fronts.{told_err, told_ok, err_more, is_admitted, is_timely, no_expiry}
use Rattle.front.specs.Rows.{bad_times, reading_rows, changing_rows}
use Rattle.store.specs.Store.{find_rows, own_rows, found, left_of, block_writes}
use Rattle.store.specs.declared.lookup.Found.{Found}
use Rattle.store.proofs.Lookups.{own_seek_rows, own_answer, is_found}

-- ---- a block that was found for its owner

pub record Held (img : List ℕ) (client id expiry : ℕ) (room : Bool) (time n b : ℕ) : Type 0 where
  pub laid : Laid img n
  pub below : b < n
  pub user : client < 64
  pub time_fits : time < 2 ^ 40
  pub expiry_fits : expiry < 2 ^ 40
  pub its_room : room ≡ true
  pub its_n : n_of img ≡ n
  pub its_b : leads_to id ≡ b
  pub owner : owner_of (header_of img b) ≡ client
  pub expires_fits : expires_of (header_of img b) < 2 ^ 40
  pub bit : free n img b ≡ false
  pub report : succeeds (lowest (own_seek_rows img client id expiry room time)) ≡ true

owner_is : (img : List ℕ) (client id : ℕ) → not_owner img client id ≡ false → owner_of (header_for img id) ≡ client
unfolding not_owner
owner_is img client id e = eqb-true (owner_of (header_for img id)) client (not-false _ e)

pub held : (img : List ℕ) (client id expiry : ℕ) (room : Bool) (time : ℕ) (f : Found)
    → own_answer img client id expiry room time ≡ Ok f
    → Held img client id expiry room time f.n f.b.0
unfolding changing_rows reading_rows time_rows own_rows
held img client id expiry room time f e =
    let w = told_ok (lowest (own_seek_rows img client id expiry room time)) (found img (leads_to id)) f e in
    let n : n_of img ≡ f.n = ap (λ (x : Found). x.n) w.1 in
    let b : leads_to id ≡ f.b.0 = ap (λ (x : Found). x.b.0) w.1 in
    let a = is_admitted img client (time_rows img expiry time ++ own_rows img client id room) w.0 in
    let t = is_timely img expiry time (own_rows img client id room) a.1 in
    let h = is_found img id room (row (not_owner img client id) NotOwner ∷ []) t.1 in
    let o = clear (row (not_owner img client id) NotOwner) [] (omega arith) h.2 in
    let k = known img f.n (clock_of img) a.0.trailer n refl in
    record {
      laid = k.laid;
      below = omega (arith, h.1.below, n, b);
      user = a.0.user;
      time_fits = t.0.time_fits;
      expiry_fits = t.0.expiry_fits;
      its_room = h.0;
      its_n = n;
      its_b = b;
      owner = rw b at (owner_is img client id o.0);
      expires_fits = rw b at h.1.facts.in_time;
      bit = rw (n, b) at h.1.bit;
      report = w.0;
    }

pub held_within : (img : List ℕ) (n b : ℕ) → Laid img n → b < n → 64 * b + 64 ≤ length img
held_within img n b l h = omega (arith, l.size)

-- ---- SetExpiry

module _ (t : Tariff) (img : List ℕ) (client id expiry time : ℕ) (x : Receipt) where
  set_report : set_expiry_report img client id expiry time ≡ lowest (own_seek_rows img client id expiry true time)
  unfolding set_expiry_report set_expiry_rows changing_rows reading_rows time_rows bad_times own_rows find_rows lowest
  set_report = refl

  pub set_refused : (r : Report) → own_answer img client id expiry true time ≡ Err r → x ≡ refusal t r
      → SetExpiryPromise t img client id expiry time (record { receipt = x }) img
  unfolding set_expiry_answer set_expiry_image
  set_refused r e p =
      let w = told_err (lowest (own_seek_rows img client id expiry true time)) (found img (leads_to id)) r e in
      record { answer = rw (set_report, w.0, w.1, p); image = rw (set_report, w.0) }

  pub set_done : (n b : ℕ) → Held img client id expiry true time n b → (until : ℕ) → until ≡ later_of time expiry
      → x ≡ receipt Success (set_expiry_charge t (created_of (header_of img b)) (expires_of (header_of img b))
      (created_of (header_of img b)) until)
      → (img' : List ℕ) → img' ≡ puts img
      (clock_set n time ∷ record { at = header_at b + 24; bytes = bytes_of 8 until } ∷ [])
      → SetExpiryPromise t img client id expiry time (record { receipt = x }) img'
  unfolding set_expiry_answer set_expiry_image set_expiry_writes
  set_done n b k until u p img' q =
      record {
        answer = rw (set_report, k.report, k.its_b, ← u, p);
        image = rw (set_report, k.report, k.its_n, k.its_b, ← u, q);
      }

-- ---- Destroy

-- the count is looked at last, though its row stands with the first
count_last : (e f g z : Bool)
    → lowest (row (e || (not f && not g && z)) Damaged ∷ row f NoSuchBlock ∷ row g NotOwner ∷ [])
    ≡ lowest (row false BadRoom ∷ row e Damaged ∷ row f NoSuchBlock ∷ row g NotOwner ∷ row z Damaged ∷ [])
unfolding lowest
count_last true f g z = refl
count_last false true g z = refl
count_last false false true z = refl
count_last false false false true = refl
count_last false false false false = refl

-- one less, where there is one
pub none_less : (o : Option ℕ) (count : ℕ) (e r : Report) → SomeIff o (1 ≤ count) (count - 1) → ok_or o e ≡ Err r
    → (count ≡ 0) × (r ≡ e)
none_less None zero e r h q = (refl, sym (cc q))
none_less None (suc k) e r h q = absurd (h (omega arith))
none_less (Some x) count e r h q = absurd (apart cc)

pub one_less : (o : Option ℕ) (count : ℕ) (e : Report) (x : ℕ) → SomeIff o (1 ≤ count) (count - 1) → ok_or o e ≡ Ok x
    → (count ≡ 0 → ⊥) × (x ≡ count - 1)
one_less None count e x h q = absurd (apart cc)
one_less (Some y) count e x h q = let p : y ≡ x = cc q in (λ z. omega (arith, h.0), sym p ∙ h.1)

module _ (img : List ℕ) (client id time : ℕ) where
  abbrev rest : List Row
  rest = row (eqb (count_of (n_of img) img (owner_of (header_for img id))) 0) Damaged ∷ []

  destroy_report_lem : lowest (destroy_rows img client id time)
      ≡ lowest (own_seek_rows img client id 0 true time ++ rest)
  unfolding destroy_rows destroy_damaged changing_rows reading_rows time_rows own_rows find_rows
  destroy_report_lem =
      rw (no_expiry time)
      (same_rest (row (bad_image img) BadImage ∷ row (bad_user client) BadUser ∷ row (bad_now time) BadTime ∷ row
      (not_later img time) ClockNotLater ∷ []) _ _
      (count_last (lookup_damaged img id) (no_such_block img id) (not_owner img client id)
      (eqb (count_of (n_of img) img (owner_of (header_for img id))) 0)))

  abbrev pub destroy_found : Found × ℕ
  destroy_found = (found img (leads_to id), left_of img client)

  abbrev pub destroy_tested : Result (Found × ℕ) Report
  destroy_tested = answered (lowest (destroy_rows img client id time)) destroy_found

  pub not_owned : (r : Report) → own_answer img client id 0 true time ≡ Err r → destroy_tested ≡ Err r
  not_owned r e = rw destroy_report_lem
      (err_more (own_seek_rows img client id 0 true time) rest (found img (leads_to id)) destroy_found r e)

  module _ (f : Found) (e : own_answer img client id 0 true time ≡ Ok f) (count : ℕ)
      (c : count ≡ count_of f.n img client) where
    by_count : lowest (destroy_rows img client id time) ≡ when (eqb count 0) Damaged Success
    unfolding lowest changing_rows reading_rows time_rows own_rows find_rows rising
    by_count =
        let k = held img client id 0 true time f e in
        destroy_report_lem ∙ passed 1 (own_seek_rows img client id 0 true time) rest (omega arith) refl k.report
        ∙ rw (k.its_n, k.its_b, k.owner, ← c)

    module _ (o : Option ℕ) (h : SomeIff o (1 ≤ count) (count - 1)) where
      pub none_left : (r : Report) → ok_or o Damaged ≡ Err r → destroy_tested ≡ Err r
      unfolding answered
      none_left r q = let z = none_less o count Damaged r h q in rw (by_count, eq-eqb count 0 z.0, z.1)

      pub some_left : (left : ℕ) → ok_or o Damaged ≡ Ok left → destroy_tested ≡ Ok (f, left)
      unfolding answered
      some_left left q =
          let z = one_less o count Damaged left h q in
          let w = told_ok (lowest (own_seek_rows img client id 0 true time)) (found img (leads_to id)) f e in
          let k = held img client id 0 true time f e in
          rw (by_count, ne_eqb count 0 z.0, w.1, k.its_n, ← c, z.1)

  -- what is known where none applies
  pub destroy_held : (f : Found) (left : ℕ) → destroy_tested ≡ Ok (f, left)
      → Held img client id 0 true time f.n f.b.0
  unfolding answered
  destroy_held f left e =
      let w = told_ok (lowest (destroy_rows img client id time)) destroy_found (f, left) e in
      held img client id 0 true time f (own (succeeds (lowest (own_seek_rows img client id 0 true time))) refl w.0
      (ap (λ (x : Found × ℕ). x.0) w.1))
    where
      own : (t : Bool) → succeeds (lowest (own_seek_rows img client id 0 true time)) ≡ t
          → succeeds (lowest (destroy_rows img client id time)) ≡ true → found img (leads_to id) ≡ f
          → own_answer img client id 0 true time ≡ Ok f
      own true q s p = rw (q, p)
      own false q s p = absurd
          (true≢false (sym s ∙ rw (destroy_report_lem, stopped (own_seek_rows img client id 0 true time) rest q) q))

module _ (t : Tariff) (img : List ℕ) (client id time : ℕ) (x : Receipt) where
  pub destroy_refused : (r : Report) → destroy_tested img client id time ≡ Err r → x ≡ refusal t r
      → DestroyPromise t img client id time (record { receipt = x }) img
  unfolding destroy_answer destroy_image destroy_report
  destroy_refused r e p =
      let w = told_err (lowest (destroy_rows img client id time)) (destroy_found img client id time) r e in
      record { answer = rw (w.0, w.1, p); image = rw w.0 }

  pub destroy_done : (f : Found) (left : ℕ) → destroy_tested img client id time ≡ Ok (f, left)
      → x ≡ receipt Success
      (destroy_charge t (created_of (header_of img f.b.0)) (expires_of (header_of img f.b.0)) time)
      → (img' : List ℕ) → img' ≡ puts img
      (clock_set f.n time ∷ header_zeroed f.b.0 ∷ bit_freed f.n img f.b.0 ∷ count_set f.n client left ∷ [])
      → DestroyPromise t img client id time (record { receipt = x }) img'
  unfolding destroy_answer destroy_image destroy_report destroy_writes
  destroy_done f left e p img' q =
      let w = told_ok (lowest (destroy_rows img client id time)) (destroy_found img client id time) (f, left) e in
      let k = destroy_held img client id time f left e in
      let l : left_of img client ≡ left = ap (λ (x : Found × ℕ). x.1) w.1 in
      record {
        answer = rw (w.0, k.its_b, p);
        image = rw (w.0, k.its_b, k.owner, l, k.its_n, q);
      }

-- ---- Replace

module _ (t : Tariff) (img : List ℕ) (client id : ℕ) (bytes : List ℕ) (time : ℕ) (x : Receipt) where
  abbrev room : Bool
  room = eqb (length bytes) 528

  replace_report_lem : replace_report img client id bytes time ≡ lowest (own_seek_rows img client id 0 room time)
  unfolding replace_report replace_rows changing_rows reading_rows time_rows own_rows find_rows
  replace_report_lem = rw (no_expiry time)

  pub replace_refused : (r : Report) → own_answer img client id 0 room time ≡ Err r → x ≡ refusal t r
      → ReplacePromise t img client id bytes time (record { receipt = x; id = ident null_id }) img
  unfolding replace_answer replace_image
  replace_refused r e p =
      let w = told_err (lowest (own_seek_rows img client id 0 room time)) (found img (leads_to id)) r e in
      record { answer = rw (replace_report_lem, w.0, w.1, p); image = rw (replace_report_lem, w.0) }

  pub replace_done : (n b : ℕ) → Held img client id 0 room time n b → (made : Id) → made ≡ ident (id_of time b)
      → (expires : ℕ) → expires ≡ expires_of (header_of img b)
      → x ≡ receipt Success (replace_charge t (created_of (header_of img b)) expires time time expires)
      → (img' : List ℕ) → img' ≡ puts img (block_writes n b client made.0 expires bytes time)
      → ReplacePromise t img client id bytes time (record { receipt = x; id = made }) img'
  unfolding replace_answer replace_image replace_writes
  replace_done n b k made m expires u p img' q =
      record {
        answer = rw (replace_report_lem, k.report, k.its_b, ← u, p, m);
        image = rw (replace_report_lem, k.report, k.its_n, k.its_b, ← u, q, m);
      }
