-- What Create answers and leaves, in the cases that the code tells apart.
-- Assumes nothing.
use Rattle.std.specs.Prelude.{Result, Ok, Err, Option, Some, None}
use Rattle.std.specs.Option.{ok_or}
use Prim.Native.Nat.{ℕ, ◌+◌, ◌^◌, ◌≤◌, ◌<◌}
use mathlib.Core.Path.{◌≡◌, refl, sym, ap, ◌∙◌}
use mathlib.Core.Bool.{Bool, true, false, not, ◌&&◌, ◌||◌}
use mathlib.Core.List.{List, [], ◌∷◌, ◌++◌}
use mathlib.Core.Logic.{⊎_elim}
use native.Mathlib.Omega.{arith}
use borrow.Author.Tests.{lt-ltb, le-ltb, le-leb, lt-leb, leb-false, not-false, eqb-true, eq-eqb, ne_eqb}
use lib.Dec.{eqb, leb, ltb}
use lib.ListN.{length}
use Rattle.plain.specs.Numbers.{lt_or_le}
use Rattle.plain.specs.Tests.{apart}
use Rattle.word.specs.Write.{puts}
use Rattle.kinds.specs.Kinds.{ident}
use Rattle.kinds.specs.declared.BlockNum.{BlockNum}
use Rattle.kinds.specs.declared.Id.{Id}
use Rattle.kinds.specs.declared.Receipt.{Receipt}
use Rattle.kinds.specs.declared.Report.{Report}
use Rattle.kinds.specs.declared.Report.TheVariants.{Success, BadImage, BadUser, BadTime, ClockNotLater, BadRoom}
use Rattle.kinds.specs.declared.Report.TheVariants.{Damaged, NoSpace}
use Rattle.ident.specs.Ident.{null_id, id_of}
use Rattle.tariff.specs.Charges.{create_charge}
use Rattle.tariff.specs.declared.Tariff.{Tariff}
use Rattle.run.proofs.Laws.{first_passes}
use Rattle.promise.specs.Trailer.{n_of, clock_of}
use Rattle.promise.specs.Header.{later_of}
use Rattle.promise.specs.Map.{free, good}
use Rattle.promise.specs.Counts.{count_of}
use Rattle.promise.specs.Refusals.{Row, row, lowest, succeeds, bad_image, bad_user, not_later, receipt, refusal}
use Rattle.promise.specs.Create.{CreatePromise, create_answer, create_image, create_report, create_rows, create_writes}
use Rattle.promise.specs.Create.{create_damaged, lowest_free, no_space}
use Rattle.image.specs.Image.{Laid, Known}
use Rattle.image.proofs.Checks.{known}
use Rattle.image.proofs.Lowest.{told_none, told_some}
use Rattle.image.specs.Image.{trailer_in, lowest_from}
use Rattle.image.specs.declared.trailer.Trailer.{Trailer}
use Rattle.front.specs.Rows.{bad_times, reading_rows, time_rows, changing_rows, front_of, answered}
use Rattle.promise.proofs.RowLaws.{clear, same_rest}
use Rattle.front.proofs.Fronts.{told_err, told_ok, err_more, ok_more, is_admitted, is_timely, changing_rising}
use Rattle.front.proofs.Fronts.{changing_known}
use Rattle.store.specs.Store.{fill_writes}
use Rattle.store.specs.Places.{place_for}
use Rattle.store.specs.declared.create.Place.{Place}

-- ---- a free block that was found

pub record Free (img : List ℕ) (client expiry : ℕ) (bytes : List ℕ) (time : ℕ) (p : Place) : Type 0 where
  pub laid : Laid img p.n
  pub below : p.b.0 < p.n
  pub user : client < 64
  pub time_fits : time < 2 ^ 40
  pub expiry_fits : expiry < 2 ^ 40
  pub its_room : length bytes ≡ 528
  pub its_n : n_of img ≡ p.n
  pub its_b : lowest_free img ≡ p.b.0
  pub its_count : count_of (n_of img) img client ≡ p.count
  pub counted : p.count < p.n
  pub bit : free p.n img p.b.0 ≡ true
  pub report : succeeds (lowest (create_rows img client expiry bytes time)) ≡ true

passes : (img : List ℕ) → lowest_free img < n_of img → free (n_of img) img (lowest_free img) ≡ true
unfolding lowest_free
passes img h = first_passes (free (n_of img) img) 0 (n_of img) (omega arith)

pub free_told : (o l : Option BlockNum) (b : BlockNum) → o ≡ l → ok_or o NoSpace ≡ Ok b → l ≡ Some b
free_told None l b p e = absurd (apart cc)
free_told (Some x) l b p e = let q : x ≡ b = cc e in sym p ∙ ap Some q

-- ---- the count is looked at last, though its row stands before that of no space

leb-not : (n b : ℕ) → leb n b ≡ not (ltb b n)
leb-not n b =
    ⊎_elim (λ (h : b < n). rw (lt-leb n b h, lt-ltb b n h)) (λ (h : n ≤ b). rw (le-leb n b h, le-ltb b n h))
    (lt_or_le b n)

count_last : (r p g s z : Bool) → s ≡ not p
    → lowest (row r BadRoom ∷ row (p && (not g || z)) Damaged ∷ row s NoSpace ∷ [])
    ≡ lowest (row r BadRoom ∷ row (p && not g) Damaged ∷ row s NoSpace ∷ row z Damaged ∷ [])
unfolding lowest
count_last true p g s z e = refl
count_last false true true s z e = rw e
count_last false true false s z e = refl
count_last false false g s z e = rw e

module _ (img : List ℕ) (client expiry : ℕ) (bytes : List ℕ) (time : ℕ) where
  abbrev room : Bool
  room = eqb (length bytes) 528

  -- the rows in the order in which they are tested
  abbrev rest : List Row
  rest =
      row (not room) BadRoom
      ∷ row (ltb (lowest_free img) (n_of img) && not (good img (lowest_free img))) Damaged
      ∷ row (no_space img) NoSpace
      ∷ row (leb (n_of img) (count_of (n_of img) img client)) Damaged
      ∷ []

  create_report_lem : lowest (create_rows img client expiry bytes time)
      ≡ lowest (changing_rows img client expiry time ++ rest)
  unfolding create_rows create_damaged changing_rows reading_rows time_rows bad_times
  create_report_lem =
      same_rest (row (bad_image img) BadImage ∷ row (bad_user client) BadUser ∷ row (bad_times expiry time) BadTime
      ∷ row
      (not_later img time) ClockNotLater ∷ []) _ _
      (count_last (not room) (ltb (lowest_free img) (n_of img)) (good img (lowest_free img)) (no_space img)
      (leb (n_of img) (count_of (n_of img) img client)) (leb-not (n_of img) (lowest_free img)))

  abbrev pub create_tested : Result Place Report
  create_tested = answered (lowest (create_rows img client expiry bytes time)) (place_for img client)

  pub not_opened : (r : Report) → front_of (lowest (changing_rows img client expiry time)) img ≡ Err r
      → create_tested ≡ Err r
  not_opened r e = rw create_report_lem
      (err_more (changing_rows img client expiry time) rest (trailer_in img) (place_for img client) r e)

  module _ (t : Trailer) (e : front_of (lowest (changing_rows img client expiry time)) img ≡ Ok t) where
    by_rest : answered (lowest rest) (place_for img client) ≡ create_tested
    by_rest = ok_more (changing_rows img client expiry time) rest (trailer_in img) (place_for img client)
        (changing_rising img client expiry time) t e
        ∙ sym (ap (λ r. answered r (place_for img client)) create_report_lem)

    pub opened : Known img t.n t.clock.0
    opened = changing_known img client expiry time t e

    pub bad_room : (length bytes ≡ 528 → ⊥) → create_tested ≡ Err BadRoom
    unfolding answered lowest
    bad_room d = sym by_rest ∙ rw (ne_eqb (length bytes) 528 d)

    module _ (q : length bytes ≡ 528) where
      pub no_block : lowest_from t.n img 0 ≡ None → create_tested ≡ Err NoSpace
      unfolding answered lowest lowest_free
      no_block f =
          let h = told_none t.n img f in
          sym by_rest ∙ rw (eq-eqb (length bytes) 528 q, opened.its_n, le-ltb _ _ h, le-leb _ _ h)

      pub no_place : (o : Option BlockNum) → o ≡ lowest_from t.n img 0 → (r : Report) → ok_or o NoSpace ≡ Err r
          → create_tested ≡ Err r
      no_place None p r e = let q : NoSpace ≡ r = cc e in no_block (sym p) ∙ ap (λ (x : Report). Err x) q
      no_place (Some b) p r e = absurd (apart cc)

      module _ (b : BlockNum) (f : lowest_from t.n img 0 ≡ Some b) where
        its_b : lowest_free img ≡ b.0
        unfolding lowest_free
        its_b = rw opened.its_n (told_some t.n img b f).0

        pub place_below : b.0 < t.n
        place_below = (told_some t.n img b f).1

        pub bad_header : good img b.0 ≡ false → create_tested ≡ Err Damaged
        unfolding answered lowest
        bad_header g =
            sym by_rest ∙ rw (eq-eqb (length bytes) 528 q, its_b, opened.its_n, lt-ltb b.0 t.n place_below, g)

        module _ (g : good img b.0 ≡ true) (count : ℕ) (c : count ≡ count_of t.n img client) where
          pub bad_count : t.n ≤ count → create_tested ≡ Err Damaged
          unfolding answered lowest
          bad_count l = sym by_rest
              ∙ rw (
                eq-eqb (length bytes) 528 q,
                its_b,
                opened.its_n,
                lt-ltb b.0 t.n place_below,
                g,
                lt-leb t.n b.0 place_below,
                ← c,
                le-leb t.n count l,
              )

          pub has_place : count < t.n → create_tested ≡ Ok (record { n = t.n; b = b; count = count })
          unfolding answered lowest
          has_place l = sym by_rest
              ∙ rw (
                eq-eqb (length bytes) 528 q,
                its_b,
                opened.its_n,
                lt-ltb b.0 t.n place_below,
                g,
                lt-leb t.n b.0 place_below,
                ← c,
                lt-leb t.n count l,
              )

  -- what is known where none applies
  module _ (p : Place) (e : create_tested ≡ Ok p) where
    told : (succeeds (lowest (create_rows img client expiry bytes time)) ≡ true) × (place_for img client ≡ p)
    told = told_ok (lowest (create_rows img client expiry bytes time)) (place_for img client) p e

    its_n : n_of img ≡ p.n
    its_n = ap (λ (x : Place). x.n) told.1

    pub free_block : Free img client expiry bytes time p
    unfolding changing_rows reading_rows time_rows
    free_block =
        let a = is_admitted img client (time_rows img expiry time ++ rest) (rw create_report_lem at told.0) in
        let t = is_timely img expiry time rest a.1 in
        let r = clear _ _ (omega arith) t.1 in
        let d = clear _ _ (omega arith) r.1 in
        let s = clear _ _ (omega arith) d.1 in
        let k = clear _ [] (omega arith) s.1 in
        let l : lowest_free img < n_of img = leb-false (n_of img) (lowest_free img) s.0 in
        let b : lowest_free img ≡ p.b.0 = ap (λ (x : Place). x.b.0) told.1 in
        let m : count_of (n_of img) img client ≡ p.count = ap (λ (x : Place). x.count) told.1 in
        record {
          laid = (known img p.n (clock_of img) a.0.trailer its_n refl).laid;
          below = omega (arith, l, its_n, b);
          user = a.0.user;
          time_fits = t.0.time_fits;
          expiry_fits = t.0.expiry_fits;
          its_room = eqb-true (length bytes) 528 (not-false _ r.0);
          its_n = its_n;
          its_b = b;
          its_count = m;
          counted = omega (arith, leb-false (n_of img) (count_of (n_of img) img client) k.0, its_n, m);
          bit = rw (its_n, b) at (passes img l);
          report = told.0;
        }

module _ (t : Tariff) (img : List ℕ) (client expiry : ℕ) (bytes : List ℕ) (time : ℕ) (x : Receipt) where
  pub create_refused : (r : Report) → create_tested img client expiry bytes time ≡ Err r → x ≡ refusal t r
      → CreatePromise t img client expiry bytes time (record { receipt = x; id = ident null_id }) img
  unfolding create_answer create_image create_report
  create_refused r e p =
      let w = told_err (lowest (create_rows img client expiry bytes time)) (place_for img client) r e in
      record { answer = rw (w.0, w.1, p); image = rw w.0 }

  pub create_done : (p : Place) → Free img client expiry bytes time p → (expires : ℕ) → expires ≡ later_of time expiry
      → (made : Id) → made ≡ ident (id_of time p.b.0) → x ≡ receipt Success (create_charge t time expires)
      → (img' : List ℕ) → img' ≡ puts img (fill_writes img p.n p.b.0 client made.0 expires (p.count + 1) bytes time)
      → CreatePromise t img client expiry bytes time (record { receipt = x; id = made }) img'
  unfolding create_answer create_image create_report create_writes
  create_done p k expires u made m q img' v =
      record {
        answer = rw (k.report, k.its_b, ← u, q, m);
        image = rw (k.report, k.its_b, k.its_count, k.its_n, ← u, v, m);
      }
