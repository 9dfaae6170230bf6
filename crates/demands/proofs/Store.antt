-- Demand 2 of the seven operations on one block.
-- Assumes nothing.
use Prim.Native.Nat.{ℕ, ◌^◌, ◌≤◌, ◌<◌}
use mathlib.Core.Path.{◌≡◌, refl, sym, ap, ◌∙◌}
use mathlib.Core.Bool.{true, false, not, ◌&&◌, ◌||◌, true≢false}
use mathlib.Core.List.{List}
use mathlib.Core.Logic.{◌⊎◌, inl, inr}
use native.Mathlib.Omega.{arith}
use borrow.Author.Tests.{eqb-true, leb-true, leb-false, ltb-true, lt-ltb, not-false, not-true}
use lib.Dec.{eqb, leb, ltb}
use lib.ListN.{length, length-append}
use Rattle.plain.specs.Tests.{both, neither}
use Rattle.word.specs.Write.{puts}
use Rattle.word.proofs.Laws.{length_part}
use Rattle.kinds.specs.declared.Report.TheVariants.{Success}
use Rattle.ident.specs.Ident.{id_of}
use Rattle.ident.proofs.Laws.{time_back}
use Rattle.tariff.specs.Charges.{T, create_charge, destroy_charge, replace_charge, set_expiry_charge}
use Rattle.tariff.specs.declared.Tariff.{Tariff}
use Rattle.run.specs.Run.{picked}
use Rattle.run.proofs.Laws.{first_passes, first-lowest, picked_few}
use Rattle.run.proofs.Tally.{picked_all, picked_fewer}
use Rattle.promise.specs.Trailer.{n_of, clock_of}
use Rattle.promise.specs.Header.{header_of, owner_of, expires_of, tag_of, is_used, later_of}
use Rattle.promise.specs.Map.{free, good}
use Rattle.promise.specs.Counts.{count_of, owned_by, data_of, service_block}
use Rattle.promise.specs.Sound.{Sound}
use Rattle.promise.specs.Refusals.{lowest, bad_now, bad_expiry}
use Rattle.promise.specs.Lookup.{leads_to, header_for, lookup_damaged, no_such_block, not_owner}
use Rattle.promise.specs.SetExpiry.{set_expiry_rows, set_expiry_writes}
use Rattle.promise.specs.Destroy.{destroy_damaged, destroy_rows, destroy_writes}
use Rattle.promise.specs.Replace.{replace_rows, replace_writes}
use Rattle.promise.specs.Create.{lowest_free, create_damaged, create_rows, create_writes}
use Rattle.promise.specs.Call.{Call, Create, Read, Status, Destroy, Replace, SetExpiry, GetCount, rows_of, outcome}
use Rattle.promise.specs.Read.{read_rows}
use Rattle.promise.specs.GetCount.{get_count_damaged, get_count_rows}
use Rattle.promise.specs.Status.{status_rows}
use Rattle.promise.specs.Layout.{header_at, data_at}
use Rattle.promise.proofs.CountLaws.{owned-picked, owns_fewer}
use Rattle.promise.proofs.RowLaws.{now_fits, expiry_fits, is_later, is_block, is_client}
use Rattle.promise.proofs.TrailerLaws.{right}
use Rattle.manual.specs.Given.{SuccessReport, NoSpaceReport, NoSuchBlockReport, NotOwnerReport}
use Rattle.manual.specs.Sets.{◌∈◌, only, HasSize}
use Rattle.manual.specs.State.{Block, such, dom, ◌⩤◌, φBasicParams}
use Rattle.manual.specs.Reports as R
use R.{◌⊕◌}
use Rattle.manual.specs.Reports as R
use R.{◌⊕◌}
use Rattle.manual.proofs.Maps.{either}
use Rattle.manual.proofs.Sizes.{one_size}
use Rattle.manual.proofs.Scan.{scans}
use Rattle.demands.specs.Stored.{made_id, constants, blocks, stored}
use Rattle.demands.specs.Demand2.{params_of, Obeys}
use Rattle.demands.proofs.Slots.{state_of, test_at, shows}
use Rattle.demands.proofs.Places.{new_ids}
use Rattle.demands.proofs.Ops.{used_bit, found, o-some, moved_block, new_block, stays, set_expiry_does}
use Rattle.demands.proofs.Ops.{destroy-does, replace-does, create-does}
use Rattle.demands.proofs.Obeys.{succeed, obeyed, own, good_trailer, lookup_fine, unchanged, its_block}
use Rattle.demands.proofs.Obeys.{its_there, no_such, not-his, one_block, has_such, is_his, was_put, later_is}
use Rattle.demands.proofs.Obeys.{no_row, test}

-- ---- SetExpiry

module _ (t : Tariff) (img : List ℕ) (d : Sound img) (m : n_of img ≤ 4096) (client id expiry time : ℕ) where
  abbrev c : Call
  c = SetExpiry client id expiry time

  e_obeys : lowest (rows_of c img) ≡ Success → no_such_block img id ≡ false → not_owner img client id ≡ false
      → clock_of img < time → time < 2 ^ 40 → expiry < 2 ^ 40 → Obeys t c img m (outcome t c img)
  unfolding its_block set_expiry_charge T
  e_obeys q f h l k x =
      let i : List ℕ = puts img (set_expiry_writes img id expiry time) in
      let g = found img id f in
      let w = set_expiry_does img d time l k id g expiry x in
      let new : Block = moved_block img id (later_of time expiry) in
      let p = params_of c img SuccessReport in
      succeed t c img d m q w.done refl
      (is_his img d id p (stored (n_of img) i) f h (
        record {
          block = its_block img d id;
          old = its_there img d id f;
          newblock = new;
          owner = refl;
          created = refl;
          expires = later_is time expiry;
          bytes = refl;
          blocks = w.stores;
          newids = new_ids (n_of img) m p img i (omega arith) w.done.clock;
        },
        refl,
      ))
      (λ b b' z.
      rw (
        one_block img d id b (its_block img d id) z.0 (its_there img d id f),
        was_put (blocks (n_of img) img) (blocks (n_of img) i) id new b' w.stores z.1,
      ))
      tt

  pub set_expiry_obeys : Obeys t c img m (outcome t c img)
  unfolding rows_of set_expiry_rows
  set_expiry_obeys =
      obeyed t c img d m
      (test (good_trailer img d) (λ _. test own (λ _. test own (λ w. test own (λ l. test (lookup_fine img d id) (λ _.
      test (no_such img d id (params_of c img NoSuchBlockReport) refl) (λ f.
      test (not-his img d id (params_of c img NotOwnerReport) refl f) (λ h. no_row (λ q.
      let v = neither (bad_now time) (bad_expiry expiry) w in
      e_obeys q f h (is_later img time l) (now_fits time v.0).1 (expiry_fits expiry v.1))))))))))

-- ---- Destroy

module _ (t : Tariff) (img : List ℕ) (d : Sound img) (m : n_of img ≤ 4096) (client id time : ℕ) where
  abbrev x_call : Call
  x_call = Destroy client id time

  abbrev x_count : ℕ
  x_count = count_of (n_of img) img (owner_of (header_for img id))

  x_fine : destroy_damaged img client id ≡ true → ⊥
  unfolding destroy_damaged
  x_fine e = go (either (lookup_damaged img id) _ e)
    where
      go : (lookup_damaged img id ≡ true)
          ⊎ ((not (no_such_block img id) && not (not_owner img client id) && eqb x_count 0) ≡ true) → ⊥
      go (inl w) = lookup_fine img d id w
      go (inr w) =
          let v = both (not (no_such_block img id) && not (not_owner img client id)) (eqb x_count 0) w in
          let f =
          found img id (not-true _ (both (not (no_such_block img id)) (not (not_owner img client id)) v.0).0) in
          omega (
            arith,
            eqb-true x_count 0 v.1,
            o-some (n_of img) img img d refl (leads_to id) f.number f.used refl,
          )

  x_obeys : lowest (rows_of x_call img) ≡ Success → no_such_block img id ≡ false → not_owner img client id ≡ false
      → clock_of img < time → time < 2 ^ 40 → Obeys t x_call img m (outcome t x_call img)
  unfolding its_block destroy_charge T
  x_obeys q f h l k =
      let i : List ℕ = puts img (destroy_writes img id time) in
      let g = found img id f in
      let w = destroy-does img d time l k id g in
      let p = params_of x_call img SuccessReport in
      succeed t x_call img d m q w.done refl
      (is_his img d id p (stored (n_of img) i) f h (
        record {
          block = its_block img d id;
          old = its_there img d id f;
          blocks = w.stores;
          newids = new_ids (n_of img) m p img i (omega arith) w.done.clock;
        },
        refl,
      ))
      (λ b b' z. rw (one_block img d id b (its_block img d id) z (its_there img d id f)))
      tt

  pub destroy_obeys : Obeys t x_call img m (outcome t x_call img)
  unfolding rows_of destroy_rows
  destroy_obeys =
      obeyed t x_call img d m
      (test (good_trailer img d) (λ _. test own (λ _. test own (λ w. test own (λ l. test x_fine (λ _.
      test (no_such img d id (params_of x_call img NoSuchBlockReport) refl) (λ f.
      test (not-his img d id (params_of x_call img NotOwnerReport) refl f) (λ h. no_row (λ q.
      x_obeys q f h (is_later img time l) (now_fits time w).1)))))))))

-- ---- Replace

-- an id made now is new
new_id : (img : List ℕ) (n time b : ℕ) → n ≤ 4096 → clock_of img < time → time < 2 ^ 40 → b < n
    → id_of time b ∈ (stored n img).newids
new_id img n time b k l u h =
    rw (
      made_id n time b (omega arith) u (omega arith) h,
      time_back time b u (omega arith),
      lt-ltb (clock_of img) time l,
    )

module _ (t : Tariff) (img : List ℕ) (d : Sound img) (m : n_of img ≤ 4096) (client id : ℕ) (bytes : List ℕ)
    (time : ℕ) where
  abbrev r_call : Call
  r_call = Replace client id bytes time

  r_obeys : lowest (rows_of r_call img) ≡ Success → no_such_block img id ≡ false → not_owner img client id ≡ false
      → clock_of img < time → time < 2 ^ 40 → length bytes ≡ 528 → Obeys t r_call img m (outcome t r_call img)
  unfolding not_owner its_block replace_charge T
  r_obeys q f h l k x =
      let i : List ℕ = puts img (replace_writes img client id bytes time) in
      let g = found img id f in
      let o = eqb-true _ _ (not-false _ h) in
      let w = replace-does img d time l k id g client o bytes x in
      let p = params_of r_call img SuccessReport in
      let new : Block = new_block client time (expires_of (header_for img id)) bytes in
      succeed t r_call img d m q w.done refl
      (is_his img d id p (stored (n_of img) i) f h (
        record {
          block = its_block img d id;
          old = its_there img d id f;
          newblock = new;
          new = record {
            owner = refl;
            created = refl;
            new = new_id img (n_of img) time (leads_to id) m l k g.number;
            made = time_back time (leads_to id) k (omega (arith, g.number));
          };
          expires = refl;
          bytes = refl;
          blocks = w.stores;
          newids = new_ids (n_of img) m p img i (omega arith) w.done.clock;
        },
        refl,
      ))
      (λ b b' z.
      rw (
        one_block img d id b (its_block img d id) z.0 (its_there img d id f),
        was_put (only id ⩤ blocks (n_of img) img) (blocks (n_of img) i) (id_of time (leads_to id)) new b' w.stores
            z.1,
      ))
      refl

  pub replace_obeys : Obeys t r_call img m (outcome t r_call img)
  unfolding rows_of replace_rows
  replace_obeys =
      obeyed t r_call img d m
      (test (good_trailer img d) (λ _. test own (λ _. test own (λ w. test own (λ l. test own (λ x.
      test (lookup_fine img d id) (λ _.
      test (no_such img d id (params_of r_call img NoSuchBlockReport) refl) (λ f.
      test (not-his img d id (params_of r_call img NotOwnerReport) refl f) (λ h. no_row (λ q.
      r_obeys q f h (is_later img time l) (now_fits time w).1 (is_block bytes x)))))))))))

-- ---- Create

module _ (img : List ℕ) (d : Sound img) (m : n_of img ≤ 4096) where
  abbrev n : ℕ
  n = n_of img

  -- the blocks are as many as the used headers
  as_many : HasSize (dom (blocks n img)) (length (picked (test_at n img (λ b. true)) 0 n))
  as_many = (scans (constants n m)).size (shows img d m (λ b. true))

  -- no free bit: all are used, and #blocks = MaxBlocks
  all-used : n ≤ lowest_free img → (b : ℕ) → b < n → is_used (header_of img b) ≡ true
  unfolding lowest_free
  all-used h b l = used_bit img d b l ∙ ap not (first-lowest (free n img) 0 n b (omega arith) (omega arith))

  is_full : leb (n_of img) (lowest_free img) ≡ true → HasSize (dom (blocks (n_of img) img)) (n_of img)
  is_full e =
      let l = leb-true n (lowest_free img) e in
      rw (picked_all (test_at n img (λ b. true)) 0 n (λ b p u. rw (all-used l b (omega arith)))) at as_many

  no_space_lem : {A : Type 0} (p : φBasicParams) → p.report! ≡ NoSpaceReport → leb (n_of img) (lowest_free img) ≡ true
      → A ⊕ R.NoSpace (constants (n_of img) m) p (state_of img) (state_of img)
  no_space_lem p r e = inl (is_full e, record { same = unchanged (state_of img); report! = r })

  not_full : leb (n_of img) (lowest_free img) ≡ false → HasSize (dom (blocks (n_of img) img)) (n_of img) → ⊥
  unfolding lowest_free
  not_full e h =
      let l = leb-false n (lowest_free img) e in
      let f = first_passes (free n img) 0 n (omega arith) in
      let z = picked_fewer (test_at n img (λ b. true)) (lowest_free img) n (omega arith)
      (rw (used_bit img d (lowest_free img) (omega arith) ∙ ap not f)) in
      omega (arith, one_size (λ x. refl) h as_many)

  -- a client has not all blocks where one is free
  may_create : (client : ℕ) → client < 64 → create_damaged img client ≡ true → ⊥
  unfolding create_damaged lowest_free owned_by
  may_create client u e =
      let w = both (ltb (lowest_free img) n) (not (good img (lowest_free img)) || leb n (count_of n img client)) e in
      let l = ltb-true (lowest_free img) n w.0 in
      let f = first_passes (free n img) 0 n (omega arith) in
      go l f (either (not (good img (lowest_free img))) (leb n (count_of n img client)) w.1)
    where
      go : lowest_free img < n → free n img (lowest_free img) ≡ true → (not (good img (lowest_free img)) ≡ true)
          ⊎ (leb n (count_of n img client) ≡ true) → ⊥
      go l f (inl e) = true≢false (sym (d.headers (lowest_free img) l) ∙ not-true (good img (lowest_free img)) e)
      go l f (inr e) =
          omega (
            arith,
            leb-true n (count_of n img client) e,
            d.counts client u,
            owns_fewer n img client (lowest_free img) l (rw (used_bit img d (lowest_free img) l ∙ ap not f)),
          )

module _ (t : Tariff) (img : List ℕ) (d : Sound img) (m : n_of img ≤ 4096) (client expiry : ℕ) (bytes : List ℕ)
    (time : ℕ) where
  abbrev n_call : Call
  n_call = Create client expiry bytes time

  n_obeys : lowest (rows_of n_call img) ≡ Success → client < 64 → leb (n_of img) (lowest_free img) ≡ false
      → clock_of img < time → time < 2 ^ 40 → expiry < 2 ^ 40 → length bytes ≡ 528
      → Obeys t n_call img m (outcome t n_call img)
  unfolding create_charge T
  n_obeys q u h l k v x =
      let i : List ℕ = puts img (create_writes img client expiry bytes time) in
      let a : lowest_free img < n_of img = omega (arith, leb-false (n_of img) (lowest_free img) h) in
      let w = create-does img d time l k client expiry bytes u v x a in
      let p = params_of n_call img SuccessReport in
      let new : Block = new_block client time (later_of time expiry) bytes in
      succeed t n_call img d m q w.done refl
      (inr (
        not_full img d m h,
        (
          record {
            newblock = new;
            new = record {
              owner = refl;
              created = refl;
              new = new_id img (n_of img) time (lowest_free img) m l k a;
              made = time_back time (lowest_free img) k (omega arith);
            };
            expires = later_is time expiry;
            bytes = refl;
            blocks = w.stores;
            newids = new_ids (n_of img) m p img i (omega arith) w.done.clock;
          },
          refl,
        ),
      ))
      (λ b b' z.
      rw (was_put (blocks (n_of img) img) (blocks (n_of img) i) (id_of time (lowest_free img)) new b' w.stores z))
      refl

  pub create_obeys : Obeys t n_call img m (outcome t n_call img)
  unfolding rows_of create_rows
  create_obeys =
      obeyed t n_call img d m
      (test (good_trailer img d) (λ _. test own (λ u. test own (λ w. test own (λ l. test own (λ x.
      test (may_create img d m client (is_client client u)) (λ _.
      test (no_space_lem img d m (params_of n_call img NoSpaceReport) refl) (λ h. no_row (λ q.
      let v = neither (bad_now time) (bad_expiry expiry) w in
      n_obeys q (is_client client u) h (is_later img time l) (now_fits time v.0).1 (expiry_fits expiry v.1)
      (is_block bytes x))))))))))

-- ---- Read

block-length : (img : List ℕ) → Sound img → (i : ℕ) → i < n_of img → length (service_block (n_of img) img i) ≡ 528
unfolding header_of data_of
block-length img d i l =
    let e = (right img d.trailer).size in
    let h = length_part img (header_at i) 64 (omega arith) in
    let k = length_part (header_of img i) 32 16 (omega arith) in
    length-append (tag_of (header_of img i)) (data_of (n_of img) img i)
    ∙ omega (arith, k, length_part img (data_at (n_of img) i) 512 (omega arith))

module _ (t : Tariff) (img : List ℕ) (d : Sound img) (m : n_of img ≤ 4096) (client id : ℕ) (buffer : List ℕ) where
  abbrev g_call : Call
  g_call = Read client id buffer

  pub read_obeys : Obeys t g_call img m (outcome t g_call img)
  unfolding rows_of read_rows its_block
  read_obeys =
      obeyed t g_call img d m
      (test (good_trailer img d) (λ _. test own (λ _. test own (λ b. test (lookup_fine img d id) (λ _.
      test (no_such img d id (params_of g_call img NoSuchBlockReport) refl) (λ f. no_row (λ q.
      succeed t g_call img d m q (stays img d)
      (block-length img d (leads_to id) (found img id f).number ∙ sym (is_block buffer b))
      (has_such img d id (params_of g_call img SuccessReport) (state_of img) f (
        record {
          block = its_block img d id;
          old = its_there img d id f;
          bytes = refl;
          same = unchanged (state_of img);
        },
        refl,
      ))
      (λ b b' z. refl) tt)))))))

-- ---- Status

module _ (t : Tariff) (img : List ℕ) (d : Sound img) (m : n_of img ≤ 4096) (client id : ℕ) where
  abbrev s_call : Call
  s_call = Status client id

  pub status_obeys : Obeys t s_call img m (outcome t s_call img)
  unfolding rows_of status_rows its_block
  status_obeys =
      obeyed t s_call img d m
      (test (good_trailer img d) (λ _. test own (λ _. test (lookup_fine img d id) (λ _.
      test (no_such img d id (params_of s_call img NoSuchBlockReport) refl) (λ f. no_row (λ q.
      succeed t s_call img d m q (stays img d) refl
      (has_such img d id (params_of s_call img SuccessReport) (state_of img) f (
        record {
          block = its_block img d id;
          old = its_there img d id f;
          owner = refl;
          created = refl;
          expires = refl;
          same = unchanged (state_of img);
        },
        refl,
      ))
      (λ b b' z. refl) tt))))))

-- ---- GetCount

-- a client's count is the number of its blocks
count_size : (img : List ℕ) → Sound img → n_of img ≤ 4096 → (client : ℕ) → client < 64
    → HasSize (such (λ b. eqb b.owner client) (blocks (n_of img) img)) (count_of (n_of img) img client)
unfolding owned_by
count_size img d m client u =
    let e : count_of (n_of img) img client ≡ length (picked (owned_by img client) 0 (n_of img)) =
    d.counts client u ∙ owned-picked (n_of img) img client in
    rw e ((scans (constants (n_of img) m)).size (shows img d m (λ b. eqb b.owner client)))

module _ (t : Tariff) (img : List ℕ) (d : Sound img) (m : n_of img ≤ 4096) (client : ℕ) where
  abbrev k_call : Call
  k_call = GetCount client

  c_fine : client < 64 → get_count_damaged img client ≡ true → ⊥
  c_fine u e =
      omega (
        arith,
        ltb-true (n_of img) (count_of (n_of img) img client) e,
        d.counts client u,
        owned-picked (n_of img) img client,
        picked_few (owned_by img client) 0 (n_of img),
      )

  pub get_count_obeys : Obeys t k_call img m (outcome t k_call img)
  unfolding rows_of get_count_rows
  get_count_obeys =
      obeyed t k_call img d m
      (test (good_trailer img d) (λ _. test own (λ u. test (c_fine (is_client client u)) (λ _. no_row (λ q.
      succeed t k_call img d m q (stays img d) refl
      (record { count = count_size img d m client (is_client client u); same = unchanged (state_of img) }, refl)
      (λ b b' z. refl) tt)))))
