-- Demand 2 of GetIds, Scavenge and Profile.
-- Assumes nothing.
use Prim.Native.Nat.{ℕ, ◌+◌, ◌*◌, ◌^◌, ◌≤◌, ◌<◌}
use mathlib.Core.Path.{◌≡◌, refl, sym, ap, ap₂, ◌∙◌}
use mathlib.Core.Bool.{Bool, true, false, not, ◌&&◌, true≢false, and-true}
use mathlib.Core.List.{List, [], ◌∷◌, map}
use mathlib.Core.Logic.{◌⊎◌, inl, inr}
use mathlib.Core.Option.{some}
use native.Mathlib.Omega.{arith}
use borrow.Author.Tests.{eqb-true, eqb-false, leb-true, leb-false, le-leb, not-false, not-true, ltb-false}
use lib.Dec.{eqb, leb, ltb}
use lib.ListN.{length, length-map}
use Rattle.plain.specs.Tests.{both}
use Rattle.word.specs.Write.{over}
use Rattle.word.specs.Word.{bytes_of}
use Rattle.word.proofs.Laws.{length-bytes_of, length_over}
use Rattle.kinds.specs.declared.Report.TheVariants.{Success, NotManager, BadKey}
use Rattle.ident.proofs.Laws.{id_below}
use Rattle.tariff.specs.declared.Tariff.{Tariff}
use Rattle.run.specs.Run.{picked, all_of, rows, Every}
use Rattle.run.proofs.Laws.{picked-le, picked_few, each_all, every_picked}
use Rattle.run.proofs.Turns.{length-rows}
use Rattle.run.proofs.Tally.{picked_same, picked_mono, picked-part}
use Rattle.promise.specs.Trailer.{n_of, clock_of}
use Rattle.promise.specs.Header.{header_of, owner_of, created_of, expires_of, is_used}
use Rattle.promise.specs.Map.{good}
use Rattle.promise.specs.Counts.{count_of, owned_by}
use Rattle.promise.specs.Sound.{Sound}
use Rattle.promise.specs.Refusals.{row, lowest, not_manager, bad_key}
use Rattle.promise.specs.Call.{Call, GetIds, Scavenge, Profile, rows_of, outcome}
use Rattle.promise.specs.Keys.{visited_good, reach}
use Rattle.promise.specs.GetIds.{ids_visited, ids_named, id_row, get_ids_rows}
use Rattle.promise.specs.Scavenge.{gone, gone_of, scavenge_damaged, scavenged, scavenge_rows, expired}
use Rattle.promise.specs.Profile.{profiled, profile_row, profile_rows}
use Rattle.promise.proofs.TrailerLaws.{right}
use Rattle.promise.proofs.CountLaws.{owned-picked}
use Rattle.promise.proofs.RowLaws.{now_fits, is_later, count_fits}
use Rattle.promise.proofs.KeyLaws.{ids_move}
use Rattle.manual.specs.Given.{SuccessReport, BadKeyReport, NotManagerReport}
use Rattle.manual.specs.Manager.{info_of}
use Rattle.manual.specs.State.{SS, φBasicParams}
use Rattle.manual.specs.Reports as R
use R.{◌⊕◌}
use Rattle.manual.proofs.Maps.{either}
use Rattle.manual.proofs.Scan.{scans}
use Rattle.demands.specs.Stored.{constants, blocks, stored}
use Rattle.demands.specs.Demand2.{ids_in, infos_in, info_at, params_of, Obeys}
use Rattle.demands.proofs.Slots.{state_of, test_at, id_at, stands_at, shows}
use Rattle.demands.proofs.Places.{its_own, new_ids}
use Rattle.demands.proofs.Obeys.{succeed, obeyed, own, good_trailer, unchanged, no_row, test}
use Rattle.demands.proofs.Buffers.{key_in_lem, ids_in_lem, from_start, rest_kept, Entry, infos_in_lem}
use Rattle.demands.proofs.Ops.{stays}
use Rattle.demands.proofs.Sweep.{scavenge_does}

-- all visited headers of a sound image are good
pub all-good : (img : List ℕ) → Sound img → (key visited : ℕ) → key + visited ≤ n_of img
    → visited_good img key visited ≡ true
all-good img d key visited h = each_all (good img) key visited (λ b l u. d.headers b (omega arith))

-- BadKey: EndKey ≤ key?
bad_key_lem : {A : Type 0} (img : List ℕ) (m : n_of img ≤ 4096) (p : φBasicParams) (key : ℕ) → p.report! ≡ BadKeyReport
    → leb (n_of img) key ≡ true
    → A ⊕ R.BadKey (constants (n_of img) m) p (state_of img) (state_of img) key
bad_key_lem img m p key r e = inl (leb-true (n_of img) key e, record { same = unchanged (state_of img); report! = r })

-- an id that stands in a header is of 64 bits
id_fits : (img : List ℕ) → Sound img → (b : ℕ) → b < n_of img → is_used (header_of img b) ≡ true → id_at img b < 2 ^ 64
id_fits img d b l u =
    let z = stands_at img d b l u in
    rw z.facts.id
    (id_below (created_of (header_of img b)) b (omega (arith, z.facts.past, (right img d.trailer).clock))
    (omega (arith, (right img d.trailer).number.most)))

-- ---- GetIds

module _ (t : Tariff) (img : List ℕ) (d : Sound img) (m : n_of img ≤ 4096) (client key count : ℕ) (ids : List ℕ) where
  abbrev g_call : Call
  g_call = GetIds client key count ids

  abbrev test' : ℕ → Bool
  test' = owned_by img client

  abbrev visited : ℕ
  visited = ids_visited img client key count

  abbrev named : List ℕ
  named = ids_named img client key count

  g-rows : key + visited ≤ n_of img → Every (λ b. (id_row img b ≡ bytes_of 8 (id_at img b)) × (id_at img b < 2 ^ 64))
      named
  unfolding ids_named id_row owned_by
  g-rows h =
      every_picked test' _ key visited
      (λ b l u e. (
        refl,
        id_fits img d b (omega arith) (both (is_used (header_of img b)) (eqb (owner_of (header_of img b)) client) e).0,
      ))

  g-length : length (rows (id_row img) named) ≡ 8 * length named
  unfolding id_row
  g-length = length-rows test' (id_row img) 8 (λ b. length-bytes_of 8 _) named

  g_few : length named ≤ count
  unfolding ids_named ids_visited
  g_few = picked-le test' (reach img key) count key

  g_obeys : lowest (rows_of g_call img) ≡ Success → key < n_of img → 0 < count → 8 * count ≤ length ids
      → Obeys t g_call img m (outcome t g_call img)
  unfolding owned_by ids_visited ids_named
  g_obeys q l k r =
      let p : φBasicParams = params_of g_call img SuccessReport in
      let h = (ids_move img client key count l k).1 in
      let told : ids_in (length named) (over ids 0 (rows (id_row img) named)) ≡ map (id_at img) named =
      rw from_start (ids_in_lem (id_at img) (id_row img) named _ (g-rows h)) in
      succeed t g_call img d m q (stays img d)
      (length_over ids 0 (rows (id_row img) named) (omega (arith, g-length, g_few)))
      (rw (key_in_lem (n_of img) (key + visited) m h, told)
      ((scans (constants (n_of img) m)).get_ids {p = p} {s = state_of img} {s' = state_of img}
      (shows img d m (λ b. eqb b.owner client)) key count l k refl (unchanged (state_of img))))
      (λ b b' z. refl) (refl, told, rest_kept ids _ _ g-length)

  pub get_ids_obeys : Obeys t g_call img m (outcome t g_call img)
  unfolding rows_of get_ids_rows
  get_ids_obeys =
      obeyed t g_call img d m
      (test (good_trailer img d)
      (λ _. test own (λ _. test (bad_key_lem img m (params_of g_call img BadKeyReport) key refl) (λ k.
      test own (λ c. test own (λ r.
      let l : key < n_of img = omega (arith, leb-false (n_of img) key k) in
      let n = (count_fits count c).0 in
      test (λ e. true≢false (sym (all-good img d key visited (ids_move img client key count l n).1) ∙ not-true _ e))
      (λ _. no_row (λ q.
      g_obeys q l n (ltb-false (length ids) (8 * count) r)))))))))

-- ---- Scavenge

-- NotManager: clientnum ≠ Manager
not_manager_lem : {A : Type 0} (img : List ℕ) (m : n_of img ≤ 4096) (p : φBasicParams) → p.report! ≡ NotManagerReport
    → not (eqb p.clientnum 0) ≡ true
    → A ⊕ R.NotManager (constants (n_of img) m) p (state_of img) (state_of img)
not_manager_lem img m p r e =
    inl (
      eqb-false p.clientnum 0 (not-true (eqb p.clientnum 0) e),
      record { same = unchanged (state_of img); report! = r },
    )

is_manager : {A : Type 0} (img : List ℕ) (m : n_of img ≤ 4096) (p : φBasicParams) (s' : SS)
    → not (eqb p.clientnum 0) ≡ false → A
    → A ⊕ R.NotManager (constants (n_of img) m) p (state_of img) s'
is_manager img m p s' e a = inr (λ z. z (eqb-true p.clientnum 0 (not-false (eqb p.clientnum 0) e)), a)

-- the manager's bad key
manager_key : {A : Type 0} (img : List ℕ) (m : n_of img ≤ 4096) (p : φBasicParams) (key : ℕ) → p.report! ≡ BadKeyReport
    → not (eqb p.clientnum 0) ≡ false → leb (n_of img) key ≡ true
    → A ⊕ R.BadKey (constants (n_of img) m) p (state_of img) (state_of img) key
    ⊕ R.NotManager (constants (n_of img) m) p (state_of img) (state_of img)
manager_key img m p key r b e = is_manager img m p (state_of img) b (bad_key_lem img m p key r e)

module _ (t : Tariff) (img : List ℕ) (d : Sound img) (m : n_of img ≤ 4096) (client key time : ℕ) where
  abbrev v_call : Call
  v_call = Scavenge client key time

  -- an owner loses no more blocks than he has
  v_few : key < n_of img → (u : ℕ) → u < 64 → gone_of img key time u ≤ count_of (n_of img) img u
  unfolding gone_of expired owned_by
  v_few l u h =
      omega (
        arith,
        d.counts u h,
        owned-picked (n_of img) img u,
        picked_mono (λ b. expired img time b && eqb (owner_of (header_of img b)) u) (owned_by img u) key (reach img key)
            (λ x e. his x e),
        picked-part (owned_by img u) key (reach img key) (n_of img) (omega arith),
      )
    where
      his : (x : ℕ) → (expired img time x && eqb (owner_of (header_of img x)) u) ≡ true → owned_by img u x ≡ true
      his x e =
          let w = both (expired img time x) (eqb (owner_of (header_of img x)) u) e in
          let v = both (is_used (header_of img x)) (ltb (expires_of (header_of img x)) time) w.0 in
          rw (v.0, w.1)

  abbrev may_lose : ℕ → Bool
  may_lose u = leb (gone_of img key time u) (count_of (n_of img) img u)

  v_fine : key < n_of img → scavenge_damaged img key time ≡ true → ⊥
  unfolding scavenge_damaged
  v_fine l e = go (either (not (visited_good img key (reach img key))) (not (all_of may_lose 0 64)) e)
    where
      go : (not (visited_good img key (reach img key)) ≡ true) ⊎ (not (all_of may_lose 0 64) ≡ true) → ⊥
      go (inl w) = true≢false (sym (all-good img d key (reach img key) (omega arith)) ∙ not-true _ w)
      go (inr w) =
          let z = each_all may_lose 0 64 (λ u p h. le-leb (gone_of img key time u) _ (v_few l u (omega arith))) in
          true≢false (sym z ∙ not-true _ w)

  v_obeys : lowest (rows_of v_call img) ≡ Success → not (eqb client 0) ≡ false → key < n_of img → clock_of img < time
      → time < 2 ^ 40
      → Obeys t v_call img m (outcome t v_call img)
  unfolding gone expired
  v_obeys q b l k u =
      let i : List ℕ = scavenged img key time in
      let w = scavenge_does img d key time l k u in
      let p = params_of v_call img SuccessReport in
      let c : length (gone img key time) ≡ length (map (id_at img) (gone img key time)) = rw length-map in
      succeed t v_call img d m q w.done refl
      (rw (key_in_lem (n_of img) (key + reach img key) m (omega arith), c)
      ((scans (constants (n_of img) m)).scavenge {p = p} {s = state_of img} {s' = stored (n_of img) i}
      (shows img d m (λ b. ltb b.expires time)) key l (eqb-true client 0 (not-false (eqb client 0) b)) refl
      w.stores
      (new_ids (n_of img) m p img i (omega arith) w.done.clock)))
      (λ b b' z. refl) refl

  pub scavenge_obeys : Obeys t v_call img m (outcome t v_call img)
  unfolding rows_of scavenge_rows
  scavenge_obeys =
      obeyed t v_call img d m
      (test (good_trailer img d) (λ _. test own (λ _. test own (λ w. test own (λ l.
      test (not_manager_lem img m (params_of v_call img NotManagerReport) refl) (λ b.
      test (manager_key img m (params_of v_call img BadKeyReport) key refl b) (λ k.
      let h : key < n_of img = omega (arith, leb-false (n_of img) key k) in
      test (v_fine h) (λ _. no_row (λ q. v_obeys q b h (is_later img time l) (now_fits time w).1)))))))))

-- ---- Profile

-- the information of used blocks, by their numbers and by their ids
infos_same : (img : List ℕ) → Sound img → (bs : List ℕ)
    → Every (λ b. (b < n_of img) × (is_used (header_of img b) ≡ true)) bs
    → map some (map (info_at img) bs) ≡ map (λ x. info_of (blocks (n_of img) img x)) (map (id_at img) bs)
infos_same img d [] e = refl
infos_same img d (b ∷ bs) e =
    ap₂ ◌∷◌ (sym (ap info_of (its_own img d b e.0.0 e.0.1))) (infos_same img d bs e.1)

module _ (t : Tariff) (img : List ℕ) (d : Sound img) (m : n_of img ≤ 4096) (client key : ℕ) (buffer : List ℕ) where
  abbrev f_call : Call
  f_call = Profile client key buffer

  abbrev told : List ℕ
  told = profiled img key

  f-used : key < n_of img → Every (λ b. (b < n_of img) × (is_used (header_of img b) ≡ true)) told
  unfolding profiled
  f-used l = every_picked (λ b. is_used (header_of img b)) _ key (reach img key) (λ b p u e. (omega arith, e))

  f-rows : key < n_of img → Every (Entry (info_at img) (profile_row img)) told
  unfolding profiled profile_row
  f-rows l =
      every_picked (λ b. is_used (header_of img b)) _ key (reach img key)
      (λ b p u e. let z = (stands_at img d b (omega arith) e).facts in
      record {
        written = refl;
        owner = omega (arith, z.owner);
        created = omega (arith, z.past, (right img d.trailer).clock);
        expires = omega (arith, z.in_time);
      })

  -- what dom's test picks is what Profile does
  f-picked : picked (test_at (n_of img) img (λ b. true)) key (reach img key) ≡ profiled img key
  unfolding profiled
  f-picked = picked_same _ _ key (reach img key) (λ b p u. and-true (is_used (header_of img b)))

  f-length : length (rows (profile_row img) told) ≡ 24 * length told
  unfolding profile_row bytes_of
  f-length = length-rows (λ b. true) (profile_row img) 24 (λ b. refl) told

  f_few : length told ≤ 64
  unfolding profiled
  f_few = omega (arith, picked_few (λ b. is_used (header_of img b)) key (reach img key))

  f_obeys : lowest (rows_of f_call img) ≡ Success → not (eqb client 0) ≡ false → key < n_of img → 1536 ≤ length buffer
      → Obeys t f_call img m (outcome t f_call img)
  f_obeys q b l r =
      let infos : infos_in (length told) (over buffer 0 (rows (profile_row img) told)) ≡ map (info_at img) told =
      rw from_start (infos_in_lem (info_at img) (profile_row img) told _ (f-rows l)) in
      succeed t f_call img d m q (stays img d)
      (length_over buffer 0 (rows (profile_row img) told) (omega (arith, f-length, f_few)))
      (rw (key_in_lem (n_of img) (key + reach img key) m (omega arith), infos) (
        _,
        (scans (constants
            (n_of img) m)).profile {p = params_of f_call img SuccessReport} {s = state_of img} {s' = state_of img}
            (shows img d m (λ b. true)) (omega arith) key l (eqb-true client 0 (not-false (eqb client 0) b)) refl
            (unchanged (state_of img))
            (map (info_at img) told) (rw f-picked (infos_same img d told (f-used l))),
      ))
      (λ b b' z. refl) (refl, infos, rest_kept buffer _ _ f-length)

  pub profile_obeys : Obeys t f_call img m (outcome t f_call img)
  unfolding rows_of profile_rows
  profile_obeys =
      obeyed t f_call img d m
      (test (good_trailer img d) (λ _. test own (λ _.
      test {w = row (not_manager client) NotManager}
      (λ e. ([], not_manager_lem img m (params_of f_call img NotManagerReport) refl e)) (λ b.
      test {w = row (bad_key img key) BadKey}
      (λ e. ([], manager_key img m (params_of f_call img BadKeyReport) key refl b e)) (λ k.
      let h : key < n_of img = omega (arith, leb-false (n_of img) key k) in
      test own (λ r.
      test (λ e. true≢false (sym (all-good img d key (reach img key) (omega arith)) ∙ not-true _ e)) (λ _. no_row (λ q.
      f_obeys q b h (ltb-false (length buffer) 1536 r)))))))))
