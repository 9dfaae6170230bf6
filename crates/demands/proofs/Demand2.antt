-- The proof of Demand 2: its ten operations, and what a sound image is to PRG-62.
-- Assumes nothing.
use Prim.Native.Nat.{ℕ, ◌≤◌, ◌<◌}
use mathlib.Core.Path.{◌≡◌, refl, sym, ap, ◌∙◌}
use mathlib.Core.Bool.{true, false, ◌&&◌, true≢false}
use mathlib.Core.List.{List, [], ◌∷◌}
use mathlib.Core.Logic.{◌⊎◌, inl, inr}
use mathlib.Core.Option.{none}
use native.Mathlib.Decide.{ℕ_discrete}
use native.Mathlib.Omega.{arith}
use borrow.Author.Tests.{lt-ltb, ltb-true, ne_eqb}
use lib.Dec.{ltb}
use lib.ListN.{length}
use Rattle.plain.specs.Numbers.{lt_or_le}
use Rattle.plain.specs.Tests.{decide, both}
use Rattle.word.proofs.Laws.{all_zero-blank}
use Rattle.ident.specs.Ident.{null_id, unround_of, unrounds, undone, time_of, shaped_in}
use Rattle.tariff.specs.declared.Tariff.{Tariff}
use Rattle.run.specs.Run.{picked}
use Rattle.run.proofs.Laws.{picked_few}
use Rattle.promise.specs.Layout.{number_right}
use Rattle.promise.specs.Trailer.{n_of, clock_of}
use Rattle.promise.specs.Header.{header_of, is_used}
use Rattle.promise.specs.Format.{fresh_image}
use Rattle.promise.specs.Lookup.{leads_to}
use Rattle.promise.specs.Sound.{Sound}
use Rattle.promise.specs.Call.{Call, Create, Read, Status, Destroy, Replace, SetExpiry, GetIds, GetCount, Scavenge}
use Rattle.promise.specs.Call.{Profile, outcome}
use Rattle.promise.proofs.HeaderLaws.{zero-unused}
use Rattle.promise.proofs.FreshLaws.{fresh_sound, fresh_header, fresh-ends}
use Rattle.manual.specs.Sets.{◌∈◌, only, ◌∖◌, ◌≈◌}
use Rattle.manual.specs.State.{dom, SS, Invariant}
use Rattle.manual.proofs.Maps.{out_of, either}
use Rattle.manual.proofs.Scan.{scans}
use Rattle.demands.specs.Stored.{is_id, id_made, constants, blocks}
use Rattle.demands.specs.Service.{Service, Priced, after}
use Rattle.demands.specs.Demand2.{Obeys, Demand2, States}
use Rattle.demands.proofs.Slots.{state_of, holds-far, test_at, most, stands_at, shows}
use Rattle.demands.proofs.Places.{not-held, not-used}
use Rattle.demands.proofs.Store.{set_expiry_obeys, destroy_obeys, replace_obeys, create_obeys, read_obeys}
use Rattle.demands.proofs.Store.{status_obeys, get_count_obeys}
use Rattle.demands.proofs.Keyed.{get_ids_obeys, scavenge_obeys, profile_obeys}

pub obeys : (t : Tariff) (c : Call) (img : List ℕ) → Sound img → (m : n_of img ≤ 4096)
    → Obeys t c img m (outcome t c img)
obeys t (Create client expiry bytes time) img d m = create_obeys t img d m client expiry bytes time
obeys t (Read client id buffer) img d m = read_obeys t img d m client id buffer
obeys t (Status client id) img d m = status_obeys t img d m client id
obeys t (Destroy client id time) img d m = destroy_obeys t img d m client id time
obeys t (Replace client id bytes time) img d m = replace_obeys t img d m client id bytes time
obeys t (SetExpiry client id expiry time) img d m = set_expiry_obeys t img d m client id expiry time
obeys t (GetIds client key count ids) img d m = get_ids_obeys t img d m client key count ids
obeys t (GetCount client) img d m = get_count_obeys t img d m client
obeys t (Scavenge client key time) img d m = scavenge_obeys t img d m client key time
obeys t (Profile client key buffer) img d m = profile_obeys t img d m client key buffer

-- NullId is not shaped: its time is 0
null_not_id : (n : ℕ) → is_id n 0 ≡ false
unfolding is_id shaped_in undone unrounds unround_of
null_not_id n = refl

module _ (img : List ℕ) (d : Sound img) (m : n_of img ≤ 4096) where
  abbrev s : SS
  s = state_of img

  -- a stored id is one of BlockId, and its time is not above the clock
  stored_id : (x : ℕ) → x ∈ dom s.blocks → is_id (n_of img) x ≡ true
  stored_id x e = ((shows img d m (λ b. true)).stands x e).0

  stored-old : (x : ℕ) → x ∈ dom s.blocks → time_of (undone x) ≤ clock_of img
  stored-old x e =
      let z = (shows img d m (λ b. true)).stands x e in
      let u = (both (is_used (header_of img (leads_to x))) true z.1).0 in
      let w = stands_at img d (leads_to x) ((constants (n_of img) m).numbered x z.0) u in
      let t : time_of (undone x) ≡ _ = ap (λ (y : ℕ). time_of (undone y)) (sym z.2) ∙ w.dated in
      omega (arith, t, w.facts.past)

  invariant : Invariant (constants (n_of img) m) s
  invariant =
      record {
        ids = λ x e. in_ids x (either (dom s.blocks x) (s.newids x) e);
        few = (
          length (picked (test_at (n_of img) img (λ b. true)) 0 (n_of img)),
          (scans (constants (n_of img) m)).size (shows img d m (λ b. true)),
          picked_few (test_at (n_of img) img (λ b. true)) 0 (n_of img),
        );
        fresh = λ x e. out_of (dom s.blocks x) (λ z.
            let w = both (is_id (n_of img) x) (ltb (clock_of img) (time_of (undone x))) e in
            omega (arith, stored-old x z, ltb-true (clock_of img) (time_of (undone x)) w.1));
        null =
            out_of _
            (λ e. true≢false (sym (in_ids 0 (either (dom s.blocks 0) (s.newids 0) e)) ∙ null_not_id (n_of img)));
      }
    where
      in_ids : (x : ℕ) → (x ∈ dom s.blocks) ⊎ (x ∈ s.newids) → is_id (n_of img) x ≡ true
      in_ids x (inl e) = stored_id x e
      in_ids x (inr e) = (both (is_id (n_of img) x) (ltb (clock_of img) (time_of (undone x))) e).0

fresh-none : (n : ℕ) → blocks n (fresh_image n) ≈ (λ x. none)
fresh-none n x = go (lt_or_le (leads_to x) n)
  where
    go : (leads_to x < n) ⊎ (n ≤ leads_to x) → blocks n (fresh_image n) x ≡ none
    go (inl l) = not-used n (fresh_image n) (leads_to x) x
        (zero-unused _ (rw (fresh_header n (leads_to x) l) (all_zero-blank 64))) refl
    go (inr l) = not-held n (fresh_image n) x (holds-far n x _ l)

-- all ids but NullId are new at clock 0
fresh-ids : (n : ℕ) → number_right n ≡ true → (x : ℕ)
    → (is_id n x && ltb (clock_of (fresh_image n)) (time_of (undone x))) ≡ (is_id n ∖ only null_id) x
fresh-ids n r x = rw (fresh-ends n r).clock_is (go (ℕ_discrete x null_id) (decide (is_id n x)))
  where
    go : Dec (x ≡ null_id) → (is_id n x ≡ true) ⊎ (is_id n x ≡ false)
        → (is_id n x && ltb 0 (time_of (undone x))) ≡ (is_id n ∖ only null_id) x
    go (yes e) i = rw (e, null_not_id n)
    go (no e) (inl i) = rw (i, ne_eqb x null_id e, lt-ltb 0 (time_of (undone x)) (id_made n x i).issued)
    go (no e) (inr i) = rw i

-- DEMAND 2
pub demand2 : Demand2 outcome
demand2 = record { obeys = obeys }

kept : (serve : Service) → Demand2 serve → (cs : List Priced) (img : List ℕ) → Sound img
    → Sound (after serve cs img) × (n_of (after serve cs img) ≡ n_of img)
kept serve h [] img d = (d, refl)
kept serve h (c ∷ cs) img d =
    let o = h.obeys c.tariff c.call img d (most img d) in
    let w = kept serve h cs (serve c.tariff c.call img).image o.sound in
    (w.0, w.1 ∙ o.number)

pub states : States
states =
    record {
      few = most;
      state = invariant;
      fresh = λ n r m. (fresh_sound n r, record { blocks = fresh-none n; newids = fresh-ids n r });
      kept = kept;
      reached = λ serve h cs n r.
          let w = kept serve h cs (fresh_image n) (fresh_sound n r) in
          (w.0, w.1 ∙ (fresh-ends n r).number_is);
    }
