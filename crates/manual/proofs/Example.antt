-- A walk of three calls over the stores of specs/Example.antt, with a Destroy, a Create and a Scavenge after the first
-- call: what the theorem on walks speaks of exists.
-- Assumes nothing.
use Prim.Native.Nat.{ℕ, zero, suc, ◌/◌, ◌≤◌, ◌<◌}
use mathlib.Core.Path.{◌≡◌, refl, sym, ◌∙◌, ap}
use mathlib.Core.Bool.{Bool, true, false, not, cond, true≢false}
use mathlib.Core.List.{[], ◌∷◌}
use mathlib.Core.Logic.{◌≢◌, inr, ⊎_elim}
use mathlib.Core.Option.{none, some}
use native.Mathlib.Omega.{arith}
use borrow.Author.Tests.{eqb-true, ltb-true, not-true}
use lib.Dec.{eqb, ltb}
use lib.ListN.{get_or}
use Rattle.plain.specs.Tests.{both}
use Rattle.run.specs.Run.{one, just, picked, visits, times}
use Rattle.run.proofs.Laws.{one_no}
use Rattle.manual.specs.Sets.{Set, ◌∈◌, ◌∉◌, only, ◌∩◌, ◌∪◌, ◌∖◌, HasSize}
use Rattle.manual.specs.Given.{SuccessReport}
use Rattle.manual.specs.State.{Block, Blocks, SS, by, meets, such, dom, owned, expired, put, ◌⩤◌, Invariant}
use Rattle.manual.specs.State.{NewIds}
use Rattle.manual.specs.Frames.{EndKey, KeySet}
use Rattle.manual.specs.Client.{Create_success, Create, Destroy, GetIds}
use Rattle.manual.specs.Manager.{Scavenge}
use Rattle.manual.specs.Walk.{Walk, last, more, named}
use Rattle.manual.specs.Scan.{Shows, pass_for}
use Rattle.manual.specs.Example.{k, block, first, second, third, fourth}
use Rattle.manual.proofs.Maps.{out_of, either, dom-put, such-cut}
use Rattle.manual.proofs.Sizes.{one_size, resized, added, taken}
use Rattle.manual.proofs.Kept.{kept}
use Rattle.manual.proofs.Scan.{scans}
use Rattle.manual.proofs.Complete.{complete, get_ids_call}

not_so : {A : Type 0} → false ≡ true → A
not_so e = absurd (true≢false (sym e))

-- ---- what holds of each member of a set, member by member

module _ (t : Block → Bool) (m : Blocks) (P : ℕ → Type 0) where
  each-put : (i : ℕ) (b : Block) → (t b ≡ true → P i) → ((x : ℕ) → x ∈ such t m → P x) → (x : ℕ)
      → x ∈ such t (put m i b) → P x
  each-put i b here rest x = go (eqb x i) refl
    where
      go : (q : Bool) → eqb x i ≡ q → meets t (cond q (some b) (m x)) ≡ true → P x
      go true e h = rw (eqb-true x i e) (here h)
      go false e h = rest x h

  each-cut : (X : Set) → ((x : ℕ) → x ∈ such t m → x ∉ X → P x) → (x : ℕ) → x ∈ such t (X ⩤ m) → P x
  each-cut X rest x h = let w = both (such t m x) (not (X x)) (sym (such-cut t X m x)
      ∙ h) in rest x w.0 (not-true (X x) w.1)

-- of the ids of the first store, and of the third, each that passes a test
module _ (t : Block → Bool) where
  each_first : (P : ℕ → Type 0) → (t (block 3 1 90) ≡ true → P 4) → (t (block 5 2 5) ≡ true → P 9)
      → (t (block 3 3 90) ≡ true → P 14)
      → (t (block 3 4 7) ≡ true → P 19) → (x : ℕ) → x ∈ such t first.blocks → P x
  each_first P a b c d = each-put t _ P 4 _ a
      (each-put t _ P 9 _ b (each-put t _ P 14 _ c (each-put t _ P 19 _ d (λ x h. not_so h))))

  each-third : (P : ℕ → Type 0) → (t (block 3 6 90) ≡ true → P 24) → (t (block 5 2 5) ≡ true → P 9)
      → (t (block 3 3 90) ≡ true → P 14)
      → (t (block 3 4 7) ≡ true → P 19) → (x : ℕ) → x ∈ such t third.blocks → P x
  each-third P a b c d =
      each-put t _ P 24 _ a
      (each-cut t first.blocks P (only 4)
      (each_first (λ x. x ∉ only 4 → P x) (λ h o. not_so (sym o)) (λ h o. b h) (λ h o. c h) (λ h o. d h)))

-- at each block number
each_number : (P : ℕ → Type 0) → P 0 → P 1 → P 2 → P 3 → (b : ℕ) → b < 4 → P b
each_number P p0 p1 p2 p3 zero l = p0
each_number P p0 p1 p2 p3 (suc zero) l = p1
each_number P p0 p1 p2 p3 (suc (suc zero)) l = p2
each_number P p0 p1 p2 p3 (suc (suc (suc zero))) l = p3
each_number P p0 p1 p2 p3 (suc (suc (suc (suc b)))) l = absurd (omega arith)

-- ---- how sets show in the block numbers: whether each number passes, and the id at each

abbrev marks : (a b c d : Bool) → ℕ → Bool
marks a b c d i = get_or (a ∷ b ∷ c ∷ d ∷ []) i false

abbrev places : (a b c d : ℕ) → ℕ → ℕ
places a b c d i = get_or (a ∷ b ∷ c ∷ d ∷ []) i 0

-- the two halves of Shows
abbrev Held : Set → (ℕ → Bool) → (ℕ → ℕ) → ℕ → Type 0
Held xs mine id_at b = mine b ≡ true → (id_at b ∈ xs) × (k.num (id_at b) ≡ b)

abbrev Stands : (ℕ → Bool) → (ℕ → ℕ) → ℕ → Type 0
Stands mine id_at x = (x ∈ k.BlockId) × (mine (k.num x) ≡ true) × (id_at (k.num x) ≡ x)

-- client 3's blocks in the first store
abbrev mine : ℕ → Bool
mine = marks true false true true

abbrev ids : ℕ → ℕ
ids = places 4 9 14 19

shows_first : Shows k (owned 3 first.blocks) mine ids
unfolding k
shows_first =
    record {
      holds = each_number (Held (owned 3 first.blocks) mine ids) (λ e. (refl, refl)) not_so (λ e. (refl, refl))
          (λ e. (refl, refl));
      stands = each_first _ (Stands mine ids) (λ e. (refl, refl, refl)) not_so (λ e. (refl, refl, refl))
          (λ e. (refl, refl, refl));
    }

-- the expired block in the third store
abbrev old : ℕ → Bool
old = marks false true false false

shows_third : Shows k (expired 7 third.blocks) old ids
unfolding k
shows_third =
    record {
      holds = each_number (Held (expired 7 third.blocks) old ids) not_so (λ e. (refl, refl)) not_so not_so;
      stands = each-third _ (Stands old ids) not_so (λ e. (refl, refl, refl)) not_so not_so;
    }

-- client 3's blocks in the fourth store
abbrev ids' : ℕ → ℕ
ids' = places 24 9 14 19

shows_fourth : Shows k (owned 3 fourth.blocks) mine ids'
unfolding k
shows_fourth =
    record {
      holds = each_number (Held (owned 3 fourth.blocks) mine ids') (λ e. (refl, refl)) not_so (λ e. (refl, refl))
          (λ e. (refl, refl));
      stands =
          each-cut _ third.blocks (Stands mine ids') _
          (each-third _ (λ x. x ∉ (KeySet k 4 ∖ KeySet k 0) ∩ expired 7 third.blocks → Stands mine ids' x)
          (λ e o. (refl, refl, refl)) not_so (λ e o. (refl, refl, refl)) (λ e o. (refl, refl, refl)));
    }

-- ---- the first store satisfies the invariants

size_put : (m : Blocks) {n : ℕ} (i : ℕ) (b : Block) → i ∉ dom m → HasSize (dom m) n → HasSize (dom (put m i b)) (suc n)
size_put m i b o a = resized (λ x. sym (dom-put m i b x)) (added (dom m) i o a)

empty : HasSize (dom (λ x. none)) 0
unfolding times
empty = ([], λ x. sym (one_no (λ x. false) x refl), refl)

four : HasSize (dom first.blocks) 4
four = size_put _ 4 _ refl (size_put _ 9 _ refl (size_put _ 14 _ refl (size_put _ 19 _ refl empty)))

pub sound : Invariant k first
unfolding k
sound = record { ids = known; few = (4, four, omega arith); fresh = fresh; null = refl }
  where
    known : (x : ℕ) → x ∈ dom first.blocks ∪ first.newids → x ∈ k.BlockId
    known x h =
        ⊎_elim (each_first _ (λ x. x ∈ k.BlockId) (λ e. refl) (λ e. refl) (λ e. refl) (λ e. refl) x)
        (λ n. (both (k.BlockId x) (ltb 4 (k.time x)) n).0) (either (dom first.blocks x) (NewIds k 4 x) h)

    fresh : (x : ℕ) → x ∈ first.newids → x ∉ dom first.blocks
    fresh x h =
        let l = ltb-true 4 (k.time x) (both (k.BlockId x) (ltb 4 (k.time x)) h).1 in
        let early = each_first (λ b. true) (λ x. x / 4 ≤ 4) (λ e. omega arith) (λ e. omega arith) (λ e. omega arith)
        (λ e. omega arith) in
        out_of (dom first.blocks x) (λ d. omega (arith, early x d))

-- ---- the three operations, and what they keep

one_block : {a b : Block} → some a ≡ some b → a ≡ b
one_block e = cc

pub destroyed : Destroy k (by 3 5 SuccessReport) first second 4
unfolding k
destroyed = inr (
  λ e. not_so (sym e),
  inr
      (mine-only, (record { block = block 3 1 90; old = refl; blocks = λ x. refl; newids = λ x. refl }, refl)),
)
  where
    mine-only : (b : Block) × (first.blocks 4 ≡ some b) × (b.owner ≢ 3) → ⊥
    mine-only n = n.2 (sym (ap (λ b. b.owner) (one_block n.1)))

not_full : HasSize (dom second.blocks) 4 → ⊥
not_full h =
    let t = taken (dom first.blocks) 4 refl four in
    let e = one_size (such-cut (λ b. true) (only 4) first.blocks) h t.1 in
    omega (arith, t.2)

new : Create_success k (by 3 6 SuccessReport) second third 90 [] 24
unfolding k
new =
    record {
      newblock = block 3 6 90;
      new = record { owner = refl; created = refl; new = refl; made = refl };
      expires = refl;
      bytes = refl;
      blocks = λ x. refl;
      newids = λ x. refl;
    }

pub created : Create k (by 3 6 SuccessReport) second third 90 [] 24
unfolding k
created = inr (not_full, (new, refl))

pub scavenged : Scavenge k (by 0 7 SuccessReport) third fourth 0 4 1
unfolding k picked just
scavenged = (scans k).scavenge {p = by 0 7 SuccessReport} {s = third} {s' = fourth} shows_third 0
    (omega arith) refl refl
    (λ x. refl) (λ x. refl)

pub still_sound : Invariant k fourth
still_sound =
    let a = ((kept k).destroy {p = by 3 5 SuccessReport} {id? = 4} first second sound destroyed).invariant in
    let b = ((kept k).create {p = by 3 6 SuccessReport} {expiry? = 90} {data? = []}
    {id! = 24} second third a created).invariant in
    ((kept k).scavenge {p = by 0 7 SuccessReport} {key? = 0} {key! = 4} {count! = 1} third fourth b scavenged).invariant

-- ---- the walk: client 3 asks for one id at a time, and the three operations come after the first call

-- a call for one id
ask : (s : SS) (ids : ℕ → ℕ) → Shows k (owned 3 s.blocks) mine ids → (key? : ℕ) → key? < EndKey k
    → GetIds k (by 3 0 SuccessReport) s s key? 1 (pass_for k mine ids 1 key?).key! (pass_for k mine ids 1 key?).ids
ask s ids h key? l = (scans k).get_ids {p = by 3 0 SuccessReport} h key? 1 l (omega arith) refl
    (record { blocks = λ x. refl; newids = λ x. refl })

pub got_first : GetIds k (by 3 0 SuccessReport) first first 0 1 1 (4 ∷ [])
unfolding k picked just visits one
got_first = ask first ids shows_first 0 (omega arith)

pub got_second : GetIds k (by 3 0 SuccessReport) fourth fourth 1 1 3 (14 ∷ [])
unfolding k picked just visits one
got_second = ask fourth ids' shows_fourth 1 (omega arith)

pub got_third : GetIds k (by 3 0 SuccessReport) fourth fourth 3 1 4 (19 ∷ [])
unfolding k picked just visits one
got_third = ask fourth ids' shows_fourth 3 (omega arith)

abbrev pub walk : Walk k (λ s. owned 3 s.blocks) first 0
unfolding k
walk =
    more 1 (4 ∷ []) 1 (get_ids_call k got_first refl) (second ∷ third ∷ []) fourth
    (more 2 (14 ∷ []) 3 (get_ids_call k got_second refl) [] fourth
    (last 1 (19 ∷ []) (get_ids_call k got_third refl)))

-- the theorem applies: block 2 was there throughout and is named once, though block 0 was removed and made anew, and
-- block 1 removed, before its turn came
pub named_once : times 14 (named walk) ≡ 1
unfolding k
named_once = (complete walk).once 14 refl (refl, (refl, (refl, tt)), (refl, tt, refl))
