-- Each operation keeps SS's invariants.
-- Assumes nothing.
use Prim.Native.Nat.{ℕ, suc, ◌≤◌, ◌<◌}
use mathlib.Core.Path.{◌≡◌, refl, sym, ◌∙◌, ap}
use mathlib.Core.Bool.{Bool, true, false, not, ◌&&◌, and-false, true≢false}
use mathlib.Core.List.{List, []}
use mathlib.Core.Logic.{◌⊎◌, ◌≢◌, inl, inr, ⊎_elim}
use native.Mathlib.Omega.{arith}
use borrow.Author.Tests.{eqb-true, eqb-false, eq-eqb, ltb-true, lt-ltb, le-ltb}
use lib.Dec.{eqb, ltb}
use Rattle.plain.specs.Tests.{both}
use Rattle.plain.specs.Numbers.{lt_or_le}
use Rattle.run.specs.Run.{times}
use Rattle.run.proofs.Laws.{one_no}
use Rattle.manual.specs.Sets.{Set, ◌∈◌, ◌∉◌, only, ◌∪◌, ◌⊆◌, ◌≈◌, HasSize}
use Rattle.manual.specs.Given.{Constants, Report}
use Rattle.manual.specs.State.{Block, Blocks, SS, φBasicParams, dom, meets, put, ◌⩤◌, Invariant, InitSS, later}
use Rattle.manual.specs.State.{NewIds, ΔSS, ΞSS}
use Rattle.manual.specs.Frames.{φNewBlock}
use Rattle.manual.specs.Reports.{Failed}
use Rattle.manual.specs.Client.{Create_success, Destroy_success, Replace_success, Set_expiry_success}
use Rattle.manual.specs.Manager.{Scavenge_success}
use Rattle.manual.specs.Kept.{Issued, Keeps, Kept, NewIdsRead, Dated}
use Rattle.manual.proofs.Maps.{out_of, either, or_left, or_right, dom-put, dom-cut, such-cut, such_same}
use Rattle.manual.proofs.Sizes.{resized, added, fewer, taken}

-- an id that is issued is new, and what is new is not stored
pub issued : {k : Constants} → Issued k
issued = record { create = λ i c. i.fresh _ c.new.new; replace = λ i c. i.fresh _ c.new.new }

abbrev stored : Block → Bool
stored b = true

module _ (k : Constants) (s s' : SS) (i : Invariant k s) where
  -- ---- the state stays

  unchanged : ΞSS s s' → Keeps k s s'
  unchanged e =
      let d = such_same stored e.blocks in
      record {
        invariant =
            record {
              ids = λ x h. i.ids x (rw (d x, e.newids x) at h);
              few = (i.few.0, resized (λ x. sym (d x)) i.few.1, i.few.2);
              fresh = λ x h. d x ∙ i.fresh x (rw (e.newids x) at h);
              null = rw (d k.NullId, e.newids k.NullId) i.null;
            };
        issued = λ x h. rw (rw (e.newids x) at h, d x, i.fresh x (rw (e.newids x) at h));
      }

  -- ---- the state changes: what is stored was stored before, or is new and has the time of the call

  module _ (p : φBasicParams) (δ : ΔSS k p s s') (few : (n : ℕ) × HasSize (dom s'.blocks) n × (n ≤ k.MaxBlocks))
      (origin : (x : ℕ) → x ∈ dom s'.blocks → (x ∈ dom s.blocks) ⊎ ((x ∈ s.newids) × (k.time x ≡ p.now))) where
    was-new : (x : ℕ) → x ∈ s'.newids → (x ∈ s.newids) × (p.now < k.time x)
    was-new x h =
        let w = both (s.newids x) (ltb p.now (k.time x)) (sym (δ x) ∙ h) in
        (w.0, ltb-true _ _ w.1)

    fresh : (x : ℕ) → x ∈ s'.newids → x ∉ dom s'.blocks
    fresh x h =
        let w = was-new x h in
        out_of (dom s'.blocks x)
        (λ e. ⊎_elim (λ (o : x ∈ dom s.blocks). true≢false (sym o
        ∙ i.fresh x w.0)) (λ o. omega (arith, w.1, o.1)) (origin x e))

    known : (x : ℕ) → x ∈ dom s'.blocks ∪ s'.newids → x ∈ dom s.blocks ∪ s.newids
    known x h =
        ⊎_elim
        (λ e. ⊎_elim (λ o. or_left (dom s.blocks x) (s.newids x) o)
        (λ o. or_right (dom s.blocks x) (s.newids x) o.0) (origin x e))
        (λ e. or_right (dom s.blocks x) (s.newids x) (was-new x e).0)
        (either (dom s'.blocks x) (s'.newids x) h)

    changed : Keeps k s s'
    changed =
        record {
          invariant =
              record {
                ids = λ x h. i.ids x (known x h);
                few = few;
                fresh = fresh;
                null = out_of _ (λ e. true≢false (sym (known k.NullId e) ∙ i.null));
              };
          issued = λ x h. rw ((was-new x h).0, fresh x h);
        }

  -- ---- each change

  module _ (p : φBasicParams) (δ : ΔSS k p s s') where
    -- what is stored is part of what was
    shrunk : dom s'.blocks ⊆ dom s.blocks → Keeps k s s'
    shrunk h =
        let f = fewer h i.few.1 in
        let few : f.0 ≤ k.MaxBlocks = omega (arith, f.2, i.few.2) in
        changed p δ (f.0, f.1, few) (λ x e. inl (h x e))

    cut : (X : Set) → s'.blocks ≈ X ⩤ s.blocks → Keeps k s s'
    cut X e = shrunk (λ x h. dom-cut X s.blocks x (sym (such_same stored e x) ∙ h))

    -- a new block is stored beside a part of what was
    grown : (m : Blocks) {n : ℕ} → dom m ⊆ dom s.blocks → HasSize (dom m) n → n < k.MaxBlocks
        → {b : Block} {id! : ℕ} → φNewBlock k p s b id! → s'.blocks ≈ put m id! b → Keeps k s s'
    grown m {n} part size room {b} {id! } new e = changed p δ
        (suc n, resized (λ x. sym (d x)) (added (dom m) id! out size), room) origin
      where
        d : dom s'.blocks ≈ only id! ∪ dom m
        d x = such_same stored e x ∙ dom-put m id! b x

        out : id! ∉ dom m
        out = out_of (dom m id!) (λ h. true≢false (sym (part id! h) ∙ i.fresh id! new.new))

        origin : (x : ℕ) → x ∈ dom s'.blocks → (x ∈ dom s.blocks) ⊎ ((x ∈ s.newids) × (k.time x ≡ p.now))
        origin x h =
            ⊎_elim (λ q. let z = eqb-true x id! q in inr (
              ap s.newids z ∙ new.new,
              ap k.time z
                  ∙ new.made,
            )) (λ q. inl (part x q))
            (either (eqb x id!) (dom m x) (sym (d x) ∙ h))

  module _ {p : φBasicParams} where
    create : {expiry? : ℕ} {data? : List ℕ} {id! : ℕ} → (¬ HasSize (dom s.blocks) k.MaxBlocks)
        → Create_success k p s s' expiry? data? id! → Keeps k s s'
    create full c =
        let d : i.few.0 ≡ k.MaxBlocks → ⊥ = λ e. full (rw e at i.few.1) in
        let room : i.few.0 < k.MaxBlocks = omega (arith, i.few.2) in
        grown p c.newids s.blocks (λ x h. h) i.few.1 room c.new c.blocks

    destroy : {id? : ℕ} → Destroy_success k p s s' id? → Keeps k s s'
    destroy {id?} c = cut p c.newids (only id?) c.blocks

    replace : {id? : ℕ} {data? : List ℕ} {id! : ℕ} → Replace_success k p s s' id? data? id! → Keeps k s s'
    replace {id?} c =
        let t = taken (dom s.blocks) id? (ap (λ o. meets stored o) c.old) i.few.1 in
        let size = resized (λ x. sym (such-cut stored (only id?) s.blocks x)) t.1 in
        let room : t.0 < k.MaxBlocks = omega (arith, t.2, i.few.2) in
        grown p c.newids (only id? ⩤ s.blocks) (dom-cut (only id?) s.blocks) size room c.new c.blocks

    set_expiry : {id? expiry? : ℕ} → Set_expiry_success k p s s' id? expiry? → Keeps k s s'
    set_expiry {id?} c =
        shrunk p c.newids
        (λ x h. ⊎_elim (λ q. ap (dom s.blocks) (eqb-true x id? q) ∙ ap (λ o. meets stored o) c.old) (λ q. q)
        (either (eqb x id?) (dom s.blocks x) (sym (such_same stored c.blocks x
        ∙ dom-put s.blocks id? c.newblock x) ∙ h)))

    scavenge : {key? key! count! : ℕ} → Scavenge_success k p s s' key? key! count! → Keeps k s s'
    scavenge c = cut p c.newids c.subxs c.blocks

  -- an error keeps them; so it is enough that the success does
  or_else : {p : φBasicParams} {r : Report} {pre success : Type 0} → ((¬ pre) → success → Keeps k s s')
      → (pre × Failed p s s' r) ⊎ ((¬ pre) × success) → Keeps k s s'
  or_else f = ⊎_elim (λ c. unchanged c.1.same) (λ c. f c.0 c.1)

initial : (k : Constants) (s' : SS) → InitSS k s' → Invariant k s'
unfolding times
initial k s' e =
    record {
      ids = λ x h. (both (k.BlockId x) (not (eqb x k.NullId)) (sym (e.newids x) ∙ rw (none-stored x) at h)).0;
      few = (0, ([], λ x. sym (one_no (dom s'.blocks) x (none-stored x)), refl), omega arith);
      fresh = λ x h. none-stored x;
      null = rw (none-stored k.NullId, e.newids k.NullId, eq-eqb k.NullId k.NullId refl)
          (and-false (k.BlockId k.NullId));
    }
  where
    none-stored : (x : ℕ) → x ∉ dom s'.blocks
    none-stored x = ap (λ o. meets stored o) (e.blocks x)

pub kept : (k : Constants) → Kept k
kept k =
    record {
      init = λ {s'} e. initial k s' e;
      create = λ s s' i. or_else k s s' i (λ full c. create k s s' i full c.0);
      read = λ s s' i. or_else k s s' i (λ n c. unchanged k s s' i c.0.same);
      status = λ s s' i. or_else k s s' i (λ n c. unchanged k s s' i c.0.same);
      destroy = λ s s' i. or_else k s s' i (λ n. or_else k s s' i (λ o c. destroy k s s' i c.0));
      replace = λ s s' i. or_else k s s' i (λ n. or_else k s s' i (λ o c. replace k s s' i c.0));
      set_expiry = λ s s' i. or_else k s s' i (λ n. or_else k s s' i (λ o c. set_expiry k s s' i c.0));
      get_ids = λ s s' i. or_else k s s' i (λ n c. unchanged k s s' i c.0.same);
      get_count = λ s s' i c. unchanged k s s' i c.0.same;
      scavenge = λ s s' i. or_else k s s' i (λ m. or_else k s s' i (λ b c. scavenge k s s' i c.0));
      profile = λ s s' i. or_else k s s' i (λ m. or_else k s s' i (λ b c. unchanged k s s' i c.0.same));
    }

-- ---- the new ids

later-later : (n : Bool) (clock now time : ℕ) → clock ≤ now → n && ltb clock time && ltb now time ≡ n && ltb now time
later-later false clock now time l = refl
later-later true clock now time l =
    ⊎_elim (λ (h : now < time). rw (lt-ltb now time h, lt-ltb clock time (omega arith)))
    (λ (h : time ≤ now). rw (le-ltb now time h) (and-false (ltb clock time))) (lt_or_le now time)

pub new_ids : (k : Constants) → NewIdsRead k
new_ids k =
    record {
      start = λ {s'} z t e x. e.newids x ∙ started z t x (k.BlockId x) refl (eqb x k.NullId) refl;
      moved = λ p s s' clock l r.
          let both_later : later k p.now s.newids ≈ NewIds k p.now = λ x. rw (r x)
          (later-later (k.BlockId x) clock p.now (k.time x) l) in
          (λ δ x. δ x ∙ both_later x, λ e x. e x ∙ sym (both_later x));
    }
  where
    started : k.time k.NullId ≡ 0 → ((x : ℕ) → x ∈ k.BlockId → x ≢ k.NullId → 0 < k.time x)
        → (x : ℕ) (b : Bool) → k.BlockId x ≡ b → (q : Bool) → eqb x k.NullId ≡ q
        → b && not q ≡ b && ltb 0 (k.time x)
    started z t x false f q e = refl
    started z t x true f true e = sym (le-ltb 0 (k.time x) (omega (arith, ap k.time (eqb-true x k.NullId e), z)))
    started z t x true f false e = sym (lt-ltb 0 (k.time x) (t x f (eqb-false x k.NullId e)))

-- ---- created ≤ expires

pub dated : (k : Constants) → Dated k
dated k =
    record {
      create = λ {p} c. omega (arith, c.expires, c.new.created);
      replace = λ {p} c. (
        λ h. omega (arith, c.expires, c.new.created),
        λ h. omega
            (arith, c.expires, c.new.created),
      );
      set_expiry = λ {p} c h. omega (arith, c.expires, c.created);
    }
