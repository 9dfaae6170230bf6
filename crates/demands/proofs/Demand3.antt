-- The proof of Demand 3, for any service that meets Demand 2: a walk over images is one of the manual's walks.
-- Assumes nothing.
use Prim.Native.Nat.{ℕ, suc, ◌+◌, ◌-◌, ◌≤◌, ◌<◌}
use mathlib.Core.Path.{◌≡◌, refl, sym, ap, ◌∙◌, subst}
use mathlib.Core.List.{List, ◌∷◌, ◌++◌}
use mathlib.Core.Logic.{◌≢◌}
use mathlib.Core.Option.{some}
use native.Mathlib.Omega.{arith}
use native.Mathlib.Decide.{ℕ_discrete}
use borrow.Author.Tests.{ne_eqb}
use lib.Dec.{eqb}
use lib.ListN.{length}
use Rattle.kinds.specs.declared.Report.TheVariants.{Success}
use Rattle.tariff.specs.declared.Tariff.{Tariff}
use Rattle.promise.specs.Trailer.{n_of}
use Rattle.promise.specs.Keys.{start_key, end_key, key_at}
use Rattle.promise.specs.GetIds.{ids_visited}
use Rattle.promise.specs.Sound.{Sound}
use Rattle.promise.specs.Call.{GetIds, Outcome, outcome}
use Rattle.promise.proofs.TrailerLaws.{right}
use Rattle.promise.proofs.KeyLaws.{key_end}
use Rattle.manual.specs.Given.{SuccessReport}
use Rattle.manual.specs.Sets.{◌∈◌}
use Rattle.manual.specs.Walk as M
use Rattle.manual.proofs.Keys.{larger-key}
use Rattle.manual.proofs.Complete.{get_ids_call, complete}
use Rattle.demands.specs.Stored.{constants}
use Rattle.demands.specs.Service.{Service, Priced, seen, after}
use Rattle.demands.specs.Demand2.{says, key_in, Demand2}
use Rattle.demands.specs.Demand3.{ask, asked, Walk, named_by, named, Truthful, passes, Throughout, calls, Complete}
use Rattle.demands.specs.Demand3.{listed, Begun, made, Demand3, Follows, last, more, here, on}
use Rattle.demands.proofs.Slots.{most, shows}
use Rattle.demands.proofs.Demand2.{demand2, states}

key_is : (n key : ℕ) → key ≢ end_key → key_in n (some key) ≡ key
key_is n key q = rw (ne_eqb key end_key q)

key_other : (n stopped : ℕ) → stopped ≢ n → stopped ≡ key_at n stopped
unfolding key_at
key_other n stopped q = rw (ne_eqb stopped n q)

module _ (serve : Service) (d2 : Demand2 serve) where
  module _ (client : ℕ) where
    -- a successful call is one of the manual's, over the store of n blocks that the walk began with
    call_at : (t : Tariff) (img : List ℕ) → Sound img → (key count : ℕ) (ids : List ℕ)
        → let o : Outcome = asked serve client t img key count ids in
        o.report ≡ Success → (m : n_of img ≤ 4096)
        → M.Call (constants (n_of img) m) (listed client img) key (key_in (n_of img) o.key)
        (key_in (n_of img) o.key - key)
        (named_by serve client t img key count ids)
    call_at t img d key count ids r m =
        get_ids_call (constants (n_of img) m)
        ((d2.obeys t (GetIds client key count ids) img d m).schema SuccessReport (ap says r)) refl

    call : (n : ℕ) (m : n ≤ 4096) (t : Tariff) (img : List ℕ) → Sound img → n_of img ≡ n
        → (key count : ℕ) (ids : List ℕ)
        → (asked serve client t img key count ids).report ≡ Success
        → (key' : ℕ) → key_in n (asked serve client t img key count ids).key ≡ key'
        → M.Call (constants n m) (listed client img) key key' (key' - key) (named_by serve client t img key count ids)
    call n m t img d e key count ids r key' q =
        let o : Outcome = asked serve client t img key count ids in
        rw q at
        (subst
        (λ n. (m : n ≤ 4096) → M.Call (constants n m) (listed client img) key (key_in n o.key)
        (key_in n o.key - key) (named_by serve client t img key count ids))
        e (call_at t img d key count ids r) m)

    -- a walk is one of the manual's: it names the same, passes the same numbers, over the same images
    record IsWalk (n : ℕ) (m : n ≤ 4096) {img : List ℕ} {key : ℕ} (w : Walk serve client img key) : Type 1 where
      walk : M.Walk (constants n m) (listed client) img key
      names : M.named walk ≡ named serve client w
      passing : M.passes walk ≡ passes serve client w
      over : (P : List ℕ → Type 0) → Throughout serve client P w → M.Throughout P walk
      truthful : M.Truthful walk → Truthful serve client w

    is_walk : (n : ℕ) (m : n ≤ 4096) {img : List ℕ} {key : ℕ} (w : Walk serve client img key) → Sound img → n_of img ≡ n
        → IsWalk n m w
    is_walk n m {img} {key} (last t count ids r q) d e =
        record {
          walk = M.last (n - key) (named_by serve client t img key count ids)
              (call n m t img d e key count ids r n (ap (key_in n) q));
          names = refl;
          passing = rw e;
          over = λ P h. h;
          truthful = λ h. h;
        }
    is_walk n m {img} {key} (more t count ids key' r q p between w) d e =
        let cs : List Priced = ask serve client t key count ids ∷ between in
        let x = states.kept serve d2 cs img d in
        let v = is_walk n m w x.0 (x.1 ∙ e) in
        let l : List ℕ = named_by serve client t img key count ids in
        record {
          walk = M.more (key' - key) l key' (call n m t img d e key count ids r key'
              (ap (key_in n) q ∙ key_is n key' p))
              (seen serve cs img)
              (after serve cs img) v.walk;
          names = ap (λ k. l ++ k) v.names;
          passing = ap (λ k. (key' - key) ∷ k) v.passing;
          over = λ P h. (h.0, h.1, v.over P h.2);
          truthful = λ h. (h.0, v.truthful h.1);
        }

    calls_are : {img : List ℕ} {key : ℕ} (w : Walk serve client img key)
        → length (passes serve client w) ≡ calls serve client w
    calls_are (last t count ids r q) = refl
    calls_are (more t count ids key' r q p between w) = ap suc (calls_are w)

    -- what holds throughout holds at the first call
    at_first : (P : List ℕ → Type 0) {img : List ℕ} {key : ℕ} (w : Walk serve client img key)
        → Throughout serve client P w → P img
    at_first P (last t count ids r q) h = h
    at_first P (more t count ids key' r q p between w) h = h.0

    is-complete : (img : List ℕ) → Sound img → (w : Walk serve client img start_key) → Complete serve client w
    is-complete img d w =
        let m = most img d in
        let v = is_walk (n_of img) m w d refl in
        let c = complete v.walk in
        record {
          once = λ x h.
              let l = at_first (λ i. x ∈ listed client i) w h in
              let i = ((shows img d m (λ b. eqb b.owner client)).stands x l).0 in
              rw v.names at (c.once x i (v.over (λ i. x ∈ listed client i) h));
          never_twice = λ x. rw v.names at (c.never_twice x);
          truthful = v.truthful c.truthful;
          ends = rw (v.passing, calls_are w) at c.ends;
          passed = rw v.passing at c.passed;
        }

    -- a key that is not the end key is a block number above the one received
    is-onward : (t : Tariff) (img : List ℕ) → Sound img → (key count key' : ℕ) (ids : List ℕ)
        → (asked serve client t img key count ids).report ≡ Success
        → (asked serve client t img key count ids).key ≡ some key' → key' ≢ end_key
        → (key < key') × (key' < n_of img)
    is-onward t img d key count key' ids r q p =
        let m = most img d in
        let c = call (n_of img) m t img d refl key count ids r key'
        (ap (key_in (n_of img)) q ∙ key_is (n_of img) key' p) in
        let l = c.keys.valid in
        let s : some (key_at (n_of img) (key + ids_visited img client key count)) ≡ some key' =
        sym ((d2.obeys t (GetIds client key count ids) img d m).choices r).0 ∙ q in
        let y : key_at (n_of img) (key + ids_visited img client key count) ≡ key' = cc s in (
          larger-key (constants (n_of img) m) key key' c.keys.grows,
          below l y (ℕ_discrete (key + ids_visited img client key count) (n_of img)),
        )
      where
        below : key' ≤ n_of img → key_at (n_of img) (key + ids_visited img client key count) ≡ key'
            → Dec (key + ids_visited img client key count ≡ n_of img) → key' < n_of img
        below l y (yes e) = absurd (p (sym y ∙ ap (key_at (n_of img)) e ∙ key_end (n_of img)))
        below l y (no e) =
            let z : key + ids_visited img client key count ≡ key' =
            key_other (n_of img) (key + ids_visited img client key count) e ∙ y in
            omega arith

    few-made : {img : List ℕ} {key : ℕ} (w : Begun serve client img key) → Sound img → key < n_of img
        → made serve client w + key < n_of img
    few-made here d l = omega arith
    few-made {img} {key} (on t count ids key' r q p between w) d l =
        let x = states.kept serve d2 (ask serve client t key count ids ∷ between) img d in
        let y = is-onward t img d key count key' ids r q p in
        omega (arith, few-made w x.0 (omega arith), x.1, y.0)

-- DEMAND 3 FOLLOWS FROM DEMAND 2, for any service
pub follows : Follows
follows serve d2 =
    record {
      complete = is-complete serve d2;
      ends = λ client img d w.
          let l = (right img d.trailer).number.least in
          omega (arith, few-made serve d2 client w d (omega arith));
    }

-- DEMAND 3
pub demand3 : Demand3 outcome
demand3 = follows outcome demand2
