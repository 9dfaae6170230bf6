-- A scan of block numbers is a key-linked call, as the manual has it.
-- Assumes nothing.
use Prim.Native.Nat.{ℕ, zero, suc, ◌+◌, ◌≤◌, ◌<◌}
use mathlib.Core.Path.{◌≡◌, refl, sym, ◌∙◌, ap}
use mathlib.Core.Bool.{Bool, true, false, true≢false}
use mathlib.Core.List.{map, map-append}
use mathlib.Core.Logic.{inr, ⊎_elim}
use native.Mathlib.Omega.{arith}
use borrow.Author.Tests.{eqb-true, eqb-false, eq-eqb, ne_eqb}
use lib.Dec.{eqb}
use lib.ListN.{length, length-map}
use Rattle.plain.specs.Numbers.{lt_or_le}
use Rattle.plain.specs.Tests.{decide}
use Rattle.run.specs.Run.{one, just, picked, times}
use Rattle.run.proofs.Laws.{one_yes, one_no, just_yes, just_no, times_append, visits-le, visits-pos, picked-le}
use Rattle.run.proofs.Laws.{picked_few, picked-none-below, picked-none-above, picked_once}
use Rattle.manual.specs.Sets.{Set, ◌∈◌, ◌∉◌, ◌≈◌, Lists, HasSize}
use Rattle.manual.specs.Given.{Constants}
use Rattle.manual.specs.Frames.{EndKey, φKey}
use Rattle.manual.specs.Scan.{Shows, reach, reach_for, scan, Scans}
use Rattle.manual.proofs.Maps.{out_of}
use Rattle.manual.proofs.Sizes.{resized}
use Rattle.manual.proofs.Keys.{part, Between, between_in, between-out, larger-set}

-- eqb x u and eqb y v agree where x is u exactly if y is v
agree : (x u y v : ℕ) → (x ≡ u → y ≡ v) → (y ≡ v → x ≡ u) → eqb x u ≡ eqb y v
agree x u y v f g =
    ⊎_elim (λ e. e ∙ sym (eq-eqb y v (f (eqb-true x u e)))) (λ e. e
    ∙ sym (ne_eqb y v (λ q. eqb-false x u e (g q)))) (decide (eqb x u))

-- a member is not what is none
differ : (X : Set) {x y : ℕ} → x ∉ X → y ∈ X → x ≡ y → ⊥
differ X o i q = true≢false (sym i ∙ ap X (sym q) ∙ o)

module _ (k : Constants) {xs : Set} {test : ℕ → Bool} {id_at : ℕ → ℕ} (h : Shows k xs test id_at) where
  -- x among the ids as often as y among the numbers, where x stands at y alone
  module _ (x y : ℕ) (at : (b : ℕ) → b < k.MaxBlocks → test b ≡ true → (x ≡ id_at b → y ≡ b)
      × (y ≡ b → x ≡ id_at b)) where
    twin-one : (b : ℕ) → b < k.MaxBlocks → times x (map id_at (just test b)) ≡ times y (just test b)
    unfolding times
    twin-one b l =
        ⊎_elim (λ (e : test b ≡ true). rw (just_yes test b e, agree x (id_at b) y b (at b l e).0 (at b l e).1))
        (λ (e : test b ≡ false). rw (just_no test b e)) (decide (test b))

    twin : (b v : ℕ) → b + v ≤ k.MaxBlocks → times x (map id_at (picked test b v)) ≡ times y (picked test b v)
    unfolding picked times
    twin b zero l = refl
    twin b (suc v) l =
        rw (map-append, times_append x (map id_at (just test b)), times_append y (just test b))
        (rw (twin-one b (omega arith), twin (b + 1) v (omega arith)))

  module _ (key? visited : ℕ) (fits : key? + visited ≤ EndKey k) where
    abbrev key! : ℕ
    key! = (scan k test id_at key? visited).key!

    -- an id that is not between the keys
    outside : (x : ℕ) → (Between k key? key! xs x → ⊥) → one (part k key? key! xs) x ≡ 0
    outside x n = one_no (part k key? key! xs) x
        (out_of (part k key? key! xs x) (λ e. n (between-out k key? key! xs x e)))

    listed : (x : ℕ) → x ∈ xs → times (k.num x) (picked test key? visited) ≡ one (part k key? key! xs) x
    listed x e =
        let t = h.stands x e in
        ⊎_elim
        (λ (l : k.num x < key?). picked-none-below test key? visited (k.num x) l
        ∙ sym (outside x (λ b. omega (arith, b.from))))
        (λ (l : key? ≤ k.num x). ⊎_elim
        (λ (u : k.num x < key? + visited).
        picked_once test key? visited (k.num x) l u ∙ one_yes test (k.num x) t.1
        ∙ sym (one_yes (part k key? key! xs) x
        (between_in k key? key! xs x (record { id = t.0; from = l; below = omega arith; listed = e }))))
        (λ (u : key? + visited ≤ k.num x). picked-none-above test key? visited (k.num x) u
        ∙ sym (outside x (λ b. omega (arith, b.below))))
        (lt_or_le (k.num x) (key? + visited)))
        (lt_or_le (k.num x) key?)

    lists : Lists (scan k test id_at key? visited).ids (part k key? key! xs)
    lists x =
        ⊎_elim
        (λ (e : x ∈ xs).
        let t = h.stands x e in
        twin x (k.num x) (λ b l p. (
          λ q. ap k.num q ∙ (h.holds b l p).1,
          λ q. sym t.2
              ∙ ap id_at q,
        )) key? visited fits ∙ listed x e)
        (λ (e : x ∉ xs).
        twin x k.MaxBlocks (λ b l p. (λ q. absurd (differ xs e (h.holds b l p).0 q), λ q. absurd (omega arith)))
        key? visited fits
        ∙ picked-none-above test key? visited k.MaxBlocks fits
        ∙ sym (outside x (λ b. true≢false (sym b.listed ∙ e))))
        (decide (xs x))

    keys : 0 < visited → φKey k key? key! xs (part k key? key! xs)
    keys pos = record {
      valid = omega arith;
      grows = larger-set k key? key! (omega arith) (omega arith);
      part = λ x. refl;
    }

  -- all the numbers: the whole set
  whole : part k 0 k.MaxBlocks xs ≈ xs
  whole x =
      ⊎_elim
      (λ (e : x ∈ xs).
      let i = (h.stands x e).0 in
      between_in k 0 k.MaxBlocks xs x (record { id = i; from = omega arith; below = k.numbered x i; listed = e })
      ∙ sym e)
      (λ (e : x ∉ xs). out_of _ (λ i. true≢false (sym (between-out k 0 k.MaxBlocks xs x i).listed ∙ e)) ∙ sym e)
      (decide (xs x))

  size : HasSize xs (length (picked test 0 k.MaxBlocks))
  size =
      let e : 0 + k.MaxBlocks ≡ k.MaxBlocks = omega arith in
      let l = lists 0 k.MaxBlocks (omega arith) in
      resized whole (_, rw e at l, simp length-map)

-- what may be visited from a key below the end key: one number at least, and none past the last
visit_fits : (k : Constants) (test : ℕ → Bool) (key? count? : ℕ) → key? < EndKey k → 0 < count?
    → (0 < reach_for k test count? key?) × (key? + reach_for k test count? key? ≤ EndKey k)
visit_fits k test key? count? l c = (
  visits-pos test (reach k key?) count? key? (omega arith) c,
  omega
      (arith, visits-le test (reach k key?) count? key?),
)

pub scans : (k : Constants) → Scans k
scans k =
    record {
      call = λ h key? visited pos fits.
          record {
            subxs = _;
            keys = keys k h key? visited fits pos;
            names = lists k h key? visited fits;
            distance = refl;
          };
      size = λ h. size k h;
      get_ids = λ {p} {s} {s'} {test} h key? count? l c ok same.
          let v = visit_fits k test key? count? l c in
          let few = picked-le test (reach k key?) count? key? in
          inr (
            λ b. omega arith,
            (
              record {
                subxs = _;
                keys = keys k h key? _ v.1 v.0;
                idset = lists k h key? _ v.1;
                few = rw length-map few;
                same = same;
              },
              ok,
            ),
          );
      scavenge = λ h key? l m ok gone ids.
          let fits : key? + reach k key? ≤ EndKey k = omega arith in
          inr (
            λ n. n m,
            inr (
              λ b. omega arith,
              (
                record {
                  subxs = _;
                  keys = keys k h key? _ fits (omega arith);
                  count = (_, lists k h key? _ fits, refl);
                  blocks = gone;
                  newids = ids;
                },
                ok,
              ),
            ),
          );
      profile = λ {p} {s} {s'} {test} h most key? l m ok same infoseq! infos.
          let fits : key? + reach k key? ≤ EndKey k = omega arith in
          let few = picked_few test key? (reach k key?) in
          let size = simp length-map at (ap length infos) in
          inr (
            λ n. n m,
            inr (
              λ b. omega arith,
              (
                record {
                  subxs = _;
                  keys = keys k h key? _ fits (omega arith);
                  ordered = lists k h key? _ fits;
                  infoseq = infos;
                  limited = omega arith;
                  same = same;
                },
                ok,
              ),
            ),
          );
    }
