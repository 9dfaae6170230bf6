-- Keys and key sets, in numbers: what lies between two keys.
-- Assumes nothing.
use Prim.Native.Nat.{ℕ, ◌≤◌, ◌<◌}
use mathlib.Core.Path.{◌≡◌}
use mathlib.Core.Bool.{true, false, not}
use mathlib.Core.Logic.{⊎_elim}
use native.Mathlib.Omega.{arith}
use borrow.Author.Tests.{ltb-true, ltb-false, lt-ltb, le-ltb, not-true}
use lib.Dec.{ltb}
use Rattle.plain.specs.Tests.{both, decide}
use Rattle.manual.specs.Sets.{Set, ◌∈◌, ◌∉◌, ∅, ◌∩◌, ◌∖◌, ◌⊆◌, ◌⊂◌, ◌≈◌}
use Rattle.manual.specs.Given.{Constants}
use Rattle.manual.specs.Frames.{StartKey, EndKey, KeySet, KeySets}
use Rattle.manual.proofs.Maps.{out_of}

module _ (k : Constants) where
  start_key_lem : KeySet k (StartKey k) ≈ ∅
  start_key_lem x = out_of _ (λ e. let l = ltb-true (k.num x) 0
      (both (k.BlockId x) (ltb (k.num x) 0) e).1 in omega arith)

  end_key_lem : KeySet k (EndKey k) ≈ k.BlockId
  end_key_lem x = ⊎_elim (λ (e : k.BlockId x ≡ true). rw (e, lt-ltb _ _ (k.numbered x e))) (λ (e : k.BlockId x
      ≡ false). rw e) (decide (k.BlockId x))

  pub key_sets : KeySets k
  key_sets = record { start = start_key_lem; end = end_key_lem }

  -- the subset of xs between two keys, and in numbers: the ids of xs whose number is from one key on and below the
  -- other
  abbrev pub part : (key? key! : ℕ) → Set → Set
  part key? key! xs = (KeySet k key! ∖ KeySet k key?) ∩ xs

  pub record Between (key? key! : ℕ) (xs : Set) (x : ℕ) : Type 0 where
    pub id : x ∈ k.BlockId
    pub from : key? ≤ k.num x
    pub below : k.num x < key!
    pub listed : x ∈ xs

  module _ (key? key! : ℕ) where
    pub between_in : (xs : Set) (x : ℕ) → Between key? key! xs x → x ∈ part key? key! xs
    between_in xs x b = rw (b.id, lt-ltb _ _ b.below, le-ltb _ _ b.from, b.listed)

    pub between-out : (xs : Set) (x : ℕ) → x ∈ part key? key! xs → Between key? key! xs x
    between-out xs x e =
        let d = both ((KeySet k key! ∖ KeySet k key?) x) (xs x) e in
        let c = both (KeySet k key! x) (not (KeySet k key? x)) d.0 in
        let a = both (k.BlockId x) (ltb (k.num x) key!) c.0 in
        let f : ltb (k.num x) key? ≡ false = rw a.0 at (not-true (KeySet k key? x) c.1) in
        record { id = a.0; from = ltb-false _ _ f; below = ltb-true _ _ a.1; listed = d.1 }

    -- a key set grows exactly where the key does, up to the end key
    pub larger-key : KeySet k key? ⊂ KeySet k key! → key? < key!
    larger-key g =
        let x : ℕ = g.1.0 in
        let a = both (k.BlockId x) (ltb (k.num x) key!) g.1.1 in
        let l = ltb-true (k.num x) key! a.1 in
        let f : ltb (k.num x) key? ≡ false = rw a.0 at g.1.2 in
        omega (arith, ltb-false (k.num x) key? f)

    pub larger-set : key? < key! → key! ≤ EndKey k → KeySet k key? ⊂ KeySet k key!
    larger-set l v = (inside, (x, inn, out))
      where
        inside : KeySet k key? ⊆ KeySet k key!
        inside y e =
            let a = both (k.BlockId y) (ltb (k.num y) key?) e in
            let b = ltb-true (k.num y) key? a.1 in
            rw (a.0, lt-ltb (k.num y) key! (omega arith))

        n : (x : ℕ) × (x ∈ k.BlockId) × (k.num x ≡ key?)
        n = k.named key? (omega arith)

        x : ℕ
        x = n.0

        inn : x ∈ KeySet k key!
        inn = rw (n.1, lt-ltb (k.num x) key! (omega (arith, n.2)))

        out : x ∉ KeySet k key?
        out = rw (n.1, le-ltb (k.num x) key? (omega (arith, n.2)))
