-- Members of the sets that the operations make: of unions and differences, and of the domain of a map that is changed.
-- Assumes nothing.
use Prim.Native.Nat.{ℕ}
use mathlib.Core.Path.{◌≡◌, refl, sym, ◌∙◌, ap}
use mathlib.Core.Bool.{Bool, true, false, not, cond, ◌&&◌, ◌||◌, and-true, and-false}
use mathlib.Core.Logic.{◌⊎◌, inl, inr}
use mathlib.Core.Option.{none, some}
use lib.Dec.{eqb}
use Rattle.plain.specs.Tests.{both}
use Rattle.manual.specs.Sets.{Set, only, ◌∪◌, ◌∖◌, ◌⊆◌, ◌≈◌}
use Rattle.manual.specs.State.{Block, Blocks, meets, such, dom, put, ◌⩤◌}

-- a test that does not pass fails
pub out_of : (t : Bool) → (t ≡ true → ⊥) → t ≡ false
out_of true h = absurd (h refl)
out_of false h = refl

pub either : (s t : Bool) → s || t ≡ true → (s ≡ true) ⊎ (t ≡ true)
either true t e = inl refl
either false t e = inr e

pub or_left : (s t : Bool) → s ≡ true → s || t ≡ true
or_left s t e = rw e

pub or_right : (s t : Bool) → t ≡ true → s || t ≡ true
or_right true t e = refl
or_right false t e = e

-- dom (m ⊕ {i ↦ b}) = {i} ∪ dom m
pub dom-put : (m : Blocks) (i : ℕ) (b : Block) → dom (put m i b) ≈ only i ∪ dom m
dom-put m i b x = go (eqb x i)
  where
    go : (q : Bool) → meets (λ b. true) (cond q (some b) (m x)) ≡ q || dom m x
    go true = refl
    go false = refl

-- { x : dom (X ⩤ m) | t (m(x)) } = { x : dom m | t (m(x)) } \ X
pub such-cut : (t : Block → Bool) (X : Set) (m : Blocks) → such t (X ⩤ m) ≈ such t m ∖ X
such-cut t X m x = go (X x)
  where
    go : (q : Bool) → meets t (cond q none (m x)) ≡ such t m x && not q
    go true = sym (and-false (such t m x))
    go false = sym (and-true (such t m x))

pub dom-cut : (X : Set) (m : Blocks) → dom (X ⩤ m) ⊆ dom m
dom-cut X m x h = (both (dom m x) (not (X x)) (sym (such-cut (λ b. true) X m x) ∙ h)).0

-- equal maps have equal sets
pub such_same : (t : Block → Bool) {m n : Blocks} → m ≈ n → such t m ≈ such t n
such_same t e x = ap (meets t) (e x)
