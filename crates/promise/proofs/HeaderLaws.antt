-- A good header that is used has a client for its owner.
-- Assumes nothing.
use Prim.Native.Nat.{ℕ, ◌+◌, ◌*◌, ◌<◌}
use mathlib.Core.Path.{◌≡◌, refl, sym, ◌∙◌}
use mathlib.Core.Bool.{Bool, true, false, not, ◌&&◌, ◌||◌, true≢false}
use mathlib.Core.List.{List, [], ◌∷◌}
use native.Mathlib.Omega.{arith}
use borrow.Author.Tests.{eqb-true, leb-true, ne_eqb}
use lib.Dec.{eqb}
use Rattle.plain.specs.Tests.{both, nth}
use Rattle.word.specs.Word.{part, le, all_zero}
use Rattle.promise.specs.Header.{header_of, is_used, owner_of, used_right, good_header}
use Rattle.promise.specs.Map.{good}

pub zero-unused : (h : List ℕ) → all_zero h ≡ true → is_used h ≡ false
unfolding all_zero part le
zero-unused [] e = refl
zero-unused (x ∷ h) e =
    let z = eqb-true x 0 (both (eqb x 0) (all_zero h) e).0 in
    ne_eqb (x + 256 * 0) 1 (λ q. omega arith)

owner_below : (clock b : ℕ) (f : Bool) (h : List ℕ) → good_header clock b f h ≡ true → is_used h ≡ true
    → owner_of h < 64
unfolding good_header used_right
owner_below clock b f h e u = go (all_zero h) refl (used_right clock b h) refl f e
  where
    go : (z : Bool) → all_zero h ≡ z → (r : Bool) → used_right clock b h ≡ r → (f : Bool)
        → ((z && f) || (r && not f)) ≡ true → owner_of h < 64
    go true p r q f e = absurd (true≢false (sym u ∙ zero-unused h p))
    go false p true q f e = omega (arith, leb-true (owner_of h) 63 (nth _ 3 q))
    go false p false q f e = absurd (true≢false (sym e))

pub client : (img : List ℕ) (b : ℕ) → good img b ≡ true → is_used (header_of img b) ≡ true
    → owner_of (header_of img b) < 64
unfolding good
client img b e u = owner_below _ _ _ (header_of img b) e u
