-- What a good header says: it is all zero and free, or right and used.
-- Assumes nothing.
use Prim.Native.Nat.{ℕ, ◌^◌, ◌≤◌, ◌<◌}
use mathlib.Core.Path.{◌≡◌, refl, sym, ◌∙◌}
use mathlib.Core.Bool.{Bool, true, false, not, ◌&&◌, ◌||◌, true≢false, and-false}
use mathlib.Core.List.{List}
use native.Mathlib.Omega.{arith}
use borrow.Author.Tests.{eqb-true, leb-true, ltb-true, le-leb}
use Rattle.plain.specs.Tests.{except, nth}
use Rattle.word.specs.Word.{all_zero}
use Rattle.ident.specs.Ident.{id_of}
use Rattle.promise.specs.Header.{is_used, id_in, owner_of, created_of, expires_of, used_right, good_header}
use Rattle.promise.proofs.HeaderLaws.{zero-unused}

-- ---- a good header

-- of a used block
pub record Used (clock b : ℕ) (h : List ℕ) : Type 0 where
  pub owner : owner_of h < 64
  pub made : 1 ≤ created_of h
  pub past : created_of h ≤ clock
  pub expires : 1 ≤ expires_of h
  pub in_time : expires_of h < 2 ^ 40
  pub id : id_in h ≡ id_of (created_of h) b

pub used_facts : (clock b : ℕ) (h : List ℕ) → used_right clock b h ≡ true → Used clock b h
unfolding used_right
used_facts clock b h e =
    record {
      owner = omega (arith, leb-true (owner_of h) 63 (nth _ 3 e));
      made = leb-true 1 (created_of h) (nth _ 4 e);
      past = leb-true (created_of h) clock (nth _ 5 e);
      expires = leb-true 1 (expires_of h) (nth _ 6 e);
      in_time = ltb-true (expires_of h) (2 ^ 40) (nth _ 7 e);
      id = eqb-true (id_in h) (id_of (created_of h) b) (nth _ 8 e);
    }

-- a later clock does no harm
later_right : (clock clock' b : ℕ) (h : List ℕ) → clock ≤ clock' → used_right clock b h ≡ true
    → used_right clock' b h ≡ true
unfolding used_right
later_right clock clock' b h l e = except _ 5 _
    (le-leb (created_of h) clock' (omega (arith, leb-true (created_of h) clock (nth _ 5 e)))) e

-- either all zero and free, or used and not free
pub data Good (clock b : ℕ) (f : Bool) (h : List ℕ) : Type 0 where
  vacant : all_zero h ≡ true → is_used h ≡ false → f ≡ true → Good clock b f h
  taken : used_right clock b h ≡ true → is_used h ≡ true → f ≡ false → Good clock b f h

pub good_either : (clock b : ℕ) (f : Bool) (h : List ℕ) → good_header clock b f h ≡ true → Good clock b f h
unfolding good_header used_right
good_either clock b f h e = go (all_zero h) refl (used_right clock b h) refl f e
  where
    go : (z : Bool) → all_zero h ≡ z → (r : Bool) → used_right clock b h ≡ r → (f : Bool)
        → ((z && f) || (r && not f)) ≡ true → Good clock b f h
    go true p r q true e = vacant p (zero-unused h p) refl
    go true p true q false e = taken q (nth _ 0 q) refl
    go true p false q false e = absurd (true≢false (sym e))
    go false p true q false e = taken q (nth _ 0 q) refl
    go false p true q true e = absurd (true≢false (sym e))
    go false p false q f e = absurd (true≢false (sym e))

pub is_vacant : (clock b : ℕ) (h : List ℕ) → all_zero h ≡ true → good_header clock b true h ≡ true
unfolding good_header
is_vacant clock b h e = rw e

pub is_taken : (clock b : ℕ) (h : List ℕ) → used_right clock b h ≡ true → good_header clock b false h ≡ true
unfolding good_header
is_taken clock b h e = rw (e, and-false)

pub good-later : (clock clock' b : ℕ) (f : Bool) (h : List ℕ) → clock ≤ clock' → good_header clock b f h ≡ true
    → good_header clock' b f h ≡ true
good-later clock clock' b f h l e = go f (good_either clock b f h e)
  where
    go : (f : Bool) → Good clock b f h → good_header clock' b f h ≡ true
    go f (vacant z u q) = rw q (is_vacant clock' b h z)
    go f (taken r u q) = rw q (is_taken clock' b h (later_right clock clock' b h l r))

-- used, by the map and by the header
pub used-here : (clock b : ℕ) (f : Bool) (h : List ℕ) → good_header clock b f h ≡ true → is_used h ≡ true
    → Used clock b h
used-here clock b f h e u = go (good_either clock b f h e)
  where
    go : Good clock b f h → Used clock b h
    go (vacant z v q) = absurd (true≢false (sym u ∙ v))
    go (taken r v q) = used_facts clock b h r
