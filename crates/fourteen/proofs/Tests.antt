-- A table that passes its test goes as listed.
-- Assumes nothing.
use Prim.Native.Nat.{ℕ}
use mathlib.Core.Path.{◌≡◌, refl, ap, ap₂}
use mathlib.Core.Bool.{Bool, true, false, ◌&&◌}
use mathlib.Core.List.{List, [], ◌∷◌}
use mathlib.Core.Option.{Option, none, some}
use lib.Dec.{eqb}
use lib.IntN.{ℤ, pos, negsuc}
use borrow.Author.Tests.{eqb-true}
use Rattle.plain.specs.Tests.{all, both, nth}
use Rattle.kinds.specs.Report.{number_of}
use Rattle.kinds.proofs.Laws.{injective}
use Rattle.tariff.specs.declared.Tariff.{Tariff}
use Rattle.promise.specs.Header.{header_of}
use Rattle.promise.specs.Sound.{sound_image}
use Rattle.promise.proofs.Laws.{sound}
use Rattle.promise.specs.Call.{Outcome, outcome}
use Rattle.fourteen.specs.Line.{Line, fields_of, Agrees, AsListed}

-- ---- tests of equality

unfoldable pub same_z : ℤ → ℤ → Bool
same_z (pos a) (pos b) = eqb a b
same_z (pos a) (negsuc b) = false
same_z (negsuc a) (pos b) = false
same_z (negsuc a) (negsuc b) = eqb a b

unfoldable pub same_list : List ℕ → List ℕ → Bool
same_list [] [] = true
same_list [] (y ∷ m) = false
same_list (x ∷ l) [] = false
same_list (x ∷ l) (y ∷ m) = eqb x y && same_list l m

unfoldable pub same_key : Option ℕ → Option ℕ → Bool
same_key none none = true
same_key none (some y) = false
same_key (some x) none = false
same_key (some x) (some y) = eqb x y

same_z_is : (a b : ℤ) → same_z a b ≡ true → a ≡ b
unfolding same_z
same_z_is (pos a) (pos b) h = ap pos (eqb-true a b h)
same_z_is (pos a) (negsuc b) h = cc
same_z_is (negsuc a) (pos b) h = cc
same_z_is (negsuc a) (negsuc b) h = ap negsuc (eqb-true a b h)

same_list_is : (l m : List ℕ) → same_list l m ≡ true → l ≡ m
unfolding same_list
same_list_is [] [] h = refl
same_list_is [] (y ∷ m) h = cc
same_list_is (x ∷ l) [] h = cc
same_list_is (x ∷ l) (y ∷ m) h =
    let w = both (eqb x y) (same_list l m) h in
    ap₂ {C = List ℕ} (λ a r. a ∷ r) (eqb-true x y w.0) (same_list_is l m w.1)

same_key_is : (a b : Option ℕ) → same_key a b ≡ true → a ≡ b
unfolding same_key
same_key_is none none h = refl
same_key_is none (some y) h = cc
same_key_is (some x) none h = cc
same_key_is (some x) (some y) h = ap some (eqb-true x y h)

-- ---- a line, and a table

unfoldable pub agrees : Line → Outcome → Bool
agrees l o =
    all
    (eqb (number_of o.report) (number_of l.report)
    ∷ same_z o.charge l.charge
    ∷ same_list o.results l.results
    ∷ same_key o.key l.key
    ∷ same_list o.buffer l.buffer
    ∷ same_list (fields_of (header_of o.image l.block)) l.fields
    ∷ sound_image o.image
    ∷ [])

unfoldable pub as_listed : Tariff → List ℕ → List Line → Bool
as_listed t img [] = true
as_listed t img (l ∷ ls) = let o : Outcome = outcome t l.call img in agrees l o && as_listed t o.image ls

agrees_is : (l : Line) (o : Outcome) → agrees l o ≡ true → Agrees l o
unfolding agrees
agrees_is l o h =
    record {
      report = injective o.report l.report (eqb-true (number_of o.report) (number_of l.report) (nth _ 0 h));
      charge = same_z_is o.charge l.charge (nth _ 1 h);
      results = same_list_is o.results l.results (nth _ 2 h);
      key = same_key_is o.key l.key (nth _ 3 h);
      buffer = same_list_is o.buffer l.buffer (nth _ 4 h);
      header = same_list_is (fields_of (header_of o.image l.block)) l.fields (nth _ 5 h);
      sound = sound o.image (nth _ 6 h);
    }

pub listed : (t : Tariff) (img : List ℕ) (ls : List Line) → as_listed t img ls ≡ true → AsListed t img ls
unfolding as_listed
listed t img [] h = tt
listed t img (l ∷ ls) h =
    let o : Outcome = outcome t l.call img in
    let w = both (agrees l o) (as_listed t o.image ls) h in
    (agrees_is l o w.0, listed t o.image ls w.1)
