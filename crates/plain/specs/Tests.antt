-- Choices and lists of tests, tests taken apart, and the set of laws that turns the tests on a function's way to a
-- return into the cases of a definition.
-- Assumes nothing.
use Rattle.std.specs.Prelude.{ℕ, zero, suc, ◌≡◌, refl, Bool, true, false, ◌&&◌, ◌||◌, List, [], ◌∷◌, ◌++◌, ◌⊎◌, get_or}
use Rattle.std.specs.Prelude.{set}
use Rattle.std.proofs.Common.{sym, ap, ◌∙◌, inl, inr, arith, lt-ltb, le-ltb, le-leb, eq-eqb, ne_eqb}
use Rattle.std.proofs.Math.Bool.{and_assoc}
use Rattle.std.proofs.lemmas.Bool.{lt-leb}

-- one of two, by a test
abbrev pub when {ℓ} : {A : Type ℓ} → Bool → A → A → A
when true a b = a
when false a b = b

-- what a choice tells of its test, where only one of the two can have been chosen
pub was_first : {A : Type 0} (t : Bool) {a b c : A} → (b ≡ c → ⊥) → when t a b ≡ c → (t ≡ true) × (a ≡ c)
was_first true d e = (refl, e)
was_first false d e = absurd (d e)

pub was_second : {A : Type 0} (t : Bool) {a b c : A} → (a ≡ c → ⊥) → when t a b ≡ c → (t ≡ false) × (b ≡ c)
was_second true d e = absurd (d e)
was_second false d e = (refl, e)

-- two constructors that differ: `cc` makes of their equation that 0 is 1
pub apart : ◌≡◌ {A = ℕ} 0 1 → ⊥
apart e = omega arith

-- every test of a list passes
unfoldable pub all : List Bool → Bool
all [] = true
all (t ∷ ts) = t && all ts

pub ruleset cascade = (lt-ltb, le-ltb, le-leb, lt-leb, eq-eqb, ne_eqb)

pub decide : (t : Bool) → (t ≡ true) ⊎ (t ≡ false)
decide true = inl refl
decide false = inr refl

-- both of two tests that pass together
pub both : (s t : Bool) → (s && t) ≡ true → (s ≡ true) × (t ≡ true)
both true t e = (refl, e)
both false t e = (e, cc)

-- test i of a list whose every test passes
pub nth : (ts : List Bool) (i : ℕ) → all ts ≡ true → get_or ts i true ≡ true
unfolding all
nth [] i e = refl
nth (t ∷ ts) zero e = (both t (all ts) e).0
nth (t ∷ ts) (suc i) e = nth ts i (both t (all ts) e).1

-- one test more of a list whose every test passes
pub also : (t : Bool) (ts : List Bool) → t ≡ true → all ts ≡ true → all (t ∷ ts) ≡ true
unfolding all
also t ts e f = rw (e, f)

pub done : all [] ≡ true
unfolding all
done = refl

-- the tests of two lists
pub all_append : (ss ts : List Bool) → all (ss ++ ts) ≡ (all ss && all ts)
unfolding all
all_append [] ts = refl
all_append (s ∷ ss) ts = ap (λ r. s && r) (all_append ss ts) ∙ sym (and_assoc s (all ss) (all ts))

-- neither of two tests of which none passes
pub neither : (s t : Bool) → s || t ≡ false → (s ≡ false) × (t ≡ false)
neither true t e = (e, cc)
neither false t e = (refl, e)

-- another test that passes, in the place of test i
pub except : (ts : List Bool) (i : ℕ) (t : Bool) → t ≡ true → all ts ≡ true → all (set ts i t) ≡ true
unfolding all
except [] i t h e = e
except (s ∷ ts) zero t h e = rw (h, (both s (all ts) e).1)
except (s ∷ ts) (suc i) t h e = let w = both s (all ts) e in rw w.0 (except ts i t h w.1)
