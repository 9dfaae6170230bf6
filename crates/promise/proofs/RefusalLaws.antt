-- What `lowest` means: the report is r exactly where row r applies and no lower one does, and Success exactly where
-- none applies.
-- Assumes nothing.
use Prim.Native.Nat.{ℕ, ◌+◌, ◌≤◌, ◌<◌}
use mathlib.Core.Path.{◌≡◌, refl, sym, ◌∙◌, subst}
use mathlib.Core.Bool.{Bool, true, false, ◌&&◌, and-false, true≢false}
use mathlib.Core.Logic.{⊎_elim}
use mathlib.Core.List.{List, [], ◌∷◌}
use native.Mathlib.Omega.{arith}
use borrow.Author.Tests.{eq-eqb, ne_eqb, leb-true}
use lib.Dec.{leb}
use Rattle.plain.specs.Numbers.{lt_or_le}
use Rattle.plain.specs.Tests.{when, both}
use Rattle.kinds.specs.Report.{number_of}
use Rattle.kinds.proofs.Laws.{injective}
use Rattle.kinds.specs.declared.Report.{Report}
use Rattle.promise.specs.Refusals.{Row, lowest, applies, Given}

-- the rows' numbers rise, the first at least b
unfoldable pub rising : (b : ℕ) → List Row → Bool
rising b [] = true
rising b (r ∷ rs) = leb b (number_of r.report) && rising (number_of r.report + 1) rs

-- rows whose numbers start at b: none below b applies
below : (rows : List Row) (b : ℕ) → rising b rows ≡ true → (k : ℕ) → k < b → applies rows k ≡ false
unfolding applies rising
below [] b h k l = refl
below (r ∷ rs) b h k l =
    let w = both (leb b (number_of r.report)) (rising (number_of r.report + 1) rs) h in
    let m = leb-true b (number_of r.report) w.0 in
    rw (
      ne_eqb (number_of r.report) k (λ e. omega arith),
      and-false r.applies,
      below rs (number_of r.report + 1)
          w.1 k (omega arith),
    )

given : (rows : List Row) (b : ℕ) → 1 ≤ b → rising b rows ≡ true → Given rows (lowest rows)
unfolding lowest applies rising
given [] b one h = record { first = λ k l. refl; refused = λ l. absurd (omega arith); clear = λ z k. refl }
given (r ∷ rs) b one h =
    let n : ℕ = number_of r.report in
    let w = both (leb b n) (rising (n + 1) rs) h in
    go (leb-true b n w.0) w.1 (given rs (n + 1) (omega arith) w.1) r.applies refl
  where
    go : b ≤ number_of r.report → rising (number_of r.report + 1) rs ≡ true → Given rs (lowest rs)
        → (t : Bool) → r.applies ≡ t → Given (r ∷ rs) (when r.applies r.report (lowest rs))
    go m up g true e =
        rw e
        (record {
          first = λ k l. rw (
            ne_eqb (number_of r.report) k (λ q. omega arith),
            below rs
                (number_of r.report + 1) up k (omega arith),
          );
          refused = λ l. rw (eq-eqb (number_of r.report) (number_of r.report) refl);
          clear = λ z. absurd (omega arith);
        })
    go m up g false e = rw e (record { first = g.first; refused = g.refused; clear = g.clear })

-- one report alone is the one that is given
lower : (rows : List Row) (r s : Report) → Given rows r → Given rows s → number_of r < number_of s → ⊥
lower rows r s g h l =
    ⊎_elim
    (λ (z : 0 < number_of r). true≢false (sym (g.refused z) ∙ h.first (number_of r) l))
    (λ (z : number_of r ≤ 0). true≢false (sym (h.refused (omega arith)) ∙ g.clear (omega arith) (number_of s)))
    (lt_or_le 0 (number_of r))

alone : (rows : List Row) (r s : Report) → Given rows r → Given rows s → r ≡ s
alone rows r s g h =
    injective r s
    (⊎_elim (λ (l : number_of r < number_of s). absurd (lower rows r s g h l))
    (λ (l : number_of s ≤ number_of r). ⊎_elim (λ (k : number_of s < number_of r). absurd (lower rows s r h g k))
    (λ (k : number_of r ≤ number_of s). omega arith) (lt_or_le (number_of s) (number_of r)))
    (lt_or_le (number_of r) (number_of s)))

-- THE LAW: of rows that stand in the order of their numbers, `lowest` gives r exactly where r is the report to be given
pub exactly : (rows : List Row) → rising 1 rows ≡ true → (r : Report)
    → (lowest rows ≡ r → Given rows r) × (Given rows r → lowest rows ≡ r)
exactly rows h r =
    let g = given rows 1 (omega arith) h in
    (λ e. subst (Given rows) e g, λ k. alone rows (lowest rows) r g k)
