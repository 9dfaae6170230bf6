-- The rows of the table taken one after the other: the first that applies gives the report, and where none does it is
-- Success.
-- Assumes nothing.
use Prim.Native.Nat.{ℕ, ◌+◌, ◌^◌, ◌≤◌, ◌<◌}
use mathlib.Core.Path.{◌≡◌, refl, ap}
use mathlib.Core.Bool.{Bool, true, false, true≢false}
use mathlib.Core.List.{List, [], ◌∷◌, ◌++◌}
use mathlib.Core.Logic.{◌⊎◌, inl, inr}
use native.Mathlib.Omega.{arith}
use borrow.Author.Tests.{eqb-true, eqb-false, not-false, leb-true, leb-false, ltb-false}
use lib.Dec.{eqb, leb, ltb}
use lib.ListN.{length}
use Rattle.plain.specs.Tests.{when, both, neither}
use Rattle.kinds.specs.Report.{number_of}
use Rattle.kinds.specs.declared.Report.{Report}
use Rattle.kinds.specs.declared.Report.TheVariants.{Success}
use Rattle.promise.specs.Trailer.{clock_of}
use Rattle.promise.specs.Refusals.{Row, lowest, succeeds, bad_user, bad_now, bad_expiry, not_later, bad_count}
use Rattle.promise.specs.Refusals.{not_a_block}
use Rattle.promise.proofs.RefusalLaws.{rising}

abbrev pub Verdict : List Row → Report → Type 0
Verdict [] r = r ≡ Success
Verdict (w ∷ ws) r = ((w.applies ≡ true) × (r ≡ w.report)) ⊎ ((w.applies ≡ false) × Verdict ws r)

pub verdict : (ws : List Row) → Verdict ws (lowest ws)
unfolding lowest
verdict [] = refl
verdict (w ∷ ws) = go w.applies refl (verdict ws)
  where
    go : (t : Bool) → w.applies ≡ t → Verdict ws (lowest ws)
        → Verdict (w ∷ ws) (when w.applies w.report (lowest ws))
    go true e v = inl (e, rw e)
    go false e v = inr (e, rw e v)

-- ---- rows in groups: one that gives a report gives that of all, and one that gives none leaves it to the rest

pub stopped : (xs ys : List Row) → succeeds (lowest xs) ≡ false → lowest (xs ++ ys) ≡ lowest xs
unfolding lowest
stopped [] ys e = absurd (true≢false e)
stopped (x ∷ xs) ys e = go x.applies refl (stopped xs ys)
  where
    go : (t : Bool) → x.applies ≡ t → (succeeds (lowest xs) ≡ false → lowest (xs ++ ys) ≡ lowest xs)
        → when x.applies x.report (lowest (xs ++ ys)) ≡ when x.applies x.report (lowest xs)
    go true q f = rw q
    go false q f = rw q (f (rw q at e))

-- where no row applies, the first does not, and the rest give Success
pub clear : (x : Row) (xs : List Row) → 1 ≤ number_of x.report → succeeds (lowest (x ∷ xs)) ≡ true
    → (x.applies ≡ false) × (succeeds (lowest xs) ≡ true)
unfolding lowest
clear x xs h e = go x.applies refl
  where
    go : (t : Bool) → x.applies ≡ t → (x.applies ≡ false) × (succeeds (lowest xs) ≡ true)
    go true q = absurd (omega (arith, eqb-true (number_of x.report) 0 (rw q at e)))
    go false q = (q, rw q at e)

pub passed : (b : ℕ) (xs ys : List Row) → 1 ≤ b → rising b xs ≡ true → succeeds (lowest xs) ≡ true
    → lowest (xs ++ ys) ≡ lowest ys
unfolding lowest rising
passed b [] ys h u e = refl
passed b (x ∷ xs) ys h u e =
    let w = both (leb b (number_of x.report)) (rising (number_of x.report + 1) xs) u in
    let l = leb-true b (number_of x.report) w.0 in
    let k = clear x xs (omega arith) e in
    rw k.0 (passed (number_of x.report + 1) xs ys (omega arith) w.1 k.1)

-- another rest that gives the same
pub same_rest : (xs ys zs : List Row) → lowest ys ≡ lowest zs → lowest (xs ++ ys) ≡ lowest (xs ++ zs)
unfolding lowest
same_rest [] ys zs e = e
same_rest (x ∷ xs) ys zs e = ap (when x.applies x.report) (same_rest xs ys zs e)

-- ---- a row that does not apply, as a fact

pub now_fits : (time : ℕ) → bad_now time ≡ false → (1 ≤ time) × (time < 2 ^ 40)
unfolding bad_now
now_fits time e =
    let w = neither (eqb time 0) (leb (2 ^ 40) time) e in
    (omega (arith, eqb-false time 0 w.0), omega (arith, leb-false (2 ^ 40) time w.1))

pub expiry_fits : (expiry : ℕ) → bad_expiry expiry ≡ false → expiry < 2 ^ 40
expiry_fits expiry e = omega (arith, leb-false (2 ^ 40) expiry e)

pub is_later : (img : List ℕ) (time : ℕ) → not_later img time ≡ false → clock_of img < time
is_later img time e = omega (arith, leb-false time (clock_of img) e)

pub is_block : (bytes : List ℕ) → not_a_block bytes ≡ false → length bytes ≡ 528
is_block bytes e = eqb-true (length bytes) 528 (not-false (eqb (length bytes) 528) e)

pub count_fits : (count : ℕ) → bad_count count ≡ false → (0 < count) × (count ≤ 64)
unfolding bad_count
count_fits count e =
    let w = neither (eqb count 0) (ltb 64 count) e in
    (omega (arith, eqb-false count 0 w.0), omega (arith, ltb-false 64 count w.1))

pub is_client : (client : ℕ) → bad_user client ≡ false → client < 64
is_client client e = omega (arith, ltb-false 63 client e)
