-- What the tests of the headers that a call visits come to, in the terms of the code.
-- Assumes nothing.
use Prim.Native.Nat.{ℕ, zero, suc, ◌+◌, ◌-◌, ◌≤◌}
use mathlib.Core.Path.{◌≡◌, refl, ap}
use mathlib.Core.Bool.{Bool, true, false}
use mathlib.Core.List.{List}
use native.Mathlib.Omega.{arith}
use mir.Val.{bool_byte}
use Rattle.std.specs.Prelude.{cond, Some, None, Ok, Err, is_some, ok_or}
use Rattle.plain.specs.Tests.{when, apart}
use Rattle.kinds.specs.declared.Report.{Report}
use Rattle.kinds.specs.declared.Report.TheVariants.{Damaged}
use Rattle.run.specs.Run.{one, visits}
use Rattle.run.proofs.Laws.{one-le}
use Rattle.promise.specs.Counts.{owned_by}
use Rattle.promise.specs.Keys.{visited_good}
use Rattle.keys.specs.Visit.{visited_of}

-- ---- what the tests come to

module _ (img : List ℕ) (key visited : ℕ) where
  pub found_bad : false ≡ visited_good img key visited → None ≡ visited_of img key visited
  unfolding visited_of
  found_bad e = rw (← e)

  pub found-good : (k : ℕ) → k ≡ visited → true ≡ visited_good img key visited → Some k ≡ visited_of img key visited
  unfolding visited_of
  found-good k q e = rw (q, ← e)

  pub told_bad : (r : Report) → ok_or (visited_of img key visited) Damaged ≡ Err r
      → (visited_good img key visited ≡ false) × (r ≡ Damaged)
  unfolding visited_of
  told_bad r e = go (visited_good img key visited) refl e
    where
      go : (t : Bool) → visited_good img key visited ≡ t → ok_or (when t (Some visited) None) Damaged ≡ Err r
          → (visited_good img key visited ≡ false) × (r ≡ Damaged)
      go true q f = absurd (apart cc)
      go false q f = (q, cc)

  pub told-good : (k : ℕ) → ok_or (visited_of img key visited) Damaged ≡ Ok k
      → (visited_good img key visited ≡ true) × (k ≡ visited)
  unfolding visited_of
  told-good k e = go (visited_good img key visited) refl e
    where
      go : (t : Bool) → visited_good img key visited ≡ t → ok_or (when t (Some visited) None) Damaged ≡ Ok k
          → (visited_good img key visited ≡ true) × (k ≡ visited)
      go true q f = (q, cc)
      go false q f = absurd (apart cc)

-- ---- one header: whether a block is the client's, as a number

pub as_number : (p : ℕ → Bool) (b : ℕ) → bool_byte (p b) ≡ one p b
unfolding one
as_number p b = go (p b)
  where
    go : (t : Bool) → bool_byte t ≡ cond t 1 0
    go true = refl
    go false = refl

-- ---- where as many are wanted as are left, all are visited

pub visits-all : (p : ℕ → Bool) (most wanted b : ℕ) → most ≤ wanted → visits p most wanted b ≡ most
unfolding visits
visits-all p zero wanted b h = refl
visits-all p (suc most) zero b h = absurd (omega arith)
visits-all p (suc most) (suc wanted) b h = ap suc
    (visits-all p most (suc wanted - one p b) (b + 1) (omega (arith, one-le p b)))

pub all-told : (img : List ℕ) (key client most wanted : ℕ) → most ≤ wanted
    → is_some (visited_of img key (visits (owned_by img client) most wanted key)) ≡ visited_good img key most
unfolding visited_of
all-told img key client most wanted h = rw (visits-all (owned_by img client) most wanted key h)
    (go (visited_good img key most))
  where
    go : (t : Bool) → is_some (when t (Some most) None) ≡ t
    go true = refl
    go false = refl
