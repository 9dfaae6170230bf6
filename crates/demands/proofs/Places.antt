-- What a change of one block does to the stored blocks: one put, one gone, or one in the place of another.
-- Assumes nothing.
use Prim.Native.Nat.{ℕ, ◌≤◌, ◌<◌}
use mathlib.Core.Path.{◌≡◌, refl, sym, ◌∙◌}
use mathlib.Core.Bool.{Bool, true, false, cond, ◌&&◌, and-false}
use mathlib.Core.List.{List}
use mathlib.Core.Logic.{◌≢◌, ⊎_elim}
use mathlib.Core.Option.{Option, none, some}
use native.Mathlib.Decide.{ℕ_discrete}
use native.Mathlib.Omega.{arith}
use borrow.Author.Tests.{eq-eqb, ne_eqb, lt-ltb, ltb-true}
use lib.Dec.{ltb, eqb}
use Rattle.plain.specs.Numbers.{lt_or_le}
use Rattle.ident.specs.Ident.{undone, time_of}
use Rattle.promise.specs.Trailer.{n_of, clock_of}
use Rattle.promise.specs.Header.{header_of, id_in, is_used}
use Rattle.promise.specs.Counts.{data_of}
use Rattle.promise.specs.Sound.{Sound}
use Rattle.promise.specs.Lookup.{leads_to}
use Rattle.manual.specs.Sets.{◌≈◌}
use Rattle.manual.specs.State.{Block, Blocks, φBasicParams, ΔSS}
use Rattle.demands.specs.Stored.{is_id, constants, holds, block_in, blocks, stored}
use Rattle.demands.proofs.Slots.{holds_own, holds-none, holds_other, holds-far, stands_at}
use Rattle.demands.proofs.Change.{Change, Ticked}

-- ---- at one block number

-- what no header holds is not stored
pub not-held : (n : ℕ) (img : List ℕ) (x : ℕ) → holds n x (header_of img (leads_to x)) ≡ false → blocks n img x ≡ none
unfolding blocks
not-held n img x e = rw e

pub not-used : (n : ℕ) (img : List ℕ) (b x : ℕ) → is_used (header_of img b) ≡ false → leads_to x ≡ b
    → blocks n img x ≡ none
not-used n img b x u q = not-held n img x (rw q (holds-none n x (header_of img b) u))

pub another : (n : ℕ) (img : List ℕ) (b x : ℕ) → leads_to x ≡ b → x ≢ id_in (header_of img b) → blocks n img x ≡ none
another n img b x q d = not-held n img x (rw q (holds_other n x (header_of img b) (λ e. d (sym e))))

-- and what a used one holds is
pub its_own : (img : List ℕ) → Sound img → (b : ℕ) → b < n_of img → is_used (header_of img b) ≡ true
    → blocks (n_of img) img (id_in (header_of img b)) ≡ some (block_in (header_of img b) (data_of (n_of img) img b))
unfolding blocks
its_own img d b l u =
    let z = stands_at img d b l u in
    rw z.leads (rw (holds_own (n_of img) (clock_of img) b (header_of img b) u z))

-- two images that have the same headers and data at a number
pub same_there : (n : ℕ) (s s' : List ℕ) (x : ℕ)
    → (leads_to x < n → (header_of s' (leads_to x) ≡ header_of s (leads_to x))
    × (data_of n s' (leads_to x) ≡ data_of n s (leads_to x)))
    → blocks n s' x ≡ blocks n s x
unfolding blocks
same_there n s s' x f =
    ⊎_elim (λ (l : leads_to x < n). rw ((f l).0, (f l).1))
    (λ (l : n ≤ leads_to x). rw (
      holds-far n x (header_of s' (leads_to x)) l,
      holds-far n x (header_of s (leads_to x)) l,
    ))
    (lt_or_le (leads_to x) n)

-- ---- a later clock

pub ticked_blocks : (img : List ℕ) (time : ℕ) (s : List ℕ) → Ticked img time s
    → blocks (n_of img) s ≈ blocks (n_of img) img
ticked_blocks img time s t x = same_there (n_of img) img s x (λ l. (t.headers (leads_to x) l, t.bytes (leads_to x) l))

-- the new ids follow the clock
pub new_ids : (n : ℕ) (m : n ≤ 4096) (p : φBasicParams) (img img' : List ℕ) → clock_of img ≤ p.now
    → clock_of img' ≡ p.now
    → ΔSS (constants n m) p (stored n img) (stored n img')
new_ids n m p img img' l e x = rw e (go (is_id n x) (ltb p.now (time_of (undone x))) refl)
  where
    go : (i q : Bool) → ltb p.now (time_of (undone x)) ≡ q
        → (i && q) ≡ ((i && ltb (clock_of img) (time_of (undone x))) && q)
    go false q h = refl
    go true true h =
        rw (lt-ltb (clock_of img) (time_of (undone x)) (omega (arith, ltb-true p.now (time_of (undone x)) h)))
    go true false h = sym (and-false (ltb (clock_of img) (time_of (undone x))))

-- ---- a change

module _ (n : ℕ) (s s' : List ℕ) (b : ℕ) (c : Change n b s s') where
  elsewhere : (x : ℕ) → leads_to x ≢ b → blocks n s' x ≡ blocks n s x
  elsewhere x q = same_there n s s' x (λ l. (c.headers (leads_to x) l q, c.bytes (leads_to x) l q))

  -- under one id it has r, and nothing else at its number: so has a map that has all the others
  pub at_one : (m : Blocks) (id : ℕ) (r : Option Block) → blocks n s' id ≡ r
      → ((x : ℕ) → leads_to x ≡ b → x ≢ id → blocks n s' x ≡ none)
      → ((x : ℕ) → leads_to x ≢ b → m x ≡ blocks n s x) → ((x : ℕ) → leads_to x ≡ b → x ≢ id → m x ≡ none)
      → (x : ℕ) → blocks n s' x ≡ cond (eqb x id) r (m x)
  at_one m id r own none_here f g x = go (ℕ_discrete x id) (ℕ_discrete (leads_to x) b)
    where
      go : Dec (x ≡ id) → Dec (leads_to x ≡ b) → blocks n s' x ≡ cond (eqb x id) r (m x)
      go (yes q) k = rw (q, eq-eqb id id refl) own
      go (no q) (yes k) = rw (ne_eqb x id q) (none_here x k q ∙ sym (g x k q))
      go (no q) (no k) = rw (ne_eqb x id q) (elsewhere x k ∙ sym (f x k))
