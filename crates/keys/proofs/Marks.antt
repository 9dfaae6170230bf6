-- Marks and tallies: what one header adds, and a pass over the marks, turn by turn.
-- Assumes nothing.
use Prim.Native.Nat.{ℕ, ◌+◌, ◌-◌, ◌≤◌, ◌<◌}
use mathlib.Core.Path.{◌≡◌, refl, sym, ap, ◌∙◌}
use mathlib.Core.Bool.{Bool, true, false, cond, and-false, ◌&&◌}
use mathlib.Core.List.{List, [], ◌∷◌}
use native.Mathlib.Decide.{ℕ_discrete}
use native.Mathlib.Omega.{arith}
use borrow.Author.Tests.{eq-eqb, ne_eqb, lt-ltb, le-ltb}
use lib.Dec.{eqb, ltb}
use lib.ListN.{length, get_or, set, length-set}
use lib.Seq.{get_or-set_same, get_or-set_other}
use Rattle.std.specs.Prelude.{Option, Some, None, is_some, IfSome}
use Rattle.kinds.specs.Kinds.{user, tick}
use Rattle.kinds.specs.declared.User.{User}
use Rattle.plain.specs.Tests.{when, both}
use Rattle.word.specs.Write.{puts}
use Rattle.run.specs.Run.{one, just, picked, each}
use Rattle.run.proofs.Laws.{picked_few, picked_none, all-each}
use Rattle.run.proofs.Turns.{count_turn, count_end, each_turn, each-yes, each-no}
use Rattle.promise.specs.Trailer.{clock_set}
use Rattle.promise.specs.Header.{header_of, is_used, owner_of, expires_of}
use Rattle.promise.specs.Keys.{visited_good}
use Rattle.promise.specs.Map.{good}
use Rattle.promise.proofs.HeaderLaws.{client}
use Rattle.promise.specs.Scavenge.{expired}
use Rattle.kinds.specs.declared.Tick.{Tick}
use Rattle.keys.specs.Marks.{loser_of, loses, marked, raised_by, freed, removed_by, owes, Marks, Tallies}
use Rattle.run.proofs.Tally.{picked_mono, picked_same}

-- ---- the client that loses a block

module _ (img : List ℕ) (time b : ℕ) where
  -- its header as it was lent
  module _ (h : List ℕ) (p : h ≡ header_of img b) where
    pub loser-unused : is_used h ≡ false → None ≡ loser_of img time b
    unfolding loser_of expired
    loser-unused f = sym (rw (rw p at f))

    module _ (expires : Tick) (e : expires ≡ tick (expires_of h)) where
      its_expires : expires_of (header_of img b) ≡ expires.0
      its_expires = rw (← p) (sym (ap (λ (x : Tick). x.0) e))

      pub loser_stays : time ≤ expires.0 → None ≡ loser_of img time b
      unfolding loser_of expired
      loser_stays l =
          let g : ltb (expires_of (header_of img b)) time ≡ false = rw its_expires (le-ltb expires.0 time l) in
          sym (rw (g, and-false (is_used (header_of img b))))

      pub loser_goes : is_used h ≡ true → expires.0 < time → (owner : User) → owner ≡ user (owner_of h)
          → Some owner ≡ loser_of img time b
      unfolding loser_of expired
      loser_goes f l owner o =
          let g : ltb (expires_of (header_of img b)) time ≡ true = rw its_expires (lt-ltb expires.0 time l) in
          let q = rw p at o in
          sym (rw (rw p at f, g) (ap (λ (x : User). Some x) (sym q)))

  pub is_loser : is_some (loser_of img time b) ≡ expired img time b
  unfolding loser_of
  is_loser = go (expired img time b)
    where
      go : (t : Bool) → is_some (when t (Some (user (owner_of (header_of img b)))) None) ≡ t
      go true = refl
      go false = refl

  -- its owner is a client
  abbrev pub Client : Type 0
  Client = expired img time b ≡ true → owner_of (header_of img b) < 64

  pub client_loses : Client → IfSome (loser_of img time b) (λ u. u.0 < 64)
  unfolding loser_of
  client_loses h = go (expired img time b) h
    where
      go : (t : Bool) → (t ≡ true → owner_of (header_of img b) < 64)
          → IfSome (when t (Some (user (owner_of (header_of img b)))) None) (λ u. u.0 < 64)
      go true f = f refl
      go false f = tt

-- so it is where all headers visited are good
pub owner_below : (img : List ℕ) (time from k : ℕ) → visited_good img from k ≡ true → (b : ℕ) → from ≤ b → b < from + k
    → Client img time b
unfolding expired
owner_below img time from k g b l u e =
    client img b (all-each (good img) from k b g l u)
    (both (is_used (header_of img b)) (ltb (expires_of (header_of img b)) time) e).0

-- ---- marks made one after the other

pub marked_on : (img : List ℕ) (time from i : ℕ) (marks : List Bool) (m : Bool) → i < length marks
    → m ≡ expired img time (from + i)
    → ((j : ℕ) → j < i → get_or marks j false ≡ expired img time (from + j)) → (j : ℕ) → j < i + 1
    → get_or (set marks i m) j false ≡ expired img time (from + j)
marked_on img time from i marks m l e h j k = go (ℕ_discrete j i)
  where
    go : Dec (j ≡ i) → get_or (set marks i m) j false ≡ expired img time (from + j)
    go (yes q) = rw q (get_or-set_same marks i m false l ∙ e)
    go (no d) = get_or-set_other marks i j m false d ∙ h j (omega arith)

pub marked_is : (img : List ℕ) (time from k : ℕ) (marks : List Bool) → Marks img time from k marks → (b : ℕ)
    → from ≤ b → b < from + k → marked marks from b ≡ expired img time b
marked_is img time from k marks f b l u = f (b - from) (omega arith) ∙ ap (λ (x : ℕ). expired img time x) (omega arith)

-- ---- a tally with one more at x

raised : (t : List ℕ) (x u : ℕ) → x < length t → get_or (set t x (get_or t x 0 + 1)) u 0 ≡ get_or t u 0
    + cond (eqb x u) 1 0
raised t x u h = go (ℕ_discrete u x)
  where
    go : Dec (u ≡ x) → get_or (set t x (get_or t x 0 + 1)) u 0 ≡ get_or t u 0 + cond (eqb x u) 1 0
    go (yes q) = rw (q, eq-eqb x x refl) (get_or-set_same t x (get_or t x 0 + 1) 0 h)
    go (no d) = rw (ne_eqb x u (λ r. d (sym r))) (get_or-set_other t x u (get_or t x 0 + 1) 0 d ∙ omega arith)

pub length-raised : (who : Option User) (tally : List ℕ) → length (raised_by who tally) ≡ length tally
length-raised None tally = refl
length-raised (Some u) tally = length-set tally u.0 _

-- what one block adds
added : (img : List ℕ) (time b : ℕ) (tally : List ℕ) (u : ℕ) → length tally ≡ 64 → Client img time b
    → get_or (raised_by (loser_of img time b) tally) u 0 ≡ get_or tally u 0 + cond (loses img time u b) 1 0
unfolding loser_of
added img time b tally u l h = go (expired img time b) h
  where
    go : (t : Bool) → (t ≡ true → owner_of (header_of img b) < 64)
        → get_or (raised_by (when t (Some (user (owner_of (header_of img b)))) None) tally) u 0
        ≡ get_or tally u 0 + cond (t && eqb (owner_of (header_of img b)) u) 1 0
    go true f = raised tally (owner_of (header_of img b)) u (omega (arith, f refl))
    go false f = omega arith

-- the tally of the first i blocks, with those of k that are left, is that of all k
module _ (img : List ℕ) (time from k : ℕ) where
  abbrev pub Tallied : (tally : List ℕ) (i : ℕ) → Type 0
  Tallied tally i = (u : ℕ) → u < 64
      → get_or tally u 0 + length (picked (loses img time u) (from + i) (k - i))
      ≡ length (picked (loses img time u) from k)

  pub tally_begun : (tally : List ℕ) → ((u : ℕ) → get_or tally u 0 ≡ 0) → Tallied tally 0
  tally_begun tally z u h =
      let e : k - 0 ≡ k = omega arith in
      let f : from + 0 ≡ from = omega arith in
      rw (e, f) (omega (arith, z u))

  pub tally_turn : (tally : List ℕ) (i : ℕ) → i < k → length tally ≡ 64 → Client img time (from + i) → Tallied tally i
      → Tallied (raised_by (loser_of img time (from + i)) tally) (i + 1)
  unfolding one
  tally_turn tally i h l o t u g =
      let z : k - i - 1 ≡ k - (i + 1) = omega arith in
      let y : from + i + 1 ≡ from + (i + 1) = omega arith in
      let c = rw (z, y) at (count_turn (loses img time u) (from + i) (k - i) (omega arith)) in
      omega (arith, added img time (from + i) tally u l o, c, t u g)

  pub tally_end : (tally : List ℕ) (i : ℕ) → k ≤ i → Tallied tally i → Tallies img time from k tally
  tally_end tally i h t u g =
      omega (arith, count_end (loses img time u) (from + i) (k - i) (omega arith), t u g)

  pub tally_few : (tally : List ℕ) (i : ℕ) → Tallied tally i → (u : ℕ) → u < 64 → get_or tally u 0 ≤ k
  tally_few tally i t u g = omega (arith, t u g, picked_few (loses img time u) from k)

-- ---- a pass over the marks

module _ {S : Type 0} (p : ℕ → Bool) (f : S → ℕ → S) where
  here : (s : S) (b : ℕ) (t : Bool) → p b ≡ t → when (p b) (f s b) s ≡ each f s (just p b)
  here s b true e = rw e (each-yes p f s b e)
  here s b false e = rw e (each-no p f s b e)

  pub pass_turn : (s : S) (b k : ℕ) → 0 < k
      → each f (when (p b) (f s b) s) (picked p (b + 1) (k - 1)) ≡ each f s (picked p b k)
  pass_turn s b k h = rw (here s b (p b) refl) (each_turn p f s b k h)

pub pass_count : (p : ℕ → Bool) (b k : ℕ) → 0 < k
    → length (picked p b k) ≡ cond (p b) 1 0 + length (picked p (b + 1) (k - 1))
unfolding one
pass_count p b k h = count_turn p b k h

-- where no block is to go, nobody owes
none_owed : (img : List ℕ) (time from k : ℕ) (marks : List Bool) (tally : List ℕ) → Marks img time from k marks
    → Tallies img time from k tally → length (picked (marked marks from) from k) ≡ 0
    → picked (owes tally) 0 64 ≡ []
none_owed img time from k marks tally f t e = picked_none (owes tally) 0 64
    (λ u l h. le-ltb 0 (get_or tally u 0) (omega (arith, t u h, few u)))
  where
    few : (u : ℕ) → length (picked (loses img time u) from k) ≤ 0
    few u =
        let same = picked_same (marked marks from) (expired img time) from k (marked_is img time from k marks f) in
        omega (
          arith,
          e,
          ap length same,
          picked_mono (loses img time u) (expired img time) from k
              (λ x q. (both (expired img time x) (eqb (owner_of (header_of img x)) u) q).0),
        )

-- and the counts stay
pub removed-none : (n time : ℕ) (marks : List Bool) (tally : List ℕ) (from k : ℕ) (img : List ℕ)
    → Marks img time from k marks → Tallies img time from k tally
    → length (picked (marked marks from) from k) ≡ 0
    → each (freed n) (puts img (clock_set n time ∷ [])) (picked (marked marks from) from k)
    ≡ removed_by n time marks tally from k img
unfolding each
removed-none n time marks tally from k img f t e = rw (none_owed img time from k marks tally f t e)
