-- The tally of owners that Check keeps: what one header adds to it, and what it is after all headers.
-- Assumes nothing.
use Rattle.std.proofs.Common.{◌≡◌, ℕ, ◌+◌, ◌-◌, ◌*◌, ◌<◌, ◌≤◌, Bool, true, false, cond, eqb, List, map}
use Rattle.std.proofs.Common.{length, get_or, take, drop, set, sym, refl, ap, ◌∙◌, arith, length-set, get_or-set_other}
use Rattle.std.proofs.Common.{get_or-set_same, eq-eqb, ne_eqb}
use mathlib.Core.List.{append-nil, map-append}
use native.Mathlib.Decide.{ℕ_discrete}
use Rattle.plain.specs.Tests.{when}
use Rattle.word.specs.Word.{all_zero}
use Rattle.word.proofs.Laws.{length_part}
use Rattle.word.proofs.Lent.{lent-part}
use Rattle.run.specs.Run.{just, times}
use Rattle.run.proofs.Laws.{just_yes, just_no, times_append, picked_few, picked_append}
use Rattle.run.proofs.Tally.{times-picked}
use Rattle.run.proofs.Turns.{picked_turn, picked_end}
use Rattle.promise.specs.Header.{header_of, is_used, owner_of}
use Rattle.promise.proofs.HeaderLaws.{zero-unused, client}
use Rattle.promise.specs.Map.{good}
use Rattle.promise.specs.Counts.{owners}
use Rattle.image.specs.Image.{tallied, owners_from}

-- ---- a header, lent from the image

pub lent_header : (img : List ℕ) (b : ℕ) → take (64 * b + 64 - 64 * b) (drop (64 * b) img) ≡ header_of img b
unfolding header_of
lent_header img b = lent-part img (64 * b) (64 * b + 64) 64 refl

pub length_header : (img : List ℕ) (b : ℕ) → 64 * b + 64 ≤ length img → length (header_of img b) ≡ 64
unfolding header_of
length_header img b h = length_part img (64 * b) 64 h

-- ---- what one header adds

pub length-tallied : (h t : List ℕ) → length (tallied h t) ≡ length t
unfolding tallied
length-tallied h t = go (is_used h)
  where
    go : (r : Bool) → length (when r (set t (owner_of h) (get_or t (owner_of h) 0 + 1)) t) ≡ length t
    go true = length-set t (owner_of h) (get_or t (owner_of h) 0 + 1)
    go false = refl

pub tallied-used : (h t : List ℕ) (u : ℕ) → is_used h ≡ true → u ≡ owner_of h → set t u (get_or t u 0 + 1) ≡ tallied h t
unfolding tallied
tallied-used h t u e q = rw (e, q)

pub tallied-not : (h t : List ℕ) → is_used h ≡ false → t ≡ tallied h t
unfolding tallied
tallied-not h t e = rw e

-- a place of a list after one was added at x
raised : (t : List ℕ) (x u : ℕ) → x < length t → get_or (set t x (get_or t x 0 + 1)) u 0 ≡ get_or t u 0
    + cond (eqb u x) 1 0
raised t x u h = go (ℕ_discrete u x)
  where
    go : Dec (u ≡ x) → get_or (set t x (get_or t x 0 + 1)) u 0 ≡ get_or t u 0 + cond (eqb u x) 1 0
    go (yes q) = rw (q, eq-eqb x x refl) (get_or-set_same t x (get_or t x 0 + 1) 0 h)
    go (no d) = rw (ne_eqb u x d) (get_or-set_other t x u (get_or t x 0 + 1) 0 d ∙ omega arith)

module _ (img : List ℕ) where
  abbrev here : ℕ → List ℕ
  here b = map (λ b. owner_of (header_of img b)) (just (λ b. is_used (header_of img b)) b)

  pub added : (b : ℕ) (t : List ℕ) (u : ℕ) → (is_used (header_of img b) ≡ true → owner_of (header_of img b) < length t)
      → get_or (tallied (header_of img b) t) u 0 ≡ get_or t u 0 + times u (here b)
  unfolding times tallied
  added b t u c = go (is_used (header_of img b)) refl
    where
      go : (r : Bool) → is_used (header_of img b) ≡ r
          → get_or (tallied (header_of img b) t) u 0 ≡ get_or t u 0 + times u (here b)
      go true e =
          rw (e, just_yes (λ b. is_used (header_of img b)) b e)
          (raised t (owner_of (header_of img b)) u (c e) ∙ omega arith)
      go false e = rw (e, just_no (λ b. is_used (header_of img b)) b e) (omega arith)

  -- ---- as far as a loop has come

  pub owners_none : (b u : ℕ) → times u (owners_from img b 0) ≡ 0
  unfolding times
  owners_none b u = rw (picked_end (λ b. is_used (header_of img b)) b 0 (omega arith))

  pub owners_more : (b k m u : ℕ)
      → times u (owners_from img b (k + m)) ≡ times u (owners_from img b k) + times u (owners_from img (b + k) m)
  owners_more b k m u =
      rw (picked_append (λ b. is_used (header_of img b)) b k m, map-append)
      (times_append u (owners_from img b k) (owners_from img (b + k) m))

  owners_one : (b u : ℕ) → times u (owners_from img b 1) ≡ times u (here b)
  owners_one b u =
      rw (
        picked_turn (λ b. is_used (header_of img b)) b 1 (omega arith),
        picked_end (λ b. is_used (header_of img b)) (b + 1) (1 - 1) (omega arith),
        append-nil,
      )

  -- no more than there are headers
  pub few : (b k u : ℕ) → times u (owners_from img b k) ≤ k
  few b k u = rw (times-picked (λ b. is_used (header_of img b)) (λ b. owner_of (header_of img b)) u b k)
      (picked_few _ b k)

  -- a header more
  pub visited : (b k u x : ℕ) (t t' : List ℕ) → good img (b + k) ≡ true → length t ≡ 64
      → t' ≡ tallied (header_of img (b + k)) t
      → get_or t u 0 ≡ x + times u (owners_from img b k)
      → get_or t' u 0 ≡ x + times u (owners_from img b (k + 1))
  visited b k u x t t' g l e i =
      omega (
        arith,
        ap (λ r. get_or r u 0) e,
        added (b + k) t u (λ q. omega (arith, client img (b + k) g q)),
        owners_more b k 1 u,
        owners_one (b + k) u,
        i,
      )

  -- eight headers more
  pub owners_eight : (i u : ℕ)
      → times u (owners_from img 0 (8 * (i + 1))) ≡ times u (owners_from img 0 (8 * i)) + times u
      (owners_from img (8 * i) 8)
  owners_eight i u =
      let q : 8 * (i + 1) ≡ 8 * i + 8 = omega arith in
      let z : 0 + 8 * i ≡ 8 * i = omega arith in
      rw (q, owners_more 0 (8 * i) 8 u, z)

  -- all
  pub owners_all : (n u : ℕ) → times u (owners_from img 0 n) ≡ times u (owners n img)
  unfolding owners
  owners_all n u = refl

-- ---- a free header is not tallied

pub free_tally : (h t : List ℕ) (r : Bool) → r ≡ all_zero h → t ≡ when r (tallied h t) t
free_tally h t true e = tallied-not h t (zero-unused h (sym e))
free_tally h t false e = refl
