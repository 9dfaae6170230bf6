-- Laws of the identifiers: each round is undone by its undoing, and so are the rounds of any list of constants; no two
-- ids are alike, none is NullId, and the time and the block number come back out.
-- Assumes nothing.
use Rattle.std.specs.Prelude.{◌≡◌, refl, true, false, ◌&&◌, List, [], ◌∷◌, ℕ, ◌+◌, ◌-◌, ◌*◌, ◌%◌, ◌^◌, ◌≤◌, ◌<◌, ltb}
use Rattle.std.specs.Prelude.{leb, Some, None}
use Rattle.std.proofs.Common.{sym, ◌∙◌, ap}
use native.Mathlib.Omega.{arith}
use borrow.Author.Tests.{lt-ltb, le-leb, ltb-true, leb-true}
use Rattle.plain.specs.Tests.{both, was_first, was_second, apart}
use Rattle.kinds.specs.Kinds.{block_num}
use Rattle.kinds.specs.declared.BlockNum.{BlockNum}
use Rattle.ident.specs.Ident.{null_id, place, high, low, joined, round_of, unround_of, rounds, unrounds, keys}
use Rattle.ident.specs.Ident.{disguised, undone, id_of, time_of, block_of, shaped_in, shape_of}

-- ---- one round

high-joined : (l r : ℕ) → r < 2 ^ 32 → high (joined l r) ≡ l
high-joined l r h = omega arith

low-joined : (l r : ℕ) → r < 2 ^ 32 → low (joined l r) ≡ r
low-joined l r h = omega arith

-- taking u away after adding it, and the other way round
away : (l u : ℕ) → l < 2 ^ 32 → ((l + u) % 2 ^ 32 + (2 ^ 32 - u % 2 ^ 32)) % 2 ^ 32 ≡ l
away l u h = omega arith

back : (t u : ℕ) → t < 2 ^ 32 → ((t + (2 ^ 32 - u % 2 ^ 32)) % 2 ^ 32 + u) % 2 ^ 32 ≡ t
back t u h = omega arith

pub round_below : (k x : ℕ) → round_of k x < 2 ^ 64
unfolding round_of
round_below k x = omega arith

pub unround_below : (k y : ℕ) → y < 2 ^ 64 → unround_of k y < 2 ^ 64
unfolding unround_of
unround_below k y h = omega arith

pub unround_round : (k x : ℕ) → x < 2 ^ 64 → unround_of k (round_of k x) ≡ x
unfolding round_of unround_of
unround_round k x h =
    let t : ℕ = (high x + low x * k) % 2 ^ 32 in
    let b : t < 2 ^ 32 = omega arith in
    rw (high-joined (low x) t b, low-joined (low x) t b) (rw (away (high x) (low x * k) (omega arith)) (omega arith))

pub round_unround : (k y : ℕ) → y < 2 ^ 64 → round_of k (unround_of k y) ≡ y
unfolding round_of unround_of
round_unround k y h =
    let l : ℕ = (low y + (2 ^ 32 - high y * k % 2 ^ 32)) % 2 ^ 32 in
    let b : high y < 2 ^ 32 = omega arith in
    rw (high-joined l (high y) b, low-joined l (high y) b) (rw (back (low y) (high y * k) (omega arith)) (omega arith))

-- ---- the rounds of any list of constants

pub rounds-below : (ks : List ℕ) (x : ℕ) → x < 2 ^ 64 → rounds ks x < 2 ^ 64
unfolding rounds
rounds-below [] x h = h
rounds-below (k ∷ ks) x h = rounds-below ks (round_of k x) (round_below k x)

pub unrounds-below : (ks : List ℕ) (y : ℕ) → y < 2 ^ 64 → unrounds ks y < 2 ^ 64
unfolding unrounds
unrounds-below [] y h = h
unrounds-below (k ∷ ks) y h = unround_below k (unrounds ks y) (unrounds-below ks y h)

pub unrounds-rounds : (ks : List ℕ) (x : ℕ) → x < 2 ^ 64 → unrounds ks (rounds ks x) ≡ x
unfolding rounds unrounds
unrounds-rounds [] x h = refl
unrounds-rounds (k ∷ ks) x h = rw (unrounds-rounds ks (round_of k x) (round_below k x)) (unround_round k x h)

pub rounds-unrounds : (ks : List ℕ) (y : ℕ) → y < 2 ^ 64 → rounds ks (unrounds ks y) ≡ y
unfolding rounds unrounds
rounds-unrounds [] y h = refl
rounds-unrounds (k ∷ ks) y h =
    rw (round_unround k (unrounds ks y) (unrounds-below ks y h)) (rounds-unrounds ks y h)

-- ---- identifiers

pub disguised-below : (p : ℕ) → p < 2 ^ 64 → disguised p < 2 ^ 64
unfolding disguised
disguised-below p h = rounds-below keys p h

-- undone after it is made, every number of 64 bits is itself
pub undo_make : (p : ℕ) → p < 2 ^ 64 → undone (disguised p) ≡ p
unfolding disguised undone
undo_make p h = unrounds-rounds keys p h

-- and made after it is undone
pub make_undo : (id : ℕ) → id < 2 ^ 64 → disguised (undone id) ≡ id
unfolding disguised undone
make_undo id h = rounds-unrounds keys id h

undone_null : undone null_id ≡ 0
unfolding undone unrounds unround_of
undone_null = refl

module _ (time b : ℕ) (ht : time < 2 ^ 40) (hb : b < 4096) where
  -- what an id that was made gives undone: p, below 2^52, with its time and its block number
  pub undo_id : undone (id_of time b) ≡ place time b
  unfolding id_of
  undo_id = undo_make (place time b) (omega arith)

  pub id_below : id_of time b < 2 ^ 64
  unfolding id_of
  id_below = disguised-below (place time b) (omega arith)

  pub time_back : time_of (undone (id_of time b)) ≡ time
  time_back = rw undo_id (omega arith)

  pub block_back : block_of (undone (id_of time b)) ≡ b
  block_back = rw undo_id (omega arith)

  -- NullId is never issued
  pub never_null : 1 ≤ time → id_of time b ≡ null_id → ⊥
  never_null h e = let z : place time b ≡ 0 = sym undo_id ∙ ap undone e ∙ undone_null in omega arith

  -- an id that was made is shaped in every store that has its block
  pub made_shaped : (n : ℕ) → 1 ≤ time → b < n → shape_of (undone (id_of time b)) n ≡ Some (block_num b)
  unfolding shape_of shaped_in
  made_shaped n h l =
      let t : time_of (place time b) ≡ time = omega arith in
      let m : block_of (place time b) ≡ b = omega arith in
      rw (undo_id, t, m, lt-ltb (place time b) (2 ^ 52) (omega arith), le-leb 1 time h, lt-ltb b n l)

-- no two times and block numbers have one id
pub injective : (time b time' b' : ℕ) → time < 2 ^ 40 → b < 4096 → time' < 2 ^ 40 → b' < 4096
    → id_of time b ≡ id_of time' b' → (time ≡ time') × (b ≡ b')
injective time b time' b' ht hb ht' hb' e = (
  sym (time_back time b ht hb) ∙ ap (λ (x : ℕ). time_of (undone x)) e
      ∙ time_back time' b' ht' hb',
  sym (block_back time b ht hb) ∙ ap (λ (x : ℕ). block_of (undone x)) e
      ∙ block_back time' b' ht' hb',
)

-- a shaped number is the id of its time and its block number: what is shaped was made from what it gives undone
pub record ShapedAs (n id : ℕ) : Type 0 where
  pub below : time_of (undone id) < 2 ^ 40
  pub issued : 1 ≤ time_of (undone id)
  pub stored : block_of (undone id) < n
  pub made : id ≡ id_of (time_of (undone id)) (block_of (undone id))

pub shaped_made : (n id : ℕ) → id < 2 ^ 64 → shaped_in n (undone id) ≡ true → ShapedAs n id
unfolding shaped_in id_of
shaped_made n id h e =
    let p : ℕ = undone id in
    let w = both (ltb p (2 ^ 52) && leb 1 (time_of p)) (ltb (block_of p) n) e in
    let v = both (ltb p (2 ^ 52)) (leb 1 (time_of p)) w.0 in
    let small = ltb-true p (2 ^ 52) v.0 in
    let q : place (time_of p) (block_of p) ≡ p = omega arith in
    record {
      below = omega arith;
      issued = leb-true 1 (time_of p) v.1;
      stored = ltb-true (block_of p) n w.1;
      made = sym (rw q (make_undo id h));
    }

pub shaped_below : (n p : ℕ) → shaped_in n p ≡ true → block_of p < n
unfolding shaped_in
shaped_below n p e = ltb-true (block_of p) n (both (ltb p (2 ^ 52) && leb 1 (time_of p)) (ltb (block_of p) n) e).1

-- what the answer of `shaped` tells
pub told_unshaped : (n p : ℕ) → shape_of p n ≡ None → shaped_in n p ≡ false
unfolding shape_of
told_unshaped n p e = (was_second (shaped_in n p) (λ q. apart cc) e).0

pub told_shaped : (n p : ℕ) (b : BlockNum) → shape_of p n ≡ Some b
    → (b.0 < n) × (block_of p ≡ b.0) × (shaped_in n p ≡ true)
unfolding shape_of
told_shaped n p b e =
    let w = was_first (shaped_in n p) (λ q. apart cc) e in
    let t : block_num (block_of p) ≡ b = cc w.1 in
    let q = ap (λ (x : BlockNum). x.0) t in
    (rw (← q) (shaped_below n p w.0), q, w.0)

-- the ids of the fourteen calls: of the first call, of the third, and of the sixth, which replaces it
pub first : id_of 100 0 ≡ 15964205149442916352
unfolding id_of disguised rounds round_of
first = refl

pub third : id_of 101 1 ≡ 18333126972560076063
unfolding id_of disguised rounds round_of
third = refl

pub sixth : id_of 110 1 ≡ 7779521787325635871
unfolding id_of disguised rounds round_of
sixth = refl

-- and what they give undone, as document 01 lists it
pub first-place : undone 15964205149442916352 ≡ 409600
unfolding undone unrounds unround_of
first-place = refl

pub sixth_place : undone 7779521787325635871 ≡ 450561
unfolding undone unrounds unround_of
sixth_place = refl
