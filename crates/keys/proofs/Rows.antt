-- The tests of a key call: its rows stand in three groups, those in front, those that numbers decide, and the row of
-- the headers visited. And what the tests answer in each case.
-- Assumes nothing.
use Prim.Native.Nat.{ℕ, ◌<◌}
use mathlib.Core.Path.{◌≡◌, refl, sym, ◌∙◌, ap}
use mathlib.Core.Bool.{Bool, true, false, true≢false}
use mathlib.Core.List.{List, [], ◌∷◌, ◌++◌}
use native.Mathlib.Omega.{arith}
use borrow.Author.Tests.{leb-false}
use Rattle.std.specs.Prelude.{Result, Ok, Err}
use Rattle.kinds.specs.declared.Report.{Report}
use Rattle.kinds.specs.declared.Report.TheVariants.{Damaged}
use Rattle.run.specs.Run as Run
use Rattle.promise.specs.Trailer.{n_of}
use Rattle.promise.specs.Keys.{reach}
use Rattle.promise.specs.Refusals.{Row, row, lowest, succeeds}
use Rattle.promise.proofs.RefusalLaws.{rising}
use Rattle.promise.proofs.RowLaws.{stopped, clear, passed}
use Rattle.image.specs.Image.{trailer_in}
use Rattle.image.specs.declared.trailer.Trailer.{Trailer}
use Rattle.front.specs.Rows.{front_of, answered}
use Rattle.front.proofs.Fronts.{told_err, told_ok}
use Rattle.keys.specs.Asked.{manager_rows, span}
use Rattle.keys.specs.declared.visit.Span.{Span}

-- tests that refuse nothing
abbrev pub Clear : List Row → Type 0
Clear rows = answered (lowest rows) (tt {0}) ≡ Ok (tt {0})

pub clears : (rows : List Row) → Clear rows → succeeds (lowest rows) ≡ true
clears rows z = (told_ok (lowest rows) (tt {0}) (tt {0}) z).0

-- where no row of two groups applies, none of the first does
first_clear : (xs ys : List Row) → succeeds (lowest (xs ++ ys)) ≡ true → succeeds (lowest xs) ≡ true
first_clear xs ys e = go (succeeds (lowest xs)) refl
  where
    go : (t : Bool) → succeeds (lowest xs) ≡ t → succeeds (lowest xs) ≡ true
    go true q = q
    go false q = absurd (true≢false (sym e ∙ ap (λ r. succeeds r) (stopped xs ys q) ∙ q))

pub manager_rising : (n client key : ℕ) (small : Bool) → rising 1 (manager_rows n client key small) ≡ true
unfolding rising
manager_rising n client key small = refl

pub manager_fit : (n client key : ℕ) (small : Bool) → Clear (manager_rows n client key small)
    → (key < n) × (small ≡ false)
manager_fit n client key small z =
    let a = clear _ _ (omega arith) (clears (manager_rows n client key small) z) in
    let b = clear _ _ (omega arith) a.1 in
    let c = clear _ [] (omega arith) b.1 in
    (leb-false n key b.0, c.0)

-- the rows of a key call, in their groups
abbrev pub in_groups : (front asked : List Row) (damaged : Bool) → List Row
in_groups front asked damaged = front ++ (asked ++ (row damaged Damaged ∷ []))

-- a call on an image from a key: its rows, the number of headers that it visits, and its report
pub record Call : Type 0 where
  pub img : List ℕ
  pub key : ℕ
  pub front : List Row
  pub asked : (n : ℕ) → List Row
  pub damaged : Bool
  pub visited : ℕ
  pub report : Report
  pub by_rows : (n : ℕ) → n_of img ≡ n → report ≡ lowest (in_groups front (asked n) damaged)
  pub front_rising : rising 1 front ≡ true
  pub asked_rising : (n : ℕ) → rising 1 (asked n) ≡ true

module _ (c : Call) where
  abbrev last : List Row
  last = row c.damaged Damaged ∷ []

  abbrev pub Tried : Result Span Report → Type 0
  Tried r = r ≡ answered c.report (span c.img c.key c.visited)

  -- ---- the tests, one after the other

  pub tried_front : (r : Report) → front_of (lowest c.front) c.img ≡ Err r → Tried (Err r)
  unfolding answered
  tried_front r e =
      let n = n_of c.img in
      let w = told_err (lowest c.front) (trailer_in c.img) r e in
      sym (rw (c.by_rows n refl ∙ stopped c.front (c.asked n ++ last) w.0 ∙ w.1, rw w.1 at w.0))

  module _ {t : Trailer} (o : front_of (lowest c.front) c.img ≡ Ok t) where
    its : n_of c.img ≡ t.n
    its = ap (λ (x : Trailer). x.n) (told_ok (lowest c.front) (trailer_in c.img) t o).1

    behind : c.report ≡ lowest (c.asked t.n ++ last)
    behind = c.by_rows t.n its
        ∙ passed 1 c.front (c.asked t.n ++ last) (omega arith) c.front_rising
        (told_ok (lowest c.front) (trailer_in c.img) t o).0

    pub reached : {m : ℕ} → m ≡ Run.reach t.n c.key → m ≡ reach c.img c.key
    reached e = rw its e

    pub tried_asked : (r : Report) → answered (lowest (c.asked t.n)) (tt {0}) ≡ Err r → Tried (Err r)
    unfolding answered
    tried_asked r e =
        let w = told_err (lowest (c.asked t.n)) (tt {0}) r e in
        sym (rw (behind ∙ stopped (c.asked t.n) last w.0 ∙ w.1, rw w.1 at w.0))

    module _ (z : Clear (c.asked t.n)) where
      after : c.report ≡ lowest last
      after = behind ∙ passed 1 (c.asked t.n) last (omega arith) (c.asked_rising t.n) (clears (c.asked t.n) z)

      pub tried_damaged : c.damaged ≡ true → Tried (Err Damaged)
      unfolding lowest answered
      tried_damaged d = sym (rw (after, d))

      pub tried_well : {m : ℕ} → m ≡ c.visited → c.damaged ≡ false
          → Tried (Ok (record { n = t.n; from = c.key; visited = m }))
      unfolding lowest answered
      tried_well e d = sym (rw (after, d, e, its))

  -- ---- what the answer tells

  pub refused : {r : Report} → Tried (Err r) → (c.report ≡ r) × (succeeds r ≡ false)
  refused {r = r} e = let w = told_err c.report _ r (sym e) in (w.1, rw w.1 at w.0)

  module _ {s : Span} (e : Tried (Ok s)) where
    pub let_through : succeeds c.report ≡ true
    let_through = (told_ok c.report _ s (sym e)).0

    pub its_span : span c.img c.key c.visited ≡ s
    its_span = (told_ok c.report _ s (sym e)).1

    from_front : succeeds (lowest (in_groups c.front (c.asked (n_of c.img)) c.damaged)) ≡ true
    from_front = rw (← c.by_rows (n_of c.img) refl) let_through

    pub front_passes : front_of (lowest c.front) c.img ≡ Ok (trailer_in c.img)
    unfolding answered
    front_passes = rw (first_clear c.front (c.asked (n_of c.img) ++ last) from_front)

    from_asked : succeeds (lowest (c.asked (n_of c.img) ++ last)) ≡ true
    from_asked = rw (← behind front_passes) let_through

    pub asked_passes : Clear (c.asked (n_of c.img))
    unfolding answered
    asked_passes = rw (first_clear (c.asked (n_of c.img)) last from_asked)

    pub well : c.damaged ≡ false
    well = (clear (row c.damaged Damaged) [] (omega arith) (rw (← after front_passes asked_passes) let_through)).0
