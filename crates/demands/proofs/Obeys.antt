-- What all calls share in the proof of Demand 2: how a refusal and a success obey, and what a sound image refuses by.
-- Assumes nothing.
use Prim.Native.Nat.{ℕ, ◌≤◌, ◌<◌, max}
use mathlib.Core.Path.{◌≡◌, refl, sym, ap, ◌∙◌, subst}
use mathlib.Core.Bool.{Bool, true, false, not, ◌&&◌, true≢false}
use mathlib.Core.List.{List, [], ◌∷◌}
use mathlib.Core.Logic.{inl, inr}
use mathlib.Core.Option.{Option, none, some}
use native.Mathlib.Omega.{arith}
use borrow.Author.Tests.{eqb-true, eqb-false, eq-eqb, ltb-true, not-false, not-true}
use lib.Dec.{ltb, eqb}
use lib.ListN.{length}
use Rattle.plain.specs.Tests.{when, both}
use Rattle.word.specs.Word.{Bytes}
use Rattle.kinds.specs.Report.{number_of}
use Rattle.kinds.specs.declared.Report.{Report}
use Rattle.kinds.specs.declared.Report.TheVariants.{Success, BadImage, BadUser, BadTime, ClockNotLater, NotManager}
use Rattle.kinds.specs.declared.Report.TheVariants.{BadKey, BadCount, BadRoom, Damaged, NoSuchBlock, NotOwner, NoSpace}
use Rattle.kinds.specs.declared.Report.TheVariants.{NoSeries, BadTag, SequenceTwice}
use Rattle.tariff.specs.declared.Tariff.{Tariff}
use Rattle.promise.specs.Trailer.{n_of, clock_of, trailer_right}
use Rattle.promise.specs.Header.{later_of}
use Rattle.promise.specs.Map.{good}
use Rattle.promise.specs.Counts.{data_of}
use Rattle.promise.specs.Sound.{Sound}
use Rattle.promise.specs.Refusals.{Row, lowest, Given, bad_image}
use Rattle.promise.specs.Lookup.{leads_to, header_for, is_shaped, lookup_damaged, no_such_block, not_owner}
use Rattle.promise.specs.Call.{Call, lent, rows_of, Outcome, outcome}
use Rattle.promise.proofs.RefusalLaws.{exactly}
use Rattle.promise.proofs.CallLaws.{in_order_lem, report_lowest}
use Rattle.promise.proofs.RowLaws.{Verdict, verdict}
use Rattle.manual.specs.Given.{SuccessReport, NoSuchBlockReport, NotOwnerReport}
use Rattle.manual.specs.Given as G
use Rattle.manual.specs.Sets.{◌≈◌}
use Rattle.manual.specs.State.{Block, info, Blocks, dom, put, SS, φBasicParams, ΞSS}
use Rattle.manual.specs.Frames.{φBlock}
use Rattle.manual.specs.Reports as R
use R.{◌⊕◌}
use Rattle.manual.specs.Tariff.{cost_of}
use Rattle.demands.specs.Stored.{holds, block_in, blocks, stored}
use Rattle.demands.specs.Demand2.{says, costs, now_of, op_of, Schema, Concerned, Choices, params_of, Obeys}
use Rattle.demands.proofs.Demand1.{demand1}
use Rattle.demands.proofs.Slots.{state_of, shaped_number}
use Rattle.demands.proofs.Places.{not-held, its_own}
use Rattle.demands.proofs.Ops.{found, Done}
use Rattle.demands.proofs.Granted.{granted, grants, form, of-bytes}

-- ---- all calls

-- a report that is not Success is not PRG-62's either
says_other : (r : Report) → 0 < number_of r → says r ≡ some SuccessReport → ⊥
says_other Success h e = omega arith
says_other BadImage h e = true≢false (cc e)
says_other BadUser h e = true≢false (cc e)
says_other BadTime h e = true≢false (cc e)
says_other ClockNotLater h e = true≢false (cc e)
says_other NotManager h e = true≢false (cc e)
says_other BadKey h e = true≢false (cc e)
says_other BadCount h e = true≢false (cc e)
says_other BadRoom h e = true≢false (cc e)
says_other Damaged h e = true≢false (cc e)
says_other NoSuchBlock h e = true≢false (cc e)
says_other NotOwner h e = true≢false (cc e)
says_other NoSpace h e = true≢false (cc e)
says_other NoSeries h e = true≢false (cc e)
says_other BadTag h e = true≢false (cc e)
says_other SequenceTwice h e = true≢false (cc e)

-- a report that a call on a sound image can be refused with
abbrev pub fair : Report → Bool
fair r = ltb 1 (number_of r) && not (eqb (number_of r) 9)

module _ (t : Tariff) (c : Call) (img : List ℕ) (d : Sound img) (m : n_of img ≤ 4096) where
  abbrev o : Outcome
  o = outcome t c img

  abbrev g : Outcome
  g = granted t c img

  abbrev s : SS
  s = state_of img

  abbrev s' : SS
  s' = stored (n_of img) g.image

  given : Given (rows_of c img) o.report
  given = (exactly (rows_of c img) (in_order_lem c img) o.report).0 (sym (report_lowest t c img))

  -- ---- a refusal: what is left to show is PRG-62's schema, where it has the report

  abbrev pub Said : Option G.Report → Type 0
  Said none = Unit {0}
  Said (some r) = Schema (n_of img) m c (params_of c img r) (state_of img) (state_of img) (outcome t c img)

  said : (x : Option G.Report) → Said x → (r : G.Report) → x ≡ some r → Schema (n_of img) m c (params_of c img r) s s o
  said none h r z = absurd (true≢false (cc z))
  said (some r') h r z = subst (λ r. Schema (n_of img) m c (params_of c img r) s s o) (cc z) h

  refuse : (r : Report) → lowest (rows_of c img) ≡ r → fair r ≡ true → Said (says r) → Obeys t c img m o
  refuse r e ok h =
      let k = both (ltb 1 (number_of r)) (not (eqb (number_of r) 9)) ok in
      let pos = ltb-true 1 (number_of r) k.0 in
      let nine = eqb-false (number_of r) 9 (not-true (eqb (number_of r) 9) k.1) in
      let q : o.report ≡ r = report_lowest t c img ∙ e in
      let bad : ¬ (o.report ≡ Success) = λ z. omega (arith, ap number_of (sym q ∙ z)) in
      let w = demand1.refused t c img bad in
      record {
        shaped = record { results = (form t c img).0; key = (form t c img).1; room = ap length w.buffer };
        bytes = λ b l f. (subst Bytes (sym w.image) b, subst Bytes (sym w.buffer) l);
        report = given;
        undamaged = λ z. nine (ap number_of (sym q ∙ z));
        refused = λ z. w;
        sound = subst Sound (sym w.image) d;
        number = ap n_of w.image;
        clock = λ z. absurd (bad z);
        left = λ b l u. ap (λ i. data_of (n_of img) i b) w.image;
        schema = λ r' z.
            subst (λ i. Schema (n_of img) m c (params_of c img r') s (stored (n_of img) i) o) (sym w.image)
            (said (says r) h r' (sym (ap says q) ∙ z));
        choices = λ z. absurd (bad z);
        charge = λ r' z b b' h.
            record {
              success = λ y. absurd (says_other r (omega arith) (sym (ap says q) ∙ z ∙ ap some y));
              error = λ y. w.charge;
            };
      }

  -- ---- a success: the image after is done, the buffer is as long as it was, and PRG-62's success, its charge and
  -- the choices are so

  pub succeed : lowest (rows_of c img) ≡ Success → Done img (now_of c (clock_of img)) g.image
      → length g.buffer ≡ length (lent c)
      → Schema (n_of img) m c (params_of c img SuccessReport) s s' g
      → ((b b' : Block) → Concerned c s s' g b b'
      → g.charge ≡ cost_of (costs t) (op_of c) (now_of c (clock_of img)) (info b) (info b'))
      → Choices c img g → Obeys t c img m (outcome t c img)
  succeed q w room so pay chosen =
      let e = grants t c img q in
      let z : g.report ≡ Success = ap (λ (o : Outcome). o.report) (sym e) ∙ report_lowest t c img ∙ q in
      subst (Obeys t c img m) (sym e)
      (record {
        shaped = record {
          results = ap (λ (o : Outcome). length o.results) (sym e) ∙ (form t c img).0;
          key = λ k. ap (λ (o : Outcome). o.key) (sym e) ∙ (form t c img).1 k;
          room = room;
        };
        bytes = of-bytes t c img;
        report = subst (λ (o : Outcome). Given (rows_of c img) o.report) e given;
        undamaged = λ y. let x : ◌≡◌ {A = ℕ} 0 9 = ap number_of (sym z ∙ y) in omega arith;
        refused = λ y. absurd (y z);
        sound = w.sound;
        number = w.number;
        clock = λ y. w.clock;
        left = w.left;
        schema = λ r y. subst (λ r. Schema (n_of img) m c (params_of c img r) s s' g) (is_success z r y) so;
        choices = λ y. chosen;
        charge = λ r y b b' h.
            record { success = λ x. pay b b' (h x); error = λ x. absurd (x (sym (is_success z r y))) };
      })
    where
      is_success : g.report ≡ Success → (r : G.Report) → says g.report ≡ some r → SuccessReport ≡ r
      is_success z r y = let x : some SuccessReport ≡ some r = sym (ap says z) ∙ y in cc x

  -- ---- an operation, row by row: what is so where a row applies, and then the rest; and where none does

  abbrev pub Refused : Report → Type 0
  Refused r = when (fair r) (Said (says r)) ⊥

  pub data Cases : List Row → Type 0 where
    no_row : (lowest (rows_of c img) ≡ Success → Obeys t c img m (outcome t c img)) → Cases []
    test : {w : Row} {ws : List Row} → (w.applies ≡ true → Refused w.report) → (w.applies ≡ false → Cases ws)
        → Cases (w ∷ ws)

  by_cases : (ws : List Row) → Verdict ws (lowest (rows_of c img)) → Cases ws → Obeys t c img m o
  by_cases [] q (no_row h) = h q
  by_cases (w ∷ ws) (inl (e, q)) (test f h) = go (fair w.report) refl (f e)
    where
      go : (b : Bool) → fair w.report ≡ b → when b (Said (says w.report)) ⊥ → Obeys t c img m o
      go true z x = refuse w.report q z x
      go false z x = absurd x
  by_cases (w ∷ ws) (inr (e, v)) (test f h) = by_cases ws v (h e)

  pub obeyed : Cases (rows_of c img) → Obeys t c img m (outcome t c img)
  obeyed = by_cases (rows_of c img) (verdict (rows_of c img))

-- a report that is document 01's own leaves nothing to show
pub own : {A : Type 0} → A → Unit {0}
own e = tt

-- ---- what a sound image refuses by

pub good_trailer : (img : List ℕ) → Sound img → bad_image img ≡ true → ⊥
good_trailer img d e = true≢false (sym d.trailer ∙ not-true (trailer_right img) e)

-- NoSuchBlock: id? ∉ dom blocks
pub no_block : (img : List ℕ) (id : ℕ) → no_such_block img id ≡ true → blocks (n_of img) img id ≡ none
unfolding no_such_block holds
no_block img id e = not-held (n_of img) img id (not-true _ e)

pub lookup_fine : (img : List ℕ) → Sound img → (id : ℕ) → lookup_damaged img id ≡ true → ⊥
unfolding lookup_damaged
lookup_fine img d id e =
    let w = both (is_shaped img id) (not (good img (leads_to id))) e in
    true≢false (sym (d.headers (leads_to id) (shaped_number (n_of img) id w.0))
    ∙ not-true (good img (leads_to id)) w.1)

-- the state is as it was
pub unchanged : (s : SS) → ΞSS s s
unchanged s = record { blocks = λ x. refl; newids = λ x. refl }

-- PRG-62's two refusals of an operation on the block of an id
module _ (img : List ℕ) (d : Sound img) (id : ℕ) where
  abbrev now : SS
  now = state_of img

  unfoldable pub its_block : Block
  its_block = block_in (header_for img id) (data_of (n_of img) img (leads_to id))

  pub its_there : no_such_block img id ≡ false → φBlock now id its_block
  unfolding its_block
  its_there e = let f = found img id e in rw f.same at (its_own img d (leads_to id) f.number f.used)

  pub no_such : {A : Type 0} (p : φBasicParams) → p.report! ≡ NoSuchBlockReport → no_such_block img id ≡ true
      → A ⊕ R.NoSuchBlock p now now id
  no_such p r e = inl (rw (no_block img id e), record { same = unchanged now; report! = r })

  there_is : no_such_block img id ≡ false → dom now.blocks id ≡ true
  there_is e = rw (its_there e)

  pub not-his : {A : Type 0} (p : φBasicParams) → p.report! ≡ NotOwnerReport → no_such_block img id ≡ false
      → not_owner img p.clientnum id ≡ true
      → A ⊕ R.NotOwner p now now id ⊕ R.NoSuchBlock p now now id
  unfolding not_owner its_block
  not-his p r e w =
      inr (
        λ z. true≢false (sym (there_is e) ∙ z),
        inl ((its_block, its_there e, eqb-false _ _ (not-true _ w)), record { same = unchanged now; report! = r }),
      )

  pub one_block : (b b' : Block) → φBlock now id b → φBlock now id b' → b ≡ b'
  one_block b b' e f = let y : some b ≡ some b' = sym e ∙ f in cc y

  -- the success of an operation by anyone
  pub has_such : {A : Type 0} (p : φBasicParams) (s' : SS) → no_such_block img id ≡ false → A
      → A ⊕ R.NoSuchBlock p now s' id
  has_such p s' e a = inr (λ z. true≢false (sym (there_is e) ∙ z), a)

  -- and of one by the owner
  pub is_his : {A : Type 0} (p : φBasicParams) (s' : SS) → no_such_block img id ≡ false
      → not_owner img p.clientnum id ≡ false → A
      → A ⊕ R.NotOwner p now s' id ⊕ R.NoSuchBlock p now s' id
  unfolding not_owner its_block
  is_his p s' e w a =
      inr (
        λ z. true≢false (sym (there_is e) ∙ z),
        inr (
          λ z. z.2 (ap (λ (b : Block). b.owner) (one_block z.0 its_block z.1 (its_there e))
              ∙ eqb-true _ _ (not-false _ w)),
          a,
        ),
      )

-- what a map holds where a block was put
pub put_own : (m : Blocks) (id : ℕ) (b : Block) → put m id b id ≡ some b
put_own m id b = rw (eq-eqb id id refl)

pub was_put : (m m' : Blocks) (id : ℕ) (b b' : Block) → m' ≈ put m id b → m' id ≡ some b' → b' ≡ b
was_put m m' id b b' e f = let y : some b' ≡ some b = sym f ∙ e id ∙ put_own m id b in cc y

pub later_is : (time expiry : ℕ) → later_of time expiry ≡ max time expiry
unfolding later_of
later_is time expiry = refl
