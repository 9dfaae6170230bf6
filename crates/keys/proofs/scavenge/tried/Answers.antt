-- `keys::scavenge::tried` meets its contract: each return is an outcome of the tests, and the last is the stores' too.
use mathlib.Core.Path.{sym, ◌∙◌}
use native.Mathlib.Omega.{arith}
use borrow.Author.Tests.{not-true, not-false}
use Rattle.kinds.specs.declared.Report.TheVariants.{Damaged}
use Rattle.word.specs.Word.{Bytes}
use Rattle.image.proofs.Checks.{zeros}
use Rattle.front.proofs.Fronts.{rethrown, changing_known}
use Rattle.keys.proofs.Rows.{manager_fit, tried_front, tried_asked, reached, tried_damaged, tried_well}
use Rattle.keys.proofs.Sweeps.{the_call, refuses, room_for, sweeps, tells}
use Rattle.keys.proofs.scavenge.tried.Goals as goal

pub returns-in_err-n : goal.returns-in_err-n
returns-in_err-n c =
    let e = rethrown c.from_residual.result c.in_err-n.field-0.0 c.from_residual.ensures.1 in
    let w = refuses _ _ _ _ _ _ (tried_front (the_call _ _ _ _) _ (sym c.changing.ensures ∙ c.in_err-n.was)) in
    record { answer = e ∙ w.0; image = w.1 }

pub returns-in_err-managed : goal.returns-in_err-managed
returns-in_err-managed c =
    let r = c.in_err-managed.field-0.0 in
    let o = sym c.changing.ensures ∙ c.in_ok-n.was in
    let e = rethrown c.from_residual-in_err-managed.result r c.from_residual-in_err-managed.ensures.1 in
    let w = refuses _ _ _ _ _ _ (tried_asked (the_call _ _ _ _) o r (sym c.managed.ensures ∙ c.in_err-managed.was)) in
    record { answer = e ∙ w.0; image = w.1 }

pub reach-visited-requires : goal.reach-visited-requires
reach-visited-requires c =
    let k = (manager_fit _ _ _ _ (sym c.managed.ensures ∙ c.in_ok-managed.was)).0 in
    omega arith

pub decide-requires : goal.decide-requires
decide-requires c =
    let k = (manager_fit _ _ _ _ (sym c.managed.ensures ∙ c.in_ok-managed.was)).0 in (
      omega (arith, c.reach-visited.ensures),
      c.reach-visited.ensures,
      zeros 64,
    )

pub returns-then-not-decide : goal.returns-then-not-decide
returns-then-not-decide c =
    let e = tried_damaged (the_call _ _ _ _) (sym c.changing.ensures ∙ c.in_ok-n.was)
    (sym c.managed.ensures ∙ c.in_ok-managed.was)
    (not-false _ (sym c.decide.ensures.answer ∙ c.if-not-decide.true)) in
    let w = refuses _ _ _ _ _ Damaged e in
    record { answer = w.0; image = w.1 }

pub give_scavenge-requires : goal.give_scavenge-requires
give_scavenge-requires c =
    let a = c.args in
    let call = the_call a.img.now a.client.0 a.key a.time.0 in
    let o = sym c.changing.ensures ∙ c.in_ok-n.was in
    let well = c.if-not-decide.false in
    let k = reached call o c.reach-visited.ensures in
    let e = tried_well call o (sym c.managed.ensures ∙ c.in_ok-managed.was) k
    (not-true _ (sym c.decide.ensures.answer ∙ well)) in
    let r = room_for _ _ _ _ _ e _ _ (rw k at (c.decide.ensures.losses well)) in
    (r.0, r.1, r.2, r.3)

pub returns : goal.returns
returns c =
    let a = c.args in
    let call = the_call a.img.now a.client.0 a.key a.time.0 in
    let o = sym c.changing.ensures ∙ c.in_ok-n.was in
    let well = c.if-not-decide.false in
    let k = reached call o c.reach-visited.ensures in
    let e = tried_well call o (sym c.managed.ensures ∙ c.in_ok-managed.was) k
    (not-true _ (sym c.decide.ensures.answer ∙ well)) in
    let octets : Bytes a.img.now = λ x. omega (arith, c.slice_known-1.given x) in
    let p = sweeps _ _ _ _ _ e a.t _ _ (rw k at (c.decide.ensures.losses well)) octets _ _
    c.give_scavenge.ensures.answer c.give_scavenge.ensures.image in
    record { answer = tells _ _ _ _ _ e _ _ p.answer; image = p.image }

pub invariant_of-image : goal.invariant_of-image
invariant_of-image c = record { known = changing_known _ _ _ _ _ (sym c.changing.ensures ∙ c.in_ok-n.was) }
