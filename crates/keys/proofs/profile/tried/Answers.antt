-- `keys::profile::tried` meets its contract: each return is an outcome of the tests.
use mathlib.Core.Path.{sym, ◌∙◌}
use native.Mathlib.Omega.{arith}
use Rattle.front.proofs.Fronts.{rethrown, reading_known}
use Rattle.keys.proofs.Rows.{manager_fit, tried_front, tried_asked, reached, tried_damaged, tried_well}
use Rattle.keys.proofs.Entries.{the_call}
use Rattle.keys.proofs.profile.tried.Goals as goal

pub returns-in_err-n : goal.returns-in_err-n
returns-in_err-n c = rethrown c.from_residual.result _ c.from_residual.ensures.1
    ∙ tried_front (the_call _ _ _ _) _ (sym c.reading.ensures ∙ c.in_err-n.was)

pub returns-in_err-managed : goal.returns-in_err-managed
returns-in_err-managed c =
    let r = c.in_err-managed.field-0.0 in
    let o = sym c.reading.ensures ∙ c.in_ok-n.was in
    rethrown c.from_residual-in_err-managed.result r c.from_residual-in_err-managed.ensures.1
    ∙ tried_asked (the_call _ _ _ _) o r (sym c.managed.ensures ∙ c.in_err-managed.was)

pub reach-visited-requires : goal.reach-visited-requires
reach-visited-requires c =
    let k = (manager_fit _ _ _ _ (sym c.managed.ensures ∙ c.in_ok-managed.was)).0 in
    omega arith

pub all_good-requires : goal.all_good-requires
all_good-requires c =
    let k = (manager_fit _ _ _ _ (sym c.managed.ensures ∙ c.in_ok-managed.was)).0 in (
      omega (arith, c.reach-visited.ensures),
      omega (arith, c.reach-visited.ensures),
    )

pub returns-then-not-all_good : goal.returns-then-not-all_good
returns-then-not-all_good c =
    let a = c.args in
    let call = the_call a.img.now a.client.0 a.key a.buffer.now in
    let o = sym c.reading.ensures ∙ c.in_ok-n.was in
    tried_damaged call o (sym c.managed.ensures ∙ c.in_ok-managed.was)
    (rw (← reached call o c.reach-visited.ensures, ← c.all_good.ensures, c.if-not-all_good.true))

pub returns : goal.returns
returns c =
    let a = c.args in
    let call = the_call a.img.now a.client.0 a.key a.buffer.now in
    let o = sym c.reading.ensures ∙ c.in_ok-n.was in
    let k = reached call o c.reach-visited.ensures in
    tried_well call o (sym c.managed.ensures ∙ c.in_ok-managed.was) k
    (rw (← k, ← c.all_good.ensures, c.if-not-all_good.false))

pub invariant_of-image : goal.invariant_of-image
invariant_of-image c = record { known = reading_known _ _ _ (sym c.reading.ensures ∙ c.in_ok-n.was) }
