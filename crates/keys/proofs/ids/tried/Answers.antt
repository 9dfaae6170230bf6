-- `keys::ids::tried` meets its contract: each return is an outcome of the tests.
use mathlib.Core.Path.{sym, ◌∙◌}
use native.Mathlib.Omega.{arith}
use Rattle.front.proofs.Fronts.{rethrown, reading_known}
use Rattle.keys.proofs.Rows.{tried_front, tried_asked}
use Rattle.keys.proofs.Listing.{fit, the_call, tried_found, tried_visited}
use Rattle.keys.proofs.ids.tried.Goals as goal

pub returns-in_err-n : goal.returns-in_err-n
returns-in_err-n c = rethrown c.from_residual.result _ c.from_residual.ensures.1
    ∙ tried_front (the_call _ _ _ _ _) _ (sym c.reading.ensures ∙ c.in_err-n.was)

pub returns-in_err-asked : goal.returns-in_err-asked
returns-in_err-asked c =
    let r = c.in_err-asked.field-0.0 in
    let o = sym c.reading.ensures ∙ c.in_ok-n.was in
    rethrown c.from_residual-in_err-asked.result r c.from_residual-in_err-asked.ensures.1
    ∙ tried_asked (the_call _ _ _ _ _) o r (sym c.asked.ensures ∙ c.in_err-asked.was)

pub reach-requires : goal.reach-requires
reach-requires c =
    let k = (fit _ _ _ _ (sym c.asked.ensures ∙ c.in_ok-asked.was)).below in
    omega arith

pub visit-found-requires : goal.visit-found-requires
visit-found-requires c =
    let k = (fit _ _ _ _ (sym c.asked.ensures ∙ c.in_ok-asked.was)).below in
    omega (arith, c.reach.ensures)

pub returns-in_err-visited : goal.returns-in_err-visited
returns-in_err-visited c =
    let r = c.in_err-visited.field-0.0 in
    rethrown c.from_residual-in_err-visited.result r c.from_residual-in_err-visited.ensures.1
    ∙ tried_found _ _ _ _ _ _ (sym c.reading.ensures ∙ c.in_ok-n.was) (sym c.asked.ensures ∙ c.in_ok-asked.was) _
    c.reach.ensures r (cc (c.in_err-visited.was, c.ok_or.ensures.value, c.visit-found.ensures))

pub returns : goal.returns
returns c =
    tried_visited _ _ _ _ _ _ (sym c.reading.ensures ∙ c.in_ok-n.was) (sym c.asked.ensures ∙ c.in_ok-asked.was) _
    c.reach.ensures c.in_ok-visited.visited (cc (c.in_ok-visited.was, c.ok_or.ensures.value, c.visit-found.ensures))

pub invariant_of-image : goal.invariant_of-image
invariant_of-image c = record { known = reading_known _ _ _ (sym c.reading.ensures ∙ c.in_ok-n.was) }
