-- `store::get_count::count` meets its contract.
use Rattle.std.proofs.Common.{sym, ◌∙◌, arith}
use Rattle.front.proofs.Fronts.{exit, reading_known, reading_client}
use Rattle.store.proofs.Sights.{not_counted, count_damaged, is_counted}
use Rattle.store.proofs.get_count.count.Goals as goal

pub returns-in_err-t : goal.returns-in_err-t
returns-in_err-t c = exit _ c.from_residual.ensures.1 (not_counted _ _ _ (sym c.reading.ensures ∙ c.in_err-t.was))

pub count_of-count-requires : goal.count_of-count-requires
count_of-count-requires c =
    let e = sym c.reading.ensures ∙ c.in_ok-t.was in
    ((reading_known _ _ _ e).laid, reading_client _ _ _ e)

pub returns-then-t-count : goal.returns-then-t-count
returns-then-t-count c = sym
    (count_damaged _ _ _ (sym c.reading.ensures ∙ c.in_ok-t.was) _ c.count_of-count.ensures c.if-t-count.true)

pub overflow_cast-result : goal.overflow_cast-result
overflow_cast-result c =
    let e = sym c.reading.ensures ∙ c.in_ok-t.was in
    omega (arith, (reading_known _ _ _ e).laid.number.most)

pub returns : goal.returns
returns c = sym
    (is_counted _ _ _ (sym c.reading.ensures ∙ c.in_ok-t.was) _ c.count_of-count.ensures c.if-t-count.false)
