-- `store::create::seek_free` meets its contract.
use Rattle.std.proofs.Common.{sym, ◌∙◌}
use Rattle.front.proofs.Fronts.{exit, changing_known, changing_client}
use Rattle.store.proofs.Creates.{not_opened, bad_room, no_place, free_told, place_below, bad_header, bad_count}
use Rattle.store.proofs.Creates.{has_place}
use Rattle.store.proofs.create.seek_free.Goals as goal

pub returns-in_err-n : goal.returns-in_err-n
returns-in_err-n c =
    exit _ c.from_residual.ensures.1 (not_opened _ _ _ _ _ _ (sym c.changing.ensures ∙ c.in_err-n.was))

pub returns-then-bytes-ne-SERVICE_BLOCK : goal.returns-then-bytes-ne-SERVICE_BLOCK
returns-then-bytes-ne-SERVICE_BLOCK c = sym
    (bad_room _ _ _ _ _ _ (sym c.changing.ensures ∙ c.in_ok-n.was) c.if-bytes-ne-SERVICE_BLOCK.true)

pub lowest_free-requires : goal.lowest_free-requires
lowest_free-requires c = (changing_known _ _ _ _ _ (sym c.changing.ensures ∙ c.in_ok-n.was)).laid

pub returns-in_err-b : goal.returns-in_err-b
returns-in_err-b c =
    exit _ c.from_residual-in_err-b.ensures.1
    (no_place _ _ _ _ _ _ (sym c.changing.ensures ∙ c.in_ok-n.was) c.if-bytes-ne-SERVICE_BLOCK.false
    _ c.lowest_free.ensures _ (sym c.ok_or.ensures.value ∙ c.in_err-b.was))

pub is_good-requires : goal.is_good-requires
is_good-requires c =
    place_below _ _ _ _ _ _ (sym c.changing.ensures ∙ c.in_ok-n.was) c.if-bytes-ne-SERVICE_BLOCK.false
    _ (free_told _ _ _ c.lowest_free.ensures (sym c.ok_or.ensures.value ∙ c.in_ok-b.was))

pub invariant_of-image : goal.invariant_of-image
invariant_of-image c = record { known = changing_known _ _ _ _ _ (sym c.changing.ensures ∙ c.in_ok-n.was) }

pub returns-then-not-is_good : goal.returns-then-not-is_good
returns-then-not-is_good c = sym
    (bad_header _ _ _ _ _ _ (sym c.changing.ensures ∙ c.in_ok-n.was) c.if-bytes-ne-SERVICE_BLOCK.false
    _ (free_told _ _ _ c.lowest_free.ensures (sym c.ok_or.ensures.value ∙ c.in_ok-b.was))
    (sym c.is_good.ensures ∙ c.if-not-is_good.true))

pub count_of-count-requires : goal.count_of-count-requires
count_of-count-requires c =
    let e = sym c.changing.ensures ∙ c.in_ok-n.was in
    ((changing_known _ _ _ _ _ e).laid, changing_client _ _ _ _ _ e)

pub returns-then-n-count : goal.returns-then-n-count
returns-then-n-count c = sym
    (bad_count _ _ _ _ _ _ (sym c.changing.ensures ∙ c.in_ok-n.was) c.if-bytes-ne-SERVICE_BLOCK.false
    _ (free_told _ _ _ c.lowest_free.ensures (sym c.ok_or.ensures.value ∙ c.in_ok-b.was))
    (sym c.is_good.ensures ∙ c.if-not-is_good.false)
    _ c.count_of-count.ensures c.if-n-count.true)

pub returns : goal.returns
returns c = sym
    (has_place _ _ _ _ _ _ (sym c.changing.ensures ∙ c.in_ok-n.was) c.if-bytes-ne-SERVICE_BLOCK.false
    _ (free_told _ _ _ c.lowest_free.ensures (sym c.ok_or.ensures.value ∙ c.in_ok-b.was))
    (sym c.is_good.ensures ∙ c.if-not-is_good.false)
    _ c.count_of-count.ensures c.if-n-count.false)
