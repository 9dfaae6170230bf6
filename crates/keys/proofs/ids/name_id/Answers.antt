-- `keys::ids::name_id` meets its contract.
use mathlib.Core.Path.{sym, ap, ◌∙◌}
use native.Mathlib.Omega.{arith}
use Rattle.kinds.specs.declared.Id.{Id}
use Rattle.run.proofs.Laws.{one_yes}
use Rattle.promise.specs.Counts.{owned_by}
use Rattle.keys.proofs.Listing.{not_named, named}
use Rattle.keys.proofs.ids.name_id.Goals as goal

pub returns-then-not-is_owned : goal.returns-then-not-is_owned
returns-then-not-is_owned c =
    let both = not_named _ _ _ _ _ (sym c.is_owned.ensures ∙ c.if-not-is_owned.true) in
    record { entries = both.0; bytes = both.1 }

pub put-requires : goal.put-requires
put-requires c =
    let a = c.args in
    omega (
      arith,
      one_yes (owned_by a.img.now a.client.0) a.b (sym c.is_owned.ensures
          ∙ c.if-not-is_owned.false),
    )

pub returns : goal.returns
returns c =
    let e = named _ _ _ _ _ _ c.of.ensures _ (sym c.is_owned.ensures ∙ c.if-not-is_owned.false)
    (ap (λ (x : Id). x.0) c.id.ensures) in
    record { entries = e.0; bytes = c.put.ensures ∙ e.1 }
