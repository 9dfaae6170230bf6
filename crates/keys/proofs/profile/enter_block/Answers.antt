-- `keys::profile::enter_block` meets its contract.
use mathlib.Core.Path.{sym, ◌∙◌}
use native.Mathlib.Omega.{arith}
use Rattle.keys.proofs.Entries.{not_entered, is_one, entered}
use Rattle.keys.proofs.profile.enter_block.Goals as goal

pub returns-then-not-is_used : goal.returns-then-not-is_used
returns-then-not-is_used c =
    let both = not_entered _ _ _ _ _ c.of-h.ensures (sym c.is_used.ensures ∙ c.if-not-is_used.true) in
    record { entries = both.0; bytes = both.1 }

pub put_entry-requires : goal.put_entry-requires
put_entry-requires c =
    let a = c.args in
    let e = is_one a.img.now a.b a.buffer.now a.k _ c.of-h.ensures (sym c.is_used.ensures
    ∙ c.if-not-is_used.false) in
    omega (arith, e)

pub returns : goal.returns
returns c =
    let e = entered _ _ _ _ _ c.of-h.ensures (sym c.is_used.ensures ∙ c.if-not-is_used.false) in
    record { entries = e.0; bytes = c.put_entry.ensures ∙ e.1 }
