-- `image::map::lowest_free` meets its contract: 8 bytes that are 0 are passed, and others have the lowest at their
-- lowest bit.
use Rattle.std.proofs.Common.{◌≡◌, ◌+◌, ◌*◌, ◌/◌, ◌∙◌, arith}
use Rattle.image.proofs.Lowest.{eight_bits, lowest_turn, lowest_below, lowest_here, some_free, same_lowest}
use Rattle.image.proofs.map.lowest_free.Goals as goal

pub returns-then-m-ne0 : goal.returns-then-m-ne0
returns-then-m-ne0 c =
    let i = c.loop-i.i in
    let a = c.args in
    let m = c.get-m in
    let bits = eight_bits a.n a.img.now i m.result (λ x. omega (arith, c.type_inv.img x)) (omega arith) m.ensures in
    some_free _ _ _ _ (lowest_here a.n a.img.now (64 * i) 64 m.result bits (omega arith) (omega arith) (omega arith)
    ∙ c.loop-i.invariant)
    (lowest_below a.n a.img.now (64 * i) 64 m.result bits (omega arith) (omega arith) (omega arith))

pub loop-i-preserved : goal.loop-i-preserved
loop-i-preserved c =
    let i = c.loop-i.i in
    let a = c.args in
    let m = c.get-m in
    let e : 64 * (i + 1) ≡ 64 * i + 64 = omega arith in
    rw e
    (lowest_turn a.n a.img.now (64 * i) 64 m.result
    (eight_bits a.n a.img.now i m.result (λ x. omega (arith, c.type_inv.img x)) (omega arith) m.ensures)
    (omega arith) (omega arith) ∙ c.loop-i.invariant)

pub returns : goal.returns
returns c =
    let a = c.args in
    let e : 64 * c.loop-i.i ≡ 8 * (a.n / 64 * 8) = omega arith in
    c.free_from.ensures ∙ same_lowest a.n a.img.now _ 0 (rw e at c.loop-i.invariant)
