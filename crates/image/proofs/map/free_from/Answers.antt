-- `image::map::free_from` meets its contract: a byte that is 0 is passed, and another has the lowest at its lowest bit.
use Rattle.std.proofs.Common.{◌≡◌, ◌+◌, ◌*◌, ◌∙◌, arith}
use Rattle.image.proofs.Lowest.{one_bits, lowest_turn, lowest_below, lowest_here, some_free, none_free}
use Rattle.image.proofs.map.free_from.Goals as goal

pub returns-then-m-ne0 : goal.returns-then-m-ne0
returns-then-m-ne0 c =
    let i = c.loop-i.i in
    let a = c.args in
    let m = c.get-m in
    let bits = one_bits a.n a.img.now i m.result m.ensures in
    some_free _ _ _ _ (lowest_here a.n a.img.now (8 * i) 8 m.result bits (omega arith) (omega arith) (omega arith)
    ∙ c.loop-i.invariant)
    (lowest_below a.n a.img.now (8 * i) 8 m.result bits (omega arith) (omega arith) (omega arith))

pub loop-i-preserved : goal.loop-i-preserved
loop-i-preserved c =
    let i = c.loop-i.i in
    let a = c.args in
    let m = c.get-m in
    let e : 8 * (i + 1) ≡ 8 * i + 8 = omega arith in
    rw e
    (lowest_turn a.n a.img.now (8 * i) 8 m.result (one_bits a.n a.img.now i m.result m.ensures)
    (omega arith) (omega arith) ∙ c.loop-i.invariant)

pub returns : goal.returns
returns c =
    let e : 8 * c.loop-i.i ≡ c.args.n = omega arith in
    none_free c.args.n c.args.img.now _ (rw e at c.loop-i.invariant)
