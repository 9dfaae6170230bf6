-- `image::header::Header::shape_right` meets its contract: the tests of the first 8 bytes are tests of the number that
-- they spell.
use Rattle.std.proofs.Common.{◌+◌, ◌%◌, ◌^◌, ◌∙◌, arith, eq-eqb, ne_eqb}
use Rattle.image.proofs.Headers.{shape_word}
use Rattle.image.proofs.header.Header.shape_right.Goals as goal

pub returns-then-y-eq0 : goal.returns-then-y-eq0
returns-then-y-eq0 c =
    let h = c.args.self in
    let x = c.get-x in
    let s = shape_word h.bytes.now x.result ((x.result + 18446744073709551615) % 2 ^ 64) h.octets h.whole x.ensures
    (omega arith) (omega arith) in
    c.is_zero.ensures ∙ rw (eq-eqb _ 0 c.if-y-eq0.true) at s

pub returns-else-y-eq0 : goal.returns-else-y-eq0
returns-else-y-eq0 c =
    let h = c.args.self in
    let x = c.get-x in
    let s = shape_word h.bytes.now x.result ((x.result + 18446744073709551615) % 2 ^ 64) h.octets h.whole x.ensures
    (omega arith) (omega arith) in
    let n = ne_eqb _ 0 c.if-y-eq0.false in
    n ∙ rw n at s
