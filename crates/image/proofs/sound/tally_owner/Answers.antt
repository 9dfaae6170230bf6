-- `image::sound::tally_owner` meets its contract: the owner of a used header is a place of the tally.
use Rattle.std.proofs.Common.{◌/◌, arith}
use Rattle.plain.specs.Tests.{nth}
use Rattle.image.specs.Image.{shape_tests}
use Rattle.image.proofs.Headers.{owner_word}
use Rattle.image.proofs.Tallies.{tallied-used}
use Rattle.image.proofs.sound.tally_owner.Goals as goal

pub overflow_add-tally : goal.overflow_add-tally
overflow_add-tally c = omega (arith, c.requires.1 (c.get-x.result / 256))

pub returns : goal.returns
returns c =
    let h = c.args.h in
    let place = owner_word h.bytes.now c.get-x.result h.octets h.whole c.get-x.ensures c.requires.0 in
    tallied-used h.bytes.now c.args.tally.now (c.get-x.result / 256)
    (nth (shape_tests h.bytes.now) 0 c.requires.0) place.0

pub bounds-tally-u : goal.bounds-tally-u
bounds-tally-u c =
    let h = c.args.h in
    omega (arith, owner_word h.bytes.now c.get-x.result h.octets h.whole c.get-x.ensures c.requires.0)

pub bounds-tally-u-2 : goal.bounds-tally-u-2
bounds-tally-u-2 c =
    let h = c.args.h in
    omega (arith, owner_word h.bytes.now c.get-x.result h.octets h.whole c.get-x.ensures c.requires.0)
