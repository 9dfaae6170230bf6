-- `image::header::put_header` meets its contract: eight writes, one after the other, are the header.
use Rattle.std.proofs.Common.{arith}
use Rattle.image.proofs.Headers.{header_written}
use Rattle.image.proofs.header.put_header.Goals as goal

pub returns : goal.returns
returns c =
    let p = c.requires in
    rw (
      c.clear-2.ensures,
      c.paste.ensures,
      c.put-5.ensures,
      c.put-4.ensures,
      c.put-3.ensures,
      c.clear.ensures,
      c.put-2.ensures,
      c.put.ensures,
    )
    (header_written _ _ _ _ _ _ _ (omega (arith, p.0)) p.2)
