-- `front::changing` meets its contract: a refusal of the image or the client is passed on.
use Rattle.std.proofs.Common.{sym, ◌∙◌, arith}
use Rattle.std.proofs.lemmas.Grind.{common_steps}
use Rattle.front.proofs.Fronts.{refused_front}
use Rattle.front.proofs.changing.Goals as goal

pub returns-in_err-t : goal.returns-in_err-t
returns-in_err-t c =
    let e = refused_front c.args.img.now c.args.client.0 c.args.expiry.0 c.args.time.0 c.in_err-t.field-0.0
    (sym c.reading.ensures ∙ c.in_err-t.was) in
    grind (arith, common_steps)
