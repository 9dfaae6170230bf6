-- `word::fill` meets its contract: each byte of the part that is lent becomes v.
use Rattle.std.proofs.Common.{◌≡◌, ◌+◌, ◌-◌, length, take, drop, length-take, length-drop, arith}
use Rattle.std.proofs.lemmas.List.{length-replicate}
use Rattle.word.proofs.Bytes.{lent_over}
use Rattle.word.proofs.fill.Goals as goal

pub returns : goal.returns
returns c =
    let a = c.args in
    let e : length (take (a.at + a.k - a.at) (drop a.at a.s.now)) ≡ a.k =
    simp (length-take, length-drop) (omega arith) in
    rw (c.fill.ensures.after (λ y h. h), e)
    (lent_over a.s.now a.at (a.at + a.k - a.at) _ (omega (arith, length-replicate a.k a.v)))
