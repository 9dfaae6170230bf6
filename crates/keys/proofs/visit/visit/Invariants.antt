-- `keys::visit::visit` meets its contract. The invariant: what was passed, with what is still visited from here, is
-- what is visited in all; and those still to visit are all good where all are.
use Prim.Native.Nat.{◌+◌, ◌-◌}
use mathlib.Core.Path.{◌≡◌}
use Rattle.run.specs.Run.{visits, all_of}
use Rattle.promise.specs.Map.{good}
use Rattle.promise.specs.Counts.{owned_by}
use Rattle.keys.proofs.visit.visit.Given as goal

abbrev pub invariant-loop-b : goal.invariant-loop-b
invariant-loop-b l =
    (l.b - l.from + visits (owned_by l.image.bytes.now l.client.0) (l.from + l.most - l.b) l.wanted l.b
    ≡ visits (owned_by l.image.bytes.now l.client.0) l.most l.count l.from)
    × (all_of (good l.image.bytes.now) l.b
    (visits (owned_by l.image.bytes.now l.client.0) (l.from + l.most - l.b) l.wanted l.b)
    ≡ all_of (good l.image.bytes.now) l.from (visits (owned_by l.image.bytes.now l.client.0) l.most l.count l.from))
