-- A store of four blocks and what becomes of it, for a walk with operations between its calls (proofs/Example.antt). An
-- id is time · 4 + block number.
use Rattle.std.specs.Prelude.{ℕ, ◌/◌, ◌%◌, [], ltb}
use Rattle.std.proofs.Math.Option.{none}
use Rattle.std.proofs.Common.{arith, lt-ltb}
use Rattle.manual.specs.Sets.{only, ◌∩◌, ◌∖◌}
use Rattle.manual.specs.Given.{Constants}
use Rattle.manual.specs.State.{Block, SS, expired, put, ◌⩤◌, later, NewIds}
use Rattle.manual.specs.Frames.{KeySet}

unfoldable pub k : Constants
k =
    record {
      MaxBlocks = 4;
      MaxInfos = 64;
      Manager = 0;
      NullId = 0;
      BlockId = λ x. ltb x 400;
      num = λ x. x % 4;
      time = λ x. x / 4;
      numbered = λ x h. omega arith;
      named = λ b l. (b, lt-ltb b 400 (omega arith), omega arith);
    }

abbrev pub block : (owner created expires : ℕ) → Block
block owner created expires = record { owner = owner; created = created; expires = expires; bytes = [] }

-- client 3 has blocks 0, 2 and 3, client 5 has block 1, which expires at 5; block 3 expires at 7; the clock is 4
abbrev pub first : SS
first =
    record {
      blocks = put (put (put (put (λ x. none) 19 (block 3 4 7)) 14 (block 3 3 90)) 9 (block 5 2 5)) 4 (block 3 1 90);
      newids = NewIds k 4;
    }

-- client 3 destroys block 0 at 5
abbrev pub second : SS
second = record { blocks = only 4 ⩤ first.blocks; newids = later k 5 first.newids }

-- and creates it anew at 6
abbrev pub third : SS
third = record { blocks = put second.blocks 24 (block 3 6 90); newids = later k 6 second.newids }

-- the manager scavenges at 7: block 1 goes, and block 3 stays
abbrev pub fourth : SS
fourth = record {
  blocks = (KeySet k 4 ∖ KeySet k 0) ∩ expired 7 third.blocks ⩤ third.blocks;
  newids = later k 7 third.newids;
}
