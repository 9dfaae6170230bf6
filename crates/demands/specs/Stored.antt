-- PRG-62's state of an image: the constants of a store of n blocks, the map of stored blocks, from headers and data
-- alone, and the set of new ids, from the clock.
use Rattle.std.specs.Prelude.{ℕ, ◌^◌, ◌≤◌, ◌<◌, ◌≡◌, Bool, true, ◌&&◌, List, ◌++◌, eqb, ltb}
use Rattle.std.proofs.Math.Option.{Option, none, some}
use Rattle.std.proofs.Common.{arith, lt-ltb, le-leb, ltb-true}
use Rattle.plain.specs.Tests.{when, both}
use Rattle.ident.specs.Ident.{null_id, place, undone, id_of, time_of, shaped_in}
use Rattle.ident.proofs.Laws.{undo_id, id_below, time_back, block_back, ShapedAs, shaped_made}
use Rattle.promise.specs.Trailer.{clock_of}
use Rattle.promise.specs.Header.{header_of, owner_of, id_in, created_of, expires_of, tag_of, is_used}
use Rattle.promise.specs.Counts.{data_of}
use Rattle.promise.specs.Lookup.{leads_to}
use Rattle.manual.specs.Sets.{Set, ◌∈◌}
use Rattle.manual.specs.Given.{Constants}
use Rattle.manual.specs.State.{Block, Blocks, SS}

-- ---- BlockId: the numbers of 64 bits that are shaped as an id

unfoldable pub is_id : ℕ → Set
is_id n x = ltb x (2 ^ 64) && shaped_in n (undone x)

-- three laws that `constants` needs: an id that is made is one
pub made_id : (n time b : ℕ) → 1 ≤ time → time < 2 ^ 40 → b < 4096 → b < n → is_id n (id_of time b) ≡ true
unfolding is_id shaped_in
made_id n time b l u v h =
    rw (lt-ltb _ _ (id_below time b u v), time_back time b u v, block_back time b u v, undo_id time b u v)
    (rw (lt-ltb (place time b) (2 ^ 52) (omega arith), le-leb 1 time l, lt-ltb b n h))

-- one that is one was made from its time and its block number
pub id_made : (n x : ℕ) → x ∈ is_id n → ShapedAs n x
unfolding is_id
id_made n x e =
    let w = both (ltb x (2 ^ 64)) (shaped_in n (undone x)) e in
    shaped_made n x (ltb-true x (2 ^ 64) w.0) w.1

-- and each block number has one
pub first_id : (n b : ℕ) → n ≤ 4096 → b < n → (x : ℕ) × (x ∈ is_id n) × (leads_to x ≡ b)
first_id n b m l =
    (id_of 1 b, made_id n 1 b (omega arith) (omega arith) (omega arith) l, block_back 1 b (omega arith) (omega arith))

-- what document 01 settles, for a store of n blocks
abbrev pub constants : (n : ℕ) → n ≤ 4096 → Constants
constants n m =
    record {
      MaxBlocks = n;
      MaxInfos = 64;
      Manager = 0;
      NullId = null_id;
      BlockId = is_id n;
      num = leads_to;
      time = λ x. time_of (undone x);
      numbered = λ x e. (id_made n x e).stored;
      named = λ b l. first_id n b m l;
    }

-- ---- the stored blocks

-- a header holds the id x: it is used and has this id, which is shaped
unfoldable pub holds : (n x : ℕ) → List ℕ → Bool
holds n x h = shaped_in n (undone x) && is_used h && eqb (id_in h) x

-- the block of a header and its data: the first 16 of its 528 bytes are the tag. PRG-62's created ≤ expires is no part
-- of it: a block that Replace stores keeps the old one's expires, which may be before now.
abbrev pub block_in : (h bytes : List ℕ) → Block
block_in h bytes = record {
  owner = owner_of h;
  created = created_of h;
  expires = expires_of h;
  bytes = tag_of h ++ bytes;
}

abbrev pub entry : (n x : ℕ) (h bytes : List ℕ) → Option Block
entry n x h bytes = when (holds n x h) (some (block_in h bytes)) none

-- x is looked for where its number says
unfoldable pub blocks : (n : ℕ) → List ℕ → Blocks
blocks n img x = entry n x (header_of img (leads_to x)) (data_of n img (leads_to x))

-- PRG-62 takes from the new ids those that are stored (newids' = newids \ dom blocks'); document 01 reads them as the
-- ids whose time is above the clock (and whose block number is below n, as of all of BlockId)
abbrev pub stored : (n : ℕ) → List ℕ → SS
stored n img = record { blocks = blocks n img; newids = λ x. is_id n x && ltb (clock_of img) (time_of (undone x)) }
