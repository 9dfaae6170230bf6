-- What a sound image stores: each used header holds one id, which leads back to it, and no other.
-- Assumes nothing.
use Prim.Native.Nat.{ℕ, ◌^◌, ◌≤◌, ◌<◌}
use mathlib.Core.Path.{◌≡◌, refl, sym, ap, ◌∙◌}
use mathlib.Core.Bool.{Bool, true, false, ◌&&◌, and-false}
use mathlib.Core.List.{List}
use mathlib.Core.Option.{none, some}
use native.Mathlib.Omega.{arith}
use borrow.Author.Tests.{eqb-true, ltb-true, le-ltb, eq-eqb, ne_eqb}
use lib.Dec.{eqb, leb, ltb}
use Rattle.plain.specs.Tests.{when, both}
use Rattle.ident.specs.Ident.{undone, time_of, block_of, shaped_in}
use Rattle.ident.proofs.Laws.{time_back, block_back}
use Rattle.promise.specs.Trailer.{n_of, clock_of}
use Rattle.promise.specs.Header.{header_of, id_in, created_of, is_used}
use Rattle.promise.specs.Map.{free, good}
use Rattle.promise.specs.Counts.{data_of}
use Rattle.promise.specs.Sound.{Sound}
use Rattle.promise.specs.Lookup.{leads_to}
use Rattle.promise.proofs.TrailerLaws.{right}
use Rattle.promise.proofs.GoodLaws.{Used, used-here}
use Rattle.manual.specs.State.{Block, meets, such, SS}
use Rattle.manual.specs.Scan.{Shows}
use Rattle.demands.specs.Stored.{is_id, made_id, constants, holds, block_in, blocks, stored}

-- PRG-62's state of an image
abbrev pub state_of : List ℕ → SS
state_of img = stored (n_of img) img

-- ---- what stands at a block number

-- its id: it leads to b, it is one of BlockId, its time is when the block was created
pub record Stands (n clock b : ℕ) (h : List ℕ) : Type 0 where
  pub facts : Used clock b h
  pub leads : leads_to (id_in h) ≡ b
  pub dated : time_of (undone (id_in h)) ≡ created_of h
  pub is_id_lem : is_id n (id_in h) ≡ true

pub stands : (n clock b : ℕ) (h : List ℕ) → clock < 2 ^ 40 → n ≤ 4096 → b < n → Used clock b h → Stands n clock b h
stands n clock b h c m l f =
    record {
      facts = f;
      leads = ap leads_to f.id ∙ block_back (created_of h) b (omega (arith, f.past)) (omega arith);
      dated = ap (λ (x : ℕ). time_of (undone x)) f.id
          ∙ time_back (created_of h) b (omega (arith, f.past)) (omega arith);
      is_id_lem = ap (is_id n) f.id ∙ made_id n (created_of h) b f.made (omega (arith, f.past)) (omega arith) l;
    }

id_shaped : (n x : ℕ) → is_id n x ≡ true → shaped_in n (undone x) ≡ true
unfolding is_id
id_shaped n x e = (both (ltb x (2 ^ 64)) (shaped_in n (undone x)) e).1

pub shaped_number : (n x : ℕ) → shaped_in n (undone x) ≡ true → leads_to x < n
unfolding shaped_in
shaped_number n x e =
    ltb-true (block_of (undone x)) n
    (both (ltb (undone x) (2 ^ 52) && leb 1 (time_of (undone x))) (ltb (block_of (undone x)) n) e).1

-- ---- holding an id

pub holds_own : (n clock b : ℕ) (h : List ℕ) → is_used h ≡ true → Stands n clock b h → holds n (id_in h) h ≡ true
unfolding holds
holds_own n clock b h u s = rw (id_shaped n (id_in h) s.is_id_lem, u, eq-eqb (id_in h) (id_in h) refl)

pub record Held (n x : ℕ) (h : List ℕ) : Type 0 where
  pub number : leads_to x < n
  pub used : is_used h ≡ true
  pub same : id_in h ≡ x

pub held : (n x : ℕ) (h : List ℕ) → holds n x h ≡ true → Held n x h
unfolding holds
held n x h e =
    let w = both (shaped_in n (undone x) && is_used h) (eqb (id_in h) x) e in
    let v = both (shaped_in n (undone x)) (is_used h) w.0 in
    record { number = shaped_number n x v.0; used = v.1; same = eqb-true (id_in h) x w.1 }

pub holds-none : (n x : ℕ) (h : List ℕ) → is_used h ≡ false → holds n x h ≡ false
unfolding holds
holds-none n x h e = rw (e, and-false)

pub holds_other : (n x : ℕ) (h : List ℕ) → (id_in h ≡ x → ⊥) → holds n x h ≡ false
unfolding holds
holds_other n x h d = rw (ne_eqb (id_in h) x d, and-false)

-- an id whose number is past the last block
pub holds-far : (n x : ℕ) (h : List ℕ) → n ≤ leads_to x → holds n x h ≡ false
unfolding holds shaped_in
holds-far n x h l = rw (le-ltb (block_of (undone x)) n l, and-false)

-- ---- the sets that tests on blocks make

met : (t : Block → Bool) (b : Block) (q : Bool) → meets t (when q (some b) none) ≡ (q && t b)
met t b true = refl
met t b false = refl

-- the test of a block number that goes with a test of blocks
abbrev pub test_at : (n : ℕ) (img : List ℕ) → (Block → Bool) → ℕ → Bool
test_at n img t b = is_used (header_of img b) && t (block_in (header_of img b) (data_of n img b))

abbrev pub id_at : List ℕ → ℕ → ℕ
id_at img b = id_in (header_of img b)

such_is : (n : ℕ) (img : List ℕ) (t : Block → Bool) (x : ℕ)
    → such t (blocks n img) x ≡
    (holds n x (header_of img (leads_to x)) && t (block_in (header_of img (leads_to x)) (data_of n img (leads_to x))))
unfolding blocks
such_is n img t x = met t (block_in (header_of img (leads_to x)) (data_of n img (leads_to x)))
    (holds n x (header_of img (leads_to x)))

module _ (img : List ℕ) (s : Sound img) where
  abbrev n : ℕ
  n = n_of img

  abbrev clock : ℕ
  clock = clock_of img

  pub most : n_of img ≤ 4096
  most = (right img s.trailer).number.most

  pub stands_at : (b : ℕ) → b < n_of img → is_used (header_of img b) ≡ true
      → Stands (n_of img) (clock_of img) b (header_of img b)
  unfolding good
  stands_at b l u = stands n clock b (header_of img b) (right img s.trailer).clock most l
      (used-here clock b (free n img b) (header_of img b) (s.headers b l) u)

  -- ONE LAW FOR THE SETS OF ALL KEY CALLS: a set of stored blocks shows in the block numbers
  pub shows : (m : n_of img ≤ 4096) (t : Block → Bool)
      → Shows (constants (n_of img) m) (such t (blocks (n_of img) img)) (test_at (n_of img) img t) (id_at img)
  shows m t =
      record {
        holds = λ b l e.
            let w = both (is_used (header_of img b)) (t (block_in (header_of img b) (data_of n img b))) e in
            let z = stands_at b l w.0 in (
              such_is n img t (id_at img b) ∙ rw z.leads (rw (holds_own n clock b (header_of img b) w.0 z, w.1)),
              z.leads,
            );
        stands = λ x e.
            let h = header_of img (leads_to x) in
            let w = both (holds n x h) (t (block_in h (data_of n img (leads_to x)))) (sym (such_is n img t x) ∙ e) in
            let q = held n x h w.0 in
            let z = stands_at (leads_to x) q.number q.used in
            (ap (is_id n) (sym q.same) ∙ z.is_id_lem, rw (q.used, w.1), q.same);
      }
