-- A used block's header as it is written: what its fields read, and that it is right; and one whose expires alone is
-- another.
-- Assumes nothing.
use Prim.Native.Nat.{ℕ, ◌+◌, ◌^◌, ◌≤◌, ◌<◌}
use mathlib.Core.Path.{◌≡◌, refl, ap, ◌∙◌}
use mathlib.Core.Bool.{true}
use mathlib.Core.List.{List}
use native.Mathlib.Omega.{arith}
use borrow.Author.Tests.{eq-eqb, le-leb, lt-ltb}
use lib.ListN.{length, length-append, take}
use lib.Seq.{take_at, drop_at}
use Rattle.plain.specs.Tests.{except, also, done}
use Rattle.word.specs.Word.{part, le, word_at, bytes_of, blank, all_zero}
use Rattle.word.specs.Write.{Apart}
use Rattle.word.proofs.Laws.{le-bytes_of, all_zero-blank}
use Rattle.ident.specs.Ident.{id_of}
use Rattle.promise.specs.Header.{is_used, used_of, owner_of, id_in, created_of, expires_of, tag_of, header_bytes}
use Rattle.promise.specs.Header.{used_right}

-- the header of a block: of whom, from when, until when, with which tag
pub record Reads (h : List ℕ) (owner id created expires : ℕ) (tag : List ℕ) : Type 0 where
  pub used : is_used h ≡ true
  pub owner_is : owner_of h ≡ owner
  pub id_is : id_in h ≡ id
  pub created_is : created_of h ≡ created
  pub expires_is : expires_of h ≡ expires
  pub tag_is : tag_of h ≡ tag

pub length-header_bytes : (owner id created expires : ℕ) (tag : List ℕ) → length tag ≡ 16
    → length (header_bytes owner id created expires tag) ≡ 64
unfolding header_bytes bytes_of blank
length-header_bytes owner id created expires tag l = simp length-append (omega arith)

module _ (owner id created expires : ℕ) (tag : List ℕ) (o : owner < 64) (i : id < 2 ^ 64) (c : created < 2 ^ 40)
    (e : expires < 2 ^ 40) (l : length tag ≡ 16) where
  abbrev h : List ℕ
  h = header_bytes owner id created expires tag

  field : (at k v : ℕ) → v < 256 ^ k → part h at k ≡ bytes_of k v → word_at k h at ≡ v
  field at k v f p = ap le p ∙ le-bytes_of k v f

  at-used : used_of h ≡ 1
  unfolding part header_bytes bytes_of blank
  at-used = field 0 1 1 (omega arith) refl

  at_owner : owner_of h ≡ owner
  unfolding part header_bytes bytes_of blank
  at_owner = field 1 1 owner (omega arith) refl

  at_zero : part h 2 6 ≡ blank 6
  unfolding part header_bytes bytes_of blank
  at_zero = refl

  at_id : id_in h ≡ id
  unfolding part header_bytes bytes_of blank
  at_id = field 8 8 id (omega arith) refl

  at-created : created_of h ≡ created
  unfolding part header_bytes bytes_of blank
  at-created = field 16 8 created (omega arith) refl

  at_expires : expires_of h ≡ expires
  unfolding part header_bytes bytes_of blank
  at_expires = field 24 8 expires (omega arith) refl

  at_tag : tag_of h ≡ tag
  unfolding part header_bytes bytes_of blank
  at_tag = take_at tag (blank 16) 16 l

  at_end : part h 48 16 ≡ blank 16
  unfolding part header_bytes bytes_of blank
  at_end = ap (take 16) (drop_at tag (blank 16) 16 l)

  pub written_reads : Reads (header_bytes owner id created expires tag) owner id created expires tag
  written_reads =
      record {
        used = eq-eqb _ _ at-used;
        owner_is = at_owner;
        id_is = at_id;
        created_is = at-created;
        expires_is = at_expires;
        tag_is = at_tag;
      }

  pub written_right : (clock b : ℕ) → 1 ≤ created → created ≤ clock → 1 ≤ expires → id ≡ id_of created b
      → used_right clock b (header_bytes owner id created expires tag) ≡ true
  unfolding used_right
  written_right clock b p q r z =
      also _ _ (eq-eqb _ _ at-used)
      (also _ _ (ap all_zero at_zero ∙ all_zero-blank 6)
      (also _ _ (ap all_zero at_end ∙ all_zero-blank 16)
      (also _ _ (rw at_owner (le-leb owner 63 (omega arith)))
      (also _ _ (rw at-created (le-leb 1 created p))
      (also _ _ (rw at-created (le-leb created clock q))
      (also _ _ (rw at_expires (le-leb 1 expires r))
      (also _ _ (rw at_expires (lt-ltb expires (2 ^ 40) e))
      (also _ _ (rw (at_id, at-created) (eq-eqb id (id_of created b) z)) done))))))))

-- ---- expires alone is another

module _ (h h' : List ℕ) (expires : ℕ) (f : (i k : ℕ) → i + k ≤ 64 → Apart i k 24 8 → part h' i k
    ≡ part h i k) (g : expires_of h' ≡ expires) where
  pub moved_reads : is_used h ≡ true → Reads h' (owner_of h) (id_in h) (created_of h) expires (tag_of h)
  moved_reads u =
      record {
        used = rw (f 0 1 (omega arith) (omega arith)) u;
        owner_is = ap le (f 1 1 (omega arith) (omega arith));
        id_is = ap le (f 8 8 (omega arith) (omega arith));
        created_is = ap le (f 16 8 (omega arith) (omega arith));
        expires_is = g;
        tag_is = f 32 16 (omega arith) (omega arith);
      }

  pub moved_right : (clock b : ℕ) → 1 ≤ expires → expires < 2 ^ 40 → used_right clock b h ≡ true
      → used_right clock b h' ≡ true
  unfolding used_right
  moved_right clock b p q e =
      rw (
        f 0 1 (omega arith) (omega arith),
        f 1 1 (omega arith) (omega arith),
        f 2 6 (omega arith) (omega arith),
        f 8 8 (omega arith) (omega arith),
        f 16 8 (omega arith) (omega arith),
        f 48 16 (omega arith) (omega arith),
        g,
      )
      (except _ 7 _ (lt-ltb expires (2 ^ 40) q) (except _ 6 _ (le-leb 1 expires p) e))
