-- What stands in a buffer after GetIds and Profile wrote their entries, and the keys of the two documents.
-- Assumes nothing.
use Prim.Native.Nat.{ℕ, zero, suc, ◌+◌, ◌^◌, ◌≤◌, ◌<◌}
use mathlib.Core.Path.{◌≡◌, refl, sym, ap, ◌∙◌}
use mathlib.Core.List.{List, [], ◌∷◌, ◌++◌, map, append_assoc}
use mathlib.Core.Option.{some}
use native.Mathlib.Decide.{ℕ_discrete}
use native.Mathlib.Omega.{arith}
use borrow.Author.Tests.{eq-eqb, ne_eqb}
use lib.Dec.{eqb}
use lib.ListN.{length, drop}
use lib.Seq.{take_at, drop_at}
use Rattle.plain.specs.Tests.{when}
use Rattle.word.specs.Word.{part, le, word_at, bytes_of}
use Rattle.word.specs.Write.{over}
use Rattle.word.proofs.Laws.{length-bytes_of, le-bytes_of}
use Rattle.run.specs.Run.{rows, Every}
use Rattle.promise.specs.Keys.{end_key, key_at}
use Rattle.manual.specs.State.{BlockInfo}
use Rattle.demands.specs.Demand2.{key_in, ids_in, infos_in}

-- ---- keys: the end key is n

pub key_in_lem : (n stopped : ℕ) → n ≤ 4096 → stopped ≤ n → key_in n (some (key_at n stopped)) ≡ stopped
unfolding key_at
key_in_lem n stopped m l = go (ℕ_discrete stopped n)
  where
    go : Dec (stopped ≡ n) → key_in n (some (when (eqb stopped n) end_key stopped)) ≡ stopped
    go (yes q) = rw (eq-eqb stopped n q) (sym q)
    go (no q) = rw (ne_eqb stopped n q, ne_eqb stopped end_key (λ e. omega arith))

-- ---- a number that stands first, and one that follows k bytes

word_first : (v : ℕ) (l : List ℕ) → v < 2 ^ 64 → word_at 8 (bytes_of 8 v ++ l) 0 ≡ v
unfolding part
word_first v l h = ap le (take_at (bytes_of 8 v) l 8 (length-bytes_of 8 v)) ∙ le-bytes_of 8 v (omega arith)

-- ---- as many entries as are read

pub length_ids : (c : ℕ) (l : List ℕ) → length (ids_in c l) ≡ c
unfolding ids_in
length_ids zero l = refl
length_ids (suc c) l = ap suc (length_ids c (drop 8 l))

pub length_infos : (c : ℕ) (l : List ℕ) → length (infos_in c l) ≡ c
unfolding infos_in
length_infos zero l = refl
length_infos (suc c) l = ap suc (length_infos c (drop 24 l))

-- ---- the ids

pub ids_in_lem : (f : ℕ → ℕ) (row : ℕ → List ℕ) (bs rest : List ℕ)
    → Every (λ b. (row b ≡ bytes_of 8 (f b)) × (f b < 2 ^ 64)) bs
    → ids_in (length bs) (rows row bs ++ rest) ≡ map f bs
unfolding ids_in rows
ids_in_lem f row [] rest e = refl
ids_in_lem f row (b ∷ bs) rest e =
    rw (
      e.0.0,
      append_assoc (bytes_of 8 (f b)) (rows row bs) rest,
      word_first (f b) (rows row bs ++ rest) e.0.1,
      drop_at (bytes_of 8 (f b)) (rows row bs ++ rest) 8 (length-bytes_of 8 (f b)),
    )
    (ap (λ r. f b ∷ r) (ids_in_lem f row bs rest e.1))

-- what is written from the start of a buffer stands there
pub from_start : (l vs : List ℕ) → over l 0 vs ≡ vs ++ drop (0 + length vs) l
unfolding over
from_start l vs = refl

-- and the rest of the buffer is as it was
pub rest_kept : (l vs : List ℕ) (k : ℕ) → length vs ≡ k → drop k (over l 0 vs) ≡ drop k l
rest_kept l vs k e =
    let z : 0 + length vs ≡ length vs = omega arith in
    rw (from_start l vs, z, e) (drop_at vs (drop k l) k e)

-- ---- the infos

abbrev three_of : (a b c : ℕ) → List ℕ
three_of a b c = bytes_of 8 a ++ bytes_of 8 b ++ bytes_of 8 c

module _ (a b c : ℕ) (l : List ℕ) where
  first_of : part (three_of a b c ++ l) 0 8 ≡ bytes_of 8 a
  unfolding part bytes_of
  first_of = refl

  second-of : part (three_of a b c ++ l) 8 8 ≡ bytes_of 8 b
  unfolding part bytes_of
  second-of = refl

  third_of : part (three_of a b c ++ l) 16 8 ≡ bytes_of 8 c
  unfolding part bytes_of
  third_of = refl

  rest_of : drop 24 (three_of a b c ++ l) ≡ l
  unfolding bytes_of
  rest_of = refl

-- an entry: its three numbers, each of 64 bits
pub record Entry (f : ℕ → BlockInfo) (row : ℕ → List ℕ) (b : ℕ) : Type 0 where
  pub written : row b ≡ bytes_of 8 (f b).owner ++ bytes_of 8 (f b).created ++ bytes_of 8 (f b).expires
  pub owner : (f b).owner < 2 ^ 64
  pub created : (f b).created < 2 ^ 64
  pub expires : (f b).expires < 2 ^ 64

pub infos_in_lem : (f : ℕ → BlockInfo) (row : ℕ → List ℕ) (bs rest : List ℕ) → Every (Entry f row) bs
    → infos_in (length bs) (rows row bs ++ rest) ≡ map f bs
unfolding infos_in rows
infos_in_lem f row [] rest e = refl
infos_in_lem f row (b ∷ bs) rest e =
    let a : ℕ = (f b).owner in
    let c : ℕ = (f b).created in
    let x : ℕ = (f b).expires in
    let l : List ℕ = rows row bs ++ rest in
    rw (
      e.0.written,
      append_assoc (three_of a c x) (rows row bs) rest,
      first_of a c x l,
      second-of a c x l,
      third_of a c x l,
      rest_of a c x l,
    )
    (rw (
      le-bytes_of 8 a (omega (arith, e.0.owner)),
      le-bytes_of 8 c (omega (arith, e.0.created)),
      le-bytes_of 8 x (omega (arith, e.0.expires)),
    )
    (ap (λ r. f b ∷ r) (infos_in_lem f row bs rest e.1)))
