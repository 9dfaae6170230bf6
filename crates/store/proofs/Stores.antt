-- The stores of each operation, one after the other, are its list of writes: an earlier one leaves the map byte as it
-- was.
-- Assumes nothing.
use Prim.Native.Nat.{ℕ, ◌+◌, ◌/◌, ◌^◌, ◌≤◌, ◌<◌, max}
use mathlib.Core.Path.{◌≡◌, ap, ◌∙◌}
use mathlib.Core.List.{List, [], ◌∷◌}
use native.Mathlib.Omega.{arith}
use lib.ListN.{length}
use Rattle.word.specs.Word.{part, le}
use Rattle.word.specs.Write.{Write, puts, Within, Spares}
use Rattle.word.proofs.Laws.{sizes, length_part, length-puts, frames}
use Rattle.kinds.specs.Kinds.{tick}
use Rattle.kinds.specs.declared.Tick.{Tick}
use Rattle.promise.specs.Layout.{map_at}
use Rattle.promise.specs.Trailer.{clock_set}
use Rattle.promise.specs.Header.{header_of, expires_of, later_of, header_bytes, header_zeroed}
use Rattle.promise.specs.Map.{free, map_byte, bit_taken, bit_freed}
use Rattle.promise.specs.Counts.{count_set}
use Rattle.promise.proofs.FieldLaws.{length-header_bytes}
use Rattle.image.specs.Image.{Laid}
use Rattle.store.specs.Store.{block_writes, fill_writes}

-- ---- the later of two times

module _ (time expiry : Tick) where
  pub expiry_later : time.0 < expiry.0 → expiry ≡ tick (later_of time.0 expiry.0)
  unfolding later_of
  expiry_later h = let e : expiry.0 ≡ max time.0 expiry.0 = omega arith in ap tick e

  pub later_is : (x : Tick) → x ≡ tick (later_of time.0 expiry.0) → x.0 ≡ later_of time.0 expiry.0
  later_is x e = ap (λ (y : Tick). y.0) e

  pub time_later : expiry.0 ≤ time.0 → time ≡ tick (later_of time.0 expiry.0)
  unfolding later_of
  time_later h = let e : time.0 ≡ max time.0 expiry.0 = omega arith in ap tick e

pub later_fits : (time expiry : ℕ) → time < 2 ^ 40 → expiry < 2 ^ 40 → later_of time expiry < 2 ^ 40
unfolding later_of
later_fits time expiry h k = omega arith

-- ---- a header's expires, as it was read

pub lent_expires : (img : List ℕ) (b : ℕ) (h : List ℕ) → h ≡ header_of img b → (x : Tick) → x ≡ tick (expires_of h)
    → x.0 ≡ expires_of (header_of img b)
lent_expires img b h p x e = rw p at (ap (λ (y : Tick). y.0) e)

pub lent_fits : (img : List ℕ) (b : ℕ) → expires_of (header_of img b) < 2 ^ 40 → (h : List ℕ) → h ≡ header_of img b
    → (x : Tick) → x ≡ tick (expires_of h) → x.0 < 2 ^ 40
lent_fits img b f h p x e = rw (lent_expires img b h p x e) f

-- ---- writes that leave the map byte of a block

pub record Kept (img img' : List ℕ) (n b : ℕ) : Type 0 where
  pub laid : Laid img' n
  pub map_byte_lem : map_byte n img' b ≡ map_byte n img b
  pub bit : free n img' b ≡ free n img b

kept : (img : List ℕ) (n b : ℕ) (ws : List Write) → Laid img n → Within (length img) ws → Spares (map_at n + b / 8) 1 ws
    → Kept img (puts img ws) n b
unfolding free
kept img n b ws l w s =
    let e : map_byte n (puts img ws) b ≡ map_byte n img b = ap le (frames ws img (map_at n + b / 8) 1 w s) in
    record { laid = record { number = l.number; size = length-puts ws img w ∙ l.size }; map_byte_lem = e; bit = rw e }

-- ---- Destroy: the clock and the header

module _ (img : List ℕ) (n b time : ℕ) (l : Laid img n) (h : b < n) (i1 i2 : List ℕ) (e1 : i1
    ≡ puts img (clock_set n time ∷ [])) (e2 : i2 ≡ puts i1 (header_zeroed b ∷ [])) where
  abbrev erased : List Write
  erased = clock_set n time ∷ header_zeroed b ∷ []

  both_done : i2 ≡ puts img erased
  unfolding puts
  both_done = rw (e2, e1)

  pub erase_kept : Kept img i2 n b
  erase_kept = rw both_done
      (kept img n b erased l (simp sizes (omega (arith, l.size, l.number.eights)))
      (simp sizes (omega (arith, l.number.eights))))

  pub erase_all : (owner count : ℕ) (i3 i4 : List ℕ) → i3 ≡ puts i2 (bit_freed n i2 b ∷ [])
      → i4 ≡ puts i3 (count_set n owner count ∷ [])
      → i4 ≡ puts img (clock_set n time ∷ header_zeroed b ∷ bit_freed n img b ∷ count_set n owner count ∷ [])
  unfolding puts
  erase_all owner count i3 i4 e3 e4 = rw (e4, e3, erase_kept.map_byte_lem, e2, e1)

-- ---- Create: the clock, the data and the header

module _ (img : List ℕ) (n b owner id expires : ℕ) (bytes : List ℕ) (time : ℕ) (l : Laid img n) (h : b < n)
    (f : length bytes ≡ 528) where
  abbrev block : List Write
  block = block_writes n b owner id expires bytes time

  data_size : length (part bytes 16 512) ≡ 512
  data_size = length_part bytes 16 512 (omega arith)

  header_size : length (header_bytes owner id time expires (part bytes 0 16)) ≡ 64
  header_size = length-header_bytes owner id time expires (part bytes 0 16) (length_part bytes 0 16 (omega arith))

  module _ (i1 : List ℕ) (e1 : i1 ≡ puts img block) where
    pub fill-kept : Kept img i1 n b
    fill-kept = rw e1 (kept img n b block l
        (simp (sizes, data_size, header_size) (omega (arith, l.size, l.number.eights)))
        (simp (sizes, data_size, header_size) (omega (arith, l.number.eights))))

    pub fill-all : (count : ℕ) (i2 i3 : List ℕ) → i2 ≡ puts i1 (bit_taken n i1 b ∷ [])
        → i3 ≡ puts i2 (count_set n owner count ∷ [])
        → i3 ≡ puts img (fill_writes img n b owner id expires count bytes time)
    unfolding puts
    fill-all count i2 i3 e2 e3 = rw (e3, e2, fill-kept.map_byte_lem, e1)
