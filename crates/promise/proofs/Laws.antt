-- What a reader wants to know of the definitions: of the layout, of soundness, of times.
-- Assumes nothing.
use Prim.Native.Nat.{ℕ, ◌+◌, ◌*◌, ◌/◌, ◌%◌, ◌≤◌}
use mathlib.Core.Path.{◌≡◌, refl}
use mathlib.Core.Bool.{true, false, and-false}
use mathlib.Core.List.{List}
use native.Mathlib.Omega.{arith}
use borrow.Author.Tests.{eqb-true, eq-eqb, le-ltb}
use lib.Dec.{eqb}
use Rattle.plain.specs.Tests.{both}
use Rattle.run.proofs.Laws.{all-each, each_all}
use Rattle.promise.specs.Layout.{header_at, map_at, count_at, data_at, trailer_at, size_of}
use Rattle.promise.specs.Trailer.{n_of, back_to_headers, back_to_map, back_to_counts, back_to_data}
use Rattle.promise.specs.Header.{header_of, expires_of, later_of}
use Rattle.promise.specs.Map.{good}
use Rattle.promise.specs.Counts.{count_of, owned}
use Rattle.promise.specs.Sound.{sound_image, Sound}
use Rattle.promise.specs.Scavenge.{expired}

-- ---- the layout

-- N/8 header blocks, one map block, one counts block, N data blocks, one trailer block
pub blocks : (n : ℕ) → n % 8 ≡ 0 → size_of n ≡ 512 * (n / 8 + 1 + 1 + n + 1)
blocks n h = omega arith

pub sizes : (size_of 8 ≡ 6144) × (size_of 56 ≡ 33792) × (size_of 4096 ≡ 2360832)
sizes = (refl, refl, refl)

-- the trailer points back to the first header block, the map, the counts and the first data block
pub distances : (n : ℕ) → n % 8 ≡ 0
    → (header_at 0 + 512 * back_to_headers n ≡ trailer_at n)
    × (map_at n + 512 * back_to_map n ≡ trailer_at n)
    × (count_at n 0 + 512 * back_to_counts n ≡ trailer_at n)
    × (data_at n 0 + 512 * back_to_data n ≡ trailer_at n)
distances n h = (omega arith, omega arith, omega arith, omega arith)

pub distances_of_8 : (back_to_headers 8 ≡ 11) × (back_to_map 8 ≡ 10) × (back_to_counts 8 ≡ 9) × (back_to_data 8 ≡ 8)
distances_of_8 = (refl, refl, refl, refl)

-- ---- the test of soundness and the facts say the same

pub sound : (img : List ℕ) → sound_image img ≡ true → Sound img
unfolding sound_image count_of owned
sound img h =
    let w = both _ _ h in
    let v = both _ _ w.0 in
    let u = both _ _ v.0 in
    record {
      trailer = u.0;
      headers = λ b l. all-each (good img) 0 (n_of img) b u.1 (omega arith) (omega arith);
      spare = v.1;
      counts = λ c l. eqb-true _ _
          (all-each (λ u. eqb (count_of (n_of img) img u) (owned (n_of img) img u)) 0 64 c w.1 (omega arith)
          (omega arith));
    }

pub is_sound : (img : List ℕ) → Sound img → sound_image img ≡ true
unfolding sound_image count_of owned
is_sound img s =
    rw (
      s.trailer,
      each_all (good img) 0 (n_of img) (λ b l h. s.headers b (omega arith)),
      s.spare,
      each_all (λ u. eqb (count_of (n_of img) img u) (owned (n_of img) img u)) 0 64
          (λ u l h. eq-eqb _ _ (s.counts u (omega arith))),
    )

-- ---- times

-- the later of the two is neither before now nor before the asked expiry
pub later : (time expiry : ℕ) → (time ≤ later_of time expiry) × (expiry ≤ later_of time expiry)
unfolding later_of
later time expiry = (omega arith, omega arith)

-- a block that expires now stays
pub stays_now : (img : List ℕ) (time b : ℕ) → expires_of (header_of img b) ≡ time → expired img time b ≡ false
unfolding expired
stays_now img time b e = rw (le-ltb (expires_of (header_of img b)) time (omega arith), and-false)
