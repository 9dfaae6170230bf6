-- What a reader wants to know of a fresh image: its length, its trailer, and that it is sound: every header is zero,
-- every block is free, the map's spare bits are 0, every count is 0 and so is all data.
-- Assumes nothing.
use Prim.Native.Nat.{ℕ, ◌+◌, ◌*◌, ◌-◌, ◌/◌, ◌%◌, ◌^◌, ◌≤◌, ◌<◌}
use mathlib.Core.Path.{◌≡◌, refl, sym, ap, ◌∙◌}
use mathlib.Core.Bool.{true}
use mathlib.Core.List.{List, [], ◌∷◌}
use native.Mathlib.Omega.{arith}
use borrow.Author.Tests.{eqb-true}
use lib.Dec.{eqb}
use lib.ListN.{length, replicate}
use Rattle.word.specs.Word.{part, le, blank, all_zero, Bytes}
use Rattle.word.specs.Write.{over, Write, puts, Within, Spares}
use Rattle.word.proofs.Laws.{sizes, length-blank, length-puts, frames, got, part-part, part-replicate, part-blank}
use Rattle.word.proofs.Laws.{all_zero-blank, bytes-over, bytes-replicate, bytes-blank}
use Rattle.run.specs.Run.{all_of, times}
use Rattle.run.proofs.Laws.{all-each, picked_none}
use Rattle.promise.specs.Layout.{number_right, map_at, count_at, data_at, trailer_at, size_of}
use Rattle.promise.specs.Trailer.{trailer_bytes}
use Rattle.promise.specs.Header.{header_of, is_used, good_header}
use Rattle.promise.specs.Map.{free, spare_zero, good}
use Rattle.promise.specs.Counts.{count_of, owners, owned, data_of}
use Rattle.promise.specs.Sound.{Sound}
use Rattle.promise.specs.Format.{fresh_image}
use Rattle.promise.proofs.TrailerLaws.{number, length-trailer_bytes, bytes-trailer_bytes, Ends, bytes_are_rule}

-- each bit of a byte 255 is 1
bits_of_255 : (i : ℕ) → i < 8 → 255 / 2 ^ i % 2 ≡ 1
unfolding all_of
bits_of_255 i h = eqb-true _ _ (all-each (λ (i : ℕ). eqb (255 / 2 ^ i % 2) 1) 0 8 i refl (omega arith) (omega arith))

module _ (n : ℕ) where
  -- the two writes of a fresh image
  abbrev writes : List Write
  writes = record { at = map_at n; bytes = replicate (n / 8) 255 } ∷ record
      { at = trailer_at n; bytes = trailer_bytes n 0 } ∷ []

  within : Within (length (blank (size_of n))) writes
  within = simp (sizes, length-trailer_bytes) (omega arith)

  pub fresh-length : length (fresh_image n) ≡ size_of n
  unfolding fresh_image
  fresh-length = length-puts writes (blank (size_of n)) within ∙ length-blank (size_of n)

  pub fresh-bytes : Bytes (fresh_image n)
  unfolding fresh_image puts
  fresh-bytes =
      bytes-over (over (blank (size_of n)) (map_at n) (replicate (n / 8) 255)) (trailer_at n) (trailer_bytes n 0)
      (bytes-over (blank (size_of n)) (map_at n) (replicate (n / 8) 255) (bytes-blank (size_of n))
      (bytes-replicate (n / 8) 255 (omega arith)))
      (bytes-trailer_bytes n 0)

  -- what the two writes spare is zero
  zeroed : (a k : ℕ) → a + k ≤ size_of n → Spares a k writes → part (fresh_image n) a k ≡ blank k
  unfolding fresh_image
  zeroed a k h s = frames writes (blank (size_of n)) a k within s ∙ part-blank (size_of n) a k h

  pub fresh_header : (b : ℕ) → b < n → header_of (fresh_image n) b ≡ blank 64
  unfolding header_of
  fresh_header b h = zeroed (64 * b) 64 (omega arith) (simp (sizes, length-trailer_bytes) (omega arith))

  pub fresh_spare : spare_zero n (fresh_image n) ≡ true
  unfolding spare_zero
  fresh_spare =
      ap all_zero (zeroed (map_at n + n / 8) (512 - n / 8) (omega arith)
      (simp (sizes, length-trailer_bytes) (omega arith)))
      ∙ all_zero-blank (512 - n / 8)

  pub fresh-owned : (u : ℕ) → owned n (fresh_image n) u ≡ 0
  unfolding owned owners times part le blank
  fresh-owned u =
      rw (picked_none (λ b. is_used (header_of (fresh_image n) b)) 0 n (λ b l h. rw (fresh_header b (omega arith))))

  -- the rest asks that N is right: that the map is within its block
  module _ (r : number_right n ≡ true) where
    pub fresh-ends : Ends (fresh_image n) n 0
    unfolding fresh_image
    fresh-ends =
        bytes_are_rule (fresh_image n) n 0 (number n r) (omega arith) fresh-length
        (rw length-trailer_bytes at (got 1 writes (blank (size_of n)) within tt))

    pub fresh-free : (b : ℕ) → b < n → free n (fresh_image n) b ≡ true
    unfolding free fresh_image le
    fresh-free b h =
        let k = number n r in
        let m : part (fresh_image n) (map_at n) (n / 8) ≡ replicate (n / 8) 255 =
        simp sizes at (got 0 writes (blank (size_of n)) within (simp (sizes, length-trailer_bytes) (omega arith))) in
        rw (
          ← part-part (fresh_image n) (map_at n) (n / 8) (b / 8) 1 (omega arith),
          m,
          part-replicate (n / 8) 255
              (b / 8) 1 (omega arith),
          bits_of_255 (b % 8) (omega arith),
        )

    pub fresh-count : (u : ℕ) → u < 64 → count_of n (fresh_image n) u ≡ 0
    unfolding count_of le blank
    fresh-count u h =
        let k = number n r in
        rw (
          zeroed (count_at n 0) 512 (omega arith) (simp (sizes, length-trailer_bytes) (omega arith)),
          part-blank 512
              (8 * u) 8 (omega arith),
        )

    fresh-good : (b : ℕ) → b < n → good (fresh_image n) b ≡ true
    unfolding good good_header
    fresh-good b h = rw (fresh-ends.number_is, fresh_header b h, fresh-free b h, all_zero-blank 64)

    pub fresh-data : (b : ℕ) → b < n → data_of n (fresh_image n) b ≡ blank 512
    unfolding data_of
    fresh-data b h =
        let k = number n r in
        zeroed (data_at n b) 512 (omega arith) (simp (sizes, length-trailer_bytes) (omega arith))

-- A FRESH IMAGE IS SOUND
pub fresh_sound : (n : ℕ) → number_right n ≡ true → Sound (fresh_image n)
fresh_sound n r =
    let e = (fresh-ends n r).number_is in
    record {
      trailer = (fresh-ends n r).right;
      headers = λ b l. fresh-good n r b (omega arith);
      spare = rw e (fresh_spare n);
      counts = λ u l. rw e (fresh-count n r u l ∙ sym (fresh-owned n u));
    }
