-- A change of one block leaves a sound image sound, and so does a later clock.
-- Assumes nothing.
use Prim.Native.Nat.{ℕ, ◌+◌, ◌-◌, ◌/◌, ◌^◌, ◌≤◌, ◌<◌}
use mathlib.Core.Path.{◌≡◌, sym, ap, ap₂, ◌∙◌}
use mathlib.Core.Bool.{true, false}
use mathlib.Core.List.{List}
use mathlib.Core.Logic.{◌≢◌}
use native.Mathlib.Decide.{ℕ_discrete}
use native.Mathlib.Omega.{arith}
use borrow.Author.Tests.{lt-ltb}
use lib.ListN.{length}
use Rattle.plain.specs.Tests.{except}
use Rattle.word.specs.Word.{part, le, word_at, bytes_of}
use Rattle.word.specs.Write.{puts, Apart, over}
use Rattle.word.proofs.Laws.{sizes, length-bytes_of, length_over, part-part, frame, same, le-bytes_of}
use Rattle.run.specs.Run.{one}
use Rattle.run.proofs.Tally.{picked_same, picked_changed}
use Rattle.promise.specs.Layout.{header_at, map_at, count_at, data_at, trailer_at}
use Rattle.promise.specs.Trailer.{trailer_of, n_of, clock_of, right_trailer, trailer_right}
use Rattle.promise.specs.Header.{header_of, is_used, good_header}
use Rattle.promise.specs.Map.{free, spare_zero, good}
use Rattle.promise.specs.Counts.{count_of, owned_by, data_of, owned}
use Rattle.promise.specs.Sound.{Sound}
use Rattle.promise.proofs.TrailerLaws.{right, trailer_at_lem}
use Rattle.promise.proofs.CountLaws.{owned-picked}
use Rattle.promise.proofs.ScavengeLaws.{clocked}
use Rattle.promise.proofs.GoodLaws.{good-later}

-- ---- a change of block b: all else is as it was, the count of its owners before and after goes with it, and its
-- header is good

pub record Change (n b : ℕ) (s s' : List ℕ) : Type 0 where
  pub size : length s' ≡ length s
  pub trailer : part s' (trailer_at n) 512 ≡ part s (trailer_at n) 512
  pub spare : spare_zero n s' ≡ spare_zero n s
  pub headers : (c : ℕ) → c < n → c ≢ b → header_of s' c ≡ header_of s c
  pub bits : (c : ℕ) → c < n → c ≢ b → free n s' c ≡ free n s c
  pub bytes : (c : ℕ) → c < n → c ≢ b → data_of n s' c ≡ data_of n s c
  pub left : is_used (header_of s' b) ≡ false → data_of n s' b ≡ data_of n s b
  pub counts : (u : ℕ) → u < 64 → count_of n s' u + one (owned_by s u) b ≡ count_of n s u + one (owned_by s' u) b
  pub fine : good_header (clock_of s) b (free n s' b) (header_of s' b) ≡ true

pub record Keeps (s s' : List ℕ) : Type 0 where
  pub sound : Sound s'
  pub number : n_of s' ≡ n_of s
  pub clock : clock_of s' ≡ clock_of s

module _ (s s' : List ℕ) (b : ℕ) (d : Sound s) (l : b < n_of s) (c : Change (n_of s) b s s') where
  abbrev n : ℕ
  n = n_of s

  same_end : trailer_of s' ≡ trailer_of s
  same_end =
      let r = right s d.trailer in
      trailer_at_lem s' n (c.size ∙ r.size) ∙ c.trailer ∙ sym (trailer_at_lem s n r.size)

  same_number : n_of s' ≡ n_of s
  unfolding n_of
  same_number = ap (λ r. word_at 4 r 0) same_end

  same_clock : clock_of s' ≡ clock_of s
  unfolding clock_of
  same_clock = ap (λ r. word_at 8 r 24) same_end

  same_right : trailer_right s' ≡ true
  unfolding trailer_right
  same_right = ap₂ right_trailer c.size same_end ∙ d.trailer

  good_header_lem : (a : ℕ) → a < n → good s' a ≡ true
  unfolding good
  good_header_lem a h = rw (same_clock, same_number) (go (ℕ_discrete a b))
    where
      go : Dec (a ≡ b) → good_header (clock_of s) a (free n s' a) (header_of s' a) ≡ true
      go (yes q) = rw q c.fine
      go (no q) = rw (c.headers a h q, c.bits a h q) (d.headers a h)

  same_owned : (u : ℕ) → owned n s' u + one (owned_by s u) b ≡ owned n s u + one (owned_by s' u) b
  unfolding owned_by
  same_owned u =
      rw (owned-picked n s' u, owned-picked n s u)
      (picked_changed (owned_by s u) (owned_by s' u) b 0 n (omega arith) (omega arith)
      (λ x v w q. rw (c.headers x (omega arith) q)))

  pub change_keeps : Keeps s s'
  change_keeps =
      record {
        sound = record {
          trailer = same_right;
          headers = λ a h. good_header_lem a (rw same_number at h);
          spare = rw same_number (c.spare ∙ d.spare);
          counts = λ u h. rw same_number (omega (arith, c.counts u h, same_owned u, d.counts u h));
        };
        number = same_number;
        clock = same_clock;
      }

-- ---- the clock

-- a trailer whose clock alone is another is right
clock-moved : (size : ℕ) (t t' : List ℕ) → ((i k : ℕ) → i + k ≤ 512 → Apart i k 24 8 → part t' i k ≡ part t i k)
    → word_at 8 t' 24 < 2 ^ 40 → right_trailer size t ≡ true → right_trailer size t' ≡ true
unfolding right_trailer
clock-moved size t t' f h e =
    rw (
      f 0 4 (omega arith) (omega arith),
      f 4 4 (omega arith) (omega arith),
      f 8 4 (omega arith) (omega arith),
      f 12 4 (omega arith) (omega arith),
      f 16 4 (omega arith) (omega arith),
      f 20 4 (omega arith) (omega arith),
      f 32 476 (omega arith) (omega arith),
      f 508 4 (omega arith) (omega arith),
    )
    (except _ 7 _ (lt-ltb (word_at 8 t' 24) (2 ^ 40) h) e)

-- what a later clock leaves: all but the clock
pub record Ticked (img : List ℕ) (time : ℕ) (s : List ℕ) : Type 0 where
  pub sound : Sound s
  pub number : n_of s ≡ n_of img
  pub clock : clock_of s ≡ time
  pub headers : (b : ℕ) → b < n_of img → header_of s b ≡ header_of img b
  pub bytes : (b : ℕ) → b < n_of img → data_of (n_of img) s b ≡ data_of (n_of img) img b
  pub bits : (b : ℕ) → b < n_of img → free (n_of img) s b ≡ free (n_of img) img b
  pub counts : (u : ℕ) → count_of (n_of img) s u ≡ count_of (n_of img) img u
  pub map : (b : ℕ) → b < n_of img → part s (map_at (n_of img) + b / 8) 1 ≡ part img (map_at (n_of img) + b / 8) 1

module _ (img : List ℕ) (time : ℕ) (d : Sound img) (later : clock_of img ≤ time) (u : time < 2 ^ 40) where
  abbrev m : ℕ
  m = n_of img

  -- nothing but the clock is touched
  abbrev s : List ℕ
  s = over img (trailer_at m + 24) (bytes_of 8 time)

  fits : trailer_at m + 24 + length (bytes_of 8 time) ≤ length img
  fits = let r = right img d.trailer in simp sizes (omega (arith, r.size))

  spared : (a k : ℕ) → Apart a k (trailer_at m + 24) 8 → part s a k ≡ part img a k
  spared a k p = frame img (trailer_at m + 24) (bytes_of 8 time) fits a k (rw length-bytes_of p)

  its_size : length s ≡ length img
  its_size = length_over img (trailer_at m + 24) (bytes_of 8 time) fits

  its_end : trailer_of s ≡ part s (trailer_at m) 512
  its_end = trailer_at_lem s m (its_size ∙ (right img d.trailer).size)

  old_end : trailer_of img ≡ part img (trailer_at m) 512
  old_end = trailer_at_lem img m (right img d.trailer).size

  ends : (i k : ℕ) → i + k ≤ 512 → Apart i k 24 8 → part (trailer_of s) i k ≡ part (trailer_of img) i k
  ends i k h p =
      rw (its_end, old_end, part-part s (trailer_at m) 512 i k h, part-part img (trailer_at m) 512 i k h)
      (spared (trailer_at m + i) k
      (λ x a b c e. p (x - trailer_at m) (omega arith) (omega arith) (omega arith) (omega arith)))

  its_clock : clock_of s ≡ time
  unfolding clock_of
  its_clock =
      rw (its_end, part-part s (trailer_at m) 512 24 8 (omega arith))
      (ap le (rw length-bytes_of at (same img (trailer_at m + 24) (bytes_of 8 time) fits))
      ∙ le-bytes_of 8 time (omega arith))

  its_number : n_of s ≡ n_of img
  unfolding n_of
  its_number = ap le (ends 0 4 (omega arith) (omega arith))

  its_right : trailer_right s ≡ true
  unfolding trailer_right clock_of
  its_right =
      ap (λ (z : ℕ). right_trailer z (trailer_of s)) its_size
      ∙ (clock-moved (length img) (trailer_of img) (trailer_of s) ends (rw its_clock u) d.trailer)

  its_header : (b : ℕ) → b < m → header_of s b ≡ header_of img b
  unfolding header_of
  its_header b h = spared (header_at b) 64 (omega arith)

  its_bytes : (b : ℕ) → b < m → data_of m s b ≡ data_of m img b
  unfolding data_of
  its_bytes b h = spared (data_at m b) 512 (omega arith)

  its_bit : (b : ℕ) → b < m → free m s b ≡ free m img b
  unfolding free
  its_bit b h = rw (spared (map_at m + b / 8) 1 (omega arith))

  its_count : (u : ℕ) → count_of m s u ≡ count_of m img u
  unfolding count_of
  its_count u = rw (spared (count_at m 0) 512 (omega arith))

  its_spare : spare_zero m s ≡ true
  unfolding spare_zero
  its_spare = rw (spared (map_at m + m / 8) (512 - m / 8) (omega (arith, (right img d.trailer).number.most)))
      d.spare

  its_owned : (u : ℕ) → owned m s u ≡ owned m img u
  unfolding owned_by
  its_owned u =
      rw (owned-picked m s u, owned-picked m img u)
      (ap length (picked_same (owned_by s u) (owned_by img u) 0 m (λ b l h. rw (its_header b (omega arith)))))

  pub ticked : Ticked img time (clocked (n_of img) time img)
  unfolding clocked puts good
  ticked =
      record {
        sound = record {
          trailer = its_right;
          headers = λ b h. rw (its_clock, its_number) (let l : b < m = rw its_number at h in
              rw (its_header b l, its_bit b l) (good-later (clock_of img) time b _ _ later (d.headers b l)));
          spare = rw its_number its_spare;
          counts = λ u h. rw its_number (its_count u ∙ d.counts u h ∙ sym (its_owned u));
        };
        number = its_number;
        clock = its_clock;
        headers = its_header;
        bytes = its_bytes;
        bits = its_bit;
        counts = its_count;
        map = λ b h. spared (map_at m + b / 8) 1 (omega arith);
      }
