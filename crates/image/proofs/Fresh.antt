-- How Format's writes make a fresh image: its trailer, from numbers that follow one another and a mark after zeros, and
-- the whole.
-- Assumes nothing.
use Rattle.std.proofs.Common.{◌≡◌, ℕ, ◌+◌, ◌/◌, ◌≤◌, true, false, List, ◌++◌, length, replicate, sym, refl, ap, ◌∙◌}
use Rattle.std.proofs.Common.{arith, eq-eqb}
use Rattle.word.specs.Word.{part, bytes_of, blank}
use Rattle.word.specs.Write.{over, puts}
use Rattle.word.proofs.Laws.{sizes, length-bytes_of, length_over, length-blank, frame, part-part, part-blank, over_same}
use Rattle.word.proofs.Laws.{over_whole}
use Rattle.kinds.specs.declared.Report.TheVariants.{Success, BadImage}
use Rattle.promise.specs.Layout.{number_right, map_at, trailer_at, size_of}
use Rattle.promise.specs.Trailer.{trailer_bytes}
use Rattle.promise.specs.Format.{fresh_image, format_right, format_report, format_image, FormatPromise}
use Rattle.promise.proofs.TrailerLaws.{number}
use Rattle.image.proofs.Pieces.{after, next}
use Rattle.image.specs.Fresh.{numbers}
use Rattle.image.specs.Image.{Laid}

-- a write m bytes later, where those between are zs already
gap : (l : List ℕ) (at k m : ℕ) (xs zs ys : List ℕ) → length xs ≡ k → length zs ≡ m → at + (k + m) ≤ length l
    → part l (at + k) m ≡ zs
    → over (over l at xs) (at + (k + m)) ys ≡ over l at (xs ++ (zs ++ ys))
gap l at k m xs zs ys p q h e =
    let r : List ℕ = over l at xs in
    let n : length r ≡ length l = length_over l at xs (omega arith) in
    let f : part r (at + k) m ≡ zs = frame l at xs (omega arith) (at + k) m (omega arith) ∙ e in
    let s : over r (at + k) zs ≡ r = over_same r (at + k) zs (omega arith) (ap (part r (at + k)) q ∙ f) in
    let t : at + (k + m) ≡ at + k + m = omega arith in
    ap (λ o. over o (at + (k + m)) ys) (sym s)
    ∙ rw (t, after r (at + k) m zs ys q (omega arith)) (after l at k xs (zs ++ ys) p (omega arith))

-- five numbers of 4 bytes
pub five : (l : List ℕ) (at a b c d e : ℕ) → at ≤ length l
    → over (over (over (over (over l at (bytes_of 4 a)) (at + 4) (bytes_of 4 b)) (at + 8) (bytes_of 4 c)) (at + 12)
    (bytes_of 4 d)) (at + 16) (bytes_of 4 e)
    ≡ over l at (bytes_of 4 a ++ bytes_of 4 b ++ bytes_of 4 c ++ bytes_of 4 d ++ bytes_of 4 e)
five l at a b c d e h =
    let s1 = next l at h _ _ 4 (refl, length-bytes_of 4 a) (bytes_of 4 b) 4 (length-bytes_of 4 b) in
    let s2 = next l at h _ _ 8 s1 (bytes_of 4 c) 4 (length-bytes_of 4 c) in
    let s3 = next l at h _ _ 12 s2 (bytes_of 4 d) 4 (length-bytes_of 4 d) in
    (next l at h _ _ 16 s3 (bytes_of 4 e) 4 (length-bytes_of 4 e)).0

-- the numbers and the mark make the trailer where there were zeros
pub trailer_made : (l : List ℕ) (n : ℕ) → length l ≡ size_of n → part l (trailer_at n) 512 ≡ blank 512
    → over (over l (trailer_at n) (numbers n)) (trailer_at n + 508) (bytes_of 4 0x32365250)
    ≡ over l (trailer_at n) (trailer_bytes n 0)
unfolding bytes_of blank trailer_bytes
trailer_made l n e z =
    let s : part l (trailer_at n + 20) 488 ≡ blank 488 =
    sym (part-part l (trailer_at n) 512 20 488 (omega arith)) ∙ ap (λ r. part r 20 488) z
    ∙ part-blank 512 20 488 (omega arith) in
    gap l (trailer_at n) 20 488 (numbers n) (blank 488) (bytes_of 4 0x32365250) refl refl (omega arith) s

-- ---- the whole

-- the image before its trailer is written: zeros, and the map's bits
unfoldable pub mapped : (n : ℕ) → List ℕ → List ℕ
mapped n img = over (over img 0 (blank (length img))) (map_at n) (replicate (n / 8) 255)

module _ (n : ℕ) (img : List ℕ) (r : number_right n ≡ true) (e : length img ≡ size_of n) where
  cleared : over img 0 (blank (length img)) ≡ blank (size_of n)
  cleared = over_whole img (blank (length img)) (length-blank (length img)) ∙ ap blank e

  fits : map_at n + length (replicate {A = ℕ} (n / 8) 255) ≤ length (blank (size_of n))
  fits = simp sizes (omega arith)

  pub ready : Laid (mapped n img) n × (part (mapped n img) (trailer_at n) 512 ≡ blank 512)
  unfolding mapped
  ready = rw cleared (
    record {
      number = number n r;
      size = length_over (blank (size_of n)) (map_at n) (replicate (n / 8) 255) fits ∙ length-blank (size_of n);
    },
    frame (blank (size_of n)) (map_at n) (replicate (n / 8) 255) fits (trailer_at n) 512 (simp sizes (omega arith))
        ∙ part-blank (size_of n) (trailer_at n) 512 (omega arith),
  )

  pub formatted : FormatPromise n img Success (over (mapped n img) (trailer_at n) (trailer_bytes n 0))
  unfolding mapped format_report format_image fresh_image puts
  formatted =
      let t : format_right n img ≡ true = rw (r, eq-eqb (length img) (size_of n) e) in
      record { report = rw t; image = rw (t, cleared) }

pub refused : (n : ℕ) (img : List ℕ) → format_right n img ≡ false → FormatPromise n img BadImage img
unfolding format_report format_image
refused n img e = record { report = rw e; image = rw e }
