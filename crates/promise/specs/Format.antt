-- Document 01, Format: a fresh image, and when it is refused.
use Rattle.std.specs.Prelude.{ℕ, ◌/◌, ◌≡◌, Bool, ◌&&◌, List, [], ◌∷◌, eqb, length, replicate}
use Rattle.plain.specs.Tests.{when}
use Rattle.word.specs.Word.{blank}
use Rattle.word.specs.Write.{puts}
use Rattle.kinds.specs.declared.Report.{Report}
use Rattle.kinds.specs.declared.Report.TheVariants.{Success, BadImage}
use Rattle.promise.specs.Layout.{number_right, map_at, trailer_at, size_of}
use Rattle.promise.specs.Trailer.{trailer_bytes}

-- zeroed, with the N map bits set and the trailer written with clock 0
unfoldable pub fresh_image : ℕ → List ℕ
fresh_image n =
    puts (blank (size_of n))
    (record { at = map_at n; bytes = replicate (n / 8) 255 }
    ∷ record { at = trailer_at n; bytes = trailer_bytes n 0 }
    ∷ [])

-- it takes N and an image of the right length
abbrev pub format_right : (n : ℕ) → List ℕ → Bool
format_right n img = number_right n && eqb (length img) (size_of n)

-- otherwise it refuses with 1 and changes no byte
unfoldable pub format_report : (n : ℕ) → List ℕ → Report
format_report n img = when (format_right n img) Success BadImage

unfoldable pub format_image : (n : ℕ) → List ℕ → List ℕ
format_image n img = when (format_right n img) (fresh_image n) img

pub record FormatPromise (n : ℕ) (img : List ℕ) (r : Report) (img' : List ℕ) : Type 0 where
  pub report : r ≡ format_report n img
  pub image : img' ≡ format_image n img
