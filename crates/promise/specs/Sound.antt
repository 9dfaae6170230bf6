-- Document 01, sound images, and Check: as a test that computes, and as the facts that it stands for.
use Rattle.std.specs.Prelude.{ℕ, ◌*◌, ◌<◌, ◌≡◌, Bool, true, ◌&&◌, List, eqb}
use Rattle.word.specs.Word.{word_at}
use Rattle.run.specs.Run.{all_of, times}
use Rattle.promise.specs.Trailer.{n_of, trailer_right}
use Rattle.promise.specs.Map.{spare_zero, good}
use Rattle.promise.specs.Counts.{counts_of, count_of, owners, owned}

-- the trailer is right, all headers are good, the map's spare bits are 0 and each count is the number of used headers
-- with that owner
unfoldable pub sound_image : List ℕ → Bool
sound_image img =
    let n : ℕ = n_of img in
    let counts : List ℕ = counts_of n img in
    let os : List ℕ = owners n img in
    trailer_right img && all_of (good img) 0 n && spare_zero n img
    && all_of (λ u. eqb (word_at 8 counts (8 * u)) (times u os)) 0 64

pub record Sound (img : List ℕ) : Type 0 where
  pub trailer : trailer_right img ≡ true
  pub headers : (b : ℕ) → b < n_of img → good img b ≡ true
  pub spare : spare_zero (n_of img) img ≡ true
  pub counts : (u : ℕ) → u < 64 → count_of (n_of img) img u ≡ owned (n_of img) img u

-- Check says yes exactly for sound images, else no; it gives no report
abbrev pub CheckPromise : (img : List ℕ) (answer : Bool) → Type 0
CheckPromise img answer = answer ≡ sound_image img
