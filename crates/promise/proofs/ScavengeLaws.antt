-- Scavenge removes, as Destroy does: both remove a block in the same way, Scavenge one block after the other.
-- Assumes nothing.
use Prim.Native.Nat.{ℕ, ◌+◌, ◌-◌, ◌/◌, ◌≤◌, ◌<◌}
use mathlib.Core.Path.{◌≡◌, refl, sym, ap, ◌∙◌}
use mathlib.Core.Bool.{true}
use mathlib.Core.List.{List, [], ◌∷◌, map}
use native.Mathlib.Omega.{arith}
use lib.Dec.{ltb}
use lib.ListN.{length}
use Rattle.plain.specs.Tests.{both}
use Rattle.word.specs.Word.{part, bytes_of, blank}
use Rattle.word.specs.Write.{over, puts}
use Rattle.word.proofs.Laws.{sizes, length_over, frame, over_swap}
use Rattle.run.specs.Run.{each, Every}
use Rattle.run.proofs.Laws.{each_both, every_picked, all-each}
use Rattle.promise.specs.Layout.{header_at, map_at, count_at, trailer_at, size_of}
use Rattle.promise.specs.Trailer.{n_of, clock_set}
use Rattle.promise.proofs.TrailerLaws.{Number}
use Rattle.promise.specs.Header.{header_of, is_used, owner_of, expires_of, header_zeroed}
use Rattle.promise.proofs.HeaderLaws.{client}
use Rattle.promise.specs.Map.{good, map_byte, weight, bit_freed}
use Rattle.promise.specs.Counts.{counts_of, count_of, count_set}
use Rattle.promise.specs.Lookup.{leads_to, header_for}
use Rattle.promise.specs.Destroy.{destroy_writes}
use Rattle.promise.specs.Keys.{reach, visited_good}
use Rattle.promise.specs.Scavenge.{expired, gone, scavenged}

-- how a block is removed, in the image as it then stands: its header is zeroed, its bit is freed, and the count of its
-- owner is lowered; the owner is the one that it had in img
unfoldable pub removed : (n : ℕ) (img : List ℕ) → List ℕ → ℕ → List ℕ
removed n img s b =
    let u : ℕ = owner_of (header_of img b) in
    puts s (header_zeroed b ∷ bit_freed n s b ∷ count_set n u (count_of n s u - 1) ∷ [])

module _ (n : ℕ) (img : List ℕ) (r : Number n) where
  -- a block that can be removed, and an image of the right length
  abbrev Block : ℕ → Type 0
  Block b = (b < n) × (owner_of (header_of img b) < 64)

  abbrev Image : List ℕ → Type 0
  Image s = length s ≡ size_of n

  -- the three changes
  abbrev zeroed : List ℕ → ℕ → List ℕ
  zeroed s b = over s (header_at b) (blank 64)

  abbrev freed : List ℕ → ℕ → List ℕ
  freed s b = over s (map_at n + b / 8) (bytes_of 1 (map_byte n s b + weight b))

  abbrev lowered : List ℕ → ℕ → List ℕ
  lowered s b = over s (count_at n (owner_of (header_of img b)))
      (bytes_of 8 (count_of n s (owner_of (header_of img b)) - 1))

  keeps_zeroed : (s : List ℕ) (b : ℕ) → Image s → Block b → Image (zeroed s b)
  keeps_zeroed s b q p = length_over s (header_at b) (blank 64) (simp sizes (omega arith)) ∙ q

  keeps_freed : (s : List ℕ) (b : ℕ) → Image s → Block b → Image (freed s b)
  keeps_freed s b q p = length_over s (map_at n + b / 8) _ (simp sizes (omega (arith, r.most))) ∙ q

  keeps_lowered : (s : List ℕ) (b : ℕ) → Image s → Block b → Image (lowered s b)
  keeps_lowered s b q p = length_over s (count_at n (owner_of (header_of img b))) _ (simp sizes (omega arith)) ∙ q

  -- they touch parts that have nothing in common
  free-zero : (s : List ℕ) (b c : ℕ) → Image s → Block b → Block c → freed (zeroed s c) b ≡ zeroed (freed s b) c
  free-zero s b c q p t =
      let e : part (zeroed s c) (map_at n + b / 8) 1 ≡ part s (map_at n + b / 8) 1 =
      frame s (header_at c) (blank 64) (simp sizes (omega arith)) (map_at n + b / 8) 1 (simp sizes (omega arith)) in
      rw e (over_swap s (header_at c) (blank 64) (map_at n + b / 8) _ (simp sizes (omega arith))
      (simp sizes (omega (arith, r.most))) (simp sizes (omega arith)))

  lower_zero : (s : List ℕ) (b c : ℕ) → Image s → Block b → Block c → lowered (zeroed s c) b ≡ zeroed (lowered s b) c
  unfolding count_of
  lower_zero s b c q p t =
      let e : counts_of n (zeroed s c) ≡ counts_of n s =
      frame s (header_at c) (blank 64) (simp sizes (omega arith)) (count_at n 0) 512 (simp sizes (omega arith)) in
      rw e (over_swap s (header_at c) (blank 64) (count_at n (owner_of (header_of img b))) _ (simp sizes (omega arith))
      (simp sizes (omega arith)) (simp sizes (omega arith)))

  lower_free : (s : List ℕ) (b c : ℕ) → Image s → Block b → Block c → lowered (freed s c) b ≡ freed (lowered s b) c
  unfolding count_of
  lower_free s b c q p t =
      let u : ℕ = owner_of (header_of img b) in
      let e : counts_of n (freed s c) ≡ counts_of n s =
      frame s (map_at n + c / 8) _ (simp sizes (omega (arith, r.most))) (count_at n 0) 512
      (simp sizes (omega (arith, r.most))) in
      let f : part (lowered s b) (map_at n + c / 8) 1 ≡ part s (map_at n + c / 8) 1 =
      frame s (count_at n u) _ (simp sizes (omega arith)) (map_at n + c / 8) 1 (simp sizes (omega (arith, r.most))) in
      rw (e, f) (over_swap s (map_at n + c / 8) _ (count_at n u) _ (simp sizes (omega (arith, r.most)))
      (simp sizes (omega arith)) (simp sizes (omega (arith, r.most))))

  -- a header zeroed and its bit freed, and a count lowered
  both_kept : (s : List ℕ) (b : ℕ) → Image s → Block b → Image (freed (zeroed s b) b)
  both_kept s b q p = keeps_freed (zeroed s b) b (keeps_zeroed s b q p) p

  lower_both : (s : List ℕ) (b c : ℕ) → Image s → Block b → Block c
      → lowered (freed (zeroed s c) c) b ≡ freed (zeroed (lowered s b) c) c
  lower_both s b c q p t =
      lower_free (zeroed s c) b c (keeps_zeroed s c q t) p t ∙ ap (λ x. freed x c) (lower_zero s b c q p t)

  -- the writes of the headers, as changes one after the other
  zeroes : (s : List ℕ) (bs : List ℕ) → puts s (map header_zeroed bs) ≡ each zeroed s bs
  unfolding puts each
  zeroes s [] = refl
  zeroes s (b ∷ bs) = zeroes (zeroed s b) bs

  -- all headers, then all bits: the same as both at each block in turn
  pub free_in_turn : (s : List ℕ) (bs : List ℕ) → Image s → Every Block bs
      → each freed (puts s (map header_zeroed bs)) bs ≡ each (λ s b. freed (zeroed s b) b) s bs
  free_in_turn s bs q e =
      ap (λ x. each freed x bs) (zeroes s bs)
      ∙ each_both Image Block zeroed freed keeps_zeroed keeps_freed free-zero s bs q e

  -- and then all counts: the same as block by block
  in_turn : (s : List ℕ) (bs : List ℕ) → Image s → Every Block bs
      → each lowered (each freed (puts s (map header_zeroed bs)) bs) bs
      ≡ each (λ s b. lowered (freed (zeroed s b) b) b) s bs
  in_turn s bs q e =
      ap (λ x. each lowered x bs) (free_in_turn s bs q e)
      ∙ each_both Image Block (λ s b. freed (zeroed s b) b) lowered both_kept keeps_lowered lower_both s bs q e

  -- one block: the bit and the count are read before the header is zeroed or after it
  as_removed : (s : List ℕ) (b : ℕ) → Image s → Block b → removed n img s b ≡ lowered (freed (zeroed s b) b) b
  unfolding removed puts count_of
  as_removed s b q p =
      let e : part (zeroed s b) (map_at n + b / 8) 1 ≡ part s (map_at n + b / 8) 1 =
      frame s (header_at b) (blank 64) (simp sizes (omega arith)) (map_at n + b / 8) 1 (simp sizes (omega arith)) in
      let z : List ℕ = zeroed s b in
      let k = keeps_zeroed s b q p in
      let f : counts_of n (freed z b) ≡ counts_of n z =
      frame z (map_at n + b / 8) _ (simp sizes (omega (arith, r.most))) (count_at n 0) 512
      (simp sizes (omega (arith, r.most))) in
      let g : counts_of n z ≡ counts_of n s =
      frame s (header_at b) (blank 64) (simp sizes (omega arith)) (count_at n 0) 512 (simp sizes (omega arith)) in
      rw (f, g, e)

  blockwise : (s : List ℕ) (bs : List ℕ) → Image s → Every Block bs
      → each (λ s b. lowered (freed (zeroed s b) b) b) s bs ≡ each (removed n img) s bs
  unfolding each
  blockwise s [] q e = refl
  blockwise s (b ∷ bs) q e =
      blockwise (lowered (freed (zeroed s b) b) b) bs
      (keeps_lowered (freed (zeroed s b) b) b (both_kept s b q e.0) e.0) e.1
      ∙ ap (λ x. each (removed n img) x bs) (sym (as_removed s b q e.0))

-- with the clock set
unfoldable pub clocked : (n time : ℕ) → List ℕ → List ℕ
clocked n time img = puts img (clock_set n time ∷ [])

-- SCAVENGE REMOVES, AS DESTROY DOES: each block that is gone, one after the other
pub scavenge_removes : (img : List ℕ) (key time : ℕ) → Number (n_of img) → length img ≡ size_of (n_of img)
    → Every (λ b. (b < n_of img) × (owner_of (header_of img b) < 64)) (gone img key time)
    → scavenged img key time ≡ each (removed (n_of img) img) (clocked (n_of img) time img) (gone img key time)
unfolding scavenged clocked puts
scavenge_removes img key time r l e =
    let n : ℕ = n_of img in
    let bs : List ℕ = gone img key time in
    let s : List ℕ = over img (trailer_at n + 24) (bytes_of 8 time) in
    let q : length s ≡ size_of n = length_over img (trailer_at n + 24) (bytes_of 8 time) (simp sizes (omega arith))
    ∙ l in
    in_turn n img r s bs q e ∙ blockwise n img r s bs q e

-- where all visited headers are good, such blocks they are
pub gone-blocks : (img : List ℕ) (key time : ℕ) → key < n_of img → visited_good img key (reach img key) ≡ true
    → Every (λ b. (b < n_of img) × (owner_of (header_of img b) < 64)) (gone img key time)
unfolding gone expired
gone-blocks img key time h g =
    every_picked (expired img time) _ key (reach img key)
    (λ b l u e. (
      omega arith,
      client img b (all-each (good img) key (reach img key) b g l u)
          (both (is_used (header_of img b)) (ltb (expires_of (header_of img b)) time) e).0,
    ))

-- and Destroy the one block
pub destroy_removes : (img : List ℕ) (id time : ℕ) → Number (n_of img) → length img ≡ size_of (n_of img)
    → leads_to id < n_of img → owner_of (header_for img id) < 64
    → puts img (destroy_writes img id time) ≡ removed (n_of img) img (clocked (n_of img) time img) (leads_to id)
unfolding destroy_writes removed clocked puts count_of
destroy_removes img id time r l h o =
    let n : ℕ = n_of img in
    let s : List ℕ = over img (trailer_at n + 24) (bytes_of 8 time) in
    let w : trailer_at n + 24 + length (bytes_of 8 time) ≤ length img = simp sizes (omega arith) in
    let e : part s (map_at n + leads_to id / 8) 1 ≡ part img (map_at n + leads_to id / 8) 1 =
    frame img (trailer_at n + 24) (bytes_of 8 time) w (map_at n + leads_to id / 8) 1
    (simp sizes (omega (arith, r.most))) in
    let f : counts_of n s ≡ counts_of n img =
    frame img (trailer_at n + 24) (bytes_of 8 time) w (count_at n 0) 512 (simp sizes (omega arith)) in
    rw (e, f)
