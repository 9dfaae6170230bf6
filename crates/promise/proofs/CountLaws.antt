-- Counts: where a client's count stands, and the number of a client's blocks as a run of block numbers.
-- Assumes nothing.
use Prim.Native.Nat.{ℕ, ◌*◌, ◌<◌}
use mathlib.Core.Path.{◌≡◌, refl, sym, ap, ◌∙◌}
use mathlib.Core.Bool.{true, false, not, ◌&&◌, and-true, and-false}
use mathlib.Core.List.{List}
use native.Mathlib.Omega.{arith}
use borrow.Author.Tests.{eq-eqb, ne_eqb}
use lib.Dec.{eqb}
use lib.ListN.{length}
use Rattle.word.specs.Word.{part, le, word_at}
use Rattle.word.proofs.Laws.{part-part}
use Rattle.run.specs.Run.{one, picked}
use Rattle.run.proofs.Laws.{one_yes, one_no}
use Rattle.run.proofs.Tally.{picked_changed, picked_fewer, times-picked}
use Rattle.promise.specs.Layout.{count_at}
use Rattle.promise.specs.Header.{header_of, is_used, owner_of}
use Rattle.promise.specs.Counts.{count_of, owned_by, owners, owned}

pub owned-picked : (n : ℕ) (img : List ℕ) (u : ℕ) → owned n img u ≡ length (picked (owned_by img u) 0 n)
unfolding owned owners owned_by
owned-picked n img u = times-picked (λ b. is_used (header_of img b)) (λ b. owner_of (header_of img b)) u 0 n

pub count_at_lem : (n : ℕ) (img : List ℕ) (u : ℕ) → u < 64 → word_at 8 img (count_at n u) ≡ count_of n img u
unfolding count_of
count_at_lem n img u h = sym (ap le (part-part img (count_at n 0) 512 (8 * u) 8 (omega arith)
    ∙ ap (λ (x : ℕ). part img x 8) (omega arith)))

-- an owner of one block owns one at least, and where a block is not his he owns fewer than all
pub owns_some : (n : ℕ) (img : List ℕ) (u b : ℕ) → b < n → owned_by img u b ≡ true → 0 < owned n img u
owns_some n img u b l e =
    let z = picked_changed (owned_by img u) (λ x. owned_by img u x
    && not (eqb x b)) b 0 n (omega arith) (omega arith)
    (λ x v w q. rw (ne_eqb x b q) (and-true (owned_by img u x))) in
    let y : one (λ x. owned_by img u x && not (eqb x b)) b
    ≡ 0 = one_no (λ x. owned_by img u x && not (eqb x b)) b (rw (eq-eqb b b refl) (and-false (owned_by img u b))) in
    omega (arith, owned-picked n img u, one_yes (owned_by img u) b e)

pub owns_fewer : (n : ℕ) (img : List ℕ) (u b : ℕ) → b < n → owned_by img u b ≡ false → owned n img u < n
owns_fewer n img u b l e = rw (owned-picked n img u) (picked_fewer (owned_by img u) b n l e)
