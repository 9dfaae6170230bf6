-- Bytes written piece by piece, one right after the other, are one write of them all.
-- Assumes nothing.
use Rattle.std.proofs.Common.{◌≡◌, ℕ, ◌+◌, ◌≤◌, List, ◌++◌, length, ap, ◌∙◌, ap₂, length-append}
use Rattle.word.specs.Write.{over}
use Rattle.word.proofs.Laws.{over_append}

-- a write right after another
pub after : (l : List ℕ) (at k : ℕ) (xs ys : List ℕ) → length xs ≡ k → at ≤ length l
    → over (over l at xs) (at + k) ys ≡ over l at (xs ++ ys)
after l at k xs ys e h = rw (← e) (over_append l at xs ys h)

-- X is l with xs from a place on, k bytes; and so it is with the next m bytes after them
abbrev pub Begun : (l : List ℕ) (at : ℕ) (X xs : List ℕ) (k : ℕ) → Type 0
Begun l at X xs k = (X ≡ over l at xs) × (length xs ≡ k)

pub next : (l : List ℕ) (at : ℕ) → at ≤ length l → (X xs : List ℕ) (k : ℕ) → Begun l at X xs k → (ys : List ℕ) (m : ℕ)
    → length ys ≡ m → Begun l at (over X (at + k) ys) (xs ++ ys) (k + m)
next l at h X xs k b ys m e = (
  ap (λ r. over r (at + k) ys) b.0 ∙ after l at k xs ys b.1 h,
  length-append xs ys
      ∙ ap₂ ◌+◌ b.1 e,
)
