-- A walk by keys (PRG-62, User Manual, section 3.2): a call with the start key, then calls each with the key that the
-- one before returned, until the end key comes; and what is to hold of it. What is listed is any set that a store
-- settles, and between two calls anything at all may happen to the store.
use Rattle.std.specs.Prelude.{ℕ, ◌+◌, ◌≤◌, ◌<◌, ◌≡◌, List, [], ◌∷◌, ◌++◌, length}
use Rattle.run.specs.Run.{times}
use Rattle.manual.specs.Sets.{Set, ◌∈◌, ◌⊆◌, ◌≈◌, Lists}
use Rattle.manual.specs.Given.{Constants}
use Rattle.manual.specs.Frames.{StartKey, EndKey, φKey}

-- one call: it names the subset of xs between its two keys, and it passes the block numbers between them
pub record Call (k : Constants) (xs : Set) (key? key! passed : ℕ) (ids : List ℕ) : Type 0 where
  pub subxs : Set
  pub keys : φKey k key? key! xs subxs
  pub names : Lists ids subxs
  pub distance : key? + passed ≡ key!

-- a walk that stands at a key, over the store s: its last call, which returns the end key; or a call that returns
-- another key, then stores made by anyone, the last of them s', and the rest of the walk over s'
pub data Walk (k : Constants) {S : Type 0} (listed : S → Set) : S → ℕ → Type 0 where
  last : {s : S} {key? : ℕ} (passed : ℕ) (ids : List ℕ) → Call k (listed s) key? (EndKey k) passed ids
      → Walk k listed s key?
  more : {s : S} {key? : ℕ} (passed : ℕ) (ids : List ℕ) (key! : ℕ) → Call k (listed s) key? key! passed ids
      → (between : List S) (s' : S) → Walk k listed s' key! → Walk k listed s key?

-- it holds of each
abbrev pub All : {S : Type 0} → (S → Type 0) → List S → Type 0
All P [] = Unit {0}
All P (s ∷ l) = P s × All P l

abbrev pub total : List ℕ → ℕ
total [] = 0
total (n ∷ l) = n + total l

module _ {k : Constants} {S : Type 0} {listed : S → Set} where
  -- all that its calls named
  abbrev pub named : {s : S} {key? : ℕ} → Walk k listed s key? → List ℕ
  named (last passed ids h) = ids
  named (more passed ids key! h between s' w) = ids ++ named w

  -- how many block numbers each call passed: one entry a call
  abbrev pub passes : {s : S} {key? : ℕ} → Walk k listed s key? → List ℕ
  passes (last passed ids h) = passed ∷ []
  passes (more passed ids key! h between s' w) = passed ∷ passes w

  abbrev pub calls : {s : S} {key? : ℕ} → Walk k listed s key? → ℕ
  calls w = length (passes w)

  -- it holds of every store from the first call to the last
  abbrev pub Throughout : (S → Type 0) → {s : S} {key? : ℕ} → Walk k listed s key? → Type 0
  Throughout P {s} (last passed ids h) = P s
  Throughout P {s} (more passed ids key! h between s' w) = P s × All P between × Throughout P w

  -- each id that a call names is listed at that call
  abbrev pub Truthful : {s : S} {key? : ℕ} → Walk k listed s key? → Type 0
  Truthful {s} (last passed ids h) = (x : ℕ) → 0 < times x ids → x ∈ listed s
  Truthful {s} (more passed ids key! h between s' w) = ((x : ℕ) → 0 < times x ids → x ∈ listed s) × Truthful w

  -- what is proved of every walk from the start key (proofs/Complete.antt)
  pub record Complete {s : S} (w : Walk k listed s (StartKey k)) : Type 0 where
    -- every id that is listed throughout is named exactly once
    pub once : (x : ℕ) → x ∈ k.BlockId → Throughout (λ s. x ∈ listed s) w → times x (named w) ≡ 1
    -- none is named twice
    pub never_twice : (x : ℕ) → times x (named w) ≤ 1
    pub truthful : Truthful w
    -- it ends within as many calls as there are block numbers, and passes each of them once
    pub ends : calls w ≤ k.MaxBlocks
    pub passed : total (passes w) ≡ k.MaxBlocks
    -- PRG-62: providing xs has remained constant, xs = ⋃ subxsᵢ
    pub constant : (xs : Set) → xs ⊆ k.BlockId → Throughout (λ s. listed s ≈ xs) w → Lists (named w) xs
