-- The four changes of one block, each as a Change: expires moved, removed, replaced, and placed in a free place.
-- Assumes nothing.
use Prim.Native.Nat.{ℕ, ◌+◌, ◌-◌, ◌/◌, ◌%◌, ◌^◌, ◌≤◌, ◌<◌}
use mathlib.Core.Path.{◌≡◌, refl, sym, ap, ◌∙◌}
use mathlib.Core.Bool.{true, false, cond, true≢false}
use mathlib.Core.List.{List, [], ◌∷◌}
use mathlib.Core.Logic.{◌≢◌}
use native.Mathlib.Decide.{ℕ_discrete}
use native.Mathlib.Omega.{arith}
use borrow.Author.Tests.{eqb-true, eq-eqb, ne_eqb}
use lib.Dec.{eqb}
use lib.ListN.{length}
use Rattle.word.specs.Word.{part, le, word_at, bytes_of, blank}
use Rattle.word.specs.Write.{Write, puts, Apart, Within, Spares}
use Rattle.word.proofs.Laws.{sizes, length-bytes_of, length-blank, part-part, length-puts, frames, got, le-bytes_of}
use Rattle.word.proofs.Laws.{all_zero-blank}
use Rattle.word.specs.Bits.{clear_same, clear_other, bit_zero, set_same, set_other, byte_bit}
use Rattle.ident.specs.Ident.{id_of}
use Rattle.ident.proofs.Laws.{id_below}
use Rattle.run.specs.Run.{one}
use Rattle.promise.specs.Layout.{header_at, map_at, count_at, data_at, trailer_at, size_of}
use Rattle.promise.specs.Trailer.{clock_of}
use Rattle.promise.specs.Header.{header_of, owner_of, id_in, created_of, expires_of, tag_of, is_used, header_bytes}
use Rattle.promise.specs.Header.{used_right}
use Rattle.promise.specs.Header.{good_header, header_zeroed}
use Rattle.promise.specs.Map.{map_byte, weight, free, spare_zero, bit_taken, bit_freed}
use Rattle.promise.specs.Counts.{count_of, count_set, owned_by, data_of}
use Rattle.promise.proofs.HeaderLaws.{zero-unused}
use Rattle.promise.proofs.GoodLaws.{is_vacant, is_taken}
use Rattle.promise.proofs.FieldLaws.{Reads, length-header_bytes, written_reads, written_right, moved_reads, moved_right}
use Rattle.promise.proofs.CountLaws.{count_at_lem}
use Rattle.demands.proofs.Change.{Change}

turned : (x y : ℕ) → ◌≡◌ {A = ℕ} (cond (eqb x y) 1 0) (cond (eqb y x) 1 0)
turned x y = go (ℕ_discrete x y)
  where
    go : Dec (x ≡ y) → ◌≡◌ {A = ℕ} (cond (eqb x y) 1 0) (cond (eqb y x) 1 0)
    go (yes q) = rw (eq-eqb x y q, eq-eqb y x (sym q))
    go (no d) = rw (ne_eqb x y d, ne_eqb y x (λ r. d (sym r)))

-- ---- a bit

-- the byte of block b's bit is v, which has b's byte's other bits; the other bytes are as they were
module _ (n b v : ℕ) (s s' : List ℕ) (here : part s' (map_at n + b / 8) 1 ≡ bytes_of 1 v)
    (away : (c : ℕ) → c < n → c / 8 ≢ b / 8 → part s' (map_at n + c / 8) 1 ≡ part s (map_at n + c / 8) 1)
    (kept : (j : ℕ) → j < 8 → j ≢ b % 8 → v / 2 ^ j % 2 ≡ map_byte n s b / 2 ^ j % 2) where
  byte : map_byte n s' b ≡ v % 256
  unfolding le bytes_of
  byte = ap le here ∙ omega arith

  bit_here : free n s' b ≡ eqb (v / 2 ^ (b % 8) % 2) 1
  unfolding free
  bit_here = rw (byte, byte_bit (b % 8) v (omega arith))

  bit_there : (c : ℕ) → c < n → c ≢ b → free n s' c ≡ free n s c
  unfolding free
  bit_there c l d = go (ℕ_discrete (c / 8) (b / 8))
    where
      go : Dec (c / 8 ≡ b / 8) → eqb (map_byte n s' c / 2 ^ (c % 8) % 2) 1 ≡ eqb (map_byte n s c / 2 ^ (c % 8) % 2) 1
      go (yes q) = rw (q, byte, byte_bit (c % 8) v (omega arith), kept (c % 8) (omega arith) (λ e. d (omega arith)))
      go (no q) = rw (away c l q)

-- ---- the changes

-- writes that touch no more than block b's header and data, the map's bytes below its spare ones, and the counts
abbrev Local : (n b size : ℕ) → List Write → Type 0
Local n b size ws =
    Within size ws
    × Spares (trailer_at n) 512 ws
    × Spares (map_at n + n / 8) (512 - n / 8) ws
    × ((c : ℕ) → c < n → c ≢ b → Spares (header_at c) 64 ws × Spares (data_at n c) 512 ws)

module _ (s : List ℕ) (n b : ℕ) (ws : List Write) (k : Local n b (length s) ws) where
  local_header : (c : ℕ) → c < n → c ≢ b → header_of (puts s ws) c ≡ header_of s c
  unfolding header_of
  local_header c h t = frames ws s (header_at c) 64 k.0 (k.3 c h t).0

  local_bytes : (c : ℕ) → c < n → c ≢ b → data_of n (puts s ws) c ≡ data_of n s c
  unfolding data_of
  local_bytes c h t = frames ws s (data_at n c) 512 k.0 (k.3 c h t).1

  local_spare : spare_zero n (puts s ws) ≡ spare_zero n s
  unfolding spare_zero
  local_spare = rw (frames ws s (map_at n + n / 8) (512 - n / 8) k.0 k.2)

  -- what is left to show
  local_change : ((c : ℕ) → c < n → c ≢ b → free n (puts s ws) c ≡ free n s c)
      → ((u : ℕ) → u < 64 → count_of n (puts s ws) u + one (owned_by s u) b ≡ count_of n s u + one
      (owned_by (puts s ws) u) b)
      → good_header (clock_of s) b (free n (puts s ws) b) (header_of (puts s ws) b) ≡ true
      → (is_used (header_of (puts s ws) b) ≡ false → data_of n (puts s ws) b ≡ data_of n s b)
      → Change n b s (puts s ws)
  local_change bits counts fine left =
      record {
        size = length-puts ws s k.0;
        trailer = frames ws s (trailer_at n) 512 k.0 k.1;
        spare = local_spare;
        headers = local_header;
        bits = bits;
        bytes = local_bytes;
        counts = counts;
        fine = fine;
        left = left;
      }

  -- where the map and the counts are not touched, the block is used before and after, and its owner is the same
  module _ (m : Spares (map_at n) 512 ws) (q : Spares (count_at n 0) 512 ws) (most : n ≤ 4096) (l : b < n) where
    quiet-bit : (c : ℕ) → c < n → free n (puts s ws) c ≡ free n s c
    unfolding free
    quiet-bit c h =
        let e : part (puts s ws) (map_at n + c / 8) 1 ≡ part s (map_at n + c / 8) 1 =
        sym (part-part (puts s ws) (map_at n) 512 (c / 8) 1 (omega arith))
        ∙ ap (λ r. part r (c / 8) 1) (frames ws s (map_at n) 512 k.0 m)
        ∙ part-part s (map_at n) 512 (c / 8) 1 (omega arith) in
        rw e

    quiet-count : (u : ℕ) → count_of n (puts s ws) u ≡ count_of n s u
    unfolding count_of
    quiet-count u = rw (frames ws s (count_at n 0) 512 k.0 q)

    quiet-owner : is_used (header_of s b) ≡ true → is_used (header_of (puts s ws) b) ≡ true
        → owner_of (header_of (puts s ws) b) ≡ owner_of (header_of s b)
        → (u : ℕ) → one (owned_by (puts s ws) u) b ≡ one (owned_by s u) b
    unfolding one owned_by
    quiet-owner d e o u = rw (d, e, o)

    quiet-change : free n s b ≡ false → is_used (header_of s b) ≡ true → is_used (header_of (puts s ws) b) ≡ true
        → owner_of (header_of (puts s ws) b) ≡ owner_of (header_of s b)
        → used_right (clock_of s) b (header_of (puts s ws) b) ≡ true → Change n b s (puts s ws)
    quiet-change f d e o r =
        local_change (λ c h t. quiet-bit c h) (λ u h. omega (arith, quiet-count u, quiet-owner d e o u))
        (rw (quiet-bit b l, f) (is_taken (clock_of s) b (header_of (puts s ws) b) r))
        (λ z. absurd (true≢false (sym e ∙ z)))

-- ---- the four lists of writes, in the image as it stands

abbrev pub moving : (b expires : ℕ) → List Write
moving b expires = record { at = header_at b + 24; bytes = bytes_of 8 expires } ∷ []

abbrev pub replacing : (n b owner created expires : ℕ) (tag bytes : List ℕ) → List Write
replacing n b owner created expires tag bytes =
    record { at = data_at n b; bytes = bytes }
    ∷ record { at = header_at b; bytes = header_bytes owner (id_of created b) created expires tag } ∷ []

abbrev pub placing : (n : ℕ) (s : List ℕ) (b owner created expires : ℕ) (tag bytes : List ℕ) → List Write
placing n s b owner created expires tag bytes =
    record { at = data_at n b; bytes = bytes }
    ∷ record { at = header_at b; bytes = header_bytes owner (id_of created b) created expires tag }
    ∷ bit_taken n s b
    ∷ count_set n owner (count_of n s owner + 1)
    ∷ []

abbrev pub removing : (n : ℕ) (s : List ℕ) (b owner : ℕ) → List Write
removing n s b owner = header_zeroed b ∷ bit_freed n s b ∷ count_set n owner (count_of n s owner - 1) ∷ []

-- block b of s': of this owner, under this id, from and until these times, with this tag and these bytes; all else is
-- as in s
pub record Becomes (n b : ℕ) (s s' : List ℕ) (owner id created expires : ℕ) (tag bytes : List ℕ) : Type 0 where
  pub change : Change n b s s'
  pub reads : Reads (header_of s' b) owner id created expires tag
  pub holding : data_of n s' b ≡ bytes

-- a block of this owner, from the clock on, until then, with this tag and these bytes
pub record Fit (s : List ℕ) (owner expires : ℕ) (tag bytes : List ℕ) : Type 0 where
  pub client : owner < 64
  pub dated : 1 ≤ clock_of s
  pub in_time : clock_of s < 2 ^ 40
  pub starts : 1 ≤ expires
  pub ends : expires < 2 ^ 40
  pub sixteen : length tag ≡ 16
  pub whole : length bytes ≡ 512

module _ (s : List ℕ) (n b : ℕ) (size : length s ≡ size_of n) (eights : n % 8 ≡ 0) (most : n ≤ 4096) (l : b < n) where
  -- EXPIRES MOVED: SetExpiry
  module _ (expires : ℕ) (p : 1 ≤ expires) (q : expires < 2 ^ 40) (u : is_used (header_of s b) ≡ true)
      (g : used_right (clock_of s) b (header_of s b) ≡ true) (f : free n s b ≡ false) where
    abbrev m-after : List ℕ
    m-after = puts s (moving b expires)

    m-local : Local n b (length s) (moving b expires)
    m-local =
        (simp sizes (omega arith), simp sizes (omega arith), simp sizes (omega arith), simp sizes (omega arith))

    m-rest : (i k : ℕ) → i + k ≤ 64 → Apart i k 24 8 → part (header_of m-after b) i k ≡ part (header_of s b) i k
    unfolding header_of
    m-rest i k h a =
        rw (part-part m-after (header_at b) 64 i k h, part-part s (header_at b) 64 i k h)
        (frames (moving b expires) s (header_at b + i) k m-local.0
        (rw length-bytes_of
        (λ x c e o t. a (x - header_at b) (omega arith) (omega arith) (omega arith) (omega arith), tt)))

    m-expires : expires_of (header_of m-after b) ≡ expires
    unfolding header_of
    m-expires =
        rw (part-part m-after (header_at b) 64 24 8 (omega arith))
        (ap le (rw length-bytes_of at (got 0 (moving b expires) s m-local.0 tt)) ∙ le-bytes_of 8 expires (omega arith))

    m-bytes : data_of n m-after b ≡ data_of n s b
    unfolding data_of
    m-bytes = frames (moving b expires) s (data_at n b) 512 m-local.0 (simp sizes (omega arith))

    pub moved : let h : List ℕ = header_of s b in
        Becomes n b s (puts s (moving b expires)) (owner_of h) (id_in h) (created_of h) expires (tag_of h)
        (data_of n s b)
    moved =
        let r = moved_reads (header_of s b) (header_of m-after b) expires m-rest m-expires u in
        record {
          change = quiet-change s n b (moving b expires) m-local (simp sizes (omega arith))
              (simp sizes (omega arith)) most l f u r.used
              r.owner_is
              (moved_right (header_of s b) (header_of m-after b) expires m-rest m-expires (clock_of s) b p q g);
          reads = r;
          holding = m-bytes;
        }

  -- REPLACED: Replace
  module _ (owner expires : ℕ) (tag bytes : List ℕ) (fit : Fit s owner expires tag bytes) where
    abbrev now : ℕ
    now = clock_of s

    sized : length (header_bytes owner (id_of now b) now expires tag) ≡ 64
    sized = length-header_bytes owner (id_of now b) now expires tag fit.sixteen

    new-reads : Reads (header_bytes owner (id_of now b) now expires tag) owner (id_of now b) now expires tag
    new-reads = written_reads owner (id_of now b) now expires tag fit.client
        (id_below now b fit.in_time (omega arith)) fit.in_time fit.ends fit.sixteen

    new-right : used_right now b (header_bytes owner (id_of now b) now expires tag) ≡ true
    new-right =
        written_right owner (id_of now b) now expires tag fit.client (id_below now b fit.in_time (omega arith))
        fit.in_time fit.ends fit.sixteen now b
        fit.dated (omega arith) fit.starts refl

    abbrev r-writes : List Write
    r-writes = replacing n b owner now expires tag bytes

    r-local : Local n b (length s) r-writes
    r-local =
        let z = fit.whole in
        (simp sized (omega arith), simp sized (omega arith), simp sized (omega arith), simp sized (omega arith))

    r-header : header_of (puts s r-writes) b ≡ header_bytes owner (id_of now b) now expires tag
    unfolding header_of
    r-header = rw sized at (got 1 r-writes s r-local.0 tt)

    r-bytes : data_of n (puts s r-writes) b ≡ bytes
    unfolding data_of
    r-bytes = let z = fit.whole in rw fit.whole at (got 0 r-writes s r-local.0 (simp sized (omega arith)))

    pub replaced : is_used (header_of s b) ≡ true → free n s b ≡ false → owner_of (header_of s b) ≡ owner
        → Becomes n b s (puts s (replacing n b owner (clock_of s) expires tag bytes)) owner (id_of (clock_of s) b)
        (clock_of s) expires tag bytes
    replaced u f o =
        let z = fit.whole in
        record {
          change = quiet-change s n b r-writes r-local (simp sized (omega arith)) (simp sized (omega arith)) most l f u
              (rw r-header new-reads.used) (rw r-header (new-reads.owner_is ∙ sym o)) (rw r-header new-right);
          reads = rw r-header new-reads;
          holding = r-bytes;
        }

    -- PLACED: Create
    abbrev p-writes : List Write
    p-writes = placing n s b owner now expires tag bytes

    abbrev p-after : List ℕ
    p-after = puts s p-writes

    p-local : Local n b (length s) p-writes
    p-local =
        let z = fit.whole in
        let o = fit.client in (
          simp (sizes, sized) (omega arith),
          simp (sizes, sized) (omega arith),
          simp (sizes, sized) (omega arith),
          simp (sizes, sized) (omega arith),
        )

    p-header : header_of p-after b ≡ header_bytes owner (id_of now b) now expires tag
    unfolding header_of
    p-header = rw sized at (got 1 p-writes s p-local.0 (simp (sizes, sized) (omega (arith, fit.client))))

    p-bytes : data_of n p-after b ≡ bytes
    unfolding data_of
    p-bytes =
        rw fit.whole at
        (got 0 p-writes s p-local.0 (simp (sizes, sized) (omega (arith, fit.client, fit.whole))))

    module _ (u : is_used (header_of s b) ≡ false) (f : free n s b ≡ true) (fewer : count_of n s owner < n) where
      had : map_byte n s b / 2 ^ (b % 8) % 2 ≡ 1
      unfolding free
      had = eqb-true _ 1 f

      p-map : part p-after (map_at n + b / 8) 1 ≡ bytes_of 1 (map_byte n s b - weight b)
      p-map = rw length-bytes_of at (got 2 p-writes s p-local.0 (simp sizes (omega (arith, fit.client))))

      p-away : (c : ℕ) → c < n → c / 8 ≢ b / 8 → part p-after (map_at n + c / 8) 1 ≡ part s (map_at n + c / 8) 1
      p-away c h d = frames p-writes s (map_at n + c / 8) 1 p-local.0
          (simp (sizes, sized) (omega (arith, fit.client, fit.whole)))

      p-kept : (j : ℕ) → j < 8 → j ≢ b % 8 → (map_byte n s b - weight b) / 2 ^ j % 2 ≡ map_byte n s b / 2 ^ j % 2
      p-kept j h d = clear_other (b % 8) j (map_byte n s b) d had

      p-bit : free n p-after b ≡ false
      p-bit = bit_here n b (map_byte n s b - weight b) s p-after p-map p-away p-kept
          ∙ rw (clear_same (b % 8) (map_byte n s b) had)

      p-count : (v : ℕ) → v < 64 → count_of n p-after v ≡ count_of n s v + cond (eqb v owner) 1 0
      p-count v h = rw (← count_at_lem n p-after v h, ← count_at_lem n s v h) (go (ℕ_discrete v owner))
        where
          go : Dec (v ≡ owner) → word_at 8 p-after (count_at n v) ≡ word_at 8 s (count_at n v) + cond (eqb v owner) 1 0
          go (yes q) =
              rw (q, eq-eqb owner owner refl, count_at_lem n s owner fit.client)
              (ap le (rw length-bytes_of at (got 3 p-writes s p-local.0 tt))
              ∙ le-bytes_of 8 (count_of n s owner + 1) (omega arith))
          go (no q) =
              rw (ne_eqb v owner q)
              (ap le
              (frames p-writes s (count_at n v) 8 p-local.0
              (simp (sizes, sized) (omega (arith, fit.client, fit.whole)))) ∙ omega arith)

      p-before : (v : ℕ) → one (owned_by s v) b ≡ 0
      unfolding one owned_by
      p-before v = rw u

      p-owner : (v : ℕ) → one (owned_by p-after v) b ≡ cond (eqb owner v) 1 0
      unfolding one owned_by
      p-owner v = rw (p-header, new-reads.used, new-reads.owner_is)

      pub placed : Becomes n b s (puts s (placing n s b owner (clock_of s) expires tag bytes)) owner
          (id_of (clock_of s) b)
          (clock_of s) expires tag bytes
      placed =
          let r : Reads (header_of p-after b) owner (id_of now b) now expires tag = rw p-header new-reads in
          record {
            change = local_change s n b p-writes p-local
                (bit_there n b (map_byte n s b - weight b) s p-after p-map p-away p-kept)
                (λ v h. omega (arith, p-count v h, p-before v, p-owner v, turned v owner))
                (rw (p-bit, p-header) (is_taken (clock_of s) b _ new-right))
                (λ z. absurd (true≢false (sym r.used ∙ z)));
            reads = r;
            holding = p-bytes;
          }

  -- REMOVED: Destroy, and Scavenge block by block
  module _ (owner : ℕ) (w : owner_of (header_of s b) ≡ owner) (o : owner < 64) (u : is_used (header_of s b) ≡ true)
      (f : free n s b ≡ false) (some : 0 < count_of n s owner) (fewer : count_of n s owner ≤ n) where
    abbrev x-writes : List Write
    x-writes = removing n s b owner

    abbrev x-after : List ℕ
    x-after = puts s x-writes

    x-local : Local n b (length s) x-writes
    x-local =
        (simp sizes (omega arith), simp sizes (omega arith), simp sizes (omega arith), simp sizes (omega arith))

    removed-header : header_of (puts s (removing n s b owner)) b ≡ blank 64
    unfolding header_of
    removed-header = rw length-blank at (got 0 x-writes s x-local.0 (simp sizes (omega arith)))

    removed-unused : is_used (header_of (puts s (removing n s b owner)) b) ≡ false
    removed-unused = zero-unused _ (rw removed-header (all_zero-blank 64))

    had-none : map_byte n s b / 2 ^ (b % 8) % 2 ≡ 0
    unfolding free
    had-none = bit_zero (map_byte n s b / 2 ^ (b % 8)) f

    x-map : part x-after (map_at n + b / 8) 1 ≡ bytes_of 1 (map_byte n s b + weight b)
    x-map = rw length-bytes_of at (got 1 x-writes s x-local.0 (simp sizes (omega arith)))

    x-away : (c : ℕ) → c < n → c / 8 ≢ b / 8 → part x-after (map_at n + c / 8) 1 ≡ part s (map_at n + c / 8) 1
    x-away c h d = frames x-writes s (map_at n + c / 8) 1 x-local.0 (simp sizes (omega arith))

    x-kept : (j : ℕ) → j < 8 → j ≢ b % 8 → (map_byte n s b + weight b) / 2 ^ j % 2 ≡ map_byte n s b / 2 ^ j % 2
    x-kept j h d = set_other (b % 8) j (map_byte n s b) d had-none

    x-bit : free n x-after b ≡ true
    x-bit = bit_here n b (map_byte n s b + weight b) s x-after x-map x-away x-kept
        ∙ rw (set_same (b % 8) (map_byte n s b) had-none)

    x_count : (v : ℕ) → v < 64 → count_of n x-after v + cond (eqb v owner) 1 0 ≡ count_of n s v
    x_count v h = rw (← count_at_lem n x-after v h, ← count_at_lem n s v h) (go (ℕ_discrete v owner))
      where
        go : Dec (v ≡ owner) → word_at 8 x-after (count_at n v) + cond (eqb v owner) 1 0 ≡ word_at 8 s (count_at n v)
        go (yes q) =
            let z = ap le (rw length-bytes_of at (got 2 x-writes s x-local.0 tt))
            ∙ le-bytes_of 8 (count_of n s owner - 1) (omega arith) in
            rw (q, eq-eqb owner owner refl, count_at_lem n s owner o) (omega arith)
        go (no q) =
            rw (ne_eqb v owner q)
            (omega (arith, ap le (frames x-writes s (count_at n v) 8 x-local.0 (simp sizes (omega arith)))))

    x-before : (v : ℕ) → one (owned_by s v) b ≡ cond (eqb owner v) 1 0
    unfolding one owned_by
    x-before v = rw (u, w)

    x-owner : (v : ℕ) → one (owned_by x-after v) b ≡ 0
    unfolding one owned_by
    x-owner v = rw removed-unused

    x-bytes : data_of n (puts s (removing n s b owner)) b ≡ data_of n s b
    unfolding data_of
    x-bytes = frames x-writes s (data_at n b) 512 x-local.0 (simp sizes (omega arith))

    pub removed-change : Change n b s (puts s (removing n s b owner))
        × (is_used (header_of (puts s (removing n s b owner)) b) ≡ false)
    removed-change = (
      local_change s n b x-writes x-local (bit_there n b (map_byte n s b + weight b) s x-after x-map x-away x-kept)
          (λ v h. omega (arith, x_count v h, x-before v, x-owner v, turned v owner))
          (rw (x-bit, removed-header) (is_vacant (clock_of s) b (blank 64) (all_zero-blank 64))) (λ z. x-bytes),
      removed-unused,
    )
