-- Four operations that change the store, where they succeed: the image is sound, and its stored blocks the manual's.
-- Assumes nothing.
use Prim.Native.Nat.{ℕ, ◌%◌, ◌^◌, ◌≤◌, ◌<◌}
use mathlib.Core.Path.{◌≡◌, refl, sym, ap, ◌∙◌}
use mathlib.Core.Bool.{true, false, not, true≢false}
use mathlib.Core.List.{List, ◌++◌}
use mathlib.Core.Logic.{◌≢◌}
use mathlib.Core.Option.{none}
use native.Mathlib.Decide.{ℕ_discrete}
use native.Mathlib.Omega.{arith}
use borrow.Author.Tests.{eq-eqb, ne_eqb, not-false}
use lib.ListN.{length}
use Rattle.word.specs.Word.{part}
use Rattle.word.specs.Write.{puts}
use Rattle.word.proofs.Laws.{length_part, part_whole, part_split}
use Rattle.ident.specs.Ident.{id_of}
use Rattle.run.proofs.Laws.{first_passes, picked_few}
use Rattle.promise.specs.Layout.{size_of}
use Rattle.promise.specs.Trailer.{n_of, clock_of}
use Rattle.promise.specs.Header.{header_of, owner_of, created_of, expires_of, tag_of, is_used, later_of, used_right}
use Rattle.promise.specs.Map.{free, good}
use Rattle.promise.specs.Counts.{count_of, owned_by, data_of, owned}
use Rattle.promise.specs.Sound.{Sound}
use Rattle.promise.specs.Lookup.{leads_to, header_for, no_such_block}
use Rattle.promise.specs.SetExpiry.{set_expiry_writes}
use Rattle.promise.specs.Destroy.{destroy_writes}
use Rattle.promise.specs.Replace.{replace_writes}
use Rattle.promise.specs.Create.{lowest_free, create_writes}
use Rattle.promise.proofs.TrailerLaws.{right, Right}
use Rattle.promise.proofs.ScavengeLaws.{removed, clocked, destroy_removes}
use Rattle.promise.proofs.GoodLaws.{Used, taken, Good, good_either, vacant}
use Rattle.promise.proofs.CountLaws.{owned-picked, owns_some, owns_fewer}
use Rattle.manual.specs.Sets.{only, ◌≈◌}
use Rattle.manual.specs.State.{Block, Blocks, put, ◌⩤◌}
use Rattle.demands.specs.Stored.{holds, blocks}
use Rattle.demands.proofs.Slots.{Stands, Held, held, stands_at}
use Rattle.demands.proofs.Change.{Change, change_keeps, Ticked, ticked}
use Rattle.demands.proofs.Steps.{moving, replacing, placing, Becomes, Fit, moved, replaced, placed}
use Rattle.demands.proofs.Steps.{removed-change}
use Rattle.demands.proofs.Places.{not-used, another, its_own, ticked_blocks, at_one}

-- ---- what stands at a number of a sound image

pub record Taken (s : List ℕ) (b : ℕ) : Type 0 where
  pub right : used_right (clock_of s) b (header_of s b) ≡ true
  pub full : free (n_of s) s b ≡ false
  pub stands : Stands (n_of s) (clock_of s) b (header_of s b)

taken_at : (s : List ℕ) → Sound s → (b : ℕ) → b < n_of s → is_used (header_of s b) ≡ true → Taken s b
unfolding good
taken_at s d b l u = go (good_either (clock_of s) b (free (n_of s) s b) (header_of s b) (d.headers b l))
  where
    go : Good (clock_of s) b (free (n_of s) s b) (header_of s b) → Taken s b
    go (vacant z v q) = absurd (true≢false (sym u ∙ v))
    go (taken r v q) = record { right = r; full = q; stands = stands_at s d b l u }

-- a block is used exactly where its bit is not free
pub used_bit : (s : List ℕ) → Sound s → (b : ℕ) → b < n_of s → is_used (header_of s b) ≡ not (free (n_of s) s b)
unfolding good
used_bit s d b l = go (good_either (clock_of s) b (free (n_of s) s b) (header_of s b) (d.headers b l))
  where
    go : Good (clock_of s) b (free (n_of s) s b) (header_of s b) → is_used (header_of s b) ≡ not (free (n_of s) s b)
    go (vacant z v q) = v ∙ sym (ap not q)
    go (taken r v q) = v ∙ sym (ap not q)

-- ---- the block that an id leads to

pub found : (img : List ℕ) (id : ℕ) → no_such_block img id ≡ false → Held (n_of img) id (header_for img id)
unfolding no_such_block holds
found img id e = held (n_of img) id (header_for img id) (not-false _ e)

-- the tag and the rest of a service block
two_parts : (bytes : List ℕ) → length bytes ≡ 528 → part bytes 0 16 ++ part bytes 16 512 ≡ bytes
two_parts bytes e = sym (part_split bytes 0 16 512 (omega arith)) ∙ part_whole bytes 528 e

-- ---- one block removed, in a sound image: the owner is the one that it had in img

module _ (n : ℕ) (img s : List ℕ) (d : Sound s) (k : n_of s ≡ n) (b : ℕ) (l : b < n)
    (u : is_used (header_of s b) ≡ true)
    (w : owner_of (header_of s b) ≡ owner_of (header_of img b)) where
  abbrev o : ℕ
  o = owner_of (header_of img b)

  o-taken : Taken s b
  o-taken = taken_at s d b (rw k l) u

  o_client : o < 64
  o_client = rw w at o-taken.stands.facts.owner

  o-owned : owned_by s o b ≡ true
  unfolding owned_by
  o-owned = rw (u, w, eq-eqb o o refl)

  o_count : count_of n s o ≡ owned n s o
  o_count = rw k at (d.counts o o_client)

  pub o-some : 0 < count_of n s o
  o-some = rw o_count (owns_some n s o b l o-owned)

  o_few : count_of n s o ≤ n
  o_few = omega (arith, o_count, owned-picked n s o, picked_few (owned_by s o) 0 n)

  o_right : Right s
  o_right = right s d.trailer

  pub remove_one : Change n b s (removed n img s b) × (is_used (header_of (removed n img s b) b) ≡ false)
  unfolding removed
  remove_one =
      removed-change s n b (o_right.size ∙ ap size_of k) (rw k at o_right.number.eights)
      (rw k at o_right.number.most) l o w o_client u
      (rw k at o-taken.full) o-some o_few

-- ---- the blocks that are stored: the old one with another expires, and a new one

abbrev pub moved_block : List ℕ → (id expires : ℕ) → Block
moved_block img id expires =
    record {
      owner = owner_of (header_for img id);
      created = created_of (header_for img id);
      expires = expires;
      bytes = tag_of (header_for img id) ++ data_of (n_of img) img (leads_to id);
    }

abbrev pub new_block : (client created expires : ℕ) (bytes : List ℕ) → Block
new_block client created expires bytes = record { owner = client; created = created; expires = expires; bytes = bytes }

-- ---- all five

pub record Done (img : List ℕ) (time : ℕ) (img' : List ℕ) : Type 0 where
  pub sound : Sound img'
  pub number : n_of img' ≡ n_of img
  pub clock : clock_of img' ≡ time
  pub left : (c : ℕ) → c < n_of img → is_used (header_of img' c) ≡ false
      → data_of (n_of img) img' c ≡ data_of (n_of img) img c

-- with these stored blocks after
pub record Does (img : List ℕ) (time : ℕ) (img' : List ℕ) (m : Blocks) : Type 0 where
  pub done : Done img time img'
  pub stores : blocks (n_of img) img' ≈ m

-- an operation that changes nothing
pub stays : (img : List ℕ) → Sound img → Done img (clock_of img) img
stays img d = record { sound = d; number = refl; clock = refl; left = λ c l u. refl }

module _ (img : List ℕ) (d : Sound img) (time : ℕ) (later : clock_of img < time) (in_time : time < 2 ^ 40) where
  abbrev n : ℕ
  n = n_of img

  abbrev s : List ℕ
  s = clocked n time img

  t : Ticked img time s
  t = ticked img time d (omega arith) in_time

  r : Right s
  r = right s t.sound.trailer

  -- a change of block b after the clock is set
  pub after : (b : ℕ) (s' : List ℕ) → b < n_of img → Change (n_of img) b (clocked (n_of img) time img) s'
      → Done img time s'
  after b s' l c =
      let k = change_keeps s s' b t.sound (rw t.number l) (rw t.number c) in
      record {
        sound = k.sound;
        number = k.number ∙ t.number;
        clock = k.clock ∙ t.clock;
        left = λ x h u. go x h u (ℕ_discrete x b) ∙ t.bytes x h;
      }
    where
      go : (x : ℕ) → x < n_of img → is_used (header_of s' x) ≡ false → Dec (x ≡ b)
          → data_of (n_of img) s' x ≡ data_of (n_of img) (clocked (n_of img) time img) x
      go x h u (yes e) = rw e (c.left (rw e at u))
      go x h u (no q) = c.bytes x h q

  sized : length s ≡ size_of n
  sized = r.size ∙ ap size_of t.number

  eights : n % 8 ≡ 0
  eights = rw t.number at r.number.eights

  few : n ≤ 4096
  few = rw t.number at r.number.most

  -- after a change that puts a block, or takes one away
  after-put : (b : ℕ) (s' : List ℕ) (owner id created expires : ℕ) (tag bytes : List ℕ) → b < n
      → Becomes n b s s' owner id created expires tag bytes
      → (m : Blocks) → ((x : ℕ) → leads_to x ≢ b → m x ≡ blocks n img x)
      → ((x : ℕ) → leads_to x ≡ b → x ≢ id → m x ≡ none)
      → Does img time s' (put m id (new_block owner created expires (tag ++ bytes)))
  after-put b s' owner id created expires tag bytes l c m f g =
      let k = after b s' l c.change in
      let r = c.reads in
      let own = rw (r.id_is, k.number) at (its_own s' k.sound b (rw k.number l) r.used) in
      record {
        done = k;
        stores = rw (r.owner_is, r.created_is, r.expires_is, r.tag_is, c.holding) at
            (at_one n s s' b c.change m id _ own (λ x q e. another n s' b x q (λ z. e (z ∙ r.id_is)))
            (λ x q. f x q ∙ sym (ticked_blocks img time s t x)) g);
      }

  -- ---- operations on the block of an id

  module _ (id : ℕ) (f : Held n id (header_for img id)) where
    abbrev b : ℕ
    b = leads_to id

    abbrev h : List ℕ
    h = header_for img id

    used-s : is_used (header_of s b) ≡ true
    used-s = rw (t.headers b f.number) f.used

    tk : Taken s b
    tk = taken_at s t.sound b (rw t.number f.number) used-s

    full-s : free n s b ≡ false
    full-s = rw t.number at tk.full

    -- no other id is stored at its number
    alone : (x : ℕ) → leads_to x ≡ leads_to id → x ≢ id → blocks (n_of img) img x ≡ none
    alone x q e = another n img b x q (λ z. e (z ∙ f.same))

    -- ---- SetExpiry

    module _ (expiry : ℕ) (fits : expiry < 2 ^ 40) where
      abbrev e' : ℕ
      e' = later_of time expiry

      s-becomes : Becomes n b s (puts s (moving b e')) (owner_of h) id (created_of h) e' (tag_of h) (data_of n img b)
      unfolding later_of
      s-becomes =
          rw (t.headers b f.number, f.same, t.bytes b f.number) at
          (moved s n b sized eights few f.number e' (omega arith) (omega arith) used-s tk.right full-s)

      pub set_expiry_does : Does img time (puts img (set_expiry_writes img id expiry time))
          (put (blocks (n_of img) img) id (moved_block img id (later_of time expiry)))
      unfolding set_expiry_writes clocked puts
      set_expiry_does = after-put b _ _ id _ e' _ _ f.number s-becomes (blocks n img) (λ x q. refl) alone

    -- ---- Destroy

    x-change : Change n b s (removed n img s b) × (is_used (header_of (removed n img s b) b) ≡ false)
    x-change = remove_one n img s t.sound t.number b f.number used-s (ap owner_of (t.headers b f.number))

    x-writes : puts img (destroy_writes img id time) ≡ removed n img s b
    x-writes =
        destroy_removes img id time (right img d.trailer).number (right img d.trailer).size f.number
        (taken_at img d b f.number f.used).stands.facts.owner

    pub destroy-does : Does img time (puts img (destroy_writes img id time)) (only id ⩤ blocks (n_of img) img)
    destroy-does =
        rw x-writes
        (record {
          done = after b (removed n img s b) f.number x-change.0;
          stores = at_one n s (removed n img s b) b x-change.0 (blocks n img) id none
              (not-used n (removed n img s b) b id x-change.1 refl)
              (λ x q e. not-used n (removed n img s b) b x x-change.1 q)
              (λ x q. sym (ticked_blocks img time s t x)) alone;
        })

    -- ---- Replace

    module _ (client : ℕ) (his : owner_of (header_for img id) ≡ client) (bytes : List ℕ)
        (whole : length bytes ≡ 528) where
      its : Used (clock_of img) b h
      its = (taken_at img d b f.number f.used).stands.facts

      r-fit : Fit s client (expires_of h) (part bytes 0 16) (part bytes 16 512)
      r-fit =
          record {
            client = rw his at its.owner;
            dated = rw t.clock (omega arith);
            in_time = rw t.clock in_time;
            starts = its.expires;
            ends = its.in_time;
            sixteen = length_part bytes 0 16 (omega arith);
            whole = length_part bytes 16 512 (omega arith);
          }

      r-writes : puts img (replace_writes img client id bytes time) ≡ puts s
          (replacing n b client (clock_of s) (expires_of h) (part bytes 0 16) (part bytes 16 512))
      unfolding replace_writes clocked puts
      r-writes = rw t.clock

      pub replace-does : Does img time (puts img (replace_writes img client id bytes time))
          (put (only id ⩤ blocks (n_of img) img) (id_of time (leads_to id))
          (new_block client time (expires_of (header_for img id)) bytes))
      replace-does =
          rw (r-writes, t.clock)
          (rw (t.clock, two_parts bytes whole) at
          (after-put b _ client _ _ _ _ _ f.number
          (replaced s n b sized eights few f.number client (expires_of h) (part bytes 0 16)
          (part bytes 16 512) r-fit used-s full-s
          (ap owner_of (t.headers b f.number) ∙ his))
          (only id ⩤ blocks n img) (λ x q. rw (ne_eqb x id (λ e. q (ap leads_to e)))) (λ x q e. cut-none x q)))
        where
          cut-none : (x : ℕ) → leads_to x ≡ b → (only id ⩤ blocks n img) x ≡ none
          cut-none x q = go (ℕ_discrete x id)
            where
              go : Dec (x ≡ id) → (only id ⩤ blocks n img) x ≡ none
              go (yes e) = rw (eq-eqb x id e)
              go (no e) = rw (ne_eqb x id e) (alone x q e)

  -- ---- Create

  module _ (client expiry : ℕ) (bytes : List ℕ) (u : client < 64) (fits : expiry < 2 ^ 40) (whole : length bytes ≡ 528)
      (space : lowest_free img < n_of img) where
    abbrev a : ℕ
    a = lowest_free img

    was_free : free n img a ≡ true
    unfolding lowest_free
    was_free = first_passes (free n img) 0 n (omega arith)

    is_free : free n s a ≡ true
    is_free = t.bits a space ∙ was_free

    vacant-s : is_used (header_of s a) ≡ false
    vacant-s = (rw t.number at (used_bit s t.sound a (rw t.number space))) ∙ ap not is_free

    not-his : owned_by s client a ≡ false
    unfolding owned_by
    not-his = rw vacant-s

    fewer-s : count_of n s client < n
    fewer-s = omega (arith, rw t.number at (t.sound.counts client u), owns_fewer n s client a space not-his)

    c-fit : Fit s client (later_of time expiry) (part bytes 0 16) (part bytes 16 512)
    unfolding later_of
    c-fit =
        record {
          client = u;
          dated = rw t.clock (omega arith);
          in_time = rw t.clock in_time;
          starts = omega arith;
          ends = omega arith;
          sixteen = length_part bytes 0 16 (omega arith);
          whole = length_part bytes 16 512 (omega arith);
        }

    clocked-first : puts img (create_writes img client expiry bytes time) ≡ puts s
        (placing n img a client time (later_of time expiry) (part bytes 0 16) (part bytes 16 512))
    unfolding create_writes clocked puts
    clocked-first = refl

    c-writes : puts img (create_writes img client expiry bytes time) ≡ puts s
        (placing n s a client (clock_of s) (later_of time expiry) (part bytes 0 16) (part bytes 16 512))
    c-writes = rw (t.counts client, t.map a space, t.clock) clocked-first

    pub create-does : Does img time (puts img (create_writes img client expiry bytes time))
        (put (blocks (n_of img) img) (id_of time (lowest_free img))
        (new_block client time (later_of time expiry) bytes))
    create-does =
        rw (c-writes, t.clock)
        (rw (t.clock, two_parts bytes whole) at
        (after-put a _ client _ _ _ _ _ space
        (placed s n a sized eights few space client (later_of time expiry) (part bytes 0 16)
        (part bytes 16 512) c-fit vacant-s is_free fewer-s)
        (blocks n img) (λ x q. refl) (λ x q e. not-used n img a x (used_bit img d a space ∙ ap not was_free) q)))
