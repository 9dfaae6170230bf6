-- Scavenge, where it succeeds: block by block, as Destroy removes.
-- Assumes nothing.
use Prim.Native.Nat.{ℕ, ◌+◌, ◌^◌, ◌≤◌, ◌<◌}
use mathlib.Core.Path.{◌≡◌, refl, sym, ap, ◌∙◌}
use mathlib.Core.Bool.{Bool, true, false, true≢false}
use mathlib.Core.List.{List, [], ◌∷◌}
use mathlib.Core.Logic.{◌≢◌, ◌⊎◌, inl, inr}
use mathlib.Core.Option.{none}
use native.Mathlib.Decide.{ℕ_discrete}
use native.Mathlib.Omega.{arith}
use borrow.Author.Tests.{eq-eqb, ne_eqb}
use lib.Dec.{ltb}
use Rattle.plain.specs.Numbers.{lt_or_le}
use Rattle.plain.specs.Tests.{decide, both}
use Rattle.run.specs.Run.{picked, each, times}
use Rattle.run.proofs.Laws.{one_yes, one_no, one-le, picked-none-below, picked-none-above, picked_once, each_all}
use Rattle.promise.specs.Trailer.{n_of, clock_of}
use Rattle.promise.specs.Header.{header_of, owner_of, expires_of, is_used}
use Rattle.promise.specs.Counts.{data_of}
use Rattle.promise.specs.Sound.{Sound}
use Rattle.promise.specs.Lookup.{leads_to}
use Rattle.promise.specs.Keys.{reach}
use Rattle.promise.specs.Scavenge.{gone, scavenged, expired}
use Rattle.promise.specs.Map.{good}
use Rattle.promise.proofs.TrailerLaws.{right}
use Rattle.promise.proofs.ScavengeLaws.{removed, clocked, scavenge_removes, gone-blocks}
use Rattle.manual.specs.Given.{Constants}
use Rattle.manual.specs.Sets.{Set, ◌∈◌, ◌∉◌, ◌∩◌, ◌∖◌, ◌≈◌}
use Rattle.manual.specs.Frames.{KeySet}
use Rattle.manual.specs.State.{such, ◌⩤◌}
use Rattle.manual.proofs.Keys.{between_in, between-out}
use Rattle.demands.specs.Stored.{constants, holds, blocks}
use Rattle.demands.proofs.Slots.{held, most, shows}
use Rattle.demands.proofs.Change.{Change, Keeps, change_keeps, Ticked, ticked}
use Rattle.demands.proofs.Places.{not-held, not-used, same_there}
use Rattle.demands.proofs.Ops.{remove_one, Does}

-- what is so after the blocks of a list are removed
record Swept (n : ℕ) (s s' : List ℕ) (bs : List ℕ) : Type 0 where
  sound : Sound s'
  number : n_of s' ≡ n
  clock : clock_of s' ≡ clock_of s
  kept : (c : ℕ) → c < n → times c bs ≡ 0 → header_of s' c ≡ header_of s c
  cleared : (c : ℕ) → 0 < times c bs → is_used (header_of s' c) ≡ false
  bytes : (c : ℕ) → c < n → data_of n s' c ≡ data_of n s c

-- a block to be removed: it is used, and its owner is the one that it had in img
record Removable (n : ℕ) (img s : List ℕ) (c : ℕ) : Type 0 where
  number : c < n
  used : is_used (header_of s c) ≡ true
  owner : owner_of (header_of s c) ≡ owner_of (header_of img c)

times_other : (c b : ℕ) (bs : List ℕ) → c ≢ b → times c (b ∷ bs) ≡ times c bs
unfolding times
times_other c b bs q = rw (ne_eqb c b q) (omega arith)

times_more : (c b : ℕ) (bs : List ℕ) → times c bs ≤ times c (b ∷ bs)
unfolding times
times_more c b bs = omega arith

times_same : (b : ℕ) (bs : List ℕ) → times b (b ∷ bs) ≡ 1 + times b bs
unfolding times
times_same b bs = rw (eq-eqb b b refl)

module _ (n : ℕ) (img : List ℕ) where
  -- one block and then the rest
  one_more : (s : List ℕ) (b : ℕ) (bs : List ℕ) (s'' : List ℕ) → times b bs ≡ 0 → Removable n img s b
      → Keeps s (removed n img s b)
      → Change n b s (removed n img s b) → is_used (header_of (removed n img s b) b) ≡ false
      → Swept n (removed n img s b) s'' bs → Swept n s s'' (b ∷ bs)
  one_more s b bs s'' once r k c u w =
      record {
        sound = w.sound;
        number = w.number;
        clock = w.clock ∙ k.clock;
        kept = λ x l z.
            let q : x ≢ b = λ e. omega (arith, times_same b bs, ap (λ (y : ℕ). times y (b ∷ bs)) e) in
            w.kept x l (sym (times_other x b bs q) ∙ z) ∙ c.headers x l q;
        cleared = λ x z. go x z (ℕ_discrete x b);
        bytes = λ x l. w.bytes x l ∙ same x l (ℕ_discrete x b);
      }
    where
      same : (x : ℕ) → x < n → Dec (x ≡ b) → data_of n (removed n img s b) x ≡ data_of n s x
      same x l (yes e) = rw e (c.left u)
      same x l (no q) = c.bytes x l q

      go : (x : ℕ) → 0 < times x (b ∷ bs) → Dec (x ≡ b) → is_used (header_of s'' x) ≡ false
      go x z (yes e) = rw (e, w.kept b r.number once) u
      go x z (no q) = w.cleared x (rw (times_other x b bs q) at z)

  sweep : (bs : List ℕ) (s : List ℕ) → Sound s → n_of s ≡ n → ((c : ℕ) → times c bs ≤ 1)
      → ((c : ℕ) → 0 < times c bs → Removable n img s c)
      → Swept n s (each (removed n img) s bs) bs
  unfolding each times
  sweep [] s d k o r =
      record {
        sound = d;
        number = k;
        clock = refl;
        kept = λ c l z. refl;
        cleared = λ c z. absurd (omega arith);
        bytes = λ c l. refl;
      }
  sweep (b ∷ bs) s d k o r =
      let once : times b bs ≡ 0 = omega (arith, times_same b bs, o b) in
      let f = r b (omega (arith, times_same b bs)) in
      let e = remove_one n img s d k b f.number f.used f.owner in
      let c = e.0 in
      let v = change_keeps s (removed n img s b) b d (rw k f.number) (rw k c) in
      one_more s b bs _ once f v c e.1
      (sweep bs (removed n img s b) v.sound (v.number ∙ k) (λ x. omega (arith, o x, times_more x b bs))
      (λ x z. let q : x ≢ b = λ e. omega (arith, ap (λ (y : ℕ). times y bs) e) in
      let g = r x (rw (times_other x b bs q) z) in
      record {
        number = g.number;
        used = rw (c.headers x g.number q) g.used;
        owner = rw (c.headers x g.number q) g.owner;
      }))

-- what is picked lies in the run and passes
record Member (p : ℕ → Bool) (b k c : ℕ) : Type 0 where
  from : b ≤ c
  below : c < b + k
  passes : p c ≡ true

member : (p : ℕ → Bool) (b k c : ℕ) → 0 < times c (picked p b k) → Member p b k c
member p b k c z = go (lt_or_le c b) (lt_or_le c (b + k)) (decide (p c))
  where
    go : (c < b) ⊎ (b ≤ c) → (c < b + k) ⊎ (b + k ≤ c) → (p c ≡ true) ⊎ (p c ≡ false) → Member p b k c
    go (inl l) u e = absurd (omega (arith, picked-none-below p b k c l))
    go (inr l) (inr u) e = absurd (omega (arith, picked-none-above p b k c u))
    go (inr l) (inl u) (inr e) = absurd (omega (arith, picked_once p b k c l u, one_no p c e))
    go (inr l) (inl u) (inl e) = record { from = l; below = u; passes = e }

at_most_once : (p : ℕ → Bool) (b k c : ℕ) → times c (picked p b k) ≤ 1
at_most_once p b k c = go (lt_or_le c b) (lt_or_le c (b + k))
  where
    go : (c < b) ⊎ (b ≤ c) → (c < b + k) ⊎ (b + k ≤ c) → times c (picked p b k) ≤ 1
    go (inl l) u = omega (arith, picked-none-below p b k c l)
    go (inr l) (inr u) = omega (arith, picked-none-above p b k c u)
    go (inr l) (inl u) = omega (arith, picked_once p b k c l u, one-le p c)

module _ (img : List ℕ) (d : Sound img) (key time : ℕ) (start : key < n_of img) (later : clock_of img < time)
    (in_time : time < 2 ^ 40) where
  abbrev n : ℕ
  n = n_of img

  abbrev s : List ℕ
  s = clocked n time img

  t : Ticked img time s
  t = ticked img time d (omega arith) in_time

  abbrev bs : List ℕ
  bs = gone img key time

  abbrev after : List ℕ
  after = each (removed n img) s bs

  g_member : (c : ℕ) → 0 < times c bs → Member (expired img time) key (reach img key) c
  unfolding gone
  g_member c z = member (expired img time) key (reach img key) c z

  its_used : (c : ℕ) → expired img time c ≡ true → is_used (header_of img c) ≡ true
  unfolding expired
  its_used c e = (both (is_used (header_of img c)) (ltb (expires_of (header_of img c)) time) e).0

  removable : (c : ℕ) → 0 < times c bs → Removable n img s c
  removable c z =
      let g = g_member c z in
      let l : c < n = omega (arith, g.below) in
      record { number = l; used = rw (t.headers c l) (its_used c g.passes); owner = ap owner_of (t.headers c l) }

  once : (c : ℕ) → times c bs ≤ 1
  unfolding gone
  once c = at_most_once (expired img time) key (reach img key) c

  swept : Swept n s after bs
  swept = sweep n img bs s t.sound t.number once removable

  is_after : scavenged img key time ≡ after
  is_after =
      scavenge_removes img key time (right img d.trailer).number (right img d.trailer).size
      (gone-blocks img key time start (each_all (good img) key (reach img key) (λ b l h. d.headers b (omega arith))))

  -- ---- the stored blocks

  abbrev k : Constants
  k = constants n (most img d)

  abbrev old : Set
  old = such (λ b. ltb b.expires time) (blocks n img)

  abbrev cut : Set
  cut = (KeySet k (key + reach img key) ∖ KeySet k key) ∩ old

  in_cut : (x : ℕ) → x ∈ cut → 0 < times (leads_to x) bs
  unfolding gone expired
  in_cut x e =
      let w = between-out k key (key + reach img key) old x e in
      let z = (shows img d (most img d) (λ b. ltb b.expires time)).stands x w.listed in
      omega (
        arith,
        picked_once (expired img time) key (reach img key) (leads_to x) w.from w.below,
        one_yes (expired img time) (leads_to x) z.1,
      )

  -- removed there, but not of the set: no such block
  not-cut : (x : ℕ) → x ∉ cut → 0 < times (leads_to x) bs → blocks n img x ≡ none
  unfolding expired
  not-cut x o z = go (decide (holds n x (header_of img (leads_to x))))
    where
      go : (holds n x (header_of img (leads_to x)) ≡ true) ⊎ (holds n x (header_of img (leads_to x)) ≡ false)
          → blocks n img x ≡ none
      go (inr e) = not-held n img x e
      go (inl e) =
          let g = g_member (leads_to x) z in
          let h = held n x (header_of img (leads_to x)) e in
          let v = (shows img d (most img d) (λ b. ltb b.expires time)).holds (leads_to x) h.number g.passes in
          let m : x ∈ old = rw h.same at v.0 in
          let i = ((shows img d (most img d) (λ b. ltb b.expires time)).stands x m).0 in
          let y = between_in k key (key + reach img key) old x
          (record { id = i; from = g.from; below = g.below; listed = m }) in
          absurd (true≢false (sym y ∙ o))

  after-blocks : blocks n after ≈ cut ⩤ blocks n img
  after-blocks x = go (decide (cut x)) (lt_or_le 0 (times (leads_to x) bs))
    where
      go : (x ∈ cut) ⊎ (x ∉ cut) → (0 < times (leads_to x) bs) ⊎ (times (leads_to x) bs ≤ 0)
          → blocks n after x ≡ (cut ⩤ blocks n img) x
      go (inl e) m = rw e (not-used n after (leads_to x) x (swept.cleared (leads_to x) (in_cut x e)) refl)
      go (inr o) (inl z) =
          rw o (not-used n after (leads_to x) x (swept.cleared (leads_to x) z) refl ∙ sym (not-cut x o z))
      go (inr o) (inr z) =
          rw o
          (same_there n img after x
          (λ l. (
            swept.kept (leads_to x) l (omega arith) ∙ t.headers (leads_to x) l,
            swept.bytes (leads_to x) l ∙ t.bytes (leads_to x) l,
          )))

  pub scavenge_does : Does img time (scavenged img key time) (cut ⩤ blocks (n_of img) img)
  scavenge_does =
      rw is_after
      (record {
        done = record {
          sound = swept.sound;
          number = swept.number;
          clock = swept.clock ∙ t.clock;
          left = λ c l u. swept.bytes c l ∙ t.bytes c l;
        };
        stores = after-blocks;
      })
