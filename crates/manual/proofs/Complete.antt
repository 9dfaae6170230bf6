-- Every walk from the start key is complete.
-- Assumes nothing.
use Prim.Native.Nat.{ℕ, ◌+◌, ◌-◌, ◌≤◌, ◌<◌}
use mathlib.Core.Path.{◌≡◌, sym, ◌∙◌}
use mathlib.Core.Bool.{true≢false}
use mathlib.Core.List.{List, [], ◌∷◌}
use mathlib.Core.Logic.{inl, inr, ⊎_elim}
use native.Mathlib.Omega.{arith}
use Rattle.plain.specs.Numbers.{lt_or_le}
use Rattle.plain.specs.Tests.{decide}
use Rattle.run.specs.Run.{times}
use Rattle.run.proofs.Laws.{one_yes, one_no, one-le, times_append}
use Rattle.manual.specs.Sets.{Set, ◌∈◌, ◌∉◌}
use Rattle.manual.specs.Given.{Constants}
use Rattle.manual.specs.Frames.{StartKey}
use Rattle.manual.specs.State.{SS, φBasicParams, owned}
use Rattle.manual.specs.Reports.{Success}
use Rattle.manual.specs.Client.{Get_ids_success, GetIds}
use Rattle.manual.specs.Walk.{Call, Walk, last, more, named, passes, total, calls, All, Throughout, Truthful}
use Rattle.manual.specs.Walk.{Complete}
use Rattle.manual.specs.Scan.{NoZeroCount}
use Rattle.manual.proofs.Keys.{Between, between_in, between-out, larger-key}

-- ---- one call

module _ {k : Constants} {xs : Set} {key? key! passed : ℕ} {ids : List ℕ} (h : Call k xs key? key! passed ids) where
  forward : key? < key!
  forward = larger-key k key? key! h.keys.grows

  module _ (x : ℕ) where
    at_most : times x ids ≤ 1
    at_most = rw (h.names x) (one-le h.subxs x)

    here : Between k key? key! xs x → times x ids ≡ 1
    here b = h.names x ∙ one_yes h.subxs x (h.keys.part x ∙ between_in k key? key! xs x b)

    -- what it names lies between its keys and is listed
    there : 0 < times x ids → Between k key? key! xs x
    there l =
        ⊎_elim (λ (e : x ∈ h.subxs). between-out k key? key! xs x (sym (h.keys.part x) ∙ e))
        (λ (e : x ∉ h.subxs). let z = h.names x ∙ one_no h.subxs x e in absurd (omega arith)) (decide (h.subxs x))

    unless : (Between k key? key! xs x → ⊥) → times x ids ≡ 0
    unless n = ⊎_elim (λ (p : 0 < times x ids). absurd (n (there p))) (λ (p : times x ids ≤ 0). omega arith)
        (lt_or_le 0 (times x ids))

    behind : k.num x < key? → times x ids ≡ 0
    behind l = unless (λ b. omega (arith, b.from))

    ahead : key! ≤ k.num x → times x ids ≡ 0
    ahead l = unless (λ b. omega (arith, b.below))

    absent : x ∉ xs → times x ids ≡ 0
    absent e = unless (λ b. true≢false (sym b.listed ∙ e))

-- ---- the walk

all_follow : {S : Type 0} {P Q : S → Type 0} → ((s : S) → P s → Q s) → (l : List S) → All P l → All Q l
all_follow f [] t = tt
all_follow f (s ∷ l) t = (f s t.0, all_follow f l t.1)

module _ {k : Constants} {S : Type 0} {listed : S → Set} where
  -- a key that has passed x's number: x is not named any more
  none_left : {s : S} {key? : ℕ} (w : Walk k listed s key?) (x : ℕ) → k.num x < key? → times x (named w) ≡ 0
  none_left (last passed ids h) x l = behind h x l
  none_left (more passed ids key! h between s' w) x l =
      times_append x ids (named w) ∙ omega (arith, behind h x l, none_left w x (omega (arith, forward h)))

  named_once : {s : S} {key? : ℕ} (w : Walk k listed s key?) (x : ℕ) → x ∈ k.BlockId → key? ≤ k.num x
      → Throughout (λ s. x ∈ listed s) w → times x (named w) ≡ 1
  named_once (last passed ids h) x i l t = here h x (record { id = i; from = l; below = k.numbered x i; listed = t })
  named_once (more passed ids key! h between s' w) x i l t =
      times_append x ids (named w)
      ∙ ⊎_elim
      (λ (p : k.num x < key!). omega
      (arith, here h x (record { id = i; from = l; below = p; listed = t.0 }), none_left w x p))
      (λ (q : key! ≤ k.num x). omega (arith, ahead h x q, named_once w x i q t.2))
      (lt_or_le (k.num x) key!)

  at_most_once : {s : S} {key? : ℕ} (w : Walk k listed s key?) (x : ℕ) → times x (named w) ≤ 1
  at_most_once (last passed ids h) x = at_most h x
  at_most_once (more passed ids key! h between s' w) x =
      rw (times_append x ids (named w))
      (⊎_elim (λ (p : k.num x < key!). omega (arith, at_most h x, none_left w x p))
      (λ (q : key! ≤ k.num x). omega (arith, ahead h x q, at_most_once w x)) (lt_or_le (k.num x) key!))

  all_true : {s : S} {key? : ℕ} (w : Walk k listed s key?) → Truthful w
  all_true (last passed ids h) = λ x p. (there h x p).listed
  all_true (more passed ids key! h between s' w) = (λ x p. (there h x p).listed, all_true w)

  -- what is listed at no time is not named
  never : {s : S} {key? : ℕ} (w : Walk k listed s key?) (x : ℕ) → Throughout (λ s. x ∉ listed s) w
      → times x (named w) ≡ 0
  never (last passed ids h) x t = absent h x t
  never (more passed ids key! h between s' w) x t =
      times_append x ids (named w) ∙ omega (arith, absent h x t.0, never w x t.2)

  few_calls : {s : S} {key? : ℕ} (w : Walk k listed s key?) → calls w + key? ≤ k.MaxBlocks
  few_calls (last passed ids h) = omega (arith, forward h)
  few_calls (more passed ids key! h between s' w) = omega (arith, forward h, few_calls w)

  all-passed : {s : S} {key? : ℕ} (w : Walk k listed s key?) → key? + total (passes w) ≡ k.MaxBlocks
  all-passed (last passed ids h) = omega (arith, h.distance)
  all-passed (more passed ids key! h between s' w) = omega (arith, h.distance, all-passed w)

  -- what holds throughout, and what follows from it
  module _ {P Q : S → Type 0} (f : (s : S) → P s → Q s) where
    follows : {s : S} {key? : ℕ} (w : Walk k listed s key?) → Throughout P w → Throughout Q w
    follows {s} (last passed ids h) t = f s t
    follows {s} (more passed ids key! h between s' w) t = (f s t.0, all_follow f between t.1, follows w t.2)

  pub complete : {s : S} (w : Walk k listed s (StartKey k)) → Complete w
  complete w =
      record {
        once = λ x i t. named_once w x i (omega arith) t;
        never_twice = at_most_once w;
        truthful = all_true w;
        ends = omega (arith, few_calls w);
        passed = omega (arith, all-passed w);
        constant = λ xs i t x. ⊎_elim
            (λ (e : x ∈ xs). named_once w x (i x e) (omega arith) (follows (λ s c. c x ∙ e) w t) ∙ sym (one_yes xs x e))
            (λ (e : x ∉ xs). never w x (follows (λ s c. c x ∙ e) w t) ∙ sym (one_no xs x e)) (decide (xs x));
      }

-- ---- GetIds: one that reports success is such a call, over the ids that the client owns

success_call : (k : Constants) {p : φBasicParams} {s s' : SS} {key? count? key! : ℕ} {idset! : List ℕ}
    → Get_ids_success k p s s' key? count? key! idset!
    → Call k (owned p.clientnum s.blocks) key? key! (key! - key?) idset!
success_call k {key? = key?} {key! = key! } g =
    let l = larger-key k key? key! g.keys.grows in
    record { subxs = g.subxs; keys = g.keys; names = g.idset; distance = omega arith }

pub get_ids_call : (k : Constants) {p : φBasicParams} {s s' : SS} {key? count? key! : ℕ} {idset! : List ℕ}
    → GetIds k p s s' key? count? key! idset! → Success p
    → Call k (owned p.clientnum s.blocks) key? key! (key! - key?) idset!
get_ids_call k (inl h) ok = let z : ◌≡◌ {A = ℕ} 0 1 = cc h.1.report! in absurd (omega arith)
get_ids_call k (inr h) ok = success_call k h.1.0

pub no_zero_count : (k : Constants) → NoZeroCount k
unfolding times
no_zero_count k p s s' x key! [] i o g =
    let c = success_call k g in
    let one = here c x (record { id = i; from = omega arith; below = forward c; listed = o }) in
    omega (arith, one)
no_zero_count k p s s' x key! (y ∷ l) i o g = omega (arith, g.few)
