-- Laws of keys: a call moves its key by the headers that it visited, whatever it named; the end key comes exactly where
-- it stopped at N; and a refused call gives back the key that it received.
-- Assumes nothing.
use Prim.Native.Nat.{ℕ, ◌+◌, ◌≤◌, ◌<◌}
use mathlib.Core.Path.{◌≡◌, refl}
use mathlib.Core.Bool.{Bool, true, false}
use mathlib.Core.List.{List}
use native.Mathlib.Omega.{arith}
use borrow.Author.Tests.{eq-eqb, ne_eqb, eqb-true}
use lib.Dec.{eqb}
use Rattle.plain.specs.Tests.{when}
use Rattle.tariff.specs.declared.Tariff.{Tariff}
use Rattle.run.proofs.Laws.{visits-le, visits-pos}
use Rattle.promise.specs.Trailer.{n_of}
use Rattle.promise.specs.Counts.{owned_by}
use Rattle.promise.specs.Refusals.{succeeds}
use Rattle.promise.specs.Keys.{end_key, reach, key_at}
use Rattle.promise.specs.GetIds.{ids_visited, get_ids_report, get_ids_answer}
use Rattle.promise.specs.Scavenge.{scavenge_report, scavenge_answer}
use Rattle.promise.specs.Profile.{profile_report, profile_answer}

-- ---- where a call stopped, and its key

pub key_end : (n : ℕ) → key_at n n ≡ end_key
unfolding key_at
key_end n = rw (eq-eqb n n refl)

pub key_next : (n stopped : ℕ) → stopped < n → key_at n stopped ≡ stopped
unfolding key_at
key_next n stopped h = rw (ne_eqb stopped n (λ e. omega arith))

-- the end key comes from N alone
pub end_only : (n stopped : ℕ) → n ≤ 4096 → stopped ≤ n → key_at n stopped ≡ end_key → stopped ≡ n
unfolding key_at
end_only n stopped h l e = go (eqb stopped n) refl e
  where
    go : (t : Bool) → eqb stopped n ≡ t → when t end_key stopped ≡ end_key → stopped ≡ n
    go true q e = eqb-true stopped n q
    go false q e = omega arith

-- ---- a call visits some header, and none from N on

pub reach_moves : (img : List ℕ) (key : ℕ) → key < n_of img → (0 < reach img key) × (key + reach img key ≤ n_of img)
reach_moves img key h = (omega arith, omega arith)

pub ids_move : (img : List ℕ) (client key count : ℕ) → key < n_of img → 0 < count
    → (0 < ids_visited img client key count) × (key + ids_visited img client key count ≤ n_of img)
unfolding ids_visited
ids_move img client key count h c =
    let a = visits-le (owned_by img client) (reach img key) count key in
    (visits-pos (owned_by img client) (reach img key) count key (omega arith) c, omega arith)

-- ---- the key of a call that is not refused: the next block number, unless it stopped at N

module _ (t : Tariff) (img : List ℕ) (client key : ℕ) where
  pub ids_next : (count : ℕ) (ids : List ℕ) → succeeds (get_ids_report img client key count ids) ≡ true
      → key + ids_visited img client key count < n_of img
      → (get_ids_answer t img client key count ids).key ≡ key + ids_visited img client key count
  unfolding get_ids_answer
  ids_next count ids e h = rw e (key_next (n_of img) (key + ids_visited img client key count) h)

  pub scavenge_next : (time : ℕ) → succeeds (scavenge_report img client key time) ≡ true
      → key + reach img key < n_of img → (scavenge_answer t img client key time).key ≡ key + reach img key
  unfolding scavenge_answer
  scavenge_next time e h = rw e (key_next (n_of img) (key + reach img key) h)

  pub profile_next : (buffer : List ℕ) → succeeds (profile_report img client key buffer) ≡ true
      → key + reach img key < n_of img → (profile_answer t img client key buffer).key ≡ key + reach img key
  unfolding profile_answer
  profile_next buffer e h = rw e (key_next (n_of img) (key + reach img key) h)

  -- ---- the key of a call that is refused: the one it received

  pub ids_back : (count : ℕ) (ids : List ℕ) → succeeds (get_ids_report img client key count ids) ≡ false
      → (get_ids_answer t img client key count ids).key ≡ key
  unfolding get_ids_answer
  ids_back count ids e = rw e

  pub scavenge_back : (time : ℕ) → succeeds (scavenge_report img client key time) ≡ false
      → (scavenge_answer t img client key time).key ≡ key
  unfolding scavenge_answer
  scavenge_back time e = rw e

  pub profile_back : (buffer : List ℕ) → succeeds (profile_report img client key buffer) ≡ false
      → (profile_answer t img client key buffer).key ≡ key
  unfolding profile_answer
  profile_back buffer e = rw e
