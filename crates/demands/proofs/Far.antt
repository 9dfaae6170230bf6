-- A sound image with one block, the sixty-fifth: a key call with the start key does not come to it.
-- Assumes nothing.
use Prim.Native.Nat.{ℕ, suc, ◌+◌, ◌-◌, ◌≤◌, ◌<◌}
use mathlib.Core.Path.{◌≡◌, sym, ap, ◌∙◌}
use mathlib.Core.Bool.{Bool, true, false}
use mathlib.Core.List.{List, [], ◌∷◌}
use native.Mathlib.Omega.{arith}
use Rattle.word.specs.Word.{blank}
use Rattle.word.specs.Write.{puts}
use Rattle.word.proofs.Laws.{length-blank, all_zero-blank}
use Rattle.ident.specs.Ident.{id_of}
use Rattle.run.specs.Run.{picked}
use Rattle.run.proofs.Laws.{just_yes, picked_none, picked_append}
use Rattle.promise.specs.Layout.{number_right, size_of}
use Rattle.promise.specs.Trailer.{n_of, clock_of}
use Rattle.promise.specs.Header.{header_of, id_in, is_used}
use Rattle.promise.specs.Counts.{count_of, owned_by}
use Rattle.promise.specs.Format.{fresh_image}
use Rattle.promise.specs.Sound.{Sound}
use Rattle.promise.proofs.TrailerLaws.{right, Right}
use Rattle.promise.proofs.HeaderLaws.{zero-unused}
use Rattle.promise.proofs.FreshLaws.{fresh_sound, fresh_header, fresh-ends, fresh-free, fresh-count}
use Rattle.promise.proofs.ScavengeLaws.{clocked}
use Rattle.manual.specs.Sets.{◌∈◌}
use Rattle.demands.specs.Demand3.{listed}
use Rattle.demands.proofs.Places.{its_own}
use Rattle.demands.proofs.Change.{Ticked, ticked}
use Rattle.demands.proofs.Steps.{placing, Becomes, Fit, placed}
use Rattle.demands.proofs.Ops.{Done, after}

-- a run whose first number passes
picked_from : (p : ℕ → Bool) (b k : ℕ) → p b ≡ true → picked p b (suc k) ≡ b ∷ picked p (b + 1) k
unfolding picked
picked_from p b k e = rw (just_yes p b e)

-- a fresh store of n blocks at clock 1, with a block placed at number 64
abbrev pub fresh_at1 : (n : ℕ) → List ℕ
fresh_at1 n = clocked (n_of (fresh_image n)) 1 (fresh_image n)

unfoldable pub far : (n : ℕ) → List ℕ
far n =
    puts (fresh_at1 n) (placing (n_of (fresh_image n)) (fresh_at1 n) 64 3 (clock_of (fresh_at1 n)) 1 (blank 16)
    (blank 512))

module _ (n : ℕ) (r : number_right n ≡ true) (more : 64 < n) where
  abbrev fresh : List ℕ
  fresh = fresh_image n

  abbrev s : List ℕ
  s = fresh_at1 n

  same : n_of fresh ≡ n
  same = (fresh-ends n r).number_is

  d : Sound fresh
  d = fresh_sound n r

  later : clock_of fresh < 1
  later = omega (arith, (fresh-ends n r).clock_is)

  t : Ticked fresh 1 s
  t = ticked fresh 1 d (omega (arith, later)) (omega arith)

  e : Right s
  e = right s t.sound.trailer

  there : 64 < n_of fresh
  there = omega (arith, same)

  unused : (b : ℕ) → b < n → is_used (header_of s b) ≡ false
  unused b l = zero-unused _ (rw (t.headers b (omega (arith, same)), fresh_header n b l) (all_zero-blank 64))

  fit : Fit s 3 1 (blank 16) (blank 512)
  fit =
      record {
        client = omega arith;
        dated = omega (arith, t.clock);
        in_time = omega (arith, t.clock);
        starts = omega arith;
        ends = omega arith;
        sixteen = length-blank 16;
        whole = length-blank 512;
      }

  none_yet : count_of (n_of fresh) s 3 ≡ 0
  none_yet = t.counts 3 ∙ rw same (fresh-count n r 3 (omega arith))

  becomes : Becomes (n_of fresh) 64 s (far n) 3 (id_of (clock_of s) 64) (clock_of s) 1 (blank 16) (blank 512)
  unfolding far
  becomes =
      placed s (n_of fresh) 64 (e.size ∙ ap size_of t.number) (rw t.number at e.number.eights)
      (rw t.number at e.number.most) there 3 1
      (blank 16) (blank 512) fit (unused 64 more) (t.bits 64 there ∙ rw same (fresh-free n r 64 more))
      (omega (arith, none_yet, there))

  done : Done fresh 1 (far n)
  done = after fresh d 1 later (omega arith) 64 (far n) there becomes.change

  pub far_sound : Sound (far n)
  far_sound = done.sound

  pub far_number : n_of (far n) ≡ n
  far_number = done.number ∙ same

  -- client 3 owns block 64 and none before it
  far-his : owned_by (far n) 3 64 ≡ true
  unfolding owned_by
  far-his = rw (becomes.reads.used, becomes.reads.owner_is)

  far_none : (b : ℕ) → b < 64 → owned_by (far n) 3 b ≡ false
  unfolding owned_by
  far_none b l = rw (becomes.change.headers b (omega (arith, same)) (λ q. omega arith), unused b (omega arith))

  -- a call that visits 64 headers names nothing
  pub far_names : (visited : ℕ) → visited ≤ 64 → picked (owned_by (far n) 3) 0 visited ≡ []
  far_names visited l = picked_none (owned_by (far n) 3) 0 visited (λ x u v. far_none x (omega arith))

  -- and one that visits all names it
  pub far-all : picked (owned_by (far n) 3) 0 n ≡ 64 ∷ picked (owned_by (far n) 3) 65 (n - 65)
  far-all =
      let k : 64 + suc (n - 65) ≡ n = omega arith in
      ap (picked (owned_by (far n) 3) 0) (sym k) ∙ picked_append (owned_by (far n) 3) 0 64 (suc (n - 65))
      ∙ rw (far_names 64 (omega arith)) (picked_from (owned_by (far n) 3) 64 (n - 65) far-his)

  -- it is stored, and his
  pub far-listed : id_in (header_of (far n) 64) ∈ listed 3 (far n)
  far-listed =
      rw (its_own (far n) far_sound 64 (omega (arith, far_number)) becomes.reads.used, becomes.reads.owner_is)
