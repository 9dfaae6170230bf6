-- Each operation is settled by its inputs, with document 01's choices fixed.
-- Assumes nothing.
use Prim.Native.Nat.{ℕ}
use mathlib.Core.Path.{◌≡◌, refl, sym, ◌∙◌, ap}
use mathlib.Core.Bool.{Bool, cond}
use mathlib.Core.List.{List, [], ◌∷◌, map}
use mathlib.Core.Logic.{◌⊎◌, inl, inr}
use mathlib.Core.Option.{Option, none, some}
use native.Mathlib.Omega.{arith}
use Rattle.manual.specs.Sets.{Set, only, ◌≈◌}
use Rattle.manual.specs.Given.{Constants, Report, SuccessReport, NoSuchBlockReport, NoSpaceReport, NotOwnerReport}
use Rattle.manual.specs.Given.{BadKeyReport, NotManagerReport}
use Rattle.manual.specs.State.{BlockInfo, Block, Blocks, SS, by, put, ◌⩤◌, ΞSS}
use Rattle.manual.specs.Reports.{Failed}
use Rattle.manual.specs.Client.{Create_success, Replace_success, Set_expiry_success}
use Rattle.manual.specs.Tariff.{Costs}
use Rattle.manual.specs.Settled.{Same, Settled, Charged}
use Rattle.manual.proofs.Sizes.{one-naming, one_size}

same_block : (a b : Block) → a.owner ≡ b.owner → a.created ≡ b.created → a.expires ≡ b.expires
    → a.bytes ≡ b.bytes → a ≡ b
same_block a b o c e d = λ i. record { owner = o i; created = c i; expires = e i; bytes = d i }

same_info : (a b : BlockInfo) → a.owner ≡ b.owner → a.created ≡ b.created → a.expires ≡ b.expires → a ≡ b
same_info a b o c e = λ i. record { owner = o i; created = c i; expires = e i }

-- one stored block
same_old : {a b : Block} {o : Option Block} → o ≡ some a → o ≡ some b → a ≡ b
same_old p q = cc

same_infos : (l m : List BlockInfo) → map (λ i. some i) l ≡ map (λ i. some i) m → l ≡ m
same_infos [] [] e = refl
same_infos [] (y ∷ m) e = cc
same_infos (x ∷ l) [] e = cc
same_infos (x ∷ l) (y ∷ m) e = let r = same_infos l m (cc) in cc

-- two states that are one, by what they are equal to
one_state : (s' s'' : SS) {m m' : Blocks} {n : Set} → m ≈ m' → s'.blocks ≈ m → s''.blocks ≈ m' → s'.newids ≈ n
    → s''.newids ≈ n → ΞSS s' s''
one_state s' s'' e a b c d = record { blocks = λ x. b x ∙ sym (e x) ∙ sym (a x); newids = λ x. d x ∙ sym (c x) }

module _ {s s' s'' : SS} where
  unchanged : ΞSS s s' → ΞSS s s'' → ΞSS s' s''
  unchanged a b = one_state s' s'' (λ x. refl) a.blocks b.blocks a.newids b.newids

  -- an error is settled, and so is whether there is one; so it is enough that the success is
  or_else : {clientnum now : ℕ} {r r' report : Report} {outputs pre A B : Type 0} → (report ≡ SuccessReport → ⊥)
      → (A → B → Same r r' s' s'' outputs)
      → (pre × Failed (by clientnum now r) s s' report) ⊎ ((¬ pre) × A)
      → (pre × Failed (by clientnum now r') s s'' report) ⊎ ((¬ pre) × B)
      → Same r r' s' s'' outputs
  or_else error f (inl a) (inl b) =
      record {
        report = a.1.report! ∙ sym b.1.report!;
        state = unchanged a.1.same b.1.same;
        results = λ e. absurd (error (sym a.1.report! ∙ e));
      }
  or_else error f (inl a) (inr b) = absurd (b.0 a.0)
  or_else error f (inr a) (inl b) = absurd (a.0 b.0)
  or_else error f (inr a) (inr b) = f a.1 b.1

-- an error is no success
apart : ◌≡◌ {A = ℕ} 0 1 → ⊥
apart e = omega arith

succeeded : {r r' : Report} {s' s'' : SS} {outputs : Type 0} → r ≡ SuccessReport → r' ≡ SuccessReport → ΞSS s' s''
    → outputs → Same r r' s' s'' outputs
succeeded a b e o = record { report = a ∙ sym b; state = e; results = λ h. o }

put_same : (m : Blocks) (i : ℕ) {a b : Block} → a ≡ b → put m i a ≈ put m i b
put_same m i e x = ap (λ b. put m i b x) e

cut_same : {X Y : Set} (m : Blocks) → X ≈ Y → X ⩤ m ≈ Y ⩤ m
cut_same m e x = ap (λ (t : Bool). cond t none (m x)) (e x)

module _ (k : Constants) (c n : ℕ) (r r' : Report) (s s' s'' : SS) where
  create : {expiry? : ℕ} {data? : List ℕ} {id! : ℕ}
      → Create_success k (by c n r) s s' expiry? data? id! → Create_success k (by c n r') s s'' expiry? data? id!
      → ΞSS s' s''
  create {expiry?} {data?} {id! } a b =
      let new = same_block a.newblock b.newblock (cc) (cc) (cc) (cc) in
      one_state s' s'' (put_same s.blocks id! new) a.blocks b.blocks a.newids b.newids

  replace : {id? : ℕ} {data? : List ℕ} {id! : ℕ}
      → Replace_success k (by c n r) s s' id? data? id! → Replace_success k (by c n r') s s'' id? data? id! → ΞSS s' s''
  replace {id?} {data?} {id! } a b =
      let old = same_old a.old b.old in
      let new = same_block a.newblock b.newblock (cc) (cc) (cc) (cc) in
      one_state s' s'' (put_same (only id? ⩤ s.blocks) id! new) a.blocks b.blocks a.newids b.newids

  set_expiry : {id? expiry? : ℕ}
      → Set_expiry_success k (by c n r) s s' id? expiry? → Set_expiry_success k (by c n r') s s'' id? expiry?
      → ΞSS s' s''
  set_expiry {id?} a b =
      let old = same_old a.old b.old in
      let new = same_block a.newblock b.newblock (cc) (cc) (cc) (cc) in
      one_state s' s'' (put_same s.blocks id? new) a.blocks b.blocks a.newids b.newids

pub settled : (k : Constants) → Settled k
settled k =
    record {
      create = λ expiry? data? id! c n r r' s s' s'' u u'.
          or_else (λ e. apart (cc)) (λ a b. succeeded a.1 b.1 (create k c n r r' s s' s'' a.0 b.0) refl);
      read = λ id? c n r r' s s' s'' u u'.
          or_else (λ e. apart (cc))
          (λ a b. let old = same_old a.0.old b.0.old in succeeded a.1 b.1
          (unchanged a.0.same b.0.same) (cc));
      status = λ id? c n r r' s s' s'' u u'.
          or_else (λ e. apart (cc))
          (λ a b. let old = same_old a.0.old b.0.old in
          succeeded a.1 b.1 (unchanged a.0.same b.0.same) (same_info u u' (cc) (cc) (cc)));
      destroy = λ id? c n r r' s s' s'' u u'.
          or_else (λ e. apart (cc)) (or_else (λ e. apart (cc))
          (λ a b. succeeded a.1 b.1
          (one_state s' s'' (λ x. refl) a.0.blocks b.0.blocks a.0.newids b.0.newids) refl));
      replace = λ id? data? id! c n r r' s s' s'' u u'.
          or_else (λ e. apart (cc))
          (or_else (λ e. apart (cc))
          (λ a b. succeeded a.1 b.1 (replace k c n r r' s s' s'' a.0 b.0) refl));
      set_expiry = λ id? expiry? c n r r' s s' s'' u u'.
          or_else (λ e. apart (cc))
          (or_else (λ e. apart (cc))
          (λ a b. succeeded a.1 b.1 (set_expiry k c n r r' s s' s'' a.0 b.0) refl));
      get_ids = λ key? count? key! c n r r' s s' s'' l m.
          or_else (λ e. apart (cc))
          (λ a b. succeeded a.1 b.1 (unchanged a.0.same b.0.same)
          (one-naming l m (λ x. a.0.keys.part x ∙ sym (b.0.keys.part x)) a.0.idset b.0.idset));
      get_count = λ c n r r' s s' s'' l m a b.
          succeeded a.1 b.1 (unchanged a.0.same b.0.same)
          (one_size (λ x. refl) a.0.count b.0.count);
      scavenge = λ key? key! c n r r' s s' s'' l m.
          or_else (λ e. apart (cc)) (or_else (λ e. apart (cc))
          (λ a b.
          let gone : a.0.subxs ≈ b.0.subxs = λ x. a.0.keys.part x ∙ sym (b.0.keys.part x) in
          succeeded a.1 b.1 (one_state s' s'' (cut_same s.blocks gone) a.0.blocks b.0.blocks
          a.0.newids b.0.newids)
          (one_size gone a.0.count b.0.count)));
      profile = λ key? key! order c n r r' s s' s'' l m.
          or_else (λ e. apart (cc)) (or_else (λ e. apart (cc))
          (λ a b. succeeded a.1 b.1 (unchanged a.0.same b.0.same) (same_infos l m (a.0.infoseq
          ∙ sym b.0.infoseq))));
    }

-- ---- the charge

successful : (r : Report) → Dec (r ≡ SuccessReport)
successful SuccessReport = yes refl
successful NoSuchBlockReport = no (λ e. apart (cc))
successful NoSpaceReport = no (λ e. apart (cc))
successful NotOwnerReport = no (λ e. apart (cc))
successful BadKeyReport = no (λ e. apart (cc))
successful NotManagerReport = no (λ e. apart (cc))

pub charged : (t : Costs) → Charged t
charged t basic op block block' c c' a b = go (successful basic.report!)
  where
    go : Dec (basic.report! ≡ SuccessReport) → c ≡ c'
    go (yes e) = a.success e ∙ sym (b.success e)
    go (no e) = a.error e ∙ sym (b.error e)
