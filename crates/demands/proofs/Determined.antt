-- Two outcomes that Demand 2 allows a call on a sound image are one.
-- Assumes nothing.
use Prim.Native.Nat.{ℕ, zero, suc, ◌+◌, ◌*◌, ◌≤◌, ◌<◌}
use mathlib.Core.Path.{◌≡◌, refl, sym, ap, ap₂, ◌∙◌}
use mathlib.Core.Bool.{false}
use mathlib.Core.List.{List, [], ◌∷◌, ◌++◌}
use mathlib.Core.Logic.{◌⊎◌, inl, inr}
use mathlib.Core.Option.{Option, none, some}
use native.Mathlib.Decide.{ℕ_discrete}
use native.Mathlib.Nat.{mul-suc}
use native.Mathlib.Omega.{arith}
use lib.ListN.{length, get_or, take, drop, take-append-drop, length-drop, length-take}
use lib.Seq.{ext_get_or, get_or-drop, drop-drop}
use Rattle.word.specs.Word.{part, le, word_at, bytes_of, Bytes}
use Rattle.word.proofs.Laws.{bytes_of-le, bytes-part}
use Rattle.kinds.specs.Report.{number_of}
use Rattle.kinds.proofs.Laws.{injective}
use Rattle.kinds.specs.declared.Report.TheVariants.{Success}
use Rattle.tariff.specs.declared.Tariff.{Tariff}
use Rattle.promise.specs.Trailer.{n_of, clock_of}
use Rattle.promise.specs.Header.{header_of, is_used}
use Rattle.promise.specs.Counts.{data_of}
use Rattle.promise.specs.Sound.{Sound}
use Rattle.promise.specs.Call.{Call, Create, Read, Status, Destroy, Replace, SetExpiry, GetIds, GetCount, Scavenge}
use Rattle.promise.specs.Call.{Profile, lent, key_received, rows_of, Outcome, outcome}
use Rattle.promise.proofs.RefusalLaws.{exactly}
use Rattle.promise.proofs.CallLaws.{in_order_lem}
use Rattle.manual.specs.Given as G
use Rattle.manual.specs.Sets.{only, ◌≈◌}
use Rattle.manual.specs.State.{BlockInfo, Block, info, ◌⩤◌, SS, φBasicParams, ΞSS}
use Rattle.manual.specs.Reports.{Failed}
use Rattle.manual.specs.Settled.{Settled}
use Rattle.manual.proofs.Settled.{settled, charged}
use Rattle.promise.specs.Call.{results_of}
use Rattle.demands.specs.Stored.{constants, blocks, stored}
use Rattle.demands.specs.Demand2.{says, costs, op_of, result, key_in, ids_in, infos_in, Schema, Concerned, Choices}
use Rattle.demands.specs.Demand2.{Shaped, given_to, OfBytes, params_of, Obeys, Demand2}
use Rattle.demands.specs.Service.{Service, Priced, after}
use Rattle.demands.specs.Determined.{Give, Determined}
use Rattle.demands.proofs.Obeys.{put_own}
use Rattle.demands.proofs.Slots.{state_of, most}
use Rattle.demands.proofs.Demand2.{demand2}
use Rattle.demands.proofs.Alike.{header_same, image_settled}
use Rattle.demands.proofs.Buffers.{length_ids, length_infos}

-- ---- lists of known length

same_outcome : (o o' : Outcome) → o.report ≡ o'.report → o.charge ≡ o'.charge → o.results ≡ o'.results
    → o.key ≡ o'.key → o.image ≡ o'.image
    → o.buffer ≡ o'.buffer → o ≡ o'
same_outcome o o' r c s k i b =
    λ j. record { report = r j; charge = c j; results = s j; key = k j; image = i j; buffer = b j }

none_of : (l l' : List ℕ) → length l ≡ 0 → length l' ≡ 0 → l ≡ l'
none_of l l' e f = ext_get_or 0 l l' (e ∙ sym f) (λ i h. absurd (omega arith))

one_of : (l l' : List ℕ) → length l ≡ 1 → length l' ≡ 1 → get_or l 0 0 ≡ get_or l' 0 0 → l ≡ l'
one_of l l' e f q = ext_get_or 0 l l' (e ∙ sym f) (λ i h. let z : i ≡ 0 = omega arith in rw z q)

three-of : (l l' : List ℕ) → length l ≡ 3 → length l' ≡ 3 → get_or l 0 0 ≡ get_or l' 0 0 → get_or l 1 0 ≡ get_or l' 1 0
    → get_or l 2 0 ≡ get_or l' 2 0 → l ≡ l'
three-of l l' e f p q r = ext_get_or 0 l l' (e ∙ sym f) (λ i h. go i (omega arith))
  where
    go : (i : ℕ) → i < 3 → get_or l i 0 ≡ get_or l' i 0
    go zero h = p
    go (suc zero) h = q
    go (suc (suc zero)) h = r
    go (suc (suc (suc i))) h = absurd (omega arith)

-- ---- a buffer is settled by the words in it and the rest

word_settles : (p p' : List ℕ) → Bytes p → Bytes p' → length p ≡ length p' → le p ≡ le p' → p ≡ p'
word_settles p p' b b' e f = sym (bytes_of-le p b) ∙ ap₂ bytes_of e f ∙ bytes_of-le p' b'

bytes_drop : (k : ℕ) (l : List ℕ) → Bytes l → Bytes (drop k l)
bytes_drop k l b i = rw get_or-drop (b (k + i))

drop-length : (k : ℕ) (l l' : List ℕ) → length l ≡ length l' → length (drop k l) ≡ length (drop k l')
drop-length k l l' e = rw (length-drop k l, length-drop k l', e)

eight : (l l' : List ℕ) → Bytes l → Bytes l' → length l ≡ length l' → word_at 8 l 0 ≡ word_at 8 l' 0
    → drop 8 l ≡ drop 8 l' → l ≡ l'
unfolding part
eight l l' b b' e w d =
    let s = word_settles (take 8 l) (take 8 l') (bytes-part l 0 8 b) (bytes-part l' 0 8 b') (length-same l l' e) w in
    sym (take-append-drop 8 l) ∙ ap₂ ◌++◌ s d ∙ take-append-drop 8 l'
  where
    length-same : (l l' : List ℕ) → length l ≡ length l' → length (take 8 l) ≡ length (take 8 l')
    length-same l l' e = simp length-take (rw e)

drop_more : (k c : ℕ) (l : List ℕ) → drop (k * c) (drop k l) ≡ drop (k * suc c) l
drop_more k c l =
    let z : k + k * c ≡ k * suc c = omega (arith, mul-suc k c) in
    drop-drop (k * c) k l ∙ ap (λ (i : ℕ). drop i l) z

ids_settle : (c : ℕ) (l l' : List ℕ) → Bytes l → Bytes l' → length l ≡ length l' → ids_in c l ≡ ids_in c l'
    → drop (8 * c) l ≡ drop (8 * c) l' → l ≡ l'
unfolding ids_in
ids_settle zero l l' b b' e w d = d
ids_settle (suc c) l l' b b' e w d =
    let head : word_at 8 l 0 ≡ word_at 8 l' 0 = cc w in
    let rest : ids_in c (drop 8 l) ≡ ids_in c (drop 8 l') = cc w in
    eight l l' b b' e head
    (ids_settle c (drop 8 l) (drop 8 l') (bytes_drop 8 l b) (bytes_drop 8 l' b') (drop-length 8 l l' e) rest
    (drop_more 8 c l ∙ d ∙ sym (drop_more 8 c l')))

abbrev no_block : Block
no_block = record { owner = 0; created = 0; expires = 0; bytes = [] }

-- an info is three words
thrice : ℕ → ℕ
thrice zero = zero
thrice (suc c) = suc (suc (suc (thrice c)))

thrice_eight : (c : ℕ) → 8 * thrice c ≡ 24 * c
unfolding thrice
thrice_eight zero = refl
thrice_eight (suc c) = omega (arith, thrice_eight c)

word_at_lem : (k : ℕ) (l : List ℕ) → word_at 8 (drop k l) 0 ≡ word_at 8 l k
unfolding part
word_at_lem k l = refl

infos_words : (c : ℕ) (l l' : List ℕ) → infos_in c l ≡ infos_in c l' → ids_in (thrice c) l ≡ ids_in (thrice c) l'
unfolding infos_in ids_in thrice
infos_words zero l l' w = refl
infos_words (suc c) l l' w =
    let rest = infos_words c (drop 24 l) (drop 24 l') (cc w) in
    let own : word_at 8 l 0 ≡ word_at 8 l' 0 = ap (λ (x : List BlockInfo). (get_or x 0 (info no_block)).owner) w in
    let made : word_at 8 l 8 ≡ word_at 8 l' 8 = ap (λ (x : List BlockInfo). (get_or x 0 (info no_block)).created) w in
    let ends : word_at 8 l 16 ≡ word_at 8 l' 16 = ap (λ (x : List BlockInfo). (get_or x 0 (info no_block)).expires) w in
    rw (drop-drop 8 8 l, drop-drop 8 8 l', drop-drop 8 16 l, drop-drop 8 16 l')
    (rw (word_at_lem 8 l, word_at_lem 8 l', word_at_lem 16 l, word_at_lem 16 l', own, made, ends, rest))

infos_settle : (c : ℕ) (l l' : List ℕ) → Bytes l → Bytes l' → length l ≡ length l' → infos_in c l ≡ infos_in c l'
    → drop (24 * c) l ≡ drop (24 * c) l' → l ≡ l'
infos_settle c l l' b b' e w d = ids_settle (thrice c) l l' b b' e (infos_words c l l' w) (rw (thrice_eight c) d)

same_block : {x : Option Block} {b b' : Block} → x ≡ some b → x ≡ some b' → b ≡ b'
same_block e f = let y : some _ ≡ some _ = sym e ∙ f in cc y

-- ---- on success: by the operation

-- what is not refused succeeds
won : {A pre : Type 0} {p : φBasicParams} {s s' : SS} {r : G.Report} → p.report! ≡ G.SuccessReport
    → (r ≡ G.SuccessReport → ⊥)
    → (pre × Failed p s s' r) ⊎ ((¬ pre) × A) → A
won e d (inl a) = absurd (d (sym a.1.report! ∙ e))
won e d (inr a) = a.1

module _ (img : List ℕ) (m : n_of img ≤ 4096) where
  abbrev s : SS
  s = state_of img

  abbrev fixed : Settled (constants (n_of img) m)
  fixed = settled (constants (n_of img) m)

  abbrev ok : G.Report
  ok = G.SuccessReport

  -- what Demand 2 says of an outcome that is a success
  pub record Well (c : Call) (o : Outcome) : Type 0 where
    pub schema : Schema (n_of img) m c (params_of c img G.SuccessReport) (state_of img) (stored (n_of img) o.image) o
    pub choices : Choices c img o
    pub shaped : Shaped c o
    pub bytes : Bytes o.buffer

  module _ (o o' : Outcome) where
    abbrev after-o : SS
    after-o = stored (n_of img) o.image

    abbrev after-o' : SS
    after-o' = stored (n_of img) o'.image

    -- what it settles, and the blocks that the charge depends on
    pub record Agreed (c : Call) : Type 0 where
      pub stores : blocks (n_of img) o'.image ≈ blocks (n_of img) o.image
      pub results : o.results ≡ o'.results
      pub key : o.key ≡ o'.key
      pub buffer : o.buffer ≡ o'.buffer
      pub block : Block
      pub block' : Block
      pub concerned : Concerned c (state_of img) (stored (n_of img) o.image) o block block'
      pub concerned' : Concerned c (state_of img) (stored (n_of img) o'.image) o' block block'

    apart : ◌≡◌ {A = ℕ} 0 1 → ⊥
    apart e = omega arith

    none-given : (c : Call) → results_of c ≡ 0 → Well c o → Well c o' → o.results ≡ o'.results
    none-given c e a a' = none_of o.results o'.results (a.shaped.results ∙ e) (a'.shaped.results ∙ e)

    one-given : (c : Call) → results_of c ≡ 1 → Well c o → Well c o' → result o 0 ≡ result o' 0
        → o.results ≡ o'.results
    one-given c e a a' q = one_of o.results o'.results (a.shaped.results ∙ e) (a'.shaped.results ∙ e) q

    -- an operation that receives no key; one that is lent no buffer either
    keyless : (c : Call) → key_received c ≡ none → Well c o → Well c o' → o.key ≡ o'.key
    keyless c e a a' = a.shaped.key e ∙ sym (a'.shaped.key e)

    unlent : (c : Call) → length (lent c) ≡ 0 → Well c o → Well c o' → o.buffer ≡ o'.buffer
    unlent c e a a' = none_of o.buffer o'.buffer (a.shaped.room ∙ e) (a'.shaped.room ∙ e)

    agreed : (c : Call) → blocks (n_of img) o'.image ≈ blocks (n_of img) o.image → o.results ≡ o'.results
        → o.key ≡ o'.key → o.buffer ≡ o'.buffer → (block block' : Block) → Concerned c s after-o o block block'
        → Concerned c s after-o' o' block block' → Agreed c
    agreed c e f g h block block' i i' =
        record {
          stores = e;
          results = f;
          key = g;
          buffer = h;
          block = block;
          block' = block';
          concerned = i;
          concerned' = i';
        }

    plain : (c : Call) → key_received c ≡ none → length (lent c) ≡ 0 → Well c o → Well c o'
        → blocks (n_of img) o'.image ≈ blocks (n_of img) o.image → o.results ≡ o'.results → (block block' : Block)
        → Concerned c s after-o o block block' → Concerned c s after-o' o' block block' → Agreed c
    plain c k l a a' e f block block' i i' = agreed c e f (keyless c k a a') (unlent c l a a') block block' i i'

    -- one that leaves the store as it is
    both-same : ΞSS s after-o → ΞSS s after-o' → blocks (n_of img) o'.image ≈ blocks (n_of img) o.image
    both-same e f x = f.blocks x ∙ sym (e.blocks x)

    settle : (c : Call) → Well c o → Well c o' → Agreed c
    settle (Create client expiry bytes time) a a' =
        let c : Call = Create client expiry bytes time in
        let id : result o 0 ≡ result o' 0 = a.choices ∙ sym a'.choices in
        let w = (won refl (λ e. apart (cc)) a.schema).0 in
        let z = fixed.create expiry bytes (result o 0) client time ok ok s after-o after-o' tt tt a.schema
        (rw id a'.schema) in
        let b = w.blocks (result o 0) ∙ put_own s.blocks (result o 0) w.newblock in
        plain c refl refl a a' z.state.blocks (one-given c refl a a' id) no_block w.newblock b
        (z.state.blocks (result o' 0) ∙ rw (← id) b)
    settle (Read client id buffer) a a' =
        let c : Call = Read client id buffer in
        let z = fixed.read id client (clock_of img) ok ok s after-o after-o' o.buffer o'.buffer a.schema
        a'.schema in
        agreed c z.state.blocks (none-given c refl a a') (keyless c refl a a')
        (z.results refl) no_block no_block tt tt
    settle (Status client id) a a' =
        let c : Call = Status client id in
        let w = (won refl (λ e. apart (cc)) a.schema).0 in
        let w' = (won refl (λ e. apart (cc)) a'.schema).0 in
        let b : w.block ≡ w'.block = same_block w.old w'.old in
        plain c refl refl a a' (both-same w.same w'.same)
        (three-of o.results o'.results a.shaped.results a'.shaped.results
        (w.owner ∙ ap (λ (x : Block). x.owner) b ∙ sym w'.owner)
        (w.created ∙ ap (λ (x : Block). x.created) b ∙ sym w'.created)
        (w.expires ∙ ap (λ (x : Block). x.expires) b ∙ sym w'.expires))
        no_block no_block tt tt
    settle (Destroy client id time) a a' =
        let c : Call = Destroy client id time in
        let w = (won refl (λ e. apart (cc)) (won refl (λ e. apart (cc)) a.schema)).0 in
        let z = fixed.destroy id client time ok ok s after-o after-o' tt tt a.schema a'.schema in
        plain c refl refl a a' z.state.blocks (none-given c refl a a') w.block no_block w.old w.old
    settle (Replace client id bytes time) a a' =
        let c : Call = Replace client id bytes time in
        let new : result o 0 ≡ result o' 0 = a.choices ∙ sym a'.choices in
        let w = (won refl (λ e. apart (cc)) (won refl (λ e. apart (cc)) a.schema)).0 in
        let z = fixed.replace id bytes (result o 0) client time ok ok s after-o after-o' tt tt a.schema
        (rw new a'.schema) in
        let b = w.blocks (result o 0) ∙ put_own (only id ⩤ s.blocks) (result o 0) w.newblock in
        plain c refl refl a a' z.state.blocks (one-given c refl a a' new) w.block w.newblock (w.old, b)
        (w.old, z.state.blocks (result o' 0) ∙ rw (← new) b)
    settle (SetExpiry client id expiry time) a a' =
        let c : Call = SetExpiry client id expiry time in
        let w = (won refl (λ e. apart (cc)) (won refl (λ e. apart (cc)) a.schema)).0 in
        let z = fixed.set_expiry id expiry client time ok ok s after-o after-o' tt tt a.schema a'.schema in
        let b = w.blocks id ∙ put_own s.blocks id w.newblock in
        plain c refl refl a a' z.state.blocks (none-given c refl a a') w.block w.newblock (w.old, b)
        (w.old, z.state.blocks id ∙ b)
    settle (GetIds client key count ids) a a' =
        let w = (won refl (λ e. apart (cc)) a.schema).0 in
        let w' = (won refl (λ e. apart (cc)) a'.schema).0 in
        let h = a.choices in
        let h' = a'.choices in
        let named : ids_in (result o 0) o.buffer ≡ ids_in (result o' 0) o'.buffer = h.1 ∙ sym h'.1 in
        let many : result o 0 ≡ result o' 0 =
        sym (length_ids (result o 0) o.buffer) ∙ ap length named ∙ length_ids (result o' 0) o'.buffer in
        agreed (GetIds client key count ids) (both-same w.same w'.same)
        (one-given (GetIds client key count ids) refl a a' many) (h.0 ∙ sym h'.0)
        (ids_settle (result o' 0) o.buffer o'.buffer a.bytes a'.bytes
        (a.shaped.room ∙ sym a'.shaped.room) (rw many at named)
        ((rw many at h.2) ∙ sym h'.2)) no_block no_block tt tt
    settle (GetCount client) a a' =
        let c : Call = GetCount client in
        let z = fixed.get_count client (clock_of img) ok ok s after-o after-o' (result o 0) (result o' 0) a.schema
        a'.schema in
        plain c refl refl a a' z.state.blocks (one-given c refl a a' (z.results refl)) no_block no_block tt tt
    settle (Scavenge client key time) a a' =
        let c : Call = Scavenge client key time in
        let k : o.key ≡ o'.key = a.choices ∙ sym a'.choices in
        let z = fixed.scavenge key (key_in (n_of img) o.key) client time ok ok s after-o after-o' (result o 0)
        (result o' 0) a.schema (rw k a'.schema) in
        agreed c z.state.blocks (one-given c refl a a' (z.results refl)) k
        (unlent c refl a a') no_block no_block tt tt
    settle (Profile client key buffer) a a' =
        let w = (won refl (λ e. apart (cc)) (won refl (λ e. apart (cc)) a.schema.1)).0 in
        let w' = (won refl (λ e. apart (cc)) (won refl (λ e. apart (cc)) a'.schema.1)).0 in
        let h = a.choices in
        let h' = a'.choices in
        let told : infos_in (result o 0) o.buffer ≡ infos_in (result o' 0) o'.buffer = h.1 ∙ sym h'.1 in
        let many : result o 0 ≡ result o' 0 =
        sym (length_infos (result o 0) o.buffer) ∙ ap length told ∙ length_infos (result o' 0) o'.buffer in
        agreed (Profile client key buffer) (both-same w.same w'.same)
        (one-given (Profile client key buffer) refl a a' many) (h.0 ∙ sym h'.0)
        (infos_settle (result o' 0) o.buffer o'.buffer a.bytes a'.bytes
        (a.shaped.room ∙ sym a'.shaped.room) (rw many at told)
        ((rw many at h.2) ∙ sym h'.2)) no_block no_block tt tt

-- ---- two outcomes

module _ (t : Tariff) (c : Call) (img : List ℕ) (m : n_of img ≤ 4096) (o o' : Outcome) (p : Obeys t c img m o)
    (p' : Obeys t c img m o') (f : OfBytes o) (f' : OfBytes o') where
  same_report : o.report ≡ o'.report
  same_report =
      let e = exactly (rows_of c img) (in_order_lem c img) in
      sym ((e o.report).1 p.report) ∙ (e o'.report).1 p'.report

  refused_same : ¬ (o.report ≡ Success) → o ≡ o'
  refused_same d =
      let r = p.refused d in
      let r' = p'.refused (λ z. d (same_report ∙ z)) in
      same_outcome o o' same_report (r.charge ∙ sym r'.charge)
      (r.results ∙ sym r'.results)
      (r.key ∙ sym r'.key) (r.image ∙ sym r'.image) (r.buffer ∙ sym r'.buffer)

  module _ (q : o.report ≡ Success) (q' : o'.report ≡ Success) (a : Agreed img m o o' c) where
    abbrev n-after : n_of o'.image ≡ n_of o.image
    n-after = p'.number ∙ sym p.number

    clock-after : clock_of o'.image ≡ clock_of o.image
    clock-after = p'.clock q' ∙ sym (p.clock q)

    stores-after : blocks (n_of o.image) o'.image ≈ blocks (n_of o.image) o.image
    stores-after = rw p.number a.stores

    -- at a number that is not used after, both have the data of before
    unused-after : (i : ℕ) → i < n_of o.image → is_used (header_of o.image i) ≡ false
        → data_of (n_of o.image) o'.image i ≡ data_of (n_of o.image) o.image i
    unused-after i l u =
        let h = header_same o.image o'.image p.sound p'.sound f.0
        f'.0 n-after clock-after stores-after i l in
        let k : i < n_of img = rw p.number at l in
        rw p.number (p'.left i k (rw h u) ∙ sym (p.left i k u))

    same-image : o.image ≡ o'.image
    same-image =
        sym (image_settled o.image o'.image p.sound p'.sound f.0 f'.0 n-after clock-after
        stores-after unused-after)

    same-charge : o.charge ≡ o'.charge
    same-charge =
        charged (costs t) (params_of c img G.SuccessReport) (op_of c) (info a.block) (info a.block') o.charge
        o'.charge
        (p.charge G.SuccessReport (ap says q) a.block a.block' (λ z. a.concerned))
        (p'.charge G.SuccessReport (ap says q') a.block a.block' (λ z. a.concerned'))

    success-same : o ≡ o'
    success-same = same_outcome o o' same_report same-charge a.results a.key same-image a.buffer

  -- WHAT DEMAND 2 ALLOWS IS ONE OUTCOME
  pub one-outcome : o ≡ o'
  one-outcome = go (ℕ_discrete (number_of o.report) 0)
    where
      well : (o : Outcome) → Obeys t c img m o → Bytes o.buffer → o.report ≡ Success → Well img m c o
      well o p b q =
          record {
            schema = p.schema G.SuccessReport (ap says q);
            choices = p.choices q;
            shaped = p.shaped;
            bytes = b;
          }

      go : Dec (number_of o.report ≡ 0) → o ≡ o'
      go (no d) = refused_same (λ z. d (ap number_of z))
      go (yes z) =
          let q : o.report ≡ Success = injective o.report Success z in
          let q' : o'.report ≡ Success = sym same_report ∙ q in
          success-same q q' (settle img m o o' c (well o p f.1 q) (well o' p' f'.1 q'))

both_agree : (serve serve' : Service) → Demand2 serve → Demand2 serve' → (t : Tariff) (c : Call) (img : List ℕ)
    → Sound img → Bytes img → Bytes (lent c) → Bytes (given_to c) → serve t c img ≡ serve' t c img
both_agree serve serve' h h' t c img d b l g =
    let p = h.obeys t c img d (most img d) in
    let p' = h'.obeys t c img d (most img d) in
    one-outcome t c img (most img d) (serve t c img) (serve' t c img) p p' (p.bytes b l g) (p'.bytes b l g)

any_calls : (serve : Service) → Demand2 serve → (cs : List Priced) (img : List ℕ) → Sound img → Bytes img → Give cs
    → after serve cs img ≡ after outcome cs img
any_calls serve h [] img d b g = refl
any_calls serve h (c ∷ cs) img d b g =
    let e = both_agree serve outcome h demand2 c.tariff c.call img d b g.0.0 g.0.1 in
    let p = demand2.obeys c.tariff c.call img d (most img d) in
    ap (λ (o : Outcome). after serve cs o.image) e
    ∙ any_calls serve h cs (outcome c.tariff c.call img).image p.sound (p.bytes b g.0.0 g.0.1).0
    g.1

-- DETERMINED
pub determined : Determined
determined = record { agree = both_agree; ours = λ serve h. both_agree serve outcome h demand2; runs = any_calls }
