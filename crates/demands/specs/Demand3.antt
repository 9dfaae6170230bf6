-- DEMAND 3. A client walks its identifiers from the start key, returning each key until the end key comes, while
-- operations by anyone fall between the calls. Every block that it owned, and that was stored from the first call to
-- the last, is named exactly once. No identifier is named twice, and each one named was stored and was this client's at
-- the call that named it. The walk ends within as many successful calls as the store has block numbers. The statement;
-- its proof is in proofs/Demand3.antt.
use Rattle.std.specs.Prelude.{ℕ, suc, ◌-◌, ◌≤◌, ◌<◌, ◌≡◌, List, [], ◌∷◌, ◌++◌, ◌≢◌}
use Rattle.std.proofs.Math.Option.{some}
use Rattle.kinds.specs.declared.Report.TheVariants.{Success}
use Rattle.tariff.specs.declared.Tariff.{Tariff}
use Rattle.run.specs.Run.{times}
use Rattle.promise.specs.Trailer.{n_of}
use Rattle.promise.specs.Keys.{start_key, end_key}
use Rattle.promise.specs.Sound.{Sound}
use Rattle.promise.specs.Call.{GetIds, Outcome}
use Rattle.manual.specs.Sets.{Set, ◌∈◌}
use Rattle.manual.specs.State.{owned}
use Rattle.manual.specs.Walk.{All, total}
use Rattle.demands.specs.Stored.{blocks}
use Rattle.demands.specs.Service.{Service, Priced, priced, seen, after}
use Rattle.demands.specs.Demand2.{result, ids_in, Demand2}

-- what is listed: the ids of the stored blocks that the client owns
abbrev pub listed : (client : ℕ) → List ℕ → Set
listed client img = owned client (blocks (n_of img) img)

module _ (serve : Service) (client : ℕ) where
  -- one call of the walk, and its outcome
  abbrev pub ask : Tariff → (key count : ℕ) (ids : List ℕ) → Priced
  ask t key count ids = priced t (GetIds client key count ids)

  abbrev pub asked : Tariff → List ℕ → (key count : ℕ) (ids : List ℕ) → Outcome
  asked t img key count ids = serve t (GetIds client key count ids) img

  -- a walk that stands at a key, over an image: its last call, which returns the end key; or a call that returns
  -- another key, then any calls by anyone, refused ones too, and the rest of the walk. A refused GetIds call of the
  -- walker's own is one of those between. (A count that is not 1 to 64 is refused; PRG-62 has no such limit.)
  pub data Walk : List ℕ → (key : ℕ) → Type 0 where
    last : {img : List ℕ} {key : ℕ} (t : Tariff) (count : ℕ) (ids : List ℕ)
        → (asked t img key count ids).report ≡ Success → (asked t img key count ids).key ≡ some end_key → Walk img key
    more : {img : List ℕ} {key : ℕ} (t : Tariff) (count : ℕ) (ids : List ℕ) (key' : ℕ)
        → (asked t img key count ids).report ≡ Success → (asked t img key count ids).key ≡ some key' → key' ≢ end_key
        → (between : List Priced) → Walk (after serve (ask t key count ids ∷ between) img) key' → Walk img key

  -- the ids that a call names, as they stand in the buffer
  abbrev pub named_by : Tariff → List ℕ → (key count : ℕ) (ids : List ℕ) → List ℕ
  named_by t img key count ids = ids_in (result (asked t img key count ids) 0) (asked t img key count ids).buffer

  abbrev pub named : {img : List ℕ} {key : ℕ} → Walk img key → List ℕ
  named {img} {key} (last t count ids r k) = named_by t img key count ids
  named {img} {key} (more t count ids key' r k e between w) = named_by t img key count ids ++ named w

  abbrev pub calls : {img : List ℕ} {key : ℕ} → Walk img key → ℕ
  calls (last t count ids r k) = 1
  calls (more t count ids key' r k e between w) = suc (calls w)

  -- how many headers each call passed: one entry a call
  abbrev pub passes : {img : List ℕ} {key : ℕ} → Walk img key → List ℕ
  passes {img} {key} (last t count ids r k) = (n_of img - key) ∷ []
  passes {img} {key} (more t count ids key' r k e between w) = (key' - key) ∷ passes w

  -- it holds of every image from the first call to the last: before and after each of the walk's calls, and after each
  -- of those between
  abbrev pub Throughout : (List ℕ → Type 0) → {img : List ℕ} {key : ℕ} → Walk img key → Type 0
  Throughout P {img} (last t count ids r k) = P img
  Throughout P {img} {key} (more t count ids key' r k e between w) =
      P img × All P (seen serve (ask t key count ids ∷ between) img) × Throughout P w

  -- each id that a call names is listed at that call
  abbrev pub Truthful : {img : List ℕ} {key : ℕ} → Walk img key → Type 0
  Truthful {img} {key} (last t count ids r k) =
      (x : ℕ) → 0 < times x (named_by t img key count ids) → x ∈ listed client img
  Truthful {img} {key} (more t count ids key' r k e between w) =
      ((x : ℕ) → 0 < times x (named_by t img key count ids) → x ∈ listed client img) × Truthful w

  pub record Complete {img : List ℕ} (w : Walk img start_key) : Type 0 where
    pub once : (x : ℕ) → Throughout (λ i. x ∈ listed client i) w → times x (named w) ≡ 1
    pub never_twice : (x : ℕ) → times x (named w) ≤ 1
    pub truthful : Truthful w
    pub ends : calls w ≤ n_of img
    pub passed : total (passes w) ≡ n_of img

  -- a walk to which the end key has not come: successful calls, each with the key that the one before returned, and any
  -- calls between
  pub data Begun : List ℕ → (key : ℕ) → Type 0 where
    here : {img : List ℕ} {key : ℕ} → Begun img key
    on : {img : List ℕ} {key : ℕ} (t : Tariff) (count : ℕ) (ids : List ℕ) (key' : ℕ)
        → (asked t img key count ids).report ≡ Success → (asked t img key count ids).key ≡ some key' → key' ≢ end_key
        → (between : List Priced) → Begun (after serve (ask t key count ids ∷ between) img) key' → Begun img key

  abbrev pub made : {img : List ℕ} {key : ℕ} → Begun img key → ℕ
  made here = 0
  made (on t count ids key' r k e between w) = suc (made w)

pub record Demand3 (serve : Service) : Type 0 where
  pub complete : (client : ℕ) (img : List ℕ) → Sound img → (w : Walk serve client img start_key)
      → Complete serve client w
  -- the end key comes with the last of as many successful calls as there are block numbers, or before
  pub ends : (client : ℕ) (img : List ℕ) → Sound img → (w : Begun serve client img start_key)
      → made serve client w < n_of img

-- whatever the service, Demand 3 follows from Demand 2
abbrev pub Follows : Type 0
Follows = (serve : Service) → Demand2 serve → Demand3 serve
