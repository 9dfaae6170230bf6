-- DEMAND 2. From an image that passes the check, every operation gives the answer, the new store and the charge that
-- PRG-62's User Manual defines, with its open choices fixed as in document 01, and refuses exactly when that document
-- says so. The statement; its proof is in proofs/Demand2.antt.
use Rattle.std.specs.Prelude.{ℕ, zero, suc, ◌+◌, ◌*◌, ◌≤◌, ◌<◌, ◌≡◌, true, false, List, [], ◌∷◌, map, eqb, pos, length}
use Rattle.std.specs.Prelude.{get_or, drop}
use Rattle.std.proofs.Math.Option.{Option, none, some}
use Rattle.plain.specs.Tests.{when}
use Rattle.word.specs.Word.{word_at, Bytes}
use Rattle.kinds.specs.declared.Report.{Report}
use Rattle.kinds.specs.declared.Report.TheVariants.{Success, BadImage, BadUser, BadTime, ClockNotLater, NotManager}
use Rattle.kinds.specs.declared.Report.TheVariants.{BadKey, BadCount, BadRoom, Damaged, NoSuchBlock, NotOwner, NoSpace}
use Rattle.kinds.specs.declared.Report.TheVariants.{NoSeries, BadTag, SequenceTwice}
use Rattle.ident.specs.Ident.{id_of}
use Rattle.tariff.specs.declared.Tariff.{Tariff}
use Rattle.promise.specs.Layout.{number_right}
use Rattle.promise.specs.Trailer.{n_of, clock_of}
use Rattle.promise.specs.Header.{header_of, owner_of, id_in, created_of, expires_of, is_used}
use Rattle.promise.specs.Counts.{data_of}
use Rattle.promise.specs.Lookup.{leads_to}
use Rattle.promise.specs.Create.{lowest_free}
use Rattle.promise.specs.Keys.{end_key, key_at, reach}
use Rattle.promise.specs.GetIds.{ids_visited, ids_named}
use Rattle.promise.specs.Profile.{profiled}
use Rattle.promise.specs.Refusals.{Given}
use Rattle.promise.specs.Sound.{Sound}
use Rattle.promise.specs.Format.{fresh_image}
use Rattle.promise.specs.Call.{Call, Create, Read, Status, Destroy, Replace, SetExpiry, GetIds, GetCount, Scavenge}
use Rattle.promise.specs.Call.{Profile, lent, key_received, rows_of, Outcome}
use Rattle.manual.specs.Given as PRG
use Rattle.manual.specs.State.{BlockInfo, Block, info, SS, φBasicParams, by, Invariant, InitSS}
use Rattle.manual.specs.Frames.{φBlock}
use Rattle.manual.specs.Client as Client
use Rattle.manual.specs.Manager as Manager
use Rattle.manual.specs.Tariff.{Costs, φSSTariff}
use Rattle.promise.specs.Call.{results_of}
use Rattle.demands.specs.Stored.{constants, stored}
use Rattle.demands.specs.Service.{Service, Priced, after}
use Rattle.demands.specs.Demand1.{RefusedCall}

-- ---- document 01's words and PRG-62's

-- the reports that PRG-62 has. BadCount is none of them: PRG-62 lets GetIds ask for zero ids, document 01 refuses a
-- count of 0.
abbrev pub says : Report → Option PRG.Report
says Success = some PRG.SuccessReport
says BadImage = none
says BadUser = none
says BadTime = none
says ClockNotLater = none
says NotManager = some PRG.NotManagerReport
says BadKey = some PRG.BadKeyReport
says BadCount = none
says BadRoom = none
says Damaged = none
says NoSuchBlock = some PRG.NoSuchBlockReport
says NotOwner = some PRG.NotOwnerReport
says NoSpace = some PRG.NoSpaceReport
says NoSeries = none
says BadTag = none
says SequenceTwice = none

abbrev pub costs : Tariff → Costs
costs t =
    record {
      CreateCost = pos t.create;
      ReadCost = pos t.read;
      StatusCost = pos t.status;
      DestroyCost = pos t.destroy;
      ReplaceCost = pos t.replace;
      SetExpiryCost = pos t.setexpiry;
      GetIdsCost = pos t.getids;
      GetCountCost = pos t.getcount;
      ScavengeCost = pos t.scavenge;
      ProfileCost = pos t.profile;
      ErrorCost = pos t.error;
      BlockCost = pos t.rate;
    }

-- a call's client, its time (the clock where it takes none), and its operation
abbrev pub client_of : Call → ℕ
client_of (Create client expiry bytes time) = client
client_of (Read client id buffer) = client
client_of (Status client id) = client
client_of (Destroy client id time) = client
client_of (Replace client id bytes time) = client
client_of (SetExpiry client id expiry time) = client
client_of (GetIds client key count ids) = client
client_of (GetCount client) = client
client_of (Scavenge client key time) = client
client_of (Profile client key buffer) = client

abbrev pub now_of : Call → (clock : ℕ) → ℕ
now_of (Create client expiry bytes time) clock = time
now_of (Read client id buffer) clock = clock
now_of (Status client id) clock = clock
now_of (Destroy client id time) clock = time
now_of (Replace client id bytes time) clock = time
now_of (SetExpiry client id expiry time) clock = time
now_of (GetIds client key count ids) clock = clock
now_of (GetCount client) clock = clock
now_of (Scavenge client key time) clock = time
now_of (Profile client key buffer) clock = clock

abbrev pub op_of : Call → PRG.Op
op_of (Create client expiry bytes time) = PRG.CreateOp
op_of (Read client id buffer) = PRG.ReadOp
op_of (Status client id) = PRG.StatusOp
op_of (Destroy client id time) = PRG.DestroyOp
op_of (Replace client id bytes time) = PRG.ReplaceOp
op_of (SetExpiry client id expiry time) = PRG.SetExpiryOp
op_of (GetIds client key count ids) = PRG.GetIdsOp
op_of (GetCount client) = PRG.GetCountOp
op_of (Scavenge client key time) = PRG.ScavengeOp
op_of (Profile client key buffer) = PRG.ProfileOp

-- ---- the outputs

abbrev pub result : Outcome → ℕ → ℕ
result o i = get_or o.results i 0

-- PRG-62's end key is n
abbrev pub key_in : (n : ℕ) → Option ℕ → ℕ
key_in n none = 0
key_in n (some key) = when (eqb key end_key) n key

-- the ids and the infos that stand in a buffer
unfoldable pub ids_in : (entries : ℕ) → List ℕ → List ℕ
ids_in zero l = []
ids_in (suc c) l = word_at 8 l 0 ∷ ids_in c (drop 8 l)

unfoldable pub infos_in : (entries : ℕ) → List ℕ → List BlockInfo
infos_in zero l = []
infos_in (suc c) l = record { owner = word_at 8 l 0; created = word_at 8 l 8; expires = word_at 8 l 16 }
    ∷ infos_in c (drop 24 l)

-- ---- the schema of each operation

abbrev pub Schema : (n : ℕ) → n ≤ 4096 → Call → φBasicParams → SS → SS → Outcome → Type 0
Schema n m (Create client expiry bytes time) p s s' o = Client.Create (constants n m) p s s' expiry bytes (result o 0)
Schema n m (Read client id buffer) p s s' o = Client.Read p s s' id o.buffer
Schema n m (Status client id) p s s' o = Client.Status p s s' id (result o 0) (result o 1) (result o 2)
Schema n m (Destroy client id time) p s s' o = Client.Destroy (constants n m) p s s' id
Schema n m (Replace client id bytes time) p s s' o = Client.Replace (constants n m) p s s' id bytes (result o 0)
Schema n m (SetExpiry client id expiry time) p s s' o = Client.SetExpiry (constants n m) p s s' id expiry
Schema n m (GetIds client key count ids) p s s' o =
    Client.GetIds (constants n m) p s s' key count (key_in n o.key) (ids_in (result o 0) o.buffer)
Schema n m (GetCount client) p s s' o = Client.GetCount p s s' (result o 0)
Schema n m (Scavenge client key time) p s s' o =
    Manager.Scavenge (constants n m) p s s' key (key_in n o.key) (result o 0)
Schema n m (Profile client key buffer) p s s' o =
    (order : List ℕ) × Manager.Profile (constants n m) p s s' key (key_in n o.key) order
    (infos_in (result o 0) o.buffer)

-- the stored block that an operation is given, and the one that it stores
abbrev pub Concerned : Call → SS → SS → Outcome → (block block' : Block) → Type 0
Concerned (Create client expiry bytes time) s s' o block block' = φBlock s' (result o 0) block'
Concerned (Read client id buffer) s s' o block block' = Unit {0}
Concerned (Status client id) s s' o block block' = Unit {0}
Concerned (Destroy client id time) s s' o block block' = φBlock s id block
Concerned (Replace client id bytes time) s s' o block block' = φBlock s id block × φBlock s' (result o 0) block'
Concerned (SetExpiry client id expiry time) s s' o block block' = φBlock s id block × φBlock s' id block'
Concerned (GetIds client key count ids) s s' o block block' = Unit {0}
Concerned (GetCount client) s s' o block block' = Unit {0}
Concerned (Scavenge client key time) s s' o block block' = Unit {0}
Concerned (Profile client key buffer) s s' o block block' = Unit {0}

-- what Profile tells of block b
abbrev pub info_at : List ℕ → ℕ → BlockInfo
info_at img b =
    record {
      owner = owner_of (header_of img b);
      created = created_of (header_of img b);
      expires = expires_of (header_of img b);
    }

-- what PRG-62 leaves open, as document 01 fixes it: the new id is made from now and the lowest free block, or the block
-- replaced; a key call visits the headers that document 01 says, gives the end key where it stopped at N and its
-- entries in rising block number, and the bytes of the buffer after the last of them keep their values
abbrev pub Choices : Call → List ℕ → Outcome → Type 0
Choices (Create client expiry bytes time) img o = result o 0 ≡ id_of time (lowest_free img)
Choices (Read client id buffer) img o = Unit {0}
Choices (Status client id) img o = Unit {0}
Choices (Destroy client id time) img o = Unit {0}
Choices (Replace client id bytes time) img o = result o 0 ≡ id_of time (leads_to id)
Choices (SetExpiry client id expiry time) img o = Unit {0}
Choices (GetIds client key count ids) img o =
    (o.key ≡ some (key_at (n_of img) (key + ids_visited img client key count)))
    × (ids_in (result o 0) o.buffer ≡ map (λ b. id_in (header_of img b)) (ids_named img client key count))
    × (drop (8 * result o 0) o.buffer ≡ drop (8 * result o 0) ids)
Choices (GetCount client) img o = Unit {0}
Choices (Scavenge client key time) img o = o.key ≡ some (key_at (n_of img) (key + reach img key))
Choices (Profile client key buffer) img o =
    (o.key ≡ some (key_at (n_of img) (key + reach img key)))
    × (infos_in (result o 0) o.buffer ≡ map (info_at img) (profiled img key))
    × (drop (24 * result o 0) o.buffer ≡ drop (24 * result o 0) buffer)

-- ---- the form of an outcome

-- there are as many results as the operation has, a key only where it receives one, and the buffer is as long as it was
-- lent
pub record Shaped (c : Call) (o : Outcome) : Type 0 where
  pub results : length o.results ≡ results_of c
  pub key : key_received c ≡ none → o.key ≡ none
  pub room : length o.buffer ≡ length (lent c)

-- the bytes that a call gives to be stored
abbrev pub given_to : Call → List ℕ
given_to (Create client expiry bytes time) = bytes
given_to (Read client id buffer) = []
given_to (Status client id) = []
given_to (Destroy client id time) = []
given_to (Replace client id bytes time) = bytes
given_to (SetExpiry client id expiry time) = []
given_to (GetIds client key count ids) = []
given_to (GetCount client) = []
given_to (Scavenge client key time) = []
given_to (Profile client key buffer) = []

-- image and buffer of an outcome are bytes
abbrev pub OfBytes : Outcome → Type 0
OfBytes o = Bytes o.image × Bytes o.buffer

-- ---- the statement

abbrev pub params_of : Call → List ℕ → PRG.Report → φBasicParams
params_of c img r = by (client_of c) (now_of c (clock_of img)) r

pub record Obeys (t : Tariff) (c : Call) (img : List ℕ) (m : n_of img ≤ 4096) (o : Outcome) : Type 0 where
  pub shaped : Shaped c o
  pub bytes : Bytes img → Bytes (lent c) → Bytes (given_to c) → OfBytes o
  -- it refuses exactly when document 01 says so, and never for damage; then nothing changes. The lowest number that
  -- applies is given, where PRG-62's ⊕ lets later errors win: as `schema` holds of every report that PRG-62 has, the
  -- two agree.
  pub report : Given (rows_of c img) o.report
  pub undamaged : ¬ (o.report ≡ Damaged)
  pub refused : ¬ (o.report ≡ Success) → RefusedCall t c img o
  -- the image after passes the check; on success its clock is now, for an operation that takes a time
  pub sound : Sound o.image
  pub number : n_of o.image ≡ n_of img
  pub clock : o.report ≡ Success → clock_of o.image ≡ now_of c (clock_of img)
  -- the data of a block number that is not used stays
  pub left : (b : ℕ) → b < n_of img → is_used (header_of o.image b) ≡ false
      → data_of (n_of img) o.image b ≡ data_of (n_of img) img b
  -- where PRG-62 has the report: its schema and its tariff (on success the blocks concerned are there, by the schema)
  pub schema : (r : PRG.Report) → says o.report ≡ some r
      → Schema (n_of img) m c (params_of c img r) (stored (n_of img) img) (stored (n_of img) o.image) o
  pub choices : o.report ≡ Success → Choices c img o
  pub charge : (r : PRG.Report) → says o.report ≡ some r → (block block' : Block)
      → (r ≡ PRG.SuccessReport → Concerned c (stored (n_of img) img) (stored (n_of img) o.image) o block block')
      → φSSTariff (costs t) (record { basic = params_of c img r; op? = op_of c; cost! = o.charge }) (info block)
      (info block')

pub record Demand2 (serve : Service) : Type 0 where
  pub obeys : (t : Tariff) (c : Call) (img : List ℕ) → Sound img → (m : n_of img ≤ 4096)
      → Obeys t c img m (serve t c img)

-- a sound image is a state of PRG-62's, a fresh one is its first, and whatever calls come, refused ones too, it stays
-- sound
pub record States : Type 0 where
  pub few : (img : List ℕ) → Sound img → n_of img ≤ 4096
  pub state : (img : List ℕ) → Sound img → (m : n_of img ≤ 4096)
      → Invariant (constants (n_of img) m) (stored (n_of img) img)
  pub fresh : (n : ℕ) → number_right n ≡ true → (m : n ≤ 4096)
      → Sound (fresh_image n) × InitSS (constants n m) (stored n (fresh_image n))
  -- of any service that meets Demand 2: a sound image stays sound and has as many blocks, and so does a fresh one
  pub kept : (serve : Service) → Demand2 serve → (cs : List Priced) (img : List ℕ) → Sound img
      → Sound (after serve cs img) × (n_of (after serve cs img) ≡ n_of img)
  pub reached : (serve : Service) → Demand2 serve → (cs : List Priced) (n : ℕ) → number_right n ≡ true
      → Sound (after serve cs (fresh_image n)) × (n_of (after serve cs (fresh_image n)) ≡ n)
