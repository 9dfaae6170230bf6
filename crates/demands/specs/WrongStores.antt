-- Services that are wrong, each a line or two on top of ours, and which demand excludes each. The proof is in
-- proofs/Excluded.antt.
use Rattle.std.specs.Prelude.{ℕ, ◌+◌, ◌-◌, ◌*◌, ◌&&◌, List, [], ◌∷◌, ◌++◌, map, eqb, leb, ltb, pos, length, take, drop}
use Rattle.std.proofs.Math.Option.{Option, some}
use Rattle.plain.specs.Tests.{when}
use Rattle.word.specs.Word.{bytes_of, blank}
use Rattle.word.specs.Write.{over}
use Rattle.kinds.specs.Report.{number_of}
use Rattle.kinds.specs.declared.Report.{Report}
use Rattle.kinds.specs.declared.Report.TheVariants.{Success, BadImage, NotOwner}
use Rattle.run.specs.Run.{picked, visits, rows}
use Rattle.promise.specs.Layout.{data_at}
use Rattle.promise.specs.Create.{lowest_free}
use Rattle.promise.specs.Trailer.{n_of}
use Rattle.promise.specs.Header.{header_of, id_in}
use Rattle.promise.specs.Counts.{owned_by}
use Rattle.promise.specs.Keys.{start_key, end_key, key_at}
use Rattle.promise.specs.Refusals.{applies, succeeds}
use Rattle.promise.specs.Scavenge.{scavenged}
use Rattle.promise.specs.Call.{Call, Create, Read, Status, Destroy, Replace, SetExpiry, GetIds, GetCount, Scavenge}
use Rattle.promise.specs.Call.{Profile, lent, rows_of, Outcome, outcome}
use Rattle.promise.proofs.ScavengeLaws.{clocked}
use Rattle.promise.specs.Call.{refused_outcome}
use Rattle.demands.specs.Service.{gives, Service}
use Rattle.demands.specs.Demand1.{Demand1}
use Rattle.demands.specs.Demand2.{result, key_in, Demand2}
use Rattle.demands.specs.Demand3.{Demand3}

-- ---- words to say it with: an outcome, but for one of its fields; the inputs of one operation

abbrev pub with_report : Outcome → Report → Outcome
with_report o report = gives report o.charge o.results o.key o.image o.buffer

abbrev pub with_results : Outcome → List ℕ → Outcome
with_results o results = gives o.report o.charge results o.key o.image o.buffer

abbrev pub with_key : Outcome → Option ℕ → Outcome
with_key o key = gives o.report o.charge o.results key o.image o.buffer

abbrev pub with_image : Outcome → List ℕ → Outcome
with_image o image = gives o.report o.charge o.results o.key image o.buffer

abbrev pub with_buffer : Outcome → List ℕ → Outcome
with_buffer o buffer = gives o.report o.charge o.results o.key o.image buffer

-- f of its inputs where the call is a Scavenge, else a; and so for GetIds
abbrev pub if_scavenge : {A : Type 0} → Call → ((client key time : ℕ) → A) → A → A
if_scavenge (Create client expiry bytes time) f a = a
if_scavenge (Read client id buffer) f a = a
if_scavenge (Status client id) f a = a
if_scavenge (Destroy client id time) f a = a
if_scavenge (Replace client id bytes time) f a = a
if_scavenge (SetExpiry client id expiry time) f a = a
if_scavenge (GetIds client key count ids) f a = a
if_scavenge (GetCount client) f a = a
if_scavenge (Scavenge client key time) f a = f client key time
if_scavenge (Profile client key buffer) f a = a

abbrev pub if_get_ids : {A : Type 0} → Call → ((client key count : ℕ) (ids : List ℕ) → A) → A → A
if_get_ids (Create client expiry bytes time) f a = a
if_get_ids (Read client id buffer) f a = a
if_get_ids (Status client id) f a = a
if_get_ids (Destroy client id time) f a = a
if_get_ids (Replace client id bytes time) f a = a
if_get_ids (SetExpiry client id expiry time) f a = a
if_get_ids (GetIds client key count ids) f a = f client key count ids
if_get_ids (GetCount client) f a = a
if_get_ids (Scavenge client key time) f a = a
if_get_ids (Profile client key buffer) f a = a

-- ---- one that refuses everything, one that answers every call alike, and one that stores nothing

-- every call is refused
unfoldable pub refuses_all : Service
refuses_all t c img = refused_outcome t c img BadImage

-- every call gets the same answer: Success, zeros (a result that is not there reads as 0), and the image as it was
unfoldable pub answers_alike : Service
answers_alike t c img = gives Success (pos 0) [] (some 0) img (lent c)

-- every call is answered as ours would, and the image stays as it was
unfoldable pub stores_nothing : Service
stores_nothing t c img = with_image (outcome t c img) img

-- ---- one whose Scavenge makes its count up: one more than were removed

unfoldable pub made_up_count : Service
made_up_count t c img =
    let o : Outcome = outcome t c img in
    if_scavenge c (λ client key time. when (succeeds o.report) (with_results o ((result o 0 + 1) ∷ [])) o) o

-- ---- six whose GetIds names other blocks, gives another key or writes more, where ours succeeds

-- the ids of all the client's blocks, in rising block number
abbrev pub ids_of : List ℕ → (client : ℕ) → List ℕ
ids_of img client = map (λ b. id_in (header_of img b)) (picked (owned_by img client) 0 (n_of img))

-- ours, but that it names these ids and gives this key
abbrev pub naming : Outcome → (buffer : List ℕ) → (ids : List ℕ) → (key : Option ℕ) → Outcome
naming o buffer ids key =
    when (succeeds o.report)
    (gives o.report o.charge (length ids ∷ []) key o.image (over buffer 0 (rows (bytes_of 8) ids))) o

-- the user's old store: the key is the number of blocks already listed. A call skips as many, and names the next ones
unfoldable pub old_store : Service
old_store t c img =
    let o : Outcome = outcome t c img in
    if_get_ids c
    (λ client key count ids.
    let left : List ℕ = drop key (ids_of img client) in
    naming o ids (take count left) (some (when (leb (length left) count) end_key (key + count)))) o

-- "nothing named" is read as the end
unfoldable pub stops_at_nothing : Service
stops_at_nothing t c img =
    let o : Outcome = outcome t c img in
    if_get_ids c (λ client key count ids. when (eqb (result o 0) 0) (naming o ids [] (some end_key)) o) o

-- the first call names all that the count allows, in headers that it does not visit too; later calls idle. The keys are
-- ours
unfoldable pub names_all_at_once : Service
names_all_at_once t c img =
    let o : Outcome = outcome t c img in
    if_get_ids c
    (λ client key count ids. naming o ids (when (eqb key start_key) (take count (ids_of img client)) []) o.key) o

-- no limit of 64: a call visits headers up to N, or until it has named the count (excluded by `choices`, which fixes
-- the headers visited)
unfoldable pub visits_all : Service
visits_all t c img =
    let o : Outcome = outcome t c img in
    if_get_ids c
    (λ client key count ids.
    let visited : ℕ = visits (owned_by img client) (n_of img - key) count key in
    naming o ids (map (λ b. id_in (header_of img b)) (picked (owned_by img client) key visited))
    (some (key_at (n_of img) (key + visited)))) o

-- PRG-62's end key, N, in place of document 01's
unfoldable pub ends_at_n : Service
ends_at_n t c img =
    let o : Outcome = outcome t c img in
    if_get_ids c (λ client key count ids. when (succeeds o.report) (with_key o (some (key_in (n_of img) o.key))) o) o

-- zeros after the last entry in the buffer
unfoldable pub scribbles : Service
scribbles t c img =
    let o : Outcome = outcome t c img in
    if_get_ids c
    (λ client key count ids. when (succeeds o.report)
    (with_buffer o (take (8 * result o 0) o.buffer ++ blank (length ids - 8 * result o 0))) o) o

-- ---- one that gives a result more than the operation has

unfoldable pub gives_more : Service
gives_more t c img = let o : Outcome = outcome t c img in when (succeeds o.report) (with_results o (1 ∷ o.results)) o

-- ---- the other errors that document 01 lists

-- an end key returned on the refusal of a call that did not bring it
unfoldable pub ends_on_refusal : Service
ends_on_refusal t c img =
    let o : Outcome = outcome t c img in
    if_get_ids c (λ client key count ids. when (succeeds o.report) o (with_key o (some end_key))) o

-- NotOwner tested before the block is known to exist
unfoldable pub owner_first : Service
owner_first t c img =
    let o : Outcome = outcome t c img in
    when (applies (rows_of c img) 11 && eqb (number_of o.report) 10) (with_report o NotOwner) o

-- Scavenging at expires equal to now: as if it were a tick later
unfoldable pub scavenges_equal : Service
scavenges_equal t c img =
    let o : Outcome = outcome t c img in
    if_scavenge c
    (λ client key time.
    let late : Outcome = outcome t (Scavenge client key (time + 1)) img in
    when (succeeds o.report) (with_image late (clocked (n_of img) time late.image)) o) o

-- Scavenge removing some blocks and then meeting damage
unfoldable pub half_scavenge : Service
half_scavenge t c img =
    let o : Outcome = outcome t c img in
    if_scavenge c (λ client key time. when (eqb (number_of o.report) 9) (with_image o (scavenged img key time)) o) o

-- data that does not stay: zeros into the data of the lowest free block, where there is one, after every call
unfoldable pub wipes_data : Service
wipes_data t c img =
    let o : Outcome = outcome t c img in
    when (succeeds o.report && ltb (lowest_free o.image) (n_of img))
    (with_image o (over o.image (data_at (n_of img) (lowest_free o.image)) (blank 512))) o

-- ---- what the demands exclude

pub record Excluded : Type 0 where
  -- its refusals are well-formed and no walk begins: it is excluded by Demand 2, as it refuses what document 01 does
  -- not
  pub refuses_all_well : Demand1 refuses_all
  pub refuses_all_walks : Demand3 refuses_all
  pub refuses_all_lem : ¬ Demand2 refuses_all
  pub answers_alike_lem : ¬ Demand2 answers_alike
  pub stores_nothing_lem : ¬ Demand2 stores_nothing
  pub made_up_count_lem : ¬ Demand2 made_up_count
  pub names_all_at_once_lem : ¬ Demand2 names_all_at_once
  pub visits-all : ¬ Demand2 visits_all
  pub ends_at_n_lem : ¬ Demand2 ends_at_n
  pub scribbles_on : ¬ Demand2 scribbles
  pub gives_more_lem : ¬ Demand2 gives_more
  -- (nor do these two meet Demand 2, from which Demand 3 follows)
  pub old_store_lem : ¬ Demand3 old_store
  pub stops_at_nothing_lem : ¬ Demand3 stops_at_nothing
  pub ends_on_refusal_lem : ¬ Demand1 ends_on_refusal
  pub owner_first_lem : ¬ Demand2 owner_first
  pub scavenges_equal_lem : ¬ Demand2 scavenges_equal
  pub half_scavenge_lem : ¬ Demand1 half_scavenge
  pub wipes_data_lem : ¬ Demand2 wipes_data
