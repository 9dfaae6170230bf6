-- What a call gives, as one record: where it succeeds, where it is refused; and that what it gives is bytes.
-- Assumes nothing.
use Prim.Native.Nat.{ℕ, ◌+◌}
use mathlib.Core.Path.{◌≡◌, refl}
use mathlib.Core.List.{List, [], ◌∷◌, map}
use mathlib.Core.Option.{none, some}
use mathlib.Core.Bool.{true≢false}
use native.Mathlib.Omega.{arith}
use lib.ListN.{length}
use Rattle.word.specs.Write.{Write, puts, over}
use Rattle.word.specs.Word.{part, Bytes}
use Rattle.word.proofs.Laws.{bytes-part, bytes_append, bytes-over, bytes-bytes_of, bytes-blank}
use Rattle.kinds.specs.declared.Report.TheVariants.{Success}
use Rattle.ident.specs.Ident.{id_of}
use Rattle.tariff.specs.declared.Tariff.{Tariff}
use Rattle.tariff.specs.Charges.{create_charge, destroy_charge, replace_charge, set_expiry_charge, read_charge}
use Rattle.tariff.specs.Charges.{status_charge}
use Rattle.tariff.specs.Charges.{get_ids_charge, get_count_charge, scavenge_charge, profile_charge}
use Rattle.run.specs.Run.{rows, each}
use Rattle.promise.specs.Keys.{key_at, reach}
use Rattle.promise.specs.Call.{Call, Create, Read, Status, Destroy, Replace, SetExpiry, GetIds, GetCount, Scavenge}
use Rattle.promise.specs.Call.{Profile, lent, key_received, rows_of, Outcome, outcome}
use Rattle.promise.specs.Counts.{count_of, count_set, data_of, service_block}
use Rattle.promise.specs.Create.{lowest_free, create_report, create_writes, create_image, create_answer}
use Rattle.promise.specs.Header.{header_of, owner_of, created_of, expires_of, tag_of, later_of, header_bytes}
use Rattle.promise.specs.Header.{header_zeroed}
use Rattle.promise.specs.Destroy.{destroy_report, destroy_writes, destroy_image, destroy_answer}
use Rattle.promise.specs.GetCount.{get_count_report, get_count_answer}
use Rattle.promise.specs.GetIds.{ids_visited, ids_named, id_row, get_ids_report, get_ids_answer, get_ids_buffer}
use Rattle.promise.specs.Scavenge.{gone, scavenged, scavenge_report, map_freed, count_lowered, scavenge_image}
use Rattle.promise.specs.Scavenge.{scavenge_answer}
use Rattle.promise.specs.Lookup.{leads_to, header_for}
use Rattle.promise.specs.Refusals.{lowest}
use Rattle.promise.specs.Trailer.{n_of, clock_set}
use Rattle.promise.specs.Profile.{profiled, profile_row, profile_report, profile_answer, profile_buffer}
use Rattle.promise.specs.Read.{read_report, read_answer, read_buffer}
use Rattle.promise.specs.Replace.{replace_expires, replace_report, replace_writes, replace_image, replace_answer}
use Rattle.promise.specs.SetExpiry.{set_expiry_report, set_expiry_writes, set_expiry_image, set_expiry_answer}
use Rattle.promise.specs.Status.{status_report, status_answer}
use Rattle.promise.specs.Layout.{header_at, data_at}
use Rattle.promise.specs.Map.{bit_freed}
use Rattle.promise.specs.Call.{results_of}
use Rattle.demands.specs.Demand2.{given_to, OfBytes}
use Rattle.demands.specs.Service.{gives}

abbrev pub granted : Tariff → Call → List ℕ → Outcome
granted t (Create client expiry bytes time) img =
    gives Success (create_charge t time (later_of time expiry)) (id_of time (lowest_free img) ∷ []) none
    (puts img (create_writes img client expiry bytes time)) []
granted t (Read client id buffer) img =
    gives Success (read_charge t) [] none img (service_block (n_of img) img (leads_to id))
granted t (Status client id) img =
    let h : List ℕ = header_for img id in
    gives Success (status_charge t) (owner_of h ∷ created_of h ∷ expires_of h ∷ []) none img []
granted t (Destroy client id time) img =
    let h : List ℕ = header_for img id in
    gives Success (destroy_charge t (created_of h) (expires_of h) time) [] none
    (puts img (destroy_writes img id time)) []
granted t (Replace client id bytes time) img =
    let h : List ℕ = header_for img id in
    gives Success (replace_charge t (created_of h) (expires_of h) time time (replace_expires img id))
    (id_of time (leads_to id) ∷ []) none
    (puts img (replace_writes img client id bytes time)) []
granted t (SetExpiry client id expiry time) img =
    let h : List ℕ = header_for img id in
    gives Success (set_expiry_charge t (created_of h) (expires_of h) (created_of h) (later_of time expiry)) [] none
    (puts img (set_expiry_writes img id expiry time)) []
granted t (GetIds client key count ids) img =
    let named : List ℕ = ids_named img client key count in
    gives Success (get_ids_charge t) (length named ∷ [])
    (some (key_at (n_of img) (key + ids_visited img client key count))) img
    (over ids 0 (rows (id_row img) named))
granted t (GetCount client) img = gives Success (get_count_charge t) (count_of (n_of img) img client ∷ []) none img []
granted t (Scavenge client key time) img =
    gives Success (scavenge_charge t) (length (gone img key time) ∷ []) (some (key_at (n_of img) (key + reach img key)))
    (scavenged img key time) []
granted t (Profile client key buffer) img =
    let told : List ℕ = profiled img key in
    gives Success (profile_charge t) (length told ∷ []) (some (key_at (n_of img) (key + reach img key))) img
    (over buffer 0 (rows (profile_row img) told))

-- all definitions of answers, opened by one name
unfoldable pub answers : Unit {0}
unfolding outcome rows_of create_report create_answer create_image read_report read_answer read_buffer status_report
    status_answer destroy_report destroy_answer destroy_image replace_report replace_answer replace_image
    set_expiry_report set_expiry_answer set_expiry_image get_ids_report get_ids_answer get_ids_buffer get_count_report
    get_count_answer scavenge_report scavenge_answer scavenge_image profile_report profile_answer profile_buffer
answers = tt

pub grants : (t : Tariff) (c : Call) (img : List ℕ) → lowest (rows_of c img) ≡ Success
    → outcome t c img ≡ granted t c img
unfolding answers
grants t (Create client expiry bytes time) img e = rw e
grants t (Read client id buffer) img e = rw e
grants t (Status client id) img e = rw e
grants t (Destroy client id time) img e = rw e
grants t (Replace client id bytes time) img e = rw e
grants t (SetExpiry client id expiry time) img e = rw e
grants t (GetIds client key count ids) img e = rw e
grants t (GetCount client) img e = rw e
grants t (Scavenge client key time) img e = rw e
grants t (Profile client key buffer) img e = rw e

pub form : (t : Tariff) (c : Call) (img : List ℕ)
    → (length (outcome t c img).results ≡ results_of c) × (key_received c ≡ none → (outcome t c img).key ≡ none)
unfolding outcome
form t (Create client expiry bytes time) img = (refl, λ e. refl)
form t (Read client id buffer) img = (refl, λ e. refl)
form t (Status client id) img = (refl, λ e. refl)
form t (Destroy client id time) img = (refl, λ e. refl)
form t (Replace client id bytes time) img = (refl, λ e. refl)
form t (SetExpiry client id expiry time) img = (refl, λ e. refl)
form t (GetIds client key count ids) img = (refl, λ e. absurd (true≢false (cc e)))
form t (GetCount client) img = (refl, λ e. refl)
form t (Scavenge client key time) img = (refl, λ e. absurd (true≢false (cc e)))
form t (Profile client key buffer) img = (refl, λ e. absurd (true≢false (cc e)))

-- ---- where it is given bytes, it gives bytes

-- ---- writes of bytes

abbrev AllBytes : List Write → Type 0
AllBytes [] = Unit {0}
AllBytes (w ∷ ws) = Bytes w.bytes × AllBytes ws

bytes-puts : (ws : List Write) (l : List ℕ) → Bytes l → AllBytes ws → Bytes (puts l ws)
unfolding puts
bytes-puts [] l b h = b
bytes-puts (w ∷ ws) l b h = bytes-puts ws (over l w.at w.bytes) (bytes-over l w.at w.bytes b h.0) h.1

bytes-each : (f : List ℕ → ℕ → List ℕ) → ((s : List ℕ) (x : ℕ) → Bytes s → Bytes (f s x)) → (bs s : List ℕ) → Bytes s
    → Bytes (each f s bs)
unfolding each
bytes-each f h [] s b = b
bytes-each f h (x ∷ bs) s b = bytes-each f h bs (f s x) (h s x b)

bytes_nil : Bytes []
bytes_nil i = omega arith

bytes-rows : (f : ℕ → List ℕ) → ((x : ℕ) → Bytes (f x)) → (bs : List ℕ) → Bytes (rows f bs)
unfolding rows
bytes-rows f h [] = bytes_nil
bytes-rows f h (x ∷ bs) = bytes_append (f x) (rows f bs) (h x) (bytes-rows f h bs)

bytes_header : (owner id created expires : ℕ) (tag : List ℕ) → Bytes tag
    → Bytes (header_bytes owner id created expires tag)
unfolding header_bytes
bytes_header owner id created expires tag b = search (bytes_append, bytes-bytes_of, bytes-blank, b) depth 9 fits 20000

-- ---- the images

module _ (img : List ℕ) (b : Bytes img) where
  create_bytes : (client expiry : ℕ) (bytes : List ℕ) (time : ℕ) → Bytes bytes
      → Bytes (puts img (create_writes img client expiry bytes time))
  unfolding create_writes
  create_bytes client expiry bytes time g =
      let h = bytes_header client (id_of time (lowest_free img)) time (later_of time expiry) (part bytes 0 16)
      (bytes-part bytes 0 16 g) in
      bytes-puts (create_writes img client expiry bytes time) img b
      (bytes-bytes_of 8 time, (bytes-part bytes 16 512 g, (h, (bytes-bytes_of 1 _, (bytes-bytes_of 8 _, tt)))))

  destroy_bytes : (id time : ℕ) → Bytes (puts img (destroy_writes img id time))
  unfolding destroy_writes
  destroy_bytes id time =
      bytes-puts (destroy_writes img id time) img b
      (bytes-bytes_of 8 time, (bytes-blank 64, (bytes-bytes_of 1 _, (bytes-bytes_of 8 _, tt))))

  replace_bytes : (client id : ℕ) (bytes : List ℕ) (time : ℕ) → Bytes bytes
      → Bytes (puts img (replace_writes img client id bytes time))
  unfolding replace_writes
  replace_bytes client id bytes time g =
      let h = bytes_header client (id_of time (leads_to id)) time (replace_expires img id) (part bytes 0 16)
      (bytes-part bytes 0 16 g) in
      bytes-puts (replace_writes img client id bytes time) img b
      (bytes-bytes_of 8 time, (bytes-part bytes 16 512 g, (h, tt)))

  expiry_bytes : (id expiry time : ℕ) → Bytes (puts img (set_expiry_writes img id expiry time))
  unfolding set_expiry_writes
  expiry_bytes id expiry time =
      bytes-puts (set_expiry_writes img id expiry time) img b (bytes-bytes_of 8 time, (bytes-bytes_of 8 _, tt))

  zeroed-all : (bs : List ℕ) → AllBytes (map header_zeroed bs)
  zeroed-all [] = tt
  zeroed-all (x ∷ bs) = (bytes-blank 64, zeroed-all bs)

  scavenge_bytes : (key time : ℕ) → Bytes (scavenged img key time)
  unfolding scavenged
  scavenge_bytes key time =
      let n : ℕ = n_of img in
      let bs : List ℕ = gone img key time in
      let s : List ℕ = puts img (clock_set n time ∷ map header_zeroed bs) in
      bytes-each (count_lowered n img)
      (λ s x g. bytes-puts (count_set n (owner_of (header_of img x)) _ ∷ []) s g (bytes-bytes_of 8 _, tt)) bs
      (each (map_freed n) s bs)
      (bytes-each (map_freed n) (λ s x g. bytes-puts (bit_freed n s x ∷ []) s g (bytes-bytes_of 1 _, tt)) bs s
      (bytes-puts (clock_set n time ∷ map header_zeroed bs) img b (bytes-bytes_of 8 time, zeroed-all bs)))

  -- ---- the buffers

  block-bytes : (n i : ℕ) → Bytes (service_block n img i)
  unfolding header_of data_of
  block-bytes n i =
      bytes_append (tag_of (header_of img i)) (data_of n img i)
      (bytes-part (header_of img i) 32 16 (bytes-part img (header_at i) 64 b))
      (bytes-part img (data_at n i) 512 b)

  ids-bytes : (bs ids : List ℕ) → Bytes ids → Bytes (over ids 0 (rows (id_row img) bs))
  unfolding id_row
  ids-bytes bs ids g = bytes-over ids 0 (rows (id_row img) bs) g (bytes-rows (id_row img) (λ x. bytes-bytes_of 8 _) bs)

  infos_bytes : (bs buffer : List ℕ) → Bytes buffer → Bytes (over buffer 0 (rows (profile_row img) bs))
  unfolding profile_row
  infos_bytes bs buffer g =
      bytes-over buffer 0 (rows (profile_row img) bs) g
      (bytes-rows (profile_row img) (λ x. search (bytes_append, bytes-bytes_of) depth 9 fits 20000) bs)

pub of-bytes : (t : Tariff) (c : Call) (img : List ℕ) → Bytes img → Bytes (lent c) → Bytes (given_to c)
    → OfBytes (granted t c img)
of-bytes t (Create client expiry bytes time) img b l g = (create_bytes img b client expiry bytes time g, l)
of-bytes t (Read client id buffer) img b l g = (b, block-bytes img b (n_of img) (leads_to id))
of-bytes t (Status client id) img b l g = (b, l)
of-bytes t (Destroy client id time) img b l g = (destroy_bytes img b id time, l)
of-bytes t (Replace client id bytes time) img b l g = (replace_bytes img b client id bytes time g, l)
of-bytes t (SetExpiry client id expiry time) img b l g = (expiry_bytes img b id expiry time, l)
of-bytes t (GetIds client key count ids) img b l g = (b, ids-bytes img b (ids_named img client key count) ids l)
of-bytes t (GetCount client) img b l g = (b, l)
of-bytes t (Scavenge client key time) img b l g = (scavenge_bytes img b key time, l)
of-bytes t (Profile client key buffer) img b l g = (b, infos_bytes img b (profiled img key) buffer l)
