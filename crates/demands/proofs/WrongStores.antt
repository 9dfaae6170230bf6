-- Services that are excluded on a store of eight blocks: on a fresh one, and where one block is stored.
-- Assumes nothing.
use Prim.Native.Nat.{ℕ, ◌+◌, ◌*◌}
use mathlib.Core.Path.{◌≡◌, refl, sym, ap, ◌∙◌, subst}
use mathlib.Core.Bool.{true, false, true≢false, and-false}
use mathlib.Core.List.{List, [], ◌∷◌}
use mathlib.Core.Logic.{inl, inr}
use mathlib.Core.Option.{none, some}
use native.Mathlib.Omega.{arith}
use lib.ListN.{get_or, drop, length}
use Rattle.word.specs.Word.{all_zero}
use Rattle.word.specs.Write.{over}
use Rattle.kinds.specs.Report.{number_of}
use Rattle.kinds.specs.declared.Report.TheVariants.{Success, BadImage, Damaged, NotOwner}
use Rattle.run.specs.Run.{one, times}
use Rattle.promise.specs.Layout.{number_right, header_at}
use Rattle.promise.specs.Trailer.{n_of}
use Rattle.promise.specs.Keys.{end_key, key_at}
use Rattle.promise.specs.Refusals.{applies, Given}
use Rattle.promise.specs.Sound.{Sound}
use Rattle.promise.specs.Format.{fresh_image}
use Rattle.promise.specs.Create.{create_rows}
use Rattle.promise.specs.Read.{read_rows}
use Rattle.promise.specs.Status.{status_rows}
use Rattle.promise.specs.Destroy.{destroy_rows}
use Rattle.promise.specs.Replace.{replace_rows}
use Rattle.promise.specs.SetExpiry.{set_expiry_rows}
use Rattle.promise.specs.GetIds.{ids_visited, get_ids_rows}
use Rattle.promise.specs.GetCount.{get_count_rows}
use Rattle.promise.specs.Scavenge.{scavenge_rows}
use Rattle.promise.specs.Profile.{profile_rows}
use Rattle.promise.specs.Call.{Call, Create, Read, Status, Destroy, Replace, SetExpiry, GetIds, GetCount, Scavenge}
use Rattle.promise.specs.Call.{Profile, rows_of, Outcome, outcome}
use Rattle.promise.specs.Header.{header_of, used_of, is_used}
use Rattle.promise.specs.Counts.{data_of}
use Rattle.promise.proofs.TrailerLaws.{right}
use Rattle.promise.proofs.FreshLaws.{fresh-ends}
use Rattle.manual.specs.Given.{Constants, SuccessReport}
use Rattle.manual.specs.Sets.{∅, ◌≈◌, HasSize}
use Rattle.manual.specs.Reports.{Error, ◌⊕◌}
use Rattle.manual.specs.State.{Block, Blocks, put, SS, φBasicParams}
use Rattle.manual.specs.Manager as Manager
use Rattle.manual.proofs.Sizes.{one_size}
use Rattle.demands.specs.Stored.{blocks}
use Rattle.demands.specs.Demand1.{Among, Demand1}
use Rattle.demands.specs.Demand2.{says, result, Obeys, Demand2}
use Rattle.demands.specs.Demand3.{Walk, Begun, made, Demand3, last, more, here, on}
use Rattle.fourteen.specs.Table.{prices}
use Rattle.demands.specs.Example.{at, id0, bytes, room}
use Rattle.demands.specs.WrongStores.{refuses_all, answers_alike, stores_nothing, made_up_count, ends_at_n, scribbles}
use Rattle.demands.specs.WrongStores.{gives_more, ends_on_refusal, owner_first, scavenges_equal, half_scavenge}
use Rattle.demands.specs.WrongStores.{wipes_data}
use Rattle.demands.specs.Service.{Service, Priced, after}
use Rattle.demands.proofs.Slots.{most}
use Rattle.demands.proofs.Obeys.{put_own}
use Rattle.demands.proofs.Demand2.{demand2, states}
use Rattle.demands.proofs.Sights.{saw, sights, report_at, key_at_lem, gave_at, opened}

-- the fresh store of eight blocks
abbrev pub fresh : List ℕ
fresh = fresh_image 8

pub fresh_sound : Sound fresh
unfolding number_right
fresh_sound = (states.fresh 8 refl (omega arith)).0

on_fresh : {serve : Service} → Demand2 serve → (c : Call)
    → Obeys prices c fresh (most fresh fresh_sound) (serve prices c fresh)
on_fresh h c = h.obeys prices c fresh fresh_sound (most fresh fresh_sound)

-- ---- a store that refuses everything: its refusals are well-formed

bad_image_lem : (c : Call) (img : List ℕ) → Among (rows_of c img) BadImage
unfolding rows_of create_rows read_rows status_rows destroy_rows replace_rows set_expiry_rows get_ids_rows
    get_count_rows scavenge_rows profile_rows
bad_image_lem (Create client expiry bytes time) img = inl refl
bad_image_lem (Read client id buffer) img = inl refl
bad_image_lem (Status client id) img = inl refl
bad_image_lem (Destroy client id time) img = inl refl
bad_image_lem (Replace client id bytes time) img = inl refl
bad_image_lem (SetExpiry client id expiry time) img = inl refl
bad_image_lem (GetIds client key count ids) img = inl refl
bad_image_lem (GetCount client) img = inl refl
bad_image_lem (Scavenge client key time) img = inl refl
bad_image_lem (Profile client key buffer) img = inl refl

pub refuses_all_well : Demand1 refuses_all
unfolding refuses_all all_zero
refuses_all_well =
    record {
      listed = λ t c img. bad_image_lem c img;
      refused = λ t c img h. record { image = refl; buffer = refl; results = refl; charge = refl; key = refl };
    }

-- and no walk begins
no_walk : (client : ℕ) {img : List ℕ} {key : ℕ} → Walk refuses_all client img key → ⊥
unfolding refuses_all
no_walk client (last t count ids r k) = omega (arith, ap number_of r)
no_walk client (more t count ids key' r k e between w) = omega (arith, ap number_of r)

none_made : (client : ℕ) {img : List ℕ} {key : ℕ} (w : Begun refuses_all client img key) → made refuses_all client w ≡ 0
unfolding refuses_all
none_made client here = refl
none_made client (on t count ids key' r k e between w) = absurd (omega (arith, ap number_of r))

pub refuses_all_walks : Demand3 refuses_all
refuses_all_walks =
    record {
      complete = λ client img d w. absurd (no_walk client w);
      ends = λ client img d w. omega (arith, none_made client w, (right img d.trailer).number.least);
    }

-- but nothing is wrong with a fresh image
is_right : applies (rows_of (GetCount 0) fresh) 1 ≡ false
unfolding opened
is_right = refl

pub refuses_all_lem : ¬ Demand2 refuses_all
unfolding refuses_all
refuses_all_lem d =
    true≢false (sym ((on_fresh d (GetCount 0)).report.refused (omega arith))
    ∙ is_right)

-- ---- one that answers every call alike: there is no client 64

no_client : applies (rows_of (GetCount 64) fresh) 2 ≡ true
unfolding opened
no_client = refl

pub answers_alike_lem : ¬ Demand2 answers_alike
unfolding answers_alike
answers_alike_lem d =
    true≢false (sym no_client ∙ (on_fresh d (GetCount 64)).report.clear refl 2)

-- ---- one that stores nothing: what Create gave an id for is not there

-- PRG-62's success, where it is not the error
pub succeeded : {A : Type 0} (e : Error) → (e.outcome → ⊥) → A ⊕ e → A
succeeded e f (inl (p, q)) = absurd (f q)
succeeded e f (inr (p, a)) = a

abbrev creates : Call
creates = Create 3 10 bytes 1

made_well : (stores_nothing prices creates fresh).report ≡ Success
unfolding opened
made_well = refl

nothing_there : (x : ℕ) → blocks (n_of fresh) fresh x ≡ none
unfolding number_right
nothing_there x = rw (fresh-ends 8 refl).number_is ((states.fresh 8 refl (omega arith)).1.blocks x)

not-put : (m m' : Blocks) (id : ℕ) (b : Block) → m' ≈ put m id b → m' id ≡ none → ⊥
not-put m m' id b e f = let y : none ≡ some b = sym f ∙ e id ∙ put_own m id b in true≢false (cc y)

pub stores_nothing_lem : ¬ Demand2 stores_nothing
unfolding stores_nothing
stores_nothing_lem d =
    let o = on_fresh d creates in
    let s = succeeded _ (λ f. true≢false (cc f.report!)) (o.schema SuccessReport (ap says made_well)) in
    not-put _ _ _ _ s.0.blocks (nothing_there _)

-- ---- one that makes up Scavenge's count: nothing is removed from a fresh store

abbrev sweeps : Call
sweeps = Scavenge 0 0 1

swept : sights made_up_count 0 id0 (at sweeps ∷ []) fresh ≡ saw false Success (some end_key) (1 ∷ []) ∷ []
unfolding opened
swept = refl

size_none : HasSize ∅ 0
unfolding times one
size_none = ([], λ x. refl, refl)

-- PRG-62's Scavenge, where it succeeds
scavenged-of : {k : Constants} {p : φBasicParams} {s s' : SS} {key? key! count! : ℕ}
    → Manager.Scavenge k p s s' key? key! count! → p.report! ≡ SuccessReport
    → Manager.Scavenge_success k p s s' key? key! count!
scavenged-of h e = (succeeded _ (λ f. true≢false (cc (sym e ∙ f.report!)))
    (succeeded _ (λ f. true≢false (cc (sym e ∙ f.report!))) h)).0

pub made_up_count_lem : ¬ Demand2 made_up_count
unfolding sights
made_up_count_lem d =
    let o = on_fresh d sweeps in
    let s = scavenged-of (o.schema SuccessReport (ap says (report_at swept 0))) refl in
    omega (
      arith,
      ap (λ l. get_or l 0 0) (gave_at swept 0),
      one_size (λ x. s.keys.part x ∙ rw (nothing_there x, and-false)) s.count size_none,
    )

-- ---- another end key, and zeros after the last entry: client 3 has no block

abbrev lists : Call
lists = GetIds 3 0 1 room

ends_there : ((ends_at_n prices lists fresh).report ≡ Success) × ((ends_at_n prices lists fresh).key ≡ some 8)
    × (some (key_at (n_of fresh) (0 + ids_visited fresh 3 0 1)) ≡ some end_key)
unfolding opened
ends_there = (refl, refl, refl)

pub ends_at_n_lem : ¬ Demand2 ends_at_n
ends_at_n_lem d =
    let k = ((on_fresh d lists).choices ends_there.0).0 in
    let e : some end_key ≡ some 8 = sym ends_there.2 ∙ sym k ∙ ends_there.1 in
    let k : ◌≡◌ {A = ℕ} end_key 8 = cc e in
    omega arith

scribbled : let o : Outcome = scribbles prices lists fresh in
    (o.report ≡ Success) × (get_or (drop (8 * result o 0) o.buffer) 0 0 ≡ 0)
    × (get_or (drop (8 * result o 0) room) 0 0 ≡ 255)
unfolding opened
scribbled = (refl, refl, refl)

pub scribbles_on : ¬ Demand2 scribbles
scribbles_on d =
    let e = ((on_fresh d lists).choices scribbled.0).2 in
    omega (arith, scribbled.1, scribbled.2, ap (λ l. get_or l 0 0) e)

-- ---- a result more: GetCount has one

two_given : length (gives_more prices (GetCount 0) fresh).results ≡ 2
unfolding opened
two_given = refl

pub gives_more_lem : ¬ Demand2 gives_more
gives_more_lem d =
    omega (arith, two_given, (on_fresh d (GetCount 0)).shaped.results)

-- ---- an end key on a refusal: GetIds with key 1, on no image at all

abbrev asks : Call
asks = GetIds 3 1 1 room

asks_end : ((ends_on_refusal prices asks []).report ≡ BadImage) × ((ends_on_refusal prices asks []).key ≡ some end_key)
unfolding opened
asks_end = (refl, refl)

pub ends_on_refusal_lem : ¬ Demand1 ends_on_refusal
ends_on_refusal_lem d =
    let e : some end_key ≡ some 1 = sym asks_end.1
    ∙ (d.refused prices asks [] (λ e. omega (arith, ap number_of (sym asks_end.0 ∙ e)))).key in
    let k : ◌≡◌ {A = ℕ} end_key 1 = cc e in
    omega arith

-- ---- NotOwner first: the block of id0 does not exist

abbrev destroys : Call
destroys = Destroy 3 id0 1

says_owner : ((owner_first prices destroys fresh).report ≡ NotOwner) × (applies (rows_of destroys fresh) 10 ≡ true)
unfolding opened
says_owner = (refl, refl)

pub owner_first_lem : ¬ Demand2 owner_first
owner_first_lem d =
    let g = subst (Given (rows_of destroys fresh)) says_owner.0
    (on_fresh d destroys).report in
    true≢false (sym says_owner.1 ∙ g.first 10 (omega arith))

-- ---- half a Scavenge: block 0 has expired, and the header of block 7 is not good

-- block 0 alone, to expire at 10
abbrev stores : List Priced
stores = at (Create 3 10 bytes 1) ∷ []

unfoldable single : List ℕ
single = after outcome stores fresh

unfoldable hurt : List ℕ
hurt = over single (header_at 7) (2 ∷ [])

abbrev sweeps-hurt : Call
sweeps-hurt = Scavenge 0 0 15

is_gone : ((half_scavenge prices sweeps-hurt hurt).report ≡ Damaged) × (used_of (header_of hurt 0) ≡ 1)
    × (used_of (header_of (half_scavenge prices sweeps-hurt hurt).image 0) ≡ 0)
unfolding opened single hurt
is_gone = (refl, refl, refl)

pub half_scavenge_lem : ¬ Demand1 half_scavenge
half_scavenge_lem d =
    let e = (d.refused prices sweeps-hurt hurt (λ e. omega (arith, ap number_of (sym is_gone.0 ∙ e)))).image in
    omega (arith, is_gone.1, is_gone.2, ap (λ i. used_of (header_of i 0)) e)

-- ---- Scavenging at expires equal to now: block 0 expires at 10

single_sound : Sound single
unfolding single
single_sound = (states.kept outcome demand2 stores fresh fresh_sound).0

abbrev at10 : Call
at10 = Scavenge 0 0 10

removes-none : sights outcome 3 id0 (at at10 ∷ []) single ≡ saw true Success (some end_key) (0 ∷ []) ∷ []
unfolding opened single
removes-none = refl

removes-one : sights scavenges_equal 3 id0 (at at10 ∷ []) single ≡ saw true Success (some end_key) (1 ∷ []) ∷ []
unfolding opened single
removes-one = refl

pub scavenges_equal_lem : ¬ Demand2 scavenges_equal
unfolding sights
scavenges_equal_lem d =
    let m = most single single_sound in
    let o = demand2.obeys prices at10 single single_sound m in
    let o' = d.obeys prices at10 single single_sound m in
    let s = scavenged-of (o.schema SuccessReport (ap says (report_at removes-none 0))) refl in
    let s' = scavenged-of (o'.schema SuccessReport (ap says (report_at removes-one 0))) refl in
    let k = key_at_lem removes-one 0 ∙ sym (key_at_lem removes-none 0) in
    omega (
      arith,
      ap (λ l. get_or l 0 0) (gave_at removes-none 0),
      ap (λ l. get_or l 0 0) (gave_at removes-one 0),
      one_size (λ x. s.keys.part x ∙ rw (sym k) (sym (s'.keys.part x))) s.count s'.count,
    )

-- ---- data wiped: block 0 is destroyed, and its data should stay

abbrev removes : Call
removes = Destroy 3 id0 2

is_wiped : let img : List ℕ = (wipes_data prices removes single).image in
    (is_used (header_of img 0) ≡ false) × (get_or (data_of (n_of single) single 0) 0 0 ≡ 7)
    × (get_or (data_of (n_of single) img 0) 0 0 ≡ 0)
unfolding opened single
is_wiped = (refl, refl, refl)

pub wipes_data_lem : ¬ Demand2 wipes_data
wipes_data_lem d =
    let e = (d.obeys prices removes single single_sound (most single single_sound)).left 0
    (omega (arith, (right single single_sound.trailer).number.least)) is_wiped.0 in
    omega (arith, is_wiped.1, is_wiped.2, ap (λ l. get_or l 0 0) e)
