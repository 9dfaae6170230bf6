-- A block looked up by its id: what the tests answer in each case, and what is known of a block that was found.
-- Assumes nothing.
use Prim.Native.Nat.{ℕ, ◌+◌, ◌*◌, ◌≤◌, ◌<◌}
use mathlib.Core.Path.{◌≡◌, refl, sym, ap, ◌∙◌}
use mathlib.Core.Bool.{Bool, true, false, not, ◌&&◌, true≢false}
use mathlib.Core.List.{List, [], ◌∷◌, ◌++◌, append-nil}
use native.Mathlib.Omega.{arith}
use borrow.Author.Tests.{not-false, not-true}
use lib.Dec.{eqb}
use lib.ListN.{length}
use Rattle.std.specs.Prelude.{Result, Ok, Err, Some, None}
use Rattle.plain.specs.Tests.{both}
use Rattle.kinds.specs.Kinds.{block_num, ident, user}
use Rattle.kinds.specs.declared.BlockNum.{BlockNum}
use Rattle.kinds.specs.declared.Id.{Id}
use Rattle.kinds.specs.declared.Report.{Report}
use Rattle.kinds.specs.declared.Report.TheVariants.{BadRoom, Damaged, NoSuchBlock, NotOwner}
use Rattle.kinds.specs.declared.User.{User}
use Rattle.ident.specs.Ident.{undone, shape_of}
use Rattle.ident.proofs.Laws.{shaped_below, told_shaped, told_unshaped}
use Rattle.promise.specs.Trailer.{n_of, clock_of}
use Rattle.promise.specs.Header.{header_of, is_used, id_in, owner_of}
use Rattle.promise.specs.Map.{free, good}
use Rattle.promise.specs.Refusals.{Row, row, lowest, succeeds}
use Rattle.promise.specs.Lookup.{leads_to, header_for, is_shaped, lookup_damaged, no_such_block, not_owner}
use Rattle.promise.proofs.GoodLaws.{Used, Good, vacant, taken, good_either, used_facts}
use Rattle.promise.proofs.RefusalLaws.{rising}
use Rattle.promise.proofs.RowLaws.{clear}
use Rattle.image.specs.Image.{Known, trailer_in}
use Rattle.image.specs.declared.trailer.Trailer.{Trailer}
use Rattle.front.specs.Rows.{reading_rows, changing_rows, front_of, answered}
use Rattle.front.proofs.Fronts.{told_ok, err_more, ok_more, ok_err, reading_rising, changing_rising}
use Rattle.front.proofs.Fronts.{changing_known}
use Rattle.store.specs.Store.{find_rows, own_rows, found}
use Rattle.store.specs.declared.lookup.Found.{Found}

-- ---- the room and the id

abbrev pub find_answer : List ℕ → (id : ℕ) → Bool → Result BlockNum Report
find_answer img id room = answered (lowest (find_rows img id room)) (block_num (leads_to id))

pub no_room : (img : List ℕ) (id : ℕ) (room : Bool) → room ≡ false → Err BadRoom ≡ find_answer img id room
unfolding answered lowest find_rows
no_room img id room e = rw e

module _ (img : List ℕ) (id : ℕ) (room : Bool) (r : room ≡ true) (n clock : ℕ) (k : Known img n clock) where
  pub not_shaped : shape_of (undone id) n ≡ None → find_answer img id room ≡ Err NoSuchBlock
  unfolding answered lowest find_rows lookup_damaged no_such_block
  not_shaped e = rw (r, k.its_n, told_unshaped n (undone id) e)

  module _ (b : BlockNum) (s : shape_of (undone id) n ≡ Some b) where
    pub shaped_within : b.0 < n
    shaped_within = (told_shaped n (undone id) b s).0

    pub bad_header : good img b.0 ≡ false → Err Damaged ≡ find_answer img id room
    unfolding answered lowest find_rows lookup_damaged
    bad_header g = let w = told_shaped n (undone id) b s in rw (r, k.its_n, w.2, w.1, g)

    -- its header as it was lent, and the id that was read from it
    module _ (g : good img b.0 ≡ true) (h : List ℕ) (p : h ≡ header_of img b.0) where
      pub unused : is_used h ≡ false → Err NoSuchBlock ≡ find_answer img id room
      unfolding answered lowest find_rows lookup_damaged no_such_block
      unused u = let w = told_shaped n (undone id) b s in rw (r, k.its_n, w.2, w.1, g, ← p, u)

      module _ (u : is_used h ≡ true) (held : Id) (q : held ≡ ident (id_in h)) where
        its_id : id_in h ≡ held.0
        its_id = sym (ap (λ (x : Id). x.0) q)

        pub another : not (eqb held.0 id) ≡ true → Err NoSuchBlock ≡ find_answer img id room
        unfolding answered lowest find_rows lookup_damaged no_such_block
        another d =
            let w = told_shaped n (undone id) b s in
            let e : eqb (id_in h) id ≡ false = rw its_id (not-true (eqb held.0 id) d) in
            rw (r, k.its_n, w.2, w.1, g, ← p, u, e)

        pub there : not (eqb held.0 id) ≡ false → Ok b ≡ find_answer img id room
        unfolding answered lowest find_rows lookup_damaged no_such_block
        there d =
            let w = told_shaped n (undone id) b s in
            let e : eqb (id_in h) id ≡ true = rw its_id (not-false (eqb held.0 id) d) in
            rw (r, k.its_n, w.2, w.1, g, ← p, u, e, whole)
          where
            whole : block_num b.0 ≡ b
            whole = refl

-- ---- a block that was found

pub record There (img : List ℕ) (id : ℕ) : Type 0 where
  pub below : leads_to id < n_of img
  pub bit : free (n_of img) img (leads_to id) ≡ false
  pub facts : Used (clock_of img) (leads_to id) (header_for img id)

is_there : (img : List ℕ) (id : ℕ) → lookup_damaged img id ≡ false → no_such_block img id ≡ false → There img id
unfolding lookup_damaged no_such_block good
is_there img id d m =
    let w = both (is_shaped img id && is_used (header_for img id)) (eqb (id_in (header_for img id)) id)
    (not-false _ m) in
    let v = both (is_shaped img id) (is_used (header_for img id)) w.0 in
    let e : not (good img (leads_to id)) ≡ false = rw v.0 at d in
    go v.1 (shaped_below (n_of img) (undone id) v.0) (good_either _ _ _ _ (not-false _ e))
  where
    go : is_used (header_for img id) ≡ true → leads_to id < n_of img
        → Good (clock_of img) (leads_to id) (free (n_of img) img (leads_to id)) (header_for img id) → There img id
    go u l (vacant z v q) = absurd (true≢false (sym u ∙ v))
    go u l (taken r v q) = record { below = l; bit = q; facts = used_facts _ _ _ r }

pub is_found : (img : List ℕ) (id : ℕ) (room : Bool) (ws : List Row)
    → succeeds (lowest (find_rows img id room ++ ws)) ≡ true
    → (room ≡ true) × There img id × (succeeds (lowest ws) ≡ true)
unfolding find_rows
is_found img id room ws e =
    let w = clear _ _ (omega arith) e in
    let v = clear _ _ (omega arith) w.1 in
    let u = clear _ _ (omega arith) v.1 in
    (not-false room w.0, is_there img id v.0 u.0, u.1)

pub find_rising : (img : List ℕ) (id : ℕ) (room : Bool) → rising 1 (find_rows img id room) ≡ true
unfolding rising find_rows
find_rising img id room = refl

pub ruleset find_cases = (
  no_room,
  not_shaped,
  shaped_within,
  bad_header,
  unused,
  another,
  there,
)

-- ---- all tests of Read and Status

abbrev pub seek_rows : List ℕ → (client id : ℕ) → Bool → List Row
seek_rows img client id room = reading_rows img client ++ find_rows img id room

module _ (img : List ℕ) (client id : ℕ) (room : Bool) where
  abbrev pub seek_answer : Result Found Report
  seek_answer = answered (lowest (seek_rows img client id room)) (found img (leads_to id))

  pub not_read : (r : Report) → front_of (lowest (reading_rows img client)) img ≡ Err r → seek_answer ≡ Err r
  not_read r e =
      err_more (reading_rows img client) (find_rows img id room) (trailer_in img) (found img (leads_to id)) r e

  module _ (t : Trailer) (e : front_of (lowest (reading_rows img client)) img ≡ Ok t) where
    pub not_found : (r : Report) → find_answer img id room ≡ Err r → seek_answer ≡ Err r
    not_found r f = ok_err (reading_rows img client) (find_rows img id room) (trailer_in img) (found img (leads_to id))
        (reading_rising img client) t e (block_num (leads_to id)) r f

    pub is_sought : (b : BlockNum) → find_answer img id room ≡ Ok b
        → seek_answer ≡ Ok (record { n = t.n; b = b })
    unfolding answered
    is_sought b f =
        let w = told_ok (lowest (reading_rows img client)) (trailer_in img) t e in
        let v = told_ok (lowest (find_rows img id room)) (block_num (leads_to id)) b f in
        sym (ok_more (reading_rows img client) (find_rows img id room) (trailer_in img) (found img (leads_to id))
        (reading_rising img client) t e)
        ∙ rw (v.0, ap (λ (x : Trailer). x.n) w.1, v.1)

-- ---- all tests of Replace and SetExpiry

abbrev pub own_seek_rows : List ℕ → (client id expiry : ℕ) → Bool → (time : ℕ) → List Row
own_seek_rows img client id expiry room time = changing_rows img client expiry time ++ own_rows img client id room

module _ (img : List ℕ) (client id expiry : ℕ) (room : Bool) (time : ℕ) where
  abbrev pub own_answer : Result Found Report
  own_answer = answered (lowest (own_seek_rows img client id expiry room time)) (found img (leads_to id))

  pub not_timely : (r : Report) → front_of (lowest (changing_rows img client expiry time)) img ≡ Err r
      → own_answer ≡ Err r
  not_timely r e = err_more (changing_rows img client expiry time) (own_rows img client id room) (trailer_in img)
      (found img (leads_to id)) r e

  module _ (t : Trailer) (e : front_of (lowest (changing_rows img client expiry time)) img ≡ Ok t) where
    by_own : answered (lowest (own_rows img client id room)) (found img (leads_to id)) ≡ own_answer
    by_own = ok_more (changing_rows img client expiry time) (own_rows img client id room) (trailer_in img)
        (found img (leads_to id)) (changing_rising img client expiry time) t e

    pub not_there : (r : Report) → find_answer img id room ≡ Err r → own_answer ≡ Err r
    unfolding own_rows
    not_there r f = sym by_own
        ∙ err_more (find_rows img id room) (row (not_owner img client id) NotOwner ∷ []) (block_num (leads_to id))
        (found img (leads_to id)) r f

    module _ (b : BlockNum) (f : find_answer img id room ≡ Ok b) where
      its_b : leads_to id ≡ b.0
      its_b = ap (λ (x : BlockNum). x.0)
          (told_ok (lowest (find_rows img id room)) (block_num (leads_to id)) b f).1

      pub there_within : 64 * b.0 + 64 ≤ length img
      there_within =
          let k = changing_known img client expiry time t e in
          let w = told_ok (lowest (find_rows img id room)) (block_num (leads_to id)) b f in
          let v = is_found img id room [] (rw append-nil w.0) in
          omega (arith, v.1.below, k.its_n, its_b, k.laid.size)

      by_owner : answered (lowest (row (not_owner img client id) NotOwner ∷ [])) (found img (leads_to id)) ≡ own_answer
      unfolding own_rows
      by_owner = ok_more (find_rows img id room) (row (not_owner img client id) NotOwner ∷ []) (block_num (leads_to id))
          (found img (leads_to id)) (find_rising img id room) b f ∙ by_own

      -- its header as it was lent, and the owner that was read from it
      module _ (h : List ℕ) (p : h ≡ header_of img b.0) (o : User) (q : o ≡ user (owner_of h)) where
        its_owner : owner_of (header_for img id) ≡ o.0
        its_owner = rw (its_b, ← p) (sym (ap (λ (x : User). x.0) q))

        pub another_owner : not (eqb o.0 client) ≡ true → own_answer ≡ Err NotOwner
        unfolding answered lowest not_owner
        another_owner d = sym by_owner ∙ rw (its_owner, d)

        pub is_own : not (eqb o.0 client) ≡ false → own_answer ≡ Ok (record { n = t.n; b = b })
        unfolding answered lowest not_owner
        is_own d =
            let w = told_ok (lowest (changing_rows img client expiry time)) (trailer_in img) t e in
            sym by_owner ∙ rw (its_owner, d, ap (λ (x : Trailer). x.n) w.1, its_b)
