-- Document 01, Create: it takes the lowest free block. Owner is the client, created is now, expires is the later of now
-- and the asked expiry.
use Rattle.std.specs.Prelude.{ℕ, ◌+◌, ◌≡◌, Bool, not, ◌&&◌, ◌||◌, List, [], ◌∷◌, leb, ltb}
use Rattle.plain.specs.Tests.{when}
use Rattle.word.specs.Word.{part}
use Rattle.word.specs.Write.{Write, puts}
use Rattle.kinds.specs.Kinds.{ident}
use Rattle.kinds.specs.declared.CreateAnswer.{CreateAnswer}
use Rattle.kinds.specs.declared.Report.{Report}
use Rattle.kinds.specs.declared.Report.TheVariants.{Success, BadImage, BadUser, BadTime, ClockNotLater, BadRoom}
use Rattle.kinds.specs.declared.Report.TheVariants.{Damaged, NoSpace}
use Rattle.ident.specs.Ident.{null_id, id_of}
use Rattle.tariff.specs.Charges.{create_charge}
use Rattle.tariff.specs.declared.Tariff.{Tariff}
use Rattle.run.specs.Run.{first}
use Rattle.promise.specs.Layout.{header_at, data_at}
use Rattle.promise.specs.Trailer.{n_of, clock_set}
use Rattle.promise.specs.Header.{later_of, header_bytes}
use Rattle.promise.specs.Map.{free, good, bit_taken}
use Rattle.promise.specs.Counts.{count_of, count_set}
use Rattle.promise.specs.Refusals.{Row, row, lowest, succeeds, bad_image, bad_user, bad_now, bad_expiry, not_later}
use Rattle.promise.specs.Refusals.{not_a_block, receipt, refusal}

-- the lowest free block; N where there is none
unfoldable pub lowest_free : List ℕ → ℕ
lowest_free img = first (free (n_of img) img) 0 (n_of img)

-- 12: no free bit below N
abbrev pub no_space : List ℕ → Bool
no_space img = leb (n_of img) (lowest_free img)

-- 9: the free block that Create found has a header that is not good, or the client's count is N or more
unfoldable pub create_damaged : List ℕ → (client : ℕ) → Bool
create_damaged img client =
    ltb (lowest_free img) (n_of img)
    && (not (good img (lowest_free img)) || leb (n_of img) (count_of (n_of img) img client))

unfoldable pub create_rows : List ℕ → (client expiry : ℕ) → List ℕ → (time : ℕ) → List Row
create_rows img client expiry bytes time =
    row (bad_image img) BadImage
    ∷ row (bad_user client) BadUser
    ∷ row (bad_now time || bad_expiry expiry) BadTime
    ∷ row (not_later img time) ClockNotLater
    ∷ row (not_a_block bytes) BadRoom
    ∷ row (create_damaged img client) Damaged
    ∷ row (no_space img) NoSpace
    ∷ []

unfoldable pub create_report : List ℕ → (client expiry : ℕ) → List ℕ → (time : ℕ) → Report
create_report img client expiry bytes time = lowest (create_rows img client expiry bytes time)

-- the clock, the data, the header, the map, the count
unfoldable pub create_writes : List ℕ → (client expiry : ℕ) → List ℕ → (time : ℕ) → List Write
create_writes img client expiry bytes time =
    let n : ℕ = n_of img in
    let b : ℕ = lowest_free img in
    clock_set n time
    ∷ record { at = data_at n b; bytes = part bytes 16 512 }
    ∷ record {
      at = header_at b;
      bytes = header_bytes client (id_of time b) time (later_of time expiry) (part bytes 0 16);
    }
    ∷ bit_taken n img b
    ∷ count_set n client (count_of n img client + 1)
    ∷ []

unfoldable pub create_image : List ℕ → (client expiry : ℕ) → List ℕ → (time : ℕ) → List ℕ
create_image img client expiry bytes time =
    when (succeeds (create_report img client expiry bytes time))
    (puts img (create_writes img client expiry bytes time)) img

unfoldable pub create_answer : Tariff → List ℕ → (client expiry : ℕ) → List ℕ → (time : ℕ) → CreateAnswer
create_answer t img client expiry bytes time =
    let r : Report = create_report img client expiry bytes time in
    when (succeeds r)
    (record {
      receipt = receipt Success (create_charge t time (later_of time expiry));
      id = ident (id_of time (lowest_free img));
    })
    (record { receipt = refusal t r; id = ident null_id })

pub record CreatePromise (t : Tariff) (img : List ℕ) (client expiry : ℕ) (bytes : List ℕ) (time : ℕ) (a : CreateAnswer)
    (img' : List ℕ) : Type 0 where
  pub answer : a ≡ create_answer t img client expiry bytes time
  pub image : img' ≡ create_image img client expiry bytes time
