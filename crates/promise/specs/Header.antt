-- Document 01, Header: the 64 bytes of a block's header, its fields, and when it is good.
use Rattle.std.specs.Prelude.{ℕ, max, Bool, not, ◌&&◌, ◌||◌, List, [], ◌∷◌, ◌++◌, eqb, leb, ltb}
use Rattle.plain.specs.Tests.{all}
use Rattle.word.specs.Word.{part, word_at, bytes_of, blank, all_zero}
use Rattle.word.specs.Write.{Write}
use Rattle.ident.specs.Ident.{id_of}
use Rattle.promise.specs.Layout.{header_at, end_of_time}

-- 64 bytes at 64·b
unfoldable pub header_of : List ℕ → ℕ → List ℕ
header_of img b = part img (header_at b) 64

-- used (1 byte), owner (1 byte), 6 zero bytes, id, created, expires (8 each), tag (16), 16 zero bytes
abbrev pub used_of : List ℕ → ℕ
used_of h = word_at 1 h 0

abbrev pub owner_of : List ℕ → ℕ
owner_of h = word_at 1 h 1

abbrev pub id_in : List ℕ → ℕ
id_in h = word_at 8 h 8

abbrev pub created_of : List ℕ → ℕ
created_of h = word_at 8 h 16

abbrev pub expires_of : List ℕ → ℕ
expires_of h = word_at 8 h 24

abbrev pub tag_of : List ℕ → List ℕ
tag_of h = part h 32 16

-- the header of a used block: used is 1
abbrev pub is_used : List ℕ → Bool
is_used h = eqb (used_of h) 1

-- the later of now and the asked expiry
unfoldable pub later_of : (time expiry : ℕ) → ℕ
later_of time expiry = max time expiry

-- the 64 bytes of a used block's header
unfoldable pub header_bytes : (owner id created expires : ℕ) (tag : List ℕ) → List ℕ
header_bytes owner id created expires tag =
    bytes_of 1 1 ++ bytes_of 1 owner ++ blank 6 ++ bytes_of 8 id ++ bytes_of 8 created ++ bytes_of 8 expires ++ tag
    ++ blank 16

-- used is 1, the zero bytes are zero, the owner is at most 63, created is from 1 to the clock, expires is from 1 to
-- 2^40 - 1, and the id is the one made from b and created
unfoldable pub used_right : (clock b : ℕ) (h : List ℕ) → Bool
used_right clock b h =
    all
    (is_used h
    ∷ all_zero (part h 2 6)
    ∷ all_zero (part h 48 16)
    ∷ leb (owner_of h) 63
    ∷ leb 1 (created_of h)
    ∷ leb (created_of h) clock
    ∷ leb 1 (expires_of h)
    ∷ ltb (expires_of h) end_of_time
    ∷ eqb (id_in h) (id_of (created_of h) b)
    ∷ [])

-- a header is good if it is all zero and its map bit is 1, or it is right for a used block and its map bit is 0
unfoldable pub good_header : (clock b : ℕ) (free : Bool) (h : List ℕ) → Bool
good_header clock b free h = (all_zero h && free) || (used_right clock b h && not free)

-- the header of block b, zeroed
abbrev pub header_zeroed : ℕ → Write
header_zeroed b = record { at = header_at b; bytes = blank 64 }
