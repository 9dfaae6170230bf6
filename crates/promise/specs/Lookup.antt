-- Document 01, the header that an id leads to: Damaged before NoSuchBlock, NoSuchBlock before NotOwner.
use Rattle.std.specs.Prelude.{ℕ, Bool, not, ◌&&◌, List, eqb}
use Rattle.ident.specs.Ident.{undone, block_of, shaped_in}
use Rattle.promise.specs.Trailer.{n_of}
use Rattle.promise.specs.Header.{header_of, is_used, id_in, owner_of}
use Rattle.promise.specs.Map.{good}

-- the block number in an id, and its header
abbrev pub leads_to : ℕ → ℕ
leads_to id = block_of (undone id)

abbrev pub header_for : List ℕ → ℕ → List ℕ
header_for img id = header_of img (leads_to id)

-- an id that is not shaped leads to no header
abbrev pub is_shaped : List ℕ → ℕ → Bool
is_shaped img id = shaped_in (n_of img) (undone id)

-- 9: the header an id leads to is not good
unfoldable pub lookup_damaged : List ℕ → ℕ → Bool
lookup_damaged img id = is_shaped img id && not (good img (leads_to id))

-- 10: id not shaped, or that header is unused or holds another id
unfoldable pub no_such_block : List ℕ → ℕ → Bool
no_such_block img id = not (is_shaped img id && is_used (header_for img id) && eqb (id_in (header_for img id)) id)

-- 11: by another client
unfoldable pub not_owner : List ℕ → (client id : ℕ) → Bool
not_owner img client id = not (eqb (owner_of (header_for img id)) client)
