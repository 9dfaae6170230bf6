-- A small store to try services on: eight blocks, of which client 3 has the first three.
use Rattle.std.specs.Prelude.{ℕ, List, [], ◌∷◌, replicate}
use Rattle.ident.specs.Ident.{id_of}
use Rattle.promise.specs.Format.{fresh_image}
use Rattle.promise.specs.Call.{Call, Create, outcome}
use Rattle.fourteen.specs.Table.{prices}
use Rattle.demands.specs.Service.{Priced, priced, after}

-- at the prices of document 01's fourteen calls
abbrev pub at : Call → Priced
at c = priced prices c

-- a data buffer, and an ids buffer for one id
abbrev pub bytes : List ℕ
bytes = replicate 528 7

abbrev pub room : List ℕ
room = replicate 8 255

-- created at 1, 2 and 3, to expire at 10, 20 and 30
abbrev pub creates : List Priced
creates = at (Create 3 10 bytes 1) ∷ at (Create 3 20 bytes 2) ∷ at (Create 3 30 bytes 3) ∷ []

abbrev pub id0 : ℕ
id0 = id_of 1 0

abbrev pub id1 : ℕ
id1 = id_of 2 1

abbrev pub id2 : ℕ
id2 = id_of 3 2

unfoldable pub three : List ℕ
three = after outcome creates (fresh_image 8)
