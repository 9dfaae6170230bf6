-- Document 01, Fourteen calls: N = 8, fresh; all ten prices 10, error price 1, rate 2; in sequence.
use Rattle.std.specs.Prelude.{ℕ, List, [], ◌∷◌, ℤ, pos, negsuc, replicate}
use Rattle.std.proofs.Math.Option.{none, some}
use Rattle.word.specs.Word.{bytes_of}
use Rattle.kinds.specs.declared.Report.{Report}
use Rattle.kinds.specs.declared.Report.TheVariants.{Success, ClockNotLater, NotManager, BadKey, NoSuchBlock, NotOwner}
use Rattle.tariff.specs.declared.Tariff.{Tariff}
use Rattle.promise.specs.Keys.{end_key}
use Rattle.promise.specs.Call.{Call}
use Rattle.fourteen.specs.Line.{Line}

abbrev pub prices : Tariff
prices =
    record {
      create = 10;
      read = 10;
      status = 10;
      destroy = 10;
      replace = 10;
      setexpiry = 10;
      getids = 10;
      getcount = 10;
      scavenge = 10;
      profile = 10;
      error = 1;
      rate = 2;
    }

-- the ids of block 0 (p = 409,600), of block 1 at first, and of block 1 replaced (p = 450,561)
abbrev pub id0 : ℕ
id0 = 15964205149442916352

abbrev pub id1 : ℕ
id1 = 18333126972560076063

abbrev pub id1' : ℕ
id1' = 7779521787325635871

-- a data buffer of 528 bytes, and an ids buffer for one id
abbrev bytes : List ℕ
bytes = replicate 528 7

abbrev room : List ℕ
room = replicate 8 255

-- a call that gives no key and is lent no buffer to write; a key call; what it leaves in the header of a block
abbrev plainly : Call → Report → ℤ → List ℕ → (block : ℕ) → List ℕ → Line
plainly call report charge results block fields =
    record {
      call = call;
      report = report;
      charge = charge;
      results = results;
      key = none;
      buffer = [];
      block = block;
      fields = fields;
    }

abbrev keyed : Call → Report → ℤ → List ℕ → (key : ℕ) → List ℕ → (block : ℕ) → List ℕ → Line
keyed call report charge results key buffer block fields =
    record {
      call = call;
      report = report;
      charge = charge;
      results = results;
      key = some key;
      buffer = buffer;
      block = block;
      fields = fields;
    }

abbrev unused : List ℕ
unused = 0 ∷ 0 ∷ 0 ∷ 0 ∷ 0 ∷ []

abbrev pub fourteen_calls : List Line
fourteen_calls =
    plainly (Call.Create 3 500 bytes 100) Success (pos 810) (id0 ∷ []) 0 (1 ∷ 3 ∷ id0 ∷ 100 ∷ 500 ∷ [])
    ∷ plainly (Call.Create 3 500 bytes 100) ClockNotLater (pos 1) (0 ∷ []) 1 unused
    ∷ plainly (Call.Create 5 50 bytes 101) Success (pos 10) (id1 ∷ []) 1 (1 ∷ 5 ∷ id1 ∷ 101 ∷ 101 ∷ [])
    ∷ plainly (Call.SetExpiry 5 id0 300 102) NotOwner (pos 1) [] 0 (1 ∷ 3 ∷ id0 ∷ 100 ∷ 500 ∷ [])
    ∷ plainly (Call.SetExpiry 3 id0 300 103) Success (negsuc 389) [] 0 (1 ∷ 3 ∷ id0 ∷ 100 ∷ 300 ∷ [])
    ∷ plainly (Call.Replace 5 id1 bytes 110) Success (pos 10) (id1' ∷ []) 1 (1 ∷ 5 ∷ id1' ∷ 110 ∷ 101 ∷ [])
    ∷ record {
      call = Call.Read 5 id1 bytes;
      report = NoSuchBlock;
      charge = pos 1;
      results = [];
      key = none;
      buffer = bytes;
      block = 1;
      fields = 1 ∷ 5 ∷ id1' ∷ 110 ∷ 101 ∷ [];
    }
    ∷ keyed (Call.GetIds 3 0 1 room) Success (pos 10) (1 ∷ []) 1 (bytes_of 8 id0) 0 (1 ∷ 3 ∷ id0 ∷ 100 ∷ 300 ∷ [])
    ∷ keyed (Call.GetIds 3 1 1 room) Success (pos 10) (0 ∷ []) end_key room 0 (1 ∷ 3 ∷ id0 ∷ 100 ∷ 300 ∷ [])
    ∷ keyed (Call.Scavenge 3 0 200) NotManager (pos 1) (0 ∷ []) 0 [] 1 (1 ∷ 5 ∷ id1' ∷ 110 ∷ 101 ∷ [])
    ∷ keyed (Call.Scavenge 0 0 300) Success (pos 10) (1 ∷ []) end_key [] 1 unused
    ∷ plainly (Call.Destroy 3 id0 350) Success (pos 110) [] 0 unused
    ∷ plainly (Call.GetCount 3) Success (pos 10) (0 ∷ []) 0 unused
    ∷ keyed (Call.GetIds 3 8 1 room) BadKey (pos 1) (0 ∷ []) 8 room 0 unused
    ∷ []
