-- A line of the table: a call, and what it must answer and leave; and what it means that calls in sequence go as
-- listed.
use Rattle.std.specs.Prelude.{ℕ, ◌≡◌, List, [], ◌∷◌, ℤ}
use Rattle.std.proofs.Math.Option.{Option}
use Rattle.kinds.specs.declared.Report.{Report}
use Rattle.tariff.specs.declared.Tariff.{Tariff}
use Rattle.promise.specs.Header.{header_of, used_of, owner_of, id_in, created_of, expires_of}
use Rattle.promise.specs.Sound.{Sound}
use Rattle.promise.specs.Call.{Call, Outcome, outcome}

-- the fields of a header: used, owner, id, created, expires
abbrev pub fields_of : List ℕ → List ℕ
fields_of h = used_of h ∷ owner_of h ∷ id_in h ∷ created_of h ∷ expires_of h ∷ []

pub record Line : Type 0 where
  pub call : Call
  pub report : Report
  pub charge : ℤ
  pub results : List ℕ
  pub key : Option ℕ
  pub buffer : List ℕ
  pub block : ℕ
  pub fields : List ℕ

-- a call's outcome is the line's: report, charge, results, key and buffer; the header of the line's block has these
-- fields; and the image after the call is sound
pub record Agrees (l : Line) (o : Outcome) : Type 0 where
  pub report : o.report ≡ l.report
  pub charge : o.charge ≡ l.charge
  pub results : o.results ≡ l.results
  pub key : o.key ≡ l.key
  pub buffer : o.buffer ≡ l.buffer
  pub header : fields_of (header_of o.image l.block) ≡ l.fields
  pub sound : Sound o.image

-- in sequence: each call on the image that the one before it left
abbrev pub AsListed : Tariff → List ℕ → List Line → Type 0
AsListed t img [] = Unit {0}
AsListed t img (l ∷ ls) = Agrees l (outcome t l.call img) × AsListed t (outcome t l.call img).image ls
