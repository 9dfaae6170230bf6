-- Any service: what it does on every call, for every tariff and image. `outcome` is ours; WrongStores.antt has others.
use Rattle.std.specs.Prelude.{ℕ, List, [], ◌∷◌, ℤ}
use Rattle.std.proofs.Math.Option.{Option}
use Rattle.kinds.specs.declared.Report.{Report}
use Rattle.tariff.specs.declared.Tariff.{Tariff}
use Rattle.promise.specs.Call.{Call, Outcome}

-- an outcome from its parts: report and charge; the results; the key; the image and the buffer after
abbrev pub gives : Report → ℤ → (results : List ℕ) → (key : Option ℕ) → (image buffer : List ℕ) → Outcome
gives report charge results key image buffer =
    record { report = report; charge = charge; results = results; key = key; image = image; buffer = buffer }

abbrev pub Service : Type 0
Service = Tariff → Call → List ℕ → Outcome

-- a call with the tariff of its day: prices may change from call to call
pub record Priced : Type 0 where
  pub tariff : Tariff
  pub call : Call

abbrev pub priced : Tariff → Call → Priced
priced t c = record { tariff = t; call = c }

module _ (serve : Service) where
  -- the image after a list of calls, and the images after each of them
  abbrev pub after : List Priced → List ℕ → List ℕ
  after [] img = img
  after (c ∷ cs) img = after cs (serve c.tariff c.call img).image

  abbrev pub seen : List Priced → List ℕ → List (List ℕ)
  seen [] img = []
  seen (c ∷ cs) img = (serve c.tariff c.call img).image ∷ seen cs (serve c.tariff c.call img).image
