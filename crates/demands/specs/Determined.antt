-- DETERMINED. Demand 2 leaves nothing open: a service that meets it does on every sound image of bytes what ours does,
-- to the byte. The statement; its proof is in proofs/Determined.antt.
use Rattle.std.specs.Prelude.{ℕ, ◌≡◌, List, [], ◌∷◌}
use Rattle.word.specs.Word.{Bytes}
use Rattle.tariff.specs.declared.Tariff.{Tariff}
use Rattle.promise.specs.Sound.{Sound}
use Rattle.promise.specs.Call.{Call, lent, outcome}
use Rattle.demands.specs.Service.{Service, Priced, after}
use Rattle.demands.specs.Demand2.{given_to, Demand2}

-- every call of a list gives bytes
abbrev pub Give : List Priced → Type 0
Give [] = Unit {0}
Give (c ∷ cs) = (Bytes (lent c.call) × Bytes (given_to c.call)) × Give cs

-- two services that meet Demand 2 do the same on every sound image of bytes, and so each does what ours does
pub record Determined : Type 0 where
  pub agree : (serve serve' : Service) → Demand2 serve → Demand2 serve' → (t : Tariff) (c : Call) (img : List ℕ)
      → Sound img → Bytes img → Bytes (lent c) → Bytes (given_to c) → serve t c img ≡ serve' t c img
  pub ours : (serve : Service) → Demand2 serve → (t : Tariff) (c : Call) (img : List ℕ)
      → Sound img → Bytes img → Bytes (lent c) → Bytes (given_to c) → serve t c img ≡ outcome t c img
  -- and any calls leave the image that ours leaves
  pub runs : (serve : Service) → Demand2 serve → (cs : List Priced) (img : List ℕ) → Sound img → Bytes img → Give cs
      → after serve cs img ≡ after outcome cs img
