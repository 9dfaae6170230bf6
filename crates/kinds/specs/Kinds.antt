-- The value of each kind that holds a number.
use Rattle.std.specs.Prelude.{ℕ, ℤ}
use Rattle.kinds.specs.declared.Tick.{Tick}
use Rattle.kinds.specs.declared.Money.{Money}
use Rattle.kinds.specs.declared.User.{User}
use Rattle.kinds.specs.declared.BlockNum.{BlockNum}
use Rattle.kinds.specs.declared.Id.{Id}

abbrev pub tick : ℕ → Tick
tick n = record { 0 = n }

abbrev pub money : ℤ → Money
money z = record { 0 = z }

abbrev pub user : ℕ → User
user n = record { 0 = n }

abbrev pub block_num : ℕ → BlockNum
block_num n = record { 0 = n }

abbrev pub ident : ℕ → Id
ident n = record { 0 = n }
