-- Document 01, Charges: T(c, e), and what each of the ten operations costs. A dash is for the new block, as in PRG-62.
use Rattle.std.specs.Prelude.{ℕ, ℤ, pos, ◌+ℤ◌, ◌-ℤ◌, ◌*ℤ◌}
use Rattle.tariff.specs.declared.Tariff.{Tariff}

-- T(c, e) = rate·(e - c), which may be negative
unfoldable pub T : Tariff → (c e : ℕ) → ℤ
T t c e = pos t.rate *ℤ (pos e -ℤ pos c)

-- Create: its price + T(new)
unfoldable pub create_charge : Tariff → (c' e' : ℕ) → ℤ
create_charge t c' e' = pos t.create +ℤ T t c' e'

-- Destroy: its price - T(old) + T(old created, now)
unfoldable pub destroy_charge : Tariff → (c e now : ℕ) → ℤ
destroy_charge t c e now = pos t.destroy -ℤ T t c e +ℤ T t c now

-- Replace: its price - T(old) + T(old created, now) + T(new)
unfoldable pub replace_charge : Tariff → (c e now c' e' : ℕ) → ℤ
replace_charge t c e now c' e' = pos t.replace -ℤ T t c e +ℤ T t c now +ℤ T t c' e'

-- SetExpiry: its price - T(old) + T(new)
unfoldable pub set_expiry_charge : Tariff → (c e c' e' : ℕ) → ℤ
set_expiry_charge t c e c' e' = pos t.setexpiry -ℤ T t c e +ℤ T t c' e'

-- the others: their price alone
abbrev pub read_charge : Tariff → ℤ
read_charge t = pos t.read

abbrev pub status_charge : Tariff → ℤ
status_charge t = pos t.status

abbrev pub get_ids_charge : Tariff → ℤ
get_ids_charge t = pos t.getids

abbrev pub get_count_charge : Tariff → ℤ
get_count_charge t = pos t.getcount

abbrev pub scavenge_charge : Tariff → ℤ
scavenge_charge t = pos t.scavenge

abbrev pub profile_charge : Tariff → ℤ
profile_charge t = pos t.profile

-- a refused operation: the error price
abbrev pub error_charge : Tariff → ℤ
error_charge t = pos t.error
