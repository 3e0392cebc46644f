-- "The modelled cache": addresses, the two kinds of number made of them, and where an address belongs; well-formed accesses.
use Rattle.std.specs.Prelude.{ℕ, ◌+◌, ◌*◌, ◌/◌, ◌%◌, ◌^◌, ◌-◌, Bool, true, false, not, ◌&&◌, ltb, eqb}
use Rattle.model.specs.declared.Settings.{Settings}
use Rattle.model.specs.declared.Access.{Access}
use Rattle.model.specs.declared.Access.TheVariants.{Read, Write}

-- "the address less its remainder by 128"
abbrev pub block_of : ℕ → ℕ
block_of a = a - a % 128

-- "less its remainder by 32"
abbrev pub sector_address_of : ℕ → ℕ
sector_address_of a = a - a % 32

-- which of the four sectors of its line
abbrev pub sector_index : ℕ → ℕ
sector_index a = a % 128 / 32

-- "(address / 128) mod sets"
abbrev pub set_index : Settings → ℕ → ℕ
set_index S a = a / 128 % S.sets

-- "set × ways + way"
abbrev pub line_number : Settings → ℕ → ℕ → ℕ
line_number S a way = set_index S a * S.ways + way

abbrev pub address_of : Access → ℕ
address_of (Read a m k) = a
address_of (Write a m k) = a

abbrev pub mask_of : Access → ℕ
mask_of (Read a m k) = m
mask_of (Write a m k) = m

abbrev pub is_read : Access → Bool
is_read (Read a m k) = true
is_read (Write a m k) = false

abbrev pub good_sector : ℕ → Bool
good_sector a = eqb (a % 32) 0 && ltb a (2 ^ 48)

abbrev pub good_block : ℕ → Bool
good_block a = eqb (a % 128) 0 && ltb a (2 ^ 48)

-- refusal 4 does not apply: the address is a multiple of 32 below 2^48; a write's mask isn't 0, a read's is
abbrev pub well_formed : Access → Bool
well_formed (Read a m k) = good_sector a && eqb m 0
well_formed (Write a m k) = good_sector a && not (eqb m 0)
