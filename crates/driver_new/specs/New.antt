-- Making a driver (reference: `Driver::new`).
-- Assumes nothing.
use Rattle.std.specs.Prelude.{ℕ, ◌+◌, ◌-◌, ◌*◌, ◌/◌, not, List, [], ◌∷◌, ltb, replicate, None, Result, Ok, Err}
use Rattle.state.specs.declared.Driver.{Driver}
use Rattle.state.specs.declared.Refusal.{Refusal}
use Rattle.state.specs.declared.Refusal.TheVariants.{MemoryOutsideRam, MemoryTooSmall}
use Rattle.state.specs.Refusals.{Check, Condition, ◌if◌, first_refusal}
use Rattle.state_sound.specs.Clauses.{in_ram}
use Rattle.state_call.specs.Outcome.{or_else}

-- the next multiple of 4, n itself if it is one
abbrev pub up4 : ℕ → ℕ
up4 n = (n + 3) / 4 * 4

-- what is left of `length` bytes once their start is aligned up to 4
abbrev pub capacity_of : ℕ → ℕ → ℕ
capacity_of address length = length - (up4 address - address)

abbrev pub new_conditions : ℕ → ℕ → List Condition
new_conditions address length =
    MemoryOutsideRam if not (in_ram address length)
    ∷ MemoryTooSmall if ltb (capacity_of address length) 512
    ∷ []

unfoldable pub new_check : ℕ → ℕ → Check
new_check address length = first_refusal (new_conditions address length)

abbrev pub empty_driver : ℕ → ℕ → ℕ → Driver
empty_driver memory capacity used = record { memory = memory; capacity = capacity; used = used; endpoints = replicate 16 None }

-- nothing allocated but EP0's 512 bytes
abbrev pub new_driver : ℕ → ℕ → Driver
new_driver address length = empty_driver (up4 address) (capacity_of address length) 512

-- no memory at all: every call refuses it as unsound
abbrev pub no_driver : Driver
no_driver = empty_driver 0 0 0

unfoldable pub new_result : ℕ → ℕ → Result Driver Refusal
new_result address length = or_else (new_check address length) Err (Ok (new_driver address length))
