-- The return trip of an address (change request S-1: 'Reading back holds for both forms, the long one with its slashes and digits in place'). Assumes nothing.
use Rattle.std.specs.Prelude.{◌≡◌, true, List, ℕ}
use Rattle.addresses.specs.declared.Address.{Address}
use Rattle.addresses.specs.Addresses.{address_of, address_text, is_address, address_fits}

-- an address that can be written reads back
abbrev pub WrittenReadsBack : Type 0
WrittenReadsBack = (a : Address) → address_fits a ≡ true → address_of (address_text a) ≡ a

-- an address that was read can be written, and gives its bytes
abbrev pub ReadWritesBack : Type 0
ReadWritesBack = (s : List ℕ) → is_address (address_of s) ≡ true → (address_text (address_of s) ≡ s) × (address_fits (address_of s) ≡ true)
