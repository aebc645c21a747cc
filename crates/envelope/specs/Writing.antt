-- A 6G1 in the two parts in which the code writes it. Only private contracts cite them. Assumes nothing.
use Rattle.std.specs.Prelude.{List, ◌++◌, ℕ}
use Rattle.digits.specs.Decimal.{digits}
use Rattle.layout.specs.Fields.{field}
use Rattle.addresses.specs.Addresses.{address_text}
use Rattle.places.specs.Bids.{places_text}
use Rattle.envelope.specs.declared.application.Application.{Application}

unfoldable pub first_fields : Application → List ℕ → List ℕ
first_fields a kind =
    field 0x01 kind ++ field 0x04 (address_text a.sender) ++ field 0x05 (address_text a.recipient) ++ field 0x02 (digits 11 a.cro) ++ field 0x31 (digits 8 a.date)

unfoldable pub last_fields : Application → List ℕ → List ℕ → List ℕ
last_fields a identifier name =
    field 0x60 (digits 6 a.time) ++ field 0x10 (digits 5 a.check) ++ field 0x70 identifier ++ field 0x76 (places_text a.rates a.amounts) ++ field 0x7f name
