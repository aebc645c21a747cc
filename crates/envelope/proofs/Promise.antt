-- What the envelope promises holds. Assumes nothing.
use Rattle.envelope.specs.Promise.{MessageLength, LongestMessage, SenderLength, ShortAddresses, FieldWhole, FieldLength, NumberField}
use Rattle.envelope.proofs.Fields6G1 as fields
use Rattle.envelope.proofs.Writing as writing

pub message-length : MessageLength
message-length = fields.length_6g1

pub longest_message : LongestMessage
longest_message = fields.at_most_357

pub sender_length : SenderLength
sender_length = fields.sender_within

pub short_addresses : ShortAddresses
short_addresses = fields.short_addresses

pub whole-field : FieldWhole
whole-field = fields.whole-field

pub length-field : FieldLength
length-field = fields.length-field

pub number-field : NumberField
number-field = writing.number-field
