-- `numbers::internal::put_all` meets its contract. Assumes nothing.
use Rattle.output.proofs.Output.{said}
use Rattle.numbers.specs.Numbers.{numbers_of}
use Rattle.numbers.proofs.Arrays.{and_then, both_parts}
use Rattle.numbers.proofs.internal.put_all.Goals as goal

pub returns : goal.returns
unfolding numbers_of
returns c =
    let fields = said (both_parts c.args.m.now) (and_then c.put_codes-fields.ensures.0 c.put_fields-places.ensures.0) in
    and_then (and_then (and_then fields c.put_places-starts.ensures.0) c.put_starts-addresses.ensures.0) c.put_addresses.ensures
