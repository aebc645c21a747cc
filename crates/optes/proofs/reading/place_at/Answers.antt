-- `optes::reading::place_at` meets its contract. Assumes nothing.
use mathlib.Core.Path.{◌≡◌, sym, ap, ◌∙◌}
use mathlib.Core.Bool.{true}
use native.Mathlib.Omega.{arith}
use Rattle.layout.specs.Fields.{readable}
use Rattle.places.specs.Bids.{places_in, places_of}
use Rattle.places.proofs.Reading.{length-places}
use Rattle.envelope.specs.declared.application.Field.TheVariants.{Bids}
use Rattle.envelope.specs.declared.application.Fields.{Fields}
use Rattle.envelope.specs.Application.{layout6_g1, bytes_of, fields_of}
use Rattle.numbers.specs.ByNumber.{place_numbered, place_at}
use Rattle.numbers.proofs.ByNumber.{fields_read, fields_none, place-past, place_none}
use Rattle.numbers.proofs.Parts.{place-part}
use Rattle.optes.proofs.reading.place_at.Goals as goal

pub place_of-requires : goal.place_of-requires
place_of-requires c =
    let readable_there : readable layout6_g1 c.args.m.now ≡ true = sym c.is_6g1.ensures ∙ c.if-is_6g1.true in
    record { m_value = readable_there; k_bound = c.if-place-lt10.true }

pub returns-then-place-lt10 : goal.returns-then-place-lt10
returns-then-place-lt10 c =
    let readable_there : readable layout6_g1 c.args.m.now ≡ true = sym c.is_6g1.ensures ∙ c.if-is_6g1.true in
    let a = c.args in
    c.place_of.ensures ∙ place-part a.m.now readable_there a.place c.if-place-lt10.true

pub returns-then-is_6g1 : goal.returns-then-is_6g1
unfolding place_at fields_of places_of
returns-then-is_6g1 c =
    let readable_there : readable layout6_g1 c.args.m.now ≡ true = sym c.is_6g1.ensures ∙ c.if-is_6g1.true in
    let m = c.args.m.now in
    let k = c.args.place in
    let l = length-places 10 (bytes_of Bids m) in
    c.no_place.ensures ∙ place-past k (places_in 10 (bytes_of Bids m)) (omega arith) ∙ sym (ap (λ (f : Fields). place_numbered k f.places) (fields_read m readable_there))

pub returns : goal.returns
unfolding place_at
returns c =
    let m = c.args.m.now in
    let k = c.args.place in
    c.no_place-2.ensures ∙ place_none k ∙ sym (ap (λ (f : Fields). place_numbered k f.places) (fields_none m (sym c.is_6g1.ensures ∙ c.if-is_6g1.false)))
