-- What a preview by value foretells: the contracts of the calls, and what follows from them. Assumes nothing.
use Rattle.std.specs.Prelude.{◌≡◌, List, ℕ}
use Rattle.std.proofs.Math.Option.{Option, none}
use Rattle.rules.specs.Opening.{Admission, terms_of}
use Rattle.rules.specs.Receiving.{Reception}
use Rattle.rules.specs.Calls as rules
use Rattle.rules.specs.ArrivalOrder.{EnoughSpace, final_book}
use Rattle.terms.specs.Viewed.{open_refusal}
use Rattle.refusals.specs.Conditions.{refusal_number}
use Rattle.tender.specs.declared.Tender.{Tender}
use Rattle.tender.specs.declared.Opened.{Opened}
use Rattle.tender.specs.declared.Changed.{Changed}
use Rattle.tender.specs.declared.Allotted.{Allotted}
use Rattle.tender.specs.Viewed.{viewed, allotted_in}
use Rattle.tender.specs.Calls.{Opens, Changes, Allots, Previews}
use Rattle.tender.specs.ArrivalOrder.{ReceivesAll}

-- what a preview and an allotment answer beside the tender
abbrev pub answered : Allotted → Option ℕ × rules.Allotted
answered r = (refusal_number r.answer, allotted_in r)

-- a tender previewed, then closed at a clock reading that closes it, then allotted: the preview gave what allotting gives
abbrev pub PreviewForetellsCalls : Type 0
PreviewForetellsCalls =
    (t : Tender) (date time : ℕ) (previewed : Allotted) (closed : Changed) (allotted : Allotted)
    → Previews t previewed
    → Changes t (rules.close (viewed t) date time) closed
    → refusal_number closed.answer ≡ none
    → Allots closed.tender allotted
    → answered previewed ≡ answered allotted

-- a tender opened, then any receptions, then previewed: the preview gives the awards and the marginal rate of the final bids so far
abbrev pub PreviewOfReceptionCalls : Type 0
PreviewOfReceptionCalls =
    (m : List ℕ) (a : Admission) (rs : List Reception) (opened : Opened) (last : Tender) (previewed : Allotted)
    → Opens m a opened
    → open_refusal opened.answer ≡ none
    → ReceivesAll opened.tender rs last
    → EnoughSpace rs
    → Previews last previewed
    → answered previewed ≡ (none, rules.allotment (terms_of m a) (final_book (terms_of m a) rs))
