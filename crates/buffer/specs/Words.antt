-- The words of a buffer as a tender of document 01. Assumes nothing.
use Rattle.std.specs.Prelude.{Bool, cond, ◌&&◌, List, [], ◌∷◌, ◌++◌, map, ℕ, ◌+◌, ◌*◌, ◌%◌, eqb, ltb, leb, length, take, drop, get_or, set}
use Rattle.std.proofs.lemmas.List.Edits.{sets}
use Rattle.announcement.specs.declared.Side.{Side}
use Rattle.announcement.specs.declared.Side.TheVariants.{La, Lp}
use Rattle.places.specs.declared.Rate.{Rate}
use Rattle.places.specs.declared.Amount.{Amount}
use Rattle.rules.specs.Opening.{rising}
use Rattle.rules.specs.Calls as rules
use Rattle.bids.specs.Columns.{cents}
use Rattle.terms.specs.declared.Terms.{Terms}
use Rattle.book.specs.declared.Book.{Book}
use Rattle.book.specs.Viewed.{hundred_thousandths, rate_of, amount_of}
use Rattle.refusals.specs.declared.State.{State}
use Rattle.refusals.specs.declared.State.TheVariants as state
use Rattle.outcomes.specs.Outcomes.{viewed_of}

-- the words of a tender, and the number of their form: it rises when they gain a part
abbrev pub tender_words : ℕ
tender_words = 1560

abbrev pub form_number : ℕ
form_number = 2

-- n words from an index on
abbrev pub part : ℕ → ℕ → List ℕ → List ℕ
part at n ws = take n (drop at ws)

-- the last bits of a word, as a byte and as a rate are stored
abbrev pub byte_in : ℕ → ℕ
byte_in w = w % 256

abbrev pub low32 : ℕ → ℕ
low32 w = w % 4294967296

abbrev pub stored_rate : ℕ → Rate
stored_rate w = rate_of (low32 w)

-- word 1, 'open, closed, announced or revoked': 0 to 3
unfoldable pub state_in : ℕ → State
state_in w = cond (eqb w 0) state.Open (cond (eqb w 1) state.Closed (cond (eqb w 2) state.Announced state.Revoked))

-- word 14: 0 for LA, 1 for LP
unfoldable pub side_in : ℕ → Side
side_in w = cond (eqb w 0) La Lp

-- words 3 to 23: the terms
unfoldable pub terms_in : List ℕ → Terms
terms_in ws =
    record {
      identifier = map byte_in (part 3 11 ws);
      side = side_in (get_or ws 14 0);
      execution = get_or ws 15 0;
      cutoff = get_or ws 16 0;
      most = get_or ws 17 0;
      offered = amount_of (get_or ws 18 0);
      minimum = amount_of (get_or ws 19 0);
      increment = amount_of (get_or ws 20 0);
      maximum = amount_of (get_or ws 21 0);
      allocation = amount_of (get_or ws 22 0);
      limit = stored_rate (get_or ws 23 0);
    }

-- word 2, how many codes, and from word 24 on for each of 64 codes: the code; the time held; whether one is held; ten rates; ten amounts; the limit
unfoldable pub book_in : List ℕ → Book
book_in ws =
    record {
      codes = part 24 64 ws;
      n = get_or ws 2 0;
      limits = part 1496 64 ws;
      held = part 88 64 ws;
      has = map (ltb 0) (part 152 64 ws);
      rates = map stored_rate (part 216 640 ws);
      amounts = map amount_of (part 856 640 ws);
    }

-- the tender of the words
abbrev pub tender_in : List ℕ → rules.Tender
tender_in ws = viewed_of (state_in (get_or ws 1 0)) (terms_in ws) (book_in ws)

-- words that hold a tender: enough of them, the number of this form, a state, 1 to 64 codes, and codes that rise
unfoldable pub is_tender : List ℕ → Bool
is_tender ws =
    leb tender_words (length ws)
    && eqb (get_or ws 0 0) form_number
    && ltb (get_or ws 1 0) 4
    && ltb 0 (get_or ws 2 0)
    && ltb (get_or ws 2 0) 65
    && rising (take (get_or ws 2 0) (part 24 64 ws))

-- the words in which the code at an index holds a time and ten places
unfoldable pub holding : List ℕ → ℕ → ℕ → List Rate → List Amount → List ℕ
holding ws at time rates amounts =
    sets (sets (set (set ws (88 + at) time) (152 + at) 1) (216 + 10 * at) (map hundred_thousandths rates)) (856 + 10 * at) (map cents amounts)

-- the terms as the 21 numbers of words 3 to 23
abbrev pub side_number : Side → ℕ
side_number La = 0
side_number Lp = 1

unfoldable pub terms_numbers : Terms → List ℕ
terms_numbers t =
    t.identifier
    ++ (side_number t.side
    ∷ t.execution
    ∷ t.cutoff
    ∷ t.most
    ∷ t.offered.0
    ∷ t.minimum.0
    ∷ t.increment.0
    ∷ t.maximum.0
    ∷ t.allocation.0
    ∷ t.limit.0
    ∷ [])
