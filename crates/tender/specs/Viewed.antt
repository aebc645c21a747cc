-- The code's tender and answers as document 01's. Assumes nothing.
use Rattle.rules.specs.Calls as rules
use Rattle.rules.specs.Events.{Kept}
use Rattle.terms.specs.declared.Terms.{Terms}
use Rattle.book.specs.declared.Book.{Book}
use Rattle.refusals.specs.declared.State.{State}
use Rattle.outcomes.specs.Outcomes.{viewed_of}
use Rattle.book_allotment.specs.Allotted as book_allotment
use Rattle.tender.specs.declared.Tender.{Tender}
use Rattle.tender.specs.declared.Allotted.{Allotted}

-- 'An opened tender', as document 01's
abbrev pub viewed : Tender → rules.Tender
viewed t = viewed_of t.state t.terms t.book

-- 'Every tender handed to a call was given by opening or an earlier call, and what holds of all those may be relied on'
abbrev pub Given : Tender → Type 0
Given t = Kept (viewed t)

abbrev pub tender_of : State → Terms → Book → Tender
tender_of s t b = record { state = s; terms = t; book = b }

abbrev pub in_state_of : State → Tender → Tender
in_state_of s t = record { state = s; terms = t.terms; book = t.book }

-- what allotting gives
abbrev pub allotted_in : Allotted → rules.Allotted
allotted_in a = book_allotment.allotted_in a.answer
