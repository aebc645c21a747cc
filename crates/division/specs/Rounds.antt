-- The code's share division as document 01's ('Closing and allotting'). Assumes nothing.
use Rattle.rules.specs.Allotment as allotment
use Rattle.division.specs.declared.Division.{Division}

-- 'quotient, remainder and count'
abbrev pub viewed : Division → allotment.Division
viewed d = record { quotient = d.quotient.0; remainder = d.remainder.0; count = d.count }
