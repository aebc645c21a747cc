-- What a reception comes to, refused or not. Assumes nothing.
use Rattle.std.specs.Prelude.{Option, Ok, Err}
use mathlib.Core.Path.{ap}
use mathlib.Core.Bool.{Bool}
use mathlib.Core.List.{List}
use Prim.Native.Nat.{ℕ}
use native.Mathlib.Omega.{arith}
use Rattle.envelope.specs.declared.application.Fields.{Fields}
use Rattle.digits.specs.Decimal.{number_in}
use Rattle.addresses.specs.Addresses.{code_in}
use Rattle.book.specs.declared.Book.{Book}
use Rattle.book.specs.Viewed as book
use Rattle.book.proofs.Joining.{index_below}
use Rattle.reception.specs.Submission.{Stands}
use Rattle.refusals.specs.declared.State.{State}
use Rattle.refusals.specs.declared.Refusal.{Refusal}
use Rattle.terms.specs.declared.Terms.{Terms}
use Rattle.terms.specs.Viewed as terms
use Rattle.outcomes.specs.declared.internal.Accepted.{Accepted}
use Rattle.outcomes.specs.declared.internal.Outcome.{Outcome}
use Rattle.outcomes.specs.Outcomes.{viewed_of, LeavesInAny, Checks, ComesTo}

module _ (state : State) (t : Terms) (b : Book) (m : List ℕ) (date time room : ℕ) where
  pub comes-refused : (f : Refusal) → Checks state m date time room (Err f) → ComesTo (viewed_of state t b) m date time room (Err f)
  comes-refused f checks =
      record {
        number = checks.number (terms.viewed t (book.admission_of b)) (book.viewed b);
        roomy = checks.roomy;
        readable-told = checks.readable-told;
        left = tt;
        few = tt;
        within = tt;
      }

  pub comes_judged : (f : Fields) → Checks state m date time room (Ok f) → (found : Option ℕ) (taken : Bool) → Stands b (code_in f.sender) (number_in f.time) found taken
      → (o : Outcome) → LeavesInAny t found taken m f date time o → ComesTo (viewed_of state t b) m date time room (Ok o)
  comes_judged f checks found taken s o l =
      record {
        number = checks.number (terms.viewed t (book.admission_of b)) (book.viewed b);
        roomy = checks.roomy;
        readable-told = checks.readable-told;
        left = λ space. l.2 b s state space;
        few = l.0;
        within = let k = index_below b (code_in f.sender) found s.found_is in omega (arith, k, ap (λ (a : Accepted). a.at) l.1);
      }
