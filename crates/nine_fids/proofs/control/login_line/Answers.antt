-- Words of no login make no line of one.
use Rattle.std.proofs.Common.{ℕ, List, Option, MatchOption, subst}
use Rattle.nine_fids.specs.Control.{AreLoginWords}
use Rattle.nine_fids.proofs.ControlLemmas.{no_login_line}
use Rattle.nine_fids.proofs.control.login_line.Goals as goal

pub returns-in-None : goal.returns-in-None
returns-in-None c =
    no_login_line c.args.words.now
    (subst (λ (r : Option (List ℕ × List ℕ)). MatchOption r ((who signature : List ℕ) → AreLoginWords c.args.words.now who signature → ⊥) (λ p. AreLoginWords c.args.words.now p.0 p.1)) c.in-None.is c.in_ok-who.ensures)
