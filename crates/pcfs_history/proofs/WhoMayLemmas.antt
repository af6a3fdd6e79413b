-- There is one list of the issues that would admit.
use Rattle.std.proofs.Common.{◌≡◌, ◌+◌, ℕ, List, ◌∷◌, Bool, Result, Ok, Err, OnErr, refl, ap, subst, Option}
use Rattle.std.specs.Prelude.{ℤ}
use Rattle.bl_syntax.specs.declared.terms.NodeId.{NodeId}
use Rattle.bl_syntax.specs.declared.terms.Perm.{Perm}
use Rattle.pcfs_ports.specs.Observable.{HoldsSome}
use Rattle.access_history.specs.declared.event.Issue.{Issue}
use Rattle.access_history.specs.Base.{BaseView}
use Rattle.history_table.specs.WhoMay.{AreAdmitting, AreAdmittingFrom, admitting, no_issue, passed_over}
use Rattle.pcfs_history.specs.Written.{admitting_texts}

module _ (state : BaseView) (file : NodeId) (permission : Perm) (moment : ℤ) where
  same_numbers : (number : ℕ) (issues : List Issue) (one other : List ℕ) → AreAdmittingFrom state file permission moment number issues one → AreAdmittingFrom state file permission moment number issues other → one ≡ other
  same_numbers number issues one other (no_issue n) (no_issue m) = refl
  same_numbers number issues one other (admitting n issue later ones would all) (admitting m same more others should rest) = ap (λ (numbers : List ℕ). n ∷ numbers) (same_numbers (n + 1) later ones others all rest)
  same_numbers number issues one other (admitting n issue later ones would all) (passed_over m same more others never rest) = absurd (never would)
  same_numbers number issues one other (passed_over n issue later ones never all) (admitting m same more others should rest) = absurd (never should)
  same_numbers number issues one other (passed_over n issue later ones never all) (passed_over m same more others nor rest) = same_numbers (n + 1) later ones others all rest

  -- some first part of the texts of these numbers is one of those of all
  pub some_of_these : (json : Bool) (before after : Option (List ℕ)) (numbers : List ℕ) → AreAdmitting state file permission moment numbers → HoldsSome before after (admitting_texts json state numbers) →
      (others : List ℕ) → AreAdmitting state file permission moment others → HoldsSome before after (admitting_texts json state others)
  some_of_these json before after numbers all some others rest = subst (λ (ns : List ℕ). HoldsSome before after (admitting_texts json state ns)) (same_numbers 1 state.issues numbers others all rest) some

  -- after an error
  pub some_of_all : {A E : Type 0} (answer : Result A E) (json : Bool) (before after : Option (List ℕ)) (numbers : List ℕ) → AreAdmitting state file permission moment numbers → OnErr answer (HoldsSome before after (admitting_texts json state numbers)) →
      OnErr answer ((others : List ℕ) → AreAdmitting state file permission moment others → HoldsSome before after (admitting_texts json state others))
  some_of_all (Ok done) json before after numbers all some = tt
  some_of_all (Err fault) json before after numbers all some = some_of_these json before after numbers all some
