-- Statements by their numbers, one of them, and one after the other.
use Rattle.std.proofs.Common.{◌≡◌, ◌<◌, ◌+◌, ℕ, List, [], ◌∷◌, ◌++◌, length, take, drop, get_or, Option, Some, None, Bor, refl, sym, ap, subst, ◌∙◌, arith}
use Rattle.std.specs.Prelude.{MatchOption}
use Rattle.std.specs.List.{AllByRecursion}
use Rattle.std.specs.Option.{option_copied, option_map}
use Rattle.std.proofs.lemmas.Option.{none-some, slice_get-map}
use Rattle.std.proofs.lemmas.List.{map-append, length-take-le, take-append-drop, take_more, drop_more}
use Rattle.bl_syntax.specs.FirstFailing.{IsFirstFailing}
use Rattle.bl_syntax.specs.Statement.{StatementView}
use Rattle.policy_statement.specs.Registered.{RegisteredView}
use Rattle.policy_statement.specs.Withdrawal.{live_statement}
use Rattle.policy_statement.specs.Registry.{sayings}
use Rattle.access_history.specs.Books.{Book, live_book, whole_book}
use Rattle.proof_verifier.specs.declared.cites.Cite.{Cite}
use Rattle.access_history.specs.Numbered.{HasNumber, IsNumbered}
use Rattle.access_history.specs.Citing.{numbers_of, StandsUnderNumber, IsHeld, AreFound, IsAbsent, IsMoved}
use Rattle.bl_syntax.proofs.GrantLemmas.{AllByRecursion-push}
use Rattle.access_history.proofs.CitingLemmas.{entry_held, found_held, held_has, live_has}
use Rattle.access_history.proofs.NumberedLemmas.{numbered_item}
use Rattle.op_gate.specs.declared.cite.Among.{Among}
use Rattle.op_gate.specs.declared.cite.Among.TheVariants.{Registered, Live}
use Rattle.op_gate.specs.Citations.{book_among}

-- the first item that lacks a property
pub first_at : {A : Type 0} (P : A → Type 0) (items : List A) (place : ℕ) (default item : A) → place < length items → item ≡ get_or items place default → AllByRecursion P (take place items) → (P item → ⊥) → IsFirstFailing P items place item
first_at {A} P items place default item within is before fails = record {
  before = take place items;
  behind = drop (place + 1) items;
  parts = sym (take-append-drop place items) ∙ ap (λ (xs : List A). take place items ++ xs) (drop_more items place default within) ∙ ap (λ (x : A). take place items ++ x ∷ drop (place + 1) items) (sym is);
  place_is = sym (length-take-le place items (omega (arith, within)));
  holds_before = before;
  fails = fails;
}

-- whose statement is the first that does not stand
pub IsMoved-at : (book : Book) (cites : List Cite) (place : ℕ) (default item : Cite) → place < length cites → item ≡ get_or cites place default → AllByRecursion (StandsUnderNumber book) (take place cites) →
    (StandsUnderNumber book item → ⊥) → IsMoved book cites item.number
IsMoved-at book cites place default item within is before fails =
    record { place = place; cite = item; first = first_at (StandsUnderNumber book) cites place default item within is before fails; number_is = refl }

-- the first number that holds no statement
pub IsAbsent-at : (book : Book) (numbers : List ℕ) (place number : ℕ) (cites : List Cite) → place < length numbers → number ≡ get_or numbers place 0 → AreFound book (take place numbers) cites →
    (IsHeld book number → ⊥) → IsAbsent book numbers number
IsAbsent-at book numbers place number cites within is found none = record {
  place = place;
  first = first_at (IsHeld book) numbers place 0 number within is (found_held book (take place numbers) cites found) none;
}

-- one more number, with its statement
pub AreFound-more : (book : Book) (numbers : List ℕ) (place number : ℕ) (cites after : List Cite) (statement said : StatementView) → place < length numbers → number ≡ get_or numbers place 0 → AreFound book (take place numbers) cites →
    IsNumbered book number (Some statement) → said ≡ statement → after ≡ cites ++ record { number = number; statement = said } ∷ [] → AreFound book (take (place + 1) numbers) after
AreFound-more book numbers place number cites after statement said within is found numbered same more = record {
  numbers_are = ap numbers_of more ∙ map-append (λ (c : Cite). c.number) cites (record { number = number; statement = said } ∷ []) ∙ ap (λ (ns : List ℕ). ns ++ number ∷ []) found.numbers_are
      ∙ ap (λ (n : ℕ). take place numbers ++ n ∷ []) is ∙ sym (take_more numbers place 0 within);
  stand = subst (AllByRecursion (StandsUnderNumber book)) (sym more)
      (AllByRecursion-push (StandsUnderNumber book) cites (record { number = number; statement = said }) found.stand (subst (λ (s : StatementView). IsNumbered book number (Some s)) (sym same) numbered));
}

-- ---- one number

-- what holds a statement is the number of an entry
pub among_has : (among : Among) (entries : List RegisteredView) (number : ℕ) → IsHeld (book_among among entries) number → HasNumber entries number
among_has Registered entries number held = held_has entries number held
among_has Live entries number held = live_has entries number held

numbered_live : (entries : List RegisteredView) (number : ℕ) (entry : RegisteredView) → IsNumbered entries number entry → IsNumbered (live_book entries) number (live_statement entry)
numbered_live entries number entry numbered =
    record { place = numbered.place; from_one = numbered.from_one; found = slice_get-map live_statement entries numbered.place ∙ ap (option_map live_statement) numbered.found }

-- an entry holds its statement, if it was not withdrawn
live_told : (entries : List RegisteredView) (number : ℕ) (entry : RegisteredView) (result : Option (Bor StatementView)) → IsNumbered entries number entry → option_copied result ≡ live_statement entry →
    MatchOption result (IsHeld (live_book entries) number → ⊥) (λ (s : Bor StatementView). IsNumbered (live_book entries) number (Some s.now))
live_told entries number entry None numbered is =
    let none : IsNumbered (live_book entries) number None = subst (λ (o : Option StatementView). IsNumbered (live_book entries) number o) (sym is) (numbered_live entries number entry numbered) in
    (λ held. none-some held.0 (numbered_item (live_book entries) number None (Some held.0) none held.1))
live_told entries number entry (Some s) numbered is = subst (λ (o : Option StatementView). IsNumbered (live_book entries) number o) (sym is) (numbered_live entries number entry numbered)

-- what is told of an entry among all that are registered, and among those that stand
pub told_registered : (among : Among) (entries : List RegisteredView) (number : ℕ) (entry : RegisteredView) (s : StatementView) → among ≡ Registered → IsNumbered entries number entry → s ≡ entry.statement →
    IsNumbered (book_among among entries) number (Some s)
told_registered among entries number entry s which numbered is =
    subst (λ (a : Among). IsNumbered (book_among a entries) number (Some s)) (sym which)
    (subst (λ (t : StatementView). IsNumbered (whole_book (sayings entries)) number (Some t)) (sym is) (entry_held entries number entry numbered))

pub told_live : (among : Among) (entries : List RegisteredView) (number : ℕ) (entry : RegisteredView) (result : Option (Bor StatementView)) → among ≡ Live → IsNumbered entries number entry → option_copied result ≡ live_statement entry →
    MatchOption result (IsHeld (book_among among entries) number → ⊥) (λ (s : Bor StatementView). IsNumbered (book_among among entries) number (Some s.now))
told_live among entries number entry result which numbered is =
    subst (λ (a : Among). MatchOption result (IsHeld (book_among a entries) number → ⊥) (λ (s : Bor StatementView). IsNumbered (book_among a entries) number (Some s.now))) (sym which)
    (live_told entries number entry result numbered is)
