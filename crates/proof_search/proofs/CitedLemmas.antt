-- Statements of a list by their numbers.
use Rattle.std.proofs.Common.{◌≡◌, ◌<◌, ◌+◌, ℕ, List, [], ◌∷◌, ◌++◌, length, take, get_or, map, sym, subst, ap, ◌∙◌}
use Rattle.std.specs.Prelude.{Contains}
use Rattle.std.specs.List.{AllByRecursion}
use Rattle.std.proofs.lemmas.List.{map-append, take_more}
use Rattle.bl_syntax.proofs.GrantLemmas.{AllByRecursion-push}
use Rattle.proof_verifier.specs.declared.cites.Cite.{Cite}
use Rattle.proof_search.specs.Proved.{AreAmong}

-- an item that is read at a place is one of the list
pub Contains-read : {A : Type 0} (items : List A) (place : ℕ) (item same : A) → place < length items → item ≡ get_or items place item → same ≡ item → Contains items same
Contains-read {A} items place item same within read is = subst (Contains items) (sym is) (place, within, sym read)

-- one more number, with its statement
pub AreAmong-more : (statements : List Cite) (numbers : List ℕ) (place number : ℕ) (cites after : List Cite) (cite : Cite) → place < length numbers → number ≡ get_or numbers place 0 →
    AreAmong statements (take place numbers) cites → Contains statements cite → cite.number ≡ number → after ≡ cites ++ cite ∷ [] → AreAmong statements (take (place + 1) numbers) after
AreAmong-more statements numbers place number cites after cite within is so_far among same more = record {
  numbers_are = take_more numbers place 0 within ∙ ap (λ (ns : List ℕ). ns ++ get_or numbers place 0 ∷ []) so_far.numbers_are
      ∙ ap (λ (n : ℕ). map (λ (c : Cite). c.number) cites ++ n ∷ []) (sym is ∙ sym same)
      ∙ sym (map-append (λ (c : Cite). c.number) cites (cite ∷ [])) ∙ ap (map (λ (c : Cite). c.number)) (sym more);
  among = subst (AllByRecursion (Contains statements)) (sym more) (AllByRecursion-push (Contains statements) cites cite so_far.among among);
}

pub ruleset one_more = (AreAmong-more, Contains-read)
