-- Where a path begins.
use Rattle.std.proofs.Common.{◌≡◌, ◌≢◌, ◌==◌, ℕ, ◌<◌, Bool, not, cond, List, [], ◌∷◌, ◌++◌, length, map, get_or, Option, Some, None, MatchOption, IfSome, inl, inr, refl, sym, ap, ◌∙◌, subst}
use Rattle.std.specs.List.{filter}
use Rattle.std.proofs.lemmas.List.{map_push}
use Rattle.std.proofs.lemmas.List.Elements.{filter-append}
use denote.Ref.{Bor}
use Rattle.line_words.specs.Numbers.{IsIssue}
use Rattle.client_words.specs.declared.place.Place.{Place}
use Rattle.client_words.specs.Places.{HasStart, IsPlace, words_between}

-- a slash stands where the text was cut
pub parts_at : (text : List ℕ) (r : Option (Bor (List ℕ) × Bor (List ℕ)))
    → MatchOption r ((i : ℕ) → i < length text → get_or text i 0 ≢ 47) (λ x. (text ≡ x.0.now ++ (47 ∷ x.1.now)) × ((i : ℕ) → i < length x.0.now → get_or x.0.now i 0 ≢ 47))
    → IfSome r (λ x. text ≡ x.0.now ++ 47 ∷ x.1.now)
parts_at text None h = tt
parts_at text (Some x) h = h.0

-- a node, and names from there
pub node_with_names : (rest digits names : List ℕ) (number : ℕ) → rest ≡ digits ++ 47 ∷ names → IsIssue digits number → HasStart (35 ∷ rest) number names
node_with_names rest digits names number is h =
    inr (h.some, inr (ap (λ (r : List ℕ). 35 ∷ r) (is ∙ ap (λ (d : List ℕ). d ++ 47 ∷ names) h.number_is.decimal_is)))

-- a node alone
pub node_alone : (rest : List ℕ) (number : ℕ) → IsIssue rest number → HasStart (35 ∷ rest) number []
node_alone rest number h = inr (h.some, inl (ap (λ (r : List ℕ). 35 ∷ r) h.number_is.decimal_is, refl))

-- the root, and names from there
pub root_with_names : (text names : List ℕ) → text ≡ 47 ∷ names → HasStart text 1 names
root_with_names text names is = inl (refl, is)

pub node_of_text : (text rest : List ℕ) (r : Option (ℕ × Bor (List ℕ))) → text ≡ 35 ∷ rest
    → IfSome r (λ parts. HasStart (35 ∷ rest) parts.0 parts.1.now) → IfSome r (λ parts. HasStart text parts.0 parts.1.now)
node_of_text text rest r is h = subst (λ (t : List ℕ). IfSome r (λ parts. HasStart t parts.0 parts.1.now)) (sym is) h

pub place_of : (text rest : List ℕ) (place : Place) → HasStart text place.start.0 rest → place.names.items ≡ words_between rest → IsPlace text place
place_of text rest place start names = record { rest = rest; start_is = start; names_are = names }

-- one word more, which is empty or not
pub words_push : (words : List (Bor (List ℕ))) (word : Bor (List ℕ)) (some : Bool) → not (length word.now == 0) ≡ some
    → filter (λ w. not (length w == 0)) (map (λ (w : Bor (List ℕ)). w.now) (words ++ word ∷ []))
    ≡ filter (λ w. not (length w == 0)) (map (λ (w : Bor (List ℕ)). w.now) words) ++ cond some (word.now ∷ []) []
words_push words word some is =
    ap (filter (λ (w : List ℕ). not (length w == 0))) (map_push (λ (w : Bor (List ℕ)). w.now) words word)
    ∙ filter-append (λ (w : List ℕ). not (length w == 0)) (map (λ (w : Bor (List ℕ)). w.now) words) (word.now ∷ [])
    ∙ ap (λ (b : Bool). filter (λ (w : List ℕ). not (length w == 0)) (map (λ (w : Bor (List ℕ)). w.now) words) ++ cond b (word.now ∷ []) []) is
