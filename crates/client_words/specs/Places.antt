-- Paths: where they begin, and their names (this project's own).
use Rattle.std.specs.Prelude.{◌≡◌, ◌≤◌, ◌⊎◌, ℕ, List, [], ◌∷◌, ◌++◌, Bool, ◌==◌, not, length}
use Rattle.std.specs.Fmt.{decimal}
use Rattle.std.specs.List.{filter, slice_split}
use Rattle.client_words.specs.declared.place.Place.{Place}

-- the words between the slashes, without the empty ones
abbrev pub words_between : List ℕ → List (List ℕ)
words_between text = filter (λ word. not (length word == 0)) (slice_split (λ byte. byte == 47) text)

-- `#`, the number of a node, and a slash before the names, if there are any
abbrev pub HasNode : List ℕ → ℕ → List ℕ → Type 0
HasNode text start names = (1 ≤ start) × (((text ≡ 35 ∷ decimal start) × (names ≡ [])) ⊎ (text ≡ 35 ∷ (decimal start ++ 47 ∷ names)))

-- a slash and names from the root, which is node 1; or a node, and names from there
abbrev pub HasStart : List ℕ → ℕ → List ℕ → Type 0
HasStart text start names = ((start ≡ 1) × (text ≡ 47 ∷ names)) ⊎ HasNode text start names

-- the path of a text
pub record IsPlace (text : List ℕ) (place : Place) : Type 0 where
  pub rest : List ℕ
  pub start_is : HasStart text place.start.0 rest
  pub names_are : place.names.items ≡ words_between rest
