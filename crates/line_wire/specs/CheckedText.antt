-- The text of what a proof grants (this project's own).
use Rattle.std.specs.Prelude.{ℕ, List, [], ◌∷◌, ◌++◌, codes, length, map}
use Rattle.std.specs.Fmt.{decimal}
use Rattle.bl_syntax.specs.Grant.{GrantView}
use Rattle.bl_text.specs.Printed.{constraint_text, state_text}

-- texts: the first after the lead, each later one after a `;` and a space
abbrev pub listed_text : List ℕ → List (List ℕ) → List ℕ
listed_text lead [] = []
listed_text lead (first ∷ others) = lead ++ (first ++ listed_text (codes "; ") others)

-- the conditions of a grant, those on time first
abbrev pub conditions_of : GrantView → List (List ℕ)
conditions_of g = map (constraint_text 0) g.times ++ map (state_text 0) g.states

abbrev pub checked_text : GrantView → List ℕ
checked_text g = codes "ok checked time "
    ++ (decimal (length g.times)
    ++ (codes " state " ++ (decimal (length g.states)
    ++ listed_text (codes " ") (conditions_of g))))
