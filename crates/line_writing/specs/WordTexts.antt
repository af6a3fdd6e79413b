-- The words that are written for values (this project's own).
use Rattle.std.specs.Prelude.{ℕ, List, [], ◌∷◌, ◌++◌, codes, Option, Some, None}
use Rattle.std.specs.Fmt.{decimal}
use Rattle.std.specs.List.{flat_map}
use Rattle.bl_syntax.specs.declared.grant.Goal.{Goal}
use Rattle.bl_text.specs.Printed.{permission_text}
use Rattle.line_text.specs.HexWord.{hex_word}
use Rattle.line_words.specs.declared.procap_word.ProcapWord.{ProcapWord}
use Rattle.line_words.specs.declared.procap_word.ProcapWord.TheVariants as words
use Rattle.procap.specs.Procap.{procap_spelling}

-- numbers, each after a comma
abbrev pub more_cited : List ℕ → List ℕ
more_cited numbers = flat_map (λ number. codes "," ++ decimal number) numbers

-- numbers with commas between them
abbrev pub cited_text : List ℕ → List ℕ
cited_text [] = []
cited_text (number ∷ others) = decimal number ++ more_cited others

-- a signature, or that it is left to the ring
abbrev pub signature_text : Option (List ℕ) → List ℕ
signature_text None = codes "-"
signature_text (Some bytes) = hex_word bytes

-- a procap, or the number of its issue
abbrev pub procap_text : ProcapWord → List ℕ
procap_text (words.Issue number) = codes "@" ++ decimal number
procap_text (words.Procap p) = hex_word (procap_spelling p)

-- procaps, each after a space
abbrev pub procaps_text : List ProcapWord → List ℕ
procaps_text procaps = flat_map (λ word. codes " " ++ procap_text word) procaps

-- a goal, before the rest of a line
abbrev pub goal_text : Goal → List ℕ → List ℕ
goal_text g rest = g.who ++ (codes " #" ++ (decimal g.file.0 ++ (codes " " ++ (permission_text g.perm ++ rest))))
