-- The lines of statements, one after the other.
use Rattle.std.proofs.Common.{◌≡◌, ◌<◌, ◌+◌, ℕ, List, [], ◌∷◌, ◌++◌, length, take, get_or, sym, ap, ◌∙◌, append_assoc, append-nil}
use Rattle.std.proofs.lemmas.Grind.{flat_map-append}
use Rattle.std.proofs.lemmas.List.{take_more}
use Rattle.bl_syntax.specs.Statement.{StatementView}
use Rattle.pcfs_modes.specs.ModesText.{register_line, register_lines}

-- with one statement more there is one line more
lines_push : (statements : List StatementView) (s : StatementView) → register_lines (statements ++ s ∷ []) ≡ register_lines statements ++ register_line s
lines_push statements s = flat_map-append register_line statements (s ∷ []) ∙ ap (λ (b : List ℕ). register_lines statements ++ b) (append-nil (register_line s))

pub line_more : (statements : List StatementView) (place : ℕ) (s : StatementView) (start out new : List ℕ) → place < length statements → s ≡ get_or statements place s → out ≡ start ++ register_lines (take place statements) →
    new ≡ out ++ register_line s → new ≡ start ++ register_lines (take (place + 1) statements)
line_more statements place s start out new within read before added =
    let more : take (place + 1) statements ≡ take place statements ++ s ∷ [] = take_more statements place s within ∙ ap (λ (x : StatementView). take place statements ++ x ∷ []) (sym read) in
    let written : register_lines (take (place + 1) statements) ≡ register_lines (take place statements) ++ register_line s = ap register_lines more ∙ lines_push (take place statements) s in
    added ∙ ap (λ (b : List ℕ). b ++ register_line s) before ∙ append_assoc start (register_lines (take place statements)) (register_line s) ∙ ap (λ (b : List ℕ). start ++ b) (sym written)
