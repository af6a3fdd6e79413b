-- Lines that ask for something.
use Rattle.std.proofs.Common.{◌≡◌, ℕ, List, [], ◌∷◌, ◌++◌, All, ap, ◌∙◌}
use Rattle.std.proofs.lemmas.List.Elements.{All-nil, All-push}
use Rattle.file_world.specs.declared.operation.Op.{Op}
use Rattle.line_forms.specs.declared.asked.Line.{Line}
use Rattle.line_forms.specs.declared.asked.Line.TheVariants as lines
use Rattle.line_forms.specs.declared.command.Command.TheVariants as commands
use Rattle.line_words.specs.declared.procap_word.ProcapWord.{ProcapWord}
use Rattle.line_writing.specs.LineTexts.{asked_text}
use Rattle.client_tree.specs.declared.asking.Prepared.{Prepared}
use Rattle.client_tree.specs.declared.asking.Work.{Work}
use Rattle.client_tree.specs.Lines.{IsAskedText, IsPrepared, operation_text}

-- a line that is prepared asks for something
pub prepared_is_asked : (work : Work) (made : Prepared) (line : List ℕ) → IsPrepared work made → line ≡ made.line → IsAskedText line
unfolding operation_text
prepared_is_asked work made line is same = record { asked = lines.Command (commands.Do work.op is.procaps); same = same ∙ is.line_is }

-- the text of a line asks for what the line asks for
pub text_is_asked : (line : Line) (text : List ℕ) → text ≡ asked_text line → IsAskedText text
text_is_asked line text is = record { asked = line; same = is }

-- the text of the line that asks for an operation, with the operation's copy
pub operation_is_asked : (op copied : Op) (procaps : List ProcapWord) (text : List ℕ) → copied ≡ op
    → text ≡ asked_text (lines.Command (commands.Do copied procaps)) → text ≡ operation_text op procaps
unfolding operation_text
operation_is_asked op copied procaps text same is =
    is ∙ ap (λ (o : Op). asked_text (lines.Command (commands.Do o procaps))) same

-- one line alone
pub one_is_asked : (text : List ℕ) → IsAskedText text → All IsAskedText (text ∷ [])
one_is_asked text is = All-push IsAskedText [] text (All-nil IsAskedText) is

-- one line more
pub more_are_asked : (texts : List (List ℕ)) (text : List ℕ) → All IsAskedText texts → IsAskedText text → All IsAskedText (texts ++ text ∷ [])
more_are_asked texts text all is = All-push IsAskedText texts text all is
