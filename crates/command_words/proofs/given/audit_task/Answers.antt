-- By whether pieces are given, and how many.
use Rattle.std.proofs.Common.{ap, refl, sym, ◌∙◌, option_map, codes}
use Rattle.std.specs.Borrow.{Bor}
use Rattle.clap.specs.Words.{Text, found_of, rows_of}
use Rattle.clap.proofs.WalkLemmas.{first_value-rows}
use Rattle.command_words.proofs.TaskLemmas.{no_audit, no_pieces}
use Rattle.command_words.proofs.given.audit_task.Goals as goal

pub returns-in-None : goal.returns-in-None
returns-in-None c = (refl, (sym (first_value-rows (found_of c.args.given.now) (codes "pieces")) ∙ sym c.get_str.ensures ∙ ap (option_map (λ (s : Bor Text). s.now)) c.in-None.is))

pub returns-in-None-number_given : goal.returns-in-None-number_given
returns-in-None-number_given c = no_audit (rows_of (found_of c.args.given.now)) (no_pieces (rows_of (found_of c.args.given.now)) c.in-Some._text.now (sym (first_value-rows (found_of c.args.given.now) (codes "pieces")) ∙ sym c.get_str.ensures ∙ ap (option_map (λ (s : Bor Text). s.now)) c.in-Some.is) c.in-None-number_given.ensures)
