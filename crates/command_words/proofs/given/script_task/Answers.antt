-- By whether `--stored` is given.
use Rattle.std.proofs.Common.{ap, refl, sym, ◌∙◌, option_map, codes, Some}
use Rattle.std.specs.Borrow.{Bor}
use Rattle.std.proofs.lemmas.Bool.{false≢true}
use Rattle.std.proofs.lemmas.Slice.Eq.{bytes_eq-Decides}
use Rattle.clap.specs.Words.{Text, found_of}
use Rattle.clap.proofs.WalkLemmas.{first_value-rows}
use Rattle.command_words.proofs.GivenLemmas.{same_some, some_none}
use Rattle.command_words.proofs.given.script_task.Goals as goal

pub returns-then-eq : goal.returns-then-eq
returns-then-eq c = (refl, (sym (first_value-rows (found_of c.args.given.now) (codes "stored")) ∙ sym c.get_str.ensures ∙ ap (option_map (λ (s : Bor Text). s.now)) c.in-Some.is) ∙ ap Some ((bytes_eq-Decides c.in-Some.text.now (codes "true")).0 (sym c.eq.ensures ∙ c.if-eq.true)))

pub returns-else-eq : goal.returns-else-eq
returns-else-eq c = (refl, λ e. false≢true (sym c.if-eq.false ∙ c.eq.ensures ∙ (bytes_eq-Decides c.in-Some.text.now (codes "true")).1 (same_some _ _ (sym (sym (first_value-rows (found_of c.args.given.now) (codes "stored")) ∙ sym c.get_str.ensures ∙ ap (option_map (λ (s : Bor Text). s.now)) c.in-Some.is) ∙ e))))

pub returns-in-None : goal.returns-in-None
returns-in-None c = (refl, λ e. some_none (codes "true") (sym e ∙ (sym (first_value-rows (found_of c.args.given.now) (codes "stored")) ∙ sym c.get_str.ensures ∙ ap (option_map (λ (s : Bor Text). s.now)) c.in-None.is)))
