-- It has the two words.
use Rattle.std.proofs.Common.{ap, ap₂, ◌∙◌}
use Rattle.std.specs.Prelude.{◌||◌}
use Rattle.clap.specs.Words.{App, app_of, with_rule, with_subcommand}
use Rattle.command_words.proofs.commands.two_word_command.Goals as goal

pub returns : goal.returns
returns c old new adds =
    let first = c.in_ok-with_first.ensures.shape c.word.ensures.local ∙ ap₂ with_rule c.new.ensures.app c.word.ensures.rule in
    let app = c.in_ok-command.ensures.shape c.word-2.ensures.local ∙ ap₂ with_rule first c.word-2.ensures.rule in
    adds.shape (c.in_ok-command.ensures.globals ∙ ap₂ (λ x y. x || y) (c.in_ok-with_first.ensures.globals ∙ ap₂ (λ x y. x || y) c.new.ensures.local c.word.ensures.local) c.word-2.ensures.local) ∙ ap (λ (a : App). with_subcommand (app_of old) a.top) app
