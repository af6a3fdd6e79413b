-- Each command is added.
use Rattle.std.proofs.Common.{ap, ap₂, ◌∙◌}
use Rattle.clap.specs.Words.{App, with_subcommand}
use Rattle.command_words.specs.Commands.{audit_app, export_app, script_app}
use Rattle.command_words.proofs.commands.stored_commands.Goals as goal

pub returns : goal.returns
returns c =
    let script = c.in_ok-script.ensures _ _ c.in_ok-with_script.ensures ∙ ap (λ (a : App). with_subcommand a script_app.top) c.no_commands.ensures in
    let init = c.in_ok-with_init.ensures.shape c.new.ensures.local ∙ ap₂ (λ (a b : App). with_subcommand a b.top) script c.new.ensures.app in
    let audit = c.in_ok-audit.ensures _ _ c.in_ok-with_audit.ensures ∙ ap (λ (a : App). with_subcommand a audit_app.top) init in
    let checkpoint = c.in_ok-with_checkpoint.ensures.shape c.new-2.ensures.local ∙ ap₂ (λ (a b : App). with_subcommand a b.top) audit c.new-2.ensures.app in
    let export = c.in_ok-export.ensures _ _ c.in_ok-with_export.ensures ∙ ap (λ (a : App). with_subcommand a export_app.top) checkpoint in
    c.in_ok-command.ensures.shape c.new-3.ensures.local ∙ ap₂ (λ (a b : App). with_subcommand a b.top) export c.new-3.ensures.app
