-- Each command is added.
use Rattle.std.proofs.Common.{ap, ap₂, ◌∙◌}
use Rattle.clap.specs.Words.{App, with_subcommand}
use Rattle.command_words.specs.Commands.{load_app, modes_app, rootsign_app, serve_app, serve9_app}
use Rattle.command_words.proofs.commands.program.Goals as goal

pub returns : goal.returns
returns c =
    let check = c.in_ok-with_check.ensures.shape c.new.ensures.local ∙ ap₂ (λ (a b : App). with_subcommand a b.top) c.in_ok-stored.ensures c.new.ensures.app in
    let load = c.in_ok-load.ensures _ _ c.in_ok-with_load.ensures ∙ ap (λ (a : App). with_subcommand a load_app.top) check in
    let modes = c.in_ok-modes.ensures _ _ c.in_ok-with_modes.ensures ∙ ap (λ (a : App). with_subcommand a modes_app.top) load in
    let rootsign = c.in_ok-rootsign.ensures _ _ c.in_ok-with_rootsign.ensures ∙ ap (λ (a : App). with_subcommand a rootsign_app.top) modes in
    let serve = c.in_ok-serve.ensures _ _ c.in_ok-with_serve.ensures ∙ ap (λ (a : App). with_subcommand a serve_app.top) rootsign in
    c.in_ok-serve9.ensures _ _ c.in_ok-command.ensures ∙ ap (λ (a : App). with_subcommand a serve9_app.top) serve
