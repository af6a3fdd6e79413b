-- The commands of the program as `clap` knows them: a command with one level of subcommands, whose
-- values are texts (this project's own).
use Rattle.std.specs.Prelude.{[], codes, true, Some}
use Rattle.clap.specs.Words.{App, Rule, Text, new_app, new_rule, with_rule, with_subcommand}
use Rattle.clap.specs.Simple.{new_shape}
use Rattle.clap.specs.declared.builder.action.ArgAction.TheVariants.{Set, SetTrue}

-- `--NAME`, which may stand there
abbrev pub flag_rule : Text → Rule
flag_rule name = record (new_rule name) { long = Some name; action = Some SetTrue }

-- `--NAME` with a value, which may stand there
abbrev pub option_rule : Text → Rule
option_rule name = record (new_rule name) { long = Some name; action = Some Set }

-- a word that has to stand there
abbrev pub word_rule : Text → Rule
word_rule name = record (new_rule name) { action = Some Set; required = true }

abbrev pub script_app : App
script_app = with_rule (new_app (codes "script")) (flag_rule (codes "stored"))

abbrev pub init_app : App
init_app = new_app (codes "init")

abbrev pub checkpoint_app : App
checkpoint_app = new_app (codes "checkpoint")

abbrev pub audit_app : App
audit_app = with_rule (new_app (codes "audit")) (option_rule (codes "pieces"))

abbrev pub export_app : App
export_app = with_rule (new_app (codes "export")) (word_rule (codes "from"))

abbrev pub follow_app : App
follow_app = new_app (codes "follow")

abbrev pub check_app : App
check_app = new_app (codes "check")

abbrev pub load_app : App
load_app = with_rule (with_rule (new_app (codes "load")) (word_rule (codes "rounds"))) (word_rule (codes "seed"))

abbrev pub modes_app : App
modes_app = with_rule (with_rule (new_app (codes "modes")) (word_rule (codes "from"))) (word_rule (codes "to"))

abbrev pub rootsign_app : App
rootsign_app = with_rule (with_rule (new_app (codes "rootsign")) (word_rule (codes "height"))) (word_rule (codes "from"))

abbrev pub serve_app : App
serve_app = with_rule (with_rule (new_app (codes "serve")) (word_rule (codes "port"))) (word_rule (codes "count"))

abbrev pub serve9_app : App
serve9_app = with_rule (with_rule (new_app (codes "serve9")) (word_rule (codes "port"))) (word_rule (codes "count"))

-- the program, whose words are without its name, and name a command
abbrev pub no_commands : App
no_commands = record { top = record (new_shape (codes "pcfs")) { no_binary_name = true; subcommand_required = true }; subs = [] }

abbrev pub stored_commands : App
stored_commands = with_subcommand (with_subcommand
    (with_subcommand (with_subcommand (with_subcommand (with_subcommand no_commands script_app.top) init_app.top) audit_app.top)
    checkpoint_app.top) export_app.top) follow_app.top

abbrev pub program : App
program = with_subcommand (with_subcommand (with_subcommand
    (with_subcommand (with_subcommand (with_subcommand stored_commands check_app.top) load_app.top)
    modes_app.top) rootsign_app.top) serve_app.top) serve9_app.top
