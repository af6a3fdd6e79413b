-- A law of commands.
use Rattle.std.specs.Prelude.{◌≡◌, List, String}
use Rattle.std.specs.declared.alloc.Global.{Global}
use Rattle.command_words.specs.Tasks.{AsksFor}
use Rattle.command_words.specs.declared.words.Task.{Task}

-- words ask for one thing at most
abbrev pub WordsAskForOneThing : Type 0
WordsAskForOneThing = (words : List (String Global)) (first second : Task) → AsksFor words first →
    AsksFor words second → first ≡ second
