-- The words that ask for sessions or 9P2000 over the network, as `clap` reads them (this project's
-- own).
use Rattle.std.specs.Prelude.{ℕ, List, String}
use Rattle.std.specs.declared.alloc.Global.{Global}
use Rattle.command_words.specs.Tasks.{AsksFor}
use Rattle.command_words.specs.declared.words.Task.TheVariants.{Serve, Serve9}

-- sessions on this port, for so many connections
abbrev pub IsServe : List (String Global) → ℕ → ℕ → Type 0
IsServe words port count = AsksFor words (Serve port count)

-- 9P2000 on this port, for so many connections
abbrev pub IsServe9 : List (String Global) → ℕ → ℕ → Type 0
IsServe9 words port count = AsksFor words (Serve9 port count)
