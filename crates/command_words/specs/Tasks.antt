-- What the words of a command ask for (this project's own). They are read as `clap` reads them.
use Rattle.std.specs.Prelude.{◌≡◌, ◌≤◌, ◌^◌, ◌-◌, List, [], String, map, codes, Option, Some, None, IfSome}
use Rattle.std.specs.String.{string_bytes}
use Rattle.std.specs.declared.alloc.Global.{Global}
use Rattle.clap.specs.Words.{Row, Text, fault_of, first_of, subcommand_of}
use Rattle.bl_syntax.specs.declared.limits.TheConstants.{MOST_EVENTS}
use Rattle.generated_script.specs.declared.script.TheConstants.{MOST_ROUNDS}
use Rattle.command_words.specs.declared.given.TheConstants.{LAST_SECOND, MOST_HEIGHT, LAST_PORT, MOST_CONNECTIONS}
use Rattle.command_words.specs.declared.words.Task.{Task}
use Rattle.command_words.specs.declared.words.Task.TheVariants.{Script, Stored, Init, Checkpoint, Audit, Export, Follow, Check, Load, Modes, RootSign, Serve, Serve9}
use Rattle.command_words.specs.CommandWords.{GivesNumber, GivesPieces}
use Rattle.command_words.specs.Commands.{program}

-- the command of this name with what is given to it asks for this
abbrev pub IsTaskOf : Text → List Row → Task → Type 0
IsTaskOf name given Script = (name ≡ codes "script") ×
    (first_of (codes "stored") given ≡ Some (codes "true") → ⊥)
IsTaskOf name given Stored = (name ≡ codes "script") ×
    (first_of (codes "stored") given ≡ Some (codes "true"))
IsTaskOf name given Init = name ≡ codes "init"
IsTaskOf name given Checkpoint = name ≡ codes "checkpoint"
IsTaskOf name given (Audit pieces) = (name ≡ codes "audit") × GivesPieces given pieces
IsTaskOf name given (Export from) = (name ≡ codes "export") ×
    GivesNumber 1 MOST_EVENTS (codes "from") given from
IsTaskOf name given Follow = name ≡ codes "follow"
IsTaskOf name given Check = name ≡ codes "check"
IsTaskOf name given (Load rounds seed) = (name ≡ codes "load") ×
    GivesNumber 0 MOST_ROUNDS (codes "rounds") given rounds ×
    GivesNumber 0 (2 ^ 64 - 1) (codes "seed") given seed
IsTaskOf name given (Modes from to) = (name ≡ codes "modes") ×
    GivesNumber 0 LAST_SECOND (codes "from") given from ×
    GivesNumber 0 LAST_SECOND (codes "to") given to
IsTaskOf name given (RootSign height from) =
    (name ≡ codes "rootsign") × GivesNumber 0 MOST_HEIGHT (codes "height") given height ×
    GivesNumber 0 (2 ^ height) (codes "from") given from
IsTaskOf name given (Serve port count) = (name ≡ codes "serve") ×
    GivesNumber 1 LAST_PORT (codes "port") given port ×
    GivesNumber 1 MOST_CONNECTIONS (codes "count") given count
IsTaskOf name given (Serve9 port count) = (name ≡ codes "serve9") ×
    GivesNumber 1 LAST_PORT (codes "port") given port ×
    GivesNumber 1 MOST_CONNECTIONS (codes "count") given count

-- the command that was found asks for this
abbrev pub Finds : Option (Text × List Row) → Task → Type 0
Finds None task = ⊥
Finds (Some found) task = IsTaskOf found.0 found.1 task

-- the words as texts
abbrev pub texts_of : List (String Global) → List Text
texts_of words = map string_bytes words

-- `clap` takes the words, and finds in them a command that asks for this
pub record AsksFor (words : List (String Global)) (task : Task) : Type 0 where
  pub taken : fault_of program (texts_of words) ≡ []
  pub finds : Finds (subcommand_of program (texts_of words)) task

-- the words ask for something
abbrev pub AreKnown : List (String Global) → Type 0
AreKnown words = (task : Task) × AsksFor words task

-- the numbers of what is asked for are in their ranges
abbrev pub IsFit : Task → Type 0
IsFit Script = Unit {0}
IsFit Stored = Unit {0}
IsFit Init = Unit {0}
IsFit Checkpoint = Unit {0}
IsFit (Audit pieces) = IfSome pieces (λ n. 1 ≤ n)
IsFit (Export from) = (1 ≤ from) × (from ≤ MOST_EVENTS)
IsFit Follow = Unit {0}
IsFit Check = Unit {0}
IsFit (Load rounds seed) = rounds ≤ MOST_ROUNDS
IsFit (Modes from to) = (from ≤ LAST_SECOND) × (to ≤ LAST_SECOND)
IsFit (RootSign height from) = (height ≤ MOST_HEIGHT) × (from ≤ 2 ^ height)
IsFit (Serve port count) = (1 ≤ count) × (count ≤ MOST_CONNECTIONS)
IsFit (Serve9 port count) = (1 ≤ count) × (count ≤ MOST_CONNECTIONS)

-- sessions or 9P2000 are asked for, which need more ports than a run without them
abbrev pub IsServing : Task → Type 0
IsServing Script = ⊥
IsServing Stored = ⊥
IsServing Init = ⊥
IsServing Checkpoint = ⊥
IsServing (Audit pieces) = ⊥
IsServing (Export from) = ⊥
IsServing Follow = ⊥
IsServing Check = ⊥
IsServing (Load rounds seed) = ⊥
IsServing (Modes from to) = ⊥
IsServing (RootSign height from) = ⊥
IsServing (Serve port count) = Unit {0}
IsServing (Serve9 port count) = Unit {0}

-- the words ask for nothing, unless it is sessions or 9P2000
abbrev pub AskForNoRun : List (String Global) → Type 0
AskForNoRun words = (task : Task) → AsksFor words task → IsServing task
