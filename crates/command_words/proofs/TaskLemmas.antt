-- What a command asks for by its name and what is given to it.
use Rattle.std.proofs.Common.{◌≡◌, inl, inr, false, refl, ◌^◌, ◌-◌, ℕ, List, [], ap₂, sym, subst, ◌∙◌, Option, Some, None}
use Rattle.std.specs.Prelude.{Box, IfSome, MatchOption, codes, String, option_map}
use Rattle.std.specs.Box.{box_value}
use Rattle.std.specs.Str.{bytes_eq}
use Rattle.std.proofs.lemmas.Bool.{false≢true}
use Rattle.std.proofs.lemmas.Slice.Eq.{bytes_eq-Decides}
use Rattle.std.specs.declared.alloc.Global.{Global}
use Rattle.clap.specs.Words.{HasKind, IsAmong, Kinds, Row, Text, fault_of, first_of, found_of, kind_of, rows_of, subcommand_of}
use Rattle.clap.specs.Simple.{subcommand_rows}
use Rattle.clap.specs.declared.error.Error.{Error}
use Rattle.clap.specs.declared.error.kind.ErrorKind.TheVariants as kinds
use Rattle.clap.specs.declared.parser.matches.ArgMatches.TheViews.{out-SubCommand}
use Rattle.clap.specs.declared.parser.matches.SubCommand.{SubCommand}
use Rattle.bl_syntax.specs.declared.limits.TheConstants.{MOST_EVENTS}
use Rattle.generated_script.specs.declared.script.TheConstants.{MOST_ROUNDS}
use Rattle.command_words.specs.declared.given.TheConstants.{MOST_PIECES, LAST_SECOND, MOST_HEIGHT, LAST_PORT, MOST_CONNECTIONS}
use Rattle.command_words.specs.Commands.{program}
use Rattle.command_words.specs.CommandWords.{GivesNumber, GivesPieces}
use Rattle.command_words.specs.Tasks.{AreKnown, AskForNoRun, AsksFor, Finds, IsFit, IsServing, IsTaskOf, texts_of}
use Rattle.command_words.specs.declared.words.Task.{Task}
use Rattle.command_words.specs.declared.words.Task.TheVariants.{Script, Stored, Init, Checkpoint, Audit, Export, Follow, Check, Load, Modes, RootSign, Serve, Serve9}

-- ---- names

-- these texts are apart
differ : (x y : Text) → bytes_eq x y ≡ false → x ≡ y → ⊥
differ x y apart same = false≢true (sym apart ∙ (bytes_eq-Decides x y).1 same)

-- ---- one command

module _ (given : List Row) where
  pub no_audit : ((pieces : Option ℕ) → GivesPieces given pieces → ⊥) → (task : Task) → IsTaskOf (codes "audit") given task → ⊥
  no_audit none Script is = absurd (differ (codes "audit") (codes "script") refl is.0)
  no_audit none Stored is = absurd (differ (codes "audit") (codes "script") refl is.0)
  no_audit none Init is = absurd (differ (codes "audit") (codes "init") refl is)
  no_audit none Checkpoint is = absurd (differ (codes "audit") (codes "checkpoint") refl is)
  no_audit none (Audit pieces) is = none pieces is.1
  no_audit none (Export from) is = absurd (differ (codes "audit") (codes "export") refl is.0)
  no_audit none Follow is = absurd (differ (codes "audit") (codes "follow") refl is)
  no_audit none Check is = absurd (differ (codes "audit") (codes "check") refl is)
  no_audit none (Load rounds seed) is = absurd (differ (codes "audit") (codes "load") refl is.0)
  no_audit none (Modes from to) is = absurd (differ (codes "audit") (codes "modes") refl is.0)
  no_audit none (RootSign height from) is = absurd (differ (codes "audit") (codes "rootsign") refl is.0)
  no_audit none (Serve port count) is = absurd (differ (codes "audit") (codes "serve") refl is.0)
  no_audit none (Serve9 port count) is = absurd (differ (codes "audit") (codes "serve9") refl is.0)

  -- pieces are given, but as no such number
  pub no_pieces : (text : Text) → first_of (codes "pieces") given ≡ Some text → ((n : ℕ) → GivesNumber 1 MOST_PIECES (codes "pieces") given n → ⊥) → (pieces : Option ℕ) → GivesPieces given pieces → ⊥
  no_pieces text is none None nothing = let e : Some text ≡ None = sym is ∙ nothing in absurd cc
  no_pieces text is none (Some n) says = none n says

  pub no_export : ((from : ℕ) → GivesNumber 1 MOST_EVENTS (codes "from") given from → ⊥) → (task : Task) → IsTaskOf (codes "export") given task → ⊥
  no_export none Script is = absurd (differ (codes "export") (codes "script") refl is.0)
  no_export none Stored is = absurd (differ (codes "export") (codes "script") refl is.0)
  no_export none Init is = absurd (differ (codes "export") (codes "init") refl is)
  no_export none Checkpoint is = absurd (differ (codes "export") (codes "checkpoint") refl is)
  no_export none (Audit pieces) is = absurd (differ (codes "export") (codes "audit") refl is.0)
  no_export none (Export from) is = none from is.1
  no_export none Follow is = absurd (differ (codes "export") (codes "follow") refl is)
  no_export none Check is = absurd (differ (codes "export") (codes "check") refl is)
  no_export none (Load rounds seed) is = absurd (differ (codes "export") (codes "load") refl is.0)
  no_export none (Modes from to) is = absurd (differ (codes "export") (codes "modes") refl is.0)
  no_export none (RootSign height from) is = absurd (differ (codes "export") (codes "rootsign") refl is.0)
  no_export none (Serve port count) is = absurd (differ (codes "export") (codes "serve") refl is.0)
  no_export none (Serve9 port count) is = absurd (differ (codes "export") (codes "serve9") refl is.0)

  pub no_load : ((rounds seed : ℕ) → GivesNumber 0 MOST_ROUNDS (codes "rounds") given rounds → GivesNumber 0 (2 ^ 64 - 1) (codes "seed") given seed → ⊥) → (task : Task) → IsTaskOf (codes "load") given task → ⊥
  no_load none Script is = absurd (differ (codes "load") (codes "script") refl is.0)
  no_load none Stored is = absurd (differ (codes "load") (codes "script") refl is.0)
  no_load none Init is = absurd (differ (codes "load") (codes "init") refl is)
  no_load none Checkpoint is = absurd (differ (codes "load") (codes "checkpoint") refl is)
  no_load none (Audit pieces) is = absurd (differ (codes "load") (codes "audit") refl is.0)
  no_load none (Export from) is = absurd (differ (codes "load") (codes "export") refl is.0)
  no_load none Follow is = absurd (differ (codes "load") (codes "follow") refl is)
  no_load none Check is = absurd (differ (codes "load") (codes "check") refl is)
  no_load none (Load rounds seed) is = none rounds seed is.1 is.2
  no_load none (Modes from to) is = absurd (differ (codes "load") (codes "modes") refl is.0)
  no_load none (RootSign height from) is = absurd (differ (codes "load") (codes "rootsign") refl is.0)
  no_load none (Serve port count) is = absurd (differ (codes "load") (codes "serve") refl is.0)
  no_load none (Serve9 port count) is = absurd (differ (codes "load") (codes "serve9") refl is.0)

  pub no_modes : ((from to : ℕ) → GivesNumber 0 LAST_SECOND (codes "from") given from → GivesNumber 0 LAST_SECOND (codes "to") given to → ⊥) → (task : Task) → IsTaskOf (codes "modes") given task → ⊥
  no_modes none Script is = absurd (differ (codes "modes") (codes "script") refl is.0)
  no_modes none Stored is = absurd (differ (codes "modes") (codes "script") refl is.0)
  no_modes none Init is = absurd (differ (codes "modes") (codes "init") refl is)
  no_modes none Checkpoint is = absurd (differ (codes "modes") (codes "checkpoint") refl is)
  no_modes none (Audit pieces) is = absurd (differ (codes "modes") (codes "audit") refl is.0)
  no_modes none (Export from) is = absurd (differ (codes "modes") (codes "export") refl is.0)
  no_modes none Follow is = absurd (differ (codes "modes") (codes "follow") refl is)
  no_modes none Check is = absurd (differ (codes "modes") (codes "check") refl is)
  no_modes none (Load rounds seed) is = absurd (differ (codes "modes") (codes "load") refl is.0)
  no_modes none (Modes from to) is = none from to is.1 is.2
  no_modes none (RootSign height from) is = absurd (differ (codes "modes") (codes "rootsign") refl is.0)
  no_modes none (Serve port count) is = absurd (differ (codes "modes") (codes "serve") refl is.0)
  no_modes none (Serve9 port count) is = absurd (differ (codes "modes") (codes "serve9") refl is.0)

  pub no_rootsign : ((height from : ℕ) → GivesNumber 0 MOST_HEIGHT (codes "height") given height → GivesNumber 0 (2 ^ height) (codes "from") given from → ⊥) → (task : Task) → IsTaskOf (codes "rootsign") given task → ⊥
  no_rootsign none Script is = absurd (differ (codes "rootsign") (codes "script") refl is.0)
  no_rootsign none Stored is = absurd (differ (codes "rootsign") (codes "script") refl is.0)
  no_rootsign none Init is = absurd (differ (codes "rootsign") (codes "init") refl is)
  no_rootsign none Checkpoint is = absurd (differ (codes "rootsign") (codes "checkpoint") refl is)
  no_rootsign none (Audit pieces) is = absurd (differ (codes "rootsign") (codes "audit") refl is.0)
  no_rootsign none (Export from) is = absurd (differ (codes "rootsign") (codes "export") refl is.0)
  no_rootsign none Follow is = absurd (differ (codes "rootsign") (codes "follow") refl is)
  no_rootsign none Check is = absurd (differ (codes "rootsign") (codes "check") refl is)
  no_rootsign none (Load rounds seed) is = absurd (differ (codes "rootsign") (codes "load") refl is.0)
  no_rootsign none (Modes from to) is = absurd (differ (codes "rootsign") (codes "modes") refl is.0)
  no_rootsign none (RootSign height from) is = none height from is.1 is.2
  no_rootsign none (Serve port count) is = absurd (differ (codes "rootsign") (codes "serve") refl is.0)
  no_rootsign none (Serve9 port count) is = absurd (differ (codes "rootsign") (codes "serve9") refl is.0)

  pub no_serve : ((port count : ℕ) → GivesNumber 1 LAST_PORT (codes "port") given port → GivesNumber 1 MOST_CONNECTIONS (codes "count") given count → ⊥) → (task : Task) → IsTaskOf (codes "serve") given task → ⊥
  no_serve none Script is = absurd (differ (codes "serve") (codes "script") refl is.0)
  no_serve none Stored is = absurd (differ (codes "serve") (codes "script") refl is.0)
  no_serve none Init is = absurd (differ (codes "serve") (codes "init") refl is)
  no_serve none Checkpoint is = absurd (differ (codes "serve") (codes "checkpoint") refl is)
  no_serve none (Audit pieces) is = absurd (differ (codes "serve") (codes "audit") refl is.0)
  no_serve none (Export from) is = absurd (differ (codes "serve") (codes "export") refl is.0)
  no_serve none Follow is = absurd (differ (codes "serve") (codes "follow") refl is)
  no_serve none Check is = absurd (differ (codes "serve") (codes "check") refl is)
  no_serve none (Load rounds seed) is = absurd (differ (codes "serve") (codes "load") refl is.0)
  no_serve none (Modes from to) is = absurd (differ (codes "serve") (codes "modes") refl is.0)
  no_serve none (RootSign height from) is = absurd (differ (codes "serve") (codes "rootsign") refl is.0)
  no_serve none (Serve port count) is = none port count is.1 is.2
  no_serve none (Serve9 port count) is = absurd (differ (codes "serve") (codes "serve9") refl is.0)

  pub no_serve9 : ((port count : ℕ) → GivesNumber 1 LAST_PORT (codes "port") given port → GivesNumber 1 MOST_CONNECTIONS (codes "count") given count → ⊥) → (task : Task) → IsTaskOf (codes "serve9") given task → ⊥
  no_serve9 none Script is = absurd (differ (codes "serve9") (codes "script") refl is.0)
  no_serve9 none Stored is = absurd (differ (codes "serve9") (codes "script") refl is.0)
  no_serve9 none Init is = absurd (differ (codes "serve9") (codes "init") refl is)
  no_serve9 none Checkpoint is = absurd (differ (codes "serve9") (codes "checkpoint") refl is)
  no_serve9 none (Audit pieces) is = absurd (differ (codes "serve9") (codes "audit") refl is.0)
  no_serve9 none (Export from) is = absurd (differ (codes "serve9") (codes "export") refl is.0)
  no_serve9 none Follow is = absurd (differ (codes "serve9") (codes "follow") refl is)
  no_serve9 none Check is = absurd (differ (codes "serve9") (codes "check") refl is)
  no_serve9 none (Load rounds seed) is = absurd (differ (codes "serve9") (codes "load") refl is.0)
  no_serve9 none (Modes from to) is = absurd (differ (codes "serve9") (codes "modes") refl is.0)
  no_serve9 none (RootSign height from) is = absurd (differ (codes "serve9") (codes "rootsign") refl is.0)
  no_serve9 none (Serve port count) is = absurd (differ (codes "serve9") (codes "serve") refl is.0)
  no_serve9 none (Serve9 port count) is = none port count is.1 is.2

  -- the name is no command's
  pub no_command : (name : Text) → (name ≡ codes "script" → ⊥) → (name ≡ codes "init" → ⊥) → (name ≡ codes "checkpoint" → ⊥) → (name ≡ codes "audit" → ⊥) → (name ≡ codes "export" → ⊥) → (name ≡ codes "follow" → ⊥) → (name ≡ codes "check" → ⊥) → (name ≡ codes "load" → ⊥) → (name ≡ codes "modes" → ⊥) → (name ≡ codes "rootsign" → ⊥) → (name ≡ codes "serve" → ⊥) → (name ≡ codes "serve9" → ⊥) → (task : Task) → IsTaskOf name given task → ⊥
  no_command name no_script no_init no_checkpoint no_audit no_export no_follow no_check no_load no_modes no_rootsign no_serve no_serve9 Script is = no_script is.0
  no_command name no_script no_init no_checkpoint no_audit no_export no_follow no_check no_load no_modes no_rootsign no_serve no_serve9 Stored is = no_script is.0
  no_command name no_script no_init no_checkpoint no_audit no_export no_follow no_check no_load no_modes no_rootsign no_serve no_serve9 Init is = no_init is
  no_command name no_script no_init no_checkpoint no_audit no_export no_follow no_check no_load no_modes no_rootsign no_serve no_serve9 Checkpoint is = no_checkpoint is
  no_command name no_script no_init no_checkpoint no_audit no_export no_follow no_check no_load no_modes no_rootsign no_serve no_serve9 (Audit pieces) is = no_audit is.0
  no_command name no_script no_init no_checkpoint no_audit no_export no_follow no_check no_load no_modes no_rootsign no_serve no_serve9 (Export from) is = no_export is.0
  no_command name no_script no_init no_checkpoint no_audit no_export no_follow no_check no_load no_modes no_rootsign no_serve no_serve9 Follow is = no_follow is
  no_command name no_script no_init no_checkpoint no_audit no_export no_follow no_check no_load no_modes no_rootsign no_serve no_serve9 Check is = no_check is
  no_command name no_script no_init no_checkpoint no_audit no_export no_follow no_check no_load no_modes no_rootsign no_serve no_serve9 (Load rounds seed) is = no_load is.0
  no_command name no_script no_init no_checkpoint no_audit no_export no_follow no_check no_load no_modes no_rootsign no_serve no_serve9 (Modes from to) is = no_modes is.0
  no_command name no_script no_init no_checkpoint no_audit no_export no_follow no_check no_load no_modes no_rootsign no_serve no_serve9 (RootSign height from) is = no_rootsign is.0
  no_command name no_script no_init no_checkpoint no_audit no_export no_follow no_check no_load no_modes no_rootsign no_serve no_serve9 (Serve port count) is = no_serve is.0
  no_command name no_script no_init no_checkpoint no_audit no_export no_follow no_check no_load no_modes no_rootsign no_serve no_serve9 (Serve9 port count) is = no_serve9 is.0

  -- it is this command's
  pub as_named : (name literal : Text) (task : Option Task) → name ≡ literal → MatchOption task ((t : Task) → IsTaskOf literal given t → ⊥) (IsTaskOf literal given) → MatchOption task ((t : Task) → IsTaskOf name given t → ⊥) (IsTaskOf name given)
  as_named name literal task is says = subst (λ (n : Text). MatchOption task ((t : Task) → IsTaskOf n given t → ⊥) (IsTaskOf n given)) (sym is) says

-- ---- what was found

same_some : {X : Type 0} (x y : X) → Some x ≡ Some y → x ≡ y
same_some x y is = cc

module _ {Z : Type 0} where
  -- a command was found under this name, with this given to it
  pub found_is : (sub : Option (Box SubCommand Z)) (name : Text) (given : List Row) → Some name ≡ option_map (λ b. (out-SubCommand (box_value b)).name.now) sub → Some given ≡ option_map (λ p. p.1) (subcommand_rows sub) → subcommand_rows sub ≡ Some (name, given)
  found_is None name given is_name is_given = absurd cc
  found_is (Some b) name given is_name is_given =
      ap₂ (λ (n : Text) (g : List Row). Some (n, g)) (same_some (out-SubCommand (box_value b)).name.now name (sym is_name)) (same_some (rows_of (found_of (out-SubCommand (box_value b)).matches)) given (sym is_given))

pub finds_named : (found : Option (Text × List Row)) (name : Text) (given : List Row) (task : Option Task) → found ≡ Some (name, given) → MatchOption task ((t : Task) → IsTaskOf name given t → ⊥) (IsTaskOf name given) → MatchOption task ((t : Task) → Finds found t → ⊥) (Finds found)
finds_named found name given task is says = subst (λ (f : Option (Text × List Row)). MatchOption task ((t : Task) → Finds f t → ⊥) (Finds f)) (sym is) says

-- ---- the words

module _ (words : List (String Global)) where
  -- they were taken
  pub asks_found : (found : Option (Text × List Row)) (task : Option Task) → fault_of program (texts_of words) ≡ [] → found ≡ subcommand_of program (texts_of words) → MatchOption task ((t : Task) → Finds found t → ⊥) (Finds found) → MatchOption task (AreKnown words → ⊥) (AsksFor words)
  asks_found found None taken is none = λ known. none known.0 (subst (λ (f : Option (Text × List Row)). Finds f known.0) (sym is) known.1.finds)
  asks_found found (Some task) taken is finds = record { taken = taken; finds = subst (λ (f : Option (Text × List Row)). Finds f task) is finds }

  -- they were not, and memory did not run out
  pub asks_nothing : (e : Error) (ks : Kinds) → ks ≡ fault_of program (texts_of words) → HasKind ks e → (kind_of e ≡ kinds.OutOfMemory → ⊥) → AreKnown words → ⊥
  asks_nothing e ks is (inl memory) other known = other memory
  asks_nothing e ks is (inr among) other known = subst (IsAmong (kind_of e)) (is ∙ known.1.taken) among

-- ---- what follows from what the words ask for

fits_found : (found : Option (Text × List Row)) (task : Task) → Finds found task → IsFit task
fits_found None task finds = absurd finds
fits_found (Some f) Script finds = tt
fits_found (Some f) Stored finds = tt
fits_found (Some f) Init finds = tt
fits_found (Some f) Checkpoint finds = tt
fits_found (Some f) (Audit None) finds = tt
fits_found (Some f) (Audit (Some n)) finds = finds.1.not_below
fits_found (Some f) (Export from) finds = (finds.1.not_below, finds.1.not_above)
fits_found (Some f) Follow finds = tt
fits_found (Some f) Check finds = tt
fits_found (Some f) (Load rounds seed) finds = finds.1.not_above
fits_found (Some f) (Modes from to) finds = (finds.1.not_above, finds.2.not_above)
fits_found (Some f) (RootSign height from) finds = (finds.1.not_above, finds.2.not_above)
fits_found (Some f) (Serve port count) finds = (finds.2.not_below, finds.2.not_above)
fits_found (Some f) (Serve9 port count) finds = (finds.2.not_below, finds.2.not_above)

-- what is asked for has its numbers in their ranges
pub fits : (words : List (String Global)) (task : Task) → AsksFor words task → IsFit task
fits words task asks = fits_found (subcommand_of program (texts_of words)) task asks.finds

pub fits_asked : (words : List (String Global)) (asked : Option Task) → MatchOption asked (AreKnown words → ⊥) (AsksFor words) → IfSome asked IsFit
fits_asked words None unknown = tt
fits_asked words (Some task) asks = fits words task asks

serving_only : (found : Option (Text × List Row)) (port count : ℕ) → Finds found (Serve port count) → (task : Task) → Finds found task → IsServing task
serving_only None port count serves task finds = absurd serves
serving_only (Some f) port count serves Script finds = absurd (differ (codes "serve") (codes "script") refl (sym serves.0 ∙ finds.0))
serving_only (Some f) port count serves Stored finds = absurd (differ (codes "serve") (codes "script") refl (sym serves.0 ∙ finds.0))
serving_only (Some f) port count serves Init finds = absurd (differ (codes "serve") (codes "init") refl (sym serves.0 ∙ finds))
serving_only (Some f) port count serves Checkpoint finds = absurd (differ (codes "serve") (codes "checkpoint") refl (sym serves.0 ∙ finds))
serving_only (Some f) port count serves (Audit pieces) finds = absurd (differ (codes "serve") (codes "audit") refl (sym serves.0 ∙ finds.0))
serving_only (Some f) port count serves (Export from) finds = absurd (differ (codes "serve") (codes "export") refl (sym serves.0 ∙ finds.0))
serving_only (Some f) port count serves Follow finds = absurd (differ (codes "serve") (codes "follow") refl (sym serves.0 ∙ finds))
serving_only (Some f) port count serves Check finds = absurd (differ (codes "serve") (codes "check") refl (sym serves.0 ∙ finds))
serving_only (Some f) port count serves (Load rounds seed) finds = absurd (differ (codes "serve") (codes "load") refl (sym serves.0 ∙ finds.0))
serving_only (Some f) port count serves (Modes from to) finds = absurd (differ (codes "serve") (codes "modes") refl (sym serves.0 ∙ finds.0))
serving_only (Some f) port count serves (RootSign height from) finds = absurd (differ (codes "serve") (codes "rootsign") refl (sym serves.0 ∙ finds.0))
serving_only (Some f) port count serves (Serve other more) finds = tt
serving_only (Some f) port count serves (Serve9 other more) finds = tt

nine_only : (found : Option (Text × List Row)) (port count : ℕ) → Finds found (Serve9 port count) → (task : Task) → Finds found task → IsServing task
nine_only None port count serves task finds = absurd serves
nine_only (Some f) port count serves Script finds = absurd (differ (codes "serve9") (codes "script") refl (sym serves.0 ∙ finds.0))
nine_only (Some f) port count serves Stored finds = absurd (differ (codes "serve9") (codes "script") refl (sym serves.0 ∙ finds.0))
nine_only (Some f) port count serves Init finds = absurd (differ (codes "serve9") (codes "init") refl (sym serves.0 ∙ finds))
nine_only (Some f) port count serves Checkpoint finds = absurd (differ (codes "serve9") (codes "checkpoint") refl (sym serves.0 ∙ finds))
nine_only (Some f) port count serves (Audit pieces) finds = absurd (differ (codes "serve9") (codes "audit") refl (sym serves.0 ∙ finds.0))
nine_only (Some f) port count serves (Export from) finds = absurd (differ (codes "serve9") (codes "export") refl (sym serves.0 ∙ finds.0))
nine_only (Some f) port count serves Follow finds = absurd (differ (codes "serve9") (codes "follow") refl (sym serves.0 ∙ finds))
nine_only (Some f) port count serves Check finds = absurd (differ (codes "serve9") (codes "check") refl (sym serves.0 ∙ finds))
nine_only (Some f) port count serves (Load rounds seed) finds = absurd (differ (codes "serve9") (codes "load") refl (sym serves.0 ∙ finds.0))
nine_only (Some f) port count serves (Modes from to) finds = absurd (differ (codes "serve9") (codes "modes") refl (sym serves.0 ∙ finds.0))
nine_only (Some f) port count serves (RootSign height from) finds = absurd (differ (codes "serve9") (codes "rootsign") refl (sym serves.0 ∙ finds.0))
nine_only (Some f) port count serves (Serve other more) finds = tt
nine_only (Some f) port count serves (Serve9 other more) finds = tt

-- if sessions are asked for, nothing else is
pub serves_alone : (words : List (String Global)) (port count : ℕ) → AsksFor words (Serve port count) → AskForNoRun words
serves_alone words port count serves task asks = serving_only (subcommand_of program (texts_of words)) port count serves.finds task asks.finds

-- so it is if 9P2000 is asked for
pub nine_alone : (words : List (String Global)) (port count : ℕ) → AsksFor words (Serve9 port count) → AskForNoRun words
nine_alone words port count serves task asks = nine_only (subcommand_of program (texts_of words)) port count serves.finds task asks.finds

pub nothing_asked : (words : List (String Global)) → (AreKnown words → ⊥) → AskForNoRun words
nothing_asked words unknown task asks = absurd (unknown (task, asks))
