-- What words ask for, if not for sessions or 9P2000.
use Rattle.std.proofs.Common.{◌≡◌, ℕ, Option, Some, None, refl, ap}
use Rattle.std.specs.Prelude.{List, MatchOption, String}
use Rattle.std.specs.declared.alloc.Global.{Global}
use Rattle.command_words.specs.Tasks.{AreKnown, AsksFor}
use Rattle.command_words.specs.declared.words.Task.{Task}
use Rattle.command_words.specs.declared.words.Task.TheVariants.{Serve, Serve9}
use Rattle.command_words.proofs.OnceLemmas.{asks_once}

-- if something else is asked for, or nothing, this is not
other_task : (words : List (String Global)) (asked : Option Task) (task : Task) → MatchOption asked (AreKnown words → ⊥) (AsksFor words) → (asked ≡ Some task → ⊥) → AsksFor words task → ⊥
other_task words None task unknown other serves = unknown (task, serves)
other_task words (Some found) task asks other serves = other (ap Some (asks_once words found task asks serves))

-- so no sessions are
pub asks_other : (words : List (String Global)) (asked : Option Task) → MatchOption asked (AreKnown words → ⊥) (AsksFor words) → ((port count : ℕ) → asked ≡ Some (Serve port count) → ⊥) → (port count : ℕ) → AsksFor words (Serve port count) → ⊥
asks_other words asked known other port count serves = other_task words asked (Serve port count) known (other port count) serves

-- and so no 9P2000 is
pub asks_no_nine : (words : List (String Global)) (asked : Option Task) → MatchOption asked (AreKnown words → ⊥) (AsksFor words) → ((port count : ℕ) → asked ≡ Some (Serve9 port count) → ⊥) → (port count : ℕ) → AsksFor words (Serve9 port count) → ⊥
asks_no_nine words asked known other port count serves = other_task words asked (Serve9 port count) known (other port count) serves
