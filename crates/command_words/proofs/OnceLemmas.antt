-- Words ask for one thing at most: what is found says the command, and each number of it.
use Rattle.std.proofs.Common.{◌≡◌, ◌∙◌, ◌-◌, ◌^◌, ℕ, List, Bool, true, false, Option, Some, None, refl, sym, ap, subst}
use Rattle.std.specs.Prelude.{if◌then◌else◌, codes, String}
use Rattle.std.specs.Str.{bytes_eq}
use Rattle.std.proofs.lemmas.Slice.Eq.{bytes_eq-Decides}
use Rattle.std.specs.declared.alloc.Global.{Global}
use Rattle.clap.specs.Words.{Row, Text, first_of, subcommand_of}
use Rattle.bl_syntax.specs.declared.limits.TheConstants.{MOST_EVENTS}
use Rattle.generated_script.specs.declared.script.TheConstants.{MOST_ROUNDS}
use Rattle.command_words.specs.declared.given.TheConstants.{MOST_PIECES, LAST_SECOND, MOST_HEIGHT, LAST_PORT, MOST_CONNECTIONS}
use Rattle.command_words.specs.Commands.{program}
use Rattle.command_words.specs.CommandWords.{GivesNumber}
use Rattle.command_words.specs.Tasks.{AsksFor, Finds, IsTaskOf, texts_of}
use Rattle.command_words.specs.declared.words.Task.{Task}
use Rattle.command_words.specs.declared.words.Task.TheVariants.{Script, Stored, Init, Checkpoint, Audit, Export, Follow, Check, Load, Modes, RootSign, Serve, Serve9}
use Rattle.command_words.proofs.GivenLemmas.{given_once}

-- ---- whether a script is stored

abbrev says_true : Option Text → Bool
says_true None = false
says_true (Some text) = bytes_eq text (codes "true")

untrue : (o : Option Text) → (o ≡ Some (codes "true") → ⊥) → says_true o ≡ false
untrue None differs = refl
untrue (Some text) differs = by_test (bytes_eq text (codes "true")) refl
  where
    by_test : (b : Bool) → bytes_eq text (codes "true") ≡ b → bytes_eq text (codes "true") ≡ false
    by_test false is = is
    by_test true is = absurd (differs (ap Some ((bytes_eq-Decides text (codes "true")).0 is)))

-- ---- the numbers of a task

abbrev first_number : Task → Option ℕ
first_number Script = None
first_number Stored = None
first_number Init = None
first_number Checkpoint = None
first_number (Audit pieces) = pieces
first_number (Export from) = Some from
first_number Follow = None
first_number Check = None
first_number (Load rounds seed) = Some rounds
first_number (Modes from to) = Some from
first_number (RootSign height from) = Some height
first_number (Serve port count) = Some port
first_number (Serve9 port count) = Some port

abbrev second_number : Task → ℕ
second_number Script = 0
second_number Stored = 0
second_number Init = 0
second_number Checkpoint = 0
second_number (Audit pieces) = 0
second_number (Export from) = 0
second_number Follow = 0
second_number Check = 0
second_number (Load rounds seed) = seed
second_number (Modes from to) = to
second_number (RootSign height from) = from
second_number (Serve port count) = count
second_number (Serve9 port count) = count

-- under which names they are given to a command
abbrev first_name : Text → Option Text
first_name name =
    if bytes_eq name (codes "audit") then Some (codes "pieces")
    else if bytes_eq name (codes "export") then Some (codes "from")
    else if bytes_eq name (codes "load") then Some (codes "rounds")
    else if bytes_eq name (codes "modes") then Some (codes "from")
    else if bytes_eq name (codes "rootsign") then Some (codes "height")
    else if bytes_eq name (codes "serve") then Some (codes "port")
    else if bytes_eq name (codes "serve9") then Some (codes "port")
    else None

abbrev second_name : Text → Option Text
second_name name =
    if bytes_eq name (codes "load") then Some (codes "seed")
    else if bytes_eq name (codes "modes") then Some (codes "to")
    else if bytes_eq name (codes "rootsign") then Some (codes "from")
    else if bytes_eq name (codes "serve") then Some (codes "count")
    else if bytes_eq name (codes "serve9") then Some (codes "count")
    else None

-- the number that is given under a name, if there is such a name; nothing may be said of it
abbrev GivesFirst : Option Text → List Row → Option ℕ → Type 0
GivesFirst None given number = number ≡ None
GivesFirst (Some name) given None = first_of name given ≡ None
GivesFirst (Some name) given (Some number) = (least : ℕ) × (most : ℕ) × GivesNumber least most name given number

abbrev GivesSecond : Option Text → List Row → ℕ → Type 0
GivesSecond None given number = number ≡ 0
GivesSecond (Some name) given number = (least : ℕ) × (most : ℕ) × GivesNumber least most name given number

not_both : (text : Text) (o : Option Text) → o ≡ None → o ≡ Some text → ⊥
not_both text o none some = let both : ◌≡◌ {A = Option Text} None (Some text) = sym none ∙ some in cc

first_once : (name : Option Text) (given : List Row) (m n : Option ℕ) → GivesFirst name given m → GivesFirst name given n → m ≡ n
first_once None given m n one other = one ∙ sym other
first_once (Some name) given None None one other = refl
first_once (Some name) given None (Some n) one other = absurd (not_both other.2.text (first_of name given) one other.2.is_given)
first_once (Some name) given (Some m) None one other = absurd (not_both one.2.text (first_of name given) other one.2.is_given)
first_once (Some name) given (Some m) (Some n) one other = ap Some (given_once one.0 one.1 other.0 other.1 name given m n one.2 other.2)

second_once : (name : Option Text) (given : List Row) (m n : ℕ) → GivesSecond name given m → GivesSecond name given n → m ≡ n
second_once None given m n one other = one ∙ sym other
second_once (Some name) given m n one other = given_once one.0 one.1 other.0 other.1 name given m n one.2 other.2

-- ---- a task by its name and its numbers

abbrev number_of : Option ℕ → ℕ
number_of None = 0
number_of (Some n) = n

abbrev task_by : Text → Bool → Option ℕ → ℕ → Task
task_by name stored one other =
    if bytes_eq name (codes "script") then (if stored then Stored else Script)
    else if bytes_eq name (codes "init") then Init
    else if bytes_eq name (codes "checkpoint") then Checkpoint
    else if bytes_eq name (codes "audit") then Audit one
    else if bytes_eq name (codes "export") then Export (number_of one)
    else if bytes_eq name (codes "follow") then Follow
    else if bytes_eq name (codes "check") then Check
    else if bytes_eq name (codes "load") then Load (number_of one) other
    else if bytes_eq name (codes "modes") then Modes (number_of one) other
    else if bytes_eq name (codes "rootsign") then RootSign (number_of one) other
    else if bytes_eq name (codes "serve") then Serve (number_of one) other
    else Serve9 (number_of one) other

module _ (name : Text) (given : List Row) where
  abbrev is_stored : Bool
  is_stored = says_true (first_of (codes "stored") given)

  named : (task : Task) → IsTaskOf name given task → task_by name is_stored (first_number task) (second_number task) ≡ task
  named Script is = ap (λ (n : Text). task_by n is_stored None 0) is.0 ∙ ap (λ (b : Bool). task_by (codes "script") b None 0) (untrue (first_of (codes "stored") given) is.1)
  named Stored is = ap (λ (n : Text). task_by n is_stored None 0) is.0 ∙ ap (λ (o : Option Text). task_by (codes "script") (says_true o) None 0) is.1
  named Init is = ap (λ (n : Text). task_by n is_stored None 0) is
  named Checkpoint is = ap (λ (n : Text). task_by n is_stored None 0) is
  named (Audit pieces) is = ap (λ (n : Text). task_by n is_stored pieces 0) is.0
  named (Export from) is = ap (λ (n : Text). task_by n is_stored (Some from) 0) is.0
  named Follow is = ap (λ (n : Text). task_by n is_stored None 0) is
  named Check is = ap (λ (n : Text). task_by n is_stored None 0) is
  named (Load rounds seed) is = ap (λ (n : Text). task_by n is_stored (Some rounds) seed) is.0
  named (Modes from to) is = ap (λ (n : Text). task_by n is_stored (Some from) to) is.0
  named (RootSign height from) is = ap (λ (n : Text). task_by n is_stored (Some height) from) is.0
  named (Serve port count) is = ap (λ (n : Text). task_by n is_stored (Some port) count) is.0
  named (Serve9 port count) is = ap (λ (n : Text). task_by n is_stored (Some port) count) is.0

  -- the numbers of a task are given under their names
  abbrev Firsts : Option Text → Option ℕ → Type 0
  Firsts o number = GivesFirst o given number

  pieces_given : (pieces : Option ℕ) → IsTaskOf (codes "audit") given (Audit pieces) → Firsts (Some (codes "pieces")) pieces
  pieces_given None is = is.1
  pieces_given (Some n) is = (1, MOST_PIECES, is.1)

  first_given : (task : Task) → IsTaskOf name given task → Firsts (first_name name) (first_number task)
  first_given Script is = subst (λ (n : Text). Firsts (first_name n) None) (sym is.0) refl
  first_given Stored is = subst (λ (n : Text). Firsts (first_name n) None) (sym is.0) refl
  first_given Init is = subst (λ (n : Text). Firsts (first_name n) None) (sym is) refl
  first_given Checkpoint is = subst (λ (n : Text). Firsts (first_name n) None) (sym is) refl
  first_given (Audit pieces) is = subst (λ (n : Text). Firsts (first_name n) pieces) (sym is.0) (pieces_given pieces (refl, is.1))
  first_given (Export from) is = subst (λ (n : Text). Firsts (first_name n) (Some from)) (sym is.0) (1, MOST_EVENTS, is.1)
  first_given Follow is = subst (λ (n : Text). Firsts (first_name n) None) (sym is) refl
  first_given Check is = subst (λ (n : Text). Firsts (first_name n) None) (sym is) refl
  first_given (Load rounds seed) is = subst (λ (n : Text). Firsts (first_name n) (Some rounds)) (sym is.0) (0, MOST_ROUNDS, is.1)
  first_given (Modes from to) is = subst (λ (n : Text). Firsts (first_name n) (Some from)) (sym is.0) (0, LAST_SECOND, is.1)
  first_given (RootSign height from) is = subst (λ (n : Text). Firsts (first_name n) (Some height)) (sym is.0) (0, MOST_HEIGHT, is.1)
  first_given (Serve port count) is = subst (λ (n : Text). Firsts (first_name n) (Some port)) (sym is.0) (1, LAST_PORT, is.1)
  first_given (Serve9 port count) is = subst (λ (n : Text). Firsts (first_name n) (Some port)) (sym is.0) (1, LAST_PORT, is.1)

  abbrev Seconds : Option Text → ℕ → Type 0
  Seconds o number = GivesSecond o given number

  second_given : (task : Task) → IsTaskOf name given task → Seconds (second_name name) (second_number task)
  second_given Script is = subst (λ (n : Text). Seconds (second_name n) 0) (sym is.0) refl
  second_given Stored is = subst (λ (n : Text). Seconds (second_name n) 0) (sym is.0) refl
  second_given Init is = subst (λ (n : Text). Seconds (second_name n) 0) (sym is) refl
  second_given Checkpoint is = subst (λ (n : Text). Seconds (second_name n) 0) (sym is) refl
  second_given (Audit pieces) is = subst (λ (n : Text). Seconds (second_name n) 0) (sym is.0) refl
  second_given (Export from) is = subst (λ (n : Text). Seconds (second_name n) 0) (sym is.0) refl
  second_given Follow is = subst (λ (n : Text). Seconds (second_name n) 0) (sym is) refl
  second_given Check is = subst (λ (n : Text). Seconds (second_name n) 0) (sym is) refl
  second_given (Load rounds seed) is = subst (λ (n : Text). Seconds (second_name n) seed) (sym is.0) (0, 2 ^ 64 - 1, is.2)
  second_given (Modes from to) is = subst (λ (n : Text). Seconds (second_name n) to) (sym is.0) (0, LAST_SECOND, is.2)
  second_given (RootSign height from) is = subst (λ (n : Text). Seconds (second_name n) from) (sym is.0) (0, 2 ^ height, is.2)
  second_given (Serve port count) is = subst (λ (n : Text). Seconds (second_name n) count) (sym is.0) (1, MOST_CONNECTIONS, is.2)
  second_given (Serve9 port count) is = subst (λ (n : Text). Seconds (second_name n) count) (sym is.0) (1, MOST_CONNECTIONS, is.2)

  task_once : (first second : Task) → IsTaskOf name given first → IsTaskOf name given second → first ≡ second
  task_once first second one other =
      sym (named first one)
      ∙ ap (λ (n : Option ℕ). task_by name is_stored n (second_number first)) (first_once (first_name name) given (first_number first) (first_number second) (first_given first one) (first_given second other))
      ∙ ap (λ (n : ℕ). task_by name is_stored (first_number second) n) (second_once (second_name name) given (second_number first) (second_number second) (second_given first one) (second_given second other))
      ∙ named second other

found_once : (found : Option (Text × List Row)) (first second : Task) → Finds found first → Finds found second → first ≡ second
found_once None first second one other = absurd one
found_once (Some f) first second one other = task_once f.0 f.1 first second one other

pub asks_once : (words : List (String Global)) (first second : Task) → AsksFor words first → AsksFor words second → first ≡ second
asks_once words first second one other = found_once (subcommand_of program (texts_of words)) first second one.finds other.finds
