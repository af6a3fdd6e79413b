-- The name is that of one command, whose function says what it asks for; or it is none of the twelve.
use Rattle.std.proofs.Common.{◌≡◌, ◌∙◌, Bool, true, false, List, Option, codes, subst, sym, MatchOption}
use Rattle.std.specs.Str.{bytes_eq}
use Rattle.std.proofs.lemmas.Bool.{false≢true}
use Rattle.std.proofs.lemmas.Slice.Eq.{bytes_eq-Decides}
use Rattle.clap.specs.Words.{Row, Text, found_of, rows_of}
use Rattle.command_words.specs.declared.words.Task.{Task}
use Rattle.command_words.specs.Tasks.{IsTaskOf}
use Rattle.command_words.proofs.TaskLemmas.{no_command}
use Rattle.command_words.proofs.words.task_named.Goals as goal

-- what the test of a name tells
is_word : (name word : Text) (tested : Bool) → tested ≡ bytes_eq name word → tested ≡ true → name ≡ word
is_word name word tested is holds = (bytes_eq-Decides name word).0 (sym is ∙ holds)

is_other : (name word : Text) (tested : Bool) → tested ≡ bytes_eq name word → tested ≡ false → name ≡ word → ⊥
is_other name word tested is fails same = false≢true (sym fails ∙ is ∙ (bytes_eq-Decides name word).1 same)

abbrev Asked : List Row → Option Task → Text → Type 0
Asked given result name = MatchOption result ((task : Task) → IsTaskOf name given task → ⊥) (IsTaskOf name given)

-- what the function of that command says, of the name that was given
of_word : (name word : Text) (given : List Row) (result : Option Task) → name ≡ word → Asked given result word → Asked given result name
of_word name word given result is said = subst (Asked given result) (sym is) said

pub returns-then-eq : goal.returns-then-eq
returns-then-eq c =
    of_word c.args.name.now (codes "script") (rows_of (found_of c.args.given.now)) c.script_task.result
    (is_word c.args.name.now (codes "script") c.eq.result c.eq.ensures c.if-eq.true) c.script_task.ensures

pub returns-then-eq-2 : goal.returns-then-eq-2
returns-then-eq-2 c = is_word c.args.name.now (codes "init") c.eq-2.result c.eq-2.ensures c.if-eq-2.true

pub returns-then-eq-3 : goal.returns-then-eq-3
returns-then-eq-3 c = is_word c.args.name.now (codes "checkpoint") c.eq-3.result c.eq-3.ensures c.if-eq-3.true

pub returns-then-eq-4 : goal.returns-then-eq-4
returns-then-eq-4 c =
    of_word c.args.name.now (codes "audit") (rows_of (found_of c.args.given.now)) c.audit_task.result
    (is_word c.args.name.now (codes "audit") c.eq-4.result c.eq-4.ensures c.if-eq-4.true) c.audit_task.ensures

pub returns-then-eq-5 : goal.returns-then-eq-5
returns-then-eq-5 c =
    of_word c.args.name.now (codes "export") (rows_of (found_of c.args.given.now)) c.export_task.result
    (is_word c.args.name.now (codes "export") c.eq-5.result c.eq-5.ensures c.if-eq-5.true) c.export_task.ensures

pub returns-then-eq-6 : goal.returns-then-eq-6
returns-then-eq-6 c = is_word c.args.name.now (codes "follow") c.eq-6.result c.eq-6.ensures c.if-eq-6.true

pub returns-then-eq-7 : goal.returns-then-eq-7
returns-then-eq-7 c = is_word c.args.name.now (codes "check") c.eq-7.result c.eq-7.ensures c.if-eq-7.true

pub returns-then-eq-8 : goal.returns-then-eq-8
returns-then-eq-8 c =
    of_word c.args.name.now (codes "load") (rows_of (found_of c.args.given.now)) c.load_task.result
    (is_word c.args.name.now (codes "load") c.eq-8.result c.eq-8.ensures c.if-eq-8.true) c.load_task.ensures

pub returns-then-eq-9 : goal.returns-then-eq-9
returns-then-eq-9 c =
    of_word c.args.name.now (codes "modes") (rows_of (found_of c.args.given.now)) c.modes_task.result
    (is_word c.args.name.now (codes "modes") c.eq-9.result c.eq-9.ensures c.if-eq-9.true) c.modes_task.ensures

pub returns-then-eq-10 : goal.returns-then-eq-10
returns-then-eq-10 c =
    of_word c.args.name.now (codes "rootsign") (rows_of (found_of c.args.given.now)) c.rootsign_task.result
    (is_word c.args.name.now (codes "rootsign") c.eq-10.result c.eq-10.ensures c.if-eq-10.true) c.rootsign_task.ensures

pub returns-then-eq-11 : goal.returns-then-eq-11
returns-then-eq-11 c =
    of_word c.args.name.now (codes "serve") (rows_of (found_of c.args.given.now)) c.serve_task.result
    (is_word c.args.name.now (codes "serve") c.eq-11.result c.eq-11.ensures c.if-eq-11.true) c.serve_task.ensures

pub returns-then-eq-12 : goal.returns-then-eq-12
returns-then-eq-12 c =
    of_word c.args.name.now (codes "serve9") (rows_of (found_of c.args.given.now)) c.serve9_task.result
    (is_word c.args.name.now (codes "serve9") c.eq-12.result c.eq-12.ensures c.if-eq-12.true) c.serve9_task.ensures

pub returns : goal.returns
returns c = no_command (rows_of (found_of c.args.given.now)) c.args.name.now
    (is_other c.args.name.now (codes "script") c.eq.result c.eq.ensures c.if-eq.false)
    (is_other c.args.name.now (codes "init") c.eq-2.result c.eq-2.ensures c.if-eq-2.false)
    (is_other c.args.name.now (codes "checkpoint") c.eq-3.result c.eq-3.ensures c.if-eq-3.false)
    (is_other c.args.name.now (codes "audit") c.eq-4.result c.eq-4.ensures c.if-eq-4.false)
    (is_other c.args.name.now (codes "export") c.eq-5.result c.eq-5.ensures c.if-eq-5.false)
    (is_other c.args.name.now (codes "follow") c.eq-6.result c.eq-6.ensures c.if-eq-6.false)
    (is_other c.args.name.now (codes "check") c.eq-7.result c.eq-7.ensures c.if-eq-7.false)
    (is_other c.args.name.now (codes "load") c.eq-8.result c.eq-8.ensures c.if-eq-8.false)
    (is_other c.args.name.now (codes "modes") c.eq-9.result c.eq-9.ensures c.if-eq-9.false)
    (is_other c.args.name.now (codes "rootsign") c.eq-10.result c.eq-10.ensures c.if-eq-10.false)
    (is_other c.args.name.now (codes "serve") c.eq-11.result c.eq-11.ensures c.if-eq-11.false)
    (is_other c.args.name.now (codes "serve9") c.eq-12.result c.eq-12.ensures c.if-eq-12.false)
