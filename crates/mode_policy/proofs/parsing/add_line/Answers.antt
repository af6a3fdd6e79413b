-- What the line says is added.
use Rattle.std.proofs.Common.{Option, MatchOption, subst}
use Rattle.mode_policy.specs.declared.entry.Entry.{Entry}
use Rattle.mode_policy.specs.Lines.{IsEntryLine}
use Rattle.mode_policy.proofs.ReadingLemmas.{adds_line}
use Rattle.mode_policy.proofs.parsing.add_line.Goals as goal

pub returns-in-Some : goal.returns-in-Some
returns-in-Some c =
    adds_line c.args.table.now c.add.new.self c.args.line.now c.in-Some.said c.add.result
    (subst (λ (r : Option Entry). MatchOption r ((e : Entry) → IsEntryLine c.args.line.now e → ⊥) (IsEntryLine c.args.line.now)) c.in-Some.is c.in_ok-said.ensures) c.add.ensures
