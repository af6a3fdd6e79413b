-- Each piece of a statement's text gives what may be said.
use Rattle.bl_text.proofs.IsStatementLemmas.{statement_said}
use Rattle.bl_text.proofs.laws.sayable_text.Goals as goal

pub returns : goal.returns
returns c = λ text s h. statement_said h
