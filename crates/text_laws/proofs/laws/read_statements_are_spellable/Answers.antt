use Rattle.text_laws.proofs.SpellableLemmas.{statement_spellable}
use Rattle.text_laws.proofs.laws.read_statements_are_spellable.Goals as goal

pub returns : goal.returns
returns c text s h = statement_spellable h
