use Rattle.bl_syntax.proofs.TermLemmas.{term_codec}
use Rattle.bl_syntax.proofs.laws.terms_are_a_codec.Goals as goal

pub returns : goal.returns
returns c = term_codec
