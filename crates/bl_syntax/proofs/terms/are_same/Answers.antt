use Rattle.bl_syntax.proofs.EqualityLemmas.{Decides-term_eq}
use Rattle.std.proofs.lemmas.Slice.Eq.{slice_eq-Decides}
use Rattle.bl_syntax.proofs.terms.are_same.Goals as goal

pub returns : goal.returns
returns c = slice_eq-Decides Decides-term_eq c.args.terms.now c.args.others.now c.eq.result c.eq.ensures
