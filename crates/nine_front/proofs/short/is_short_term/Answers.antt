use Rattle.std.proofs.Common.{sym, subst}
use Rattle.nine_front.specs.Short.{IsShortTerm}
use Rattle.nine_front.proofs.ShortLemmas.{name_few, text_few}
use Rattle.nine_front.proofs.short.is_short_term.Goals as goal

pub returns-in-Prin : goal.returns-in-Prin
returns-in-Prin c = subst IsShortTerm (sym c.in-Prin.is) (name_few c.in-Prin.name c.bytes.ensures.named)

pub returns-in-Text : goal.returns-in-Text
returns-in-Text c = subst IsShortTerm (sym c.in-Text.is) (text_few c.in-Text.text c.bytes-in-Text.ensures.fits)
