use Rattle.nine_front.proofs.ShortLemmas.{step_text_fits}
use Rattle.nine_front.proofs.replying.step_line.Goals as goal

pub returns-clause-writable : goal.returns-clause-writable
returns-clause-writable c = step_text_fits c.args.replied c.requires c.has_short_names.ensures
