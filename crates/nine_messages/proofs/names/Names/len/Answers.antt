use Rattle.std.proofs.Common.{sym, ◌∙◌, ap, length}
use Rattle.nine_messages.specs.Fields.{text_at, texts_in}
use Rattle.nine_messages.proofs.NamesLemmas.{length-texts}
use Rattle.nine_messages.proofs.names.Names.len.Goals as goal

pub returns : goal.returns
returns c = sym (length-texts text_at c.self.inside.count c.self.inside.bytes.now (texts_in c.self.inside.count c.self.inside.bytes.now) _ c.self.invariant.filled) ∙ ap length c.self.view_is
