-- No byte stands from the start on.
use Rattle.std.proofs.Common.{◌≡◌, length, ap, rules}
use Rattle.event_messages.specs.Reader.{ReaderState}
use Rattle.event_messages.proofs.MoreLemmas.{empty_left}
use Rattle.event_messages.proofs.reader.MessageReader.is_empty.Goals as goal

pub returns : goal.returns
returns c =
    let len_is : c.len.result ≡ length c.self.inside.bytes.items = search rules in
    empty_left c.self.inside.bytes.items c.args.self.now.left c.self.inside.start c.len.result len_is c.self.invariant (ap (λ (s : ReaderState). s.left) c.self.view_is)
