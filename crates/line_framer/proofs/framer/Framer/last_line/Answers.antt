-- Bytes without an end of a line are all of the last one.
use Rattle.std.proofs.Common.{◌≡◌, sym, ap, ◌∙◌, subst}
use Rattle.line_text.specs.Words.{HasNo}
use Rattle.line_framer.specs.Framing.{FramerState}
use Rattle.line_framer.proofs.FramingLemmas.{no_end_open}
use Rattle.line_framer.proofs.framer.Framer.last_line.Goals as goal

pub returns-then-len-self-clause-none : goal.returns-then-len-self-clause-none
returns-then-len-self-clause-none c none some =
    let left_is : c.self.inside.queue ≡ c.args.self.now.left = ap (λ (s : FramerState). s.left) c.self.view_is in
    absurd (c.if-len-self.true (c.len.ensures ∙ no_end_open c.self.inside.queue c.self.inside.last_len c.self.invariant (subst (HasNo 10) (sym left_is) none)))
