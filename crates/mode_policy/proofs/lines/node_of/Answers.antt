-- A word of no node sets nothing.
use Rattle.std.proofs.Common.{refl}
use Rattle.line_words.specs.Kinds.{blank}
use Rattle.line_words.specs.declared.arguments.Arguments.{Arguments}
use Rattle.mode_policy.proofs.lines.node_of.Goals as goal

pub returns : goal.returns
returns c = λ node h.
    let after : Arguments = record blank { node = node } in
    c.in_ok-read.ensures.outside c.if-branch.false blank after (h, refl)
