-- A line of a file begins with the word of a node.
use Rattle.std.proofs.Common.{Option, MatchOption, subst}
use Rattle.bl_syntax.specs.declared.terms.NodeId.{NodeId}
use Rattle.line_words.specs.Numbers.{IsFile}
use Rattle.mode_policy.proofs.LinePartLemmas.{no_cut_line, no_node_line}
use Rattle.mode_policy.proofs.lines.mode_line.Goals as goal

pub returns-in-None : goal.returns-in-None
returns-in-None c = no_cut_line c.args.words.now (λ word behind unbroken is. c.in-None.ensures.only word behind unbroken is)

pub returns-in-None-2 : goal.returns-in-None-2
returns-in-None-2 c =
    no_node_line c.args.words.now c.in-Some.parts.0.now c.in-Some.parts.1.now c.in-Some.ensures.one_word c.in-Some.ensures.found
    (subst (λ (r : Option NodeId). MatchOption r ((n : NodeId) → IsFile c.in-Some.parts.0.now n → ⊥) (IsFile c.in-Some.parts.0.now)) c.in-None-2.is c.in_ok-node.ensures)
