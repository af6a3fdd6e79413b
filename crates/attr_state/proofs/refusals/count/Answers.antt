use Rattle.std.proofs.Common.{◌≡◌, Option, length, sym, ap, ◌∙◌, arith}
use Rattle.file_world.specs.Attributes.{Mark}
use Rattle.file_world.specs.AttributeEffect.{attributes_of}
use Rattle.attr_state.proofs.MarkLemmas.{mark_at-kept, mark_at-missing}
use Rattle.attr_state.proofs.refusals.count.Goals as goal

pub returns-in-None : goal.returns-in-None
returns-in-None c = sym (ap (λ (m : Option Mark). length (attributes_of m)) (mark_at-missing c.args.marks.now.entries c.args.number (sym c.in-None.ensures.value)))

pub returns-in-Some : goal.returns-in-Some
returns-in-Some c =
    let e : c.len.result ≡ length c.in-Some.mark.now.attributes.items = omega (arith, c.len.ensures, c.in-Some.mark.now.attributes.ok.0) in
    e ∙ sym (ap (λ (m : Option Mark). length (attributes_of m)) (mark_at-kept c.args.marks.now.entries c.args.number c.in-Some.mark.now (sym c.in-Some.ensures.value)))
