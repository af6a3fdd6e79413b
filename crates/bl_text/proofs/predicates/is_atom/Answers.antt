-- There is a predicate's name exactly if the bytes are one.
use Rattle.std.proofs.Common.{List, ℕ, sym, subst, ◌∙◌, IsTrue}
use Rattle.bl_syntax.specs.Names.{is_predicate_name}
use Rattle.bl_text.proofs.ReadLemmas.{bool_same}
use Rattle.bl_text.proofs.predicates.is_atom.Goals as goal

pub returns : goal.returns
returns c =
    c.is_some.ensures ∙ bool_same _ (is_predicate_name c.args.name.now)
    (λ some. subst (λ (n : List ℕ). IsTrue (is_predicate_name n)) c.bytes.ensures.same (c.new.ensures.named.0 some))
    (λ named. c.new.ensures.named.1 (subst (λ (n : List ℕ). IsTrue (is_predicate_name n)) (sym c.bytes.ensures.same) named))
