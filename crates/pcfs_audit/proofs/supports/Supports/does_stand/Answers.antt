-- Nothing is ever withdrawn, or the statements that the grant names tell, or its issues.
use Rattle.std.proofs.Common.{◌≡◌, length, refl, subst, sym, ap, ◌∙◌}
use Rattle.std.specs.Prelude.{◌↔◌, Bool, IsTrue, List, Option, None, ℕ, not}
use Rattle.std.proofs.lemmas.Bool.{eqb-true, eqb-false}
use Rattle.access_history.specs.Gone.{gone}
use Rattle.access_history.proofs.HistoryLemmas.{no_items}
use Rattle.pcfs_audit.specs.Ends.{first_end, is_past}
use Rattle.pcfs_audit.proofs.SupportsLemmas.{stands_always, stands_by_names, stands_plain}
use Rattle.pcfs_audit.proofs.supports.Supports.does_stand.Goals as goal

pub returns-then-not-counts : goal.returns-then-not-counts
returns-then-not-counts c state told genuine =
    (λ yes. stands_always c.args.dossier.now c.args.self.now state c.args.procap.now.grant c.requires c.if-not-counts.true told, λ none. refl)

pub returns-then-is_empty : goal.returns-then-is_empty
returns-then-is_empty c state told genuine =
    stands_plain state c.args.procap.now.grant c.cited-named.result.now c.does_stand_by_issues.result c.cited-named.ensures.same
    (no_items c.cited-named.result.now (eqb-true _ _ (sym c.is_empty.ensures ∙ c.if-is_empty.true))) (c.does_stand_by_issues.ensures state told genuine)

pub returns : goal.returns
returns c state told genuine =
    let named = c.cited-named.result.now in
    let end_is = c.first_end.ensures ∙ ap (λ (es : List (Option ℕ)). first_end es named) c.as_slice.ensures.value in
    let past_is = c.is_past.ensures ∙ ap (λ (end : Option ℕ). is_past end c.args.self.now.place) end_is in
    subst (λ (b : Bool). IsTrue (not b) ↔ (gone state c.args.procap.now.grant ≡ None)) (sym past_is)
    (stands_by_names c.args.dossier.now c.args.self.now state c.args.procap.now.grant named c.cited-named.ensures.same
    (λ none. eqb-false _ _ (sym c.is_empty.ensures ∙ c.if-is_empty.false) (ap length none)) told)
