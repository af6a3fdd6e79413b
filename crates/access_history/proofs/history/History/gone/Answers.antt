-- By the issues of a grant that names no statements, and else by these.
use Rattle.std.proofs.Common.{sym, ap, length, ◌∙◌}
use Rattle.std.proofs.lemmas.Bool.{eqb-true, eqb-false}
use Rattle.access_history.proofs.HistoryLemmas.{gone_plain, gone_named, no_items}
use Rattle.access_history.proofs.history.History.gone.Goals as goal

pub gone_by_issues-requires-clause-unnamed : goal.gone_by_issues-requires-clause-unnamed
gone_by_issues-requires-clause-unnamed c =
    sym c.cited-named.ensures.same ∙ no_items c.cited-named.result.now (eqb-true _ _ (sym c.is_empty.ensures ∙ c.if-is_empty.true))

pub returns-then-is_empty : goal.returns-then-is_empty
returns-then-is_empty c =
    gone_plain c.args.self.now c.args.procap.now.grant c.gone_by_issues.result c.cited-named.result.now c.cited-named.ensures.same (no_items c.cited-named.result.now (eqb-true _ _ (sym c.is_empty.ensures ∙ c.if-is_empty.true))) c.gone_by_issues.ensures

pub returns : goal.returns
returns c =
    gone_named c.self.inside _ c.args.procap.now.grant c.cited-named.result.now c.first_withdrawn.result c.self.invariant c.self.view_is c.cited-named.ensures.same
    (λ none. eqb-false _ _ (sym c.is_empty.ensures ∙ c.if-is_empty.false) (ap length none)) c.first_withdrawn.ensures
