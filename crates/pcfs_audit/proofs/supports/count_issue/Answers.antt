-- The row of the issue's grant is written, or there is none.
use Rattle.std.proofs.Common.{◌≡◌, ◌∙◌, List, Option, ap, refl, subst, sym, ℕ}
use Rattle.std.specs.Prelude.{Contains, MatchOption}
use Rattle.std.proofs.lemmas.Option.{get_or_from_slice_get}
use Rattle.bl_syntax.specs.Grant.{GrantView}
use Rattle.pcfs_audit.specs.declared.supports.Support.{Support}
use Rattle.pcfs_audit.specs.Ends.{first_end}
use Rattle.issue_standings.specs.Index.{front_of}
use Rattle.pcfs_audit.specs.Papers.{shown}
use Rattle.pcfs_audit.specs.Supports.{IsFirstOf, supported}
use Rattle.pcfs_audit.proofs.SupportsLemmas.{length_set, supports_counted, supports_uncounted}
use Rattle.pcfs_audit.proofs.supports.count_issue.Goals as goal

pub returns-in-Some-clause-rows : goal.returns-in-Some-clause-rows
returns-in-Some-clause-rows c issues issue grant_is cited_is are =
    let grants = c.args.dossier.now.papers.grants.items in
    let ends = c.args.dossier.now.papers.ends.items in
    let rows = c.args.rows.now.items in
    let digest = c.front_of.ensures ∙ ap front_of c.tag-tag.ensures.same in
    let first : IsFirstOf (shown grants) c.args.grant.now c.in-Some.row =
    subst (λ (o : Option ℕ). MatchOption o (Contains (shown grants) c.args.grant.now → ⊥) (IsFirstOf (shown grants) c.args.grant.now)) c.in-Some.is (c.row_of.ensures digest) in
    let of_issue : IsFirstOf (shown grants) issue.grant c.in-Some.row = subst (λ (g : GrantView). IsFirstOf (shown grants) g c.in-Some.row) (sym grant_is) first in
    let end_is : c.first_end-end.result ≡ first_end ends issue.cited =
    c.first_end-end.ensures ∙ (ap (λ (es : List (Option ℕ)). first_end es c.args.cited.now) c.as_slice.ensures.value ∙ ap (first_end ends) (sym cited_is)) in
    supports_counted (shown grants) ends issues issue c.in-Some.row rows _ c.with_issue-support.result of_issue
    (λ support found. c.with_issue-support.ensures ∙ (ap (λ (s : Support). supported s c.first_end-end.result) (c.index.ensures ∙ get_or_from_slice_get rows c.in-Some.row support c.index.result.now found) ∙ ap (supported support) end_is)) refl are

pub returns-in-Some-clause-sized : goal.returns-in-Some-clause-sized
returns-in-Some-clause-sized c = length_set c.args.rows.now.items c.in-Some.row c.with_issue-support.result

pub returns-in_default-clause-rows : goal.returns-in_default-clause-rows
returns-in_default-clause-rows c issues issue grant_is cited_is are =
    let grants = c.args.dossier.now.papers.grants.items in
    let digest = c.front_of.ensures ∙ ap front_of c.tag-tag.ensures.same in
    let none : Contains (shown grants) c.args.grant.now → ⊥ =
    subst (λ (o : Option ℕ). MatchOption o (Contains (shown grants) c.args.grant.now → ⊥) (IsFirstOf (shown grants) c.args.grant.now)) c.in_default.is (c.row_of.ensures digest) in
    supports_uncounted (shown grants) c.args.dossier.now.papers.ends.items issues issue c.args.rows.now.items (λ here. none (subst (Contains (shown grants)) grant_is here)) are
