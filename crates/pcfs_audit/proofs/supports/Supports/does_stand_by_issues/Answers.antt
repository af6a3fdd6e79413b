-- The grant is none of all, or its support tells.
use Rattle.std.proofs.Common.{Option, ap, refl, subst, ◌∙◌, ℕ}
use Rattle.std.specs.Prelude.{Contains, MatchOption}
use Rattle.issue_standings.specs.Index.{front_of}
use Rattle.pcfs_audit.specs.Papers.{shown}
use Rattle.pcfs_audit.specs.Supports.{IsFirstOf}
use Rattle.pcfs_audit.proofs.SupportsLemmas.{stands_by_row, stands_unissued}
use Rattle.pcfs_audit.proofs.supports.Supports.does_stand_by_issues.Goals as goal

pub returns-in-None : goal.returns-in-None
returns-in-None c state told genuine =
    let grants = c.args.dossier.now.papers.grants.items in
    let g = c.args.procap.now.grant in
    let digest = c.front_of.ensures ∙ ap front_of genuine in
    let none : Contains (shown grants) g → ⊥ = subst (λ (o : Option ℕ). MatchOption o (Contains (shown grants) g → ⊥) (IsFirstOf (shown grants) g)) c.in-None.is (c.row_of.ensures digest) in
    (λ yes. stands_unissued c.args.dossier.now c.args.self.now state g none told, λ stands. refl)

pub returns-in-Some : goal.returns-in-Some
returns-in-Some c state told genuine =
    let grants = c.args.dossier.now.papers.grants.items in
    let g = c.args.procap.now.grant in
    let digest = c.front_of.ensures ∙ ap front_of genuine in
    let first : IsFirstOf (shown grants) g c.in-Some.row = subst (λ (o : Option ℕ). MatchOption o (Contains (shown grants) g → ⊥) (IsFirstOf (shown grants) g)) c.in-Some.is (c.row_of.ensures digest) in
    stands_by_row c.args.dossier.now c.args.self.now state g c.in-Some.row c.has_support.result c.requires.ended first c.has_support.ensures told
