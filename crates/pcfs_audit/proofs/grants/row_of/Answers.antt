-- Its digest has no place, or one beyond all; or the grant there is compared.
use Rattle.std.proofs.Common.{List, ap, arith, length, map, sym, subst, ◌∙◌}
use Rattle.std.specs.Borrow.{Bor}
use Rattle.std.specs.Prelude.{Contains, MatchOption}
use Rattle.bl_syntax.specs.Grant.{GrantView}
use Rattle.op_gate.proofs.CheckLemmas.{is_so}
use Rattle.pcfs_audit.specs.Firsts.{AreFirsts, first_of, grant_digest}
use Rattle.pcfs_audit.specs.Papers.{shown}
use Rattle.pcfs_audit.specs.Supports.{IsFirstOf}
use Rattle.pcfs_audit.proofs.FirstsLemmas.{first_entered, not_any_beyond, not_any_none}
use Rattle.pcfs_audit.proofs.ReferenceLemmas.{length-shown}
use Rattle.pcfs_audit.proofs.grants.row_of.Goals as goal

pub returns-in-None : goal.returns-in-None
returns-in-None c digest =
    not_any_none (grant_digest c.args.dossier.now.key) (shown c.args.dossier.now.papers.grants.items) c.args.dossier.now.grant_firsts.entries c.requires.grants_found c.args.grant.now
    (ap (λ d. first_of c.args.dossier.now.grant_firsts.entries d) (sym digest) ∙ sym c.first_place.ensures ∙ c.in-None.is)

pub returns-then-grants-first : goal.returns-then-grants-first
returns-then-grants-first c digest =
    not_any_beyond (grant_digest c.args.dossier.now.key) (shown c.args.dossier.now.papers.grants.items) c.args.dossier.now.grant_firsts.entries c.requires.grants_found c.args.grant.now c.in-Some.first
    (ap (λ d. first_of c.args.dossier.now.grant_firsts.entries d) (sym digest) ∙ sym c.first_place.ensures ∙ c.in-Some.is)
    (omega (arith, c.if-grants-first.true, ap length c.as_slice-grants.ensures.value, length-shown c.args.dossier.now.papers.grants.items))

pub returns-then-is_same : goal.returns-then-is_same
returns-then-is_same c digest =
    let found = ap (λ d. first_of c.args.dossier.now.grant_firsts.entries d) (sym digest) ∙ sym c.first_place.ensures ∙ c.in-Some.is in
    let first = first_entered (grant_digest c.args.dossier.now.key) c.as_slice-grants.result.now c.args.dossier.now.grant_firsts.entries c.in-Some.first c.index-grants-first.result c.args.grant.now
    (subst (λ (rs : List (Bor GrantView)). AreFirsts (map (grant_digest c.args.dossier.now.key) (shown rs)) c.args.dossier.now.grant_firsts.entries) (sym c.as_slice-grants.ensures.value) c.requires.grants_found) found (omega (arith, c.if-grants-first.false)) c.index-grants-first.is (is_so _ _ c.is_same.ensures.decides c.if-is_same.true) in
    subst (λ (rs : List (Bor GrantView)). IsFirstOf (shown rs) c.args.grant.now c.in-Some.first) c.as_slice-grants.ensures.value first

pub returns : goal.returns
returns c digest =
    subst (λ (rs : List (Bor GrantView)). MatchOption c.find_among.result (Contains (shown rs) c.args.grant.now → ⊥) (IsFirstOf (shown rs) c.args.grant.now)) c.as_slice-grants.ensures.value c.find_among.ensures
