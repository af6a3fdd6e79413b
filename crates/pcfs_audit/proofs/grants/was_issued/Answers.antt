-- Its digest has no place, or a later one; or it is compared.
use Rattle.std.proofs.Common.{List, sym, ap, subst, take, ◌∙◌}
use Rattle.std.specs.Borrow.{Bor}
use Rattle.std.specs.Prelude.{Contains, IsTrue, ◌↔◌}
use Rattle.bl_syntax.specs.Grant.{GrantView}
use Rattle.pcfs_audit.specs.Firsts.{first_of, grant_digest}
use Rattle.pcfs_audit.specs.Papers.{shown}
use Rattle.pcfs_audit.proofs.CitesLemmas.{is_false}
use Rattle.pcfs_audit.proofs.FirstsLemmas.{among_shown, not_among_later, not_among_none}
use Rattle.pcfs_audit.proofs.grants.was_issued.Goals as goal

pub returns-in-None : goal.returns-in-None
returns-in-None c =
    is_false (not_among_none (grant_digest c.args.dossier.now.key) (shown c.args.dossier.now.papers.grants.items) c.args.dossier.now.grant_firsts.entries c.requires.dossier.grants_found c.args.grant.now c.args.earlier
    (ap (λ d. first_of c.args.dossier.now.grant_firsts.entries d) (sym c.requires.digest) ∙ sym c.first_place.ensures ∙ c.in-None.is))

pub returns-then-earlier-first : goal.returns-then-earlier-first
returns-then-earlier-first c =
    is_false (not_among_later (grant_digest c.args.dossier.now.key) (shown c.args.dossier.now.papers.grants.items) c.args.dossier.now.grant_firsts.entries c.requires.dossier.grants_found c.args.grant.now c.args.earlier c.in-Some.first
    (ap (λ d. first_of c.args.dossier.now.grant_firsts.entries d) (sym c.requires.digest) ∙ sym c.first_place.ensures ∙ c.in-Some.is) c.if-earlier-first.true)

pub returns : goal.returns
returns c =
    among_shown c.args.dossier.now.papers.grants.items c.args.earlier c.args.grant.now c.is_among.result
    (subst (λ (rs : List (Bor GrantView)). IsTrue c.is_among.result ↔ Contains (shown (take c.args.earlier rs)) c.args.grant.now) c.as_slice-grants.ensures.value c.is_among.ensures)
