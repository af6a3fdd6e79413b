-- Its digest has no place, or a later one; or it is compared.
use Rattle.std.proofs.Common.{refl, sym, ap, ◌∙◌}
use Rattle.policy_statement.specs.Digest.{digest_of}
use Rattle.pcfs_audit.specs.Firsts.{first_of}
use Rattle.pcfs_audit.specs.Papers.{shown}
use Rattle.pcfs_audit.proofs.FirstsLemmas.{among_shown, negated, not_among_later, not_among_none}
use Rattle.pcfs_audit.proofs.statements.is_new.Goals as goal

pub returns-in-None : goal.returns-in-None
returns-in-None c = (
  λ yes. not_among_none digest_of (shown c.args.statements.now) c.args.firsts.now.entries c.requires.found c.args.statement.now c.args.earlier
      (ap (λ d. first_of c.args.firsts.now.entries d) (sym c.digest.ensures) ∙ sym c.first_place.ensures ∙ c.in-None.is),
  λ none. refl,
)

pub returns-then-earlier-first : goal.returns-then-earlier-first
returns-then-earlier-first c = (
  λ yes. not_among_later digest_of (shown c.args.statements.now) c.args.firsts.now.entries c.requires.found c.args.statement.now c.args.earlier c.in-Some.first
      (ap (λ d. first_of c.args.firsts.now.entries d) (sym c.digest.ensures) ∙ sym c.first_place.ensures ∙ c.in-Some.is) c.if-earlier-first.true,
  λ none. refl,
)

pub returns : goal.returns
returns c = negated c.is_among.result (among_shown c.args.statements.now c.args.earlier c.args.statement.now c.is_among.result c.is_among.ensures)
