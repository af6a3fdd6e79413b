-- The reading goes on after the tag and the rule, or fails as these fail.
use Rattle.std.proofs.Common.{sym, subst}
use Rattle.proof_term.specs.Proof.{proof_view}
use Rattle.proof_term.specs.RuleKinds.{plain_rule, termed_rule}
use Rattle.proof_term.specs.ProofReading.{ProofReading, GivesProofReading, proof_at}
use Rattle.proof_term.proofs.ReadingLemmas.{Fails-root, Fails-behind, behind-ok, proof_at-is}
use Rattle.proof_term.proofs.reading.+proofs.Goals as goal

pub plain_at-returns-in-Ok : goal.plain_at-returns-in-Ok
plain_at-returns-in-Ok t c =
    let is = behind-ok (λ left more. proof_at c.args.levels left c.args.input more) c.args.nodes c.args.input c.args.start c.args.tag c.args.rest.now c.in-Ok.behind.now (plain_rule c.in-Ok.rule) (c.in-Ok.ensures c.args.input) in
    subst (λ (r : ProofReading). GivesProofReading (λ x. (proof_view x.0.value, (x.1, x.2.now))) c.plain_premises_at.result r) (sym is) c.plain_premises_at.ensures

pub plain_at-returns-in-Err : goal.plain_at-returns-in-Err
plain_at-returns-in-Err t c = Fails-behind (λ left more. proof_at c.args.levels left c.args.input more) c.args.nodes c.args.input c.args.start c.args.tag c.args.rest.now c.in-Err.fault (c.in-Err.ensures c.args.input)

pub termed_at-returns-in-Ok : goal.termed_at-returns-in-Ok
termed_at-returns-in-Ok t c =
    let is = behind-ok (λ left more. proof_at c.args.levels left c.args.input more) c.args.nodes c.args.input c.args.start c.args.tag c.args.rest.now c.in-Ok.behind.now (termed_rule c.termed_rule_into.new.rule) (c.in-Ok.ensures c.args.start) in
    subst (λ (r : ProofReading). GivesProofReading (λ x. (proof_view x.0.value, (x.1, x.2.now))) c.termed_premises_at.result r) (sym is) c.termed_premises_at.ensures

pub termed_at-returns-in-Err : goal.termed_at-returns-in-Err
termed_at-returns-in-Err t c = Fails-behind (λ left more. proof_at c.args.levels left c.args.input more) c.args.nodes c.args.input c.args.start c.args.tag c.args.rest.now c.in-Err.fault (c.in-Err.ensures c.args.start)

pub proof_at-returns-then-has_terms : goal.proof_at-returns-then-has_terms
proof_at-returns-then-has_terms t c =
    let is = proof_at-is c.args.levels c.args.nodes c.args.input c.place-start.result c.in-Ok.tag c.args.bytes.now c.in-Ok.rest.now c.in-Ok.ensures.room.0 c.place-start.ensures c.in-Ok.ensures.found in
    subst (λ (r : ProofReading). GivesProofReading (λ x. (proof_view x.0.value, (x.1, x.2.now))) c.termed_at.result r) (sym is) c.termed_at.ensures

pub proof_at-returns-else-has_terms : goal.proof_at-returns-else-has_terms
proof_at-returns-else-has_terms t c =
    let is = proof_at-is c.args.levels c.args.nodes c.args.input c.place-start.result c.in-Ok.tag c.args.bytes.now c.in-Ok.rest.now c.in-Ok.ensures.room.0 c.place-start.ensures c.in-Ok.ensures.found in
    subst (λ (r : ProofReading). GivesProofReading (λ x. (proof_view x.0.value, (x.1, x.2.now))) c.plain_at.result r) (sym is) c.plain_at.ensures

pub proof_at-returns-in-Err : goal.proof_at-returns-in-Err
proof_at-returns-in-Err t c = Fails-root c.args.levels c.args.nodes c.args.input c.args.bytes.now c.in-Err.fault c.in-Err.ensures.fault
