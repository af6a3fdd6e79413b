-- The rule is read, and then its premises with the signs after them.
use Rattle.std.proofs.Common.{◌≡◌, Ok, sym, ap, ◌∙◌, subst, rules}
use Rattle.bl_tokens.specs.declared.faults.TextFault.TheVariants.{NoMemory}
use Rattle.bl_text.proofs.ReadLemmas.{passed}
use Rattle.proof_term.specs.declared.rule.Rule.TheVariants as rule
use Rattle.proof_term.specs.Proof.{proof_view}
use Rattle.proof_term.specs.Rules.{by_two}
use Rattle.proof_text.specs.Heads.{head}
use Rattle.proof_text.specs.Read.{IsRuleInRange}
use Rattle.proof_text.specs.FirstFaults.{no_memory, in_head, in_premise, behind_premise, in_first, behind_first, in_second, behind_second}
use Rattle.proof_text.proofs.ReadLemmas.{Enters, read_axiom, read_one, read_two}
use Rattle.proof_text.proofs.parse.+proof_at.Goals as goal

pub returns-in_err-rule-clause-fault : goal.returns-in_err-rule-clause-fault
returns-in_err-rule-clause-fault t c =
    passed c.from_residual.result c.in_err-rule.field-0.0 _ (search rules)
    (in_head _ _ _ (sym c.in_err-rule.ensures.value))

pub returns-in_err-axiom_of-in-Axiom-clause-fault : goal.returns-in_err-axiom_of-in-Axiom-clause-fault
returns-in_err-axiom_of-in-Axiom-clause-fault t c =
    passed c.from_residual-in_err-axiom_of-in-Axiom.result NoMemory _ (search rules)
    (no_memory _ _)

pub returns-in_err-p-in-One-clause-fault : goal.returns-in_err-p-in-One-clause-fault
returns-in_err-p-in-One-clause-fault t c =
    let h : head c.args.text.now c.args.levels c.args.here ≡ Ok (rule.One c.in-One.r, c.in_ok-rule.first) = sym c.in_ok-rule.ensures.value ∙ ap (λ r. Ok (r, c.in_ok-rule.first)) c.in-One.is in
    passed c.from_residual-in_err-p-in-One.result c.in_err-p-in-One.field-0.0 _ (search rules)
    (in_premise _ _ _ c.in-One.r _ h c.in_err-p-in-One.ensures.fault)

pub returns-in_err-made-in-One-clause-fault : goal.returns-in_err-made-in-One-clause-fault
returns-in_err-made-in-One-clause-fault t c =
    passed c.from_residual-in_err-made-in-One.result NoMemory _ (search rules)
    (no_memory _ _)

pub returns-in_err-read-in-One-clause-fault : goal.returns-in_err-read-in-One-clause-fault
returns-in_err-read-in-One-clause-fault t c =
    let h : head c.args.text.now c.args.levels c.args.here ≡ Ok (rule.One c.in-One.r, c.in_ok-rule.first) = sym c.in_ok-rule.ensures.value ∙ ap (λ r. Ok (r, c.in_ok-rule.first)) c.in-One.is in
    passed c.from_residual-in_err-read-in-One.result c.in_err-read-in-One.field-0.0 _ (search rules)
    (behind_premise _ _ _ _ c.in-One.r _ _ h c.in_ok-p-in-One.ensures.read.is_text c.in_err-read-in-One.ensures.value)

pub returns-in_err-p-in-Two-clause-fault : goal.returns-in_err-p-in-Two-clause-fault
returns-in_err-p-in-Two-clause-fault t c =
    let h : head c.args.text.now c.args.levels c.args.here ≡ Ok (rule.Two c.in-Two.r, c.in_ok-rule.first) = sym c.in_ok-rule.ensures.value ∙ ap (λ r. Ok (r, c.in_ok-rule.first)) c.in-Two.is in
    passed c.from_residual-in_err-p-in-Two.result c.in_err-p-in-Two.field-0.0 _ (search rules)
    (in_first _ _ _ c.in-Two.r _ h c.in_err-p-in-Two.ensures.fault)

pub returns-in_err-kept-in-Two-clause-fault : goal.returns-in_err-kept-in-Two-clause-fault
returns-in_err-kept-in-Two-clause-fault t c =
    let h : head c.args.text.now c.args.levels c.args.here ≡ Ok (rule.Two c.in-Two.r, c.in_ok-rule.first) = sym c.in_ok-rule.ensures.value ∙ ap (λ r. Ok (r, c.in_ok-rule.first)) c.in-Two.is in
    passed c.from_residual-in_err-kept-in-Two.result c.in_err-kept-in-Two.field-0.0 _ (search rules)
    (behind_first _ _ _ _ c.in-Two.r _ _ h c.in_ok-p-in-Two.ensures.read.is_text c.in_err-kept-in-Two.ensures.value)

pub returns-in-Err-clause-fault : goal.returns-in-Err-clause-fault
returns-in-Err-clause-fault t c =
    let h : head c.args.text.now c.args.levels c.args.here ≡ Ok (rule.Two c.in-Two.r, c.in_ok-rule.first) = sym c.in_ok-rule.ensures.value ∙ ap (λ r. Ok (r, c.in_ok-rule.first)) c.in-Two.is in
    passed c.refuse.result c.in-Err.fault _ c.refuse.ensures
    (in_second _ _ _ _ _ c.in-Two.r _ _ h c.in_ok-p-in-Two.ensures.read.is_text c.in_ok-kept-in-Two.ensures.value c.in-Err.ensures.fault)

pub returns-in_err-made-in-Ok-clause-fault : goal.returns-in_err-made-in-Ok-clause-fault
returns-in_err-made-in-Ok-clause-fault t c =
    passed c.from_residual-in_err-made-in-Ok.result NoMemory _ (search rules)
    (no_memory _ _)

pub returns-in_err-read-in-Ok-clause-fault : goal.returns-in_err-read-in-Ok-clause-fault
returns-in_err-read-in-Ok-clause-fault t c =
    let h : head c.args.text.now c.args.levels c.args.here ≡ Ok (rule.Two c.in-Two.r, c.in_ok-rule.first) = sym c.in_ok-rule.ensures.value ∙ ap (λ r. Ok (r, c.in_ok-rule.first)) c.in-Two.is in
    passed c.from_residual-in_err-read-in-Ok.result c.in_err-read-in-Ok.field-0.0 _ (search rules)
    (behind_second _ _ _ _ _ _ c.in-Two.r _ _ _ h c.in_ok-p-in-Two.ensures.read.is_text c.in_ok-kept-in-Two.ensures.value c.in-Ok.ensures.read.is_text c.in_err-read-in-Ok.ensures.value)

pub returns-in_ok-axiom_of-in-Axiom-clause-read : goal.returns-in_ok-axiom_of-in-Axiom-clause-read
returns-in_ok-axiom_of-in-Axiom-clause-read t c =
    let h : head c.args.text.now c.args.levels c.args.here ≡ Ok (rule.Axiom c.in-Axiom.r, c.in_ok-rule.first) = sym c.in_ok-rule.ensures.value ∙ ap (λ r. Ok (r, c.in_ok-rule.first)) c.in-Axiom.is in
    let enters : Enters c.args.text.now c.args.levels c.args.here c.in_ok-rule.first = record { within = c.in_ok-rule.ensures.within; left = c.in_ok-rule.ensures.left; some = c.in_ok-rule.ensures.some } in
    read_axiom enters h c.in_ok-axiom_of-in-Axiom.ensures

pub returns-in_ok-read-in-One-clause-read : goal.returns-in_ok-read-in-One-clause-read
returns-in_ok-read-in-One-clause-read t c =
    let h : head c.args.text.now c.args.levels c.args.here ≡ Ok (rule.One c.in-One.r, c.in_ok-rule.first) = sym c.in_ok-rule.ensures.value ∙ ap (λ r. Ok (r, c.in_ok-rule.first)) c.in-One.is in
    let enters : Enters c.args.text.now c.args.levels c.args.here c.in_ok-rule.first = record { within = c.in_ok-rule.ensures.within; left = c.in_ok-rule.ensures.left; some = c.in_ok-rule.ensures.some } in
    read_one enters h (subst IsRuleInRange c.in-One.is c.in_ok-rule.ensures.ranged) c.in_ok-p-in-One.ensures.read c.in_ok-read-in-One.ensures.value c.in_ok-read-in-One.ensures.within c.in_ok-read-in-One.ensures.left
    (c.in_ok-read-in-One.ensures.same ∙ c.in_ok-made-in-One.ensures)

pub returns-in_ok-read-in-Ok-clause-read : goal.returns-in_ok-read-in-Ok-clause-read
returns-in_ok-read-in-Ok-clause-read t c =
    let h : head c.args.text.now c.args.levels c.args.here ≡ Ok (rule.Two c.in-Two.r, c.in_ok-rule.first) = sym c.in_ok-rule.ensures.value ∙ ap (λ r. Ok (r, c.in_ok-rule.first)) c.in-Two.is in
    let enters : Enters c.args.text.now c.args.levels c.args.here c.in_ok-rule.first = record { within = c.in_ok-rule.ensures.within; left = c.in_ok-rule.ensures.left; some = c.in_ok-rule.ensures.some } in
    read_two enters h (subst IsRuleInRange c.in-Two.is c.in_ok-rule.ensures.ranged) c.in_ok-p-in-Two.ensures.read c.in_ok-kept-in-Two.ensures.value c.in_ok-kept-in-Two.ensures.left
    c.in-Ok.ensures.read c.in_ok-read-in-Ok.ensures.value c.in_ok-read-in-Ok.ensures.within c.in_ok-read-in-Ok.ensures.left
    (c.in_ok-read-in-Ok.ensures.same ∙ c.in_ok-made-in-Ok.ensures ∙ ap (λ d. by_two c.in-Two.r d (proof_view c.in-Ok.q.value)) c.in_ok-kept-in-Two.ensures.same)
