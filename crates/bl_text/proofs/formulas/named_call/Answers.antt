-- The name, its arguments and the parenthesis after them, as far as they are there.
use Rattle.std.proofs.Common.{◌≡◌, Bool, sym, subst, arith, rules}
use Rattle.bl_syntax.specs.Formula.{formula_view}
use Rattle.bl_tokens.specs.declared.faults.TextFault.{TextFault}
use Rattle.bl_tokens.specs.declared.tokens.Cursor.{Cursor}
use Rattle.bl_tokens.specs.Tokens.{cursor_after, cursor_after_node}
use Rattle.bl_text.specs.Scope.{variables}
use Rattle.bl_text.specs.Grammar.{AreArguments, call}
use Rattle.bl_text.specs.FirstFaults.{ArgumentsHaveFirstFault, no_memory_for_arguments, CallHasFirstFault, at_name, in_arguments, before_close, by_sorts}
use Rattle.bl_text.proofs.ReadLemmas.{passed}
use Rattle.bl_text.proofs.ReportsFaultLemmas.{refused_or_read}
use Rattle.bl_text.proofs.formulas.named_call.Goals as goal

pub returns-in_err-count-clause-fault : goal.returns-in_err-count-clause-fault
returns-in_err-count-clause-fault c = passed c.from_residual.result c.in_err-count.field-0.0 _ (search rules) (at_name _ (sym c.in_err-count.ensures.value))

pub returns-in_err-terms-clause-fault : goal.returns-in_err-terms-clause-fault
returns-in_err-terms-clause-fault c =
    let place : c.cursor_after.result ≡ cursor_after c.args.text.now (cursor_after_node c.args.text.now c.args.here.now) = search rules in
    let stop = subst (λ (p : Cursor). ArgumentsHaveFirstFault c.args.text.now c.args.in_statement (variables c.args.scope.now) c.is_atom.result p c.in_err-terms.field-0.0) place c.in_err-terms.ensures.fault in
    let stop' = subst (λ (b : Bool). ArgumentsHaveFirstFault c.args.text.now c.args.in_statement (variables c.args.scope.now) b (cursor_after c.args.text.now (cursor_after_node c.args.text.now c.args.here.now)) c.in_err-terms.field-0.0) c.is_atom.ensures stop in
    passed c.from_residual-in_err-terms.result c.in_err-terms.field-0.0 _ (search rules) (in_arguments c.args.name.now _ c.requires.name (sym c.in_ok-count.ensures.value) stop')

pub returns-in_err-there-clause-fault : goal.returns-in_err-there-clause-fault
returns-in_err-there-clause-fault c =
    let terms = c.in_ok-terms.terms in
    let mid = c.in_ok-terms.mid in
    let place : c.cursor_after.result ≡ cursor_after c.args.text.now (cursor_after_node c.args.text.now c.args.here.now) = search rules in
    let read = subst (λ (p : Cursor). AreArguments c.args.text.now c.args.in_statement (variables c.args.scope.now) c.is_atom.result p mid terms) place c.in_ok-terms.ensures.read.are_arguments in
    let read' = subst (λ (b : Bool). AreArguments c.args.text.now c.args.in_statement (variables c.args.scope.now) b (cursor_after c.args.text.now (cursor_after_node c.args.text.now c.args.here.now)) mid terms) c.is_atom.ensures read in
    passed c.from_residual-in_err-there.result c.in_err-there.field-0.0 _ (search rules)
    (before_close c.args.name.now mid terms _ c.requires.name (sym c.in_ok-count.ensures.value) read' c.in_ok-terms.ensures.read.ended (sym c.in_err-there.ensures.value))

pub returns-in_err-f-clause-fault : goal.returns-in_err-f-clause-fault
returns-in_err-f-clause-fault c =
    let terms = c.in_ok-terms.terms in
    let mid = c.in_ok-terms.mid in
    let place : c.cursor_after.result ≡ cursor_after c.args.text.now (cursor_after_node c.args.text.now c.args.here.now) = search rules in
    let read = subst (λ (p : Cursor). AreArguments c.args.text.now c.args.in_statement (variables c.args.scope.now) c.is_atom.result p mid terms) place c.in_ok-terms.ensures.read.are_arguments in
    let read' = subst (λ (b : Bool). AreArguments c.args.text.now c.args.in_statement (variables c.args.scope.now) b (cursor_after c.args.text.now (cursor_after_node c.args.text.now c.args.here.now)) mid terms) c.is_atom.ensures read in
    passed c.from_residual-in_err-f.result c.in_err-f.field-0.0 _ (search rules)
    (refused_or_read _ _ c.in_err-f.ensures
    (λ refused. subst (λ (e : TextFault). CallHasFirstFault c.args.text.now c.args.in_statement (variables c.args.scope.now) c.args.here.now e) (sym refused)
    (in_arguments c.args.name.now _ c.requires.name (sym c.in_ok-count.ensures.value) no_memory_for_arguments))
    (λ is. by_sorts c.args.name.now mid c.in_ok-there.there terms _ c.requires.name (sym c.in_ok-count.ensures.value) read' (sym c.in_ok-there.ensures.value) is))

pub returns-clause-read : goal.returns-clause-read
returns-clause-read c =
    let terms = c.in_ok-terms.terms in
    let mid = c.in_ok-terms.mid in
    let place : c.cursor_after.result ≡ cursor_after c.args.text.now (cursor_after_node c.args.text.now c.args.here.now) = search rules in
    let read = subst (λ (p : Cursor). AreArguments c.args.text.now c.args.in_statement (variables c.args.scope.now) c.is_atom.result p mid terms) place c.in_ok-terms.ensures.read.are_arguments in
    let read' = subst (λ (b : Bool). AreArguments c.args.text.now c.args.in_statement (variables c.args.scope.now) b (cursor_after c.args.text.now (cursor_after_node c.args.text.now c.args.here.now)) mid terms) c.is_atom.ensures read in
    record {
      is_call = call c.args.name.now mid c.in_ok-there.there terms (formula_view c.in_ok-f.f.value) c.requires.name (sym c.in_ok-count.ensures.value) read' (sym c.in_ok-there.ensures.value) c.in_ok-f.ensures;
      left = omega (arith, c.in_ok-terms.ensures.read.left, c.in_ok-there.ensures.left);
      within = c.in_ok-there.ensures.within;
    }
