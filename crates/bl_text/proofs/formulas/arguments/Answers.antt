-- Each term that is read stands after those before it.
use Rattle.std.proofs.Common.{◌≡◌, List, [], ◌∷◌, ◌++◌, length, Ok, sym, ap, ◌∙◌, arith, rules, Result}
use Rattle.bl_syntax.specs.declared.terms.Term.{Term}
use Rattle.bl_tokens.specs.declared.faults.TextFault.{TextFault}
use Rattle.bl_tokens.specs.declared.tokens.Sign.TheVariants.{Comma}
use Rattle.bl_text.specs.Pieces.{expect_sign, next_argument}
use Rattle.bl_text.specs.Scope.{variables}
use Rattle.bl_text.specs.Grammar.{one, further}
use Rattle.bl_text.specs.FirstFaults.{no_memory_for_arguments, in_first_argument, in_argument}
use Rattle.bl_text.proofs.ReadLemmas.{passed, expected-Ok, arguments_at}
use Rattle.bl_text.proofs.formulas.arguments.Goals as goal

pub returns-in_err-first-clause-fault : goal.returns-in_err-first-clause-fault
returns-in_err-first-clause-fault c = passed c.from_residual.result c.in_err-first.field-0.0 _ (search rules) (in_first_argument _ (sym c.in_err-first.ensures.value))

pub returns-in_err-extend-clause-fault : goal.returns-in_err-extend-clause-fault
returns-in_err-extend-clause-fault c = passed c.from_residual-in_err-extend.result TextFault.NoMemory _ (search rules) no_memory_for_arguments

pub returns-in_err-extend-2-clause-fault : goal.returns-in_err-extend-2-clause-fault
returns-in_err-extend-2-clause-fault c = passed c.from_residual-in_err-extend-2.result TextFault.NoMemory _ (search rules) no_memory_for_arguments

pub further-init : goal.further-init
further-init c =
    let t = c.in_ok-first.first in
    let terms : c.extend.new.self ≡ t ∷ [] = c.in_ok-extend.ensures.ok ∙ ap (λ (ts : List Term). ts ++ t ∷ []) c.new-terms.ensures in
    record {
      are_arguments = arguments_at c.cursor_after_node-there.ensures.same terms (one t (sym c.in_ok-first.ensures.value));
      left = omega (arith, c.cursor_after_node-there.ensures.left, c.in_ok-first.ensures.some);
      within = c.cursor_after_node-there.ensures.within;
    }

pub returns-in_err-next-clause-fault : goal.returns-in_err-next-clause-fault
returns-in_err-next-clause-fault c =
    let l = c.further in
    let comma : expect_sign c.args.text.now Comma l.there ≡ Ok c.cursor_after-place.result = expected-Ok c.args.text.now Comma l.there (search rules) ∙ ap Ok (sym c.cursor_after-place.ensures.same) in
    let stops : next_argument c.args.in_statement (variables c.args.scope.now) c.args.is_atom (length l.terms) c.cursor_after-place.result ≡ Result.Err c.in_err-next.field-0.0 = search rules in
    passed c.from_residual-in_err-next.result c.in_err-next.field-0.0 _ (search rules) (in_argument l.there c.cursor_after-place.result l.terms _ l.invariant.are_arguments comma stops)

pub further-preserved : goal.further-preserved
further-preserved c =
    let l = c.further in
    let t = c.in_ok-next.next in
    let comma : expect_sign c.args.text.now Comma l.there ≡ Ok c.cursor_after-place.result = expected-Ok c.args.text.now Comma l.there (search rules) ∙ ap Ok (sym c.cursor_after-place.ensures.same) in
    let next : next_argument c.args.in_statement (variables c.args.scope.now) c.args.is_atom (length l.terms) c.cursor_after-place.result ≡ Ok t = search rules in
    let terms : c.extend-in-further.new.self ≡ l.terms ++ t ∷ [] = search rules in
    record {
      are_arguments = arguments_at c.cursor_after_node-there-in-further.ensures.same terms (further l.there c.cursor_after-place.result l.terms t l.invariant.are_arguments comma next);
      left = omega arith;
      within = c.cursor_after_node-there-in-further.ensures.within;
    }
