-- The tag, and then the terms.
use Rattle.std.proofs.Common.{◌≡◌, ◌∙◌, ap, sym, subst, ℕ, List, [], ◌∷◌, ◌++◌}
use Rattle.std.proofs.Common.{Option}
use Rattle.bl_syntax.specs.declared.terms.Term.{Term}
use Rattle.bl_syntax.specs.declared.terms.StatePred.{StatePred}
use Rattle.bl_syntax.specs.declared.terms.StatePred.TheVariants.{Owner, HasXattr, InDir}
use Rattle.bl_syntax.specs.Spelling.{term_spelling}
use Rattle.bl_syntax.specs.FormulaSpelling.{state_spelling}
use Rattle.record_parts.specs.Fronts.{after, Gives}
use Rattle.record_parts.proofs.FrontLemmas.{fronts, none_after, some_after, then_after}
use Rattle.record_parts.proofs.grant_matching.after_state.Goals as goal

-- by the state's spelling
spelled_some : {X : Type 0} (view : X → List ℕ) (result : Option X) (s : StatePred) (front bytes : List ℕ) → state_spelling s ≡ front → Gives view result (after front bytes) → Gives view result (after (state_spelling s) bytes)
spelled_some view result s front bytes is gives = subst (λ (f : List ℕ). Gives view result (after f bytes)) (sym is) gives

owner_is : (s : StatePred) (file owner : Term) → s ≡ Owner file owner → state_spelling s ≡ (18 ∷ []) ++ (term_spelling file ++ term_spelling owner)
unfolding state_spelling
owner_is s file owner is = ap state_spelling is

attribute_is : (s : StatePred) (file name value : Term) → s ≡ HasXattr file name value → state_spelling s ≡ (19 ∷ []) ++ (term_spelling file ++ (term_spelling name ++ term_spelling value))
unfolding state_spelling
attribute_is s file name value is = ap state_spelling is

directory_is : (s : StatePred) (file directory : Term) → s ≡ InDir file directory → state_spelling s ≡ (20 ∷ []) ++ (term_spelling file ++ term_spelling directory)
unfolding state_spelling
directory_is s file directory is = ap state_spelling is

pub returns-in-None-clause-rest : goal.returns-in-None-clause-rest
returns-in-None-clause-rest c =
    let file = c.in-Owner.file in let owner = c.in-Owner.owner in
    ap (λ (f : List ℕ). after f c.args.bytes.now) (owner_is c.args.s.now file owner c.in-Owner.is) ∙ none_after (18 ∷ []) (term_spelling file ++ term_spelling owner) c.args.bytes.now c.in-None.ensures

pub returns-in-Some-clause-rest : goal.returns-in-Some-clause-rest
returns-in-Some-clause-rest c =
    let file = c.in-Owner.file in let owner = c.in-Owner.owner in
    spelled_some _ c.after_two_terms.result c.args.s.now _ c.args.bytes.now (owner_is c.args.s.now file owner c.in-Owner.is)
    (some_after _ (18 ∷ []) (term_spelling file ++ term_spelling owner) c.args.bytes.now c.in-Some.rest.now c.after_two_terms.result c.in-Some.ensures c.after_two_terms.ensures.rest)

pub returns-in-None-after_bytes-clause-rest : goal.returns-in-None-after_bytes-clause-rest
returns-in-None-after_bytes-clause-rest c =
    let file = c.in-HasXattr.file in let others = term_spelling c.in-HasXattr.name ++ term_spelling c.in-HasXattr.value in
    ap (λ (f : List ℕ). after f c.args.bytes.now) (attribute_is c.args.s.now file c.in-HasXattr.name c.in-HasXattr.value c.in-HasXattr.is) ∙ none_after (19 ∷ []) (term_spelling file ++ others) c.args.bytes.now c.in-None-after_bytes.ensures

pub returns-in-None-after_term-clause-rest : goal.returns-in-None-after_term-clause-rest
returns-in-None-after_term-clause-rest c =
    let file = c.in-HasXattr.file in let others = term_spelling c.in-HasXattr.name ++ term_spelling c.in-HasXattr.value in
    ap (λ (f : List ℕ). after f c.args.bytes.now) (attribute_is c.args.s.now file c.in-HasXattr.name c.in-HasXattr.value c.in-HasXattr.is)
    ∙ (fronts (19 ∷ []) (term_spelling file ++ others) c.args.bytes.now ∙ (ap (then_after (term_spelling file ++ others)) c.in-Some-after_bytes.ensures ∙ none_after (term_spelling file) others c.in-Some-after_bytes.rest.now c.in-None-after_term.ensures.rest))

pub returns-in-Some-after_term-clause-rest : goal.returns-in-Some-after_term-clause-rest
returns-in-Some-after_term-clause-rest c =
    let file = c.in-HasXattr.file in let others = term_spelling c.in-HasXattr.name ++ term_spelling c.in-HasXattr.value in
    let result = c.after_two_terms-in-Some-after_term.result in
    spelled_some _ result c.args.s.now _ c.args.bytes.now (attribute_is c.args.s.now file c.in-HasXattr.name c.in-HasXattr.value c.in-HasXattr.is)
    (some_after _ (19 ∷ []) (term_spelling file ++ others) c.args.bytes.now c.in-Some-after_bytes.rest.now result c.in-Some-after_bytes.ensures
    (some_after _ (term_spelling file) others c.in-Some-after_bytes.rest.now c.in-Some-after_term.rest.now result c.in-Some-after_term.ensures.rest c.after_two_terms-in-Some-after_term.ensures.rest))

pub returns-in-None-after_bytes-2-clause-rest : goal.returns-in-None-after_bytes-2-clause-rest
returns-in-None-after_bytes-2-clause-rest c =
    let file = c.in-InDir.file in let directory = c.in-InDir.directory in
    ap (λ (f : List ℕ). after f c.args.bytes.now) (directory_is c.args.s.now file directory c.in-InDir.is) ∙ none_after (20 ∷ []) (term_spelling file ++ term_spelling directory) c.args.bytes.now c.in-None-after_bytes-2.ensures

pub returns-in-Some-after_bytes-2-clause-rest : goal.returns-in-Some-after_bytes-2-clause-rest
returns-in-Some-after_bytes-2-clause-rest c =
    let file = c.in-InDir.file in let directory = c.in-InDir.directory in
    spelled_some _ c.after_two_terms-in-Some-after_bytes-2.result c.args.s.now _ c.args.bytes.now (directory_is c.args.s.now file directory c.in-InDir.is)
    (some_after _ (20 ∷ []) (term_spelling file ++ term_spelling directory) c.args.bytes.now c.in-Some-after_bytes-2.rest.now c.after_two_terms-in-Some-after_bytes-2.result c.in-Some-after_bytes-2.ensures c.after_two_terms-in-Some-after_bytes-2.ensures.rest)
