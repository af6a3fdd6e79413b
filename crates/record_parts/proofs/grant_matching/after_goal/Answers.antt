-- The name with its length, and then the file and the permission.
use Rattle.std.proofs.Common.{◌∙◌, ap, ℕ, List, [], ◌∷◌, ◌++◌, subst, sym, arith}
use Rattle.std.specs.Int.{w64, to_be_bytes}
use Rattle.bl_syntax.specs.Spelling.{permission_code, with_length}
use Rattle.bl_syntax.proofs.WordLemmas.{short_name}
use Rattle.procap.specs.GrantSpelling.{goal_spelling}
use Rattle.record_parts.specs.Fronts.{after, Gives}
use Rattle.record_parts.proofs.FrontLemmas.{none_after, some_after}
use Rattle.record_parts.proofs.grant_matching.after_goal.Goals as goal

pub overflow_cast-name : goal.overflow_cast-name
overflow_cast-name c = record { fits = omega (arith, (short_name c.bytes-name.result.now (rw c.bytes-name.ensures.same c.bytes-name.ensures.named)).not_above) }

pub returns-in-None-clause-rest : goal.returns-in-None-clause-rest
unfolding goal_spelling
returns-in-None-clause-rest c =
    let goal = c.args.goal.now in
    none_after (with_length goal.who) (to_be_bytes w64 goal.file.0 ++ permission_code goal.perm ∷ []) c.args.bytes.now (ap (λ (name : List ℕ). after (with_length name) c.args.bytes.now) (sym c.bytes-name.ensures.same) ∙ c.in-None.ensures)

pub returns-in-Some-clause-rest : goal.returns-in-Some-clause-rest
unfolding goal_spelling
returns-in-Some-clause-rest c =
    let goal = c.args.goal.now in
    some_after _ (with_length goal.who) (to_be_bytes w64 goal.file.0 ++ permission_code goal.perm ∷ []) c.args.bytes.now c.in-Some.rest.now c.after_both-in-Some.result
    (ap (λ (name : List ℕ). after (with_length name) c.args.bytes.now) (sym c.bytes-name.ensures.same) ∙ c.in-Some.ensures)
    (subst (λ (code : ℕ). Gives (λ x. x.now) c.after_both-in-Some.result (after (to_be_bytes w64 goal.file.0 ++ code ∷ []) c.in-Some.rest.now)) c.permission_code.ensures
    (subst (λ (number : List ℕ). Gives (λ x. x.now) c.after_both-in-Some.result (after (number ++ c.permission_code.result ∷ []) c.in-Some.rest.now)) c.u64_bytes.ensures c.after_both-in-Some.ensures))
