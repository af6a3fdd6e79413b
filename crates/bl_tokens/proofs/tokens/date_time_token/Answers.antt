-- Both parts are there, so the token is that of their sum.
use Rattle.std.proofs.Common.{ℕ, ℤ, pos, ◌+ℤ◌, Option, Some, ap, ◌∙◌, rules, w64}
use Rattle.std.proofs.lemmas.Int.{to_z-of_z}
use Rattle.bl_tokens.specs.Dates.{date_second_at}
use Rattle.bl_tokens.specs.Tokens.{second_token, token_at_both}
use Rattle.bl_tokens.proofs.tokens.date_time_token.Goals as goal

pub returns-in-Some-Some-clause-same : goal.returns-in-Some-Some-clause-same
returns-in-Some-Some-clause-same c =
    let bits = to_z-of_z w64 c.second_within.result (search rules) in
    let day = to_z-of_z w64 c.in-Some-Some.date (search rules) in
    c.second_token.ensures.same ∙ ap second_token (bits ∙ c.second_within.ensures)
    ∙ ap (λ (z : ℤ). second_token (z +ℤ pos c.in-Some-Some.time)) day
    ∙ ap (λ (o : Option ℤ). token_at_both o (Some c.in-Some-Some.time)) c.in-Some-Some.ensures.value
    ∙ ap (λ (o : Option ℕ). token_at_both (date_second_at c.args.bytes.now) o) c.in-Some-Some.ensures'.value
