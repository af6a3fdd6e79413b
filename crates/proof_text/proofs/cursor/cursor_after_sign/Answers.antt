-- The sign stands there, so the token is that sign.
use Rattle.std.proofs.Common.{◌≡◌, ◌+◌, Ok, sym, ap, ◌∙◌, subst, drop}
use Rattle.bl_tokens.specs.declared.tokens.Token.TheVariants as tokens
use Rattle.bl_tokens.specs.Tokens.{sized_lexeme, first_lexeme}
use Rattle.proof_text.specs.Cursor.{cursor_at}
use Rattle.proof_text.proofs.LexLemmas.{to_end, sign_there}
use Rattle.proof_text.proofs.cursor.cursor_after_sign.Goals as goal

pub returns-then-has_sign_front-clause-value : goal.returns-then-has_sign_front-clause-value
returns-then-has_sign_front-clause-value c =
    let at = c.first_byte-at.ensures.same in
    let lexed = subst (λ n. first_lexeme (drop n c.args.text.now) ≡ sized_lexeme (tokens.Sign c.args.sign) 1) at (ap first_lexeme (sym (to_end c.args.text.now c.first_byte-at.result)) ∙ c.has_sign_front.ensures c.if-has_sign_front.true) in
    ap Ok (c.cursor_at.ensures ∙ ap (λ n. cursor_at (n + 1) c.args.here.left) at) ∙ sym (sign_there c.args.text.now c.args.sign c.args.here lexed)
