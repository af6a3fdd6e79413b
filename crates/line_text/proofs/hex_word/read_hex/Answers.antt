-- A word other than `-` writes the bytes to which it decodes.
use Rattle.std.proofs.Common.{Some, sym, ap, ◌∙◌}
use Rattle.std.proofs.lemmas.Bool.{false≢true}
use Rattle.std.proofs.lemmas.Result.{IfOk-weaker}
use Rattle.line_text.proofs.HexLemmas.{IsHex-nothing, only_nothing, none_refused, reads_word}
use Rattle.line_text.proofs.hex_word.read_hex.Goals as goal

pub returns-then-is_no_bytes-clause-found : goal.returns-then-is_no_bytes-clause-found
returns-then-is_no_bytes-clause-found c = IsHex-nothing c.args.word.now c.new.result (c.is_no_bytes.ensures.0 c.if-is_no_bytes.true) c.new.ensures

pub returns-then-is_no_bytes-clause-only : goal.returns-then-is_no_bytes-clause-only
returns-then-is_no_bytes-clause-only c bytes is = ap Some (c.new.ensures ∙ sym (only_nothing c.args.word.now bytes (c.is_no_bytes.ensures.0 c.if-is_no_bytes.true) is))

pub returns-then-not-may_be_digits-clause-found : goal.returns-then-not-may_be_digits-clause-found
returns-then-not-may_be_digits-clause-found c bytes is =
    none_refused c.args.word.now c.may_be_digits.result (λ same. false≢true (sym c.if-is_no_bytes.false ∙ c.is_no_bytes.ensures.1 same)) c.may_be_digits.ensures.1 c.if-not-may_be_digits.true bytes is

pub returns-then-not-may_be_digits-clause-only : goal.returns-then-not-may_be_digits-clause-only
returns-then-not-may_be_digits-clause-only c bytes is =
    absurd (none_refused c.args.word.now c.may_be_digits.result (λ same. false≢true (sym c.if-is_no_bytes.false ∙ c.is_no_bytes.ensures.1 same)) c.may_be_digits.ensures.1 c.if-not-may_be_digits.true bytes is)

pub returns-clause-found : goal.returns-clause-found
returns-clause-found c =
    let form = c.may_be_digits.ensures.0 c.if-not-may_be_digits.false in
    IfOk-weaker c.decode_hex.result _ _ (λ read h. (reads_word c.args.word.now read (λ same. false≢true (sym c.if-is_no_bytes.false ∙ c.is_no_bytes.ensures.1 same)) form.0 form.1 h).0) c.decode_hex.ensures

pub returns-clause-only : goal.returns-clause-only
returns-clause-only c =
    let form = c.may_be_digits.ensures.0 c.if-not-may_be_digits.false in
    IfOk-weaker c.decode_hex.result _ _ (λ read h. (reads_word c.args.word.now read (λ same. false≢true (sym c.if-is_no_bytes.false ∙ c.is_no_bytes.ensures.1 same)) form.0 form.1 h).1) c.decode_hex.ensures
