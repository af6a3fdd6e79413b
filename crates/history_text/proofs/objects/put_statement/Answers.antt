-- One member after the other.
use Rattle.std.proofs.Common.{◌≡◌, ◌++◌, List, ℕ, ap, subst, ◌∙◌}
use Rattle.std.specs.Prelude.{OnOk, codes}
use Rattle.std.specs.Fmt.{decimal}
use Rattle.history_text.specs.Strings.{string_text}
use Rattle.bl_text.specs.Printed.{statement_text}
use Rattle.history_text.specs.Objects.{statement_object}
use Rattle.history_text.proofs.TextLemmas.{joined6}
use Rattle.history_text.proofs.objects.put_statement.Goals as goal

pub returns : goal.returns
returns c =
    let out = c.args.out.now in
    let s = c.args.statement.now in
    let who_is : c.put_string.new.out ≡ c.put_text.new.out ++ string_text s.who =
    c.in_ok-put_string.ensures ∙ ap (λ (w : List ℕ). c.put_text.new.out ++ string_text w) (c.bytes.ensures.same ∙ c.who.ensures) in
    let whole : c.put_statement_string.new.out ++ codes "}" ≡ out ++ statement_object c.args.number s =
    joined6 out c.put_counted.new.out c.put_text.new.out c.put_string.new.out c.put_text-2.new.out c.put_statement_string.new.out (codes "{\"number\":" ++ decimal c.args.number) (codes ",\"signer\":") (string_text s.who) (codes ",\"statement\":") (string_text (statement_text s)) (codes "}")
    c.in_ok-put_counted.ensures.ok c.in_ok-put_text.ensures.ok who_is c.in_ok-put_text-2.ensures.ok c.in_ok-put_statement_string.ensures in
    subst (λ (text : List ℕ). OnOk c.put_text-3.result (c.put_text-3.new.out ≡ text)) whole c.put_text-3.ensures.ok
