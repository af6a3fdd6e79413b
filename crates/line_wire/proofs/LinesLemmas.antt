-- What is written falls into the replies.
use Rattle.std.proofs.Common.{◌≡◌, ℕ, List, [], ◌∷◌, ◌++◌, Bool, true, false, not, IsTrue, map, refl, ap, ◌∙◌, append_assoc}
use Rattle.std.specs.Prelude.{◌==◌, if◌then◌else◌}
use Rattle.std.specs.List.{AllByRecursion}
use Rattle.std.proofs.lemmas.Bool.{and_parts, false≢true}
use Rattle.line_text.specs.Lines.{lines_of, with_byte}
use Rattle.line_wire.specs.declared.reply.LineReply.{LineReply}
use Rattle.line_wire.specs.ReplyText.{reply_text, output_of}
use Rattle.line_wire.specs.Unbroken.{IsUnbroken, IsUnbrokenReply}
use Rattle.line_wire.proofs.UnbrokenLemmas.{reply_unbroken}

-- a byte of a line, by whether it ends one
by_byte : (is_end : Bool) (byte : ℕ) (line : List ℕ) (lines : List (List ℕ)) (after : List (List ℕ)) → IsTrue (not is_end) → after ≡ line ∷ lines → (if is_end then [] ∷ after else with_byte byte after) ≡ (byte ∷ line) ∷ lines
by_byte true byte line lines after other same = absurd (false≢true other)
by_byte false byte line lines after other same = ap (with_byte byte) same

pub one_line : (line rest : List ℕ) → IsUnbroken line → lines_of (line ++ 10 ∷ rest) ≡ line ∷ lines_of rest
one_line [] rest h = refl
one_line (byte ∷ line) rest h =
    let parts = and_parts (not (byte == 10)) _ h in
    by_byte (byte == 10) byte line (lines_of rest) (lines_of (line ++ 10 ∷ rest)) parts.0 (one_line line rest parts.1)

pub lines_of_output : (replies : List LineReply) → AllByRecursion IsUnbrokenReply replies → lines_of (output_of replies) ≡ map reply_text replies
lines_of_output [] h = refl
lines_of_output (reply ∷ replies) h =
    ap lines_of (append_assoc (reply_text reply) (10 ∷ []) (output_of replies)) ∙ one_line (reply_text reply) (output_of replies) (reply_unbroken reply h.0)
    ∙ ap (λ (others : List (List ℕ)). reply_text reply ∷ others) (lines_of_output replies h.1)
