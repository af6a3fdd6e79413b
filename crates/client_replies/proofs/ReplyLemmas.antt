-- What stands after the words of a reply, and what does not.
use Rattle.std.proofs.Common.{◌≡◌, ◌≢◌, ℕ, ◌<◌, ◌≤◌, ◌^◌, List, ◌++◌, refl, sym, ◌∙◌, arith}
use Rattle.std.specs.Fmt.{decimal}
use Rattle.std.proofs.lemmas.List.{append_cancel_left}
use Rattle.bl_syntax.specs.Names.{is_digit}
use Rattle.client_words.specs.StatementNumbers.{IsStatementNumber}
use Rattle.line_text.specs.Words.{HasNo}
use Rattle.line_text.proofs.WordLemmas.{HasNo-all}
use Rattle.line_words.specs.Numbers.{IsLongNumber}
use Rattle.line_words.proofs.NumeralLemmas.{IsWritten-below}
use Rattle.client_replies.specs.declared.reply.Reply.{Reply}
use Rattle.client_replies.specs.declared.reply.Reply.TheVariants as replies
use Rattle.client_replies.specs.Replies.{IsReplyUnless, LacksOne, LacksStatement, LacksTwo}

no_space : (number : ℕ) → number < 2 ^ 64 → HasNo 32 (decimal number)
no_space number fits =
    HasNo-all is_digit 32 refl (decimal number) (IsWritten-below (2 ^ 64) (omega arith) (decimal number) number (record { decimal_is = refl; fits = fits })).plain.digits

-- other words stand first
pub one_elsewhere : (words line : List ℕ) → ((rest : List ℕ) → line ≢ words ++ rest) → LacksOne words line
one_elsewhere words line none number fits has = none (decimal number) has

pub statement_elsewhere : (words line : List ℕ) → ((rest : List ℕ) → line ≢ words ++ rest) → LacksStatement words line
statement_elsewhere words line none number some fits has = none (decimal number) has

pub two_elsewhere : (words between line : List ℕ) → ((rest : List ℕ) → line ≢ words ++ rest) → LacksTwo words between line
two_elsewhere words between line none first second fits fits' has = none (decimal first ++ (between ++ decimal second)) has

-- what stands after the words is no number
pub no_number : (words line rest : List ℕ) → line ≡ words ++ rest → ((n : ℕ) → IsLongNumber rest n → ⊥) → LacksOne words line
no_number words line rest is none number fits has = none number (record { decimal_is = append_cancel_left words rest (decimal number) (sym is ∙ has); fits = fits })

pub no_statement : (words line rest : List ℕ) → line ≡ words ++ rest → ((n : ℕ) → IsStatementNumber rest n → ⊥) → LacksStatement words line
no_statement words line rest is none number some fits has =
    none number (record { number_is = record { decimal_is = append_cancel_left words rest (decimal number) (sym is ∙ has); fits = fits }; some = some })

-- what stands after the words has no such text after its first word
pub no_between : (words between line rest : List ℕ) → line ≡ words ++ rest
    → ((word more : List ℕ) → HasNo 32 word → rest ≡ word ++ (between ++ more) → ⊥) → LacksTwo words between line
no_between words between line rest is none first second fits fits' has =
    none (decimal first) (decimal second) (no_space first fits) (append_cancel_left words rest (decimal first ++ (between ++ decimal second)) (sym is ∙ has))

-- the first word is no number, or what stands after the text is none
pub no_first : (words between line rest word after : List ℕ) → line ≡ words ++ rest
    → ((word' more : List ℕ) → HasNo 32 word' → rest ≡ word' ++ (between ++ more) → (word ≡ word') × (after ≡ more))
    → ((n : ℕ) → IsLongNumber word n → ⊥) → LacksTwo words between line
no_first words between line rest word after is only none first second fits fits' has =
    let same = append_cancel_left words rest (decimal first ++ (between ++ decimal second)) (sym is ∙ has) in
    none first (record { decimal_is = (only (decimal first) (decimal second) (no_space first fits) same).0; fits = fits })

pub no_second : (words between line rest word after : List ℕ) → line ≡ words ++ rest
    → ((word' more : List ℕ) → HasNo 32 word' → rest ≡ word' ++ (between ++ more) → (word ≡ word') × (after ≡ more))
    → ((n : ℕ) → IsLongNumber after n → ⊥) → LacksTwo words between line
no_second words between line rest word after is only none first second fits fits' has =
    let same = append_cancel_left words rest (decimal first ++ (between ++ decimal second)) (sym is ∙ has) in
    none second (record { decimal_is = (only (decimal first) (decimal second) (no_space first fits) same).1; fits = fits' })

-- what is so of a reply without a meaning may be said in other words
pub unless : (known wanted : Type 0) (line : List ℕ) (reply : Reply) → (known → wanted) → IsReplyUnless known line reply → IsReplyUnless wanted line reply
unless known wanted line (replies.Done rest) more h = h
unless known wanted line (replies.Denied rest) more h = h
unless known wanted line (replies.Refused number event) more h = h
unless known wanted line (replies.Rejected number) more h = h
unless known wanted line (replies.Known number) more h = h
unless known wanted line (replies.Absent number) more h = h
unless known wanted line (replies.Unproved fault place) more h = h
unless known wanted line (replies.BadText fault place) more h = h
unless known wanted line (replies.BadForm place) more h = h
unless known wanted line replies.TooLong more h = h
unless known wanted line replies.BadLine more h = h
unless known wanted line replies.Full more h = h
unless known wanted line replies.Stopped more h = h
unless known wanted line replies.NoMemory more h = h
unless known wanted line replies.Unknown more h = more h
