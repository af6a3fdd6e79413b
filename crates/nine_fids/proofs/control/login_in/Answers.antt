-- The words are of no login if a part is of none.
use Rattle.std.proofs.Common.{ℕ, List, Option, MatchOption, subst}
use Rattle.line_text.proofs.WordLemmas.{HasNo-principal}
use Rattle.line_words.specs.Grammar.{IsSignatureHex}
use Rattle.nine_fids.proofs.ControlLemmas.{no_name, no_signature}
use Rattle.nine_fids.proofs.control.login_in.Goals as goal

pub returns-in-None : goal.returns-in-None
returns-in-None c = λ who signature h. c.in-None.ensures.only h.name h.word (HasNo-principal h.name h.names.named) h.words_are

pub returns-in-None-principal : goal.returns-in-None-principal
returns-in-None-principal c =
    no_name c.args.words.now c.in-Some.parts.0.now c.in-Some.parts.1.now c.in-Some.ensures.one_word c.in-Some.ensures.found c.in-None-principal.ensures

pub returns-in-None-2 : goal.returns-in-None-2
returns-in-None-2 c =
    no_signature c.args.words.now c.in-Some.parts.0.now c.in-Some.parts.1.now c.in-Some.ensures.one_word c.in-Some.ensures.found
    (subst (λ (r : Option (List ℕ)). MatchOption r ((signature : List ℕ) → IsSignatureHex c.in-Some.parts.1.now signature → ⊥) (IsSignatureHex c.in-Some.parts.1.now)) c.in-None-2.is c.in_ok-signature.ensures)
