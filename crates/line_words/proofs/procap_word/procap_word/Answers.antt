-- A word begins with an `@`, or holds a procap.
use Rattle.std.proofs.Common.{subst, MatchOption}
use Rattle.procap.specs.declared.procap.Procap.{Procap}
use Rattle.line_words.specs.Procaps.{IsProcapHex, by_spelling}
use Rattle.line_words.proofs.ProcapLemmas.{number_of_word, not_given, IsProcapWord-number}
use Rattle.line_words.proofs.procap_word.procap_word.Goals as goal

pub returns-in-Some-long_number : goal.returns-in-Some-long_number
returns-in-Some-long_number c = IsProcapWord-number c.args.word.now c.in-Some.digits.now c.in-Some-long_number.number c.in-Some.ensures c.in-Some-long_number.ensures.found

pub returns-in-None : goal.returns-in-None
returns-in-None c given h =
    let number = number_of_word h c.in-Some.digits.now c.in-Some.ensures in
    c.in-None.ensures.found number.0 number.1

pub returns-in-Some-2 : goal.returns-in-Some-2
returns-in-Some-2 c =
    by_spelling c.args.word.now c.in-Some-2.p (subst (λ r. MatchOption r ((p : Procap) → IsProcapHex c.args.word.now p → ⊥) (IsProcapHex c.args.word.now)) c.in-Some-2.is c.in_ok-p.ensures)

pub returns-in-None-2 : goal.returns-in-None-2
returns-in-None-2 c given h =
    not_given h c.in_default.ensures (subst (λ r. MatchOption r ((p : Procap) → IsProcapHex c.args.word.now p → ⊥) (IsProcapHex c.args.word.now)) c.in-None-2.is c.in_ok-p.ensures)
