-- A `-` stands for the ring's key, and any other word for a signature.
use Rattle.std.proofs.Common.{ℕ, List, None, refl, sym, subst, MatchOption}
use Rattle.line_words.specs.Grammar.{IsSignature, IsSigned, by_ring, by_bytes}
use Rattle.line_words.proofs.named.signature.Goals as goal

pub returns-then-is_dash : goal.returns-then-is_dash
returns-then-is_dash c = subst (λ w. IsSigned w None) (sym (c.if-is_dash.ensures.0 refl)) by_ring

pub returns-in-Some : goal.returns-in-Some
returns-in-Some c =
    by_bytes c.args.word.now c.in-Some.bytes (subst (λ r. MatchOption r ((bytes : List ℕ) → IsSignature c.args.word.now bytes → ⊥) (IsSignature c.args.word.now)) c.in-Some.is c.in_ok-bytes.ensures)
