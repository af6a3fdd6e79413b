-- The head of a proof's text: its rule and the fields before the proofs of its premises (this
-- project's own). The fields stand in parentheses, with commas between them, in their order: the
-- number of a
-- hypothesis, terms, proofs. A rule without fields stands alone.
use Rattle.std.specs.Prelude.{ℕ, List, Result, Ok}
use Rattle.bl_tokens.specs.declared.faults.TextFault.{TextFault}
use Rattle.bl_tokens.specs.declared.tokens.Sign.TheVariants as signs
use Rattle.bl_text.specs.Pieces.{◌>>=◌}
use Rattle.proof_term.specs.declared.rule.Rule.{Rule}
use Rattle.proof_term.specs.declared.rule.Rule.TheVariants.{Axiom, One, Two}
use Rattle.proof_term.specs.declared.rule.Axiom.TheVariants as axioms
use Rattle.proof_term.specs.declared.rule.OnePremise.TheVariants as one
use Rattle.proof_term.specs.declared.rule.TwoPremises.TheVariants as two
use Rattle.proof_text.specs.declared.names.PlainRule.{PlainRule}
use Rattle.proof_text.specs.declared.names.PlainRule.TheVariants.{ConsR, InterR, AndR, OrR1, OrR2, TrueR, ImpR, ForallR, ExistsR, SaysR, AtR}
use Rattle.proof_text.specs.declared.names.CitingRule.{CitingRule}
use Rattle.proof_text.specs.declared.names.CitingRule.TheVariants.{Init, ConsL, InterL, AndL, OrL, FalseL, ImpL, ForallL, ExistsL, SaysL, Claim, AtL}
use Rattle.proof_text.specs.declared.names.RuleName.{RuleName}
use Rattle.proof_text.specs.declared.names.RuleName.TheVariants.{Plain, Citing}
use Rattle.proof_text.specs.declared.cursor.ProofCursor.{ProofCursor}
use Rattle.proof_text.specs.Cursor.{cursor_after_sign, term_at, time_at, hypothesis_at, rule_at, room, take_rule}

-- the rule, with the term and the place of its first premise after it
abbrev pub HeadReading : Type 0
HeadReading = Result (Rule × ProofCursor) TextFault

-- the rule, and what stands after a comma
unfoldable pub premise_head : List ℕ → Rule → ProofCursor → HeadReading
premise_head text rule here = do
  there ← cursor_after_sign text signs.Comma here
  Ok (rule, there)

-- the rule, and what stands after the parenthesis that closes
unfoldable pub finish_head : List ℕ → Rule → ProofCursor → HeadReading
finish_head text rule here = do
  there ← cursor_after_sign text signs.Close here
  Ok (rule, there)

-- the rule, and what stands after the parenthesis that opens
unfoldable pub start_head : List ℕ → Rule → ProofCursor → HeadReading
start_head text rule here = do
  there ← cursor_after_sign text signs.Open here
  Ok (rule, there)

-- a rule that names a term
unfoldable pub with_term : List ℕ → ProofCursor → HeadReading
with_term text here = do
  place ← cursor_after_sign text signs.Open here
  t ← term_at text place
  premise_head text (One (one.ExistsR t.0)) t.1

-- the fields of a rule that names no hypothesis
unfoldable pub plain_head : List ℕ → PlainRule → ProofCursor → HeadReading
plain_head text ConsR here = Ok (Axiom axioms.ConsR, here)
plain_head text InterR here = Ok (Axiom axioms.InterR, here)
plain_head text TrueR here = Ok (Axiom axioms.TrueR, here)
plain_head text AndR here = start_head text (Two two.AndR) here
plain_head text OrR1 here = start_head text (One one.OrR1) here
plain_head text OrR2 here = start_head text (One one.OrR2) here
plain_head text ImpR here = start_head text (One one.ImpR) here
plain_head text ForallR here = start_head text (One one.ForallR) here
plain_head text ExistsR here = with_term text here
plain_head text SaysR here = start_head text (One one.SaysR) here
plain_head text AtR here = start_head text (One one.AtR) here

-- the instance that a rule names after the hypothesis
unfoldable pub with_instance : List ℕ → ℕ → ProofCursor → HeadReading
with_instance text h here = do
  place ← cursor_after_sign text signs.Comma here
  t ← term_at text place
  premise_head text (One (one.ForallL h t.0)) t.1

-- the two times that a rule names after the hypothesis
unfoldable pub with_interval : List ℕ → ℕ → ProofCursor → HeadReading
with_interval text h here = do
  first ← cursor_after_sign text signs.Comma here
  from ← time_at text first
  second ← cursor_after_sign text signs.Comma from.1
  to ← time_at text second
  premise_head text (Two (two.ImpL h from.0 to.0)) to.1

-- the fields after the hypothesis
unfoldable pub citing_head : List ℕ → CitingRule → ℕ → ProofCursor → HeadReading
citing_head text Init h here = finish_head text (Axiom (axioms.Init h)) here
citing_head text FalseL h here = finish_head text (Axiom (axioms.FalseL h)) here
citing_head text ConsL h here = premise_head text (One (one.ConsL h)) here
citing_head text InterL h here = premise_head text (One (one.InterL h)) here
citing_head text AndL h here = premise_head text (One (one.AndL h)) here
citing_head text OrL h here = premise_head text (Two (two.OrL h)) here
citing_head text ImpL h here = with_interval text h here
citing_head text ForallL h here = with_instance text h here
citing_head text ExistsL h here = premise_head text (One (one.ExistsL h)) here
citing_head text SaysL h here = premise_head text (One (one.SaysL h)) here
citing_head text Claim h here = premise_head text (One (one.Claim h)) here
citing_head text AtL h here = premise_head text (One (one.AtL h)) here

-- the fields of a rule that names a hypothesis first
unfoldable pub with_hypothesis : List ℕ → CitingRule → ProofCursor → HeadReading
with_hypothesis text rule here = do
  place ← cursor_after_sign text signs.Open here
  h ← hypothesis_at text place
  citing_head text rule h.0 h.1

unfoldable pub named_head : List ℕ → RuleName → ProofCursor → HeadReading
named_head text (Plain rule) here = plain_head text rule here
named_head text (Citing rule) here = with_hypothesis text rule here

-- the rule at that place with its fields before the premises, if so many levels are left, and what
-- follows
unfoldable pub head : List ℕ → ℕ → ProofCursor → HeadReading
head text levels here = do
  name ← rule_at text here
  _ ← room text levels here
  named_head text name.0 (take_rule name.1)
