-- The text that a proof is written as (this project's own): the name of its rule and, in
-- parentheses, its fields with commas between them and no spaces; the bare name where there are
-- none.
use Rattle.std.specs.Prelude.{ℕ, List, ◌++◌, codes}
use Rattle.std.specs.Fmt.{decimal}
use Rattle.bl_syntax.specs.declared.terms.Term.{Term}
use Rattle.bl_text.specs.Printed.{term_text}
use Rattle.proof_term.specs.declared.rule.Axiom.{Axiom}
use Rattle.proof_term.specs.declared.rule.Axiom.TheVariants.{Init, ConsR, InterR, TrueR, FalseL}
use Rattle.proof_term.specs.declared.rule.OnePremise.{OnePremise}
use Rattle.proof_term.specs.declared.rule.OnePremise.TheVariants.{OrR1, OrR2, ImpR, ForallR, ExistsR, SaysR, AtR, ConsL, InterL, AndL, ForallL, ExistsL, SaysL, Claim, AtL}
use Rattle.proof_term.specs.declared.rule.TwoPremises.{TwoPremises}
use Rattle.proof_term.specs.declared.rule.TwoPremises.TheVariants.{AndR, OrL, ImpL}
use Rattle.proof_term.specs.Proof.{ProofView}
use Rattle.proof_term.specs.Rules.{fold_proof}

-- a rule's name with its parenthesis, the number of the hypothesis, and the sign after it
abbrev pub cited_text : List ℕ → ℕ → List ℕ → List ℕ
cited_text name h sign = name ++ (decimal h ++ sign)

-- a term before a further field
abbrev pub term_field : Term → List ℕ
term_field t = term_text 0 t ++ codes ","

-- a rule without premises
abbrev pub axiom_text : Axiom → List ℕ
axiom_text (Init h) = cited_text (codes "init(") h (codes ")")
axiom_text ConsR = codes "consR"
axiom_text InterR = codes "interR"
axiom_text TrueR = codes "trueR"
axiom_text (FalseL h) = cited_text (codes "falseL(") h (codes ")")

-- a rule with one premise, up to that premise
abbrev pub one_text : OnePremise → List ℕ
one_text OrR1 = codes "orR1("
one_text OrR2 = codes "orR2("
one_text ImpR = codes "impR("
one_text ForallR = codes "forallR("
one_text (ExistsR t) = codes "existsR(" ++ term_field t
one_text SaysR = codes "saysR("
one_text AtR = codes "atR("
one_text (ConsL h) = cited_text (codes "consL(") h (codes ",")
one_text (InterL h) = cited_text (codes "interL(") h (codes ",")
one_text (AndL h) = cited_text (codes "andL(") h (codes ",")
one_text (ForallL h t) = cited_text (codes "forallL(") h (codes ",") ++ term_field t
one_text (ExistsL h) = cited_text (codes "existsL(") h (codes ",")
one_text (SaysL h) = cited_text (codes "saysL(") h (codes ",")
one_text (Claim h) = cited_text (codes "claim(") h (codes ",")
one_text (AtL h) = cited_text (codes "atL(") h (codes ",")

-- a rule with two premises, up to the first of them
abbrev pub two_text : TwoPremises → List ℕ
two_text AndR = codes "andR("
two_text (OrL h) = cited_text (codes "orL(") h (codes ",")
two_text (ImpL h t1 t2) = cited_text (codes "impL(") h (codes ",") ++ (term_field t1 ++ term_field t2)

-- a proof
abbrev pub proof_text : ProofView → List ℕ
proof_text d = fold_proof axiom_text (λ r p. one_text r ++ (p ++ codes ")")) (λ r p q. two_text r ++ (p ++ (codes "," ++ (q ++ codes ")")))) d
