-- The spelling of a proof within the limits is short.
use Rattle.std.proofs.Common.{ℕ, ◌+◌, ◌*◌, ◌^◌, ◌<◌, ◌≤◌, List, ◌++◌, length, arith}
use Rattle.std.proofs.lemmas.List.{length-append}
use Rattle.bl_syntax.specs.declared.terms.Term.{Term}
use Rattle.bl_syntax.specs.declared.terms.Term.TheVariants as terms
use Rattle.bl_syntax.specs.declared.terms.TimePoint.{TimePoint}
use Rattle.bl_syntax.specs.declared.terms.TimePoint.TheVariants as times
use Rattle.bl_syntax.specs.Spelling.{IsSpellable, time_spelling, term_spelling}
use Rattle.bl_syntax.proofs.WordLemmas.{short_name, short_text}
use Rattle.proof_term.specs.declared.rule.Axiom.{Axiom}
use Rattle.proof_term.specs.declared.rule.Axiom.TheVariants as axioms
use Rattle.proof_term.specs.declared.rule.OnePremise.{OnePremise}
use Rattle.proof_term.specs.declared.rule.OnePremise.TheVariants as one
use Rattle.proof_term.specs.declared.rule.TwoPremises.{TwoPremises}
use Rattle.proof_term.specs.declared.rule.TwoPremises.TheVariants as two
use Rattle.proof_term.specs.Proof.{ProofView, init, cons_r, inter_r, and_r, or_r1, or_r2, true_r, imp_r, forall_r, exists_r, says_r, at_r, cons_l, inter_l, and_l, or_l, false_l, imp_l, forall_l, exists_l, says_l, claim, at_l}
use Rattle.proof_term.specs.Limits.{size}
use Rattle.proof_term.specs.ProofSpelling.{axiom_spelling, one_spelling, two_spelling, proof_spelling, IsSpellableOne, IsSpellableTwo, NamesSpellable, IsSpellableProof}

time_length : (t : TimePoint) → length (time_spelling t) ≤ 9
unfolding time_spelling
time_length times.NegInf = omega arith
time_length (times.At second) = omega arith
time_length times.PosInf = omega arith

term_length : (t : Term) → IsSpellable t → length (term_spelling t) ≤ 130
unfolding term_spelling
term_length (terms.Prin name) h = omega (arith, (short_name name h).not_above)
term_length (terms.File node) h = omega arith
term_length (terms.Perm permission) h = omega arith
term_length (terms.Time point) h = omega (arith, time_length point)
term_length (terms.Text text) h = omega (arith, (short_text text h).not_above)
term_length terms.Ctime h = omega arith
term_length (terms.Param n) h = omega arith
term_length (terms.Bound n) h = omega arith

axiom_length : (r : Axiom) → length (axiom_spelling r) ≤ 263
unfolding axiom_spelling
axiom_length (axioms.Init h) = omega arith
axiom_length axioms.ConsR = omega arith
axiom_length axioms.InterR = omega arith
axiom_length axioms.TrueR = omega arith
axiom_length (axioms.FalseL h) = omega arith

one_length : (r : OnePremise) → IsSpellableOne r → length (one_spelling r) ≤ 263
unfolding one_spelling
one_length one.OrR1 h = omega arith
one_length one.OrR2 h = omega arith
one_length one.ImpR h = omega arith
one_length one.ForallR h = omega arith
one_length (one.ExistsR t) h = omega (arith, term_length t h)
one_length one.SaysR h = omega arith
one_length one.AtR h = omega arith
one_length (one.ConsL k) h = omega arith
one_length (one.InterL k) h = omega arith
one_length (one.AndL k) h = omega arith
one_length (one.ForallL k t) h = omega (arith, term_length t h.1)
one_length (one.ExistsL k) h = omega arith
one_length (one.SaysL k) h = omega arith
one_length (one.Claim k) h = omega arith
one_length (one.AtL k) h = omega arith

two_length : (r : TwoPremises) → IsSpellableTwo r → length (two_spelling r) ≤ 263
unfolding two_spelling
two_length two.AndR h = omega arith
two_length (two.OrL k) h = omega arith
two_length (two.ImpL k t1 t2) h = omega (arith, term_length t1 h.1.0, term_length t2 h.1.1, length-append (term_spelling t1) (term_spelling t2))

-- a rule and the proof of its premise
with_one : (r : OnePremise) (bytes : List ℕ) (nodes : ℕ) → IsSpellableOne r → length bytes ≤ 263 * nodes → length (one_spelling r ++ bytes) ≤ 263 * (1 + nodes)
with_one r bytes nodes h short = omega (arith, one_length r h, length-append (one_spelling r) bytes, short)

-- a rule and the proofs of its premises
with_two : (r : TwoPremises) (first second : List ℕ) (nodes others : ℕ) → IsSpellableTwo r → length first ≤ 263 * nodes → length second ≤ 263 * others
    → length (two_spelling r ++ (first ++ second)) ≤ 263 * (1 + nodes + others)
with_two r first second nodes others h short shorter = omega (arith, two_length r h, length-append (two_spelling r) (first ++ second), length-append first second, short, shorter)

proof_length : (d : ProofView) → NamesSpellable d → length (proof_spelling d) ≤ 263 * size d
proof_length (init h) n = axiom_length (axioms.Init h)
proof_length cons_r n = axiom_length axioms.ConsR
proof_length inter_r n = axiom_length axioms.InterR
proof_length (and_r p q) n = with_two two.AndR (proof_spelling p) (proof_spelling q) (size p) (size q) n.0 (proof_length p n.1.0) (proof_length q n.1.1)
proof_length (or_r1 p) n = with_one one.OrR1 (proof_spelling p) (size p) n.0 (proof_length p n.1)
proof_length (or_r2 p) n = with_one one.OrR2 (proof_spelling p) (size p) n.0 (proof_length p n.1)
proof_length true_r n = axiom_length axioms.TrueR
proof_length (imp_r p) n = with_one one.ImpR (proof_spelling p) (size p) n.0 (proof_length p n.1)
proof_length (forall_r p) n = with_one one.ForallR (proof_spelling p) (size p) n.0 (proof_length p n.1)
proof_length (exists_r t p) n = with_one (one.ExistsR t) (proof_spelling p) (size p) n.0 (proof_length p n.1)
proof_length (says_r p) n = with_one one.SaysR (proof_spelling p) (size p) n.0 (proof_length p n.1)
proof_length (at_r p) n = with_one one.AtR (proof_spelling p) (size p) n.0 (proof_length p n.1)
proof_length (cons_l h p) n = with_one (one.ConsL h) (proof_spelling p) (size p) n.0 (proof_length p n.1)
proof_length (inter_l h p) n = with_one (one.InterL h) (proof_spelling p) (size p) n.0 (proof_length p n.1)
proof_length (and_l h p) n = with_one (one.AndL h) (proof_spelling p) (size p) n.0 (proof_length p n.1)
proof_length (or_l h p q) n = with_two (two.OrL h) (proof_spelling p) (proof_spelling q) (size p) (size q) n.0 (proof_length p n.1.0) (proof_length q n.1.1)
proof_length (false_l h) n = axiom_length (axioms.FalseL h)
proof_length (imp_l h t1 t2 p q) n = with_two (two.ImpL h t1 t2) (proof_spelling p) (proof_spelling q) (size p) (size q) n.0 (proof_length p n.1.0) (proof_length q n.1.1)
proof_length (forall_l h t p) n = with_one (one.ForallL h t) (proof_spelling p) (size p) n.0 (proof_length p n.1)
proof_length (exists_l h p) n = with_one (one.ExistsL h) (proof_spelling p) (size p) n.0 (proof_length p n.1)
proof_length (says_l h p) n = with_one (one.SaysL h) (proof_spelling p) (size p) n.0 (proof_length p n.1)
proof_length (claim h p) n = with_one (one.Claim h) (proof_spelling p) (size p) n.0 (proof_length p n.1)
proof_length (at_l h p) n = with_one (one.AtL h) (proof_spelling p) (size p) n.0 (proof_length p n.1)

-- it fits a length of four bytes
pub proof_is_short : (d : ProofView) → IsSpellableProof d → length (proof_spelling d) < 2 ^ 32
proof_is_short d h = omega (arith, proof_length d h.names, h.within_limits.nodes)
