-- Proofs as plain data, without where their parts lie in memory: one constructor a rule, with its
-- fields in order (after the sequent calculus of BL: Garg,
-- Proof theory for authorization logic and its application to a practical file system; the choice
-- of rules and of what each names is this project's own).
-- A right rule proves the goal from its form; a left rule uses a hypothesis, which it names by its
-- number.
use Rattle.std.specs.Prelude.{ℕ}
use Rattle.bl_syntax.specs.declared.terms.Term.{Term}
use Rattle.proof_term.specs.declared.proof.Proof.{Proof}
use Rattle.proof_term.specs.declared.proof.Proof.TheVariants as code

-- a proof: h is a hypothesis, t, t1 and t2 are terms, p and q are the proofs of the premises
pub data ProofView : Type 0 where
  init : (h : ℕ) → ProofView
  cons_r : ProofView
  inter_r : ProofView
  and_r : (p q : ProofView) → ProofView
  or_r1 : (p : ProofView) → ProofView
  or_r2 : (p : ProofView) → ProofView
  true_r : ProofView
  imp_r : (p : ProofView) → ProofView
  forall_r : (p : ProofView) → ProofView
  exists_r : (t : Term) → (p : ProofView) → ProofView
  says_r : (p : ProofView) → ProofView
  at_r : (p : ProofView) → ProofView
  cons_l : (h : ℕ) → (p : ProofView) → ProofView
  inter_l : (h : ℕ) → (p : ProofView) → ProofView
  and_l : (h : ℕ) → (p : ProofView) → ProofView
  or_l : (h : ℕ) → (p q : ProofView) → ProofView
  false_l : (h : ℕ) → ProofView
  imp_l : (h : ℕ) → (t1 t2 : Term) → (p q : ProofView) → ProofView
  forall_l : (h : ℕ) → (t : Term) → (p : ProofView) → ProofView
  exists_l : (h : ℕ) → (p : ProofView) → ProofView
  says_l : (h : ℕ) → (p : ProofView) → ProofView
  claim : (h : ℕ) → (p : ProofView) → ProofView
  at_l : (h : ℕ) → (p : ProofView) → ProofView

-- the proof that a proof of the program stands for
abbrev pub proof_view : Proof → ProofView
proof_view (code.Init h) = init h
proof_view code.ConsR = cons_r
proof_view code.InterR = inter_r
proof_view (code.AndR' at p bt q) = and_r (proof_view p) (proof_view q)
proof_view (code.OrR1' at p) = or_r1 (proof_view p)
proof_view (code.OrR2' at p) = or_r2 (proof_view p)
proof_view code.TrueR = true_r
proof_view (code.ImpR' at p) = imp_r (proof_view p)
proof_view (code.ForallR' at p) = forall_r (proof_view p)
proof_view (code.ExistsR' t at p) = exists_r t (proof_view p)
proof_view (code.SaysR' at p) = says_r (proof_view p)
proof_view (code.AtR' at p) = at_r (proof_view p)
proof_view (code.ConsL' h at p) = cons_l h (proof_view p)
proof_view (code.InterL' h at p) = inter_l h (proof_view p)
proof_view (code.AndL' h at p) = and_l h (proof_view p)
proof_view (code.OrL' h at p bt q) = or_l h (proof_view p) (proof_view q)
proof_view (code.FalseL h) = false_l h
proof_view (code.ImpL' h t1 t2 at p bt q) = imp_l h t1 t2 (proof_view p) (proof_view q)
proof_view (code.ForallL' h t at p) = forall_l h t (proof_view p)
proof_view (code.ExistsL' h at p) = exists_l h (proof_view p)
proof_view (code.SaysL' h at p) = says_l h (proof_view p)
proof_view (code.Claim' h at p) = claim h (proof_view p)
proof_view (code.AtL' h at p) = at_l h (proof_view p)
