-- A proof by a rule whose premises were read.
use Rattle.std.proofs.Common.{◌≡◌, ℕ, ◌+◌, ◌-◌, ◌≤◌, List, length, refl, sym, subst, arith, Ok}
use Rattle.bl_tokens.specs.declared.tokens.Sign.TheVariants as signs
use Rattle.proof_term.specs.declared.rule.Axiom.{Axiom}
use Rattle.proof_term.specs.declared.rule.OnePremise.{OnePremise}
use Rattle.proof_term.specs.declared.rule.TwoPremises.{TwoPremises}
use Rattle.proof_term.specs.declared.rule.Rule.TheVariants as rules
use Rattle.proof_term.specs.Proof.{ProofView}
use Rattle.proof_term.specs.Rules.{by_axiom, by_one, by_two}
use Rattle.proof_term.specs.RuleTimes.{IsOneInRange, IsTwoInRange}
use Rattle.proof_term.proofs.TimeLemmas.{times_axiom, times_one, times_two}
use Rattle.proof_term.proofs.ShapeLemmas.{size_axiom, size_one, size_two, depth_axiom, depth_one, depth_two}
use Rattle.proof_text.specs.declared.cursor.ProofCursor.{ProofCursor}
use Rattle.proof_text.specs.Cursor.{cursor_after_sign}
use Rattle.proof_text.specs.Heads.{head}
use Rattle.proof_text.specs.Proofs.{no_premise, one_premise, two_premises}
use Rattle.proof_text.specs.Read.{ReadsProofText}

-- a rule was read and its fields, and so many levels are left below it
pub record Enters (text : List ℕ) (levels : ℕ) (here first : ProofCursor) : Type 0 where
  pub within : first.from ≤ length text
  pub left : first.left + 1 ≡ here.left
  pub some : 1 ≤ levels

pub read_axiom : {text : List ℕ} {levels : ℕ} {here there : ProofCursor} {r : Axiom} {d : ProofView} → Enters text levels here there → head text levels here ≡ Ok (rules.Axiom r, there) → d ≡ by_axiom r
    → ReadsProofText text levels here there d
read_axiom {text} {levels} {here} {there} {r} {d} enters h is =
    let size_is = size_axiom r in
    let depth_is = depth_axiom r in
    subst (ReadsProofText text levels here there) (sym is)
    (record {
      is_text = no_premise levels here there r (by_axiom r) h refl;
      within = enters.within;
      nodes = omega (arith, size_is, enters.left);
      levels_are = omega (arith, depth_is, enters.some);
      times = times_axiom r;
    })

pub read_one : {text : List ℕ} {levels : ℕ} {here first mid there : ProofCursor} {r : OnePremise} {p d : ProofView} → Enters text levels here first → head text levels here ≡ Ok (rules.One r, first)
    → IsOneInRange r → ReadsProofText text (levels - 1) first mid p → cursor_after_sign text signs.Close mid ≡ Ok there → there.from ≤ length text → there.left ≡ mid.left → d ≡ by_one r p
    → ReadsProofText text levels here there d
read_one {text} {levels} {here} {first} {mid} {there} {r} {p} {d} enters h fits premise close within left is =
    let size_is = size_one r p in
    let depth_is = depth_one r p in
    subst (ReadsProofText text levels here there) (sym is)
    (record {
      is_text = one_premise levels here first mid there r p (by_one r p) h premise.is_text close refl;
      within = within;
      nodes = omega (arith, size_is, enters.left, premise.nodes, left);
      levels_are = omega (arith, depth_is, enters.some, premise.levels_are);
      times = times_one r p fits premise.times;
    })

pub read_two : {text : List ℕ} {levels : ℕ} {here first mid second last there : ProofCursor} {r : TwoPremises} {p q d : ProofView} → Enters text levels here first
    → head text levels here ≡ Ok (rules.Two r, first) → IsTwoInRange r → ReadsProofText text (levels - 1) first mid p → cursor_after_sign text signs.Comma mid ≡ Ok second → second.left ≡ mid.left
    → ReadsProofText text (levels - 1) second last q → cursor_after_sign text signs.Close last ≡ Ok there → there.from ≤ length text → there.left ≡ last.left → d ≡ by_two r p q
    → ReadsProofText text levels here there d
read_two {text} {levels} {here} {first} {mid} {second} {last} {there} {r} {p} {q} {d} enters h fits premise comma passed other close within left is =
    let size_is = size_two r p q in
    let depth_is = depth_two r p q in
    subst (ReadsProofText text levels here there) (sym is)
    (record {
      is_text = two_premises levels here first mid second last there r p q (by_two r p q) h premise.is_text comma other.is_text close refl;
      within = within;
      nodes = omega (arith, size_is, enters.left, premise.nodes, passed, other.nodes, left);
      levels_are = omega (arith, depth_is, enters.some, premise.levels_are, other.levels_are);
      times = times_two r p q fits premise.times other.times;
    })
