-- Lines come to one end, and a ring accepts what is written in it.
use Rattle.std.proofs.Common.{◌≡◌, ◌≤◌, ◌<◌, ◌⊎◌, inl, inr, ℕ, ◌+◌, ◌^◌, List, [], ◌∷◌, ◌++◌, IsTrue, Option, false, refl, sym, ap, ap₂, subst, arith}
use Rattle.std.specs.Prelude.{nat_le}
use Rattle.std.specs.Option.{option_map_or}
use Rattle.std.proofs.lemmas.Bool.{and_from, cases_lt, le-leb}
use Rattle.bl_syntax.specs.declared.limits.TheConstants.{HIGHEST_TREE}
use Rattle.bl_syntax.specs.Statement.{StatementView}
use Rattle.line_forms.specs.declared.fault.LineFault.{LineFault}
use Rattle.line_forms.specs.declared.fault.LineFault.TheVariants.{BadWord}
use Rattle.merkle_sig.specs.HashTree.{root_of}
use Rattle.merkle_sig.specs.Signature.{accepts_root, signature_of}
use Rattle.merkle_sig.proofs.AcceptLemmas.{roots_accept}
use Rattle.merkle_sig.proofs.SignerLemmas.{fits}
use Rattle.policy_statement.specs.Messages.{statement_message}
use Rattle.policy_statement.specs.Ring.{Credential, accepts_by}
use Rattle.root_signing.specs.Laws.{HasAnEnd, RingAcceptsSigned}
use Rattle.root_signing.specs.Signed.{ComesTo, Decides, SignsLines, all_signed, decided, fault_line, has_seed, no_line, no_seed, register_line, root_line, signed, spent, spent_line, wrong}
use Rattle.root_signing.specs.SigningLines.{IsStatementFault}
use Rattle.root_signing.proofs.LineLemmas.{decided_seed, decided_statement, says_once, says_or_fault, seed_fault_once, seed_once, seed_or_fault, statement_line_fault_once}

-- ---- at most one

decides_once : (height leaf number : ℕ) (line : List ℕ) (status other : ℕ) (written another : List ℕ) → Decides height leaf number line status written → Decides height leaf number line other another → (status ≡ other) × (written ≡ another)
decides_once height leaf number line _ _ _ _ (wrong e h) (wrong f k) = (refl, ap (fault_line number) (statement_line_fault_once line e f h k))
decides_once height leaf number line _ _ _ _ (wrong e h) (spent text s says none) = absurd (says_or_fault line text s e says h)
decides_once height leaf number line _ _ _ _ (spent text s says none) (wrong f k) = absurd (says_or_fault line text s f says k)
decides_once height leaf number line _ _ _ _ (spent text s says none) (spent text' s' says' none') = (refl, refl)

not_decided : (height leaf number : ℕ) (line text : List ℕ) (s : StatementView) (status : ℕ) (written : List ℕ) → leaf < 2 ^ height → Decides height leaf number line status written
    → ((fault : LineFault) → IsStatementFault line fault → ⊥) → ⊥
not_decided height leaf number line text s _ _ low (wrong e h) none = none e h
not_decided height leaf number line text s _ _ low (spent text' s' says at_end) none = omega (arith, low, at_end)

module _ (seed : List ℕ) (height : ℕ) where
  signs_once : (leaf number : ℕ) (lines : List (List ℕ)) (status other : ℕ) (written another : List ℕ) → SignsLines seed height leaf number lines status written → SignsLines seed height leaf number lines other another
      → (status ≡ other) × (written ≡ another)
  signs_once leaf number _ _ _ _ _ (all_signed _ _) (all_signed _ _) = (refl, refl)
  signs_once leaf number _ _ _ _ _ (signed _ _ line lines text s status written says low more) (signed _ _ _ _ text' s' status' written' says' low' more') =
      let same = says_once line text text' s s' says says' in
      let rest = signs_once (leaf + 1) (number + 1) lines status status' written written' more more' in
      (rest.0, ap₂ (λ (a b : List ℕ). a ++ b) (ap₂ (λ (t : List ℕ) (v : StatementView). register_line seed height leaf t v) same.0 same.1) rest.1)
  signs_once leaf number _ _ _ _ _ (signed _ _ line lines text s status written says low more) (decided _ _ _ _ status' written' decides) =
      absurd (not_decided height leaf number line text s status' written' low decides (λ fault h. says_or_fault line text s fault says h))
  signs_once leaf number _ _ _ _ _ (decided _ _ line lines status written decides) (signed _ _ _ _ text s status' written' says low more) =
      absurd (not_decided height leaf number line text s status written low decides (λ fault h. says_or_fault line text s fault says h))
  signs_once leaf number _ _ _ _ _ (decided _ _ line lines status written decides) (decided _ _ _ _ status' written' decides') =
      decides_once height leaf number line status status' written written' decides decides'

has_seed_once : (height from : ℕ) (line : List ℕ) (lines : List (List ℕ)) (seed seed' : List ℕ) (status other : ℕ) (written another : List ℕ) → seed ≡ seed' → SignsLines seed height from 2 lines status written
    → SignsLines seed' height from 2 lines other another → (status ≡ other) × (root_line seed height ++ written ≡ root_line seed' height ++ another)
has_seed_once height from line lines seed seed' status other written another same signs signs' =
    let moved = subst (λ (k : List ℕ). SignsLines k height from 2 lines status written) same signs in
    let rest = signs_once seed' height from 2 lines status other written another moved signs' in
    (rest.0, ap₂ (λ (a b : List ℕ). a ++ b) (ap (λ (k : List ℕ). root_line k height) same) rest.1)

pub one_end : (height from : ℕ) (lines : List (List ℕ)) (status other : ℕ) (written another : List ℕ) → ComesTo height from lines status written → ComesTo height from lines other another → (status ≡ other) × (written ≡ another)
one_end height from _ _ _ _ _ no_line no_line = (refl, refl)
one_end height from _ _ _ _ _ (no_seed line lines e h) (no_seed _ _ f k) = (refl, ap (fault_line 1) (seed_fault_once line e f h k))
one_end height from _ _ _ _ _ (no_seed line lines e h) (has_seed _ _ seed status written is signs) = absurd (seed_or_fault line seed e is h)
one_end height from _ _ _ _ _ (has_seed line lines seed status written is signs) (no_seed _ _ f k) = absurd (seed_or_fault line seed f is k)
one_end height from _ _ _ _ _ (has_seed line lines seed status written is signs) (has_seed _ _ seed' status' written' is' signs') =
    has_seed_once height from line lines seed seed' status status' written written' (seed_once line seed seed' is is') signs signs'

-- ---- at least one

signs_some : (seed : List ℕ) (height leaf number : ℕ) (lines : List (List ℕ)) → leaf ≤ 2 ^ height → (status : ℕ) × (written : List ℕ) × SignsLines seed height leaf number lines status written
signs_some seed height leaf number [] low = (0, [], all_signed leaf number)
signs_some seed height leaf number (line ∷ lines) low = elim (decided_statement line) [
  | inl says ↦ elim (cases_lt leaf (2 ^ height)) [
    | inl left ↦
        let rest = signs_some seed height (leaf + 1) (number + 1) lines (omega (arith, left)) in
        (rest.0, register_line seed height leaf says.0 says.1 ++ rest.1, signed leaf number line lines says.0 says.1 rest.0 rest.1 says.2 left rest.2)
    | inr none ↦ (18, spent_line height, decided leaf number line lines 18 (spent_line height) (spent says.0 says.1 says.2 (omega (arith, low, none))))
  ]
  | inr bad ↦ (12, fault_line number bad.0, decided leaf number line lines 12 (fault_line number bad.0) (wrong bad.0 bad.1))
]

pub an_end : HasAnEnd
an_end height from [] low = (12, fault_line 1 (BadWord 0), no_line)
an_end height from (line ∷ lines) low = elim (decided_seed line) [
  | inl is ↦
      let signs = signs_some is.0 height from 2 lines low in
      (signs.0, root_line is.0 height ++ signs.1, has_seed line lines is.0 signs.0 signs.1 is.1 signs.2)
  | inr bad ↦ (12, fault_line 1 bad.0, no_seed line lines bad.0 bad.1)
]

-- ---- with which status

decides_status : (height leaf number : ℕ) (line : List ℕ) (status : ℕ) (written : List ℕ) → Decides height leaf number line status written → (status ≡ 12) ⊎ (status ≡ 18)
decides_status height leaf number line _ _ (wrong fault h) = inl refl
decides_status height leaf number line _ _ (spent text s says none) = inr refl

signs_status : (seed : List ℕ) (height leaf number : ℕ) (lines : List (List ℕ)) (status : ℕ) (written : List ℕ) → SignsLines seed height leaf number lines status written → (status ≡ 0) ⊎ ((status ≡ 12) ⊎ (status ≡ 18))
signs_status seed height leaf number _ _ _ (all_signed _ _) = inl refl
signs_status seed height leaf number _ _ _ (signed _ _ line lines text s status written says low more) = signs_status seed height (leaf + 1) (number + 1) lines status written more
signs_status seed height leaf number _ _ _ (decided _ _ line lines status written decides) = inr (decides_status height leaf number line status written decides)

pub status_of_end : (height from : ℕ) (lines : List (List ℕ)) (status : ℕ) (written : List ℕ) → ComesTo height from lines status written → (status ≡ 0) ⊎ ((status ≡ 12) ⊎ (status ≡ 18))
status_of_end height from _ _ _ no_line = inr (inl refl)
status_of_end height from _ _ _ (no_seed line lines fault h) = inr (inl refl)
status_of_end height from _ _ _ (has_seed line lines seed status written is signs) = signs_status seed height from 2 lines status written signs

-- ---- what a ring accepts

pub accepts_signed : RingAcceptsSigned
accepts_signed ring seed height leaf s low within held =
    let message : List ℕ = statement_message s in
    let signature : List ℕ = signature_of seed height leaf message in
    let accepted : IsTrue (accepts_root (root_of seed height) height message signature) = roots_accept seed height leaf message within (fits height leaf low within) in
    subst (λ (o : Option Credential). IsTrue (option_map_or (accepts_by message signature) o false)) (sym held)
    (and_from (nat_le height HIGHEST_TREE) (accepts_root (root_of seed height) height message signature) (le-leb height HIGHEST_TREE low) accepted)
