-- The grammar of proofs over lists of words (this project's own): a rule's name and, in
-- parentheses, its fields in their order, with commas between them; the bare name where there are
-- none. It has no
-- limits: of these alone a text's fault may speak where the words before it can still be completed
-- to a sentence.
use Rattle.std.specs.Prelude.{◌≡◌, ℕ, List, [], ◌∷◌, ◌++◌, true, Some, Ok}
use Rattle.bl_syntax.specs.declared.terms.Sort.TheVariants as sorts
use Rattle.bl_syntax.specs.declared.terms.Term.{Term}
use Rattle.bl_tokens.specs.declared.faults.TextFault.{TextFault}
use Rattle.bl_tokens.specs.declared.tokens.Sign.TheVariants as signs
use Rattle.bl_tokens.specs.declared.tokens.Token.{Token}
use Rattle.bl_tokens.specs.declared.tokens.Token.TheVariants.{Constant}
use Rattle.bl_text.specs.Scope.{is_of_wanted_sort}
use Rattle.bl_text.specs.Sentences.{IsSign, IsTerm}
use Rattle.bl_text.specs.Texts.{is_end}
use Rattle.proof_text.specs.declared.names.PlainRule.TheVariants.{ConsR, InterR, AndR, OrR1, OrR2, TrueR, ImpR, ForallR, ExistsR, SaysR, AtR}
use Rattle.proof_text.specs.declared.names.CitingRule.TheVariants.{Init, ConsL, InterL, AndL, OrL, FalseL, ImpL, ForallL, ExistsL, SaysL, Claim, AtL}
use Rattle.proof_text.specs.declared.names.RuleName.{RuleName}
use Rattle.proof_text.specs.declared.names.RuleName.TheVariants.{Plain, Citing}
use Rattle.proof_text.specs.declared.cursor.ProofCursor.{ProofCursor}
use Rattle.proof_text.specs.Cursor.{cursor_at, first_byte, token_at, hypothesis_at, rule_at}
use Rattle.proof_text.specs.SameTokens.{fault_place}

-- what stands at a place of a proof's text: a rule's name, the number of a hypothesis, or a token
-- of formulas
pub data ProofWord : Type 0 where
  rule_name : RuleName → ProofWord
  number : ℕ → ProofWord
  token : Token → ProofWord

-- what a rule has in its parentheses
pub data Field : Type 0 where
  hypothesis : Field
  term : Field
  time : Field
  premise : Field

-- the fields of a rule
abbrev pub fields : RuleName → List Field
fields (Plain ConsR) = []
fields (Plain InterR) = []
fields (Plain TrueR) = []
fields (Plain AndR) = premise ∷ premise ∷ []
fields (Plain OrR1) = premise ∷ []
fields (Plain OrR2) = premise ∷ []
fields (Plain ImpR) = premise ∷ []
fields (Plain ForallR) = premise ∷ []
fields (Plain ExistsR) = term ∷ premise ∷ []
fields (Plain SaysR) = premise ∷ []
fields (Plain AtR) = premise ∷ []
fields (Citing Init) = hypothesis ∷ []
fields (Citing FalseL) = hypothesis ∷ []
fields (Citing ConsL) = hypothesis ∷ premise ∷ []
fields (Citing InterL) = hypothesis ∷ premise ∷ []
fields (Citing AndL) = hypothesis ∷ premise ∷ []
fields (Citing OrL) = hypothesis ∷ premise ∷ premise ∷ []
fields (Citing ImpL) = hypothesis ∷ time ∷ time ∷ premise ∷ premise ∷ []
fields (Citing ForallL) = hypothesis ∷ term ∷ premise ∷ []
fields (Citing ExistsL) = hypothesis ∷ premise ∷ []
fields (Citing SaysL) = hypothesis ∷ premise ∷ []
fields (Citing Claim) = hypothesis ∷ premise ∷ []
fields (Citing AtL) = hypothesis ∷ premise ∷ []

-- the words write these fields, with commas between them
pub data ProofSentence : List Field → List ProofWord → Type 0 where
  a_hypothesis : (h : ℕ) → ProofSentence (hypothesis ∷ []) (number h ∷ [])
  a_term : (t : Token) → IsTerm [] t → ProofSentence (term ∷ []) (token t ∷ [])
  a_time : (t : Term) → is_of_wanted_sort [] sorts.Time t ≡ true
      → ProofSentence (time ∷ []) (token (Constant t) ∷ [])
  bare : (rule : RuleName) → fields rule ≡ [] → ProofSentence (premise ∷ []) (rule_name rule ∷ [])
  with_fields : (rule : RuleName) (ws : List ProofWord) (open_ close : Token)
      → IsSign signs.Open open_ → ProofSentence (fields rule) ws → IsSign signs.Close close
      → ProofSentence (premise ∷ []) (rule_name rule ∷ token open_ ∷ (ws ++ token close ∷ []))
  further : (f g : Field) (fs : List Field) (ws vs : List ProofWord) (comma : Token)
      → ProofSentence (f ∷ []) ws → IsSign signs.Comma comma → ProofSentence (g ∷ fs) vs
      → ProofSentence (f ∷ g ∷ fs) (ws ++ token comma ∷ vs)

-- a sentence of the grammar of proofs
abbrev pub IsProofSentence : List ProofWord → Type 0
IsProofSentence ws = ProofSentence (premise ∷ []) ws

-- these words stand in the text from the one byte up to the other, each read as what it is
pub data AreWordsAt (text : List ℕ) : ℕ → ℕ → List ProofWord → Type 0 where
  nothing : (from : ℕ) → AreWordsAt text from from []
  rule_there : (here there : ProofCursor) (to : ℕ) (rule : RuleName) (ws : List ProofWord)
      → rule_at text here ≡ Ok (rule, there) → AreWordsAt text there.from to ws
      → AreWordsAt text here.from to (rule_name rule ∷ ws)
  number_there : (here there : ProofCursor) (to h : ℕ) (ws : List ProofWord)
      → hypothesis_at text here ≡ Ok (h, there) → AreWordsAt text there.from to ws
      → AreWordsAt text here.from to (number h ∷ ws)
  token_there : (here : ProofCursor) (to : ℕ) (ws : List ProofWord)
      → AreWordsAt text (token_at text here).end to ws
      → AreWordsAt text here.from to (token (token_at text here).token ∷ ws)

-- the fault is at the next byte that is no space
abbrev pub IsNext : List ℕ → ℕ → TextFault → Type 0
IsNext text from e = fault_place e ≡ Some (first_byte text (cursor_at from 0))

-- the fault stands after words that can be completed to a sentence
pub record IsAfterViablePrefix (text : List ℕ) (e : TextFault) : Type 0 where
  pub words : List ProofWord
  pub behind : ℕ
  pub stands : AreWordsAt text 0 behind words
  pub next : IsNext text behind e
  pub others : List ProofWord
  pub sentence : IsProofSentence (words ++ others)

-- the whole text has the words of a sentence
pub record IsProofSentenceText (text : List ℕ) : Type 0 where
  pub words : List ProofWord
  pub behind : ℕ
  pub stands : AreWordsAt text 0 behind words
  pub sentence : IsProofSentence words
  pub end : is_end (token_at text (cursor_at behind 0)).token ≡ true
