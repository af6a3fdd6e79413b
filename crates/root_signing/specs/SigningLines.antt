-- The lines of an input that asks for signatures: one with the seed, and then one for each
-- statement (this project's own).
use Rattle.std.specs.Prelude.{◌≡◌, ◌≢◌, ℕ, List, [], ◌∷◌, ◌++◌, codes, length}
use Rattle.bl_syntax.specs.Statement.{StatementView}
use Rattle.bl_tokens.specs.declared.faults.TextFault.{TextFault}
use Rattle.bl_tokens.specs.declared.faults.TextFault.TheVariants as texts
use Rattle.bl_text.specs.Texts.{IsStatementText, StatementFault}
use Rattle.line_forms.specs.declared.fault.LineFault.{LineFault}
use Rattle.line_forms.specs.declared.fault.LineFault.TheVariants.{BadWord, BadCount, BadText}
use Rattle.line_text.specs.HexWord.{IsHex}
use Rattle.line_words.specs.Cutting.{first_cut}

-- the line does not begin with the word and a space after it: it is the word alone, or begins with
-- another
pub data IsHeadFault (word line : List ℕ) : LineFault → Type 0 where
  alone : line ≡ word → IsHeadFault word line BadCount
  other_word : (line ≡ word → ⊥) → ((rest : List ℕ) → line ≡ word ++ 32 ∷ rest → ⊥) →
      IsHeadFault word line (BadWord 0)

-- ---- the seed

-- the word writes a seed, 32 bytes, in hexadecimal
pub record IsSeedWord (word seed : List ℕ) : Type 0 where
  pub hex : IsHex word seed
  pub whole : length seed ≡ 32

-- the line gives the seed
pub record IsSeedLine (line seed : List ℕ) : Type 0 where
  pub word : List ℕ
  pub line_is : line ≡ codes "seed" ++ 32 ∷ word
  pub word_is : IsSeedWord word seed

-- what is wrong with a line that is to give a seed: its first word, the number of its words, or the
-- seed
pub data IsSeedFault (line : List ℕ) : LineFault → Type 0 where
  of_seed_head : (fault : LineFault) → IsHeadFault (codes "seed") line fault →
      IsSeedFault line fault
  of_seed_count : (rest : List ℕ) → line ≡ codes "seed" ++ 32 ∷ rest →
      (first_cut rest).behind ≢ [] → IsSeedFault line BadCount
  of_seed_word : (word : List ℕ) → line ≡ codes "seed" ++ 32 ∷ word → (first_cut word).behind ≡ [] →
      ((seed : List ℕ) → IsSeedWord word seed → ⊥) →
      IsSeedFault line (BadWord 5)

-- ---- a statement

-- the line says the statement, in this text
pub record SaysStatement (line text : List ℕ) (s : StatementView) : Type 0 where
  pub line_is : line ≡ codes "statement" ++ 32 ∷ text
  pub text_is : IsStatementText text s

-- what is wrong with a line that is to say a statement: its first word, that there is no text, or
-- the text
pub data IsStatementFault (line : List ℕ) : LineFault → Type 0 where
  of_statement_head : (fault : LineFault) → IsHeadFault (codes "statement") line fault →
      IsStatementFault line fault
  of_statement_text : (text : List ℕ) (fault : TextFault) → line ≡ codes "statement" ++ 32 ∷ text →
      StatementFault text fault →
      fault ≢ texts.NoMemory → IsStatementFault line (BadText fault)
