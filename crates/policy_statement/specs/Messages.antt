-- What is signed. The first byte tells the kinds of message apart. This project's own.
use Rattle.std.specs.Prelude.{ℕ, List, ◌∷◌, ◌++◌}
use Rattle.bl_syntax.specs.Statement.{StatementView}
use Rattle.bl_syntax.specs.Spelling.{with_length}
use Rattle.bl_syntax.specs.FormulaSpelling.{statement_spelling}

-- of a statement: the byte `S`, and its canonical bytes
unfoldable pub statement_message : StatementView → List ℕ
statement_message s = 83 ∷ statement_spelling s

-- of a withdrawal: the byte `W`, and the canonical bytes of the statement
unfoldable pub withdraw_message : StatementView → List ℕ
withdraw_message s = 87 ∷ statement_spelling s

-- of a login: the byte `L`, the name with its length byte, and the nonce
unfoldable pub login_message : List ℕ → List ℕ → List ℕ
login_message who nonce = 76 ∷ (with_length who ++ nonce)
