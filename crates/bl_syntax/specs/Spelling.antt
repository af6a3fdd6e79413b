-- Canonical bytes: the one spelling of each name, text, point in time and term. The format is this
-- project's own. Its numbers are big-endian.
use Rattle.std.specs.Prelude.{◌<◌, ◌^◌, ℕ, List, [], ◌∷◌, length, IsTrue}
use Rattle.std.specs.Int.{w32, w64, to_be_bytes, cast_unsigned}
use Rattle.bl_syntax.specs.declared.terms.Sort.{Sort}
use Rattle.bl_syntax.specs.declared.terms.Sort.TheVariants as sorts
use Rattle.bl_syntax.specs.declared.terms.Perm.{Perm as Permission}
use Rattle.bl_syntax.specs.declared.terms.Perm.TheVariants as permissions
use Rattle.bl_syntax.specs.declared.terms.TimePoint.{TimePoint}
use Rattle.bl_syntax.specs.declared.terms.TimePoint.TheVariants.{NegInf, At, PosInf}
use Rattle.bl_syntax.specs.declared.terms.Term.{Term}
use Rattle.bl_syntax.specs.declared.terms.Term.TheVariants.{Prin, File, Perm, Time, Text, Ctime, Param, Bound}
use Rattle.bl_syntax.specs.Names.{is_principal_name, is_text}
use Rattle.bl_syntax.specs.TimeOrder.{IsInRange}

-- a name or a text: one byte of length, and that many bytes
abbrev pub with_length : List ℕ → List ℕ
with_length bytes = length bytes ∷ bytes

-- the byte of a permission
abbrev pub permission_code : Permission → ℕ
permission_code permissions.Read = 1
permission_code permissions.Write = 2
permission_code permissions.Execute = 3
permission_code permissions.Identity = 4
permission_code permissions.Govern = 5

-- the byte of a sort
abbrev pub sort_code : Sort → ℕ
sort_code sorts.Principal = 1
sort_code sorts.File = 2
sort_code sorts.Perm = 3
sort_code sorts.Time = 4
sort_code sorts.Text = 5

-- a moment has its second in two's complement
unfoldable pub time_spelling : TimePoint → List ℕ
time_spelling NegInf = 0 ∷ []
time_spelling (At second) = 1 ∷ to_be_bytes w64 (cast_unsigned w64 second)
time_spelling PosInf = 2 ∷ []

-- the tag of the term's kind, and its field
unfoldable pub term_spelling : Term → List ℕ
term_spelling (Prin name) = 1 ∷ with_length name
term_spelling (File node) = 2 ∷ to_be_bytes w64 node.0
term_spelling (Perm permission) = 3 ∷ permission_code permission ∷ []
term_spelling (Time point) = 4 ∷ time_spelling point
term_spelling (Text text) = 5 ∷ with_length text
term_spelling Ctime = 6 ∷ []
term_spelling (Param n) = 7 ∷ to_be_bytes w32 n
term_spelling (Bound n) = 8 ∷ to_be_bytes w32 n

-- the term has a spelling: its name or text is in the grammar, its number fits its bytes, and its
-- time lies in the range of moments
abbrev pub IsSpellable : Term → Type 0
IsSpellable (Prin name) = IsTrue (is_principal_name name)
IsSpellable (File node) = node.0 < 2 ^ 64
IsSpellable (Perm permission) = Unit {0}
IsSpellable (Time point) = IsInRange point
IsSpellable (Text text) = IsTrue (is_text text)
IsSpellable Ctime = Unit {0}
IsSpellable (Param n) = n < 2 ^ 32
IsSpellable (Bound n) = n < 2 ^ 32
