-- Issues kept as the bytes of their records, and the parts of these bytes (this project's own).
use Rattle.std.specs.Prelude.{◌≡◌, ◌*◌, ◌==◌, ℕ, List, [], ◌∷◌, length, take, drop, Bool, Ok, Err}
use Rattle.std.specs.Coded.{Coded, coded×, coded_ℕ, coded_list}
use Rattle.std.specs.Int.{w32, from_be_bytes}
use Rattle.std.specs.List.{list_any}
use Rattle.bl_syntax.specs.declared.terms.Perm.TheVariants.{Read}
use Rattle.bl_syntax.specs.contracts.grant.Grant as grant
use Rattle.bl_syntax.specs.Reading.{Reading}
use Rattle.proof_term.specs.Proof.{true_r}
use Rattle.proof_term.specs.ProofCode.{proof_code}
use Rattle.record_parts.specs.Fields.{u32_at}
use Rattle.record_parts.specs.RecordReading.{issued_at}
use Rattle.record_parts.specs.RecordSpelling.{Issuing, IsIssuing, issuing_spelling}

-- issues can be told apart
abbrev pub issuing_code : Coded Issuing
issuing_code = coded× (coded_list coded_ℕ) (coded× proof_code grant.the_row.coded)

-- some issue or other
abbrev pub some_issue : Issuing
some_issue = ([], (true_r, record { goal = record { who = []; file = record { 0 = 0 }; perm = Read }; times = []; states = []; cited = [] }))

-- what was read; after a fault some issue or other
abbrev pub read_issue : Reading Issuing → Issuing
read_issue (Ok read) = read.0
read_issue (Err fault) = some_issue

-- the issue that begins the bytes; some issue or other if none does
unfoldable pub issue_of : List ℕ → Issuing
issue_of bytes = read_issue (issued_at (length bytes) bytes)

-- the bytes are those of the issue
pub record IsIssuingRecord (i : Issuing) (bytes : List ℕ) : Type 0 where
  pub spelled : IsIssuing i
  pub written : bytes ≡ issuing_spelling i

-- ---- the parts of the bytes

-- the bytes of the numbers that are cited, and those after them
abbrev pub cited_part : List ℕ → List ℕ
cited_part [] = []
cited_part (count ∷ rest) = take (count * 4) rest

abbrev pub proved_part : List ℕ → List ℕ
proved_part [] = []
proved_part (count ∷ rest) = drop (count * 4) rest

-- what is after so many bytes as the length says that was read
abbrev pub after_length : Reading ℕ → List ℕ
after_length (Ok len) = drop len.0 len.1
after_length (Err fault) = []

-- the bytes of the grant
abbrev pub grant_part : List ℕ → List ℕ
grant_part bytes = after_length (u32_at (proved_part bytes))

-- the numbers of four bytes each
unfoldable pub numbers_in : List ℕ → List ℕ
numbers_in (a ∷ b ∷ c ∷ d ∷ rest) = from_be_bytes w32 (a ∷ b ∷ c ∷ d ∷ []) ∷ numbers_in rest
numbers_in _ = []

-- ---- what is asked of an issue

abbrev pub cited_of : Issuing → List ℕ
cited_of i = i.0

-- its grant names no statements
abbrev pub is_plain : Issuing → Bool
is_plain i = length i.1.1.cited == 0

-- one of the numbers is this one
abbrev pub has_number : ℕ → List ℕ → Bool
has_number number numbers = list_any (λ (n : ℕ). n == number) numbers
