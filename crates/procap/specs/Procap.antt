-- Procaps: a grant with its tag; their one spelling, and their reading (after procaps: Garg and
-- Pfenning, A proof-carrying file system, 2010). The format is this
-- project's own.
use Rattle.std.specs.Prelude.{◌≡◌, ℕ, List, [], ◌∷◌, ◌++◌, length, take, drop, nat_lt, if◌then◌else◌, Result, Ok, Err, IfOk, IfErr}
use Rattle.bl_syntax.specs.declared.codec_fault.CodecFault.{CodecFault}
use Rattle.bl_syntax.specs.declared.codec_fault.CodecFault.TheVariants as faults
use Rattle.bl_syntax.specs.Reading.{◌>>=◌, Reading, place}
use Rattle.procap.specs.GrantSpelling.{grant_spelling, IsSpellableGrant}
use Rattle.procap.specs.GrantReading.{grant_at}
use Rattle.procap.specs.declared.procap.Procap.{Procap}

-- the grant, and the 32 bytes of the tag
unfoldable pub procap_spelling : Procap → List ℕ
procap_spelling p = grant_spelling p.grant ++ p.tag

-- the procap has a spelling: its grant has one, and its tag is 32 bytes
pub record IsSpellableProcap (p : Procap) : Type 0 where
  pub grant : IsSpellableGrant p.grant
  pub length_of_tag : length p.tag ≡ 32

-- the 32 bytes of a tag
unfoldable pub tag_at : List ℕ → Reading (List ℕ)
tag_at bytes = if nat_lt (length bytes) 32 then Err faults.Short else Ok (take 32 bytes, drop 32 bytes)

-- a grant, and then a tag
unfoldable pub procap_at : ℕ → List ℕ → Reading Procap
procap_at input bytes = do
  grant ← grant_at input bytes
  tag ← tag_at grant.1
  Ok (record { grant = grant.0; tag = tag.0 }, tag.1)

-- nothing may be left over
abbrev pub at_end : {A : Type 0} → ℕ → A × List ℕ → Result A CodecFault
at_end input (x, []) = Ok x
at_end input (x, byte ∷ rest) = Err (faults.NotCanonical (place input (byte ∷ rest)))

-- a procap that is the whole input, or the first fault
unfoldable pub whole_procap : List ℕ → Result Procap CodecFault
whole_procap bytes = procap_at (length bytes) bytes >>= at_end (length bytes)

-- what a call read of the whole bytes: the value of which they are the spelling, or a fault, which
-- comes only if they spell none, or because memory runs out
pub record ReadsWholeProcap {A : Type 0} (IsSpelled : A → Type 0) (spelling : A → List ℕ) (bytes : List ℕ) (result : Result A CodecFault) : Type 0 where
  pub found : IfOk result (λ x. IsSpelled x × (bytes ≡ spelling x))
  pub refused : IfErr result (λ fault. (fault ≡ faults.NoMemory → ⊥) → (x : A) → IsSpelled x → bytes ≡ spelling x → ⊥)
