-- What reading and signing one line gives (this project's own).
use Rattle.std.specs.Prelude.{◌≡◌, ◌<◌, ℕ, ◌+◌, ◌^◌, List, Option, Some, None}
use Rattle.bl_syntax.specs.Statement.{StatementView}
use Rattle.line_forms.specs.declared.fault.LineFault.{LineFault}
use Rattle.line_forms.specs.declared.fault.LineFault.TheVariants.{BadWord, BadCount, BadText, NoMemory}
use Rattle.merkle_sig.specs.Signer.{SignerView}
use Rattle.root_signing.specs.Signed.{Decides, register_line, spent_line}
use Rattle.root_signing.specs.SigningLines.{IsSeedFault, SaysStatement}

-- the line that is to give a seed has this fault, or there was no memory to read it
abbrev pub IsUnreadSeed : List ℕ → LineFault → Type 0
IsUnreadSeed line (BadWord place) = IsSeedFault line (BadWord place)
IsUnreadSeed line BadCount = IsSeedFault line BadCount
IsUnreadSeed line (BadText fault) = IsSeedFault line (BadText fault)
IsUnreadSeed line NoMemory = Unit {0}

-- the statement of the text was signed by the next leaf, which is spent; or none is left, and that
-- decides the status
abbrev pub SignsStatement : SignerView → List ℕ → StatementView → Option ℕ → SignerView → List ℕ →
    Type 0
SignsStatement s text said None after written =
    (s.next < 2 ^ s.height) × (after ≡ record s { next = s.next + 1 }) ×
    (written ≡ register_line s.seed s.height s.next text said)
SignsStatement s text said (Some status) after written = (s.next ≡ 2 ^ s.height) × (status ≡ 18) ×
    (written ≡ spent_line s.height)

-- the line of this number was signed so; or it decides the status
abbrev pub SignsLine : SignerView → ℕ → List ℕ → Option ℕ → SignerView → List ℕ → Type 0
SignsLine s number line None after written =
    (text : List ℕ) × (said : StatementView) × SaysStatement line text said ×
    SignsStatement s text said None after written
SignsLine s number line (Some status) after written = Decides s.height s.next number line status written
