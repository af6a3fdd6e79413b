-- The texts of what the gate denies, refuses and rejects; the numbers of refusals and rejections
-- (this project's own).
use Rattle.std.specs.Prelude.{ℕ, List, ◌++◌, codes}
use Rattle.std.specs.Fmt.{decimal}
use Rattle.bl_text.specs.Printed.{constraint_text, state_text}
use Rattle.file_world.specs.declared.refusal.Refusal.{Refusal}
use Rattle.file_world.specs.declared.refusal.Refusal.TheVariants as refusals
use Rattle.access_history.specs.declared.reply.Rejection.{Rejection}
use Rattle.access_history.specs.declared.reply.Rejection.TheVariants.{BadSignature, RegistryFull, Duplicate}
use Rattle.access_history.specs.declared.reply.DenialCause.{DenialCause}
use Rattle.access_history.specs.declared.reply.DenialCause.TheVariants as causes
use Rattle.access_history.specs.declared.reply.Denial.{Denial}

abbrev pub cause_text : DenialCause → List ℕ
cause_text causes.Seal = codes "seal"
cause_text causes.Principal = codes "principal"
cause_text causes.File = codes "file"
cause_text causes.Permission = codes "permission"
cause_text (causes.Time place c) = codes "time " ++ (decimal place ++ (codes " " ++ constraint_text 0 c))
cause_text (causes.State place s) = codes "state " ++ (decimal place ++ (codes " " ++ state_text 0 s))
cause_text (causes.Withdrawn number) = codes "withdrawn " ++ decimal number

-- which need is denied, why, and the number of the last event
abbrev pub denial_text : Denial → List ℕ
denial_text d = codes "denied " ++ (decimal d.need ++ (codes " " ++ (cause_text d.cause ++ (codes " at " ++ decimal d.at))))

abbrev pub refusal_number : Refusal → ℕ
refusal_number refusals.NoNode = 1
refusal_number refusals.NotDirectory = 2
refusal_number refusals.IsDirectory = 3
refusal_number refusals.NoEntry = 4
refusal_number refusals.Exists = 5
refusal_number refusals.NotEmpty = 6
refusal_number refusals.BadName = 7
refusal_number refusals.TooBig = 8
refusal_number refusals.TreeFull = 9
refusal_number refusals.IntoItself = 10
refusal_number refusals.NoAttribute = 11
refusal_number refusals.AttrFull = 12
refusal_number refusals.BadAttrName = 13

-- why the operation is refused, and the number of the last event
abbrev pub refused_text : Refusal → ℕ → List ℕ
refused_text refusal at = codes "refused " ++ (decimal (refusal_number refusal) ++ (codes " at " ++ decimal at))

abbrev pub rejection_text : Rejection → List ℕ
rejection_text BadSignature = codes "rejected 1"
rejection_text RegistryFull = codes "rejected 2"
rejection_text (Duplicate number) = codes "rejected 3 " ++ decimal number
