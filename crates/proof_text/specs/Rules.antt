-- The names of rules in texts (this project's own).
use Rattle.std.specs.Prelude.{ℕ, List, codes, Option, Some, None, if◌then◌else◌}
use Rattle.std.specs.Str.{bytes_eq}
use Rattle.proof_text.specs.declared.names.PlainRule.{PlainRule}
use Rattle.proof_text.specs.declared.names.PlainRule.TheVariants.{ConsR, InterR, AndR, OrR1, OrR2, TrueR, ImpR, ForallR, ExistsR, SaysR, AtR}
use Rattle.proof_text.specs.declared.names.CitingRule.{CitingRule}
use Rattle.proof_text.specs.declared.names.CitingRule.TheVariants.{Init, ConsL, InterL, AndL, OrL, FalseL, ImpL, ForallL, ExistsL, SaysL, Claim, AtL}
use Rattle.proof_text.specs.declared.names.RuleName.{RuleName}
use Rattle.proof_text.specs.declared.names.RuleName.TheVariants.{Plain, Citing}

-- the rules that name no hypothesis
abbrev pub plain_named : List ℕ → Option PlainRule
plain_named word =
    if bytes_eq word (codes "consR") then Some ConsR else
    if bytes_eq word (codes "interR") then Some InterR else
    if bytes_eq word (codes "andR") then Some AndR else
    if bytes_eq word (codes "orR1") then Some OrR1 else
    if bytes_eq word (codes "orR2") then Some OrR2 else
    if bytes_eq word (codes "trueR") then Some TrueR else
    if bytes_eq word (codes "impR") then Some ImpR else
    if bytes_eq word (codes "forallR") then Some ForallR else
    if bytes_eq word (codes "existsR") then Some ExistsR else
    if bytes_eq word (codes "saysR") then Some SaysR else
    if bytes_eq word (codes "atR") then Some AtR else
    None

-- the rules whose first field is the number of a hypothesis
abbrev pub citing_named : List ℕ → Option CitingRule
citing_named word =
    if bytes_eq word (codes "init") then Some Init else
    if bytes_eq word (codes "consL") then Some ConsL else
    if bytes_eq word (codes "interL") then Some InterL else
    if bytes_eq word (codes "andL") then Some AndL else
    if bytes_eq word (codes "orL") then Some OrL else
    if bytes_eq word (codes "falseL") then Some FalseL else
    if bytes_eq word (codes "impL") then Some ImpL else
    if bytes_eq word (codes "forallL") then Some ForallL else
    if bytes_eq word (codes "existsL") then Some ExistsL else
    if bytes_eq word (codes "saysL") then Some SaysL else
    if bytes_eq word (codes "claim") then Some Claim else
    if bytes_eq word (codes "atL") then Some AtL else
    None

abbrev citing_or_none : Option CitingRule → Option RuleName
citing_or_none None = None
citing_or_none (Some rule) = Some (Citing rule)

abbrev plain_or_citing : Option PlainRule → Option CitingRule → Option RuleName
plain_or_citing None citing = citing_or_none citing
plain_or_citing (Some rule) citing = Some (Plain rule)

-- the rule of that name
unfoldable pub rule_named : List ℕ → Option RuleName
rule_named word = plain_or_citing (plain_named word) (citing_named word)
