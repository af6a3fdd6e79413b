-- The number under which a damage is reported (this project's own).
use Rattle.std.specs.Prelude.{ℕ}
use Rattle.op_gate.specs.declared.damage.Damage.{Damage}
use Rattle.op_gate.specs.declared.damage.Damage.TheVariants.{Header, Shape, Unsigned, Unproved, NotAdmitted, MomentFalls, Duplicate}

abbrev pub damage_number : Damage → ℕ
damage_number Header = 1
damage_number Shape = 2
damage_number Unsigned = 3
damage_number Unproved = 4
damage_number NotAdmitted = 5
damage_number MomentFalls = 6
damage_number Duplicate = 7
