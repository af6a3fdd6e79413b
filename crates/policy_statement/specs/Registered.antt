-- What is registered. This project's own.
use Rattle.std.specs.Prelude.{ℕ, List, Bool, ◌-◌, Vec, vec_len, vec_capacity}
use Rattle.std.specs.declared.alloc.Global.{Global}
use Rattle.bl_syntax.specs.Statement.{StatementView}

-- a statement, the signature with which it was registered, and whether it was withdrawn
pub record RegisteredView : Type 0 where
  pub statement : StatementView
  pub signature : List ℕ
  pub withdrawn : Bool

-- all that is registered, in order, and for how many more there is room
pub record RegistryView : Type 0 where
  pub entries : List RegisteredView
  pub spare : ℕ

-- how many items a vector takes without growing
abbrev pub spare_of : {A : Type 0} → Vec A Global → ℕ
spare_of v = vec_capacity v - vec_len v
