-- Procaps in the order in which they came (this project's own).
use Rattle.std.specs.Prelude.{ℕ, List, Bool, ◌&&◌, ◌==◌, Option}
use Rattle.std.specs.List.{find}
use Rattle.bl_syntax.specs.Equality.{principal_eq, perm_eq}
use Rattle.bl_syntax.specs.declared.terms.NodeId.{NodeId}
use Rattle.bl_syntax.specs.declared.terms.Perm.{Perm}
use Rattle.procap.specs.declared.procap.Procap.{Procap}

-- the procap names the principal, the file and the permission
abbrev pub is_fitting : List ℕ → NodeId → Perm → Procap → Bool
is_fitting who node permission p =
    p.grant.goal.file.0 == node.0 && perm_eq p.grant.goal.perm permission && principal_eq p.grant.goal.who who

-- the first such procap; its conditions, its numbers and its tag are not looked at
abbrev pub fitting : List Procap → List ℕ → NodeId → Perm → Option Procap
fitting purse who node permission = find (is_fitting who node permission) purse
