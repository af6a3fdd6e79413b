-- The needs of works are those that the server has.
use Rattle.std.proofs.Common.{◌≡◌, ℕ, ◌<◌, List, [], ◌∷◌, ◌++◌, length, get_or, All, Option, Some, sym, ap, ◌∙◌, subst}
use Rattle.bl_syntax.specs.declared.terms.NodeId.{NodeId}
use Rattle.bl_syntax.specs.declared.terms.Perm.{Perm}
use Rattle.bl_syntax.specs.declared.terms.Perm.TheVariants as perm
use Rattle.file_world.specs.declared.operation.Op.{Op}
use Rattle.file_world.specs.declared.operation.Op.TheVariants.{Unlink, Rename}
use Rattle.file_world.specs.Needs.{needs, need, child_need}
use Rattle.file_world.specs.Needs.{Need as ServersNeed}
use Rattle.file_world.specs.World.{World}
use Rattle.client_tree.specs.declared.asking.Need.{Need}
use Rattle.client_tree.specs.declared.asking.Work.{Work}
use Rattle.client_tree.specs.Works.{IsNeed, NeedsOne, in_order, IsTarget, AreNeedsOf, AsksAsNeeded, IsWorkOf}

-- a need as the server counts it
counted : (place : ℕ) (node : NodeId) (permission : Perm) (one : Need) → IsNeed node permission one
    → need place one.node one.permission ≡ need place node permission
counted place node permission one is =
    ap (λ (n : NodeId). need place n one.permission) is.node_is ∙ ap (λ (p : Perm). need place node p) is.permission_is

-- an operation that needs one permission
pub one_needed : (op : Op) (node : NodeId) (permission : Perm) (one : Need)
    → NeedsOne op node permission → IsNeed node permission one → AreNeedsOf op (one ∷ [])
one_needed op node permission one needed is = record {
  node = node;
  each = λ world target. ap (λ (n : ServersNeed). n ∷ []) (counted 1 node permission one is) ∙ sym (needed world);
}

-- a name that is removed
pub unlink_needed : (directory node : NodeId) (name : List ℕ) (first second : Need)
    → IsNeed directory perm.Write first → IsNeed node perm.Identity second
    → AreNeedsOf (Unlink directory name) (first ∷ second ∷ [])
unlink_needed directory node name first second write identity = record {
  node = node;
  each = λ world target.
      ap (λ (n : ServersNeed). n ∷ need 2 second.node second.permission ∷ []) (counted 1 directory perm.Write first write)
      ∙ (ap (λ (n : ServersNeed). need 1 directory perm.Write ∷ n ∷ []) (counted 2 node perm.Identity second identity)
      ∙ ap (λ (c : Option ℕ). need 1 directory perm.Write ∷ child_need 2 c) (sym target));
}

-- a name that is changed
pub rename_needed : (directory target node : NodeId) (name renamed : List ℕ) (first second third : Need)
    → IsNeed directory perm.Write first → IsNeed target perm.Write second → IsNeed node perm.Identity third
    → AreNeedsOf (Rename directory name target renamed) (first ∷ second ∷ third ∷ [])
rename_needed directory target node name renamed first second third from to identity = record {
  node = node;
  each = λ world here.
      ap (λ (n : ServersNeed). n ∷ need 2 second.node second.permission ∷ need 3 third.node third.permission ∷ [])
      (counted 1 directory perm.Write first from)
      ∙ (ap (λ (n : ServersNeed). need 1 directory perm.Write ∷ n ∷ need 3 third.node third.permission ∷ [])
      (counted 2 target perm.Write second to)
      ∙ (ap (λ (n : ServersNeed). need 1 directory perm.Write ∷ need 2 target perm.Write ∷ n ∷ [])
      (counted 3 node perm.Identity third identity)
      ∙ ap (λ (c : Option ℕ). need 1 directory perm.Write ∷ need 2 target perm.Write ∷ child_need 3 c) (sym here)));
}

-- the work of an operation, by its parts
pub work_is : (op : Op) (wanted : List Need) (work : Work) → work.op ≡ op → work.needs.items ≡ wanted → AreNeedsOf op wanted
    → IsWorkOf op work
work_is op wanted work op_is needs_are are = record {
  op_is = op_is;
  as_needed = subst (λ (o : Op). AreNeedsOf o work.needs.items) (sym op_is)
      (subst (λ (w : List Need). AreNeedsOf op w) (sym needs_are) are);
}

-- each work of a list
pub each_asks : (works : List Work) (k : ℕ) (work : Work) → All AsksAsNeeded works → k < length works
    → work ≡ get_or works k work → AsksAsNeeded work
each_asks works k work all below is = subst AsksAsNeeded (sym is) (all k work below)

-- lists that were made by pushes
pub pushed_one : (start end : List Need) (first : Need) → start ≡ [] → end ≡ start ++ first ∷ [] → end ≡ first ∷ []
pushed_one start end first none is = is ∙ ap (λ (l : List Need). l ++ first ∷ []) none

pub pushed_two : (start middle end : List Need) (first second : Need) → start ≡ [] → middle ≡ start ++ first ∷ []
    → end ≡ middle ++ second ∷ [] → end ≡ first ∷ second ∷ []
pushed_two start middle end first second none one is =
    is ∙ ap (λ (l : List Need). l ++ second ∷ []) (pushed_one start middle first none one)

pub pushed_three : (start one_long two_long end : List Need) (first second third : Need) → start ≡ []
    → one_long ≡ start ++ first ∷ [] → two_long ≡ one_long ++ second ∷ [] → end ≡ two_long ++ third ∷ []
    → end ≡ first ∷ second ∷ third ∷ []
pushed_three start one_long two_long end first second third none one two is =
    is ∙ ap (λ (l : List Need). l ++ third ∷ []) (pushed_two start one_long two_long first second none one two)
