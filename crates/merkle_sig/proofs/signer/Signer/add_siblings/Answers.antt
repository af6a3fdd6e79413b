use Rattle.std.proofs.Common.{◌≡◌, ◌+◌, ◌^◌, ◌<◌, ℕ, List, [], get_or, ap, ap₂, subst, ◌∙◌}
use Rattle.merkle_sig.specs.Nodes.{IsTree}
use Rattle.merkle_sig.specs.Signer.{SignerView}
use Rattle.merkle_sig.proofs.NodesLemmas.{node_beside, up_the_way, way_first}
use Rattle.merkle_sig.proofs.StepLemmas.{siblings_none, siblings_step}
use Rattle.merkle_sig.proofs.signer.Signer.add_siblings.Goals as goal

pub loop-level-init : goal.loop-level-init
loop-level-init c =
    let high : c.self.inside.height ≡ c.args.self.now.height = ap (λ (s : SignerView). s.height) c.self.view_is in
    let following : c.self.inside.next ≡ c.args.self.now.next = ap (λ (s : SignerView). s.next) c.self.view_is in
    let begins : c.width_of.result + c.self.inside.next ≡ 2 ^ c.args.self.now.height + c.args.self.now.next =
    ap₂ (λ (width next : ℕ). width + next) (c.width_of.ensures ∙ ap (λ (h : ℕ). 2 ^ h) high) following in
    record {
      way = way_first c.args.self.now.height c.args.self.now.next (c.width_of.result + c.self.inside.next) begins;
      added = siblings_none c.args.signature.now c.args.self.now.seed c.args.self.now.next;
    }

pub loop-level-preserved : goal.loop-level-preserved
loop-level-preserved c =
    let s : SignerView = c.args.self.now in
    let nodes : List (List ℕ) = c.self.inside.nodes in
    let high : c.self.inside.height ≡ s.height = ap (λ (t : SignerView). t.height) c.self.view_is in
    let tree : IsTree s.seed s.height nodes = subst (λ (t : SignerView). IsTree t.seed t.height nodes) c.self.view_is c.self.invariant.2 in
    let below : c.loop-level.level < s.height = subst (λ (h : ℕ). c.loop-level.level < h) high c.loop-level-test.true in
    record {
      way = up_the_way s.seed s.height s.next c.loop-level.level c.loop-level.place nodes tree c.requires below c.loop-level.invariant.way;
      added = siblings_step c.args.signature.now s.seed s.next c.loop-level.level (get_or nodes c.beside.result []) c.loop-level.signature c.extend.new.self c.loop-level.invariant.added
          (ap (λ (i : ℕ). get_or nodes i []) c.beside.ensures ∙ node_beside s.seed s.height s.next c.loop-level.level c.loop-level.place nodes tree c.requires below c.loop-level.invariant.way)
          c.in_ok-extend.ensures.ok;
    }
