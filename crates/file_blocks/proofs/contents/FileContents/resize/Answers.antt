-- A cut gives blocks back and wipes the end of the last one; bytes that are filled up were zero before.
use Rattle.std.proofs.Common.{◌≡◌, ◌≤◌, ◌*◌, ℕ, min, true, false, sym, ap, ◌∙◌, subst, length, take, nat_lt}
use Rattle.std.proofs.lemmas.Bool.{cond-true, cond-false, lt-ltb, le-ltb}
use Rattle.file_world.specs.TreeEffect.{resize_to}
use Rattle.file_blocks.specs.declared.contents.FileContents.TheInside.{Inside}
use Rattle.file_blocks.specs.Blocks.{ContentsView, AreContents, blocks_for}
use Rattle.file_blocks.proofs.StepLemmas.{resized_up, resized_down, length-contents}
use Rattle.file_blocks.proofs.contents.FileContents.resize.Goals as goal
use Rattle.file_blocks.proofs.contents.FileContents.resize.Goals.{then-len-self, else-len-self}

pub invariant_of-self : goal.invariant_of-self
invariant_of-self c =
    elim c.if-len-self.branch [
      | then-len-self w ↦
          subst (λ (s : Inside). AreContents s.blocks c.args.len) (sym w.self-inside-is)
          (resized_down c.self.inside.blocks w.cut.new.self c.self.inside.len c.args.len c.self.invariant w.if-len-self.true w.cut.ensures.room w.cut.ensures.bytes).kept
      | else-len-self w ↦
          subst (λ (s : Inside). AreContents s.blocks c.args.len) (sym w.self-inside-is)
          (resized_up c.self.inside.blocks c.self.inside.len c.args.len c.self.invariant w.if-len-self.false (subst (λ (v : ContentsView). c.args.len ≤ v.room) (sym c.self.view_is) c.requires)).kept
    ]

pub returns-clause-bytes : goal.returns-clause-bytes
returns-clause-bytes c =
    elim c.if-len-self.branch [
      | then-len-self w ↦
          ap (λ (s : Inside). take c.args.len s.blocks) w.self-inside-is
          ∙ ((resized_down c.self.inside.blocks w.cut.new.self c.self.inside.len c.args.len c.self.invariant w.if-len-self.true w.cut.ensures.room w.cut.ensures.bytes).bytes_are
          ∙ ap (λ (v : ContentsView). resize_to v.bytes c.args.len) c.self.view_is)
      | else-len-self w ↦
          ap (λ (s : Inside). take c.args.len s.blocks) w.self-inside-is
          ∙ ((resized_up c.self.inside.blocks c.self.inside.len c.args.len c.self.invariant w.if-len-self.false (subst (λ (v : ContentsView). c.args.len ≤ v.room) (sym c.self.view_is) c.requires)).bytes_are
          ∙ ap (λ (v : ContentsView). resize_to v.bytes c.args.len) c.self.view_is)
    ]

pub returns-clause-room : goal.returns-clause-room
returns-clause-room c =
    let long : c.self.inside.len ≡ length c.args.self.now.bytes =
    sym (length-contents c.self.inside.blocks c.self.inside.len c.self.invariant) ∙ ap (λ (v : ContentsView). length v.bytes) c.self.view_is in
    elim c.if-len-self.branch [
      | then-len-self w ↦
          let test : nat_lt c.args.len (length c.args.self.now.bytes) ≡ true = ap (λ (n : ℕ). nat_lt c.args.len n) (sym long) ∙ lt-ltb c.args.len c.self.inside.len w.if-len-self.true in
          ap (λ (s : Inside). length s.blocks) w.self-inside-is
          ∙ (w.cut.ensures.room
          ∙ (ap (λ (v : ContentsView). min v.room (4096 * blocks_for c.args.len)) c.self.view_is
          ∙ sym (cond-true (nat_lt c.args.len (length c.args.self.now.bytes)) (min c.args.self.now.room (4096 * blocks_for c.args.len)) c.args.self.now.room test)))
      | else-len-self w ↦
          let test : nat_lt c.args.len (length c.args.self.now.bytes) ≡ false = ap (λ (n : ℕ). nat_lt c.args.len n) (sym long) ∙ le-ltb c.args.len c.self.inside.len w.if-len-self.false in
          ap (λ (s : Inside). length s.blocks) w.self-inside-is
          ∙ (ap (λ (v : ContentsView). v.room) c.self.view_is
          ∙ sym (cond-false (nat_lt c.args.len (length c.args.self.now.bytes)) (min c.args.self.now.room (4096 * blocks_for c.args.len)) c.args.self.now.room test))
    ]
