-- The piece is added, or cut off at a line that is too long.
use Rattle.std.proofs.Common.{sym, subst, List, ℕ}
use Rattle.line_framer.specs.Framing.{IsOpen}
use Rattle.line_framer.proofs.FeedingLemmas.{IsOpen-more, IsFed-more, IsTooLong-already, IsTooLong-now, IsCut-at, IsOpen-cut}
use Rattle.line_framer.proofs.framer.Framer.feed.Goals as goal

pub returns-then-self : goal.returns-then-self
returns-then-self c = IsTooLong-already c.args.self.now c.self.inside.queue c.args.piece.now c.self.inside.is_long c.self.view_is c.if-self.true

pub invariant_of-self-in-Short : goal.invariant_of-self-in-Short
invariant_of-self-in-Short c =
    let left = c.self.inside.queue in
    let piece = c.args.piece.now in
    subst (λ (bytes : List ℕ). IsOpen bytes c.in-Short.last_len) (sym c.in_ok-extend-in-Short.ensures.ok) (IsOpen-more left piece c.self.inside.last_len c.in-Short.last_len c.self.invariant c.in-Short.ensures)

pub returns-in_ok-extend-in-Short : goal.returns-in_ok-extend-in-Short
returns-in_ok-extend-in-Short c =
    let left = c.self.inside.queue in
    let piece = c.args.piece.now in
    IsFed-more c.args.self.now left piece c.self.inside.is_long c.in-Short.last_len c.extend.new.self c.self.view_is c.if-self.false c.in_ok-extend-in-Short.ensures.ok
    (IsOpen-more left piece c.self.inside.last_len c.in-Short.last_len c.self.invariant c.in-Short.ensures)

pub invariant_of-self-in-Long : goal.invariant_of-self-in-Long
invariant_of-self-in-Long c =
    IsOpen-cut c.self.inside.queue c.args.piece.now c.cut.new.queue
    (IsCut-at c.self.inside.queue c.args.piece.now c.cut.new.queue c.self.inside.last_len c.in-Long.whole c.in_ok-cut-in-Long.ensures.ok c.self.invariant c.in-Long.ensures)

pub returns-in_ok-cut-in-Long : goal.returns-in_ok-cut-in-Long
returns-in_ok-cut-in-Long c =
    IsTooLong-now c.args.self.now c.self.inside.queue c.args.piece.now c.cut.new.queue c.self.inside.is_long c.self.view_is c.if-self.false
    (IsCut-at c.self.inside.queue c.args.piece.now c.cut.new.queue c.self.inside.last_len c.in-Long.whole c.in_ok-cut-in-Long.ensures.ok c.self.invariant c.in-Long.ensures)
