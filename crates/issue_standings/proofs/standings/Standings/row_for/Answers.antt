-- The row that was found, or a new one.
use Rattle.std.proofs.Common.{ℕ, refl, subst, sym}
use Rattle.std.proofs.lemmas.List.{length-map}
use Rattle.issue_standings.specs.Index.{HasNewRow, added_row, kept_row}
use Rattle.issue_standings.proofs.standings.Standings.row_for.Goals as goal

pub returns-in-Some : goal.returns-in-Some
returns-in-Some g c = kept_row c.in-Some.row c.in-Some.ensures.row (c.in-Some.ensures.known refl) refl

pub returns-in-None : goal.returns-in-None
returns-in-None g c =
    added_row c.add_row.result c.in-None.ensures.row (subst (λ (n : ℕ). HasNewRow c.args.self.now c.add_row.new.self n c.args.front) (sym (length-map c.args.issues.now g.B.Bearing.bearing)) c.add_row.ensures.new) c.add_row.ensures.row
