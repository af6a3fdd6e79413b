-- The row is the last, and the front leads to it.
use Rattle.std.proofs.Common.{◌≡◌, ◌==◌, ◌∙◌, ℕ, Some, ap, cond, length, refl, rules, arith}
use Rattle.issue_standings.specs.Index.{row_at}
use Rattle.issue_standings.proofs.IndexLemmas.{done}
use Rattle.issue_standings.proofs.standings.Standings.add_row.Goals as goal

pub returns-clause-new : goal.returns-clause-new
returns-clause-new c =
    let row : c.len-row.result ≡ length c.args.self.now.rows.items = search rules in
    record {
      rows = c.push_reserved.ensures.items;
      row_of = refl;
      fronts = λ sought.
          (done c.insert.result c.insert.ensures.updates (c.insert.ensures.succeeds (grind (arith, c.requires)))).0 sought ∙ ap (λ (n : ℕ). cond (c.args.front == sought) (Some n) (row_at c.args.self.now sought)) row;
    }
