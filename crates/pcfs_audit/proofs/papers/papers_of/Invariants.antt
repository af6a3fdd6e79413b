-- The papers of the events so far.
use Rattle.std.proofs.Common.{take}
use Rattle.pcfs_audit.specs.Papers.{ArePapers}
use Rattle.pcfs_audit.proofs.papers.papers_of.Given as goal

abbrev pub invariant-loop-event : goal.invariant-loop-event
invariant-loop-event l = ArePapers l.base (take l.event-index l.events) l.papers
