-- The names that a directory keeps are those of its children, both in byte order.
use Rattle.std.proofs.Common.{◌≡◌, List, IfOk, sym, subst}
use Rattle.file_world.specs.declared.reply.NamedNode.{NamedNode}
use Rattle.file_tree.proofs.ListLemmas.{listed_names, no_listed_names}
use Rattle.file_tree.proofs.listing.names_of.Goals as goal

pub returns-in-None : goal.returns-in-None
returns-in-None c = no_listed_names c.args.nodes.now.entries c.args.directory c.requires.holds (sym c.in-None.ensures.value)

pub returns-in-Some : goal.returns-in-Some
returns-in-Some c =
    subst (λ (names : List NamedNode). IfOk c.list_entry.result (λ result. result ≡ names))
    (listed_names c.args.nodes.now.entries c.args.next c.args.directory c.in-Some.node.now c.requires.kept c.requires.holds (sym c.in-Some.ensures.value) c.list_entry.ensures.sorted)
    c.list_entry.ensures.listed
