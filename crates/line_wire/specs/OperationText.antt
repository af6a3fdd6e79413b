-- The texts of what operations return (this project's own).
use Rattle.std.specs.Prelude.{ℕ, List, ◌++◌, codes}
use Rattle.std.specs.Fmt.{decimal}
use Rattle.std.specs.List.{flat_map}
use Rattle.line_text.specs.HexWord.{hex_word}
use Rattle.file_world.specs.declared.reply.NamedNode.{NamedNode}
use Rattle.file_world.specs.declared.reply.TreeReply.{TreeReply}
use Rattle.file_world.specs.declared.reply.TreeReply.TheVariants as trees
use Rattle.file_world.specs.declared.reply.MetaReply.{MetaReply}
use Rattle.file_world.specs.declared.reply.MetaReply.TheVariants as metas
use Rattle.file_world.specs.declared.reply.OpReply.{OpReply}
use Rattle.file_world.specs.declared.reply.OpReply.TheVariants.{Tree, Meta}

-- a name in a directory and its node, after a space
abbrev pub named_text : NamedNode → List ℕ
named_text named = codes " " ++ (named.name ++ (codes "#" ++ decimal named.node.0))

abbrev pub names_text : List NamedNode → List ℕ
names_text names = flat_map named_text names

abbrev pub tree_text : TreeReply → List ℕ
tree_text trees.Done = codes "ok"
tree_text (trees.Bytes bytes) = codes "ok bytes " ++ hex_word bytes
tree_text (trees.Names names) = codes "ok list" ++ names_text names
tree_text (trees.Node node) = codes "ok node #" ++ decimal node.0

abbrev pub attribute_text : MetaReply → List ℕ
attribute_text metas.Done = codes "ok"
attribute_text (metas.Text value) = codes "ok text \"" ++ (value ++ codes "\"")

abbrev pub operation_text : OpReply → List ℕ
operation_text (Tree reply) = tree_text reply
operation_text (Meta reply) = attribute_text reply
