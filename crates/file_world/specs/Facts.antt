-- What is true of the world, as far as policy can speak of it (this project's own predicates).
use Rattle.std.specs.Prelude.{ℕ, List, [], ◌∷◌, ◌++◌, map, if◌then◌else◌, ◌==◌}
use Rattle.bl_syntax.specs.declared.terms.Term.TheVariants.{Prin, File, Text}
use Rattle.bl_syntax.specs.declared.terms.StatePred.{StatePred}
use Rattle.bl_syntax.specs.declared.terms.StatePred.TheVariants.{Owner, HasXattr, InDir}
use Rattle.file_world.specs.Attributes.{Mark, Marks}
use Rattle.file_world.specs.Limits.{root_number}
use Rattle.file_world.specs.World.{World, marks_of}

-- who owns a node
abbrev pub ownership : ℕ → Mark → StatePred
ownership number mark = Owner (File (record { 0 = number })) (Prin mark.owner)

-- the value of an attribute of a node
abbrev pub possession : ℕ → List ℕ × List ℕ → StatePred
possession number attribute = HasXattr (File (record { 0 = number })) (Text attribute.0) (Text attribute.1)

-- which directory holds a node; none holds the root
abbrev pub containment : ℕ → Mark → List StatePred
containment number mark = if number == root_number then [] else InDir (File (record { 0 = number })) (File (record { 0 = mark.parent })) ∷ []

-- what is true of a node
abbrev pub facts_of_node : ℕ → Mark → List StatePred
facts_of_node number mark = ownership number mark ∷ containment number mark ++ map (possession number) mark.attributes

-- what is true of all of them
abbrev pub facts_of_marks : Marks → List StatePred
facts_of_marks [] = []
facts_of_marks (row ∷ rows) = facts_of_node row.0 row.1 ++ facts_of_marks rows

-- what is true of the world
abbrev pub facts : World → List StatePred
facts world = facts_of_marks (marks_of world)
