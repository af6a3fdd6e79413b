use Rattle.std.proofs.Common.{◌≡◌, ◌==◌, not, map, length}
use Rattle.std.specs.List.{filter}
use Rattle.client_words.proofs.place.names_of.Given as goal

-- the words so far that are not empty
abbrev pub invariant-loop-word : goal.invariant-loop-word
invariant-loop-word l = l.names.items ≡ filter (λ word. not (length word == 0)) (map (λ word. word.now) l.yielded)
