-- The qids of the files so far.
use Rattle.std.proofs.Common.{◌≡◌, map, take}
use Rattle.nine_fids.specs.Files.{qid_of}
use Rattle.nine_front.proofs.replying.qids.Given as goal

abbrev pub invariant-loop-file : goal.invariant-loop-file
invariant-loop-file l = l.qids.items ≡ map qid_of (take l.file-index l.found)
