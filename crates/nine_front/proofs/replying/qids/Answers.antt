-- Each file adds its qid.
use Rattle.std.proofs.Common.{arith}
use Rattle.nine_fids.specs.declared.fid.FidFile.TheVariants as files
use Rattle.nine_fids.specs.Files.{qid_of}
use Rattle.nine_front.proofs.ReplyLemmas.{mapped_more, mapped_all}
use Rattle.nine_front.proofs.replying.qids.Goals as goal

pub loop-file-preserved : goal.loop-file-preserved
loop-file-preserved c =
    mapped_more qid_of c.args.found.now c.loop-file.file-index files.Control c.loop-file.qids.items c.push.new.self.items c.qid_of.result c.loop-file-test.true c.qid_of.ensures c.loop-file.invariant c.in_ok-push.ensures.items

pub returns : goal.returns
returns c = mapped_all qid_of c.args.found.now c.loop-file.file-index c.loop-file.qids.items (omega (arith, c.loop-file-test.false)) c.loop-file.invariant
