use Rattle.std.proofs.Common.{◌++◌}
use Rattle.nine_messages.proofs.CuttingLemmas.{each_is_cut, one_cut, cuts_more, cuts_join}
use Rattle.nine_messages.proofs.laws.a_stream_has_its_messages.Goals as goal

pub returns : goal.returns
returns c = record {
  each = λ agreed stream fits. each_is_cut agreed stream fits;
  one = λ agreed to last stream end stop messages others first over second also. one_cut agreed to last stream end stop messages others first over second also;
  pieces = λ agreed to last stream piece end stop messages others first second.
      cuts_join agreed to last (stream ++ piece) (end ++ piece) stop messages others (cuts_more agreed to stream end piece messages first) second;
}
