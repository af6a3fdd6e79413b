use Rattle.file_world.proofs.RowLemmas.{lookup-removed_same}
use Rattle.nine_fids.proofs.FidLemmas.{fid_in-with_same, fid_in-with_other}
use Rattle.nine_fids.proofs.laws.fids_are_kept.Goals as goal

pub returns-clause-made : goal.returns-clause-made
returns-clause-made c = λ s number fid. fid_in-with_same s.fids number fid

pub returns-clause-ended : goal.returns-clause-ended
returns-clause-ended c = λ s number within. lookup-removed_same number s.fids within.numbers.rising

pub returns-clause-others : goal.returns-clause-others
returns-clause-others c = λ s number other fid apart. fid_in-with_other s.fids number other fid apart
