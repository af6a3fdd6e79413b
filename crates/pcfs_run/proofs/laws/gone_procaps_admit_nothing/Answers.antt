use Rattle.pcfs_run.proofs.GoneLemmas.{gone_admits_nothing}
use Rattle.pcfs_run.proofs.laws.gone_procaps_admit_nothing.Goals as goal

pub returns : goal.returns
returns c = λ authority base events earlier later world pass caller op procaps moment need p number headline parts.
    gone_admits_nothing authority base events earlier later pass caller op procaps moment need p number headline.lawful.each parts
