use Rattle.std.proofs.Common.{[]}
use Rattle.bl_syntax.proofs.InstanceLemmas.{IsWellSorted-put_in, size-put_in, widest_atom-put_in, times_in_range-put_in}
use Rattle.bl_syntax.proofs.laws.an_instance_is_well_sorted.Goals as goal

pub returns : goal.returns
returns c = record {
  sorted = λ parameters sort t body sorted h. IsWellSorted-put_in parameters [] sort t sorted body h;
  nodes = λ t body. size-put_in 0 t body;
  arguments = λ t body. widest_atom-put_in 0 t body;
  times = λ t body known h. times_in_range-put_in 0 t known body h;
}
