use Rattle.proof_verifier.proofs.TestLemmas.{Decides-names_ctime, Decides-names_no_parameter, Decides-has_constraint, Decides-has_state, Decides-is_as_strong, Decides-of_sort, Decides-are_same, Decides-is_full}
use Rattle.std.specs.Prelude.{[]}
use Rattle.std.proofs.lemmas.Slice.Eq.{bytes_eq-Decides}
use Rattle.bl_syntax.specs.Terms.{sort_of}
use Rattle.proof_verifier.proofs.laws.each_test_decides.Goals as goal

pub returns : goal.returns
returns c = record {
  time = Decides-names_ctime;
  state = Decides-names_no_parameter;
  sort = λ sorts sort t. Decides-of_sort sort (sort_of sorts [] t);
  strength = Decides-is_as_strong;
  kept_time = Decides-has_constraint;
  kept_state = Decides-has_state;
  terms = Decides-are_same;
  names = bytes_eq-Decides;
  full = Decides-is_full;
}
