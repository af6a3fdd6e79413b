-- A number that is the same for the same statement, so that most statements are told apart at once.
-- This project's own; nothing but speed depends on it.
use Rattle.std.specs.Prelude.{◌*◌, ◌+◌, ◌%◌, ◌^◌, ℕ, List, [], ◌∷◌, fold}
use Rattle.std.specs.Int.{w64, cast_unsigned}
use Rattle.bl_syntax.specs.declared.terms.TimePoint.{TimePoint}
use Rattle.bl_syntax.specs.declared.terms.TimePoint.TheVariants.{NegInf, At, PosInf}
use Rattle.bl_syntax.specs.declared.terms.Term.{Term}
use Rattle.bl_syntax.specs.declared.terms.Term.TheVariants.{Prin, File, Perm, Time, Text, Ctime, Param, Bound}
use Rattle.bl_syntax.specs.declared.terms.StatePred.{StatePred}
use Rattle.bl_syntax.specs.declared.terms.StatePred.TheVariants.{Owner, HasXattr, InDir}
use Rattle.bl_syntax.specs.Spelling.{permission_code, sort_code}
use Rattle.bl_syntax.specs.Formula.{FormulaView, atom, compare, state, both, either, implies, truth, falsity, forall_, exists_, says, on}
use Rattle.bl_syntax.specs.Statement.{StatementView}

-- what was mixed before, and one number more
unfoldable pub mix : ℕ → ℕ → ℕ
mix before number = ((before * 6364136223846793005) % 2 ^ 64 + number) % 2 ^ 64

abbrev pub mix_bytes : ℕ → List ℕ → ℕ
mix_bytes before bytes = fold mix before bytes

abbrev pub mix_time : ℕ → TimePoint → ℕ
mix_time before NegInf = mix before 1
mix_time before (At second) = mix (mix before 2) (cast_unsigned w64 second)
mix_time before PosInf = mix before 3

abbrev pub mix_term : ℕ → Term → ℕ
mix_term before (Prin name) = mix_bytes (mix before 4) name
mix_term before (File node) = mix (mix before 5) node.0
mix_term before (Perm permission) = mix (mix before 6) (permission_code permission)
mix_term before (Time point) = mix_time before point
mix_term before (Text text) = mix_bytes (mix before 7) text
mix_term before Ctime = mix before 8
mix_term before (Param n) = mix (mix before 9) n
mix_term before (Bound n) = mix (mix before 10) n

abbrev pub mix_terms : ℕ → List Term → ℕ
mix_terms before [] = before
mix_terms before (t ∷ terms) = mix_terms (mix_term before t) terms

abbrev pub mix_state : ℕ → StatePred → ℕ
mix_state before (Owner file owner) = mix_term (mix_term (mix before 11) file) owner
mix_state before (HasXattr file name value) = mix_term (mix_term (mix_term (mix before 12) file) name) value
mix_state before (InDir file directory) = mix_term (mix_term (mix before 13) file) directory

abbrev pub mix_formula : ℕ → FormulaView → ℕ
mix_formula before (atom name terms) = mix_terms (mix_bytes (mix before 14) name) terms
mix_formula before (compare c) = mix_term (mix_term (mix before 15) c.low) c.high
mix_formula before (state s) = mix_state before s
mix_formula before (both a b) = mix_formula (mix_formula (mix before 16) a) b
mix_formula before (either a b) = mix_formula (mix_formula (mix before 17) a) b
mix_formula before (implies a b) = mix_formula (mix_formula (mix before 18) a) b
mix_formula before truth = mix before 19
mix_formula before falsity = mix before 20
mix_formula before (forall_ s a) = mix_formula (mix (mix before 21) (sort_code s)) a
mix_formula before (exists_ s a) = mix_formula (mix (mix before 22) (sort_code s)) a
mix_formula before (says k a) = mix_formula (mix_term (mix before 23) k) a
mix_formula before (on a u v) = mix_term (mix_term (mix_formula (mix before 24) a) u) v

unfoldable pub digest_of : StatementView → ℕ
digest_of s = mix_time (mix_time (mix_formula (mix_bytes 0 s.who) s.body) s.from) s.to
