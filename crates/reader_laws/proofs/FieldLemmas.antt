-- Names, texts, points in time and terms are read steadily.
use Rattle.std.proofs.Common.{ℕ, List, [], ◌∷◌, ◌++◌, Bool}
use Rattle.std.specs.Prelude.{◌==◌, nat_lt, Option, Some, None}
use Rattle.std.specs.Int.{Width, w32, w64, byte_len, from_be_bytes, cast_signed}
use Rattle.bl_syntax.specs.declared.codec_fault.CodecFault.{CodecFault}
use Rattle.bl_syntax.specs.declared.codec_fault.CodecFault.TheVariants.{Short}
use Rattle.bl_syntax.specs.declared.terms.TimePoint.TheVariants.{NegInf, At, PosInf}
use Rattle.bl_syntax.specs.declared.terms.Term.TheVariants.{Prin, File, Perm, Time, Text, Ctime, Param, Bound}
use Rattle.bl_syntax.specs.Names.{is_principal_name, is_predicate_name, is_text}
use Rattle.bl_syntax.specs.Reading.{number_at, with_length_at, word_at, name_at, predicate_at, text_at, is_moment, moment_at, time_at, permission_of, sort_of, look_up, coded_at, permission_at, sort_at, field_at, term_at}
use Rattle.reader_laws.proofs.ExtendedLemmas.{Extended, behind, ReadsOn, IsSteady, done, cut, faults, either_way, one_then, made, taken}

pub numbers : (width : Width) → ReadsOn (number_at width) (number_at width)
numbers width bytes more = taken (byte_len width) (from_be_bytes width) bytes more

with_length : (least most : ℕ) → IsSteady (with_length_at least most)
unfolding with_length_at
with_length least most input onward [] more = cut Short (behind more) _
with_length least most input onward (len ∷ rest) more =
    either_way Short (behind more) (nat_lt len least) _ _ _ _ (faults Short (behind more) _ _)
    (either_way Short (behind more) (nat_lt most len) _ _ _ _ (faults Short (behind more) _ _) (taken len (λ word. word) rest more))

pub words : (least most : ℕ) (is_word : List ℕ → Bool) → IsSteady (word_at least most is_word)
unfolding word_at
words least most is_word input onward bytes more =
    one_then (behind more) (behind more) (with_length_at least most input bytes) (with_length_at least most onward (bytes ++ more)) _ _
    (with_length least most input onward bytes more)
    (λ word. either_way Short (behind more) (is_word word.0) _ _ _ _ (done Short (behind more) word) (faults Short (behind more) _ _))

pub names : IsSteady name_at
names = words 1 32 is_principal_name

pub predicates : IsSteady predicate_at
predicates = words 1 32 is_predicate_name

pub texts : IsSteady text_at
texts = words 0 128 is_text

moments : (start other : ℕ) → ReadsOn (moment_at start) (moment_at other)
unfolding moment_at
moments start other bytes more =
    one_then (behind more) (behind more) (number_at w64 bytes) (number_at w64 (bytes ++ more)) _ _ (numbers w64 bytes more)
    (λ number. either_way Short (behind more) (is_moment (cast_signed w64 number.0)) _ _ _ _
    (done Short (behind more) (At (cast_signed w64 number.0), number.1)) (faults Short (behind more) _ _))

pub times : IsSteady time_at
unfolding time_at
times input onward [] more = cut Short (behind more) _
times input onward (kind ∷ rest) more =
    either_way Short (behind more) (kind == 0) _ _ _ _ (done Short (behind more) (NegInf, rest))
    (either_way Short (behind more) (kind == 1) _ _ _ _ (moments _ _ rest more)
    (either_way Short (behind more) (kind == 2) _ _ _ _ (done Short (behind more) (PosInf, rest)) (faults Short (behind more) _ _)))

looked_up : {A : Type 0} (found : Option A) (rest more : List ℕ) (fault other : CodecFault) → Extended Short (behind more) (look_up found rest fault) (look_up found (rest ++ more) other)
looked_up None rest more fault other = faults Short (behind more) fault other
looked_up (Some x) rest more fault other = done Short (behind more) (x, rest)

pub coded : {A : Type 0} (table : ℕ → Option A) → IsSteady (coded_at table)
unfolding coded_at
coded table input onward [] more = cut Short (behind more) _
coded table input onward (code ∷ rest) more = looked_up (table code) rest more _ _

pub permissions : IsSteady permission_at
permissions = coded permission_of

pub sorts : IsSteady sort_at
sorts = coded sort_of

fields : (input onward start other tag : ℕ) → ReadsOn (field_at input start tag) (field_at onward other tag)
unfolding field_at
fields input onward start other tag rest more =
    either_way Short (behind more) (tag == 1) _ _ _ _ (made Prin more _ _ (names input onward rest more))
    (either_way Short (behind more) (tag == 2) _ _ _ _ (made (λ n. File (record { 0 = n })) more _ _ (numbers w64 rest more))
    (either_way Short (behind more) (tag == 3) _ _ _ _ (made Perm more _ _ (permissions input onward rest more))
    (either_way Short (behind more) (tag == 4) _ _ _ _ (made Time more _ _ (times input onward rest more))
    (either_way Short (behind more) (tag == 5) _ _ _ _ (made Text more _ _ (texts input onward rest more))
    (either_way Short (behind more) (tag == 6) _ _ _ _ (done Short (behind more) (Ctime, rest))
    (either_way Short (behind more) (tag == 7) _ _ _ _ (made Param more _ _ (numbers w32 rest more))
    (either_way Short (behind more) (tag == 8) _ _ _ _ (made Bound more _ _ (numbers w32 rest more)) (faults Short (behind more) _ _))))))))

pub terms : IsSteady term_at
unfolding term_at
terms input onward [] more = cut Short (behind more) _
terms input onward (tag ∷ rest) more = fields input onward _ _ tag rest more
