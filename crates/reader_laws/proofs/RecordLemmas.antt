-- Records, and events, are read steadily.
use Rattle.std.proofs.Common.{◌≡◌, ℕ, zero, suc, ◌-◌, List, [], ◌∷◌, ◌++◌, length, Result, Ok, Err, refl, sym, ap, subst, ◌∙◌, arith}
use Rattle.std.specs.Prelude.{◌==◌, IsErr}
use Rattle.std.specs.Int.{w32, w64, cast_signed}
use Rattle.std.proofs.lemmas.Bool.{false≢true}
use Rattle.std.proofs.lemmas.List.{length-append}
use Rattle.bl_syntax.specs.declared.codec_fault.CodecFault.{CodecFault}
use Rattle.bl_syntax.specs.declared.codec_fault.CodecFault.TheVariants.{Short}
use Rattle.bl_syntax.specs.Reading.{◌>>=◌, Reading, is_moment, name_at, text_at}
use Rattle.proof_term.specs.declared.fault.ProofFault.{ProofFault}
use Rattle.proof_term.specs.declared.fault.ProofFault.TheVariants as proof
use Rattle.bl_syntax.specs.FormulaReading.{statement_at}
use Rattle.procap.specs.GrantReading.{grant_at}
use Rattle.procap.specs.Procap.{procap_at}
use Rattle.file_world.specs.declared.operation.Op.TheVariants.{Read, Write, Truncate, List as ListOf, Lookup, Create, Mkdir, Unlink, Rename, Getattr, Setattr, Delattr, Chown}
use Rattle.record_parts.specs.Fields.{u32_at, u64_at, node, node_at, free_name_at, sized_bytes_at, moment_field_at}
use Rattle.record_parts.specs.Parts.{of_proof, as_part, many_at, list_at, sized_proof_at}
use Rattle.record_parts.specs.OperationReading.{named_node_at, range_at, piece_at, renamed_at, valued_at, read_words_at, write_words_at, truncate_words_at, rename_words_at, setattr_words_at, chown_words_at, attribute_words_at, name_words_at, words_at, operation_at}
use Rattle.record_parts.specs.RecordReading.{registered_at, withdrawn_at, proved_at, issued_at, admitted_at, done_at, acted_at}
use Rattle.journal_records.specs.declared.event.Event.TheVariants.{Registered, Withdrawn, Issued, Acted}
use Rattle.journal_records.specs.EventReading.{event_at}
use Rattle.reader_laws.proofs.ExtendedLemmas.{Extended, behind, ReadsOn, IsSteady, done, cut, faults, either_way, one_then, made, taken}
use Rattle.reader_laws.proofs.FieldLemmas.{numbers, names, texts}
use Rattle.reader_laws.proofs.FormulaLemmas.{statements}
use Rattle.reader_laws.proofs.GrantLemmas.{grants, procaps}
use Rattle.reader_laws.proofs.ProofLemmas.{proofs}

-- one, and then another
pub both : {A B C : Type 0} (make : A → B → C) (first next : List ℕ → Reading A) (second after : List ℕ → Reading B) → ReadsOn first next → ReadsOn second after →
    ReadsOn (λ bytes. first bytes >>= λ a. second a.1 >>= λ b. Ok (make a.0 b.0, b.1)) (λ bytes. next bytes >>= λ a. after a.1 >>= λ b. Ok (make a.0 b.0, b.1))
both make first next second after one other bytes more =
    one_then (behind more) (behind more) (first bytes) (next (bytes ++ more)) _ _ (one bytes more)
    (λ a. one_then (behind more) (behind more) (second a.1) (after (a.1 ++ more)) _ _ (other a.1 more)
    (λ b. done Short (behind more) (make a.0 b.0, b.1)))

nodes : ReadsOn node_at node_at
nodes bytes more = made node more _ _ (numbers w64 bytes more)

free_names : ReadsOn free_name_at free_name_at
unfolding free_name_at
free_names [] more = cut Short (behind more) _
free_names (len ∷ rest) more = taken len (λ name. name) rest more

pub sized_bytes : ReadsOn sized_bytes_at sized_bytes_at
unfolding sized_bytes_at
sized_bytes bytes more =
    one_then (behind more) (behind more) (u32_at bytes) (u32_at (bytes ++ more)) _ _ (numbers w32 bytes more) (λ len. taken len.0 (λ piece. piece) len.1 more)

pub moment_fields : IsSteady moment_field_at
unfolding moment_field_at
moment_fields input onward bytes more =
    one_then (behind more) (behind more) (u64_at bytes) (u64_at (bytes ++ more)) _ _ (numbers w64 bytes more)
    (λ number. either_way Short (behind more) (is_moment (cast_signed w64 number.0)) _ _ _ _ (done Short (behind more) (cast_signed w64 number.0, number.1)) (faults Short (behind more) _ _))

-- ---- the words of operations

named_nodes : ReadsOn named_node_at named_node_at
unfolding named_node_at
named_nodes = both (λ file name. (file, name)) node_at node_at free_name_at free_name_at nodes free_names

ranges : ReadsOn range_at range_at
unfolding range_at
ranges = both (λ offset len. (offset, len)) u64_at u64_at u64_at u64_at (numbers w64) (numbers w64)

pieces : ReadsOn piece_at piece_at
unfolding piece_at
pieces = both (λ offset piece. (offset, piece)) u64_at u64_at sized_bytes_at sized_bytes_at (numbers w64) sized_bytes

renamed : ReadsOn renamed_at renamed_at
unfolding renamed_at
renamed = both (λ name target. (name, target)) free_name_at free_name_at named_node_at named_node_at free_names named_nodes

valued : IsSteady valued_at
unfolding valued_at
valued input onward = both (λ name value. (name, value)) free_name_at free_name_at (text_at input) (text_at onward) free_names (texts input onward)

read_words : ReadsOn read_words_at read_words_at
unfolding read_words_at
read_words = both (λ file range. (file, range)) node_at node_at range_at range_at nodes ranges

write_words : ReadsOn write_words_at write_words_at
unfolding write_words_at
write_words = both (λ file piece. (file, piece)) node_at node_at piece_at piece_at nodes pieces

truncate_words : ReadsOn truncate_words_at truncate_words_at
unfolding truncate_words_at
truncate_words = both (λ file len. (file, len)) node_at node_at u64_at u64_at nodes (numbers w64)

rename_words : ReadsOn rename_words_at rename_words_at
unfolding rename_words_at
rename_words = both (λ directory names. (directory, names)) node_at node_at renamed_at renamed_at nodes renamed

setattr_words : IsSteady setattr_words_at
unfolding setattr_words_at
setattr_words input onward = both (λ file attribute. (file, attribute)) node_at node_at (valued_at input) (valued_at onward) nodes (valued input onward)

chown_words : IsSteady chown_words_at
unfolding chown_words_at
chown_words input onward = both (λ file owner. (file, owner)) node_at node_at (name_at input) (name_at onward) nodes (names input onward)

attribute_words : (input onward start other code : ℕ) → ReadsOn (attribute_words_at input start code) (attribute_words_at onward other code)
unfolding attribute_words_at
attribute_words input onward start other code rest more =
    either_way Short (behind more) (code == 10) _ _ _ _ (made (λ t. Getattr t.0 t.1) more _ _ (named_nodes rest more))
    (either_way Short (behind more) (code == 11) _ _ _ _ (made (λ t. Setattr t.0 t.1.0 t.1.1) more _ _ (setattr_words input onward rest more))
    (either_way Short (behind more) (code == 12) _ _ _ _ (made (λ t. Delattr t.0 t.1) more _ _ (named_nodes rest more))
    (either_way Short (behind more) (code == 13) _ _ _ _ (made (λ t. Chown t.0 t.1) more _ _ (chown_words input onward rest more)) (faults Short (behind more) _ _))))

name_words : (input onward start other code : ℕ) → ReadsOn (name_words_at input start code) (name_words_at onward other code)
unfolding name_words_at
name_words input onward start other code rest more =
    either_way Short (behind more) (code == 5) _ _ _ _ (made (λ t. Lookup t.0 t.1) more _ _ (named_nodes rest more))
    (either_way Short (behind more) (code == 6) _ _ _ _ (made (λ t. Create t.0 t.1) more _ _ (named_nodes rest more))
    (either_way Short (behind more) (code == 7) _ _ _ _ (made (λ t. Mkdir t.0 t.1) more _ _ (named_nodes rest more))
    (either_way Short (behind more) (code == 8) _ _ _ _ (made (λ t. Unlink t.0 t.1) more _ _ (named_nodes rest more))
    (either_way Short (behind more) (code == 9) _ _ _ _ (made (λ t. Rename t.0 t.1.0 t.1.1.0 t.1.1.1) more _ _ (rename_words rest more)) (attribute_words input onward start other code rest more)))))

all_words : (input onward start other code : ℕ) → ReadsOn (words_at input start code) (words_at onward other code)
unfolding words_at
all_words input onward start other code rest more =
    either_way Short (behind more) (code == 1) _ _ _ _ (made (λ t. Read t.0 t.1.0 t.1.1) more _ _ (read_words rest more))
    (either_way Short (behind more) (code == 2) _ _ _ _ (made (λ t. Write t.0 t.1.0 t.1.1) more _ _ (write_words rest more))
    (either_way Short (behind more) (code == 3) _ _ _ _ (made (λ t. Truncate t.0 t.1) more _ _ (truncate_words rest more))
    (either_way Short (behind more) (code == 4) _ _ _ _ (made (λ t. ListOf t) more _ _ (nodes rest more)) (name_words input onward start other code rest more))))

pub operations : IsSteady operation_at
unfolding operation_at
operations input onward [] more = cut Short (behind more) _
operations input onward (code ∷ rest) more = all_words input onward _ _ code rest more

-- ---- records

many : {A : Type 0} (one_at next : List ℕ → Reading A) → ReadsOn one_at next → (count : ℕ) → ReadsOn (many_at one_at count) (many_at next count)
unfolding many_at
many one_at next steady zero bytes more = done Short (behind more) ([], bytes)
many one_at next steady (suc count) bytes more =
    one_then (behind more) (behind more) (one_at bytes) (next (bytes ++ more)) _ _ (steady bytes more)
    (λ first. one_then (behind more) (behind more) (many_at one_at count first.1) (many_at next count (first.1 ++ more)) _ _ (many one_at next steady count first.1 more)
    (λ others. done Short (behind more) (first.0 ∷ others.0, others.1)))

lists : {A : Type 0} (one_at next : List ℕ → Reading A) → ReadsOn one_at next → ReadsOn (list_at one_at) (list_at next)
unfolding list_at
lists one_at next steady [] more = cut Short (behind more) _
lists one_at next steady (count ∷ rest) more = many one_at next steady count rest more

err_is : {X : Type 0} (d e : CodecFault) → (let failed : CodecFault → Result X CodecFault = λ fault. Err fault in failed d ≡ failed e) → d ≡ e
err_is d e is = cc

fails_as_part : {A : Type 0} (s : Result A ProofFault) → IsErr s → IsErr (as_part s)
fails_as_part (Ok x) fails = absurd (false≢true fails)
fails_as_part (Err d) fails = refl

parts : {A : Type 0} (longer : A → A) (r s : Result A ProofFault) → Extended proof.Short longer r s → Extended Short longer (as_part r) (as_part s)
parts {A} longer (Ok x) s first =
    subst (λ (t : Result A ProofFault). Extended Short longer (Ok x) (as_part t)) (sym (first.ok x refl)) (done Short longer x)
parts {A} longer (Err d) s first = record {
  ok = λ y e. absurd cc;
  err = λ fault e other. fails_as_part s (first.err d refl (λ is. other (sym (err_is (of_proof d) fault e) ∙ ap of_proof is)));
}

-- how long a proof is does not change with the bytes after it
same_length : (whole rest more : List ℕ) → length (whole ++ more) - length (rest ++ more) ≡ length whole - length rest
same_length whole rest more = omega (arith, length-append whole more, length-append rest more)

sized_proofs : IsSteady sized_proof_at
unfolding sized_proof_at
sized_proofs input onward bytes more =
    one_then (behind more) (behind more) (u32_at bytes) (u32_at (bytes ++ more)) _ _ (numbers w32 bytes more)
    (λ len. one_then (behind more) (behind more) _ _ _ _ (parts (behind more) _ _ (proofs input onward len.1 more))
    (λ read. rw (same_length len.1 read.1 more)
    (either_way Short (behind more) ((length len.1 - length read.1) == len.0) _ _ _ _ (done Short (behind more) read) (faults Short (behind more) _ _))))

pub registrations : IsSteady registered_at
unfolding registered_at
registrations input onward = both (λ statement signature. (statement, signature)) (statement_at input) (statement_at onward) sized_bytes_at sized_bytes_at (statements input onward) sized_bytes

pub withdrawals : ReadsOn withdrawn_at withdrawn_at
unfolding withdrawn_at
withdrawals = both (λ number signature. (number, signature)) u32_at u32_at sized_bytes_at sized_bytes_at (numbers w32) sized_bytes

proved : IsSteady proved_at
unfolding proved_at
proved input onward = both (λ proof grant. (proof, grant)) (sized_proof_at input) (sized_proof_at onward) (grant_at input) (grant_at onward) (sized_proofs input onward) (grants input onward)

pub issues : IsSteady issued_at
unfolding issued_at
issues input onward = both (λ cited proved. (cited, proved)) (list_at u32_at) (list_at u32_at) (proved_at input) (proved_at onward) (lists u32_at u32_at (numbers w32)) (proved input onward)

admitted : IsSteady admitted_at
unfolding admitted_at
admitted input onward =
    both (λ procaps moment. (procaps, moment)) (list_at (procap_at input)) (list_at (procap_at onward)) (moment_field_at input) (moment_field_at onward) (lists (procap_at input) (procap_at onward) (procaps input onward)) (moment_fields input onward)

all_done : IsSteady done_at
unfolding done_at
all_done input onward = both (λ op admitted. (op, admitted)) (operation_at input) (operation_at onward) (admitted_at input) (admitted_at onward) (operations input onward) (admitted input onward)

pub actions : IsSteady acted_at
unfolding acted_at
actions input onward = both (λ caller done. (caller, done)) (name_at input) (name_at onward) (done_at input) (done_at onward) (names input onward) (all_done input onward)

pub events : IsSteady event_at
unfolding event_at
events input onward [] more = cut Short (behind more) _
events input onward (tag ∷ rest) more =
    either_way Short (behind more) (tag == 1) _ _ _ _ (made (λ r. Registered 0 r.0 r.1) more _ _ (registrations input onward rest more))
    (either_way Short (behind more) (tag == 2) _ _ _ _ (made (λ i. Issued 0 i.0 i.1.0 i.1.1) more _ _ (issues input onward rest more))
    (either_way Short (behind more) (tag == 3) _ _ _ _ (made (λ a. Acted 0 a.0 a.1.0 a.1.1.0 a.1.1.1) more _ _ (actions input onward rest more))
    (either_way Short (behind more) (tag == 4) _ _ _ _ (made (λ w. Withdrawn 0 w.0 w.1) more _ _ (withdrawals rest more)) (faults Short (behind more) _ _))))
