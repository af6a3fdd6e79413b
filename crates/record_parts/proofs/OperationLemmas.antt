-- Operations: what is read is spelled so, and what is spelled so is read.
use Rattle.std.proofs.Common.{◌≡◌, ℕ, eqb, List, [], ◌∷◌, ◌++◌, Result, Ok, Err, refl, sym, ap, subst, ◌∙◌}
use Rattle.std.specs.Prelude.{IsTrue, IfOk}
use Rattle.std.proofs.lemmas.Bool.{eqb-true}
use Rattle.bl_syntax.specs.declared.codec_fault.CodecFault.{CodecFault}
use Rattle.bl_syntax.specs.declared.codec_fault.CodecFault.TheVariants as faults
use Rattle.bl_syntax.specs.declared.terms.NodeId.{NodeId}
use Rattle.bl_syntax.specs.Names.{is_principal_name, is_text}
use Rattle.bl_syntax.specs.Spelling.{with_length}
use Rattle.bl_syntax.specs.Reading.{Reading, map_reading, place, name_at, text_at}
use Rattle.bl_syntax.specs.Codec.{AreBytes, IsCodec, GivesReadingOrReports}
use Rattle.bl_syntax.proofs.CodecLemmas.{by_test, made_ok, made_memoryless, AreBytes-rest, codec}
use Rattle.bl_syntax.proofs.FieldCodecs.{name_codec, text_codec}
use Rattle.procap.specs.GrantReading.{both_at}
use Rattle.procap.proofs.ItemsLemmas.{test_memoryless}
use Rattle.procap.proofs.PartLemmas.{both_spelling, AreBoth, both_codec}
use Rattle.file_world.specs.declared.operation.Op.{Op}
use Rattle.file_world.specs.declared.operation.Op.TheVariants.{Read, Write, Truncate, List as ListOf, Lookup, Create, Mkdir, Unlink, Rename, Getattr, Setattr, Delattr, Chown}
use Rattle.record_parts.specs.Fields.{u64_at, number_spelling, IsSpellableNumber, node_spelling, node_at, IsSpellableNode, free_name_at, FitsOneByte, sized_bytes_spelling, sized_bytes_at, FitsFourBytes}
use Rattle.record_parts.specs.OperationSpelling.{operation_spelling, IsSpellableOperation, HasFittingWords}
use Rattle.record_parts.specs.OperationReading.{named_node_at, range_at, piece_at, renamed_at, valued_at, read_words_at, write_words_at, truncate_words_at, rename_words_at, setattr_words_at, chown_words_at, attribute_words_at, name_words_at, words_at, operation_at}
use Rattle.record_parts.proofs.FieldsLemmas.{u64_codec, node_codec, free_name_codec, sized_bytes_codec}

-- ---- the words of an operation, as they stand one after the other

abbrev IsName : List ℕ → Type 0
IsName name = IsTrue (is_principal_name name)

abbrev IsText : List ℕ → Type 0
IsText text = IsTrue (is_text text)

named : IsCodec (AreBoth IsSpellableNode FitsOneByte) (both_spelling node_spelling with_length) (λ input. named_node_at)
unfolding both_at named_node_at
named = both_codec IsSpellableNode node_spelling (λ input. node_at) FitsOneByte with_length (λ input. free_name_at) node_codec free_name_codec

range : IsCodec (AreBoth IsSpellableNumber IsSpellableNumber) (both_spelling number_spelling number_spelling) (λ input. range_at)
unfolding both_at range_at
range = both_codec IsSpellableNumber number_spelling (λ input. u64_at) IsSpellableNumber number_spelling (λ input. u64_at) u64_codec u64_codec

piece : IsCodec (AreBoth IsSpellableNumber FitsFourBytes) (both_spelling number_spelling sized_bytes_spelling) (λ input. piece_at)
unfolding both_at piece_at
piece = both_codec IsSpellableNumber number_spelling (λ input. u64_at) FitsFourBytes sized_bytes_spelling (λ input. sized_bytes_at) u64_codec sized_bytes_codec

reads : IsCodec (AreBoth IsSpellableNode (AreBoth IsSpellableNumber IsSpellableNumber)) (both_spelling node_spelling (both_spelling number_spelling number_spelling)) (λ input. read_words_at)
unfolding both_at read_words_at
reads = both_codec IsSpellableNode node_spelling (λ input. node_at) (AreBoth IsSpellableNumber IsSpellableNumber) (both_spelling number_spelling number_spelling) (λ input. range_at) node_codec range

writes : IsCodec (AreBoth IsSpellableNode (AreBoth IsSpellableNumber FitsFourBytes)) (both_spelling node_spelling (both_spelling number_spelling sized_bytes_spelling)) (λ input. write_words_at)
unfolding both_at write_words_at
writes = both_codec IsSpellableNode node_spelling (λ input. node_at) (AreBoth IsSpellableNumber FitsFourBytes) (both_spelling number_spelling sized_bytes_spelling) (λ input. piece_at) node_codec piece

truncates : IsCodec (AreBoth IsSpellableNode IsSpellableNumber) (both_spelling node_spelling number_spelling) (λ input. truncate_words_at)
unfolding both_at truncate_words_at
truncates = both_codec IsSpellableNode node_spelling (λ input. node_at) IsSpellableNumber number_spelling (λ input. u64_at) node_codec u64_codec

renamed : IsCodec (AreBoth FitsOneByte (AreBoth IsSpellableNode FitsOneByte)) (both_spelling with_length (both_spelling node_spelling with_length)) (λ input. renamed_at)
unfolding both_at renamed_at
renamed = both_codec FitsOneByte with_length (λ input. free_name_at) (AreBoth IsSpellableNode FitsOneByte) (both_spelling node_spelling with_length) (λ input. named_node_at) free_name_codec named

renames : IsCodec (AreBoth IsSpellableNode (AreBoth FitsOneByte (AreBoth IsSpellableNode FitsOneByte))) (both_spelling node_spelling (both_spelling with_length (both_spelling node_spelling with_length))) (λ input. rename_words_at)
unfolding both_at rename_words_at
renames = both_codec IsSpellableNode node_spelling (λ input. node_at) (AreBoth FitsOneByte (AreBoth IsSpellableNode FitsOneByte)) (both_spelling with_length (both_spelling node_spelling with_length)) (λ input. renamed_at) node_codec renamed

valued : IsCodec (AreBoth FitsOneByte IsText) (both_spelling with_length with_length) valued_at
unfolding both_at valued_at
valued = both_codec FitsOneByte with_length (λ input. free_name_at) IsText with_length text_at free_name_codec text_codec

sets : IsCodec (AreBoth IsSpellableNode (AreBoth FitsOneByte IsText)) (both_spelling node_spelling (both_spelling with_length with_length)) setattr_words_at
unfolding both_at setattr_words_at
sets = both_codec IsSpellableNode node_spelling (λ input. node_at) (AreBoth FitsOneByte IsText) (both_spelling with_length with_length) valued_at node_codec valued

chowns : IsCodec (AreBoth IsSpellableNode IsName) (both_spelling node_spelling with_length) chown_words_at
unfolding both_at chown_words_at
chowns = both_codec IsSpellableNode node_spelling (λ input. node_at) IsName with_length name_at node_codec name_codec

-- ---- operations from their words

abbrev read : NodeId × (ℕ × ℕ) → Op
read t = Read t.0 t.1.0 t.1.1

abbrev write : NodeId × (ℕ × List ℕ) → Op
write t = Write t.0 t.1.0 t.1.1

abbrev truncate : NodeId × ℕ → Op
truncate t = Truncate t.0 t.1

abbrev list : NodeId → Op
list t = ListOf t

abbrev lookup : NodeId × List ℕ → Op
lookup t = Lookup t.0 t.1

abbrev create : NodeId × List ℕ → Op
create t = Create t.0 t.1

abbrev mkdir : NodeId × List ℕ → Op
mkdir t = Mkdir t.0 t.1

abbrev unlink : NodeId × List ℕ → Op
unlink t = Unlink t.0 t.1

abbrev rename : NodeId × (List ℕ × (NodeId × List ℕ)) → Op
rename t = Rename t.0 t.1.0 t.1.1.0 t.1.1.1

abbrev getattr : NodeId × List ℕ → Op
getattr t = Getattr t.0 t.1

abbrev setattr : NodeId × (List ℕ × List ℕ) → Op
setattr t = Setattr t.0 t.1.0 t.1.1

abbrev delattr : NodeId × List ℕ → Op
delattr t = Delattr t.0 t.1

abbrev chown : NodeId × List ℕ → Op
chown t = Chown t.0 t.1

-- the bytes are those of an operation that has a spelling, and the rest
abbrev Spells : List ℕ → Op → List ℕ → Type 0
Spells bytes op rest = IsSpellableOperation op × (bytes ≡ operation_spelling op ++ rest)

-- an operation whose words were read
with_words : {A : Type 0} (IsSpelled : A → Type 0) (spelling : A → List ℕ) (at : ℕ → List ℕ → Reading A) (f : A → Op) (code : ℕ) → IsCodec IsSpelled spelling at
    → ((x : A) → IsSpelled x → IsSpellableOperation (f x)) → ((x : A) → operation_spelling (f x) ≡ code ∷ spelling x)
    → (input tag : ℕ) (more rest : List ℕ) (op : Op) → AreBytes more → tag ≡ code → map_reading f (at input more) ≡ Ok (op, rest) → Spells (tag ∷ more) op rest
with_words IsSpelled spelling at f code c there same input tag more rest op fits is e =
    let m = made_ok f (at input more) op rest e in
    let it = c.found input more rest m.0 fits m.1 in
    subst (λ (o : Op). Spells (tag ∷ more) o rest) m.2 (there m.0 it.0, ap (λ (k : ℕ). k ∷ more) is ∙ ap (λ (b : List ℕ). code ∷ b) it.1 ∙ ap (λ (b : List ℕ). b ++ rest) (sym (same m.0)))

-- one with a node and a name
with_name : (f : NodeId × List ℕ → Op) (code : ℕ) → ((x : NodeId × List ℕ) → AreBoth IsSpellableNode FitsOneByte x → IsSpellableOperation (f x)) → ((x : NodeId × List ℕ) → operation_spelling (f x) ≡ code ∷ both_spelling node_spelling with_length x)
    → (input tag : ℕ) (more rest : List ℕ) (op : Op) → AreBytes more → tag ≡ code → map_reading f (named_node_at more) ≡ Ok (op, rest) → Spells (tag ∷ more) op rest
with_name f code there same input tag more rest op fits is e =
    with_words (AreBoth IsSpellableNode FitsOneByte) (both_spelling node_spelling with_length) (λ input. named_node_at) f code named there same input tag more rest op fits is e

attribute_found : (input start tag : ℕ) (more rest : List ℕ) (op : Op) → AreBytes more → attribute_words_at input start tag more ≡ Ok (op, rest) → Spells (tag ∷ more) op rest
unfolding attribute_words_at operation_spelling
attribute_found input start tag more rest op fits e =
    by_test (eqb tag 10) _ _ _ e (λ is h. with_name getattr 10 (λ x k. k) (λ x. refl) input tag more rest op fits (eqb-true tag 10 is) h) (λ _ e1.
    by_test (eqb tag 11) _ _ _ e1 (λ is h. with_words (AreBoth IsSpellableNode (AreBoth FitsOneByte IsText)) (both_spelling node_spelling (both_spelling with_length with_length)) setattr_words_at setattr 11 sets (λ x k. k) (λ x. refl) input tag more rest op fits (eqb-true tag 11 is) h) (λ _ e2.
    by_test (eqb tag 12) _ _ _ e2 (λ is h. with_name delattr 12 (λ x k. k) (λ x. refl) input tag more rest op fits (eqb-true tag 12 is) h) (λ _ e3.
    by_test (eqb tag 13) _ _ _ e3 (λ is h. with_words (AreBoth IsSpellableNode IsName) (both_spelling node_spelling with_length) chown_words_at chown 13 chowns (λ x k. k) (λ x. refl) input tag more rest op fits (eqb-true tag 13 is) h) (λ _ fault. absurd cc))))

name_found : (input start tag : ℕ) (more rest : List ℕ) (op : Op) → AreBytes more → name_words_at input start tag more ≡ Ok (op, rest) → Spells (tag ∷ more) op rest
unfolding name_words_at operation_spelling
name_found input start tag more rest op fits e =
    by_test (eqb tag 5) _ _ _ e (λ is h. with_name lookup 5 (λ x k. k) (λ x. refl) input tag more rest op fits (eqb-true tag 5 is) h) (λ _ e1.
    by_test (eqb tag 6) _ _ _ e1 (λ is h. with_name create 6 (λ x k. k) (λ x. refl) input tag more rest op fits (eqb-true tag 6 is) h) (λ _ e2.
    by_test (eqb tag 7) _ _ _ e2 (λ is h. with_name mkdir 7 (λ x k. k) (λ x. refl) input tag more rest op fits (eqb-true tag 7 is) h) (λ _ e3.
    by_test (eqb tag 8) _ _ _ e3 (λ is h. with_name unlink 8 (λ x k. k) (λ x. refl) input tag more rest op fits (eqb-true tag 8 is) h) (λ _ e4.
    by_test (eqb tag 9) _ _ _ e4 (λ is h. with_words (AreBoth IsSpellableNode (AreBoth FitsOneByte (AreBoth IsSpellableNode FitsOneByte))) (both_spelling node_spelling (both_spelling with_length (both_spelling node_spelling with_length))) (λ input. rename_words_at) rename 9 renames (λ x k. k) (λ x. refl) input tag more rest op fits (eqb-true tag 9 is) h) (λ _ h.
    attribute_found input start tag more rest op fits h)))))

words_found : (input start tag : ℕ) (more rest : List ℕ) (op : Op) → AreBytes more → words_at input start tag more ≡ Ok (op, rest) → Spells (tag ∷ more) op rest
unfolding words_at operation_spelling
words_found input start tag more rest op fits e =
    by_test (eqb tag 1) _ _ _ e (λ is h. with_words (AreBoth IsSpellableNode (AreBoth IsSpellableNumber IsSpellableNumber)) (both_spelling node_spelling (both_spelling number_spelling number_spelling)) (λ input. read_words_at) read 1 reads (λ x k. k) (λ x. refl) input tag more rest op fits (eqb-true tag 1 is) h) (λ _ e1.
    by_test (eqb tag 2) _ _ _ e1 (λ is h. with_words (AreBoth IsSpellableNode (AreBoth IsSpellableNumber FitsFourBytes)) (both_spelling node_spelling (both_spelling number_spelling sized_bytes_spelling)) (λ input. write_words_at) write 2 writes (λ x k. k) (λ x. refl) input tag more rest op fits (eqb-true tag 2 is) h) (λ _ e2.
    by_test (eqb tag 3) _ _ _ e2 (λ is h. with_words (AreBoth IsSpellableNode IsSpellableNumber) (both_spelling node_spelling number_spelling) (λ input. truncate_words_at) truncate 3 truncates (λ x k. k) (λ x. refl) input tag more rest op fits (eqb-true tag 3 is) h) (λ _ e3.
    by_test (eqb tag 4) _ _ _ e3 (λ is h. with_words IsSpellableNode node_spelling (λ input. node_at) list 4 node_codec (λ x k. k) (λ x. refl) input tag more rest op fits (eqb-true tag 4 is) h) (λ _ h.
    name_found input start tag more rest op fits h))))

operation_found : (input : ℕ) (bytes rest : List ℕ) (op : Op) → AreBytes bytes → operation_at input bytes ≡ Ok (op, rest) → IsSpellableOperation op × (bytes ≡ operation_spelling op ++ rest)
unfolding operation_at
operation_found input [] rest op fits e = absurd cc
operation_found input (tag ∷ more) rest op fits e = words_found input (place input (tag ∷ more)) tag more rest op (AreBytes-rest tag more fits) e

operation_again : (input : ℕ) (op : Op) (rest : List ℕ) → IsSpellableOperation op → operation_at input (operation_spelling op ++ rest) ≡ Ok (op, rest)
unfolding operation_at words_at name_words_at attribute_words_at operation_spelling
operation_again input (Read file offset len) rest h = ap (map_reading read) (reads.again input (file, (offset, len)) rest h)
operation_again input (Write file offset bytes) rest h = ap (map_reading write) (writes.again input (file, (offset, bytes)) rest h)
operation_again input (Truncate file len) rest h = ap (map_reading truncate) (truncates.again input (file, len) rest h)
operation_again input (ListOf directory) rest h = ap (map_reading list) (node_codec.again input directory rest h)
operation_again input (Lookup directory name) rest h = ap (map_reading lookup) (named.again input (directory, name) rest h)
operation_again input (Create directory name) rest h = ap (map_reading create) (named.again input (directory, name) rest h)
operation_again input (Mkdir directory name) rest h = ap (map_reading mkdir) (named.again input (directory, name) rest h)
operation_again input (Unlink directory name) rest h = ap (map_reading unlink) (named.again input (directory, name) rest h)
operation_again input (Rename directory name target new) rest h = ap (map_reading rename) (renames.again input (directory, (name, (target, new))) rest h)
operation_again input (Getattr node name) rest h = ap (map_reading getattr) (named.again input (node, name) rest h)
operation_again input (Setattr node name value) rest h = ap (map_reading setattr) (sets.again input (node, (name, value)) rest h)
operation_again input (Delattr node name) rest h = ap (map_reading delattr) (named.again input (node, name) rest h)
operation_again input (Chown node owner) rest h = ap (map_reading chown) (chowns.again input (node, owner) rest h)

attribute_memoryless : (input start tag : ℕ) (more : List ℕ) → attribute_words_at input start tag more ≡ Err faults.NoMemory → ⊥
unfolding attribute_words_at
attribute_memoryless input start tag more e =
    test_memoryless (eqb tag 10) _ _ (λ h. made_memoryless getattr (named_node_at more) (named.memoryless input more) h) (λ e1.
    test_memoryless (eqb tag 11) _ _ (λ h. made_memoryless setattr (setattr_words_at input more) (sets.memoryless input more) h) (λ e2.
    test_memoryless (eqb tag 12) _ _ (λ h. made_memoryless delattr (named_node_at more) (named.memoryless input more) h) (λ e3.
    test_memoryless (eqb tag 13) _ _ (λ h. made_memoryless chown (chown_words_at input more) (chowns.memoryless input more) h) (λ h. cc) e3) e2) e1) e

name_memoryless : (input start tag : ℕ) (more : List ℕ) → name_words_at input start tag more ≡ Err faults.NoMemory → ⊥
unfolding name_words_at
name_memoryless input start tag more e =
    test_memoryless (eqb tag 5) _ _ (λ h. made_memoryless lookup (named_node_at more) (named.memoryless input more) h) (λ e1.
    test_memoryless (eqb tag 6) _ _ (λ h. made_memoryless create (named_node_at more) (named.memoryless input more) h) (λ e2.
    test_memoryless (eqb tag 7) _ _ (λ h. made_memoryless mkdir (named_node_at more) (named.memoryless input more) h) (λ e3.
    test_memoryless (eqb tag 8) _ _ (λ h. made_memoryless unlink (named_node_at more) (named.memoryless input more) h) (λ e4.
    test_memoryless (eqb tag 9) _ _ (λ h. made_memoryless rename (rename_words_at more) (renames.memoryless input more) h) (attribute_memoryless input start tag more) e4) e3) e2) e1) e

words_memoryless : (input start tag : ℕ) (more : List ℕ) → words_at input start tag more ≡ Err faults.NoMemory → ⊥
unfolding words_at
words_memoryless input start tag more e =
    test_memoryless (eqb tag 1) _ _ (λ h. made_memoryless read (read_words_at more) (reads.memoryless input more) h) (λ e1.
    test_memoryless (eqb tag 2) _ _ (λ h. made_memoryless write (write_words_at more) (writes.memoryless input more) h) (λ e2.
    test_memoryless (eqb tag 3) _ _ (λ h. made_memoryless truncate (truncate_words_at more) (truncates.memoryless input more) h) (λ e3.
    test_memoryless (eqb tag 4) _ _ (λ h. made_memoryless list (node_at more) (node_codec.memoryless input more) h) (name_memoryless input start tag more) e3) e2) e1) e

operation_memoryless : (input : ℕ) (bytes : List ℕ) → operation_at input bytes ≡ Err faults.NoMemory → ⊥
unfolding operation_at
operation_memoryless input [] e = cc
operation_memoryless input (tag ∷ more) e = words_memoryless input (place input (tag ∷ more)) tag more e

pub operation_codec : IsCodec IsSpellableOperation operation_spelling operation_at
operation_codec = codec IsSpellableOperation operation_spelling operation_at operation_found operation_again operation_memoryless

-- an operation that has a spelling may be written
pub spelled_fits : (op : Op) → IsSpellableOperation op → HasFittingWords op
spelled_fits (Read file offset len) h = tt
spelled_fits (Write file offset bytes) h = h.1.1
spelled_fits (Truncate file len) h = tt
spelled_fits (ListOf directory) h = tt
spelled_fits (Lookup directory name) h = h.1
spelled_fits (Create directory name) h = h.1
spelled_fits (Mkdir directory name) h = h.1
spelled_fits (Unlink directory name) h = h.1
spelled_fits (Rename directory name target new) h = (h.1.0, h.1.1.1)
spelled_fits (Getattr node name) h = h.1
spelled_fits (Setattr node name value) h = h.1.0
spelled_fits (Delattr node name) h = h.1
spelled_fits (Chown node owner) h = tt

read_fits : (input : ℕ) (bytes rest : List ℕ) (op : Op) → AreBytes bytes → operation_at input bytes ≡ Ok (op, rest) → HasFittingWords op
read_fits input bytes rest op fits e = spelled_fits op (operation_found input bytes rest op fits e).0

-- so may one that a call read
pub reads_what_fits : {X : Type 0} (view : X → Op × List ℕ) (input : ℕ) (bytes : List ℕ) (result : Result X CodecFault) → AreBytes bytes → GivesReadingOrReports view result (operation_at input bytes)
    → IfOk result (λ x. HasFittingWords (view x).0)
reads_what_fits view input bytes (Ok x) fits h = read_fits input bytes (view x).1 (view x).0 fits h
reads_what_fits view input bytes (Err fault) fits h = tt
