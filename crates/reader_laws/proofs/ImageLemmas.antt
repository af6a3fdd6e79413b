-- Images are read steadily.
use Rattle.std.proofs.Common.{ℕ, zero, suc, List, [], ◌∷◌, ◌++◌, length}
use Rattle.std.specs.Prelude.{nat_lt, nat_le, ◌&&◌, ◌==◌}
use Rattle.std.specs.Int.{w32, w64}
use Rattle.bl_syntax.specs.declared.codec_fault.CodecFault.TheVariants.{Short}
use Rattle.bl_syntax.specs.Reading.{Reading, name_at, text_at}
use Rattle.record_parts.specs.Fields.{u32_at, u64_at, sized_bytes_at, moment_field_at}
use Rattle.checkpoint_image.specs.Chain.{chain_at, short_list_at, long_list_at, alone, nothing_left}
use Rattle.node_rows.specs.Names.{is_name_or_none}
use Rattle.checkpoint_image.specs.NodeReading.{kind_of, kind_at, number_after, owned_at, kinded_at, node_head_at, is_name_after, attribute_name_at, attribute_at, name_of, attributes_at, held_at, node_name_at, node_tail_at, node_fields_at, node_of_fields, node_at, number_of, nodes_at}
use Rattle.checkpoint_image.specs.ImageReading.{counts_at, head_at, entry_of, entry_at, statements_at, issue_of, issue_at, issues_at, issues_and_nodes_at, lists_at, parts_at, base_of_parts, fields_at, with_withdrawn, state_at, image_at}
use Rattle.checkpoint_image.specs.WithdrawnNumbers.{withdrawn_number_at, number_left, withdrawn_numbers_at}
use Rattle.reader_laws.proofs.ExtendedLemmas.{behind, ReadsOn, IsSteady, done, cut, faults, either_way, one_then, made}
use Rattle.reader_laws.proofs.FieldLemmas.{numbers, names, texts, words, coded}
use Rattle.reader_laws.proofs.RecordLemmas.{both, sized_bytes, moment_fields, registrations, issues}

-- ---- lists, each item of which is read with what the one before it leaves

chains : {S A : Type 0} (one_at next : S → List ℕ → Reading A) (left : A → S) → ((state : S) → ReadsOn (one_at state) (next state)) → (count : ℕ) (state : S) →
    ReadsOn (chain_at one_at left count state) (chain_at next left count state)
unfolding chain_at
chains one_at next left steady zero state bytes more = done Short (behind more) ([], bytes)
chains one_at next left steady (suc count) state bytes more =
    one_then (behind more) (behind more) (one_at state bytes) (next state (bytes ++ more)) _ _ (steady state bytes more)
    (λ first. one_then (behind more) (behind more) _ _ _ _ (chains one_at next left steady count (left first.0) first.1 more)
    (λ others. done Short (behind more) (first.0 ∷ others.0, others.1)))

short_lists : {S A : Type 0} (one_at next : S → List ℕ → Reading A) (left : A → S) → ((state : S) → ReadsOn (one_at state) (next state)) → (start : S) →
    ReadsOn (short_list_at one_at left start) (short_list_at next left start)
unfolding short_list_at
short_lists one_at next left steady start [] more = cut Short (behind more) _
short_lists one_at next left steady start (count ∷ rest) more = chains one_at next left steady count start rest more

long_lists : {S A : Type 0} (one_at next : S → List ℕ → Reading A) (left : A → S) → ((state : S) → ReadsOn (one_at state) (next state)) → (start : S) →
    ReadsOn (long_list_at one_at left start) (long_list_at next left start)
unfolding long_list_at
long_lists one_at next left steady start bytes more =
    one_then (behind more) (behind more) (u32_at bytes) (u32_at (bytes ++ more)) _ _ (numbers w32 bytes more)
    (λ count. chains one_at next left steady count.0 start count.1 more)

-- ---- nodes

numbers_after : (previous : ℕ) → IsSteady (number_after previous)
unfolding number_after
numbers_after previous input onward bytes more =
    one_then (behind more) (behind more) (u64_at bytes) (u64_at (bytes ++ more)) _ _ (numbers w64 bytes more)
    (λ number. either_way Short (behind more) (nat_lt previous number.0) _ _ _ _ (done Short (behind more) number) (faults Short (behind more) _ _))

owned : IsSteady owned_at
unfolding owned_at
owned input onward = both (λ owner directory. (owner, directory)) (name_at input) (name_at onward) u64_at u64_at (names input onward) (numbers w64)

kinded : IsSteady kinded_at
unfolding kinded_at
kinded input onward = both (λ kind owned. (kind, owned)) (kind_at input) (kind_at onward) (owned_at input) (owned_at onward) (coded kind_of input onward) (owned input onward)

node_heads : (previous : ℕ) → IsSteady (node_head_at previous)
unfolding node_head_at
node_heads previous input onward =
    both (λ number kinded. (number, kinded)) (number_after previous input) (number_after previous onward) (kinded_at input) (kinded_at onward) (numbers_after previous input onward) (kinded input onward)

attributes : (previous : List ℕ) → IsSteady (attribute_at previous)
unfolding attribute_at
attributes previous input onward =
    both (λ name value. (name, value)) (attribute_name_at previous input) (attribute_name_at previous onward) (text_at input) (text_at onward) (words 1 64 (is_name_after previous) input onward) (texts input onward)

held : IsSteady held_at
unfolding held_at
held input onward =
    both (λ attributes contents. (attributes, contents)) (attributes_at input) (attributes_at onward) sized_bytes_at sized_bytes_at
    (short_lists (λ previous. attribute_at previous input) (λ previous. attribute_at previous onward) name_of (λ previous. attributes previous input onward) []) sized_bytes

node_tails : IsSteady node_tail_at
unfolding node_tail_at
node_tails input onward =
    both (λ name held. (name, held)) (node_name_at input) (node_name_at onward) (held_at input) (held_at onward) (words 0 64 is_name_or_none input onward) (held input onward)

node_fields : (previous : ℕ) → IsSteady (node_fields_at previous)
unfolding node_fields_at
node_fields previous input onward =
    both (λ head tail. (head, tail)) (node_head_at previous input) (node_head_at previous onward) (node_tail_at input) (node_tail_at onward) (node_heads previous input onward) (node_tails input onward)

nodes : (previous : ℕ) → IsSteady (node_at previous)
nodes previous input onward bytes more = made node_of_fields more _ _ (node_fields previous input onward bytes more)

all_nodes : IsSteady nodes_at
all_nodes input onward = long_lists (λ previous. node_at previous input) (λ previous. node_at previous onward) number_of (λ previous. nodes previous input onward) 0

-- ---- the whole

counts : ReadsOn counts_at counts_at
unfolding counts_at
counts = both (λ count next. (count, next)) u64_at u64_at u64_at u64_at (numbers w64) (numbers w64)

heads : IsSteady head_at
unfolding head_at
heads input onward = both (λ moment counts. (moment, counts)) (moment_field_at input) (moment_field_at onward) counts_at counts_at (moment_fields input onward) counts

entries : IsSteady entry_at
entries input onward bytes more = made entry_of more _ _ (registrations input onward bytes more)

all_entries : IsSteady statements_at
all_entries input onward = long_lists (alone (entry_at input)) (alone (entry_at onward)) nothing_left (λ _. entries input onward) tt

each_issue : IsSteady issue_at
each_issue input onward bytes more = made issue_of more _ _ (issues input onward bytes more)

all_issues : IsSteady issues_at
all_issues input onward = long_lists (alone (issue_at input)) (alone (issue_at onward)) nothing_left (λ _. each_issue input onward) tt

issues_and_nodes : IsSteady issues_and_nodes_at
unfolding issues_and_nodes_at
issues_and_nodes input onward = both (λ issues nodes. (issues, nodes)) (issues_at input) (issues_at onward) (nodes_at input) (nodes_at onward) (all_issues input onward) (all_nodes input onward)

lists : IsSteady lists_at
unfolding lists_at
lists input onward =
    both (λ statements others. (statements, others)) (statements_at input) (statements_at onward) (issues_and_nodes_at input) (issues_and_nodes_at onward) (all_entries input onward) (issues_and_nodes input onward)

parts : IsSteady parts_at
unfolding parts_at
parts input onward = both (λ head lists. (head, lists)) (head_at input) (head_at onward) (lists_at input) (lists_at onward) (heads input onward) (lists input onward)

pub fields : IsSteady fields_at
fields input onward bytes more = made base_of_parts more _ _ (parts input onward bytes more)

withdrawn_number : (most previous : ℕ) → IsSteady (withdrawn_number_at most previous)
unfolding withdrawn_number_at
withdrawn_number most previous input onward bytes more =
    one_then (behind more) (behind more) (u32_at bytes) (u32_at (bytes ++ more)) _ _ (numbers w32 bytes more)
    (λ number. either_way Short (behind more) (nat_lt previous number.0 && nat_le number.0 most) _ _ _ _ (done Short (behind more) number) (faults Short (behind more) _ _))

withdrawn_numbers : (most : ℕ) → IsSteady (withdrawn_numbers_at most)
withdrawn_numbers most input onward =
    long_lists (λ previous. withdrawn_number_at most previous input) (λ previous. withdrawn_number_at most previous onward) number_left (λ previous. withdrawn_number most previous input onward) 0

states : IsSteady state_at
unfolding state_at
states input onward bytes more =
    one_then (behind more) (behind more) (fields_at input bytes) (fields_at onward (bytes ++ more)) _ _ (fields input onward bytes more)
    (λ read. one_then (behind more) (behind more) _ _ _ _ (withdrawn_numbers (length read.0.statements) input onward read.1 more)
    (λ numbers. done Short (behind more) (with_withdrawn read.0 numbers.0, numbers.1)))

pub images : IsSteady image_at
unfolding image_at
images input onward [] more = cut Short (behind more) _
images input onward (version ∷ rest) more = either_way Short (behind more) (version == 2) _ _ _ _ (states input onward rest more) (faults Short (behind more) _ _)
