-- What the loops read and write is what the definitions read and spell.
use Rattle.std.proofs.Common.{◌≡◌, ℕ, zero, suc, ◌-◌, ◌+◌, ◌≤◌, ◌<◌, List, [], ◌∷◌, ◌++◌, length, take, get_or, Ok, Err, refl, sym, ap, subst, ◌∙◌, append_assoc, arith}
use Rattle.std.specs.List.{AllByRecursion, flat_map}
use Rattle.std.proofs.lemmas.List.{append-nil, take_all, take_more}
use Rattle.bl_syntax.specs.declared.codec_fault.CodecFault.{CodecFault}
use Rattle.bl_syntax.specs.Reading.{◌>>=◌, Reading}
use Rattle.bl_syntax.specs.BeginsWith.{BeginsWith}
use Rattle.bl_syntax.specs.Codec.{ReportsFault}
use Rattle.bl_syntax.proofs.ReportsFaultLemmas.{hands_on}
use Rattle.bl_syntax.proofs.GrantLemmas.{AllByRecursion-push}
use Rattle.node_rows.specs.declared.rows.TreeRow.{TreeRow}
use Rattle.node_rows.specs.declared.rows.MetaRow.{MetaRow}
use Rattle.node_rows.specs.Rows.{item_row, item_rows, AreOfSameNodes}
use Rattle.record_parts.proofs.CodecLemmas.{done}
use Rattle.record_parts.proofs.ReadingLemmas.{with_front}
use Rattle.checkpoint_image.specs.Chain.{chain_at}

-- ---- reading

regroup : {A : Type 0} (front : List A) (x : A) (read : Reading (List A)) → with_front front (read >>= λ xs. Ok (x ∷ xs.0, xs.1)) ≡ with_front (front ++ x ∷ []) read
regroup {A} front x (Ok xs) = ap (λ (all : List A). done (all, xs.1)) (sym (append_assoc front (x ∷ []) xs.0))
regroup front x (Err fault) = refl

pub goes_on : {S A : Type 0} (one_at : S → List ℕ → Reading A) (left : A → S) (front : List A) (count i : ℕ) (state : S) (bytes : List ℕ) (x : A) (behind : List ℕ) (total : Reading (List A)) → i < count → one_at state bytes ≡ Ok (x, behind)
    → with_front front (chain_at one_at left (count - i) state bytes) ≡ total → with_front (front ++ x ∷ []) (chain_at one_at left (count - (i + 1)) (left x) behind) ≡ total
unfolding chain_at
goes_on one_at left front count i state bytes x behind total lt h so_far =
    let k : count - i ≡ suc (count - (i + 1)) = omega arith in
    let one : with_front front (chain_at one_at left (count - i) state bytes) ≡ with_front (front ++ x ∷ []) (chain_at one_at left (count - (i + 1)) (left x) behind) = rw (k, h) (regroup front x (chain_at one_at left (count - (i + 1)) (left x) behind)) in
    sym one ∙ so_far

pub ends : {S A : Type 0} (fault : CodecFault) (one_at : S → List ℕ → Reading A) (left : A → S) (front : List A) (count i : ℕ) (state : S) (bytes : List ℕ) (total : Reading (List A)) → i < count → ReportsFault fault (one_at state bytes)
    → with_front front (chain_at one_at left (count - i) state bytes) ≡ total → ReportsFault fault total
unfolding chain_at
ends {S} {A} fault one_at left front count i state bytes total lt h so_far =
    let k : count - i ≡ suc (count - (i + 1)) = omega arith in
    let many : Reading (List A) = chain_at one_at left (suc (count - (i + 1))) state bytes in
    let one : ReportsFault fault many = hands_on fault (one_at state bytes) (λ first. chain_at one_at left (count - (i + 1)) (left first.0) first.1 >>= λ others. done (first.0 ∷ others.0, others.1)) h in
    let all : ReportsFault fault (with_front front many) = hands_on fault many (λ x. done (front ++ x.0, x.1)) one in
    subst (ReportsFault fault) (ap (λ (n : ℕ). with_front front (chain_at one_at left n state bytes)) (sym k) ∙ so_far) all

pub is_done : {S A : Type 0} (one_at : S → List ℕ → Reading A) (left : A → S) (front : List A) (count i : ℕ) (state : S) (bytes : List ℕ) (total : Reading (List A)) → count ≤ i → with_front front (chain_at one_at left (count - i) state bytes) ≡ total → total ≡ Ok (front, bytes)
unfolding chain_at
is_done {S} {A} one_at left front count i state bytes total le so_far =
    let k : count - i ≡ 0 = omega arith in
    let one : with_front front (chain_at one_at left (count - i) state bytes) ≡ Ok (front, bytes) = rw k (ap (λ (all : List A). done (all, bytes)) (append-nil front)) in
    sym so_far ∙ one

-- before the first item
pub nothing_before : {A : Type 0} (read : Reading (List A)) → with_front [] read ≡ read
nothing_before (Ok x) = refl
nothing_before (Err fault) = refl

-- ---- writing

-- an item of a list of which all have something
pub all_read : {A : Type 0} (P : A → Type 0) (items : List A) (place : ℕ) (item : A) → AllByRecursion P items → place < length items → item ≡ get_or items place item → P item
all_read {A} P items place item all lt is = subst P (sym is) (there items place all lt)
  where
    there : (xs : List A) (i : ℕ) → AllByRecursion P xs → i < length xs → P (get_or xs i item)
    there [] i each within = absurd (omega (arith, within))
    there (x ∷ xs) zero each within = each.0
    there (x ∷ xs) (suc i) each within = there xs i each.1 (omega (arith, within))

-- one item more
pub all_more : {A : Type 0} (P : A → Type 0) (items : List A) (place : ℕ) (item : A) → place < length items → item ≡ get_or items place item → AllByRecursion P (take place items) → P item → AllByRecursion P (take (place + 1) items)
all_more {A} P items place item within read before here =
    let more : take (place + 1) items ≡ take place items ++ item ∷ [] = take_more items place item within ∙ ap (λ (x : A). take place items ++ x ∷ []) (sym read) in
    subst (AllByRecursion P) (sym more) (AllByRecursion-push P (take place items) item before here)

-- all items
pub all_all : {A : Type 0} (P : A → Type 0) (items : List A) (place : ℕ) → length items ≤ place → AllByRecursion P (take place items) → AllByRecursion P items
all_all P items place le all = subst (AllByRecursion P) (take_all place items le) all

-- ---- rows

pub as_many : (trees : List TreeRow) (metas : List MetaRow) → AreOfSameNodes trees metas → length metas ≡ length trees
as_many [] [] same = refl
as_many [] (m ∷ metas) same = absurd same
as_many (t ∷ trees) [] same = absurd same
as_many (t ∷ trees) (m ∷ metas) same = ap suc (as_many trees metas same.1.1)

pub as_many_rows : (trees : List TreeRow) (metas : List MetaRow) → AreOfSameNodes trees metas → length (item_rows trees metas) ≡ length trees
as_many_rows [] [] same = refl
as_many_rows [] (m ∷ metas) same = absurd same
as_many_rows (t ∷ trees) [] same = absurd same
as_many_rows (t ∷ trees) (m ∷ metas) same = ap suc (as_many_rows trees metas same.1.1)

-- the rows at a place are those of the node there
pub row_at : (trees : List TreeRow) (metas : List MetaRow) (place : ℕ) (tree : TreeRow) (meta : MetaRow) → AreOfSameNodes trees metas → place < length trees → get_or (item_rows trees metas) place (item_row tree meta) ≡ item_row (get_or trees place tree) (get_or metas place meta)
row_at [] metas place tree meta same lt = absurd (omega (arith, lt))
row_at (t ∷ trees) [] place tree meta same lt = absurd same
row_at (t ∷ trees) (m ∷ metas) zero tree meta same lt = refl
row_at (t ∷ trees) (m ∷ metas) (suc place) tree meta same lt = row_at trees metas place tree meta same.1.1 (omega (arith, lt))

-- two rows that are read at a place are those of the node there
pub row_read : (trees : List TreeRow) (metas : List MetaRow) (place : ℕ) (tree : TreeRow) (meta : MetaRow) → AreOfSameNodes trees metas → place < length trees → tree ≡ get_or trees place tree → meta ≡ get_or metas place meta
    → item_row tree meta ≡ get_or (item_rows trees metas) place (item_row tree meta)
row_read trees metas place tree meta same lt is_tree is_meta =
    ap (λ (t : TreeRow). item_row t meta) is_tree ∙ ap (λ (m : MetaRow). item_row (get_or trees place tree) m) is_meta ∙ sym (row_at trees metas place tree meta same lt)

-- ---- what is written one after the other

flat_map_push : {A : Type 0} (spelling : A → List ℕ) (items : List A) (item : A) → flat_map spelling (items ++ item ∷ []) ≡ flat_map spelling items ++ spelling item
flat_map_push spelling [] item = append-nil (spelling item)
flat_map_push spelling (x ∷ xs) item = ap (λ (b : List ℕ). spelling x ++ b) (flat_map_push spelling xs item) ∙ sym (append_assoc (spelling x) (flat_map spelling xs) (spelling item))

pub written_more : {A : Type 0} (spelling : A → List ℕ) (items : List A) (place : ℕ) (item : A) (start out new : List ℕ) → place < length items → item ≡ get_or items place item → out ≡ start ++ flat_map spelling (take place items) → new ≡ out ++ spelling item
    → new ≡ start ++ flat_map spelling (take (place + 1) items)
written_more {A} spelling items place item start out new within read before added =
    let more : take (place + 1) items ≡ take place items ++ item ∷ [] = take_more items place item within ∙ ap (λ (x : A). take place items ++ x ∷ []) (sym read) in
    let spelled : flat_map spelling (take (place + 1) items) ≡ flat_map spelling (take place items) ++ spelling item = ap (flat_map spelling) more ∙ flat_map_push spelling (take place items) item in
    added ∙ ap (λ (b : List ℕ). b ++ spelling item) before ∙ append_assoc start (flat_map spelling (take place items)) (spelling item) ∙ ap (λ (b : List ℕ). start ++ b) (sym spelled)

pub written_all : {A : Type 0} (spelling : A → List ℕ) (items : List A) (place : ℕ) (start out : List ℕ) → length items ≤ place → out ≡ start ++ flat_map spelling (take place items) → out ≡ start ++ flat_map spelling items
written_all {A} spelling items place start out le before = before ∙ ap (λ (xs : List A). start ++ flat_map spelling xs) (take_all place items le)

-- what begins with what was written so far begins with what stood there before
pub begins : (start more out new : List ℕ) → out ≡ start ++ more → BeginsWith new out → BeginsWith new start
begins start more out new before h = record { rest = more ++ h.rest; parts = h.parts ∙ ap (λ (b : List ℕ). b ++ h.rest) before ∙ append_assoc start more h.rest }
