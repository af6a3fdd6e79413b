-- What each step of the code makes of the blocks and of the contents in them.
use Rattle.std.proofs.Common.{◌≡◌, ℕ, ◌+◌, ◌-◌, ◌*◌, ◌/◌, ◌%◌, ◌^◌, ◌<◌, ◌≤◌, min, max, List, [], ◌∷◌, ◌++◌, length, take, drop, set, get_or, replicate, refl, sym, ap, ◌∙◌, subst, arith, append-nil, length-drop}
use Rattle.std.specs.List.{concat}
use Rattle.std.proofs.lemmas.List.{take_all, drop_all, drop-drop, length-set, length-take-le, nil_from_length}
use Rattle.std.proofs.lemmas.List.Elements.{All-same, All-push, All-set, All-take, All-get_or}
use borrow.Rule.Slice.PartMut.{put_mid}
use Rattle.file_world.specs.TreeEffect.{write_at, resize_to}
use Rattle.file_blocks.specs.Blocks.{over, zeros, blocks_for, AreWhole, AreContents, IsFilledUp}
use Rattle.file_blocks.proofs.OverLemmas.{zeros-is, length-zeros, over-is, over-nothing, over-parts, length-over}
use Rattle.file_blocks.proofs.BlockLemmas.{length-concat, concat-take, concat-over, part-concat, filled-more}
use Rattle.file_blocks.proofs.ContentsLemmas.{BeginsZero, length-front, written, filled_up, cut_short, wiped, more_zeros}

-- ---- in one block

pub put_in_place : (all bytes new : List ℕ) (at : ℕ) → new ≡ bytes → put_mid at (at + length bytes - at) all new ≡ over all at bytes
put_in_place all bytes new at e =
    let k : at + length bytes - at ≡ length bytes = omega arith in
    ap (λ (p : List ℕ). take at all ++ (p ++ drop (at + length bytes - at) (drop at all))) e
    ∙ (ap (λ (n : ℕ). take at all ++ (bytes ++ drop n (drop at all))) k
    ∙ (ap (λ (s : List ℕ). take at all ++ (bytes ++ s)) (drop-drop (length bytes) at all)
    ∙ sym (over-is all at bytes)))

pub wiped_in_place : (all new : List ℕ) (at : ℕ) → at ≤ length all → new ≡ replicate (length (take (length all - at) (drop at all))) 0 → put_mid at (length all - at) all new ≡ over all at (zeros (length all - at))
wiped_in_place all new at within e =
    let m : ℕ = length all - at in
    let fill : List ℕ = zeros m in
    let ld = length-drop at all in
    let l : length (take m (drop at all)) ≡ m = length-take-le m (drop at all) (omega (arith, ld)) in
    let is : new ≡ fill = e ∙ (ap (λ (n : ℕ). replicate n 0) l ∙ sym (zeros-is m)) in
    ap (λ (p : List ℕ). take at all ++ (p ++ drop m (drop at all))) is
    ∙ (ap (λ (s : List ℕ). take at all ++ (fill ++ s)) (drop-drop m at all ∙ ap (λ (n : ℕ). drop (at + n) all) (sym (length-zeros m)))
    ∙ sym (over-is all at fill))

-- ---- in a list of blocks

whole_front : (blocks : List (List ℕ)) (k : ℕ) → AreWhole blocks → AreWhole (take k blocks)
whole_front blocks k whole = All-take (λ (b : List ℕ). length b ≡ 4096) k blocks whole

size_at : (blocks : List (List ℕ)) (i : ℕ) (d : List ℕ) → AreWhole blocks → i < length blocks → length (get_or blocks i d) ≡ 4096
size_at blocks i d whole inside = All-get_or (λ (b : List ℕ). length b ≡ 4096) blocks i d inside whole

-- one block is changed
pub record Changed (blocks new : List (List ℕ)) (at : ℕ) (bytes : List ℕ) : Type 0 where
  pub concat_is : concat new ≡ over (concat blocks) at bytes
  pub whole : AreWhole new

pub changed : (blocks new : List (List ℕ)) (block made bytes : List ℕ) (i start at : ℕ) → AreWhole blocks → i < length blocks → start + length bytes ≤ 4096 → 4096 * i + start ≡ at → block ≡ get_or blocks i block → made ≡ over block start bytes → new ≡ set blocks i made → Changed blocks new at bytes
changed blocks new block made bytes i start at whole inside fits place is e n =
    let size : length block ≡ 4096 = ap length is ∙ size_at blocks i block whole inside in
    let there : made ≡ over (get_or blocks i block) start bytes = e ∙ ap (λ (b : List ℕ). over b start bytes) is in
    let long : length made ≡ 4096 = ap length e ∙ (length-over block start bytes (omega (arith, size, fits)) ∙ size) in
    record {
      concat_is = ap concat n ∙ (ap (λ (b : List ℕ). concat (set blocks i b)) there
          ∙ (concat-over 4096 blocks i start bytes block whole inside fits
          ∙ ap (λ (k : ℕ). over (concat blocks) k bytes) place));
      whole = All-same (λ (b : List ℕ). length b ≡ 4096) new (set blocks i made) n (All-set (λ (b : List ℕ). length b ≡ 4096) blocks i made long whole);
    }

-- what is left to be put after a part that lies in one block
pub record PutMore (new : List (List ℕ)) (left result : List ℕ) (at : ℕ) : Type 0 where
  pub whole : AreWhole new
  pub within : at + length left ≤ 4096 * length new
  pub same : over (concat new) at left ≡ result

pub put_more : (blocks new : List (List ℕ)) (block made part left rest result : List ℕ) (at n : ℕ) → AreWhole blocks → at + length rest ≤ 4096 * length blocks → over (concat blocks) at rest ≡ result → 0 < length rest → n ≡ min (length rest) (4096 - at % 4096) → block ≡ get_or blocks (at / 4096) block → part ≡ take n rest → made ≡ over block (at % 4096) part → left ≡ drop n rest → new ≡ set blocks (at / 4096) made → PutMore new left result (at + n)
put_more blocks new block made part left rest result at n whole within same some least is part_is e left_is n_is =
    let lp : length part ≡ n = ap length part_is ∙ length-take-le n rest (omega (arith, least)) in
    let ll : length left ≡ length rest - n = ap length left_is ∙ length-drop n rest in
    let ln : length new ≡ length blocks = ap length n_is ∙ length-set blocks (at / 4096) made in
    let lc = length-concat 4096 blocks whole in
    let change = changed blocks new block made part (at / 4096) (at % 4096) at whole (omega (arith, within, some)) (omega (arith, lp, least)) (omega arith) is e n_is in
    record {
      whole = change.whole;
      within = omega (arith, ll, ln, within, least);
      same = ap (λ (s : List ℕ). over s (at + n) left) change.concat_is
          ∙ (ap (λ (s : List ℕ). over (over (concat blocks) at s) (at + n) left) part_is
          ∙ (ap (λ (s : List ℕ). over (over (concat blocks) at (take n rest)) (at + n) s) left_is
          ∙ (over-parts (concat blocks) at n rest (omega (arith, least)) (omega (arith, lc, within))
          ∙ same)));
    }

pub all_put : (blocks : List (List ℕ)) (rest result : List ℕ) (at : ℕ) → length rest ≡ 0 → over (concat blocks) at rest ≡ result → concat blocks ≡ result
all_put blocks rest result at none same =
    sym (ap (over (concat blocks) at) (nil_from_length rest none) ∙ over-nothing (concat blocks) at) ∙ same

-- a part of one block
pub piece_is : (blocks : List (List ℕ)) (block bytes : List ℕ) (i start count more at : ℕ) → AreWhole blocks → i < length blocks → start + count ≤ 4096 → 4096 * i + start ≡ at → block ≡ get_or blocks i block → bytes ≡ block → more ≡ count → take more (drop start bytes) ≡ take (length (take more (drop start bytes))) (drop at (concat blocks))
piece_is blocks block bytes i start count more at whole inside fits place is same m =
    let b : bytes ≡ get_or blocks i block = same ∙ is in
    let size : length bytes ≡ 4096 = ap length b ∙ size_at blocks i block whole inside in
    let ld = length-drop start bytes in
    let l : length (take more (drop start bytes)) ≡ count = length-take-le more (drop start bytes) (omega (arith, ld, size, fits, m)) ∙ m in
    ap (λ (s : List ℕ). take more (drop start s)) b
    ∙ (ap (λ (n : ℕ). take n (drop start (get_or blocks i block))) m
    ∙ (part-concat 4096 blocks i start count block whole inside fits
    ∙ (ap (λ (k : ℕ). take count (drop k (concat blocks))) place
    ∙ ap (λ (n : ℕ). take n (drop at (concat blocks))) (sym l))))

-- ---- more blocks

pub none_added : (blocks : List (List ℕ)) → concat blocks ≡ concat blocks ++ zeros (4096 * (length blocks - length blocks))
none_added blocks =
    let e : 4096 * (length blocks - length blocks) ≡ 0 = omega arith in
    sym (ap (λ (n : ℕ). concat blocks ++ zeros n) e ∙ (ap (λ (s : List ℕ). concat blocks ++ s) (zeros-is 0) ∙ append-nil (concat blocks)))

pub one_added : (old now new : List (List ℕ)) (block : List ℕ) → length old ≤ length now → concat now ≡ concat old ++ zeros (4096 * (length now - length old)) → block ≡ zeros 4096 → new ≡ now ++ block ∷ [] → concat new ≡ concat old ++ zeros (4096 * (length new - length old))
one_added old now new block grows e z n =
    let is : new ≡ now ++ zeros 4096 ∷ [] = n ∙ ap (λ (b : List ℕ). now ++ b ∷ []) z in
    subst (λ (s : List (List ℕ)). concat s ≡ concat old ++ zeros (4096 * (length s - length old))) (sym is) (filled-more 4096 old now grows e)

pub whole_added : (now new : List (List ℕ)) (block : List ℕ) → AreWhole now → block ≡ zeros 4096 → new ≡ now ++ block ∷ [] → AreWhole new
whole_added now new block whole z n =
    let P : List ℕ → Type 0 = λ b. length b ≡ 4096 in
    All-same P new (now ++ block ∷ []) n (All-push P now block whole (ap length z ∙ length-zeros 4096))

-- ---- fewer blocks

pub whole_kept : (old kept : List (List ℕ)) (k : ℕ) → AreWhole old → kept ≡ take k old → AreWhole kept
whole_kept old kept k whole e = All-same (λ (b : List ℕ). length b ≡ 4096) kept (take k old) e (whole_front old k whole)

pub cut_at_end : (old kept : List (List ℕ)) (k len : ℕ) → AreWhole old → kept ≡ take k old → 4096 * k ≡ len → concat kept ≡ take len (concat old) ++ zeros (4096 * k - len)
cut_at_end old kept k len whole e is =
    let none : 4096 * k - len ≡ 0 = omega (arith, is) in
    ap concat e ∙ (concat-take 4096 k old whole ∙ (ap (λ (n : ℕ). take n (concat old)) is
    ∙ sym (ap (λ (n : ℕ). take len (concat old) ++ zeros n) none ∙ (ap (λ (s : List ℕ). take len (concat old) ++ s) (zeros-is 0) ∙ append-nil (take len (concat old))))))

pub cut_within : (old kept new : List (List ℕ)) (k len : ℕ) → AreWhole old → kept ≡ take k old → k ≤ length old → len ≤ 4096 * k → Changed kept new len (zeros (4096 * k - len)) → concat new ≡ take len (concat old) ++ zeros (4096 * k - len)
cut_within old kept new k len whole e few le change =
    let l = length-concat 4096 old whole in
    change.concat_is
    ∙ (ap (λ (s : List ℕ). over s len (zeros (4096 * k - len))) (ap concat e ∙ concat-take 4096 k old whole)
    ∙ wiped (concat old) len (4096 * k) le (omega (arith, l, few)))

pub cut_changed : (old kept new : List (List ℕ)) (block made : List ℕ) (len : ℕ) → AreWhole old → len ≤ 4096 * length old → kept ≡ take (blocks_for len) old → (len % 4096 ≡ 0 → ⊥) → block ≡ get_or kept (len / 4096) block → made ≡ over block (len % 4096) (zeros (length block - len % 4096)) → new ≡ set kept (len / 4096) made → (concat new ≡ take len (concat old) ++ zeros (4096 * blocks_for len - len)) × AreWhole new
cut_changed old kept new block made len whole within e some is made_is new_is =
    let k : ℕ = blocks_for len in
    let few : k ≤ length old = omega (arith, within) in
    let lk : length kept ≡ k = ap length e ∙ length-take-le k old few in
    let inside : len / 4096 < length kept = omega (arith, lk, some) in
    let size : length block ≡ 4096 = ap length is ∙ size_at kept (len / 4096) block (whole_kept old kept k whole e) inside in
    let m : length block - len % 4096 ≡ 4096 * k - len = omega (arith, size, some) in
    let lz = length-zeros (4096 * k - len) in
    let change = changed kept new block made (zeros (4096 * k - len)) (len / 4096) (len % 4096) len (whole_kept old kept k whole e) inside (omega (arith, lz, m, size)) (omega arith) is
    (made_is ∙ ap (λ (n : ℕ). over block (len % 4096) (zeros n)) m) new_is in
    (cut_within old kept new k len whole e few (omega arith) change, change.whole)

-- ---- the contents

-- a list that is written whole through a reference to its items
pub all_written : {X : Type 0} (len : ℕ) (new items : List X) → length new ≡ length items → len ≡ length items → take len (new ++ drop (length new) items) ≡ new
all_written {X} len new items same all =
    ap (λ (rest : List X). take len (new ++ rest)) (drop_all (length new) items (omega (arith, same)))
    ∙ (ap (take len) (append-nil new) ∙ take_all len new (omega (arith, same, all)))

pub within_all : (all : List ℕ) (len : ℕ) → AreContents all len → len ≤ length all
within_all all len kept = kept.within

begins : (all : List ℕ) (len : ℕ) → AreContents all len → BeginsZero all len (length all)
begins all len kept = record { long = refl; within = kept.within; zero_after = kept.zero_after }

contents_from : (all : List ℕ) (len room : ℕ) → length all < 2 ^ 64 → BeginsZero all len room → AreContents all len
contents_from all len room few b =
    let long = b.long in
    let within = b.within in
    record {
      within = omega (arith, long, within);
      zero_after = b.zero_after ∙ ap (λ (n : ℕ). zeros (n - len)) (sym long);
      few = few;
    }

pub length-contents : (all : List ℕ) (len : ℕ) → AreContents all len → length (take len all) ≡ len
length-contents all len kept = length-front all len (length all) (begins all len kept)

pub no_contents : (all : List ℕ) → all ≡ [] → AreContents all 0
no_contents all none =
    let empty : List ℕ = [] in
    let nothing : AreContents empty 0 = record {
      within = omega arith;
      zero_after = sym (zeros-is 0);
      few = omega arith;
    } in
    subst (λ (s : List ℕ). AreContents s 0) (sym none) nothing

-- the contents with more room
pub record Roomier (old new : List ℕ) (len : ℕ) : Type 0 where
  pub kept : AreContents new len
  pub same : take len new ≡ take len old

pub roomier : (old new : List ℕ) (len : ℕ) → AreContents old len → length new < 2 ^ 64 → IsFilledUp old new → Roomier old new len
roomier old new len kept few filled =
    let more : ℕ = length new - length old in
    let m = more_zeros old new len (length old) more (begins old len kept) filled.bytes in
    record { kept = contents_from new len (length old + more) few m.1; same = m.0 }

-- the contents after a write
pub record Written (old new : List ℕ) (len offset : ℕ) (bytes : List ℕ) : Type 0 where
  pub kept : AreContents new (max len (offset + length bytes))
  pub bytes_are : take (max len (offset + length bytes)) new ≡ write_at (take len old) offset bytes
  pub room : length new ≡ length old

pub write_done : (old new : List ℕ) (len offset : ℕ) (bytes : List ℕ) → AreContents old len → 0 < length bytes → offset + length bytes ≤ length old → new ≡ over old offset bytes → Written old new len offset bytes
write_done old new len offset bytes kept some fits e =
    let few = kept.few in
    let same : length new ≡ length old = ap length e ∙ length-over old offset bytes fits in
    let w = written old new len (length old) offset bytes (begins old len kept) some fits e same in
    record {
      kept = contents_from new (max len (offset + length bytes)) (length old) (omega (arith, same, few)) w.begins;
      bytes_are = w.front;
      room = same;
    }

-- the contents with a new length
pub record Resized (old new : List ℕ) (len n : ℕ) : Type 0 where
  pub kept : AreContents new n
  pub bytes_are : take n new ≡ resize_to (take len old) n

pub resized_up : (old : List ℕ) (len n : ℕ) → AreContents old len → len ≤ n → n ≤ length old → Resized old old len n
resized_up old len n kept longer fits =
    let r = filled_up old len (length old) n (begins old len kept) longer fits in
    record { kept = contents_from old n (length old) kept.few r.begins; bytes_are = r.front }

pub resized_down : (old new : List ℕ) (len n : ℕ) → AreContents old len → n < len → length new ≡ min (length old) (4096 * blocks_for n) → new ≡ take n old ++ zeros (length new - n) → Resized old new len n
resized_down old new len n kept shorter count e =
    let few = kept.few in
    let within = kept.within in
    let r = cut_short old new len (length old) (length new) n (begins old len kept) (omega (arith, shorter)) e (omega (arith, count, within, shorter)) in
    record { kept = contents_from new n (length new) (omega (arith, count, few)) r.begins; bytes_are = r.front }
