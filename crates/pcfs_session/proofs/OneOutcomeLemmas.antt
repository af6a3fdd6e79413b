-- The lines of a script have one outcome at most, unless memory runs out or a disk fails.
use Rattle.std.proofs.Common.{◌≡◌, ℕ, List, ◌∷◌, Option, refl, sym, ap, subst, ◌∙◌}
use Rattle.std.specs.Prelude.{◌≢◌}
use Rattle.access_history.specs.Lawful.{IsLawful}
use Rattle.line_wire.specs.declared.reply.LineReply.{LineReply}
use Rattle.line_wire.specs.declared.reply.LineReply.TheVariants as replies
use Rattle.pcfs_store.specs.Entries.{StoreEntry}
use Rattle.pcfs_session.specs.ScriptContext.{ScriptContext}
use Rattle.pcfs_session.specs.LineAnswer.{authority_under}
use Rattle.pcfs_session.specs.ScriptRun.{ScriptState, IsLawfulStanding, HasRoom, Becomes, kept, full, stopped, IsReplied, answered, without_memory, IsUndisturbed, AreUndisturbed, ScriptRun, ended}
use Rattle.pcfs_session.specs.ScriptRun as script
use Rattle.pcfs_session.proofs.LawfulRunLemmas.{IsLawfulStanding-replied}
use Rattle.pcfs_session.proofs.OneAnswerLemmas.{line_once}

-- a line is replied to in one way
record AreOne (first second : LineReply) (after later : ScriptState) : Type 0 where
  reply : first ≡ second
  after_is : after ≡ later

-- one thing becomes of an answer
becomes_once : (s : ScriptState) (told : LineReply) (asker : ScriptContext) (event other : Option StoreEntry) (first second : LineReply) (after later : ScriptState) → event ≡ other → Becomes s told asker event first after → first ≢ replies.Stopped → Becomes s told asker other second later → second ≢ replies.Stopped →
    AreOne first second after later
becomes_once s told asker _ _ _ _ _ _ same (stopped event room) going becomes going' = absurd (going refl)
becomes_once s told asker _ _ _ _ _ _ same (kept event room) going (stopped other room') going' = absurd (going' refl)
becomes_once s told asker _ _ _ _ _ _ same (full event is_full) going (stopped other room') going' = absurd (going' refl)
becomes_once s told asker _ _ _ _ _ _ same (kept event room) going (kept other room') going' = record { reply = refl; after_is = ap (λ (e : Option StoreEntry). script.standing_after s e asker) same }
becomes_once s told asker _ _ _ _ _ _ same (kept event room) going (full other is_full) going' = absurd (subst (HasRoom s) same room is_full)
becomes_once s told asker _ _ _ _ _ _ same (full event is_full) going (kept other room) going' = absurd (subst (HasRoom s) (sym same) room is_full)
becomes_once s told asker _ _ _ _ _ _ same (full event is_full) going (full other is_full') going' = record { reply = refl; after_is = refl }

replied_once : (s : ScriptState) (line : List ℕ) (first second : LineReply) (after later : ScriptState) → IsLawful (authority_under s.secrets) s.base s.events → IsReplied line s first after → IsUndisturbed first → IsReplied line s second later → IsUndisturbed second →
    AreOne first second after later
replied_once s line _ _ _ _ lawful without_memory calm replied calm' = absurd (calm.had_memory refl)
replied_once s line _ _ _ _ lawful (answered told event asker reply after answer becomes) calm without_memory calm' = absurd (calm'.had_memory refl)
replied_once s line _ _ _ _ lawful (answered told event asker reply after answer becomes) calm (answered told' event' asker' reply' after' answer' becomes') calm' =
    let same = line_once s lawful line told told' event event' asker asker' answer answer' in
    becomes_once s told' asker' event event' reply reply' after after' same.1
    (subst (λ (t : LineReply). Becomes s t asker' event reply after) same.0 (subst (λ (k : ScriptContext). Becomes s told k event reply after) same.2 becomes)) calm.not_stopped becomes' calm'.not_stopped

pub one_outcome : (start end other : ScriptState) (lines : List (List ℕ)) (first second : List LineReply) → IsLawfulStanding start →
    ScriptRun start lines first end → AreUndisturbed first → ScriptRun start lines second other → AreUndisturbed second → (first ≡ second) × (end ≡ other)
one_outcome start _ _ _ _ _ stands (ended _) calm (ended _) calm' = (refl, refl)
one_outcome start end other _ _ _ stands (script.one_more _ line lines reply told next _ going replied run) calm (script.one_more _ _ _ reply' told' next' _ going' replied' run') calm' =
    let same = replied_once start line reply reply' next next' stands.lawful replied calm.0 replied' calm'.0 in
    let others = one_outcome next' end other lines told told' (IsLawfulStanding-replied start next' line reply' stands replied')
    (subst (λ (s : ScriptState). ScriptRun s lines told end) same.after_is run) calm.1 run' calm'.1 in
    (ap (λ (r : LineReply). r ∷ told) same.reply ∙ ap (λ (rs : List LineReply). reply' ∷ rs) others.0, others.1)
