-- What is found with an event, and where the auditor stands after it.
use Rattle.std.proofs.Common.{◌≡◌, ◌+◌, ℕ, List, [], ◌∷◌, ◌++◌, length, refl, sym, subst, ◌∙◌, arith, Bool, true, false, None, Some, Option, take, drop, get_or, ap, ◌<◌}
use Rattle.std.specs.Prelude.{IsTrue, not, ℤ, ◌≤ℤ◌}
use Rattle.std.proofs.lemmas.Bool.{false≢true}
use Rattle.std.proofs.lemmas.List.{length-append, take-append-drop, take_more}
use Rattle.bl_syntax.specs.Statement.{StatementView}
use Rattle.bl_syntax.specs.TimeOrder.{IsMoment}
use Rattle.bl_syntax.specs.Grant.{GrantView}
use Rattle.procap.specs.declared.procap.Procap.{Procap}
use Rattle.proof_term.specs.Proof.{ProofView}
use Rattle.file_world.specs.declared.operation.Op.{Op}
use Rattle.file_world.specs.Effect.{refusal, world_after}
use Rattle.journal_records.specs.declared.event.Event.{Event}
use Rattle.journal_records.specs.declared.event.Event.TheVariants.{Registered, Withdrawn, Issued, Acted}
use Rattle.access_history.specs.Admission.{IsAdmitted}
use Rattle.access_history.specs.Authority.{Authority, IsSignedWithdrawal}
use Rattle.access_history.specs.Base.{BaseView}
use Rattle.access_history.specs.Books.{Book, book_of}
use Rattle.access_history.specs.Citing.{IsHeld, MayBeWithdrawn}
use Rattle.access_history.specs.Replay.{next_state, replay}
use Rattle.access_history.proofs.CitingLemmas.{one_held}
use Rattle.access_history.proofs.ReplayLemmas.{replay-more, world_left-after}
use Rattle.op_gate.specs.Damage.{IsWithdrawalSigned, TakesEffect}
use Rattle.pcfs_audit.specs.declared.auditor.Auditor.{Auditor}
use Rattle.pcfs_audit.specs.declared.credentials.Credentials.{Credentials}
use Rattle.pcfs_audit.specs.declared.report.Finding.{Finding}
use Rattle.pcfs_audit.specs.declared.report.Finding.TheVariants.{Unsigned, Unproved, NotAdmitted, MomentFalls, Unissued}
use Rattle.pcfs_audit.specs.declared.report.ReportRow.{ReportRow}
use Rattle.pcfs_audit.specs.Credentials.{HasCredentials}
use Rattle.pcfs_audit.specs.Finding.{Finds, IsClean, IsFound, is_wrong}
use Rattle.pcfs_audit.specs.Following.{Audits, Follows, HasAudited, HasEnded, StandsAt}
use Rattle.pcfs_audit.specs.Report.{AreRows, number_after}
use Rattle.pcfs_audit.specs.Taking.{IsBrought}
use Rattle.pcfs_audit.proofs.RowsLemmas.{AreRows-clean, AreRows-ended, AreRows-found, AreRows-none, AreSound-at, AreSound-more, AreSound-none, not_sound, sound_clean, sound_right}

-- ---- statements and issues

-- a withdrawal that may come is signed by who said the statement, which stands
pub withdrawn_clear : (authority : Authority) (book : Book) (number : ℕ) (signature : List ℕ) → MayBeWithdrawn authority book number signature → IsWithdrawalSigned authority book number signature × (Unit {0} × IsHeld book number)
withdrawn_clear authority book number signature may = (
  λ statement live. subst (λ (s : StatementView). IsSignedWithdrawal authority s signature) (one_held book number may.statement statement may.live live) may.signed,
  (tt, (may.statement, may.live)),
)

pub clear_withdrawn : (authority : Authority) (book : Book) (number : ℕ) (signature : List ℕ) → IsWithdrawalSigned authority book number signature × (Unit {0} × IsHeld book number) → MayBeWithdrawn authority book number signature
clear_withdrawn authority book number signature clear = record { statement = clear.1.1.0; live = clear.1.1.1; signed = clear.0 clear.1.1.0 clear.1.1.1 }

-- what is told of an event whose credentials are all that it needs
module _ (authority : Authority) (state : BaseView) (before after : Auditor) (credentials : Credentials) (found : Option Finding) (stands : StandsAt state before) (same : after ≡ before) where
  pub registered_followed : (pass : ℕ) (statement : StatementView) (signature : List ℕ) → HasCredentials authority state (Registered pass statement signature) credentials → (IsTrue credentials.genuine → found ≡ None) → (credentials.genuine ≡ false → found ≡ Some Unsigned) →
      Follows authority state (Registered pass statement signature) found after
  registered_followed pass statement signature has none some = told credentials.genuine refl where
    told : (genuine : Bool) → credentials.genuine ≡ genuine → Follows authority state (Registered pass statement signature) found after
    told true is = record {
      finds = subst (Finds authority state (Registered pass statement signature)) (sym (none is)) (let both = has.genuine.0 is in ((both.0, (both.1, tt)), (tt, (tt, ((tt, tt), (tt, tt))))));
      stands = λ sound. subst (λ (a : Auditor). StandsAt (next_state state (Registered pass statement signature)) a) (sym same) (record { world_is = stands.world_is; moment_is = stands.moment_is });
    }
    told false is =
        let not : IsTrue credentials.genuine → ⊥ = λ yes. false≢true (sym is ∙ yes) in
        record {
          finds = subst (Finds authority state (Registered pass statement signature)) (sym (some is))
              (record { place = 0; first = record { before = []; behind = Unproved ∷ MomentFalls ∷ NotAdmitted ∷ Unissued ∷ []; parts = refl; place_is = refl; holds_before = tt; fails = λ clear. not (has.genuine.1 (clear.0, clear.1.0)) } });
          stands = λ sound. absurd (not (has.genuine.1 (sound.0.0, sound.0.1.0)));
        }

  pub withdrawn_followed : (pass number : ℕ) (signature : List ℕ) → HasCredentials authority state (Withdrawn pass number signature) credentials → (IsTrue credentials.genuine → found ≡ None) → (credentials.genuine ≡ false → found ≡ Some Unsigned) →
      Follows authority state (Withdrawn pass number signature) found after
  withdrawn_followed pass number signature has none some = told credentials.genuine refl where
    told : (genuine : Bool) → credentials.genuine ≡ genuine → Follows authority state (Withdrawn pass number signature) found after
    told true is = record {
      finds = subst (Finds authority state (Withdrawn pass number signature)) (sym (none is)) (withdrawn_clear authority (book_of state) number signature (has.genuine.0 is), (tt, (tt, ((tt, tt), (tt, tt)))));
      stands = λ sound. subst (λ (a : Auditor). StandsAt (next_state state (Withdrawn pass number signature)) a) (sym same) (record { world_is = stands.world_is; moment_is = stands.moment_is });
    }
    told false is =
        let not : IsTrue credentials.genuine → ⊥ = λ yes. false≢true (sym is ∙ yes) in
        let wrong = λ (clear : IsWithdrawalSigned authority (book_of state) number signature × (Unit {0} × IsHeld (book_of state) number)). not (has.genuine.1 (clear_withdrawn authority (book_of state) number signature clear)) in
        record {
          finds = subst (Finds authority state (Withdrawn pass number signature)) (sym (some is))
              (record { place = 0; first = record { before = []; behind = Unproved ∷ MomentFalls ∷ NotAdmitted ∷ Unissued ∷ []; parts = refl; place_is = refl; holds_before = tt; fails = wrong } });
          stands = λ sound. absurd (wrong sound.0);
        }

  pub issued_followed : (pass : ℕ) (cited : List ℕ) (proof : ProofView) (g : GrantView) → HasCredentials authority state (Issued pass cited proof g) credentials → (IsTrue credentials.genuine → found ≡ None) → (credentials.genuine ≡ false → found ≡ Some Unproved) →
      Follows authority state (Issued pass cited proof g) found after
  issued_followed pass cited proof g has none some = told credentials.genuine refl where
    told : (genuine : Bool) → credentials.genuine ≡ genuine → Follows authority state (Issued pass cited proof g) found after
    told true is = record {
      finds = subst (Finds authority state (Issued pass cited proof g)) (sym (none is)) ((tt, (tt, tt)), (has.genuine.0 is, (tt, ((tt, tt), (tt, tt)))));
      stands = λ sound. subst (λ (a : Auditor). StandsAt (next_state state (Issued pass cited proof g)) a) (sym same) (record { world_is = stands.world_is; moment_is = stands.moment_is });
    }
    told false is =
        let not : IsTrue credentials.genuine → ⊥ = λ yes. false≢true (sym is ∙ yes) in
        record {
          finds = subst (Finds authority state (Issued pass cited proof g)) (sym (some is))
              (record { place = 1; first = record { before = Unsigned ∷ []; behind = MomentFalls ∷ NotAdmitted ∷ Unissued ∷ []; parts = refl; place_is = refl; holds_before = ((tt, (tt, tt)), tt); fails = λ clear. not (has.genuine.1 clear) } });
          stands = λ sound. absurd (not (has.genuine.1 sound.1.0));
        }

-- ---- operations

module _ (authority : Authority) (state : BaseView) (pass : ℕ) (caller : List ℕ) (op : Op) (procaps : List Procap) (moment : ℤ) where
  -- its moment falls
  pub falls_followed : (after : Auditor) → (state.moment ≤ℤ moment → ⊥) → Follows authority state (Acted pass caller op procaps moment) (Some MomentFalls) after
  falls_followed after falls = record {
    finds = record {
      place = 2;
      first = record { before = Unsigned ∷ Unproved ∷ []; behind = NotAdmitted ∷ Unissued ∷ []; parts = refl; place_is = refl; holds_before = ((tt, (tt, tt)), (tt, tt)); fails = falls };
    };
    stands = λ sound. absurd (falls sound.1.1.0);
  }

  -- it did not take effect as it had to
  pub not_admitted_followed : (after : Auditor) → state.moment ≤ℤ moment → ((IsBrought op procaps moment × IsAdmitted authority.key state caller op procaps moment × (refusal state.world op ≡ None)) → ⊥) →
      Follows authority state (Acted pass caller op procaps moment) (Some NotAdmitted) after
  not_admitted_followed after not_before fails =
      let not = λ (clear : IsMoment moment × TakesEffect authority.key state caller op procaps moment).
      fails (record { in_range = clear.0; brought = clear.1.brought }, clear.1.admitted, clear.1.not_refused) in
      record {
        finds = record {
          place = 3;
          first = record {
            before = Unsigned ∷ Unproved ∷ MomentFalls ∷ [];
            behind = Unissued ∷ [];
            parts = refl;
            place_is = refl;
            holds_before = ((tt, (tt, tt)), (tt, (not_before, tt)));
            fails = not;
          };
        };
        stands = λ sound. absurd (not sound.1.1.1.0);
      }

  -- it did: the auditor has the world after it
  pub taken_followed : (credentials : Credentials) (found : Option Finding) (after : Auditor) → state.moment ≤ℤ moment → IsBrought op procaps moment → IsAdmitted authority.key state caller op procaps moment → refusal state.world op ≡ None →
      after.world.world ≡ world_after caller state.world op → after.moment ≡ moment → HasCredentials authority state (Acted pass caller op procaps moment) credentials → (IsTrue credentials.issued → found ≡ None) → (credentials.issued ≡ false → found ≡ Some Unissued) →
      Follows authority state (Acted pass caller op procaps moment) found after
  taken_followed credentials found after not_before brought admitted free world_is moment_is has none some = told credentials.issued refl where
    takes : TakesEffect authority.key state caller op procaps moment
    takes = record { brought = brought.brought; admitted = admitted; not_refused = free }

    next : StandsAt (next_state state (Acted pass caller op procaps moment)) after
    next = record { world_is = world_is ∙ sym (world_left-after caller op state.world free); moment_is = moment_is }

    told : (issued : Bool) → credentials.issued ≡ issued → Follows authority state (Acted pass caller op procaps moment) found after
    told true is = record {
      finds = subst (Finds authority state (Acted pass caller op procaps moment)) (sym (none is)) ((tt, (tt, tt)), (tt, (not_before, ((brought.in_range, takes), (has.issued.0 is, tt)))));
      stands = λ sound. next;
    }
    told false is = record {
      finds = subst (Finds authority state (Acted pass caller op procaps moment)) (sym (some is))
          (record {
            place = 4;
            first = record {
              before = Unsigned ∷ Unproved ∷ MomentFalls ∷ NotAdmitted ∷ [];
              behind = [];
              parts = refl;
              place_is = refl;
              holds_before = ((tt, (tt, tt)), (tt, (not_before, ((brought.in_range, takes), tt))));
              fails = λ clear. false≢true (sym is ∙ has.issued.1 clear);
            };
          });
      stands = λ sound. next;
    }

-- ---- one event more

module _ (authority : Authority) (base : BaseView) (events : List Event) (event : Event) (before after : Auditor) (audited : HasAudited authority base events before) where
  count_more : after.count ≡ before.count + 1 → after.count ≡ base.count + length (events ++ event ∷ [])
  count_more counted = omega (arith, counted, audited.count_is, length-append events (event ∷ []))

  stands_more : StandsAt (next_state (replay base events) event) after → StandsAt (replay base (events ++ event ∷ [])) after
  stands_more stands = subst (λ (b : BaseView). StandsAt b after) (sym (replay-more base events event)) stands

  -- nothing is found with it
  pub audited_clean : Follows authority (replay base events) event None after → after.count ≡ before.count + 1 → after.rows ≡ before.rows → HasAudited authority base (events ++ event ∷ []) after
  audited_clean follows counted rows =
      let clean : IsClean authority (replay base events) event = follows.finds in
      let sound = sound_clean authority (replay base events) event clean in
      record {
        stands = stands_more (follows.stands sound);
        count_is = count_more counted;
        sound = AreSound-more authority base events event audited.sound sound;
        rows_are = subst (AreRows authority base (events ++ event ∷ [])) (sym rows) (AreRows-clean authority base events event before.rows audited.rows_are clean);
      }

  number_is : after.count ≡ before.count + 1 → number_after base events ≡ after.count
  number_is counted = omega (arith, counted, audited.count_is)

  found_rows : (finding : Finding) → IsFound authority (replay base events) event finding → after.count ≡ before.count + 1 → after.rows ≡ before.rows ++ record { event = after.count; finding = finding } ∷ [] → AreRows authority base (events ++ event ∷ []) after.rows
  found_rows finding found counted rows =
      subst (AreRows authority base (events ++ event ∷ [])) (sym rows)
      (subst (λ (n : ℕ). AreRows authority base (events ++ event ∷ []) (before.rows ++ record { event = n; finding = finding } ∷ [])) (number_is counted)
      (AreRows-found authority base events event before.rows finding audited.rows_are audited.sound found))

  -- only a grant was not issued before
  pub audited_unissued : (finding : Finding) → is_wrong finding ≡ false → Follows authority (replay base events) event (Some finding) after → after.count ≡ before.count + 1 →
      after.rows ≡ before.rows ++ record { event = after.count; finding = finding } ∷ [] → HasAudited authority base (events ++ event ∷ []) after
  audited_unissued finding right follows counted rows =
      let found : IsFound authority (replay base events) event finding = follows.finds in
      let sound = sound_right authority (replay base events) event finding right found in
      record {
        stands = stands_more (follows.stands sound);
        count_is = count_more counted;
        sound = AreSound-more authority base events event audited.sound sound;
        rows_are = found_rows finding found counted rows;
      }

  -- something is wrong with it
  pub audited_wrong : (finding : Finding) → is_wrong finding ≡ true → Follows authority (replay base events) event (Some finding) after → after.count ≡ before.count + 1 →
      after.rows ≡ before.rows ++ record { event = after.count; finding = finding } ∷ [] → HasEnded authority base (events ++ event ∷ []) after.rows
  audited_wrong finding wrong follows counted rows =
      let found : IsFound authority (replay base events) event finding = follows.finds in
      record {
        whole = λ later. AreRows-ended authority base (events ++ event ∷ []) later after.rows (found_rows finding found counted rows)
            (λ sound. not_sound authority (replay base events) event finding found wrong (AreSound-at authority base events event sound));
      }

  -- something is found with it
  pub audits_some : (finding : Finding) (wrong : Bool) → wrong ≡ is_wrong finding → Follows authority (replay base events) event (Some finding) after → after.count ≡ before.count + 1 →
      after.rows ≡ before.rows ++ record { event = after.count; finding = finding } ∷ [] → Audits authority base (events ++ event ∷ []) (not wrong) after
  audits_some finding true is follows counted rows = audited_wrong finding (sym is) follows counted rows
  audits_some finding false is follows counted rows = audited_unissued finding (sym is) follows counted rows

-- the rows of events that ended, whatever follows
pub ended_rows : (authority : Authority) (base : BaseView) (events : List Event) (place : ℕ) (event : Event) (rows : List ReportRow) → place < length events → event ≡ get_or events place event → HasEnded authority base (take place events ++ event ∷ []) rows →
    AreRows authority base events rows
ended_rows authority base events place event rows within read ended =
    let more : take (place + 1) events ≡ take place events ++ event ∷ [] = take_more events place event within ∙ ap (λ (e : Event). take place events ++ e ∷ []) (sym read) in
    subst (λ (es : List Event). AreRows authority base es rows) (ap (λ (es : List Event). es ++ drop (place + 1) events) (sym more) ∙ take-append-drop (place + 1) events) (ended.whole (drop (place + 1) events))

pub audited_more : (authority : Authority) (base : BaseView) (events : List Event) (place : ℕ) (event : Event) (auditor : Auditor) → place < length events → event ≡ get_or events place event → HasAudited authority base (take place events ++ event ∷ []) auditor →
    HasAudited authority base (take (place + 1) events) auditor
audited_more authority base events place event auditor within read audited =
    let more : take (place + 1) events ≡ take place events ++ event ∷ [] = take_more events place event within ∙ ap (λ (e : Event). take place events ++ e ∷ []) (sym read) in
    subst (λ (es : List Event). HasAudited authority base es auditor) (sym more) audited

-- what is found with an event does not depend on the auditor's count and rows
pub Follows-same : (authority : Authority) (state : BaseView) (event : Event) (found : Option Finding) (one other : Auditor) → other.world.world ≡ one.world.world → other.moment ≡ one.moment → Follows authority state event found one → Follows authority state event found other
Follows-same authority state event found one other world moment follows = record {
  finds = follows.finds;
  stands = λ sound. record { world_is = world ∙ (follows.stands sound).world_is; moment_is = moment ∙ (follows.stands sound).moment_is };
}

-- at the base
pub audited_base : (authority : Authority) (base : BaseView) (auditor : Auditor) → auditor.world.world ≡ base.world → auditor.moment ≡ base.moment → auditor.count ≡ base.count → auditor.rows ≡ [] → HasAudited authority base [] auditor
audited_base authority base auditor world moment count rows = record {
  stands = record { world_is = world; moment_is = moment };
  count_is = omega (arith, count);
  sound = AreSound-none authority base;
  rows_are = subst (AreRows authority base []) (sym rows) (AreRows-none authority base);
}
