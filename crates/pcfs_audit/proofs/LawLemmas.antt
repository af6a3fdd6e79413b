-- A history has at most one report, and its rows say whether the history is lawful.
use Rattle.std.proofs.Common.{◌≡◌, ◌<◌, ◌≤◌, ◌+◌, ◌-◌, ◌^◌, ℕ, List, [], ◌∷◌, ◌++◌, length, refl, sym, ap, subst, ◌∙◌, ⊎_elim, append_assoc, arith}
use Rattle.std.specs.Prelude.{Contains, count_by, ◌↔◌}
use Rattle.std.specs.List.{AllByRecursion}
use Rattle.std.proofs.lemmas.List.{append-nil, length-append}
use Rattle.std.proofs.lemmas.List.Elements.{Contains-append_right}
use Rattle.bl_syntax.proofs.GrantLemmas.{Contains-head}
use Rattle.bl_syntax.specs.Statement.{StatementView, IsStatement}
use Rattle.proof_term.specs.Limits.{IsKeptProof}
use Rattle.proof_verifier.specs.declared.cites.Cite.{Cite}
use Rattle.proof_verifier.specs.Cited.{statements_of}
use Rattle.proof_verifier.proofs.IsGrantedLemmas.{granted}
use Rattle.journal_records.specs.declared.event.Event.{Event}
use Rattle.access_history.specs.declared.event.Issue.{Issue}
use Rattle.journal_records.specs.declared.event.Event.TheVariants.{Registered, Withdrawn, Issued, Acted}
use Rattle.access_history.specs.Authority.{Authority, MayBeRegistered}
use Rattle.access_history.specs.Base.{BaseView}
use Rattle.access_history.specs.Books.{book_of, whole_book}
use Rattle.access_history.specs.Citing.{IsGoodIssue, StandsUnderNumber}
use Rattle.access_history.specs.Replay.{replay}
use Rattle.access_history.specs.Lawful.{AreLawful, IsLawful, IsLawfulBase, MayAct, MayFollow, no_event, one_more}
use Rattle.access_history.proofs.AdmissionLemmas.{AreDerived-admitted}
use Rattle.access_history.proofs.CitingLemmas.{all_cited, statements_in-whole}
use Rattle.access_history.proofs.FollowingLemmas.{follows_at}
use Rattle.access_history.proofs.LawfulLemmas.{IsLawfulBase-lawful}
use Rattle.access_history.proofs.ListLemmas.{AllByRecursion-parts, Contains-cons_cases}
use Rattle.access_history.proofs.NumberedLemmas.{first_failing, none_fails}
use Rattle.op_gate.specs.Damage.{TakesEffect}
use Rattle.op_gate.specs.DamageLaws.{IsTypedEvent}
use Rattle.pcfs_audit.specs.declared.report.Finding.{Finding}
use Rattle.pcfs_audit.specs.declared.report.Finding.TheVariants.{Unsigned, Unproved, NotAdmitted, MomentFalls, Unissued}
use Rattle.pcfs_audit.specs.declared.report.Report.{Report}
use Rattle.pcfs_audit.specs.declared.report.ReportRow.{ReportRow}
use Rattle.pcfs_audit.specs.Finding.{IsClearOf, IsFound, IsSound, all_findings, is_unissued}
use Rattle.pcfs_audit.specs.Laws.{HasUnissuedRowsOnly, HasVerdict}
use Rattle.pcfs_audit.specs.Report.{AreRows, AreSound, DoRowsRise, IsReport, number_after}
use Rattle.pcfs_audit.proofs.FollowingLemmas.{clear_withdrawn, withdrawn_clear}
use Rattle.pcfs_audit.proofs.RowsLemmas.{AreSound-more, AreSound-none, not_sound, sound_clean, sound_unissued}

-- ---- rows that rise

rise_above : (first : ReportRow) (others : List ReportRow) (row : ReportRow) → DoRowsRise (first ∷ others) → Contains others row → first.event < row.event
rise_above first [] row rise here = absurd (omega (arith, here.1))
rise_above first (second ∷ others) row rise here =
    ⊎_elim
    (λ same. subst (λ (r : ReportRow). first.event < r.event) same rise.0)
    (λ behind. let next = rise_above second others row rise.1 behind in omega (arith, rise.0, next))
    (Contains-cons_cases second others row here)

rise_rest : (first : ReportRow) (others : List ReportRow) → DoRowsRise (first ∷ others) → DoRowsRise others
rise_rest first [] rise = tt
rise_rest first (second ∷ others) rise = rise.1

same_head : (x : ReportRow) (xs : List ReportRow) (y : ReportRow) (ys : List ReportRow) → DoRowsRise (x ∷ xs) → DoRowsRise (y ∷ ys) → Contains (y ∷ ys) x → Contains (x ∷ xs) y → x ≡ y
same_head x xs y ys rise rise' there back =
    ⊎_elim (λ same. sym same)
    (λ behind. ⊎_elim (λ same. same) (λ behind'. absurd (omega (arith, rise_above y ys x rise' behind, rise_above x xs y rise behind'))) (Contains-cons_cases x xs y back))
    (Contains-cons_cases y ys x there)

rest_among : (x : ReportRow) (xs ys : List ReportRow) → DoRowsRise (x ∷ xs) → ((row : ReportRow) → Contains (x ∷ xs) row → Contains (x ∷ ys) row) → (row : ReportRow) → Contains xs row → Contains ys row
rest_among x xs ys rise among row here =
    let above : x.event < row.event = rise_above x xs row rise here in
    ⊎_elim (λ same. absurd (omega (arith, above, ap (λ (r : ReportRow). r.event) same))) (λ behind. behind) (Contains-cons_cases x ys row (among row (Contains-append_right (x ∷ []) xs row here)))

-- rows that rise are determined by which they are
same_rows : (xs ys : List ReportRow) → DoRowsRise xs → DoRowsRise ys → ((row : ReportRow) → Contains xs row → Contains ys row) → ((row : ReportRow) → Contains ys row → Contains xs row) → xs ≡ ys
same_rows [] [] rise rise' there back = refl
same_rows [] (y ∷ ys) rise rise' there back = absurd (omega (arith, (back y (Contains-head y y ys refl)).1))
same_rows (x ∷ xs) [] rise rise' there back = absurd (omega (arith, (there x (Contains-head x x xs refl)).1))
same_rows (x ∷ xs) (y ∷ ys) rise rise' there back =
    let head : x ≡ y = same_head x xs y ys rise rise' (there x (Contains-head x x xs refl)) (back y (Contains-head y y ys refl)) in
    let rise'' : DoRowsRise (x ∷ ys) = subst (λ (r : ReportRow). DoRowsRise (r ∷ ys)) (sym head) rise' in
    let there' = λ (row : ReportRow) (here : Contains (x ∷ xs) row). subst (λ (r : ReportRow). Contains (r ∷ ys) row) (sym head) (there row here) in
    let back' = λ (row : ReportRow) (here : Contains (x ∷ ys) row). back row (subst (λ (r : ReportRow). Contains (r ∷ ys) row) head here) in
    ap (λ (rs : List ReportRow). x ∷ rs)
    (same_rows xs ys (rise_rest x xs rise) (rise_rest x ys rise'') (rest_among x xs ys rise there') (rest_among x ys xs rise'' back'))
    ∙ ap (λ (r : ReportRow). r ∷ ys) head

-- ---- rows of one history

-- a list is parted once at a place
same_part : (earlier other : List Event) (event event' : Event) (later later' : List Event) → earlier ++ event ∷ later ≡ other ++ event' ∷ later' → length earlier ≡ length other → (earlier ≡ other) × (event ≡ event')
same_part [] [] event event' later later' same counts = let head : event ≡ event' = cc in (refl, head)
same_part [] (x ∷ other) event event' later later' same counts = absurd (omega (arith, counts))
same_part (x ∷ earlier) [] event event' later later' same counts = absurd (omega (arith, counts))
same_part (x ∷ earlier) (y ∷ other) event event' later later' same counts =
    let head : x ≡ y = cc in
    let tails : earlier ++ event ∷ later ≡ other ++ event' ∷ later' = cc in
    let rest = same_part earlier other event event' later later' tails (omega (arith, counts)) in
    (ap (λ (z : Event). z ∷ earlier) head ∙ ap (λ (zs : List Event). y ∷ zs) rest.0, rest.1)

-- what is found first is determined
same_finding : (authority : Authority) (state : BaseView) (event : Event) (first second : Finding) → IsFound authority state event first → IsFound authority state event second → first ≡ second
same_finding authority state event first second one other = (first_failing (IsClearOf authority state event) all_findings one.place other.place first second one.first other.first).1

module _ (authority : Authority) (base : BaseView) (events : List Event) where
  -- what is found with an event whose row is there
  found_at : (rows : List ReportRow) (earlier later : List Event) (event : Event) (finding : Finding) → AreRows authority base events rows → events ≡ earlier ++ event ∷ later → Contains rows (record { event = number_after base earlier; finding = finding }) →
      IsFound authority (replay base earlier) event finding
  found_at rows earlier later event finding are parts here =
      let is = are.right (record { event = number_after base earlier; finding = finding }) here in
      let counts : length earlier ≡ length is.earlier = omega (arith, is.number_is) in
      let at = same_part earlier is.earlier event is.event later is.later (sym parts ∙ is.parts) counts in
      subst (λ (xs : List Event). IsFound authority (replay base xs) event finding) (sym at.0) (subst (λ (e : Event). IsFound authority (replay base is.earlier) e finding) (sym at.1) is.found)

  rows_among : (rows others : List ReportRow) → AreRows authority base events rows → AreRows authority base events others → (row : ReportRow) → Contains rows row → Contains others row
  rows_among rows others are are' row here =
      let is = are.right row here in
      ⊎_elim
      (λ clean. absurd (none_fails (IsClearOf authority (replay base is.earlier) is.event) all_findings is.found.place row.finding clean is.found.first))
      (λ has.
      let same : row.finding ≡ has.finding =
      same_finding authority (replay base is.earlier) is.event row.finding has.finding is.found (found_at others is.earlier is.later is.event has.finding are' is.parts has.among) in
      let row_is : record { event = number_after base is.earlier; finding = has.finding } ≡ row =
      ap (λ (f : Finding). record { event = number_after base is.earlier; finding = f }) (sym same) ∙ ap (λ (n : ℕ). record { event = n; finding = row.finding }) (sym is.number_is) in
      subst (Contains others) row_is has.among)
      (are'.none_missing is.earlier is.later is.event is.parts is.sound_before)

  same_report_rows : (rows others : List ReportRow) → AreRows authority base events rows → AreRows authority base events others → rows ≡ others
  same_report_rows rows others are are' = same_rows rows others are.rising are'.rising (rows_among rows others are are') (rows_among others rows are' are)

abbrev report_with : ℕ → ℕ → ℕ → ℕ → List ReportRow → Report
report_with events statements issues unissued rows = record { events = events; statements = statements; issues = issues; unissued = unissued; rows = rows }

abbrev unissued_in : List ReportRow → ℕ
unissued_in rows = count_by (λ (row : ReportRow). is_unissued row.finding) rows

-- a history has at most one report
pub one_report : (authority : Authority) (base : BaseView) (events : List Event) (first second : Report) → IsReport authority base events first → IsReport authority base events second → first ≡ second
one_report authority base events first second is is' =
    let rows : first.rows ≡ second.rows = same_report_rows authority base events first.rows second.rows is.rows_are is'.rows_are in
    ap (λ (n : ℕ). report_with n first.statements first.issues first.unissued first.rows) (is.events_are ∙ sym is'.events_are)
    ∙ ap (λ (n : ℕ). report_with second.events n first.issues first.unissued first.rows) (is.statements_are ∙ sym is'.statements_are)
    ∙ ap (λ (n : ℕ). report_with second.events second.statements n first.unissued first.rows) (is.issues_are ∙ sym is'.issues_are)
    ∙ ap (λ (n : ℕ). report_with second.events second.statements second.issues n first.rows) (is.unissued_are ∙ ap unissued_in rows ∙ sym is'.unissued_are)
    ∙ ap (λ (rs : List ReportRow). report_with second.events second.statements second.issues second.unissued rs) rows

-- ---- lawful histories

-- an event that may come next is sound
sound_next : (authority : Authority) (state : BaseView) (event : Event) → MayFollow authority state event → IsSound authority state event
sound_next authority state (Registered pass statement signature) may =
    let follows : MayBeRegistered authority state.statements statement signature = may in
    ((follows.signed, (follows.can, tt)), (tt, (tt, ((tt, tt), tt))))
sound_next authority state (Withdrawn pass number signature) may = (withdrawn_clear authority (book_of state) number signature may, (tt, (tt, ((tt, tt), tt))))
sound_next authority state (Issued pass cited proof g) may = ((tt, (tt, tt)), (may, (tt, ((tt, tt), tt))))
sound_next authority state (Acted pass caller op procaps moment) may =
    let follows : MayAct authority state caller op procaps moment = may in
    let takes : TakesEffect authority.key state caller op procaps moment =
    record { brought = follows.formed.brought; admitted = follows.admitted; not_refused = follows.not_refused } in
    ((tt, (tt, tt)), (tt, (follows.not_before, ((follows.in_range, takes), tt))))

not_wrong : (authority : Authority) (state : BaseView) (event : Event) (finding : Finding) → IsFound authority state event finding → IsSound authority state event → finding ≡ Unissued
not_wrong authority state event Unsigned found sound = absurd (not_sound authority state event Unsigned found refl sound)
not_wrong authority state event Unproved found sound = absurd (not_sound authority state event Unproved found refl sound)
not_wrong authority state event NotAdmitted found sound = absurd (not_sound authority state event NotAdmitted found refl sound)
not_wrong authority state event MomentFalls found sound = absurd (not_sound authority state event MomentFalls found refl sound)
not_wrong authority state event Unissued found sound = refl

-- the report on a lawful history has no wrong row
pub unissued_rows_only : (authority : Authority) (base : BaseView) (events : List Event) (report : Report) → IsLawful authority base events → IsReport authority base events report → HasUnissuedRowsOnly report
unissued_rows_only authority base events report lawful is row here =
    let at = is.rows_are.right row here in
    not_wrong authority (replay base at.earlier) at.event row.finding at.found
    (sound_next authority (replay base at.earlier) at.event (follows_at authority base events at.earlier at.later at.event lawful at.parts))

-- ---- histories without wrong rows

-- a sound event may come next over a lawful state
next_sound : (authority : Authority) (state : BaseView) (event : Event) → IsLawfulBase authority state → IsTypedEvent event → IsSound authority state event → MayFollow authority state event
next_sound authority state (Registered pass statement signature) base typed sound =
    record { statement = typed; signed = sound.0.0; can = sound.0.1.0 }
next_sound authority state (Withdrawn pass number signature) base typed sound = clear_withdrawn authority (book_of state) number signature sound.0
next_sound authority state (Issued pass cited proof g) base typed sound = sound.1.0
next_sound authority state (Acted pass caller op procaps moment) base typed sound =
    let takes : TakesEffect authority.key state caller op procaps moment = sound.1.1.1.0.1 in
    record {
      not_before = sound.1.1.0;
      in_range = sound.1.1.1.0.0;
      formed = record { named = typed.0; operation = typed.1; brought = takes.brought };
      admitted = takes.admitted;
      not_refused = takes.not_refused;
      derived = AreDerived-admitted authority.key state caller op procaps moment base.good_issues takes.admitted;
    }

module _ (authority : Authority) (base : BaseView) (events : List Event) (report : Report) (is : IsReport authority base events report) (only : HasUnissuedRowsOnly report) where
  -- an event after sound ones is sound
  sound_after : (done rest : List Event) (event : Event) → events ≡ done ++ event ∷ rest → AreSound authority base done → IsSound authority (replay base done) event
  sound_after done rest event parts sound =
      ⊎_elim
      (λ clean. sound_clean authority (replay base done) event clean)
      (λ has.
      let found : IsFound authority (replay base done) event has.finding = found_at authority base events report.rows done rest event has.finding is.rows_are parts has.among in
      let unissued : has.finding ≡ Unissued = only (record { event = number_after base done; finding = has.finding }) has.among in
      sound_unissued authority (replay base done) event (subst (IsFound authority (replay base done) event) unissued found))
      (is.rows_are.none_missing done rest event parts sound)

  module _ (lawful_base : IsLawfulBase authority base) (counted : base.count + length events ≤ 2 ^ 48 - 1) (typed : AllByRecursion IsTypedEvent events) where
    lawful_upto : (done rest : List Event) → events ≡ done ++ rest → AreSound authority base done → AreLawful authority base done → AreLawful authority base events
    lawful_upto done [] parts sound lawful = subst (AreLawful authority base) (sym (parts ∙ append-nil done)) lawful
    lawful_upto done (event ∷ rest) parts sound lawful =
        let here = sound_after done rest event parts sound in
        let counts : base.count + length done ≤ 2 ^ 48 - 1 = omega (arith, counted, ap length parts, length-append done (event ∷ rest)) in
        let state = IsLawfulBase-lawful authority base done (record { lawful_base = lawful_base; counted = counts; each = lawful }) in
        let is_typed : IsTypedEvent event = (AllByRecursion-parts IsTypedEvent done (event ∷ rest) (subst (AllByRecursion IsTypedEvent) parts typed)).1.0 in
        let follows = next_sound authority (replay base done) event state is_typed here in
        lawful_upto (done ++ event ∷ []) rest (parts ∙ sym (append_assoc done (event ∷ []) rest)) (AreSound-more authority base done event sound here) (one_more done event lawful follows)

    -- the history is lawful
    pub right_lawful : IsLawful authority base events
    right_lawful = record { lawful_base = lawful_base; counted = counted; each = lawful_upto [] events refl (AreSound-none authority base) no_event }

-- ---- issues by their verdict

cited_formed : (statements : List StatementView) (cites : List Cite) → AllByRecursion IsStatement statements → AllByRecursion (StandsUnderNumber (whole_book statements)) cites → AllByRecursion IsStatement (statements_of cites)
cited_formed statements cites formed stand = all_cited IsStatement (whole_book statements) cites (subst (AllByRecursion IsStatement) (sym (statements_in-whole statements)) formed) stand

-- an issue is good exactly if its numbers and its verdict are right
pub good_by_verdict : (statements : List StatementView) (issue : Issue) → AllByRecursion IsStatement statements → IsKeptProof issue.proof → IsGoodIssue statements issue ↔ HasVerdict statements issue
good_by_verdict statements issue formed kept = (
  λ good. record { cites = good.cites; cited = good.cited; rising = good.rising; stand = good.stand; proved = good.granted.proved; verdict_is = good.granted.granted.verdict_is; form = good.granted.form },
  λ has.
      record {
        cites = has.cites;
        cited = has.cited;
        rising = has.rising;
        stand = has.stand;
        granted = record {
          proved = has.proved;
          granted = granted has.cites has.cites refl issue.grant.goal issue.proof has.proved has.verdict_is (cited_formed statements has.cites formed has.stand) kept;
          form = has.form;
        };
      },
)
