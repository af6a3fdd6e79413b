-- Each connection of a run was told its own.
use Rattle.std.proofs.Common.{ℕ, List, [], ◌∷◌, Option, Some}
use Rattle.std.specs.Prelude.{ℤ}
use Rattle.std.specs.List.{AllByRecursion}
use Rattle.pcfs_store.specs.Entries.{Root, StoreEntry}
use Rattle.session_history.specs.Turn.{StorePass}
use Rattle.session_service.specs.Sessions.{sources_of, AreOfSession}
use Rattle.session_service.specs.Conversation.{ConnectionTells}
use Rattle.session_service.proofs.DoneLemmas.{DoneAnswersAll-session}
use Rattle.session_service.proofs.OutputLemmas.{OutputsHoldTheirOwn-session}
use Rattle.nine_service.specs.Passes.{nine_sources_of, AreOfNine}
use Rattle.nine_service.proofs.OutputLemmas.{OutputsHoldTheirOwn-nine, DoneAnswersAll-nine}
use Rattle.pcfs_run.specs.Laws as sessions
use Rattle.pcfs_run.specs.NineLaws as messages

module _ {I O : Type 0} (gives : List StoreEntry → ℤ → Type 0) (tells : ConnectionTells I O) (connections : List (I × O)) (nonces : Option (List ℕ)) (history : List StoreEntry) where
  one_told : (p : StorePass) (own : List StoreEntry) (s : AreOfSession (sources_of gives tells (Some connections) nonces) p history own) → sessions.IsToldItsOwn gives tells connections nonces p history own s
  one_told p own s = record {
    accepted = s.told.accepted;
    holds = OutputsHoldTheirOwn-session gives tells (Some connections) nonces p history own s;
    all_answered = λ done. (DoneAnswersAll-session gives tells (Some connections) nonces p history own s done).0;
  }

  one_nine_told : (p : StorePass) (own : List StoreEntry) (s : AreOfNine (nine_sources_of gives tells (Some connections) nonces) p history own) → messages.IsToldItsOwn gives tells connections nonces p history own s
  one_nine_told p own s = record {
    accepted = s.told.accepted;
    holds = OutputsHoldTheirOwn-nine gives tells (Some connections) nonces p history own s;
    all_answered = λ done. (DoneAnswersAll-nine gives tells (Some connections) nonces p history own s done).0;
  }

  module _ (root : Root) where
    pub each_told : (passes : List (ℕ × List StoreEntry)) →
        AllByRecursion (λ (p : ℕ × List StoreEntry). AreOfSession (sources_of gives tells (Some connections) nonces) (record { root = root; number = p.0 }) history p.1) passes →
        AllByRecursion (λ (p : ℕ × List StoreEntry). (s : AreOfSession (sources_of gives tells (Some connections) nonces) (record { root = root; number = p.0 }) history p.1)
        × sessions.IsToldItsOwn gives tells connections nonces (record { root = root; number = p.0 }) history p.1 s) passes
    each_told [] all = tt
    each_told (p ∷ passes) all = ((all.0, one_told (record { root = root; number = p.0 }) p.1 all.0), each_told passes all.1)

    pub each_nine_told : (passes : List (ℕ × List StoreEntry)) →
        AllByRecursion (λ (p : ℕ × List StoreEntry). AreOfNine (nine_sources_of gives tells (Some connections) nonces) (record { root = root; number = p.0 }) history p.1) passes →
        AllByRecursion (λ (p : ℕ × List StoreEntry). (s : AreOfNine (nine_sources_of gives tells (Some connections) nonces) (record { root = root; number = p.0 }) history p.1)
        × messages.IsToldItsOwn gives tells connections nonces (record { root = root; number = p.0 }) history p.1 s) passes
    each_nine_told [] all = tt
    each_nine_told (p ∷ passes) all = ((all.0, one_nine_told (record { root = root; number = p.0 }) p.1 all.0), each_nine_told passes all.1)
