-- A master as its code has it after a stop restarts as the master of the definitions does.
use Rattle.std.proofs.Common.{◌≡◌, ◌⊎◌, ℕ, Bool, false, List, [], ◌∷◌, refl, sym, ap, subst, ◌∙◌, inl, inr}
use Rattle.protocol.specs.Choice.{Choice, Ending, Goes, Lost, Stops, decided_changes}
use Rattle.protocol.specs.Logged.{LogDisk, LogChange, log_changed_by_all}
use Rattle.protocol.specs.Master.{MasterState}
use Rattle.protocol.specs.MasterStep.{master_restart, started_master, opening, opens_as, found_log}
use Rattle.protocol.specs.Conforms.{IsLeftAs}
use Rattle.laws_base.specs.Laws.{IsGivenAs, RestartsOfWhatIsLeft}

same_left : (m : MasterState) → IsLeftAs m m
same_left m = record { but_under_way = refl; under_way = inl refl }

abbrev with_under_way : MasterState → List LogChange → MasterState
with_under_way m changes = record m { under_way = changes }

-- of nothing under way nothing is decided
none_decided : (decided : List Bool) → ◌≡◌ {A = List LogChange} (decided_changes decided []) []
none_decided [] = refl
none_decided (made ∷ rest) = refl

opens_alike : (held : MasterState) (changes : List LogChange) (found : LogDisk) (moment : ℕ) (choice other : Choice) (e : Ending) → held.under_way ≡ []
    → (let started : MasterState = started_master held.config held.server_count found moment in
    IsGivenAs (opens_as (with_under_way held changes) started (opening started) other e) (opens_as held started (opening started) choice e))
opens_alike held changes found moment choice other Goes none =
    let started : MasterState = started_master held.config held.server_count found moment in (refl, refl, same_left (opens_as held started (opening started) choice Goes).state)
opens_alike held changes found moment choice other Lost none = (refl, refl, record { but_under_way = refl; under_way = inr (refl, none) })
opens_alike held changes found moment choice other (Stops made) none =
    let started : MasterState = started_master held.config held.server_count found moment in (refl, refl, same_left (opens_as held started (opening started) choice (Stops made)).state)

restarts_alike : (held : MasterState) (changes : List LogChange) (moment : ℕ) (choice : Choice) → held.under_way ≡ []
    → IsGivenAs (master_restart (with_under_way held changes) moment (record choice { decided = [] })) (master_restart held moment choice)
restarts_alike held changes moment choice none =
    let other : Choice = record choice { decided = [] } in
    let same : found_log held choice ≡ held.disk =
    ap (λ (cs : List LogChange). log_changed_by_all held.disk (decided_changes choice.decided cs)) none ∙ ap (λ (cs : List LogChange). log_changed_by_all held.disk cs) (none_decided choice.decided) in
    subst (λ (found : LogDisk). let started : MasterState = started_master held.config held.server_count found moment in
    IsGivenAs (master_restart (with_under_way held changes) moment other) (opens_as held started (opening started) choice choice.ending))
    (sym same) (opens_alike held changes held.disk moment choice other choice.ending none)

pub restarts_of_what_is_left : RestartsOfWhatIsLeft
restarts_of_what_is_left m held h moment choice = by_case h.under_way
  where
    by_case : (held.under_way ≡ m.under_way) ⊎ ((m.up ≡ false) × (held.under_way ≡ [])) → (other : Choice) × IsGivenAs (master_restart m moment other) (master_restart held moment choice)
    by_case (inl same) =
        let whole : held ≡ m = ap (λ (cs : List LogChange). with_under_way held cs) same ∙ h.but_under_way in
        (choice, subst (λ (x : MasterState). IsGivenAs (master_restart x moment choice) (master_restart held moment choice)) whole (refl, refl, same_left (master_restart held moment choice).state))
    by_case (inr (down, none)) = (
      record choice { decided = [] },
      subst (λ (x : MasterState). IsGivenAs (master_restart x moment (record choice { decided = [] })) (master_restart held moment choice)) h.but_under_way (restarts_alike held m.under_way moment choice none),
    )
