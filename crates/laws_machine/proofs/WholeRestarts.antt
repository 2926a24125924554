-- A restart of the master ends no round and grants nothing.
use Rattle.std.proofs.Common.{◌≡◌, ◌⊎◌, ℕ, suc, List, [], ◌++◌, length, refl, sym, ap, subst, ◌∙◌, inl, inr, arith}
use Rattle.std.specs.Prelude.{◌&&◌, IsTrue}
use Rattle.messages.specs.declared.message.Message.{Message}
use Rattle.log_records.specs.declared.record.Record.TheVariants as log
use Rattle.protocol.specs.Choice.{Choice, Ending, Goes, Lost, Stops}
use Rattle.protocol.specs.Seen.{Taken}
use Rattle.protocol.specs.Logged.{LogDisk}
use Rattle.protocol.specs.Master.{MasterState, MasterDoing, master_begins}
use Rattle.protocol.specs.MasterStep.{is_within_limits, found_log, started_master, opening, has_opened, opens_as}
use Rattle.protocol.specs.World.{WorldState, stamped, happens}
use Rattle.laws_base.specs.Laws.{grants_of}
use Rattle.laws_base.proofs.Steps.{on_cond}
use Rattle.laws_base.proofs.MasterMoves.{logs_alone}
use Rattle.laws_base.specs.Versions.{AreLeasesOver}
use Rattle.protocol_invariant.specs.Actions.{Spot}
use Rattle.laws_machine.specs.ChunksAlike.{KeepsRounds}
use Rattle.laws_machine.specs.OpenRounds.{NewRoundsAreOpen}
use Rattle.laws_machine.proofs.OpenRounds.{rounds_go_with_leases}
use Rattle.laws_machine.specs.WholeSteps.{EndsAlong, GoesAlong}
use Rattle.laws_machine.specs.OverRounds.{OpeningsEndNoRound, OpeningsExpireNothing, RestartsKeepRounds}
use Rattle.laws_machine.proofs.OverRounds.{append_nil}

pub openings_end_no_round : OpeningsEndNoRound
openings_end_no_round m moment choice =
    let found : LogDisk = found_log m choice in
    let d : MasterDoing = master_begins (started_master m.config m.server_count found moment) [] in
    logs_alone (λ e. (handle : ℕ) → EndsAlong found e.changes handle → ⊥) d (log.Epoch (suc d.master.logged.epoch)) (λ handle over. over) (λ handle over. elim over [ inl now ↦ now | inr none ↦ none ]) (λ handle over. elim over [ inl now ↦ now | inr none ↦ none ])
    (λ handle over. elim over [ inl now ↦ now | inr later ↦ elim later [ inl now ↦ now | inr none ↦ none ] ])

pub openings_expire_nothing : OpeningsExpireNothing
openings_expire_nothing m moment choice =
    let found : LogDisk = found_log m choice in
    let d : MasterDoing = master_begins (started_master m.config m.server_count found moment) [] in
    logs_alone (λ e. (handle : ℕ) (s : Spot) → GoesAlong found e.changes handle s → ⊥) d (log.Epoch (suc d.master.logged.epoch)) (λ handle s goes. goes) (λ handle s goes. elim goes [ inl now ↦ now | inr none ↦ none ])
    (λ handle s goes. elim goes [ inl now ↦ now | inr none ↦ none ]) (λ handle s goes. elim goes [ inl now ↦ now | inr later ↦ elim later [ inl now ↦ now | inr none ↦ none ] ])

-- what opens sends nothing
opening_quiet : (old m : MasterState) (d : MasterDoing) (choice : Choice) (e : Ending) → (opens_as old m d choice e).out.sent ≡ []
opening_quiet old m d choice Lost = refl
opening_quiet old m d choice (Stops made) = refl
opening_quiet old m d choice Goes = on_cond (λ (t : Taken MasterState). t.out.sent ≡ []) (has_opened m d && is_within_limits d.master) _ _ (λ _. refl) (λ _. refl)

pub restarts_keep_rounds : RestartsKeepRounds
restarts_keep_rounds config servers clients w r e moment choice restart clocks k j n rounds comes =
    rounds_go_with_leases config servers clients w r e choice (subst (λ (v : WorldState). IsTrue v.observer.are_clocks_kept) (sym restart) clocks) k j rounds kept none
  where
    started : MasterState
    started = started_master w.master.config w.master.server_count (found_log w.master choice) moment

    kept : KeepsRounds (λ handle. AreLeasesOver w handle ⊎ AreLeasesOver (happens w e choice).world handle) k j
    kept handle version s was_open = elim (comes.rounds handle version s was_open) [ inl over ↦ absurd (openings_end_no_round w.master moment choice handle over) | inr still ↦ inr still ]

    sent : (happens w e choice).world.sent ≡ w.sent
    sent =
        ap (λ (v : WorldState). v.sent) restart ∙ ap (λ (ms : List Message). w.sent ++ stamped (suc (length w.sent)) ms) (opening_quiet w.master started (opening started) choice choice.ending)
        ∙ append_nil w.sent

    none : NewRoundsAreOpen w (happens w e choice).world j
    none handle version before now = let same = ap (λ (ms : List Message). grants_of handle version ms) sent in absurd (omega (arith, before, now, same))
