-- Holders that were told may go on over an event after which chunks are alike again.
use Rattle.std.proofs.Common.{◌≡◌, ℕ, zero, suc, ◌<◌, ◌≤◌, true, false, List, [], ◌∷◌, length, Some, sym, subst, ◌∙◌, inl, inr}
use Rattle.std.specs.Prelude.{IsTrue}
use Rattle.gfs_types.specs.declared.config.Config.{Config}
use Rattle.messages.specs.declared.event.Event.{Event}
use Rattle.messages.specs.declared.message.Holder.{Holder}
use Rattle.messages.specs.declared.message.Location.{Location}
use Rattle.protocol.specs.Tables.{element_at}
use Rattle.protocol.specs.Choice.{Choice}
use Rattle.protocol.specs.Logged.{Logged}
use Rattle.protocol.specs.World.{WorldState, happens, IsReached}
use Rattle.laws_base.proofs.Steps.{none_some, same_some}
use Rattle.laws_base.proofs.ChunkRows.{rows_of}
use Rattle.laws_base.proofs.GrantsOnce.{row_below}
use Rattle.laws_base.proofs.Owners.{HasRow}
use Rattle.laws_base.proofs.OrderNumbers.{state_of}
use Rattle.laws_base.proofs.RowsLogged.{IsFoundRows, IsRowedLog}
use Rattle.laws_base.proofs.RowsKept.{rows_kept}
use Rattle.laws_base.proofs.NamesReached.{IsUpToLog, logged_here}
use Rattle.laws_base.specs.Reads.{IsTold}
use Rattle.laws_base.specs.Words.{HoldAtLeast}
use Rattle.laws_base.proofs.LeasesStayOver.{reached_later}
use Rattle.laws_base.proofs.Locations.{locations_name_current_holders}
use Rattle.laws_versions.proofs.ClosedVersions.{clocks_before}
use Rattle.protocol_invariant.specs.Actions.{Spot}
use Rattle.laws_machine.specs.ChunksAlike.{ChunkSides, StandsAt, AreChunksAlike}
use Rattle.laws_machine.specs.Rounds.{IsLogOf}
use Rattle.laws_machine.specs.ToldHolders.{IsStandingFor, IsToldLocation}
use Rattle.laws_machine.proofs.ToldStanding.{stands_for_itself}
use Rattle.headline.specs.HoldersGoOn.{HoldersGoOn}
use Rattle.headline.proofs.PinnedHandles.{standing_row}
use Rattle.headline.proofs.RoundsApart.{logged_chunks_are_apart, rounds_stay_apart}
use Rattle.headline.proofs.NewGrants.{new_grants_are_apart}
use Rattle.headline.proofs.ToldStands.{told_chunks_stand_after}

-- each holder of a location that was told has the round at least
held_at_least : (version : ℕ) (holders : List Holder) → HoldAtLeast version holders → (n : ℕ) (x : Holder) → element_at holders n ≡ Some x → version ≤ x.version.0
held_at_least version [] all n x at = none_some x at
held_at_least version (y ∷ ys) all zero x at = subst (λ (z : Holder). version ≤ z.version.0) (same_some y x at) all.0
held_at_least version (y ∷ ys) all (suc n) x at = held_at_least version ys all.1 n x at

module _ (config : Config) (servers clients : ℕ) (w : WorldState) (r : IsReached config servers clients w) (e : Event) (choice : Choice) (clocks : IsTrue (happens w e choice).world.observer.are_clocks_kept)
    (j : ChunkSides) (log : IsLogOf (happens w e choice).world.master j.log) (alike : AreChunksAlike j) where
  abbrev then_ : WorldState
  then_ = (happens w e choice).world

  later : IsReached config servers clients then_
  later = reached_later config servers clients w ((e, choice) ∷ []) r

  -- what is told in the event
  begun : (client file : ℕ) (l : Location) (t : IsTold (happens w e choice).world.sent client file l) → length w.sent ≤ (t.sent_is).0 → IsToldLocation (happens w e choice).world j file l
  begun client file l t from =
      record {
        used = subst (λ (x : Logged). l.handle.0 < x.next_handle) (sym log_is) (row_below then_.master.logged (state_of then_.master.disk) u.same u.tied l.handle.0 row.0 row.1);
        round = standing l.round.0;
        holders = λ n x there. (held_at_least l.round.0 l.holders (locations_name_current_holders config servers clients then_ later (t.sent_is).0 t.number t.told l (t.sent_is).1 t.body_is).1 n x there, standing x.version.0);
      }
    where
      s : Spot
      s = record { file = file; index = l.index }

      told : IsTrue w.master.up × IsTrue (happens w e choice).world.master.up × StandsAt (happens w e choice).world.master.logged.table l.handle.0 (record { file = file; index = l.index })
      told = told_chunks_stand_after config servers clients w r (clocks_before w ((e, choice) ∷ []) clocks) e choice client file l t from

      u : IsUpToLog IsFoundRows IsRowedLog rows_kept (happens w e choice).world.master
      u = (logged_here IsFoundRows IsRowedLog rows_kept config servers clients then_ later).1.up told.1

      row : HasRow (rows_of (happens w e choice).world.master.logged) l.handle.0
      row = standing_row config servers clients then_ later told.1 l.handle.0 s told.2

      log_is : j.log ≡ (happens w e choice).world.master.logged
      log_is = by_log log
        where
          by_log : IsLogOf (happens w e choice).world.master j.log → j.log ≡ (happens w e choice).world.master.logged
          by_log (inl is) = is.1
          by_log (inr is) = absurd (let both : true ≡ false = sym told.1 ∙ is.0 in cc)

      stands : StandsAt j.log.table l.handle.0 (record { file = file; index = l.index })
      stands = subst (λ (x : Logged). StandsAt x.table l.handle.0 (record { file = file; index = l.index })) (sym log_is) told.2

      standing : (version : ℕ) → IsStandingFor (happens w e choice).world j file l.index l.handle.0 version
      standing version = record { stands = stands_for_itself j alike file l.index l.handle.0 stands version; apart = logged_chunks_are_apart config servers clients then_ later clocks j log alike l.handle.0 s stands version }

pub holders_may_go_on : HoldersGoOn
holders_may_go_on config servers clients w r e choice clocks k j beside log alike gone rounds orders next =
    record {
      orders = orders;
      next = next;
      apart = λ client file l t version is before.
          rounds_stay_apart config servers clients w r e choice clocks k j beside.rounds rounds log alike gone l.handle.0 version (record { file = file; index = l.index }) before
          (new_grants_are_apart config servers clients w r e choice clocks j log alike client file l t version is);
      begun = begun config servers clients w r e choice clocks j log alike;
    }
