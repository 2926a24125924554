-- A round that was told was granted before, so that no Grant of it follows: its lease stays over once it is.
use Rattle.std.proofs.Common.{◌≡◌, ℕ, suc, ◌≤◌, List, [], ◌∷◌, ◌++◌, length, Option, Some, None, refl, sym, ap, subst, ◌∙◌, arith}
use Rattle.std.specs.Prelude.{IsTrue}
use Rattle.std.specs.FinMap as table
use Rattle.gfs_types.specs.declared.config.Config.{Config}
use Rattle.messages.specs.declared.event.Event.{Event}
use Rattle.messages.specs.declared.message.Message.{Message}
use Rattle.messages.specs.declared.message.Location.{Location}
use Rattle.chunk_table.specs.ChunkTable.{ChunkRow}
use Rattle.protocol.specs.Choice.{Choice}
use Rattle.protocol.specs.Logged.{Logged, Copy, LogChange}
use Rattle.protocol.specs.MasterStep.{master_step, master_restart}
use Rattle.protocol.specs.ServerStep.{server_step, server_restart}
use Rattle.protocol.specs.ClientStep.{client_step, client_call}
use Rattle.protocol.specs.World.{WorldState, stamped, happens, after_events, IsReached}
use Rattle.laws_base.specs.Laws.{is_grant, grants_of}
use Rattle.laws_base.proofs.Steps.{none_some, same_some, tally, count-cons}
use Rattle.laws_base.proofs.Entries.{AllOf}
use Rattle.laws_base.proofs.LoggedParts.{Parts}
use Rattle.laws_base.proofs.GrantsOnce.{row_below}
use Rattle.laws_base.proofs.ClientMoves.{quiet_orders, client_quiet, call_quiet}
use Rattle.laws_base.proofs.SentReached.{count-sent, server_quiet, server_restarts_quiet, sent_reached}
use Rattle.laws_base.proofs.OrderNumbers.{state_of, AllFound, found_same}
use Rattle.laws_base.proofs.NamesReached.{IsUpToLog}
use Rattle.laws_base.proofs.RowsLogged.{IsFoundRows, IsRowedLog}
use Rattle.laws_base.proofs.RowsKept.{rows_kept}
use Rattle.laws_base.specs.Versions.{IsLeaseOver}
use Rattle.laws_base.proofs.Events.{HoldsAfter, holds_after}
use Rattle.laws_base.proofs.LeasesStayOver.{reached_later, over_later}
use Rattle.laws_base.proofs.WaitsKept.{IsOfWaits, waits_kept}
use Rattle.laws_base.proofs.IssuedNumbers.{IsPassed, IsLogPassed, passed_same}
use Rattle.laws_base.proofs.GrantsFollow.{GrantsAbove, HasPassed, step_passed, restart_passed}
use Rattle.laws_base.proofs.SentGrants.{above_grants}
use Rattle.laws_versions.proofs.ClosedVersions.{clocks_before}
use Rattle.laws_versions.proofs.ExtendLaws.{restart_silent}
use Rattle.laws_versions.proofs.SharedChunks.{quiet_sent}
use Rattle.laws_versions.proofs.AskedSteps.{IsToldOf}
use Rattle.laws_versions.specs.ReplacedChunks.{IsToldAt}
use Rattle.laws_versions.proofs.ToldAnswers.{WasToldIn, was_told_in}

-- of a number that the master has passed no Grant is sent

module _ (handle version : ℕ) where
  none_granted : (ms : List Message) → AllOf (λ m. GrantsAbove handle version m.body) ms → grants_of handle version ms ≡ 0
  none_granted [] all = refl
  none_granted (m ∷ ms) all =
      let whole = count-cons (λ (x : Message). is_grant handle version x.body) m ms in
      let one = ap tally (above_grants handle version m.body all.0) in
      let rest = none_granted ms all.1 in
      omega (arith, whole, one, rest)

  no_more : (sent ms : List Message) (k : ℕ) → grants_of handle version ms ≡ 0 → grants_of handle version (sent ++ stamped k ms) ≤ grants_of handle version sent
  no_more sent ms k none = let whole = count-sent (λ b. is_grant handle version b) k sent [] ms in omega (arith, whole, none)

  abbrev GoesPassed : WorldState → WorldState → Type 0
  GoesPassed w v = HasPassed handle version v.master × (grants_of handle version v.sent ≤ grants_of handle version w.sent)

  module _ (config : Config) (servers clients : ℕ) (w : WorldState) (r : IsReached config servers clients w) (passed : HasPassed handle version w.master) where
    base : IsOfWaits w.sent w.master
    base = sent_reached IsOfWaits waits_kept config servers clients w r

    each_passed : HoldsAfter w (λ e x. GoesPassed w x.world)
    each_passed =
        let k : ℕ = suc (length w.sent) in
        record {
          nothing = λ e. (passed, omega arith);
          masters = λ e moment i choice is up.
              let after = step_passed handle version w.master moment i choice base.base.logged base.waits passed in
              (after.1, no_more w.sent (master_step w.master moment i choice).out.sent k (none_granted (master_step w.master moment i choice).out.sent after.0));
          opens = λ e moment choice. (
            restart_passed handle version w.master moment choice base.base.issued base.base.logged passed,
            no_more w.sent (master_restart w.master moment choice).out.sent k (ap (λ (ms : List Message). grants_of handle version ms) (restart_silent w.master moment choice)),
          );
          serves = λ e index moment s i choice at is up. (passed, quiet_sent w.sent k (server_step s moment i choice).out.sent handle version (server_quiet s moment i choice));
          restarts = λ e index moment s choice at. (passed, quiet_sent w.sent k (server_restart s moment choice).out.sent handle version (server_restarts_quiet s moment choice choice.ending));
          steps = λ e index moment s i choice at is up. (passed, quiet_sent w.sent k (client_step s moment i choice).out.sent handle version (quiet_orders (client_step s moment i choice).out.sent (client_quiet s moment i choice)));
          calls = λ e index moment s c choice at may. (passed, quiet_sent w.sent k (client_call s moment c choice).out.sent handle version (quiet_orders (client_call s moment c choice).out.sent (call_quiet s moment c choice)));
          rots = λ e index q s x place byte ending is_kept at there up. (passed, omega arith);
        }

  pub passed_on : (config : Config) (servers clients : ℕ) (w : WorldState) → IsReached config servers clients w → (steps : List (Event × Choice)) → HasPassed handle version w.master → GoesPassed w (after_events w steps)
  passed_on config servers clients w r [] passed = (passed, omega arith)
  passed_on config servers clients w r (step ∷ rest) passed =
      let one = holds_after w (λ e x. GoesPassed w x.world) (each_passed config servers clients w r passed) step.0 step.1 in
      let all = passed_on config servers clients (happens w step.0 step.1).world (reached_later config servers clients w (step ∷ []) r) rest one.0 in
      (all.0, let low = one.1 in let less = all.1 in omega (arith, low, less))

  -- a lease of such a number stays over
  pub passed_over : (config : Config) (servers clients : ℕ) (w : WorldState) → IsReached config servers clients w → HasPassed handle version w.master → IsLeaseOver w handle version
      → (steps : List (Event × Choice)) → IsTrue (after_events w steps).observer.are_clocks_kept → IsLeaseOver (after_events w steps) handle version
  passed_over config servers clients w r passed over steps clocks = over_later config servers clients w r handle version over steps clocks (passed_on config servers clients w r steps passed).1

-- a master that tells a round has passed its number
pub tells_passed : (config : Config) (servers clients : ℕ) (w : WorldState) → IsReached config servers clients w → IsTrue w.master.up → (file : ℕ) (l : Location) → IsToldOf w.master.logged file l → HasPassed l.handle.0 l.round.0 w.master
tells_passed config servers clients w r up file l told =
    record {
      found = subst (λ (xs : List LogChange). AllFound (IsLogPassed handle version) w.master.disk xs) (sym u.idle) (found_same (IsLogPassed handle version) w.master.disk (passed_same handle version m k (u.tied.same handle (by_copies (table.get m.copies handle) refl (table.get k.copies handle) refl)) (ap (λ (p : Parts). p.next_handle) u.same) state));
      up = λ _. (state, λ row is a at. let low = (u.ready.ahead.ahead handle a at).1 row is in let same = ap (λ (x : ChunkRow). x.granted) (same_some row told.row (sym is ∙ told.at)) in let round = told.granted in omega (arith, low, same, round));
    }
  where
    handle : ℕ
    handle = l.handle.0

    version : ℕ
    version = l.round.0

    m : Logged
    m = w.master.logged

    k : Logged
    k = state_of w.master.disk

    u : IsUpToLog IsFoundRows IsRowedLog rows_kept w.master
    u = (sent_reached IsOfWaits waits_kept config servers clients w r).base.logged.up up

    state : IsPassed handle version m
    state = (
      row_below m k u.same u.tied handle told.row told.at,
      λ row is.
          let same = same_some row told.row (sym is ∙ told.at) in
          let low = u.ready.ahead.issued handle row is in
          let granted = ap (λ (x : ChunkRow). x.granted) same in
          let round = told.granted in
          omega (arith, low, granted, round),
    )

    by_copies : (o : Option Copy) → table.get m.copies handle ≡ o → (p : Option Copy) → table.get k.copies handle ≡ p → table.get m.copies handle ≡ table.get k.copies handle
    by_copies (Some c) is p also = is ∙ sym (u.tied.base.base.among handle c is)
    by_copies None is None also = is ∙ sym also
    by_copies None is (Some c) also = none_some told.row (sym (u.tied.base.base.alone handle c also is) ∙ told.at)

-- so has one that told it before
pub told_passed : (config : Config) (servers clients : ℕ) (w : WorldState) → IsReached config servers clients w → IsTrue w.observer.are_clocks_kept → (client file : ℕ) (l : Location) (place : ℕ) → IsToldAt w.sent client file l place
    → HasPassed l.handle.0 l.round.0 w.master
told_passed config servers clients w r clocks client file l place t =
    let was : WasToldIn config servers clients w file l place =
    was_told_in config servers clients w r (λ v steps path. clocks_before v steps (subst (λ (x : WorldState). IsTrue x.observer.are_clocks_kept) (sym path) clocks)) w r [] refl client file l place t t.sent_is in
    subst (λ (x : WorldState). HasPassed l.handle.0 l.round.0 x.master) was.rest
    (passed_on l.handle.0 l.round.0 config servers clients was.before was.reached was.steps (tells_passed config servers clients was.before was.reached was.up file l was.told)).0
