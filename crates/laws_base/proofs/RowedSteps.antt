-- What a step of the master keeps of its rows, whatever else it keeps: as it begins, after an Ask, and at its end.
use Rattle.std.proofs.Common.{◌≡◌, ℕ, Bool, true, List, [], refl, inr}
use Rattle.std.specs.Prelude.{nat_lt, max}
use Rattle.std.proofs.Math.Nat.{le-max_left}
use Rattle.gfs_types.specs.declared.ids.Node.{Node}
use Rattle.messages.specs.declared.event.NodeInput.{NodeInput}
use Rattle.messages.specs.declared.message.Wanted.{Wanted}
use Rattle.protocol.specs.Master.{MasterState, MasterDoing, master_begins}
use Rattle.protocol.specs.MasterSnapshots.{live_snapshots}
use Rattle.protocol.specs.MasterAsks.{takes_ask}
use Rattle.protocol.specs.MasterStep.{master_at, master_goes}
use Rattle.laws_base.proofs.LeasesEnded.{later_ready}
use Rattle.laws_base.proofs.Namespace.{IsNamespace, filtered_namespace}
use Rattle.laws_base.proofs.MasterMoves.{core_of, NoneEnded}
use Rattle.laws_base.proofs.NamesReached.{IsUpToLog, IsLogged}
use Rattle.laws_base.proofs.RowsLogged.{IsFoundRows, IsRowedLog}
use Rattle.laws_base.proofs.RowsKept.{rows_kept}
use Rattle.laws_base.proofs.AwaitedRecords.{waiting_filtered, among_filtered}
use Rattle.laws_base.proofs.MasterActs.{IsRowing, rowing_keeps, Here}
use Rattle.laws_base.proofs.WaitsKept.{WaitsHere, any_input, Anything, any_acts}
use Rattle.laws_base.proofs.ActsOfChunks.{ask_acts}
use Rattle.laws_base.proofs.ActsOfSteps.{goes_acts}

abbrev pub IsRowedHere : MasterState → MasterDoing → Type 0
IsRowedHere m d = Here m.disk NoneEnded (IsRowing m.disk) (rowing_keeps m.disk) (λ c n. n) Anything (any_acts m.disk) d

module _ (m : MasterState) (moment : ℕ) (refused : List Bool) (logged : IsLogged IsFoundRows IsRowedLog rows_kept m) (wait : WaitsHere m) (up : m.up ≡ true) where
  abbrev First : MasterDoing
  First = master_begins (master_at m moment) refused

  u : IsUpToLog IsFoundRows IsRowedLog rows_kept m
  u = logged.up up

  rowed_first : IsRowedHere m (master_begins (master_at m moment) refused)
  rowed_first =
      let later : ℕ = max m.now moment in
      let live : IsNamespace m.logged.names (live_snapshots later m.snapshots) = filtered_namespace m.logged.names (λ s. nat_lt later s.deadline) m.snapshots u.names in (
        (
          record { none = u.idle; disk = refl; same = u.same; tied = u.tied; stops = logged.found [] },
          λ handle a is. record { servers = λ n there. inr (λ q v. tt); recorded = λ n there. tt },
          λ asks. live,
          λ asks. later_ready m.now later m.attempts m.logged (le-max_left m.now moment) u.ready,
        ),
        waiting_filtered m.logged m.attempts m.snapshots (live_snapshots later m.snapshots) (λ s among. among_filtered (λ t. nat_lt later t.deadline) m.snapshots s among) wait,
        tt,
      )

  pub rowed_asked : (client : Node) (number file : ℕ) (w : Wanted) (deadline : ℕ) (lost : Bool) → IsRowedHere m (takes_ask (master_begins (master_at m moment) refused) client number file w deadline lost)
  rowed_asked client number file w deadline lost =
      ask_acts m.disk NoneEnded (IsRowing m.disk) (rowing_keeps m.disk) (λ c n. n) Anything (any_acts m.disk) First client number file w deadline lost rowed_first

  pub rowed_gone : (i : NodeInput) → IsRowing m.disk (core_of (master_goes m moment i refused))
  rowed_gone i =
      (goes_acts NoneEnded (IsRowing m.disk) Anything m moment i refused (rowing_keeps m.disk) (λ c n. n) (any_acts m.disk) (any_input i) logged up wait
      (record { none = u.idle; disk = refl; same = u.same; tied = u.tied; stops = logged.found [] }) tt).0
