use Rattle.std.proofs.Common.{◌≡◌, List, [], ◌++◌, drop}
use Rattle.log_records.specs.declared.record.Record.{Record}
use Rattle.protocol.specs.Logged.{after_records}
use Rattle.master_replay.specs.Restarts.{all_follow}
use Rattle.master_replay.proofs.restart.replay_log.Given as goal

abbrev pub invariant-loop-place : goal.invariant-loop-place
invariant-loop-place g l =
    let disk = g.L.OperationLog.disk l.initial.log in
    let whole : List Record = disk.items ++ disk.records in
    record {
      state : after_records l.state (drop l.place whole) ≡ after_records l.initial.state whole;
      follows : all_follow l.state (drop l.place whole) ≡ all_follow l.initial.state whole;
      disk : g.L.OperationLog.disk l.log ≡ disk;
      under_way : g.L.OperationLog.under_way l.log ≡ [];
      size : g.L.OperationLog.log_bytes l.log ≡ g.L.OperationLog.log_bytes l.initial.log;
    }
