use Rattle.std.proofs.Common.{◌≤◌, List, ◌++◌, length, sym, ap, ◌∙◌, arith}
use Rattle.std.specs.Prelude.{slice_get}
use Rattle.log_records.specs.declared.record.Record.{Record}
use Rattle.protocol.specs.Logged.{LogDisk}
use Rattle.master_replay.specs.Restarts.{after_some, some_follows}
use Rattle.master_replay.proofs.Replays.{next_state, next_follows, next_fails, none_left, all_done, both}
use Rattle.master_replay.proofs.restart.replay_log.Goals as goal

pub loop-place-preserved : goal.loop-place-preserved
loop-place-preserved g c =
    let disk = g.L.OperationLog.disk c.args.log.now in
    let whole : List Record = disk.items ++ disk.records in
    let l = c.loop-place.state in
    let n = c.loop-place.place in
    let e = c.in-Ok.ensures in
    let stepped = e.state ∙ ap (λ (d : LogDisk). after_some l (slice_get (d.items ++ d.records) n)) c.loop-place.invariant.disk in
    let follows = sym (ap (λ (d : LogDisk). some_follows l (slice_get (d.items ++ d.records) n)) c.loop-place.invariant.disk) ∙ e.follows in
    record {
      state = next_state l _ whole n stepped ∙ c.loop-place.invariant.state;
      follows = next_follows l _ whole n stepped follows ∙ c.loop-place.invariant.follows;
      disk = e.disk ∙ c.loop-place.invariant.disk;
      under_way = e.under_way;
      size = e.size ∙ c.loop-place.invariant.size;
    }

pub returns-in-Err-clause-damaged : goal.returns-in-Err-clause-damaged
returns-in-Err-clause-damaged g c =
    let disk = g.L.OperationLog.disk c.args.log.now in
    let whole : List Record = disk.items ++ disk.records in
    let l = c.loop-place.state in
    let n = c.loop-place.place in
    λ e.
    sym c.loop-place.invariant.follows
    ∙ next_fails l whole n (sym (ap (λ (d : LogDisk). some_follows l (slice_get (d.items ++ d.records) n)) c.loop-place.invariant.disk) ∙ c.in-Err.ensures.damaged e)

pub returns-clause-state : goal.returns-clause-state
returns-clause-state g c =
    let disk = g.L.OperationLog.disk c.args.log.now in
    let whole : List Record = disk.items ++ disk.records in
    let l = c.loop-place.state in
    let n = c.loop-place.place in
    let end : length whole ≤ n = omega (arith, c.len-place-end.ensures) in
    sym (none_left l whole n end) ∙ c.loop-place.invariant.state ∙ both c.args.state.now disk.items disk.records

pub returns-clause-follows : goal.returns-clause-follows
returns-clause-follows g c =
    let disk = g.L.OperationLog.disk c.args.log.now in
    let whole : List Record = disk.items ++ disk.records in
    let l = c.loop-place.state in
    let n = c.loop-place.place in
    let end : length whole ≤ n = omega (arith, c.len-place-end.ensures) in
    sym c.loop-place.invariant.follows ∙ all_done l whole n end
