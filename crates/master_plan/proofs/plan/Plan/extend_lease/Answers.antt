use Rattle.std.proofs.Common.{refl, sym, subst, IfSome}
use Rattle.chunk_table.specs.ChunkTable.{TableState, set_end}
use Rattle.leases.specs.LeaseEnds.{end_from}
use Rattle.protocol.specs.Logged.{Logged}
use Rattle.master_state.specs.Follows.{table_of}
use Rattle.master_state.proofs.Extended.{by_end}
use Rattle.master_waiting.specs.Concerned.{AreConcerned, IfKnown}
use Rattle.master_plan.specs.Watched.{IsWholeAt}
use Rattle.master_waiting.proofs.Concerning.{same_files}
use Rattle.master_plan.proofs.Watching.{ended_if}
use Rattle.master_plan.proofs.Waits.{extended_if}
use Rattle.master_plan.proofs.plan.Plan.extend_lease.Goals as goal

pub invariant_of-self : goal.invariant_of-self
invariant_of-self g c =
    let i = c.self.inside in
    let l = i.state in
    let h = c.args.handle.0 in
    let holds : Logged → Type 0 = λ n.
    IfKnown i.knows_concerned (AreConcerned n i.snapshots i.concerned_files i.concerned_chunks)
    × IfSome i.whole_until (IsWholeAt i.config i.server_count n i.holders i.reported i.doubted) in
    let after : TableState → Logged = λ t. record l { table = t.table } in
    let until = end_from i.clock i.config.lease_ms in
    let ended : Logged = after (record (table_of l) { table = set_end l.table h until }) in
    let both = subst holds (sym c.extend_lease.ensures)
    (by_end (table_of l) h i.clock (λ t. holds (after t)) i.config.lease_ms (c.self.invariant.0.1, c.self.invariant.1.0) (
      same_files l ended i.snapshots i.concerned_files i.concerned_chunks i.knows_concerned refl refl c.self.invariant.0.1,
      ended_if i.config i.server_count i.holders i.reported i.doubted i.whole_until l ended h until refl c.self.invariant.1.0,
    )) in (
      (c.self.invariant.0.0, both.0),
      (
        both.1,
        extended_if i.snapshots l c.extend_lease.new.self h i.clock i.config.lease_ms i.all_wait_until c.extend_lease.ensures c.self.invariant.1.1,
      ),
    )
