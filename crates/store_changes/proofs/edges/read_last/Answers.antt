use Rattle.std.proofs.Common.{◌≡◌, ℕ, ◌+◌, ◌*◌, List, length, ap, ◌∙◌, Some}
use Rattle.std.specs.Prelude.{IfSome}
use Rattle.std.proofs.lemmas.Result.{IfOk-weaker}
use Rattle.replica_store.specs.Replicas.{Replica}
use Rattle.store_changes.specs.Reading.{checked_part}
use Rattle.store_changes.proofs.Pairs.{some_long}
use Rattle.store_changes.proofs.edges.read_last.Goals as goal
use Rattle.store_disk.specs.Stored.{Holds}

pub returns-then-first-last-clause-last : goal.returns-then-first-last-clause-last
returns-then-first-last-clause-last g c handle r h one =
    let l = c.args.layout in
    ap (λ (s : List ℕ). Some s) c.in_ok-clone.ensures.cases ∙ one ∙ ap (λ (n : ℕ). checked_part l.block r (n * l.block) ((n + 1) * l.block)) c.if-first-last.true

pub returns-clause-last : goal.returns-clause-last
returns-clause-last g c =
    let l = c.args.layout in
    let seen = g.D.Disk.seen c.args.disk.now in
    IfOk-weaker c.read_blocks.result
    (λ o. (handle : ℕ) (r : Replica) → Holds l.chunk l.block seen c.args.slot handle r → o ≡ checked_part l.block r (c.args.last * l.block) ((c.args.last + 1) * l.block))
    (λ o. (handle : ℕ) (r : Replica) → Holds l.chunk l.block seen c.args.slot handle r → Some c.args.one.now ≡ checked_part l.block r (c.args.first * l.block) ((c.args.first + 1) * l.block)
    → o ≡ checked_part l.block r (c.args.last * l.block) ((c.args.last + 1) * l.block))
    (λ o part handle r h one. part handle r h) c.read_blocks.ensures.blocks

pub returns-clause-long : goal.returns-clause-long
returns-clause-long g c =
    let l = c.args.layout in
    IfOk-weaker c.read_blocks.result (λ o. IfSome o (λ bytes. length bytes ≡ 1 * l.block)) (λ o. IfSome o (λ bytes. length bytes ≡ l.block)) (λ o long. some_long o l.block long) c.read_blocks.ensures.size
