use Rattle.std.proofs.Common.{◌≡◌, ℕ, ◌*◌, ◌≤◌, List, length, sym, ◌∙◌, subst, arith, Option}
use Rattle.std.specs.Prelude.{IfSome}
use Rattle.disk_redo.proofs.Moments.{reads_both}
use Rattle.replica_store.specs.Replicas.{block_in, block_matches}
use Rattle.store_changes.proofs.Pairs.{both_some, first_none, one_block, second_none}
use Rattle.store_changes.proofs.edges.read_ends.Goals as goal
use Rattle.store_disk.specs.Stored.{Holds}

pub read_last-requires-clause-long : goal.read_last-requires-clause-long
read_last-requires-clause-long g c =
    let l = c.args.layout in
    let long = subst (λ (o : Option (List ℕ)). IfSome o (λ bytes. length bytes ≡ 1 * l.block)) c.in-Some.is c.in_ok-one.ensures.size in
    omega (arith, long)

pub returns-in_default-clause-ends : goal.returns-in_default-clause-ends
returns-in_default-clause-ends g c handle r h =
    let l = c.args.layout in
    let positive : 1 ≤ l.block = omega (arith, l.block_range) in
    first_none (block_in l.block c.args.first r.bytes) (block_in l.block c.args.last r.bytes) (block_matches l.block r c.args.first) (block_matches l.block r c.args.last)
    (sym c.in_default.is ∙ c.in_ok-one.ensures.blocks handle r h ∙ one_block l.block r c.args.first positive)

pub returns-in_default-2-clause-ends : goal.returns-in_default-2-clause-ends
returns-in_default-2-clause-ends g c handle r h =
    let l = c.args.layout in
    let positive : 1 ≤ l.block = omega (arith, l.block_range) in
    let one = sym c.in-Some.is ∙ c.in_ok-one.ensures.blocks handle r h in
    let same = subst (λ (s : List ℕ). Holds l.chunk l.block s c.args.slot handle r) (sym c.read_blocks.ensures.reads.seen_same) h in
    second_none (block_in l.block c.args.first r.bytes) (block_in l.block c.args.last r.bytes) (block_matches l.block r c.args.first) (block_matches l.block r c.args.last)
    (sym c.in_default-2.is ∙ c.in_ok-two.ensures.last handle r same one ∙ one_block l.block r c.args.last positive)

pub returns-in_default-2-clause-reads : goal.returns-in_default-2-clause-reads
returns-in_default-2-clause-reads g c =
    let disk = g.D.Disk in
    reads_both disk.seen disk.may_leave disk.moment disk.left_since c.args.disk.now c.read_blocks.new.disk c.read_last.new.disk c.read_blocks.ensures.reads c.read_last.ensures.reads

pub returns-clause-ends : goal.returns-clause-ends
returns-clause-ends g c handle r h =
    let l = c.args.layout in
    let positive : 1 ≤ l.block = omega (arith, l.block_range) in
    let one = sym c.in-Some.is ∙ c.in_ok-one.ensures.blocks handle r h in
    let same = subst (λ (s : List ℕ). Holds l.chunk l.block s c.args.slot handle r) (sym c.read_blocks.ensures.reads.seen_same) h in
    both_some (block_in l.block c.args.first r.bytes) (block_in l.block c.args.last r.bytes) (block_matches l.block r c.args.first) (block_matches l.block r c.args.last) c.in-Some.one c.in-Some-2.two
    (one ∙ one_block l.block r c.args.first positive)
    (sym c.in-Some-2.is ∙ c.in_ok-two.ensures.last handle r same one ∙ one_block l.block r c.args.last positive)

pub returns-clause-long : goal.returns-clause-long
returns-clause-long g c =
    let l = c.args.layout in
    let one = subst (λ (o : Option (List ℕ)). IfSome o (λ bytes. length bytes ≡ 1 * l.block)) c.in-Some.is c.in_ok-one.ensures.size in
    let two = subst (λ (o : Option (List ℕ)). IfSome o (λ bytes. length bytes ≡ l.block)) c.in-Some-2.is c.in_ok-two.ensures.long in
    (omega (arith, one), two)

pub returns-clause-reads : goal.returns-clause-reads
returns-clause-reads g c =
    let disk = g.D.Disk in
    reads_both disk.seen disk.may_leave disk.moment disk.left_since c.args.disk.now c.read_blocks.new.disk c.read_last.new.disk c.read_blocks.ensures.reads c.read_last.ensures.reads
