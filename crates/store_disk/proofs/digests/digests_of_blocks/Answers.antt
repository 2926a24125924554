use Rattle.std.proofs.Common.{◌≡◌, ◌++◌, ap, arith, drop, length, length-drop, ◌∙◌}
use Rattle.replica_store.specs.Replicas.{digests_of}
use Rattle.store_disk.proofs.Loop.{goes_on, others_left}
use Rattle.store_disk.proofs.digests.digests_of_blocks.Goals as goal

pub loop-preserved : goal.loop-preserved
loop-preserved c =
    let so_far = c.loop.invariant in
    let rest = c.loop.rest.now in
    let all = digests_of c.args.block c.args.count c.args.bytes.now in
    let items = c.in_ok-extend_from_slice.ensures.items in
    let digest = c.digest_of-digest.ensures in
    let front = c.split_at.ensures.front in
    let back = c.split_at.ensures.back in
    let next = goes_on c.args.block c.args.count c.loop.counter c.loop.digests.items rest all c.loop-test.true so_far.so_far in
    let left = others_left c.args.block c.args.count c.loop.counter c.loop.digests.items rest all c.loop-test.true so_far.room in
    record {
      so_far = rw (items, digest, front, back) next;
      room = omega (arith, left, ap length back, length-drop c.args.block rest);
    }
