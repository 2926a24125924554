use Rattle.std.proofs.Common.{ℕ, ◌*◌, ◌<◌, below_more, arith}
use Rattle.cell_journal.proofs.Begins.{prefix_self, prefix_trans}
use Rattle.embedded_cell.specs.declared.follower.Follower.{Follower}
use Rattle.embedded_cell.specs.Reading.{HasRead}
use Rattle.embedded_cell.proofs.Later.{later_self, later_then, answered_later, read_later, read_sooner}
use Rattle.embedded_cell.proofs.Shown.{misses_nothing}
use Rattle.embedded_cell.proofs.follower.Follower.read_all.Goals as goal

pub loop-index-init : goal.loop-index-init
loop-index-init g c = record {
  later = later_self c.open_again.new.self.seat;
  stays = prefix_self c.open_again.new.self.taken.items;
  done = λ k less. absurd (omega (arith, less));
}

pub loop-index-preserved : goal.loop-index-preserved
loop-index-preserved g c =
    let s = c.open_again.new.self.seat in
    let y : Follower = c.loop-index.self in
    let z : Follower = c.read.new.self in
    let was = c.loop-index.invariant in
    let index = c.loop-index.index in
    let fd = c.in_ok-fd.fd in
    let more = c.in_ok-read.ensures in
    record {
      later = later_then s y.seat z.seat was.later more.later;
      stays = prefix_trans c.open_again.new.self.taken.items y.taken.items z.taken.items was.stays more.stays;
      done = below_more (λ (k : ℕ). HasRead s z fd (k * 512) 512) index (λ k less. read_later s y z fd (k * 512) 512 more.later more.stays (was.done k less))
          (read_sooner s y.seat z fd (index * 512) 512 was.later more.read);
    }

pub overflow_mul-index : goal.overflow_mul-index
overflow_mul-index g c = omega (arith, c.chunk_count-chunks.ensures.within c.loop-index.index c.loop-index-test.true, c.chunk_count-chunks.ensures.fits)

pub returns : goal.returns
returns g c =
    let s = c.open_again.new.self.seat in
    let y : Follower = c.loop-index.self in
    let z : Follower = record { seat = c.close.new.self; chunks = y.chunks; taken = y.taken } in
    let fd = c.in_ok-fd.fd in
    let was = c.loop-index.invariant in
    let closed = answered_later y.seat z.seat _ _ c.in_ok-close.ensures.ok in
    misses_nothing c.args.self.now z s c.args.path.now fd c.in_ok-fd.length c.chunk_count-chunks.result c.in_ok-fd.ensures (later_then s y.seat z.seat was.later closed)
    c.in_ok-close.ensures.ok.explained c.chunk_count-chunks.ensures.all c.chunk_count-chunks.ensures.fits
    (λ k less. read_later s y z fd (k * 512) 512 closed (prefix_self y.taken.items) (was.done k (let e : k < c.loop-index.index = omega (arith, less, c.loop-index-test.false) in e)))
