use Rattle.std.proofs.lemmas.Result.{err_from_is_err_and}
use Rattle.log_codec.specs.Reading.{many_at, server_at}
use Rattle.log_codec.proofs.Loop.{goes_on, ends, is_done}
use Rattle.log_codec.proofs.read_fields.servers_of.Goals as goal

pub returns-in_err-server : goal.returns-in_err-server
returns-in_err-server c =
    let p = err_from_is_err_and c.from_residual.result c.from_residual.ensures.1 in
    rw (p.1, p.2) (ends c.in_err-server.field-0.0 server_at c.loop.servers c.args.count c.loop.counter c.loop.rest.now (many_at server_at c.args.count c.args.bytes.now) c.loop-test.true c.in_err-server.ensures c.loop.invariant)

pub loop-preserved : goal.loop-preserved
loop-preserved c =
    rw c.in_ok-push.ensures.ok (goes_on server_at c.loop.servers c.args.count c.loop.counter c.loop.rest.now c.in_ok-server.server c.in_ok-server.after.now (many_at server_at c.args.count c.args.bytes.now) c.loop-test.true c.in_ok-server.ensures c.loop.invariant)

pub returns : goal.returns
returns c = is_done server_at c.loop.servers c.args.count c.loop.counter c.loop.rest.now (many_at server_at c.args.count c.args.bytes.now) c.loop-test.false c.loop.invariant
