use Rattle.std.proofs.Common.{length, ap}
use Rattle.cell_looks.proofs.Servers.{count_more, led_none, led_more}
use Rattle.cell_looks.proofs.parked_servers.servers_of.Goals as goal

pub loop-before-init : goal.loop-before-init
loop-before-init c = record {
  count = ap length c.new-servers.ensures.items;
  led = led_none (λ x. x.now) c.args.parked.now.journal c.new-servers.result.items c.new-servers.ensures.items;
}

pub loop-before-preserved : goal.loop-before-preserved
loop-before-preserved c =
    let was = c.loop-before.invariant in
    record {
      count = count_more c.loop-before.servers.items c.push.new.self.items _ c.loop-before.before was.count c.in_ok-push.ensures.items;
      led = led_more (λ x. x.now) c.args.parked.now.journal c.loop-before.servers.items c.push.new.self.items _ c.loop-before.before c.in_ok-push.ensures.items was.count c.server_behind-server.ensures was.led;
    }
