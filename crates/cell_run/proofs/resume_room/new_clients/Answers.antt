use Rattle.std.proofs.Common.{◌≡◌, ℕ, ◌+◌, [], ◌∷◌, length, length-append, sym, ap, ◌∙◌, arith}
use Rattle.std.specs.Prelude.{Some}
use Rattle.protocol.specs.Client.{new_client}
use Rattle.running_nodes.proofs.Placing.{client_more}
use Rattle.cell_run.proofs.resume_room.new_clients.Goals as goal

pub loop-before-preserved : goal.loop-before-preserved
loop-before-preserved c =
    let was = c.loop-before.clients.items in
    let count = c.loop-before.invariant.count in
    let new = c.in_ok-client.client in
    record {
      clients = client_more c.args.config c.args.made was _ new c.in_ok-keep.ensures
          (c.in_ok-client.ensures ∙ ap (λ (n : ℕ). new_client c.args.config (c.args.made + n + 1)) (sym count)) c.loop-before.invariant.clients;
      count = omega (arith, ap length c.in_ok-keep.ensures, length-append was (Some new ∷ []), count);
    }
