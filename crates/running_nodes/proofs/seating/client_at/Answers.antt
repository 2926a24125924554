use Rattle.std.proofs.Common.{◌+◌, sym, ap, ◌∙◌}
use Rattle.gfs_types.specs.declared.config.Config.{Config}
use Rattle.protocol.specs.Client.{new_client}
use Rattle.running_nodes.proofs.GoingSeats.{client_less}
use Rattle.running_nodes.proofs.seating.client_at.Goals as goal

pub returns-clause-ready : goal.returns-clause-ready
returns-clause-ready g c = client_less _ _ _ _ _ _ c.args.seating.now.clients.items _ c.take_at.ensures.left c.requires

pub returns-clause-client : goal.returns-clause-client
returns-clause-client g c =
    let seating = c.args.seating.now in
    c.requires.anew c.args.before c.in-Some.client c.in-Some.ensures.taken ∙ ap (λ (x : Config). new_client x (seating.made + c.args.before + 1)) (sym c.requires.config_is)
