use Rattle.std.proofs.Common.{◌∙◌}
use Rattle.serve.proofs.Starting.{served_anew, printed_anew}
use Rattle.serve.proofs.run.new_client.Goals as goal

pub invariant_of-printed : goal.invariant_of-printed
invariant_of-printed g c =
    let seen = c.seen.ensures in
    printed_anew g.S.Serving.of c.args.id.0 c.args.seat c.requires seen.lawful seen.clocks seen.explained c.again.result c.new.result.items (c.again.ensures ∙ c.view.ensures) c.new.ensures

pub invariant_of-client : goal.invariant_of-client
invariant_of-client g c =
    let seen = c.seen.ensures in
    served_anew g.S.Serving.of c.args.id.0 c.args.seat c.requires seen.lawful seen.clocks seen.explained
