use Rattle.std.proofs.Common.{List, [], Option, refl, sym, subst, ap, ◌∙◌}
use Rattle.messages.specs.declared.message.Message.{Message}
use Rattle.server_cell.specs.Inputs.{input_of}
use Rattle.protocol.specs.Seen.{down_output}
use Rattle.protocol.specs.Server.{ServerState}
use Rattle.protocol.specs.Conforms.{ServerSteps}
use Rattle.cell_world.specs.Batches.{message_named}
use Rattle.cell_world.proofs.Lost.{at, unrecorded, recorded_so, server_lost}
use Rattle.cell_world.proofs.servers.server_steps.Goals as goal

pub returns-then-is_err : goal.returns-then-is_err
returns-then-is_err c =
    let s : ServerState = c.index_mut.result.now in
    let there = at c.args.servers.now.items c.args.place s c.requires.place c.index_mut.ensures.value in
    record {
      old = s;
      new = c.stop.new.self;
      out = down_output;
      seen = [];
      is_there = there;
      steps = subst (λ (t : ServerState). ServerSteps s c.args.now.0 (input_of (message_named c.args.kept.now.network.messages c.args.given)) down_output [] t) (sym c.stop.ensures) (server_lost s _ _ (c.requires.up s there));
      nodes_are = refl;
      recorded = unrecorded _ _ down_output refl refl c.reserve.ensures.sent c.reserve.ensures.seen;
    }

pub returns : goal.returns
returns c =
    let s : ServerState = c.index_mut-2.result.now in
    record {
      old = s;
      new = c.step-out.new.self;
      out = c.step-out.result.out;
      seen = c.step-out.result.seen;
      is_there = at c.args.servers.now.items c.args.place s c.requires.place c.index_mut-2.ensures.value;
      steps = subst (λ (o : Option Message). ServerSteps s c.args.now.0 (input_of o) c.step-out.result.out c.step-out.result.seen c.step-out.new.self)
          (c.named.ensures ∙ ap (λ (ms : List Message). message_named ms c.args.given) c.reserve.ensures.sent) c.step-out.ensures;
      nodes_are = refl;
      recorded = recorded_so c.args.kept.now c.reserve.new.self c.takes.new.self c.step-out.result.out c.step-out.result.seen c.reserve.ensures.sent c.reserve.ensures.seen c.takes.ensures.sent c.takes.ensures.seen;
    }
