use Rattle.std.proofs.Common.{List, [], ◌++◌, map, Option, refl, sym, subst, ap, ◌∙◌}
use Rattle.messages.specs.declared.event.NodeInput.{NodeInput}
use Rattle.messages.specs.declared.message.Message.{Message}
use Rattle.server_cell.specs.Inputs.{input_of}
use Rattle.protocol.specs.Client.{ClientState}
use Rattle.protocol.specs.Conforms.{ClientSteps}
use Rattle.cell_world.specs.Batches.{message_named}
use Rattle.cell_world.specs.Kept.{blank_seen}
use Rattle.cell_world.proofs.Lost.{at, unrecorded, recorded_so, client_lost, lost_out, lost_quietly}
use Rattle.cell_world.proofs.clients.client_steps.Goals as goal

pub returns-then-is_err : goal.returns-then-is_err
returns-then-is_err c =
    let s : ClientState = c.index_mut.result.now in
    let i : NodeInput = input_of (message_named c.args.kept.now.network.messages c.args.given) in
    record {
      old = s;
      new = c.give_up.new.client;
      out = lost_out s;
      seen = [];
      is_there = at c.args.clients.now.items c.args.place s c.requires.place c.index_mut.ensures.value;
      steps = record { steps = subst (λ (t : ClientState). ClientSteps s c.args.now.0 i (lost_out s) t) (sym c.give_up.ensures.client) (client_lost s c.args.now.0 i); unseen = refl };
      nodes_are = refl;
      recorded = unrecorded c.args.kept.now c.reserve.new.self (lost_out s) (lost_quietly s).0 (lost_quietly s).1 c.reserve.ensures.sent c.reserve.ensures.seen;
    }

pub returns : goal.returns
returns c =
    let s : ClientState = c.index_mut-2.result.now in
    record {
      old = s;
      new = c.steps_on-sent.new.client;
      out = c.steps_on-sent.result;
      seen = [];
      is_there = at c.args.clients.now.items c.args.place s c.requires.place c.index_mut-2.ensures.value;
      steps = record {
        steps = subst (λ (o : Option Message). ClientSteps s c.args.now.0 (input_of o) c.steps_on-sent.result c.steps_on-sent.new.client)
            (c.named.ensures ∙ ap (λ (ms : List Message). message_named ms c.args.given) c.reserve.ensures.sent) c.steps_on-sent.ensures;
        unseen = refl;
      };
      nodes_are = refl;
      recorded = recorded_so c.args.kept.now c.reserve.new.self c.takes.new.self c.steps_on-sent.result [] c.reserve.ensures.sent c.reserve.ensures.seen c.takes.ensures.sent
          (c.takes.ensures.seen ∙ ap (λ xs. c.reserve.new.self.sights.seen ++ map blank_seen xs) c.empty.ensures);
    }
