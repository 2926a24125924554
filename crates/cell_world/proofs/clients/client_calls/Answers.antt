use Rattle.std.proofs.Common.{[], ◌++◌, map, refl, sym, subst, ap, ◌∙◌}
use Rattle.protocol.specs.Seen.{down_output}
use Rattle.protocol.specs.Client.{ClientState}
use Rattle.protocol.specs.Conforms.{ClientCalls}
use Rattle.cell_world.specs.Kept.{blank_seen}
use Rattle.cell_world.proofs.Lost.{at, unrecorded, recorded_so, call_lost}
use Rattle.cell_world.proofs.clients.client_calls.Goals as goal

pub returns-then-is_err : goal.returns-then-is_err
returns-then-is_err c =
    let s : ClientState = c.index_mut.result.now in
    record {
      old = s;
      new = c.stop.new.client;
      out = down_output;
      seen = [];
      is_there = at c.args.clients.now.items c.args.place s c.requires.place c.index_mut.ensures.value;
      steps = record { calls = subst (λ (t : ClientState). ClientCalls s c.args.now.0 c.args.call down_output t) (sym c.stop.ensures) (call_lost s c.args.now.0 c.args.call); unseen = refl };
      nodes_are = refl;
      recorded = unrecorded c.args.kept.now c.reserve.new.self down_output refl refl c.reserve.ensures.sent c.reserve.ensures.seen;
    }

pub returns : goal.returns
returns c =
    let s : ClientState = c.index_mut-2.result.now in
    let is_there = at c.args.clients.now.items c.args.place s c.requires.place c.index_mut-2.ensures.value in
    record {
      old = s;
      new = c.call-sent.new.self;
      out = c.call-sent.result;
      seen = [];
      is_there = is_there;
      steps = record { calls = c.call-sent.ensures.taken (c.requires.may s is_there); unseen = refl };
      nodes_are = refl;
      recorded = recorded_so c.args.kept.now c.reserve.new.self c.takes.new.self c.call-sent.result [] c.reserve.ensures.sent c.reserve.ensures.seen c.takes.ensures.sent
          (c.takes.ensures.seen ∙ ap (λ xs. c.reserve.new.self.sights.seen ++ map blank_seen xs) c.empty.ensures);
    }
