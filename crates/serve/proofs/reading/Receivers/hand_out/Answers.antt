use Rattle.std.proofs.Common.{◌≡◌, ◌+◌, ◌<◌, length, arith}
use Rattle.std.proofs.lemmas.List.{length-set}
use Rattle.serve.proofs.Places.{read_at}
use Rattle.serve.proofs.Handing.{when_none, taken_none, none_there, is_asked, taken_one}
use Rattle.serve.proofs.reading.Receivers.hand_out.Goals as goal

pub returns-in_default-clause-taken : goal.returns-in_default-clause-taken
returns-in_default-clause-taken g c =
    let clients : c.len.result ≡ g.S.Serving.of.clients = omega (arith, c.len.ensures, c.args.self.now.asked.ok.0, c.requires.clients) in
    taken_none _ _ (none_there g.S.Serving.of.clients c.len.result c.args.line clients (when_none c.place_of.result c.in_default.not-Some c.place_of.ensures.none))

pub invariant_of-asked : goal.invariant_of-asked
invariant_of-asked g c =
    let counts = c.args.self.now.asked.items in
    let number = c.index-number.result.now in
    let within : c.in-Some.place < length counts = omega (arith, c.in-Some.ensures.place.0, c.len.ensures, c.args.self.now.asked.ok.0) in
    is_asked g.S.Serving.of counts c.args.line c.in-Some.place c.requires.clients within c.in-Some.ensures.place.1 number (read_at counts c.in-Some.place number within c.index-number.ensures) c.requires

pub returns-clause-taken : goal.returns-clause-taken
returns-clause-taken g c =
    let counts = c.args.self.now.asked.items in
    let number = c.index-number.result.now in
    let within : c.in-Some.place < length counts = omega (arith, c.in-Some.ensures.place.0, c.len.ensures, c.args.self.now.asked.ok.0) in
    taken_one g.S.Serving.of counts c.args.line c.in-Some.place c.requires.clients within c.in-Some.ensures.place.1 number (read_at counts c.in-Some.place number within c.index-number.ensures)

pub returns-clause-clients : goal.returns-clause-clients
returns-clause-clients g c = length-set c.args.self.now.asked.items c.in-Some.place (c.index-number.result.now + 1)
