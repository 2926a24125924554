use Rattle.std.proofs.Common.{◌-◌, ◌<◌, Some, length, take, drop, ◌∙◌, sym, ap, arith, length-take, length-drop}
use Rattle.std.proofs.lemmas.Bool.{false≢true}
use Rattle.embedded_cell.specs.Records.{id_of, is_record}
use Rattle.embedded_cell.proofs.Records.{bytes_there, nine_there}
use Rattle.embedded_cell.proofs.record.record_at.Goals as goal

pub returns-then-rest-lt-SIZE : goal.returns-then-rest-lt-SIZE
returns-then-rest-lt-SIZE c = λ one at.
    let bytes = c.args.bytes.now in
    let place = c.args.place in
    let few : length (take (length bytes - place) (drop place bytes)) < 9 = c.if-rest-lt-SIZE.true in
    absurd (omega (arith, few, length-take (length bytes - place) (drop place bytes), length-drop place bytes, nine_there bytes place one at))

pub returns-then-not-is_record : goal.returns-then-not-is_record
returns-then-not-is_record c = λ one at. absurd (false≢true (sym c.if-not-is_record.true ∙ (c.is_record.ensures ∙ (ap is_record (bytes_there c.args.bytes.now c.args.place one at) ∙ at.0))))

pub returns : goal.returns
returns c = λ one at. ap Some (c.id_of.ensures ∙ ap id_of (bytes_there c.args.bytes.now c.args.place one at))
