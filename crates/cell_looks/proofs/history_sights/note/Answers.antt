use Rattle.std.proofs.Common.{◌≡◌, ◌++◌, List, map, false, sym, ap, ◌∙◌}
use Rattle.std.proofs.lemmas.Result.{on_ok_weaker}
use Rattle.protocol.specs.declared.seen.Seen.{Seen}
use Rattle.cell_world.specs.Kept.{blank_seen}
use Rattle.cell_looks.specs.Noted.{is_client}
use Rattle.cell_looks.proofs.Noted.{none_noted, all_noted}
use Rattle.cell_looks.proofs.history_sights.note.Goals as goal

pub returns-then-is_client-clause-seen : goal.returns-then-is_client-clause-seen
returns-then-is_client-clause-seen c =
    none_noted c.args.entry.now.node c.args.entry.now.seen c.args.sights.now.seen (ap is_client (sym c.node.ensures) ∙ (sym c.is_client.ensures ∙ c.if-is_client.true))

pub returns-clause-seen : goal.returns-clause-seen
returns-clause-seen c =
    let other : is_client c.args.entry.now.node ≡ false = ap is_client (sym c.node.ensures) ∙ (sym c.is_client.ensures ∙ c.if-is_client.false) in
    let same = c.notes.ensures.seen in
    on_ok_weaker c.notes.result (λ h. all_noted c.args.entry.now.node c.args.entry.now.seen c.args.sights.now.seen c.notes.new.self.seen other
    (h ∙ ap (λ (l : List Seen). c.args.sights.now.seen ++ map blank_seen l) c.seen.ensures)) same
