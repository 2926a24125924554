use Rattle.std.proofs.Common.{◌≡◌, ℕ, ◌+◌, ◌<◌, refl, ap, ◌∙◌, arith}
use Rattle.gfs_types.specs.declared.ids.Node.{Node}
use Rattle.protocol.specs.Client.{new_client}
use Rattle.protocol_journal.specs.Journal.{own}
use Rattle.cell_journal.specs.Identity.{Identity}
use Rattle.cell_seats.specs.Slots.{SlotState}
use Rattle.running_nodes.proofs.Standing.{client_anew}
use Rattle.running_nodes.proofs.seating.new_client.Goals as goal

pub new-requires : goal.new-requires
new-requires g c =
    let seating = c.args.seating.now in
    let same = c.place_of-journal.ensures.same in
    let place = c.place_of-journal.ensures.place in
    let before = seating.taken in
    let few : seating.made + before < 64 = c.are_fewer.ensures c.hold.ensures in
    let is = c.client_at.ensures.client
    ∙ (ap (λ (i : Identity). new_client i.config (c.place_of-journal.new.seating.made + before + 1)) same.0 ∙ ap (λ (m : ℕ). new_client seating.cell.config (m + before + 1)) same.1)
    in
    record {
      led = client_anew seating.cell seating.cell.config (record { 0 = seating.made + before + 1 }) _ _ _ (omega arith) (omega (arith, few)) c.place_of-journal.ensures.node place.of place.mine refl c.requires.clients_are
          (c.requires.fresh (seating.made + before + 1) (omega arith)) is;
    }

pub returns-clause-slot : goal.returns-clause-slot
returns-clause-slot g c =
    let place = c.place_of-journal.ensures.place in
    (ap (λ (x : SlotState). x.view.of) c.new.ensures ∙ place.of, ap (λ (x : SlotState). x.view.mine) c.new.ensures ∙ place.mine)

pub returns-clause-unused : goal.returns-clause-unused
returns-clause-unused g c =
    let seating = c.args.seating.now in
    ap (λ (n : Node). own n seating.cell.base) (ap (λ (x : SlotState). x.node) c.new.ensures ∙ c.place_of-journal.ensures.node) ∙ c.requires.fresh (seating.made + seating.taken + 1) (omega arith)
