use Rattle.std.proofs.Common.{◌≡◌, ℕ, ◌<◌, [], length, sym, ap, subst, ◌∙◌, arith}
use Rattle.std.specs.Prelude.{All, IsTrue}
use Rattle.gfs_types.specs.declared.ids.Node.TheVariants.{Client}
use Rattle.protocol_journal.specs.Journal.{own}
use Rattle.cell_journal.specs.Clocks.{are_clocks_kept}
use Rattle.cell_journal.specs.Identity.{Identity, Closed}
use Rattle.cell_journal.specs.WholeHistories.{whole_of}
use Rattle.running_nodes.specs.Seatings.{AllGoOver, IsSeatOf}
use Rattle.running_nodes.specs.Places.{ArePlacesOf}
use Rattle.cell_run.proofs.Going.{ready_behind}
use Rattle.cell_run.proofs.behind.seats_over.Goals as goal

pub client_places-places-requires-clause-retired : goal.client_places-places-requires-clause-retired
client_places-places-requires-clause-retired g c = ap (λ (i : Identity). i.retired) c.requires.cell

pub seat_all-requires-clause-ready : goal.seat_all-requires-clause-ready
seat_all-requires-clause-ready g c =
    let kept = c.args.kept.now in
    let registry = c.client_places-places.new.registry in
    let same = c.client_places-places.ensures.same in
    let here = c.again.ensures ∙ same.cell_is in
    let room = c.args.room in
    ready_behind kept.journal.now c.args.retired c.again.result c.whole_len.result registry.config kept.made c.client_places-places.result.0.items room.anew.items (here ∙ c.requires.cell)
    (c.whole_len.ensures ∙ ap (λ (j : Closed). length (whole_of j)) c.history.ensures.history) (ap (λ (i : Identity). i.config) (c.again.ensures ∙ registry.cell_is) ∙ registry.registers.config_is) c.requires.settings.1
    (subst (λ (i : Identity). ArePlacesOf i c.client_places-places.result.0.items) (sym here) c.client_places-places.ensures.places) (same.config_is ∙ c.requires.settings.0) c.requires.room.clients c.history.ensures.lawful c.history.ensures.range
    (subst (λ (i : Identity). IsTrue (are_clocks_kept i i.base)) (sym here) c.requires.clocks) (omega (arith, c.requires.made.0, c.requires.made.1))
    (subst (λ (i : Identity). (n : ℕ) → kept.made < n → own (Client (record { 0 = n })) i.base ≡ []) (sym here) c.requires.fresh)

pub seat_all-requires-clause-seats : goal.seat_all-requires-clause-seats
seat_all-requires-clause-seats g c = subst (λ (i : Identity). All (IsSeatOf i (length i.base)) c.args.parked.items) (sym (c.again.ensures ∙ c.client_places-places.ensures.same.cell_is)) c.requires.seats

pub returns-clause-over : goal.returns-clause-over
returns-clause-over g c = subst (λ (i : Identity). AllGoOver i c.args.parked.items c.seat_all.result.items) (c.again.ensures ∙ c.client_places-places.ensures.same.cell_is) c.seat_all.ensures
