use Rattle.std.proofs.Common.{◌≡◌, List, length, sym, ap, subst, ◌∙◌, arith}
use Rattle.std.specs.Prelude.{All}
use Rattle.std.proofs.lemmas.List.{length-map}
use Rattle.cell_journal.specs.Identity.{Identity}
use Rattle.cell_seats.specs.Seats.{SeatState}
use Rattle.live.specs.declared.play.Player.{Player}
use Rattle.live.specs.declared.reopen.Unseated.{Unseated}
use Rattle.live.specs.Playing.{AllReopen, rest_of, seated}
use Rattle.live.proofs.Players.{all_named, over_count, all_reopen}
use Rattle.live.proofs.reopen.reopen.Goals as goal

pub park-requires : goal.park-requires
park-requires g c = subst (λ (l : List SeatState). All (λ s. s.cell.name ≡ c.args.cell.of.name) l) (sym c.in-Ok.ensures.seats) (all_named c.args.cell.of c.args.players.items c.requires)

pub join-requires-clause-count : goal.join-requires-clause-count
join-requires-clause-count g c =
    over_count c.in-Ok-resume.cell.of c.in_ok-parked.parked.seats c.in-Ok-resume.seats.items c.args.players.items c.in-Ok.handed.rests.items c.in-Ok-resume.ensures.resumed.go_over
    (c.in_ok-parked.ensures.parked.seats_are ∙ c.in-Ok.ensures.seats) c.in-Ok.ensures.rests

pub join-requires-clause-room : goal.join-requires-clause-room
join-requires-clause-room g c = omega (arith, ap length c.in-Ok.ensures.rests, length-map c.args.players.items rest_of, c.in-Ok.ensures.room.1)

pub returns-in-Ok-resume-clause-cell : goal.returns-in-Ok-resume-clause-cell
returns-in-Ok-resume-clause-cell g c =
    let over = c.in-Ok-resume.ensures.resumed in
    let was = c.in_ok-parked.ensures.parked.cell_is in
    record {
      config_is = over.config_is ∙ ap (λ (i : Identity). i.config) was;
      servers_are = over.servers_are ∙ ap (λ (i : Identity). i.servers) was;
      clients_are = over.clients_are ∙ ap (λ (i : Identity). i.clients) was;
    }

pub returns-in-Ok-resume-clause-players : goal.returns-in-Ok-resume-clause-players
returns-in-Ok-resume-clause-players g c =
    let cell = c.in-Ok-resume.cell.of in
    let olds = c.args.players.items in
    let news = c.in-Ok-resume.seats.items in
    subst (λ (l : List Player). AllReopen cell olds l) (sym (c.join.ensures ∙ ap (λ (us : List Unseated). seated us news) c.in-Ok.ensures.rests))
    (all_reopen cell olds c.in_ok-parked.parked.seats news (c.in_ok-parked.ensures.parked.seats_are ∙ c.in-Ok.ensures.seats) c.in_ok-parked.ensures.clients c.in-Ok-resume.ensures.resumed.go_over)
