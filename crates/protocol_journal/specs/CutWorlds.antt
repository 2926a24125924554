-- Laws of worlds that count their messages anew, that public functions of this crate state.
use Rattle.std.specs.Prelude.{ℕ, List, [], map, length}
use Rattle.gfs_types.specs.declared.answer.Answer.{Answer}
use Rattle.messages.specs.declared.event.Event.{Event}
use Rattle.messages.specs.declared.message.Message.{Message}
use Rattle.protocol.specs.Choice.{Choice}
use Rattle.protocol.specs.World.{WorldState, happens}
use Rattle.protocol.specs.Conforms.{WorldRuns}
use Rattle.protocol_journal.specs.Rebased.{raised_event, restart_events, without_messages, IsCut, GoesAlike}

-- A world without its first messages goes as the whole one does, at each event, whose message's number is raised by the count of those messages.
abbrev pub CutWorldsGoAlike : Type 0
CutWorldsGoAlike =
    (w cut : WorldState) (earlier : List Message) → IsCut w earlier cut → (e : Event) (choice : Choice)
    → GoesAlike earlier (happens w (raised_event (length earlier) e) choice) (happens cut e choice)

-- So its runs are runs of the whole one, with the same answers.
abbrev pub CutRunsAreRuns : Type 0
CutRunsAreRuns =
    (w cut next : WorldState) (earlier : List Message) (events : List Event) (replies : List Answer)
    → IsCut w earlier cut → WorldRuns cut events replies next
    → (whole_next : WorldState)
    × WorldRuns w (map (raised_event (length earlier)) events) replies whole_next
    × IsCut whole_next earlier next

-- After a restart of its master and of each server all its messages may be dropped: what is left is a cut of the world to which the same restarts lead from the whole one, without any of its messages.
abbrev pub RebasesAreRuns : Type 0
RebasesAreRuns =
    (w cut next : WorldState) (earlier : List Message) (servers moment : ℕ)
    → IsCut w earlier cut → WorldRuns cut (restart_events servers moment) [] next
    → (whole_next : WorldState)
    × WorldRuns w (restart_events servers moment) [] whole_next
    × IsCut whole_next whole_next.sent (without_messages next)
