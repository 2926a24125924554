-- The whole list of a journal with a base: the base's entries, and then its own, whose messages are counted anew.
use Rattle.std.specs.Prelude.{ℕ, List, [], ◌++◌, map, length}
use Rattle.protocol_journal.specs.Journal.{StepCause, Calls, Takes, Restarts, Entry, sent_after}
use Rattle.protocol_journal.specs.Rebased.{raised_input}

abbrev pub raised_cause : ℕ → StepCause → StepCause
raised_cause before (Calls call) = Calls call
raised_cause before (Takes i) = Takes (raised_input before i)
raised_cause before Restarts = Restarts

-- an entry as one of a journal that counts all messages
abbrev pub raised_entry : ℕ → Entry → Entry
raised_entry before e = record e { cause = raised_cause before e.cause }

abbrev pub whole : List Entry → List Entry → List Entry
whole base entries = base ++ map (raised_entry (length (sent_after [] base))) entries
