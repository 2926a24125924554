-- In a step a server numbers one mutation at most, before all else that it shows.
use Rattle.std.proofs.Common.{ℕ, ◌+◌, Bool, List, [], ◌∷◌, ◌++◌, Option, Some, None}
use Rattle.std.specs.Prelude.{filter}
use Rattle.gfs_types.specs.declared.ids.DataId.{DataId}
use Rattle.messages.specs.declared.event.NodeInput.{NodeInput}
use Rattle.primary_order.specs.declared.answer.Settled.{Settled}
use Rattle.primary_order.specs.PrimaryOrder.{place_of}
use Rattle.primary_order.specs.SerialOrder.{SerialOrder, numbered, settled, acknowledged}
use Rattle.protocol.specs.Tables.{without}
use Rattle.protocol.specs.Sending.{handle_of, version_of, serial_of, server_number}
use Rattle.protocol.specs.Choice.{Choice, Ending, Goes, Lost, Stops}
use Rattle.protocol.specs.Seen.{is_numbering, Taken, no_step}
use Rattle.protocol.specs.declared.seen.Seen.{Seen}
use Rattle.protocol.specs.declared.seen.Seen.TheVariants.{Numbered, BecameSettled}
use Rattle.protocol.specs.Server.{ServerState, ServerDoing, server_begins, stores, shows, with_primary}
use Rattle.protocol.specs.ServerWrites.{acknowledges, answers_settled, forwards, settles, change_of, stored_as, primary_applies}
use Rattle.protocol.specs.ServerStep.{server_at, server_goes, server_ends, server_step}
use Rattle.laws_base.proofs.Steps.{on_cond}
use Rattle.laws_base.proofs.Entries.{AllOf, all_joined, all_filtered}
use Rattle.laws_base.proofs.ServerWalk.{Acking, Numbering, Outcomes, number_of, server_comes_to}

abbrev pub NumbersNone : Seen → Type 0
NumbersNone (Numbered handle version serial id m) = ⊥
NumbersNone other = Unit {0}

-- what comes first may be a numbering
abbrev pub NumbersOnce : List Seen → Type 0
NumbersOnce [] = Unit {0}
NumbersOnce (x ∷ xs) = AllOf NumbersNone xs

none_once : (xs : List Seen) → AllOf NumbersNone xs → NumbersOnce xs
none_once [] all = tt
none_once (x ∷ xs) all = all.1

once_more : (xs : List Seen) (x : Seen) → NumbersNone x → NumbersOnce xs → NumbersOnce (xs ++ x ∷ [])
once_more [] x none h = tt
once_more (y ∷ xs) x none h = all_joined NumbersNone xs (x ∷ []) h (none, tt)

once_filtered : (test : Seen → Bool) (xs : List Seen) → NumbersOnce xs → NumbersOnce (filter test xs)
once_filtered test [] h = tt
once_filtered test (x ∷ xs) h =
    let rest = all_filtered NumbersNone test xs h in on_cond NumbersOnce (test x) (x ∷ filter test xs) (filter test xs) (λ _. rest) (λ _. none_once (filter test xs) rest)

abbrev IsOnce : ServerDoing → Type 0
IsOnce d = NumbersOnce d.seen

answers_once : (d : ServerDoing) (id : DataId) (place : Option ℕ) → IsOnce d → IsOnce (answers_settled d id place)
answers_once d id None h = h
answers_once d id (Some place) h = h

settles_once : (d : ServerDoing) (handle version serial : ℕ) (o : Option Settled) → IsOnce d → IsOnce (settles d handle version serial o)
settles_once d handle version serial None h = h
settles_once d handle version serial (Some s) h =
    let seen : Seen = BecameSettled (handle_of handle) (version_of version) (serial_of serial) in
    answers_once (shows d seen) (record { client = s.client; seq = s.seq }) s.place (once_more d.seen seen tt h)

module _ (s : ServerState) (i : NodeInput) where
  applied_once : (n : Numbering s i) → IsOnce (primary_applies (number_of s i n) n.a.c.handle.0 n.a.p n.a.c.id n.placed)
  applied_once n =
      let q : ℕ = n.a.c.handle.0 in
      let serial : ℕ = n.a.p.serial + 1 in
      let new : SerialOrder = numbered n.a.p n.a.c.id.client n.a.c.id.seq (place_of n.placed) in
      let forwarded : ServerDoing = forwards (stores (number_of s i n) (stored_as q serial n.placed)) (without n.a.p.held.members s.id) q n.a.p.held.version serial n.a.c.id n.a.p.chunk (change_of n.placed) in
      settles_once (with_primary forwarded q (acknowledged new s.id serial)) q n.a.p.held.version serial (settled new s.id serial) tt

  acked_once : (c : Acking i) (p : SerialOrder) → IsOnce (acknowledges (server_begins s) c.handle.0 p (server_number c.m.sender) c.serial.0)
  acked_once c p =
      let member : ℕ = server_number c.m.sender in
      settles_once (with_primary (server_begins s) c.handle.0 (acknowledged p member c.serial.0)) c.handle.0 p.held.version c.serial.0 (settled p member c.serial.0) tt

  outcomes : Outcomes s i (λ d. NumbersOnce d.seen)
  outcomes =
      record {
        rests = tt;
        ticks = λ came. tt;
        ends_push = λ c. tt;
        passes_push = λ c next. tt;
        misses_chunk = λ c. tt;
        misses_version = λ c. tt;
        reads_rot = λ c. tt;
        reads = λ c r bytes found same is. tt;
        measures = λ c r found same. tt;
        copies_rot = λ c. tt;
        copies = λ c r bytes found same is. tt;
        lacks_lease = λ c. tt;
        is_late = λ l late. tt;
        is_old = λ l old. tt;
        was_placed = λ l place is. tt;
        was_padded = λ l is. tt;
        was_refused = λ l refusal is. tt;
        lacks_data = λ a. tt;
        is_long = λ a. tt;
        is_full = λ a. tt;
        spoils = λ n rotten. tt;
        applies = λ n sound. applied_once n;
        lacks_replica = λ c none. tt;
        has_version = λ c r found other. tt;
        has_serial = λ f least. tt;
        lacks_bytes = λ f none. tt;
        stores_rot = λ t rotten. tt;
        stored = λ t sound. tt;
        acked = λ c p primary. acked_once c p;
        nacked = λ c p w primary waits. tt;
        nacked_late = λ c p primary. tt;
        orders = λ o new. tt;
        creates = λ c new none. tt;
        raised = λ c r new found same. tt;
        grants = λ c new holds. tt;
        revokes = λ c q new same. tt;
        revoked = λ c new apart. tt;
        drops = λ c r new found old. tt;
        clones = λ c new. tt;
        copied = λ c r new found same sound none. tt;
        copied_rot = λ c new. tt;
        extends = λ c q same. tt;
        installs = λ c pending fits none. tt;
      }

-- a step

ends_once : (s : ServerState) (d : ServerDoing) (choice : Choice) (e : Ending) → IsOnce d → NumbersOnce (server_ends s d choice e).seen
ends_once s d choice Goes h = h
ends_once s d choice Lost h = tt
ends_once s d choice (Stops made) h = once_filtered is_numbering d.seen h

pub step_once : (s : ServerState) (moment : ℕ) (i : NodeInput) (choice : Choice) → NumbersOnce (server_step s moment i choice).seen
step_once s moment i choice =
    on_cond (λ (t : Taken ServerState). NumbersOnce t.seen) s.up (server_ends s (server_goes s moment i) choice choice.ending) (no_step s)
    (λ _. ends_once s (server_goes s moment i) choice choice.ending (server_comes_to (λ d. NumbersOnce d.seen) s moment i (outcomes (server_at s moment) i))) (λ _. tt)
