-- Where the master refuses an Ask for its length, the call's range is too long at the machine beside the world, and no attempt of the call was made.
use Rattle.std.proofs.Common.{◌≡◌, ℕ, zero, suc, ◌+◌, ◌-◌, ◌*◌, ◌/◌, ◌<◌, ◌≤◌, Bool, true, false, true≢false, List, [], ◌∷◌, ◌++◌, length, Option, Some, refl, sym, ap, subst, ◌∙◌, inl, inr, arith}
use Rattle.std.specs.Prelude.{nat_lt, nat_le, not, ◌&&◌, ◌||◌, is_some, Contains, IsTrue, IsFalse}
use Rattle.std.proofs.lemmas.Bool.{and_parts, and_from, cases_lt, ltb-true, lt-ltb}
use Rattle.std.proofs.Math.Nat.{min-le_right}
use Rattle.gfs_types.specs.declared.config.Config.{Config}
use Rattle.gfs_types.specs.declared.call.Call.{Call}
use Rattle.gfs_types.specs.declared.call.Call.TheVariants as call
use Rattle.gfs_types.specs.declared.ids.DataId.{DataId}
use Rattle.gfs_types.specs.declared.ids.Fd.{Fd}
use Rattle.gfs_types.specs.declared.ids.FileId.{FileId}
use Rattle.gfs_types.specs.declared.ids.Handle.{Handle}
use Rattle.gfs_types.specs.declared.ids.Moment.{Moment}
use Rattle.gfs_types.specs.declared.ids.Version.{Version}
use Rattle.messages.specs.declared.event.Event.{Event}
use Rattle.messages.specs.declared.message.Body.{Body}
use Rattle.messages.specs.declared.message.Body.TheVariants as body
use Rattle.messages.specs.declared.message.Message.{Message}
use Rattle.messages.specs.declared.message.Target.{Target}
use Rattle.messages.specs.declared.message.Target.TheVariants as target
use Rattle.messages.specs.declared.message.Wanted.{Wanted}
use Rattle.messages.specs.declared.message.Wanted.TheVariants as wanted
use Rattle.relaxed_file.specs.Order.{CallId, Entry}
use Rattle.relaxed_file.specs.Parts.{has_part, part_start, part_end, is_range_too_long}
use Rattle.relaxed_file.specs.Machine.{Machine, Asked, Chunk, OpenCall, chunk_count, chunk_size}
use Rattle.relaxed_file.specs.Answers.{is_too_long, HasSuccess, IsWrite}
use Rattle.relaxed_file.specs.Run as run
use Rattle.relaxed_file.proofs.AskedFor.{open_is_made}
use Rattle.relaxed_file.proofs.Grows.{known_when_reached}
use Rattle.relaxed_file.proofs.Known.{Known}
use Rattle.relaxed_file.proofs.Tables.{contained}
use Rattle.chunk_table.specs.ChunkTable.{file_of}
use Rattle.client_state.specs.declared.call.CurrentCall.{CurrentCall}
use Rattle.client_state.specs.declared.call.Stage.{Stage}
use Rattle.client_state.specs.declared.call.Stage.TheVariants.{AskedWhere}
use Rattle.protocol.specs.Tables.{element_at}
use Rattle.protocol.specs.Sending.{the_client}
use Rattle.protocol.specs.Choice.{Choice}
use Rattle.protocol.specs.Client.{ClientState, file_chunk}
use Rattle.protocol.specs.ClientAttempts.{wanted_by}
use Rattle.protocol.specs.Logged.{Logged}
use Rattle.protocol.specs.Master.{PendingSnapshot}
use Rattle.protocol.specs.Observer.{calls_made}
use Rattle.protocol.specs.World.{WorldState, new_world, stamped, happens, after_events, IsReached}
use Rattle.laws_base.proofs.Steps.{same_some}
use Rattle.laws_base.proofs.Entries.{same_number}
use Rattle.laws_base.proofs.MembersRecorded.{kept_place}
use Rattle.laws_base.proofs.MessagesSent.{IsSent, sent_after}
use Rattle.laws_base.specs.Attempts.{is_request}
use Rattle.laws_base.specs.FewAttempts.{WasAsked, part_of}
use Rattle.laws_base.specs.FileCalls.{IsOfFile}
use Rattle.laws_base.proofs.Events.{holds_after}
use Rattle.laws_base.proofs.Histories.{steps_grown}
use Rattle.laws_base.proofs.ReadAnswers.{one_request}
use Rattle.laws_base.proofs.RequestsOnce.{requests_are_numbered_once}
use Rattle.laws_machine.specs.AnsweredWrites.{IsToldChunk}
use Rattle.laws_machine.specs.ToldIndexes.{IsAskFor}
use Rattle.laws_machine.proofs.AskedIndexes.{asks_are_for_the_part_in_hand}
use Rattle.laws_names.specs.Alike.{is_there}
use Rattle.laws_machine.specs.ChunksAlike.{ChunkSides}
use Rattle.laws_machine.specs.FileClients.{id_of, IsDoneSoFar, IsFileCall, IsCallAlike, IsFileOpen}
use Rattle.laws_machine.specs.SentRequests.{IsPartTo, IsAttemptOf, IsRequestOf, AreRequestsOf, IsRefusedCall}
use Rattle.laws_machine.specs.WholeWorlds.{IsBeside}
use Rattle.laws_machine.proofs.CountedCalls.{calls_are_counted}
use Rattle.laws_machine.proofs.ClientFiles.{clients_files_are_open}
use Rattle.laws_machine.proofs.FileWalk.{open_size}
use Rattle.laws_machine.specs.ToldShapes.{IsMadeWith}
use Rattle.laws_machine.proofs.Parts.{none_below, none_beyond, first_there, none_of_nothing}
use Rattle.headline.proofs.AskedOnce.{Sends, each_sends, asked_once}
use Rattle.headline.proofs.CountsBefore.{HasCount, counts_are_before}
use Rattle.headline.proofs.LiveAttempts.{LivesWereTold, lives_were_told}
use Rattle.headline.proofs.RefusalEvents.{IsShortFor}
use Rattle.headline.proofs.SentNow.{stamped_sent}
use Rattle.machine_names.proofs.Effects.{same_collected}

-- parts

some_size : (size offset count index : ℕ) → has_part size offset count index ≡ true → 1 ≤ size
some_size size offset count index has =
    let inside = ltb-true (part_start size offset index) (part_end size offset count index) has in
    let most = min-le_right ((offset + count) - index * size) size in
    omega (arith, inside, most)

some_count : (size offset count index : ℕ) → has_part size offset count index ≡ true → 1 ≤ count
some_count size offset zero index has = absurd (none_of_nothing size offset 0 index refl has)
some_count size offset (suc count) index has = omega arith

-- a part has one before it, but for the first one
part_before : (size offset count index : ℕ) → has_part size offset count (suc index) ≡ true → offset / size ≤ index → has_part size offset count index ≡ true
part_before size offset count index has low = by_index index refl
  where
    at_first : index ≡ offset / size → has_part size offset count index ≡ true
    at_first is = ap (λ (i : ℕ). has_part size offset count i) is ∙ first_there size offset count (some_size size offset count (suc index) has) (some_count size offset count (suc index) has)

    by_test : (j : ℕ) → index ≡ suc j → offset / size ≤ j → (b : Bool) → has_part size offset count (suc j) ≡ b → has_part size offset count index ≡ true
    by_test j is below true there = ap (λ (i : ℕ). has_part size offset count i) is ∙ there
    by_test j is below false none = let past = none_beyond size offset count j (suc index) below none has in absurd (omega (arith, past, is))

    by_index : (i : ℕ) → index ≡ i → has_part size offset count index ≡ true
    by_index zero is = at_first (omega (arith, is, low))
    by_index (suc j) is = elim (cases_lt j (offset / size)) [
      | inl above ↦ at_first (omega (arith, is, low, above))
      | inr below ↦ by_test j is below (has_part size offset count (suc j)) refl
    ]

too_long : (size count offset : ℕ) (bytes : List ℕ) (fd : Fd) → 1 ≤ length bytes → count < offset / size → is_too_long size (Some count) (call.Write fd offset bytes) ≡ true
too_long size count offset bytes fd some low =
    or_second (is_range_too_long offset (length bytes)) (nat_lt 0 (length bytes) && nat_lt count (offset / size)) (and_from (nat_lt 0 (length bytes)) (nat_lt count (offset / size)) (lt-ltb 0 (length bytes) some) (lt-ltb count (offset / size) low))
  where
    or_second : (a b : Bool) → b ≡ true → a || b ≡ true
    or_second true b h = refl
    or_second false b h = h

-- what an Ask says

abbrev file_in : Body → FileId
file_in (body.Ask number file what deadline lost) = file
file_in other = record { 0 = 0 }

abbrev what_in : Body → Wanted
what_in (body.Ask number file what deadline lost) = what
what_in other = wanted.Last

abbrev index_in : Wanted → ℕ
index_in (wanted.Write index) = index
index_in other = 0

abbrev is_for_write : Wanted → Bool
is_for_write (wanted.Write index) = true
is_for_write other = false

-- the attempt was sent

pub record IsMutateOf (sent : List Message) (client number : ℕ) : Type 0 where
  pub place : ℕ
  pub message : Message
  pub id : DataId
  pub handle : Handle
  pub version : Version
  pub aim : Target
  pub deadline : Moment
  pub is : element_at sent place ≡ Some message
  pub sender_is : message.sender ≡ the_client client
  pub body_is : message.body ≡ body.Mutate id handle version aim deadline
  pub number_is : id.seq ≡ number

was_sent : (index : ℕ) (w : WorldState) (steps : List (Event × Choice)) (made : ℕ) (part : Option ℕ) (number : ℕ) → WasAsked index w steps made part number → IsMutateOf (after_events w steps).sent (suc index) number
was_sent index w [] made part number was = absurd was
was_sent index w (step ∷ rest) made part number (inr later) = was_sent index (happens w step.0 step.1).world rest made part number later
was_sent index w (step ∷ rest) made part number (inl now) =
    record {
      place = (there.1).0;
      message = there.0;
      id = now.id;
      handle = now.handle;
      version = now.version;
      aim = now.aim;
      deadline = now.deadline;
      is = subst (λ (ms : List Message). element_at ms (there.1).0 ≡ Some there.0) (sym grown.1) (kept_place (happens w step.0 step.1).world.sent grown.0 (there.1).0 there.0 (there.1).1);
      sender_is = (there.2).0 ∙ now.sender_is;
      body_is = (there.2).1 ∙ now.body_is;
      number_is = now.number_is;
    }
  where
    sends : Sends w (happens w step.0 step.1)
    sends = holds_after w (λ f x. Sends w x) (each_sends w) step.0 step.1

    grown : (more : List Message) × ((after_events (happens w step.0 step.1).world rest).sent ≡ (happens w step.0 step.1).world.sent ++ more)
    grown = steps_grown (happens w step.0 step.1).world rest

    there : (x : Message) × IsSent (happens w step.0 step.1).world.sent x × ((x.sender ≡ now.asked.sender) × (x.body ≡ now.asked.body))
    there =
        let x = stamped_sent sends.0 (happens w step.0 step.1).out.sent now.asked now.place now.sent_is in
        (x.0, subst (λ (ms : List Message). IsSent ms x.0) (sym sends.1) (sent_after w.sent (stamped sends.0 (happens w step.0 step.1).out.sent) x.0 x.1), ((x.2).0, (x.2).2))

not_true : (b : Bool) → not b ≡ true → b ≡ false
not_true true h = absurd (true≢false (sym h))
not_true false h = refl

module _ (config : Config) (servers clients : ℕ) (steps : List (Event × Choice)) (ss : List PendingSnapshot) (k : ChunkSides) (beside : IsBeside config (after_events (new_world config servers clients) steps) ss k)
    (index : ℕ) (s : ClientState) (at : element_at (after_events (new_world config servers clients) steps).clients index ≡ Some s) (up : IsTrue s.up)
    (x : CurrentCall) (current : s.current ≡ Some x) (number : ℕ) (staged : x.stage ≡ AskedWhere number)
  where
    abbrev Start : WorldState
    Start = new_world config servers clients

    abbrev W : WorldState
    W = after_events (new_world config servers clients) steps

    abbrev m : Machine
    m = k.machine

    abbrev made : ℕ
    made = calls_made W.observer.trace (suc index)

    r : IsReached config servers clients W
    r = (steps, refl)

    reached : run.IsReached config m
    reached = (beside.run.0, beside.run.1, beside.run.3)

    known : Known m
    known = known_when_reached config m reached

    pub opened : (o : OpenCall) × IsFileCall m (suc index) x o
    opened = elim (subst (λ (o : Option CurrentCall). IsCallAlike m (suc index) o) current (beside.files index s at up).call) [
      | inl naming ↦ absurd (subst (λ (st : Stage). IsOfFile st) naming (subst (λ (st : Stage). IsOfFile st) (sym staged) tt))
      | inr there ↦ there
    ]

    abbrev pub o : OpenCall
    o = opened.0

    abbrev pub f : IsFileCall m (suc index) x opened.0
    f = opened.1

    pub call_made : (m.clients (suc index)).calls made ≡ Some o.asked
    call_made =
        ap (λ (n : ℕ). (m.clients (suc index)).calls n) (sym ((calls_are_counted config W.observer.trace m beside.run (suc index)).1 o f.is_open)) ∙ open_is_made m (suc index) o known f.is_open

    -- the client has the call's file open as the machine has it
    row : IsFileOpen s x.file.0
    row = (clients_files_are_open config servers clients W r index s at).call x current (subst (λ (st : Stage). IsOfFile st) (sym staged) tt)

    opened_as : IsMadeWith m x.file.0 (row.0).shape
    opened_as = (beside.files index s at up).shapes x.file.0 row.0 row.1

    pub file_made : x.file.0 ≤ m.file_count
    file_made = opened_as.0

    abbrev Size : ℕ
    Size = chunk_size m x.file.0

    size_is : file_chunk s x.file.0 ≡ Size
    size_is = open_size m s x.file.0 row.0 row.1 opened_as

    module _ (short : IsShortFor (after_events (new_world config servers clients) steps) (the_client (suc index)) number) (awake : IsTrue (after_events (new_world config servers clients) steps).master.up)
        (requests : AreRequestsOf (new_world config servers clients) steps k.machine) where
      ask : IsAskFor W.sent (suc index) x number
      ask = asks_are_for_the_part_in_hand config servers clients W r index s at x number current staged

      one : ask.ask ≡ short.ask
      one =
          one_request W.sent (suc index) number (requests_are_numbered_once config servers clients W r (suc index) number).0 ask.ask short.ask ask.sent_is ask.sender_is
          (ap (λ (b : Body). is_request number b) ask.body_is ∙ same_number number) short.sent_is short.sender_is (ap (λ (b : Body). is_request number b) short.body_is ∙ same_number number)

      same_body : body.Ask number x.file (wanted_by x.index x.asked) ask.deadline ask.lost ≡ body.Ask number short.file (wanted.Write short.index) short.deadline short.lost
      same_body = sym ask.body_is ∙ ap (λ (y : Message). y.body) one ∙ short.body_is

      file_same : x.file ≡ short.file
      file_same = ap file_in same_body

      what_same : wanted_by x.index x.asked ≡ wanted.Write short.index
      what_same = ap what_in same_body

      log_is : k.log ≡ W.master.logged
      log_is = elim (beside.chunks.log) [
        | inl there ↦ there.1
        | inr down ↦ absurd (true≢false (sym awake ∙ down.0))
      ]

      here : file_of k.log.table x.file.0 ≡ Some short.handles
      here = ap (λ (l : Logged). file_of l.table x.file.0) log_is ∙ ap (λ (g : FileId). file_of W.master.logged.table g.0) file_same ∙ short.list_is

      count : chunk_count m x.file.0 ≡ length short.handles
      count = (beside.chunks.alike.there x.file.0 short.handles here).count

      uncollected : IsFalse (m.files x.file.0).is_collected
      uncollected =
          let there : is_there beside.names x.file.0 ≡ true = sym (beside.named.alike.files x.file.0) ∙ ap (λ (l : Option (List ℕ)). is_some l) here in
          sym (same_collected m beside.names beside.same x.file.0)
          ∙ not_true (beside.names.files x.file.0).is_collected (and_parts (nat_lt 0 x.file.0 && nat_le x.file.0 beside.names.file_count) (not (beside.names.files x.file.0).is_collected) there).1

      counted : HasCount m o.asked x.file.0
      counted = counts_are_before config m reached (suc index) o x.file.0 f.is_open f.file_is uncollected

      -- a chunk that was told is there
      told_low : (place handle round : ℕ) → IsToldChunk W.sent (suc index) x.file.0 place handle round → place < chunk_count m x.file.0
      told_low place handle round t = let low = ((beside.chunks.holders (suc index) x.file.0 t.location t.told).round).stands.count in let same = t.index_is in omega (arith, low, same)

      -- so is one in which a part is settled
      settled_low : (place : ℕ) → HasSuccess m (suc index) (id_of (suc index) o) x.file.0 place IsWrite → place < chunk_count m x.file.0
      settled_low place h = elim (cases_lt place (chunk_count m x.file.0)) [
        | inl low ↦ low
        | inr high ↦ absurd (contained (λ (e : Entry). ⊥) [] h.2 tt (subst (λ (c : Chunk). Contains c.order h.2) (known.files x.file.0 place high) h.3))
      ]

      module _ (fd : Fd) (offset : ℕ) (bytes : List ℕ) (asked_is : x.asked ≡ call.Write fd offset bytes) where
        index_is : x.index ≡ short.index
        index_is = ap index_in (sym (ap (λ (c : Call). wanted_by x.index c) asked_is) ∙ what_same)

        low : chunk_count m x.file.0 < x.index
        low = let one = short.low in omega (arith, one, index_is, count)

        done : IsDoneSoFar m (id_of (suc index) o) x.file.0 x.index x.bytes x.rounds o.pieces (call.Write fd offset bytes)
        done = subst (λ (c : Call). IsDoneSoFar m (id_of (suc index) o) x.file.0 x.index x.bytes x.rounds o.pieces c) asked_is f.done

        first_of : (i : ℕ) → x.index ≡ i → i ≤ offset / Size
        first_of zero is = omega arith
        first_of (suc e) is = elim (cases_lt e (offset / Size)) [
          | inl past ↦ omega (arith, past)
          | inr before ↦
              let has = part_before Size offset (length bytes) e (ap (λ (i : ℕ). has_part Size offset (length bytes) i) (sym is) ∙ done.1) before in
              let there = settled_low e (done.2 e (omega (arith, is)) has) in
              absurd (omega (arith, there, low, is))
        ]

        first : x.index ≤ offset / Size
        first = first_of x.index refl

        long : is_too_long Size o.asked.chunks_before o.asked.call ≡ true
        long =
            ap (λ (c : Option ℕ). is_too_long Size c o.asked.call) counted.1 ∙ ap (λ (c : Call). is_too_long Size (Some counted.0) c) (f.call_is ∙ asked_is)
            ∙ too_long Size counted.0 offset bytes fd (some_count Size offset (length bytes) x.index done.1) (let few = counted.2 in omega (arith, few, low, first))

        none_live : x.live ≡ []
        none_live =
            elim ((subst (λ (c : Call). LivesWereTold W.sent (suc index) Size c x.file.0 x.index x.live) asked_is
            (subst (λ (n : ℕ). LivesWereTold W.sent (suc index) n x.asked x.file.0 x.index x.live) size_is (lives_were_told config servers clients W r index s at x number current staged))).1) [
              | inl none ↦ none
              | inr told ↦ absurd (let there = told_low told.0 told.1 told.2 told.4 in let past = told.3 in omega (arith, there, past, low, first))
            ]

        part_in : (id : CallId) (file place : ℕ) (aim : Target) → IsPartTo m id file place (call.Write fd offset bytes) aim → has_part (chunk_size m file) offset (length bytes) place ≡ true
        part_in id file place (target.Write to) h = h.1
        part_in id file place other h = absurd h

        none_of : (part : Option ℕ) (q : ℕ) → WasAsked index Start steps made part q → IsMutateOf W.sent (suc index) q → ⊥
        none_of part q was y = absurd (let there = told_low a.place y.handle.0 y.version.0 told in let past = none_below Size offset (length bytes) a.place has in omega (arith, there, past, low, first))
          where
            a : IsAttemptOf Start steps m (suc index) y.id y.handle y.version y.aim
            a = subst (λ (b : Body). IsRequestOf Start steps m (suc index) b) y.body_is (requests (suc index) y.place y.message y.is y.sender_is)

            same_index : a.index ≡ index
            same_index = let same = a.client_is in omega (arith, same)

            same_call : a.number ≡ made
            same_call =
                (asked_once config servers clients steps index a.number (part_of a.of_call.asked.call a.place) made part q
                (subst (λ (n : ℕ). WasAsked index Start steps a.number (part_of a.of_call.asked.call a.place) n) y.number_is
                (subst (λ (i : ℕ). WasAsked i Start steps a.number (part_of a.of_call.asked.call a.place) y.id.seq) same_index a.was_asked)) was).0

            asked_same : a.of_call.asked ≡ o.asked
            asked_same = same_some a.of_call.asked o.asked (sym a.of_call.made ∙ ap (λ (n : ℕ). (m.clients (suc index)).calls n) same_call ∙ call_made)

            file_is : a.file ≡ x.file.0
            file_is = same_some a.file x.file.0 (sym a.of_call.file_is ∙ ap (λ (c : Asked). c.file) asked_same ∙ f.file_is)

            has : has_part Size offset (length bytes) a.place ≡ true
            has =
                subst (λ (g : ℕ). has_part (chunk_size m g) offset (length bytes) a.place ≡ true) file_is (part_in (record { client = suc index; number = a.number }) a.file a.place y.aim
                (subst (λ (c : Call). IsPartTo m (record { client = suc index; number = a.number }) a.file a.place c y.aim) (ap (λ (c : Asked). c.call) asked_same ∙ f.call_is ∙ asked_is) a.part))

            told : IsToldChunk W.sent (suc index) x.file.0 a.place y.handle.0 y.version.0
            told = subst (λ (g : ℕ). IsToldChunk W.sent (suc index) g a.place y.handle.0 y.version.0) file_is a.told

        of_write : IsRefusedCall Start steps m index x
        of_write =
            record {
              long = λ asked is. subst (λ (c : Asked). is_too_long Size c.chunks_before c.call ≡ true) (same_some o.asked asked (sym call_made ∙ is)) long;
              none_live = none_live;
              none_asked = λ part q was. none_of part q was (was_sent index Start steps made part q was);
            }

      by_call : (c : Call) → x.asked ≡ c → IsRefusedCall Start steps m index x
      by_call (call.Write fd offset bytes) is = of_write fd offset bytes is
      by_call (call.Append fd bytes) is = absurd (true≢false (sym (ap is_for_write (sym (ap (λ (c : Call). wanted_by x.index c) is) ∙ what_same))))
      by_call (call.Read fd offset most) is = absurd (true≢false (sym (ap is_for_write (sym (ap (λ (c : Call). wanted_by x.index c) is) ∙ what_same))))
      by_call other is = absurd (true≢false (sym (ap is_for_write (sym (ap (λ (c : Call). wanted_by x.index c) is) ∙ what_same))))

      pub refused_now : IsRefusedCall Start steps m index x
      refused_now = by_call x.asked refl
