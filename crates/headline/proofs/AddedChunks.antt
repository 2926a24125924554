-- Each chunk that a step of the master adds is asked for, by a call that may have it at the machine.
use Rattle.std.proofs.Common.{◌≡◌, ◌⊎◌, ℕ, zero, suc, ◌≤◌, ◌<◌, Bool, true, false, List, [], ◌∷◌, length, Option, Some, refl, sym, ap, subst, ◌∙◌, inl, inr, arith}
use Rattle.std.specs.Prelude.{◌==◌, ◌||◌, ◌&&◌, not, nat_lt, nat_le, is_some, IsTrue, IsFalse}
use Rattle.std.specs.List.{list_any}
use Rattle.std.specs.FinMap as table
use Rattle.std.proofs.lemmas.Bool.{and_parts, true≢false}
use Rattle.gfs_types.specs.declared.config.Config.{Config}
use Rattle.gfs_types.specs.declared.ids.FileId.{FileId}
use Rattle.gfs_types.specs.declared.ids.Moment.{Moment}
use Rattle.gfs_types.specs.Mutations.{end_of}
use Rattle.messages.specs.declared.event.NodeInput.{NodeInput}
use Rattle.messages.specs.declared.event.NodeInput.TheVariants as input
use Rattle.messages.specs.declared.message.Body.{Body}
use Rattle.messages.specs.declared.message.Body.TheVariants as body
use Rattle.messages.specs.declared.message.Message.{Message}
use Rattle.messages.specs.declared.message.Wanted.{Wanted}
use Rattle.messages.specs.declared.message.Wanted.TheVariants as wanted
use Rattle.log_records.specs.declared.record.Record.{Record}
use Rattle.log_records.specs.declared.record.Record.TheVariants as log
use Rattle.chunk_table.specs.ChunkTable.{file_of}
use Rattle.relaxed_file.specs.Order.{Entry}
use Rattle.relaxed_file.specs.Machine.{Machine, chunk_count, chunk_size, chunk_at}
use Rattle.relaxed_file.specs.Chunks.{is_last_chunk_full}
use Rattle.relaxed_file.specs.Run.{LeadsTo}
use Rattle.relaxed_file.proofs.Reached.{leads_on}
use Rattle.relaxed_file.proofs.Grows.{Grows, OrderGrows, grows_to, known_when_reached}
use Rattle.protocol.specs.Tables.{Table, element_at}
use Rattle.protocol.specs.Sending.{the_client}
use Rattle.protocol.specs.Logged.{Logged, LogDisk, LogChange, AppendRecord, WriteCheckpoint, log_changed}
use Rattle.protocol.specs.Master.{PendingSnapshot}
use Rattle.protocol.specs.MasterStep.{master_goes}
use Rattle.protocol.specs.Observer.{Placed}
use Rattle.relaxed_file.specs.Run as run
use Rattle.protocol.specs.World.{WorldState, new_world, IsReached}
use Rattle.laws_base.proofs.Entries.{AllOf}
use Rattle.laws_names.specs.NameTrails.{log_read}
use Rattle.laws_names.specs.Alike.{is_there}
use Rattle.laws_base.specs.Entries.{IsAmong}
use Rattle.laws_machine.specs.ChunksAlike.{ChunkSides}
use Rattle.laws_machine.specs.MasterSteps.{HaveSameFiles}
use Rattle.laws_machine.specs.RecordDues.{AreLogDues}
use Rattle.laws_machine.specs.SentRequests.{IsAskOf, IsRequestOf, AreRequestsOfCalls}
use Rattle.laws_machine.specs.WholeSteps.{IsChunkAskedFor, IsAskedFor, AreAskedFor, IsNoAskIn}
use Rattle.laws_machine.specs.WholeWorlds.{IsBeside}
use Rattle.laws_machine.proofs.RecordDues.{steps_log_what_is_due}
use Rattle.laws_machine.proofs.UnaskedAdds.{IsNoAdd, nothing_asked, only_asks_add_chunks}
use Rattle.laws_machine.proofs.WholeLogs.{states_have_their_logs_files}
use Rattle.headline.specs.AskedChunks.{IsForNext, AddsNoChunk, AddNoChunk, AddOneChunk, IsFullAt, AddedChunksAreAskedFor}
use Rattle.headline.proofs.FullAsks.{asks_are_full}
use Rattle.headline.proofs.AskSenders.{asks_come_from_clients}
use Rattle.headline.proofs.AskedAdds.{asks_add_the_next_chunk}
use Rattle.headline.proofs.AskedChunks.{asked_chunks_may_be_added}
use Rattle.machine_names.proofs.Effects.{same_collected}
use Rattle.relaxed_file.proofs.Known.{made_by_count}
use Rattle.headline.proofs.RequestsStay.{sizes_kept}

-- a full chunk stays full

or_on : (a b d : Bool) → (b ≡ true → d ≡ true) → a || b ≡ true → a || d ≡ true
or_on true b d go h = refl
or_on false b d go h = go h

full_order : (size : ℕ) (old new : List Entry) → OrderGrows old new → list_any (λ e. end_of e.mutation == size) old ≡ true → list_any (λ e. end_of e.mutation == size) new ≡ true
full_order size [] new grows h = absurd (true≢false (sym h))
full_order size (e ∷ old) [] grows h = absurd grows
full_order size (e ∷ old) (f ∷ new) grows h =
    ap (λ (b : Bool). b || list_any (λ x. end_of x.mutation == size) new) (sym (ap (λ m. end_of m == size) (grows.0).2))
    ∙ or_on (end_of e.mutation == size) (list_any (λ x. end_of x.mutation == size) old) (list_any (λ x. end_of x.mutation == size) new) (full_order size old new grows.1) h

full_stays : (m n : Machine) (file index : ℕ) → Grows m n → chunk_size n file ≡ chunk_size m file → IsFullAt m file index → IsFullAt n file index
full_stays m n file index grows same h =
    record {
      count = let low = h.count in let more = (grows.files file).count in omega (arith, low, more);
      full = subst (λ (size : ℕ). list_any (λ e. end_of e.mutation == size) (chunk_at n file index).order ≡ true) (sym same)
          (full_order (chunk_size m file) (chunk_at m file index).order (chunk_at n file index).order (((grows.files file).chunks index).order) h.full);
    }

last_full : (n : Machine) (file past count : ℕ) → count ≤ suc past → (past < count) → IsTrue (list_any (λ e. end_of e.mutation == chunk_size n file) (chunk_at n file past).order) → IsTrue (is_last_chunk_full n file count)
last_full n file past zero most low full = absurd (omega (arith, low))
last_full n file past (suc last) most low full =
    let same : past ≡ last = omega (arith, most, low) in subst (λ (q : ℕ). IsTrue (list_any (λ e. end_of e.mutation == chunk_size n file) (chunk_at n file q).order)) same full

none_full : (n : Machine) (file count : ℕ) → count ≤ 0 → IsTrue (is_last_chunk_full n file count)
none_full n file zero low = refl
none_full n file (suc last) low = absurd (omega (arith, low))

-- changes that add no chunk

one_none : (x : LogChange) → AddsNoChunk x → IsNoAdd x
one_none (AppendRecord (log.AddChunk file handle)) is = absurd is
one_none other is = tt

all_none : (xs : List LogChange) → AddNoChunk xs → AllOf IsNoAdd xs
all_none [] h = tt
all_none (x ∷ xs) h = (one_none x h.0, all_none xs h.1)

not_true : (b : Bool) → not b ≡ true → b ≡ false
not_true true h = absurd (true≢false (sym h))
not_true false h = refl

module _ (config : Config) (servers clients : ℕ) (w : WorldState) (r : IsReached config servers clients w) (clocks : IsTrue w.observer.are_clocks_kept) (up : IsTrue w.master.up) (ss : List PendingSnapshot) (k : ChunkSides) (beside : IsBeside config w ss k)
    (some : 1 ≤ config.chunk) (moment : ℕ) (refused : List Bool) (orders : Table (List Placed)) where
  -- a call of this client's Ask
  ask_of : (client place number : ℕ) (x : Message) (file : FileId) (what : Wanted) (deadline : Moment) (lost : Bool) → element_at w.sent place ≡ Some x → x.sender ≡ the_client client → x.body ≡ body.Ask number file what deadline lost
      → IsAskOf k.machine client file.0 what
  ask_of client place number x file what deadline lost at from is =
      let requests : AreRequestsOfCalls config w k.machine = beside.requests_are.0 in
      subst (λ (b : Body). IsRequestOf (new_world config requests.servers requests.clients) requests.steps k.machine client b) is
      (requests.each client place x (subst (λ (u : WorldState). element_at u.sent place ≡ Some x) (sym requests.leads) at) from)

  module _ (x : Message) (place client number : ℕ) (file : FileId) (what : Wanted) (deadline : Moment) (lost : Bool) (at : element_at w.sent place ≡ Some x) (from : x.sender ≡ the_client client) (is : x.body ≡ body.Ask number file what deadline lost) where
    abbrev Changes : List LogChange
    Changes = (master_goes w.master moment (input.Deliver x) refused).changes

    same_lists : HaveSameFiles w.master.logged (log_read w.master.disk)
    same_lists = ((states_have_their_logs_files config servers clients w r).0 up).0

    dues : AreLogDues w.master.disk Changes
    dues = steps_log_what_is_due config servers clients w r clocks up moment (input.Deliver x) refused

    -- beside a log that has the state's files
    chunk_asked : (handles : List ℕ) → file_of w.master.logged.table file.0 ≡ Some handles → IsForNext what (length handles) → (l : Logged) → l.table.files ≡ w.master.logged.table.files → IsChunkAskedFor k.machine orders l file.0
    chunk_asked handles there next l lists j n led log_is same whole has =
        asked_chunks_may_be_added config k.machine j.machine client file.0 what (beside.run.0, beside.run.1, beside.run.3) (ask_of client place number x file what deadline lost at from is) led
        (subst (λ (c : ℕ). IsForNext what c) (sym count) next) uncollected full
      where
        here : file_of j.log.table file.0 ≡ Some handles
        here = ap (λ (q : Logged). table.get q.table.files file.0) log_is ∙ ap (λ fs. table.get fs file.0) lists ∙ there

        count : chunk_count j.machine file.0 ≡ length handles
        count = ((whole.chunks).there file.0 handles here).count

        uncollected : IsFalse (j.machine.files file.0).is_collected
        uncollected =
            let known : is_there n file.0 ≡ true = sym (has file.0) ∙ ap (λ (o : Option (List ℕ)). is_some o) here in
            sym (same_collected j.machine n whole.names file.0) ∙ not_true (n.files file.0).is_collected (and_parts (nat_lt 0 file.0 && nat_le file.0 n.file_count) (not (n.files file.0).is_collected) known).1

        grows : Grows k.machine j.machine
        grows = grows_to k.machine j.machine led (known_when_reached config k.machine (beside.run.0, beside.run.1, beside.run.3))

        full : (index : ℕ) → what ≡ wanted.Append index → IsTrue (is_last_chunk_full j.machine file.0 (chunk_count j.machine file.0))
        full zero same_what =
            let low : length handles ≤ 0 = subst (λ (q : Wanted). IsForNext q (length handles)) same_what next in
            none_full j.machine file.0 (chunk_count j.machine file.0) (omega (arith, low, count))
        full (suc past) same_what =
            let low : length handles ≤ suc past = subst (λ (q : Wanted). IsForNext q (length handles)) same_what next in
            let was : IsFullAt k.machine file.0 past =
            asks_are_full config servers clients w r clocks some ss k beside client place number past x file deadline lost at from (is ∙ ap (λ (q : Wanted). body.Ask number file q deadline lost) same_what) in
            let reached : run.IsReached config k.machine = (beside.run.0, beside.run.1, beside.run.3) in
            let same = sizes_kept config k.machine j.machine reached led file.0 (made_by_count k.machine file.0 past (known_when_reached config k.machine reached) was.count) in
            let it : IsFullAt j.machine file.0 past = full_stays k.machine j.machine file.0 past grows same was in
            last_full j.machine file.0 past (chunk_count j.machine file.0) (omega (arith, low, count)) it.count it.full

    asked_for : AddNoChunk Changes ⊎ ((handles : List ℕ) × (file_of w.master.logged.table file.0 ≡ Some handles) × IsForNext what (length handles) × AddOneChunk file Changes) → AreAskedFor k.machine orders w.master.disk Changes
    asked_for (inl none) = nothing_asked k.machine orders Changes w.master.disk (all_none Changes none)
    asked_for (inr (handles, there, next, one)) = elim (one.is) [
      | inl first ↦ subst (λ (xs : List LogChange). AreAskedFor k.machine orders w.master.disk xs) (sym first) (
        chunk_asked handles there next (log_read w.master.disk) same_lists.lists,
        nothing_asked k.machine orders one.after (log_changed w.master.disk (AppendRecord (log.AddChunk file one.handle))) (all_none one.after one.no_more),
      )
      | inr checked ↦
          let again = subst (λ (xs : List LogChange). AreLogDues w.master.disk xs) checked.1 dues in
          let d : LogDisk = log_changed w.master.disk (WriteCheckpoint checked.0) in
          subst (λ (xs : List LogChange). AreAskedFor k.machine orders w.master.disk xs) (sym checked.1) (
            chunk_asked handles there next (log_read d) (((again.0).0).lists ∙ same_lists.lists),
            nothing_asked k.machine orders one.after (log_changed d (AppendRecord (log.AddChunk file one.handle))) (all_none one.after one.no_more),
          )
    ]

  by_body : (x : Message) (place client : ℕ) → element_at w.sent place ≡ Some x → x.sender ≡ the_client client → (b : Body) → x.body ≡ b → AreAskedFor k.machine orders w.master.disk (master_goes w.master moment (input.Deliver x) refused).changes
  by_body x place client at from (body.Ask number file what deadline lost) is =
      asked_for x place client number file what deadline lost at from is (asks_add_the_next_chunk w.master moment refused x number file what deadline lost is)
  by_body x place client at from other is = only_asks_add_chunks w.master moment (input.Deliver x) refused (subst (λ (b : Body). IsNoAskIn b) (sym is) tt) k.machine orders w.master.disk

  by_input : (i : NodeInput) → ((x : Message) → i ≡ input.Deliver x → IsAmong w.sent x) → AreAskedFor k.machine orders w.master.disk (master_goes w.master moment i refused).changes
  by_input input.Tick comes = only_asks_add_chunks w.master moment input.Tick refused tt k.machine orders w.master.disk
  by_input (input.Deliver x) comes =
      let came = comes x refl in
      elim (asks_come_from_clients config servers clients w r came.0 x came.1) [
        | inl none ↦ only_asks_add_chunks w.master moment (input.Deliver x) refused none k.machine orders w.master.disk
        | inr from ↦ by_body x came.0 from.0 came.1 from.1 x.body refl
      ]

-- what is asked for of a machine is so of each to which it leads

module _ (first m : Machine) (way : LeadsTo first m) (orders : Table (List Placed)) where
  one_later : (l : Logged) (x : Record) → IsAskedFor first orders l x → IsAskedFor m orders l x
  one_later l (log.AddChunk file handle) h = λ k n led. h k n (leads_on first m k.machine way led)
  one_later l other h = tt

  pub asked_later : (d : LogDisk) (xs : List LogChange) → AreAskedFor first orders d xs → AreAskedFor m orders d xs
  asked_later d [] h = tt
  asked_later d (AppendRecord x ∷ xs) h = (one_later (log_read d) x h.0, asked_later (log_changed d (AppendRecord x)) xs h.1)
  asked_later d (WriteCheckpoint items ∷ xs) h = asked_later (log_changed d (WriteCheckpoint items)) xs h

pub added_chunks_are_asked_for : AddedChunksAreAskedFor
added_chunks_are_asked_for config servers clients w r clocks up ss k beside some m way moment i refused comes orders =
    asked_later k.machine m way orders w.master.disk (master_goes w.master moment i refused).changes (by_input config servers clients w r clocks up ss k beside some moment refused orders i comes)
