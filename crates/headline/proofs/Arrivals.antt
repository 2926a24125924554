-- Where the whole machine has followed the master to a log, it is beside the world after the event.
use Rattle.std.proofs.Common.{◌≡◌, ◌⊎◌, ℕ, ◌<◌, ◌≤◌, true, false, max, List, [], ◌∷◌, ◌++◌, refl, sym, subst, ◌∙◌, inl, inr, arith}
use Rattle.std.specs.Prelude.{IsTrue}
use Rattle.std.specs.List.{AllByRecursion, list_all}
use Rattle.std.proofs.lemmas.Bool.{and_parts}
use Rattle.std.proofs.Math.Nat.{le-max_left}
use Rattle.gfs_types.specs.declared.config.Config.{Config}
use Rattle.messages.specs.declared.event.Event.{Event}
use Rattle.messages.specs.declared.message.Message.{Message}
use Rattle.relaxed_file.specs.Order.{CallId}
use Rattle.relaxed_file.specs.Machine.{Machine, FileState, new_machine, chunk_at, chunk_count}
use Rattle.relaxed_file.specs.Chunks.{tries_in}
use Rattle.relaxed_file.specs.Run.{Action, Step, FindBusy, FindFull, Lock, Expire, Add, OpenRound, CloseRound, Tell, Visible, after, after_all, IsLawful, IsReached, IsRunTo, LeadsTo}
use Rattle.relaxed_file.proofs.Reached.{leads_on, leads_by}
use Rattle.relaxed_file.proofs.Grows.{known_when_reached}
use Rattle.machine_names.specs.NameProjections.{AreNamesOf}
use Rattle.machine_names.specs.UnseenRuns.{IsLeft}
use Rattle.protocol.specs.Choice.{Choice}
use Rattle.protocol.specs.Logged.{Logged}
use Rattle.protocol.specs.Master.{PendingSnapshot}
use Rattle.protocol.specs.Client.{ClientState}
use Rattle.protocol.specs.World as world
use Rattle.protocol.specs.World.{WorldState, happens}
use Rattle.protocol_invariant.specs.Actions.{Spot}
use Rattle.laws_base.specs.Laws.{grants_of}
use Rattle.laws_base.specs.Versions.{IsLeaseOver}
use Rattle.laws_names.specs.Beside.{IsNamesBeside, AreClientsBeside}
use Rattle.laws_names.proofs.BesideClientsBeside.{passed_trace, all_on, settings_of}
use Rattle.laws_names.proofs.Masters.{passed_last}
use Rattle.laws_machine.specs.ChunksAlike.{ChunkSides, IsRoundOpen, AreChunksAlike, KeepsRounds, NoneEnds}
use Rattle.laws_machine.proofs.Plain.{other_changes_keep_chunks}
use Rattle.laws_machine.specs.MasterSteps.{IsWhole, is_of_master, HasFilesOf}
use Rattle.laws_machine.specs.Rounds.{IsLogOf, IsEnded, SentGrantsAreOpen}
use Rattle.laws_machine.specs.Tries.{HasNoMoreTries}
use Rattle.laws_machine.specs.FileClientsStay.{IsOfOthers}
use Rattle.laws_machine.specs.ChunksBeside.{AreChunksBeside, IsMastersEvent}
use Rattle.laws_machine.specs.MastersEvents.{is_offer, AreOffersSo, IsGoneFrom}
use Rattle.laws_machine.specs.WholeWorlds.{AreWordsSo, AreFileClients, IsBeside, HasMachine}
use Rattle.laws_machine.proofs.FileClientsStay.{file_clients_stay}
use Rattle.laws_machine.proofs.MasterKept.{rounds_both}
use Rattle.laws_machine.proofs.ChunksBeside.{same_files_keep_chunks_beside, masters_events_keep_chunks_beside}
use Rattle.laws_machine.proofs.WholeMoves.{AllStay, IsQuiet, GoesQuietly, quiet_run, run_goes_unseen, PassesBoth, both_pass}
use Rattle.laws_machine.proofs.WholeWorlds.{files_stay, words_stay, more_words}
use Rattle.headline.proofs.OfferWords.{files_at_both}
use Rattle.headline.proofs.QuietTries.{quiet_actions_add_no_tries}
use Rattle.headline.proofs.RequestsNumbered.{events_keep_requests_numbered}
use Rattle.headline.specs.MasterEvents.{HoldersGoOnWhere}
use Rattle.headline.proofs.KeptEntries.{trimmed, trimmed_alike, trimmed_gone, trimmed_below, trimmed_open}
use Rattle.headline.proofs.Moves.{Moves}
use Rattle.headline.proofs.OrdersStay.{FilesStay, orders_stay}
use Rattle.laws_machine.proofs.ToldShapes.{shapes_on}
use Rattle.laws_machine.proofs.RoundSizes.{sizes_on}
use Rattle.headline.proofs.GrantedSizes.{granted_size_is_open}
use Rattle.laws_machine.specs.RoundSizes.{AreRoundsSized}
use Rattle.machine_names.proofs.Effects.{same_shape}

-- clients stay as the machine follows the master

of_others : (a : Action) → is_of_master a ≡ true → (client : ℕ) → IsOfOthers client a
of_others (Step client moment outcome) of q = tt
of_others (FindBusy client holder) of q = tt
of_others (FindFull client) of q = tt
of_others (Lock client) of q = tt
of_others (Expire file moment) of q = tt
of_others (Add id) of q = tt
of_others (OpenRound file index round) of q = tt
of_others (CloseRound file index) of q = tt
of_others other of q = absurd (let no : false ≡ true = of in cc)

pub master_stays : (config : Config) (m : Machine) (actions : List Action) → IsReached config m → IsLawful m actions → list_all is_of_master actions ≡ true → AllStay m (after_all m actions)
master_stays config m [] reached lawful of = λ client s h. (h, λ i firm said. said)
master_stays config m (a ∷ rest) reached lawful of =
    let first = and_parts (is_of_master a) (list_all is_of_master rest) of in
    let more = master_stays config (after m a) rest (leads_on (new_machine config) m (after m a) reached (leads_by m a lawful.0)) lawful.1 first.1 in
    λ client s h.
    let one = file_clients_stay config m reached a lawful.0 client (of_others a first.0 client) s h in
    let two = more client s one.0 in
    (two.0, λ i firm said. two.1 i firm (one.1 i firm said))

-- offers

offers_quiet : (actions : List Action) → list_all is_offer actions ≡ true → AllByRecursion IsQuiet actions
offers_quiet [] of = tt
offers_quiet (Tell client file index ∷ rest) of = ((refl, refl, λ q. tt), offers_quiet rest of)
offers_quiet (other ∷ rest) of = absurd (let no : false ≡ true = of in cc)

offers_leave : (m : Machine) (actions : List Action) → list_all is_offer actions ≡ true → ((after_all m actions).config ≡ m.config) × ((after_all m actions).files ≡ m.files)
offers_leave m [] of = (refl, refl)
offers_leave m (Tell client file index ∷ rest) of = offers_leave (after m (Tell client file index)) rest of
offers_leave m (other ∷ rest) of = absurd (let no : false ≡ true = of in cc)

all_stay_on : (m n o : Machine) → AllStay m n → AllStay n o → AllStay m o
all_stay_on m n o first second = λ client s h.
    let one = first client s h in
    let two = second client s one.0 in
    (two.0, λ i firm said. two.1 i firm (one.1 i firm said))

module _ (config : Config) (servers clients : ℕ) (w : WorldState) (r : world.IsReached config servers clients w) (e : Event) (choice : Choice) (clocks : IsTrue (happens w e choice).world.observer.are_clocks_kept)
    (ss : List PendingSnapshot) (k : ChunkSides) (h : IsBeside config w ss k) (moment : ℕ)
  where
    abbrev v : WorldState
    v = (happens w e choice).world

    abbrev trace : List Visible
    trace = passed_trace w.observer.greatest moment w.observer.trace

    abbrev greatest : ℕ
    greatest = max w.observer.greatest moment

    -- once the moment has passed
    pub passes : PassesBoth config w.observer.trace w.observer.greatest w.sent k.log ss k.machine h.names h.requests h.named h.same h.run trace greatest
    passes = both_pass config w.observer.trace w.observer.greatest w.sent k.log ss k.machine h.names h.requests h.named h.same h.run moment

    abbrev pub here : ChunkSides
    here = record k { machine = passes.whole }

    pub chunks_here : AreChunksBeside config w here
    chunks_here = same_files_keep_chunks_beside config w k passes.whole h.chunks passes.settings passes.files

    pub whole_here : IsWhole here passes.names
    whole_here = record { names = passes.same; chunks = chunks_here.alike; below = h.below }

    pub open_here : KeepsRounds NoneEnds k here
    open_here = (other_changes_keep_chunks k here h.chunks.alike (record { lists = refl; grants = λ handle. refl; next = omega arith; gone = refl; orders = refl; files = passes.files })).rounds

    -- The machine has followed to this log, with these snapshots.
    pub record Arrives (l : Logged) (others : List PendingSnapshot) : Type 0 where
      pub sides : ChunkSides
      pub names : Machine
      pub log : sides.log ≡ l
      pub is_log : IsLogOf v.master l
      pub orders : sides.orders ≡ v.observer.orders
      pub moves : Moves (IsEnded w v) here sides names
      pub granted : SentGrantsAreOpen w v sides
      pub named : IsNamesBeside config v.observer.trace v.observer.greatest v.sent l others names h.requests
      pub left : (q : ℕ) → IsLeft (passes.names.clients q) (names.clients q)
      pub clients_are : v.clients ≡ w.clients
      pub trace_is : v.observer.trace ≡ trace
      pub greatest_is : v.observer.greatest ≡ greatest
      pub messages : List Message
      pub sent : v.sent ≡ w.sent ++ messages

    module _ (kept : IsTrue w.observer.are_clocks_kept) (masters : IsMastersEvent w e) (holders : HoldersGoOnWhere config w v) (l : Logged) (others : List PendingSnapshot) (a : Arrives l others)
        (offers : (j : ChunkSides) → LeadsTo k.machine j.machine → IsRunTo config v.observer.trace j.machine → AreChunksBeside config v j → HasFilesOf j.log j.machine → AreFileClients w.clients j.machine → AreOffersSo w v j.machine)
      where
        abbrev before : IsReached config k.machine
        before = (h.run.0, h.run.1, h.run.3)

        reached_here : IsReached config passes.whole
        reached_here = leads_on (new_machine config) k.machine passes.whole before passes.leads

        abbrev j : ChunkSides
        j = a.sides

        goes : LeadsTo passes.whole j.machine
        goes = (a.moves.comes.actions, a.moves.comes.lawful, a.moves.comes.leads)

        leads : LeadsTo k.machine j.machine
        leads = leads_on k.machine passes.whole j.machine passes.leads goes

        run_here : IsRunTo config trace j.machine
        run_here = subst (λ (m : Machine). IsRunTo config trace m) a.moves.comes.leads (run_goes_unseen config trace passes.whole a.moves.comes.actions passes.run a.moves.comes.lawful a.moves.comes.unseen)

        run : IsRunTo config v.observer.trace j.machine
        run = subst (λ (t : List Visible). IsRunTo config t j.machine) (sym a.trace_is) run_here

        stays : AllStay k.machine j.machine
        stays = all_stay_on k.machine passes.whole j.machine passes.stays
            (subst (λ (m : Machine). AllStay passes.whole m) a.moves.comes.leads
            (master_stays config passes.whole a.moves.comes.actions reached_here a.moves.comes.lawful a.moves.comes.of_master))

        keeps : KeepsRounds (IsEnded w v) k (trimmed j)
        keeps handle version s was_open =
            elim (rounds_both NoneEnds (IsEnded w v) (IsEnded w v) k here j (λ q none. absurd none) (λ q over. over) open_here a.moves.comes.rounds handle version s was_open) [
              | inl over ↦ inl over
              | inr still ↦ inr (trimmed_open j handle version s still)
            ]

        settings : j.machine.config ≡ config
        settings = sym a.moves.comes.whole.names.config ∙ settings_of config v.observer.trace v.observer.greatest v.sent l others a.names h.requests a.named

        is_log : IsLogOf v.master j.log
        is_log = subst (λ (x : Logged). IsLogOf v.master x) (sym a.log) a.is_log

        alike : AreChunksAlike (trimmed j)
        alike = trimmed_alike j a.moves.comes.whole.chunks

        granted : SentGrantsAreOpen w v (trimmed j)
        granted place m order handle version end_moment members from at is =
            let found = a.granted place m order handle version end_moment members from at is in
            (found.0, trimmed_open j handle.0 version.0 found.0 found.1)

        gone : IsGoneFrom k (trimmed j)
        gone handle s is = a.moves.gone handle s (trimmed_below j handle s is)

        stays_here : FilesStay passes.whole.files j.machine.files
        stays_here = subst (λ (m : Machine). FilesStay passes.whole.files m.files) a.moves.comes.leads
            (orders_stay passes.whole a.moves.comes.actions (known_when_reached config passes.whole reached_here) a.moves.comes.lawful a.moves.comes.of_master)

        orders : (file index : ℕ) → index < chunk_count k.machine file → (index < chunk_count j.machine file) × ((chunk_at j.machine file index).order ≡ (chunk_at k.machine file index).order)
        orders = subst (λ (f : ℕ → FileState). FilesStay f j.machine.files) passes.files stays_here

        chunks : AreChunksBeside config v (trimmed j)
        chunks =
            masters_events_keep_chunks_beside config servers clients w r e choice clocks k (trimmed j) h.chunks settings is_log a.orders alike (trimmed_gone j) keeps granted masters
            (holders ss k (trimmed j) h settings is_log a.orders alike (trimmed_gone j) keeps granted gone orders a.moves.next)

        files : AreFileClients w.clients j.machine
        files = files_stay k.machine j.machine w.clients stays h.files

        has_files : HasFilesOf j.log j.machine
        has_files = files_at_both j.log j.machine a.names a.moves.comes.whole.names (subst (λ (x : Logged). HasFilesOf x a.names) (sym a.log) a.named.alike.files)

        o : AreOffersSo w v j.machine
        o = offers (trimmed j) leads run chunks has_files files

        abbrev offered : Machine
        offered = after_all j.machine o.offers

        two : GoesQuietly j.machine offered o.offers
        two = quiet_run config j.machine o.offers (leads_on (new_machine config) k.machine j.machine before leads) o.lawful (offers_quiet o.offers o.of_offers)

        chunks_offered : AreChunksBeside config v (record (trimmed j) { machine = offered })
        chunks_offered = let same = offers_leave j.machine o.offers o.of_offers in same_files_keep_chunks_beside config v (trimmed j) offered chunks same.0 same.1

        abbrev after_offers : ChunkSides
        after_offers = record (trimmed j) { machine = offered }

        leads_offered : LeadsTo k.machine offered
        leads_offered = leads_on k.machine j.machine offered leads (o.offers, o.lawful, refl)

        same_offered : AreNamesOf offered a.names
        same_offered = two.names a.names a.moves.comes.whole.names

        named_here : IsNamesBeside config v.observer.trace v.observer.greatest v.sent j.log others a.names h.requests
        named_here = subst (λ (x : Logged). IsNamesBeside config v.observer.trace v.observer.greatest v.sent x others a.names h.requests) (sym a.log) a.named

        open_offered : KeepsRounds NoneEnds (trimmed j) after_offers
        open_offered =
            (other_changes_keep_chunks (trimmed j) after_offers alike
            (record { lists = refl; grants = λ handle. refl; next = omega arith; gone = refl; orders = refl; files = (offers_leave j.machine o.offers o.of_offers).1 })).rounds

        old_rounds : (handle version : ℕ) (s : Spot) → 1 ≤ grants_of handle version w.sent → IsRoundOpen k handle version s → IsLeaseOver v handle version ⊎ IsRoundOpen after_offers handle version s
        old_rounds handle version s some was_open = elim (keeps handle version s was_open) [
          | inl over ↦ inl (over version some)
          | inr still ↦ elim (open_offered handle version s still) [ inl none ↦ absurd none | inr on ↦ inr on ]
        ]

        sized : AreRoundsSized v after_offers
        sized =
            sizes_on config servers clients w r e choice clocks ss k h after_offers leads_offered old_rounds
            (granted_size_is_open config servers clients w r e choice clocks after_offers is_log chunks_offered.rounds (λ file has. named_here.alike.shapes file has ∙ same_shape offered a.names same_offered file))

        said : AreWordsSo v.sent w.clients offered
        said =
            subst (λ (ms : List Message). AreWordsSo ms w.clients offered) (sym a.sent)
            (more_words offered w.clients w.sent a.messages
            (words_stay k.machine offered w.clients w.sent (all_stay_on k.machine j.machine offered stays two.stays) h.files h.said) (o.said a.messages a.sent))

        asking : AreClientsBeside config v.observer.trace v.observer.greatest w.clients a.names h.requests
        asking =
            subst (λ (t : List Visible). AreClientsBeside config t v.observer.greatest w.clients a.names h.requests) (sym a.trace_is)
            (subst (λ (g : ℕ). AreClientsBeside config trace g w.clients a.names h.requests) (sym a.greatest_is)
            (all_on config trace trace greatest greatest w.clients passes.names a.names h.requests a.left (λ q. refl) (omega arith)
            (all_on config w.observer.trace trace w.observer.greatest greatest w.clients h.names passes.names h.requests passes.left (λ q. passed_last w.observer.trace w.observer.greatest moment q) (le-max_left w.observer.greatest moment) h.asking)))

        -- requests are of calls still

        run_offered : IsRunTo config v.observer.trace offered
        run_offered = run_goes_unseen config v.observer.trace j.machine o.offers run o.lawful two.seen

        files_offered : AreFileClients v.clients offered
        files_offered = subst (λ (cs : List ClientState). AreFileClients cs offered) (sym a.clients_are) (files_stay j.machine offered w.clients two.stays files)

        abbrev Fewer : (ℕ → FileState) → (ℕ → FileState) → Type 0
        Fewer old new = (file index : ℕ) → (from : ℕ) × ((id : CallId) → tries_in id ((new file).chunks index) ≤ tries_in id ((old from).chunks index))

        tries_here : HasNoMoreTries passes.whole j.machine
        tries_here = subst (λ (m : Machine). HasNoMoreTries passes.whole m) a.moves.comes.leads (quiet_actions_add_no_tries passes.whole a.moves.comes.actions a.moves.comes.lawful a.moves.comes.places)

        tries : HasNoMoreTries k.machine offered
        tries =
            subst (λ (f : ℕ → FileState). Fewer f offered.files) passes.files
            (subst (λ (f : ℕ → FileState). Fewer passes.whole.files f) (sym (offers_leave j.machine o.offers o.of_offers).1) tries_here)

        pub arrived : HasMachine config v l others
        arrived = (
          record (trimmed j) { machine = offered },
          a.log,
          record {
            names = a.names;
            requests = h.requests;
            named = named_here;
            asking = subst (λ (cs : List ClientState). AreClientsBeside config v.observer.trace v.observer.greatest cs a.names h.requests) (sym a.clients_are) asking;
            run = run_offered;
            same = same_offered;
            below = λ handle s is. a.moves.comes.whole.below handle s (trimmed_below j handle s is);
            chunks = chunks_offered;
            files = files_offered;
            said = subst (λ (cs : List ClientState). AreWordsSo v.sent cs offered) (sym a.clients_are) said;
            requests_are = events_keep_requests_numbered config w kept e choice ss k offered h leads_offered run_offered files_offered (inl tries);
            shapes = shapes_on config servers clients w r ss k h e choice clocks offered leads_offered;
            sized = sized;
          },
        )
