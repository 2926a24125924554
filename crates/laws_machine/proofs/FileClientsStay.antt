-- What else the machine does leaves a client as it was.
use Rattle.std.proofs.Common.{◌≡◌, ℕ, suc, ◌+◌, ◌*◌, ◌/◌, ◌≤◌, true, List, length, Option, Some, None, refl, sym, ap, subst, ◌∙◌, inl, inr, arith, [], ◌∷◌}
use Rattle.std.specs.Prelude.{nat_lt, Contains, IfSome, IsSome, IsTrue}
use Rattle.std.specs.List.{AllByRecursion}
use Rattle.std.proofs.lemmas.Bool.{true≢false}
use Rattle.gfs_types.specs.declared.config.Config.{Config}
use Rattle.gfs_types.specs.declared.call.Call.{Call}
use Rattle.gfs_types.specs.declared.call.Call.TheVariants as call
use Rattle.gfs_types.specs.declared.answer.Answer.{Answer}
use Rattle.gfs_types.specs.declared.answer.Answer.TheVariants as answer
use Rattle.gfs_types.specs.declared.mutation.Mutation.{Mutation}
use Rattle.gfs_types.specs.declared.refusal.Refusal.{Refusal}
use Rattle.gfs_types.specs.declared.refusal.Refusal.TheVariants.{BadFd, TooLong, Collected, NoMemory}
use Rattle.messages.specs.declared.event.NodeInput.{NodeInput}
use Rattle.messages.specs.declared.event.NodeInput.TheVariants as input
use Rattle.messages.specs.declared.message.Body.{Body}
use Rattle.messages.specs.declared.message.Body.TheVariants as body
use Rattle.messages.specs.declared.message.Location.{Location}
use Rattle.relaxed_file.specs.Order.{CallId}
use Rattle.relaxed_file.specs.Parts.{has_part}
use Rattle.relaxed_file.specs.Machine.{Machine, Asked, OpenCall, IsOpen, Piece, Offer, Told, NoSuchChunk, Outcome, Replies, chunk_at, new_machine, chunk_size}
use Rattle.relaxed_file.specs.Reads.{offer_of}
use Rattle.relaxed_file.specs.NameStep.{is_name_call}
use Rattle.relaxed_file.specs.Answers.{HasSuccess, IsWrite, IsAppendAt, IsDone, IsCause, MayReturn, may_give_up, uses_chunks}
use Rattle.relaxed_file.specs.Run.{Action, IsReached, after, Note, LookPast, MeasureNone, Return, IsLawful, after_all}
use Rattle.relaxed_file.proofs.Reached.{leads_on, leads_by}
use Rattle.relaxed_file.proofs.Grows.{Grows, grows_step, known_when_reached}
use Rattle.relaxed_file.proofs.CallSteps.{Goes}
use Rattle.client_state.specs.declared.call.CurrentCall.{CurrentCall}
use Rattle.client_state.specs.declared.call.LiveAttempt.{LiveAttempt}
use Rattle.client_state.specs.declared.call.ToldChunk.{ToldChunk}
use Rattle.client_state.specs.declared.call.Stage.{Stage}
use Rattle.client_state.specs.declared.call.Stage.TheVariants.{AskedWhere, SentData, SentMutate, SentRead, HasAnswer}
use Rattle.protocol.specs.Client.{ClientState}
use Rattle.protocol.specs.ClientAttempts.{is_mutation}
use Rattle.protocol_invariant.specs.ClientParts.{index_asked}
use Rattle.laws_base.proofs.Steps.{none_some, same_some}
use Rattle.laws_machine.specs.FileClients.{id_of, IsKeptNote, IsReadSoFar, IsDoneSoFar, IsNotedChunk, IsLasting, IsStageAt, IsFileCall, IsCallAlike, IsOffered, IsToldAt, IsRefusedAt, IsWithinPlaces, IsPartSettled, IsSaidAt, IsSaid, IsOwnAction, IsFileClient}
use Rattle.laws_machine.specs.FileClientsStay.{IsFirm, IsFirmInput, FileClientsStay, OtherClientsStay, IsOfOthers}
use Rattle.laws_machine.proofs.MachineSteps.{whole_on}
use Rattle.laws_machine.proofs.OwnParts.{IsSameOwn, own_left, call_left, idle_left, one_more_or_none, entry_stays}
use Rattle.laws_machine.proofs.ToldShapes.{made_still}
use Rattle.relaxed_file.proofs.Known.{Known, CurrentKnown, asked_made}
use Rattle.relaxed_file.proofs.ShapesKept.{sizes_step}

-- the open call has all that came of it, and notes and successes stay
module _ (m n : Machine) (client : ℕ) (grows : Grows m n) (own : IsSameOwn (m.clients client) (n.clients client)) (o d : OpenCall) (goes : Goes m client o d)
    (sizes : (file : ℕ) → o.asked.file ≡ Some file → chunk_size n file ≡ chunk_size m file)
  where
    number : d.number ≡ o.number
    number = sym goes.0

    asked : d.asked ≡ o.asked
    asked = sym goes.1

    pieces : (p : Piece) → Contains o.pieces p → Contains d.pieces p
    pieces p there = one_more_or_none o.pieces d.pieces p (elim (goes.2) [ inl same ↦ inl same | inr more ↦ inr (more.0, more.2) ]) there

    offers : (x : Offer) → Contains o.offers x → Contains d.offers x
    offers x there = one_more_or_none o.offers d.offers x (elim (goes.3) [ inl same ↦ inl same | inr more ↦ inr (offer_of m more.0 more.1, more.3) ]) there

    outcomes : (x : Outcome) → Contains o.outcomes x → Contains d.outcomes x
    outcomes x there = one_more_or_none o.outcomes d.outcomes x (elim (goes.4) [ inl same ↦ inl same | inr more ↦ inr (more.2, more.4) ]) there

    lengths : (x : ℕ) → Contains o.lengths x → Contains d.lengths x
    lengths x there = one_more_or_none o.lengths d.lengths x (elim (goes.6) [ inl same ↦ inl same | inr more ↦ inr (more.0, more.2) ]) there

    note : (file index : ℕ) → (n.clients client).notes file index ≡ (m.clients client).notes file index
    note file index = ap (λ (t : ℕ → ℕ → Option ℕ). t file index) own.2

    success : (id : CallId) (file index : ℕ) (P : Mutation → Type 0) → HasSuccess m client id file index P → HasSuccess n client id file index P
    success id file index P h =
        let s = h.4 in
        (h.0, note file index ∙ h.1, h.2, entry_stays (chunk_at m file index).order (chunk_at n file index).order h.2 (((grows.files file).chunks index).order) s.1 h.3, s, h.5)

    -- under the call's number
    success_of : (file index : ℕ) (P : Mutation → Type 0) → HasSuccess m client (id_of client o) file index P → HasSuccess n client (id_of client d) file index P
    success_of file index P h = subst (λ (k : ℕ). HasSuccess n client (record { client = client; number = k }) file index P) (sym number) (success (id_of client o) file index P h)

    read_on : (offset count part : ℕ) (bytes rounds : List ℕ) (y z : ℕ) → z ≡ y → IsReadSoFar y offset count part bytes rounds o.pieces → IsReadSoFar z offset count part bytes rounds d.pieces
    read_on offset count part bytes rounds y z is h =
        subst (λ (k : ℕ). IsReadSoFar k offset count part bytes rounds d.pieces) (sym is)
        (record { pieces = h.pieces; are_whole = whole_on y offset count part (offset / y) o.pieces d.pieces h.pieces pieces h.are_whole; bytes_are = h.bytes_are; rounds_are = h.rounds_are })

    part_on : (file : ℕ) → o.asked.file ≡ Some file → (offset count part : ℕ) → has_part (chunk_size n file) offset count part ≡ has_part (chunk_size m file) offset count part
    part_on file of offset count part = ap (λ (k : ℕ). has_part k offset count part) (sizes file of)

    pub done_on : (file part : ℕ) (bytes rounds : List ℕ) (c : Call) → o.asked.file ≡ Some file → IsDoneSoFar m (id_of client o) file part bytes rounds o.pieces c → IsDoneSoFar n (id_of client d) file part bytes rounds d.pieces c
    done_on file part bytes rounds (call.Write fd offset content) of h =
        (h.0, part_on file of offset (length content) part ∙ h.1, λ earlier low has. success_of file earlier IsWrite (h.2 earlier low (sym (part_on file of offset (length content) earlier) ∙ has)))
    done_on file part bytes rounds (call.Append fd content) of h = ap (λ (k : ℕ). nat_lt (k / 4) (length content)) (sizes file of) ∙ h
    done_on file part bytes rounds (call.Read fd offset count) of h =
        (h.0, part_on file of offset count part ∙ h.1, read_on offset count part bytes rounds (chunk_size m file) (chunk_size n file) (sizes file of) h.2)
    done_on file part bytes rounds (call.Length fd) of h = tt
    done_on file part bytes rounds other of h = absurd h

    noted_on : (file : ℕ) (c : Call) (chunk : ToldChunk) → IsNotedChunk m client file o c chunk → IsNotedChunk n client file d c chunk
    noted_on file c chunk h = record { noted = note file chunk.index ∙ h.noted; last = λ is. offers (Told chunk.index chunk.round.0 (suc chunk.index)) (h.last is) }

    -- an answer that waits

    file_of_call : (file : ℕ) → o.asked.file ≡ Some file → d.asked.file ≡ Some file
    file_of_call file is = ap (λ (a : Asked). a.file) asked ∙ is

    call_of_call : (c : Call) → o.asked.call ≡ c → d.asked.call ≡ c
    call_of_call c is = ap (λ (a : Asked). a.call) asked ∙ is

    write_on : (offset count : ℕ) → IfSome o.asked.file (λ file. (index : ℕ) → IsTrue (has_part (chunk_size m file) offset count index) → HasSuccess m client (id_of client o) file index IsWrite)
        → IfSome d.asked.file (λ file. (index : ℕ) → IsTrue (has_part (chunk_size n file) offset count index) → HasSuccess n client (id_of client d) file index IsWrite)
    write_on offset count h =
        subst (λ (x : Option ℕ). IfSome x (λ file. (index : ℕ) → IsTrue (has_part (chunk_size n file) offset count index) → HasSuccess n client (id_of client d) file index IsWrite))
        (sym (ap (λ (a : Asked). a.file) asked)) (by_file o.asked.file refl h)
      where
        by_file : (x : Option ℕ) → o.asked.file ≡ x → IfSome x (λ file. (index : ℕ) → IsTrue (has_part (chunk_size m file) offset count index) → HasSuccess m client (id_of client o) file index IsWrite)
            → IfSome x (λ file. (index : ℕ) → IsTrue (has_part (chunk_size n file) offset count index) → HasSuccess n client (id_of client d) file index IsWrite)
        by_file None is g = tt
        by_file (Some file) is g = λ index has. success_of file index IsWrite (g index (sym (part_on file is offset count index) ∙ has))

    answer_on : (c : Call) (reply : Answer) → is_mutation c ≡ true → IsDone m client o c reply → IsDone n client d c reply
    answer_on (call.Write fd offset content) answer.Done is h =
        (write_on offset (length content) h.0, subst (λ (a : Asked). IsSome a.file) (sym asked) h.1, h.2)
    answer_on (call.Write fd offset content) other is h = outcomes (Replies other) h
    answer_on (call.Append fd content) (answer.At x) is h =
        let up = (grows.files h.0).count in
        let low = h.5 in
        (h.0, file_of_call h.0 h.1, h.2, h.3, h.4 ∙ ap (λ (k : ℕ). h.2 * k + h.3) (sym (sizes h.0 h.1)), omega (arith, up, low), success_of h.0 h.2 (IsAppendAt h.3) h.6)
    answer_on (call.Append fd content) other is h = outcomes (Replies other) h
    answer_on other reply is h = absurd (true≢false (sym is))

    collected_on : IsCause m client o Collected → IsCause n client d Collected
    collected_on h = (h.0, file_of_call h.0 h.1, (grows.files h.0).collected h.2, ap (λ (a : Asked). uses_chunks a.call) asked ∙ h.3)

    cause_on : (r : Refusal) → IsLasting (answer.Refused r) → IsCause m client o r → IsCause n client d r
    cause_on BadFd lasting h = (ap (λ (a : Asked). is_name_call a.call) asked ∙ h.0, ap (λ (a : Asked). a.file) asked ∙ h.1)
    cause_on TooLong lasting h = absurd lasting
    cause_on Collected lasting h = collected_on h
    cause_on NoMemory lasting h = absurd lasting
    cause_on other lasting h = absurd h

    return_on : (reply : Answer) → IsLasting reply → is_mutation o.asked.call ≡ true → MayReturn m client o reply → MayReturn n client d reply
    return_on (answer.Refused r) lasting is h = elim h [
      | inl told ↦ inl (outcomes (Replies (answer.Refused r)) told)
      | inr rest ↦ elim rest [
        | inl gives ↦ inr (inl (ap (λ (a : Asked). may_give_up a.call r) asked ∙ gives))
        | inr cause ↦ inr (inr (cause_on r lasting cause))
      ]
    ]
    return_on reply lasting is h = subst (λ (a : Asked). IsDone n client d a.call reply) (sym asked) (answer_on o.asked.call reply is h)

    pub stage_on : (file : ℕ) (c : Call) (st : Stage) → o.asked.call ≡ c → IsStageAt m client file o c st → IsStageAt n client file d c st
    stage_on file c (SentData chunk primary k) is h = (h.0, noted_on file c chunk h.1)
    stage_on file c (SentMutate chunk k) is h = (h.0, noted_on file c chunk h.1)
    stage_on file c (SentRead chunk left k) is h = (h.0, noted_on file c chunk h.1)
    stage_on file c (HasAnswer reply) is h = (h.0, h.1, return_on reply h.1 (ap is_mutation is ∙ h.0) h.2)
    stage_on file c other is h = tt

    -- what it is told

    offered_on : (file : ℕ) (c : Call) (l : Location) → IsOffered m client file o c l → IsOffered n client file d c l
    offered_on file c l h =
        record {
          count = h.count;
          offered = offers (Told l.index l.round.0 h.count) h.offered;
          rising = subst (λ (x : Option ℕ). IfSome x (λ before. before ≤ l.round.0)) (sym (note file l.index)) h.rising;
          last = h.last;
        }

    told_on : (x : CurrentCall) (l : Option Location) → IsToldAt m client o x l → IsToldAt n client d x l
    told_on x None h = offers (NoSuchChunk (index_asked x x.asked)) h
    told_on x (Some l) h = offered_on x.file.0 x.asked l h

    refused_on : (k : ℕ) (live : List LiveAttempt) (r : Refusal) → IsFirm (body.Refused k r) → IsRefusedAt m client o live r → IsRefusedAt n client d live r
    refused_on k live TooLong firm h = absurd firm
    refused_on k live Collected firm h = collected_on h
    refused_on k live other firm h = tt

    settled_on : (file part index place : ℕ) (c : Call) → o.asked.file ≡ Some file → IsPartSettled m (id_of client o) file part index place c → IsPartSettled n (id_of client d) file part index place c
    settled_on file part index place (call.Write fd offset content) of h = success_of file part IsWrite h
    settled_on file part index place (call.Append fd content) of h =
        let up = (grows.files file).count in
        let low = h.1 in
        (subst (λ (k : ℕ). IsWithinPlaces k index place) (sym (sizes file of)) h.0, omega (arith, up, low), success_of file index (IsAppendAt place) h.2)
    settled_on file part index place other of h = tt

    pub said_on : (own_id : ℕ) (x : CurrentCall) → o.asked.file ≡ Some x.file.0 → (st : Stage) (b : Body) → IsFirm b → IsSaidAt m client own_id o x st b → IsSaidAt n client own_id d x st b
    said_on own_id x of (AskedWhere k) (body.Told j l) firm h = λ same. told_on x l (h same)
    said_on own_id x of (AskedWhere k) (body.Refused j r) firm h = λ same. refused_on j x.live r firm (h same)
    said_on own_id x of (SentMutate chunk k) (body.Done id place) firm h = λ one two. settled_on x.file.0 x.index chunk.index place x.asked of (h one two)
    said_on own_id x of (SentRead chunk left k) (body.Bytes j bytes) firm h = λ same plain. pieces (record { index = x.index; bytes = bytes; round = Some chunk.round.0 }) (h same plain)
    said_on own_id x of (SentRead chunk left k) (body.LenIs j count) firm h = λ same is.
        let both = h same is in
        let same = sym (sizes x.file.0 of) in
        (subst (λ (z : ℕ). IsWithinPlaces z chunk.index count) same both.0, subst (λ (z : ℕ). Contains d.lengths (chunk.index * z + count)) same (lengths (chunk.index * chunk_size m x.file.0 + count) both.1))
    said_on own_id x of st b firm h = tt

pub file_clients_stay : FileClientsStay
file_clients_stay config m reached action allowed client of s h = (
  record {
    settings = h.settings ∙ sym grows.config;
    fds = h.fds ∙ sym own.0;
    descriptors = λ fd. h.descriptors fd ∙ ap (λ (t : ℕ → Option ℕ). t fd) (sym own.1);
    kept = subst (λ (t : ℕ → ℕ → Option ℕ). AllByRecursion (IsKeptNote t s.files s.fd_count) s.cache.entries) (sym own.2) h.kept;
    places = h.places;
    shapes = λ file f is. made_still config m (after m action) reached (leads_by m action allowed) file f.shape (h.shapes file f is);
    call = call_on s.current h.call;
  },
  said,
)
  where
    n : Machine
    n = after m action

    grows : Grows m (after m action)
    grows = grows_step m action allowed (known_when_reached config m reached)

    own : IsSameOwn (m.clients client) ((after m action).clients client)
    own = own_left m client action allowed of

    known : Known m
    known = known_when_reached config m reached

    -- the file of an open call was made, and keeps its size
    sizes : (o : OpenCall) → IsOpen m client o → (file : ℕ) → o.asked.file ≡ Some file → chunk_size (after m action) file ≡ chunk_size m file
    sizes o is file of =
        let current : CurrentKnown (suc m.file_count) (m.clients client).calls (Some o) = subst (λ (c : Option OpenCall). CurrentKnown (suc m.file_count) (m.clients client).calls c) is (known.clients client).current in
        sizes_step m action allowed file (asked_made m client o.number o.asked file known current.0 of)

    file_call : (x : CurrentCall) (o : OpenCall) → IsFileCall m client x o → (d : OpenCall) × IsFileCall (after m action) client x d
    file_call x o g =
        let on = call_left m client action allowed of o g.is_open in (
          on.0,
          record {
            is_open = on.1;
            call_is = ap (λ (a : Asked). a.call) (sym on.2.1) ∙ g.call_is;
            file_is = ap (λ (a : Asked). a.file) (sym on.2.1) ∙ g.file_is;
            done = done_on m (after m action) client grows own o on.0 on.2 (sizes o g.is_open) x.file.0 x.index x.bytes x.rounds x.asked g.file_is g.done;
            stage = stage_on m (after m action) client grows own o on.0 on.2 (sizes o g.is_open) x.file.0 x.asked x.stage g.call_is g.stage;
          },
        )

    call_on : (c : Option CurrentCall) → IsCallAlike m client c → IsCallAlike (after m action) client c
    call_on None g = idle_left m client action allowed of g
    call_on (Some x) g = elim g [ inl naming ↦ inl naming | inr here ↦ inr (file_call x here.0 here.1) ]

    by_stage : (x : CurrentCall) (o : OpenCall) → IsOpen m client o → (d : OpenCall) → Goes m client o d → (b : Body) → IsFirm b → IsSaidAt m client s.id o x x.stage b → IsCallAlike m client (Some x)
        → IsSaidAt (after m action) client s.id d x x.stage b
    by_stage x o was d goes b firm g (inl naming) = subst (λ (st : Stage). IsSaidAt (after m action) client s.id d x st b) (sym naming) tt
    by_stage x o was d goes b firm g (inr here) =
        let same : here.0 ≡ o = same_some here.0 o (sym (here.1).is_open ∙ was) in
        said_on m (after m action) client grows own o d goes (sizes o was) s.id x (ap (λ (c : OpenCall). c.asked.file) (sym same) ∙ (here.1).file_is) x.stage b firm g

    said : (i : NodeInput) → IsFirmInput i → IsSaid m client s i → IsSaid (after m action) client s i
    said input.Tick firm g = tt
    said (input.Deliver y) firm g = λ x d is there. by_call (m.clients client).open_call refl x d is there
      where
        by_call : (p : Option OpenCall) → (m.clients client).open_call ≡ p → (x : CurrentCall) (d : OpenCall) → s.current ≡ Some x → IsOpen (after m action) client d → IsSaidAt (after m action) client s.id d x x.stage y.body
        by_call None none x d is there = none_some d (sym (idle_left m client action allowed of none) ∙ there)
        by_call (Some o) was x d is there =
            let on = call_left m client action allowed of o was in
            subst (λ (e : OpenCall). IsSaidAt (after m action) client s.id e x x.stage y.body) (same_some on.0 d (sym on.1 ∙ there))
            (by_stage x o was on.0 on.2 y.body firm (g x o is was) (subst (λ (c : Option CurrentCall). IsCallAlike m client c) is h.call))

-- what another client's step comes to
of_others : (client other : ℕ) → (other ≡ client → ⊥) → (a : Action) → IsOwnAction client a → IsOfOthers other a
of_others client other apart (Note who file index round count) mine = λ same. apart (same ∙ mine)
of_others client other apart (LookPast who index) mine = tt
of_others client other apart (MeasureNone who) mine = tt
of_others client other apart (Return who reply) mine = λ same. apart (same ∙ mine)
of_others client other apart a mine = absurd mine

abbrev Stays : Machine → Machine → ℕ → ClientState → Type 0
Stays m n client s = IsFileClient n client s × ((i : NodeInput) → IsFirmInput i → IsSaid m client s i → IsSaid n client s i)

all_stay : (config : Config) (client other : ℕ) → (other ≡ client → ⊥) → (s : ClientState) (m : Machine) (actions : List Action) → IsReached config m → IsLawful m actions → AllByRecursion (IsOwnAction client) actions → IsFileClient m other s → Stays m (after_all m actions) other s
all_stay config client other apart s m [] reached lawful own h = (h, λ i firm said. said)
all_stay config client other apart s m (a ∷ rest) reached lawful own h =
    let one = file_clients_stay config m reached a lawful.0 other (of_others client other apart a own.0) s h in
    let more = all_stay config client other apart s (after m a) rest (leads_on (new_machine config) m (after m a) reached (leads_by m a lawful.0)) lawful.1 own.1 one.0 in
    (more.0, λ i firm said. more.1 i firm (one.1 i firm said))

pub other_clients_stay : OtherClientsStay
other_clients_stay config m reached client d f other apart s h = all_stay config client other apart s m f.actions reached f.allowed f.own h
