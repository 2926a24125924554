-- The success that a client waits for is one of its open call, at the machine.
use Rattle.std.proofs.Common.{◌≡◌, ℕ, zero, suc, ◌<◌, ◌≤◌, Bool, true, false, cond, List, [], ◌∷◌, length, Option, Some, refl, sym, ap, subst, ◌∙◌, arith}
use Rattle.std.specs.Prelude.{Contains, filter, nat_le, map, slice_index_or, IsTrue}
use Rattle.std.proofs.lemmas.Bool.{le-leb, true≢false}
use Rattle.gfs_types.specs.declared.config.Config.{Config}
use Rattle.gfs_types.specs.declared.call.Call.{Call}
use Rattle.gfs_types.specs.declared.call.Call.TheVariants as call
use Rattle.gfs_types.specs.declared.mutation.Mutation.{Mutation}
use Rattle.gfs_types.specs.declared.mutation.Mutation.TheVariants.{Write, Append, Pad}
use Rattle.messages.specs.declared.event.Event.{Event}
use Rattle.relaxed_file.specs.Order.{CallId, Entry, same_call}
use Rattle.relaxed_file.specs.Machine.{OpenCall, chunk_at, chunk_size}
use Rattle.relaxed_file.specs.Run.{IsReached}
use Rattle.relaxed_file.specs.RunLaws.{IsAskedOf}
use Rattle.relaxed_file.proofs.Tries.{same_as_itself}
use Rattle.laws_base.specs.FewAttempts.{WasAsked}
use Rattle.relaxed_file.proofs.Successes.{success_asked}
use Rattle.client_state.specs.declared.call.CurrentCall.{CurrentCall}
use Rattle.client_state.specs.declared.call.ToldChunk.{ToldChunk}
use Rattle.client_state.specs.declared.call.Stage.{Stage}
use Rattle.protocol.specs.Tables.{Table, element_at}
use Rattle.protocol.specs.Choice.{Choice}
use Rattle.protocol.specs.Observer.{Placed, order_of}
use Rattle.protocol.specs.World.{WorldState, new_world, after_events}
use Rattle.laws_base.proofs.Steps.{on_cond, none_some, same_some}
use Rattle.laws_machine.specs.ChunksAlike.{ChunkSides, entries_in}
use Rattle.laws_machine.specs.ToldIndexes.{has_index}
use Rattle.laws_base.specs.WaitedRounds.{waits_at, waited}
use Rattle.laws_base.specs.SettledEntries.{HasSettledEntry}
use Rattle.primary_order.specs.PrimaryOrder.{place_of}
use Rattle.laws_base.proofs.SettledEntries.{noted_successes_have_entries}
use Rattle.laws_machine.proofs.OpenEntries.{entries_were_asked_for_in_their_call}
use Rattle.laws_machine.specs.FileClients.{id_of, IsWithinPlaces, IsPartSettled}
use Rattle.laws_machine.specs.FileAnswers.{IsOfPart}
use Rattle.laws_machine.specs.WaitedSuccesses.{WaitsForDone, HasTheCall, WaitedSuccessesAreSettled}
use Rattle.laws_machine.proofs.FileAnswers.{settled_entries_are_successes}
use Rattle.laws_machine.proofs.WaitedNumbers.{waited_numbers_are_of_the_open_call}

-- elements of a filtered list

in_cons : {A : Type 0} (y : A) (ys : List A) (x : A) → Contains ys x → Contains (y ∷ ys) x
in_cons y ys x there = (suc there.0, (let low = there.1 in omega (arith, low)), there.2)

filtered : {A : Type 0} (test : A → Bool) (xs : List A) (x : A) → test x ≡ true → (k : ℕ) → k < length xs → slice_index_or xs k x ≡ x → Contains (filter test xs) x
filtered test [] x passes k low is = absurd (omega (arith, low))
filtered {A} test (y ∷ ys) x passes zero low is =
    on_cond (λ (zs : List A). Contains zs x) (test y) (y ∷ filter test ys) (filter test ys) (λ _. (zero, omega arith, is)) (λ fails. absurd (true≢false (sym passes ∙ ap test (sym is) ∙ fails)))
filtered {A} test (y ∷ ys) x passes (suc k) low is =
    let rest = filtered test ys x passes k (omega (arith, low)) is in
    on_cond (λ (zs : List A). Contains zs x) (test y) (y ∷ filter test ys) (filter test ys) (λ _. in_cons y (filter test ys) x rest) (λ _. rest)

unfiltered : {A : Type 0} (test : A → Bool) (xs : List A) (x : A) → Contains (filter test xs) x → Contains xs x
unfiltered test [] x there = there
unfiltered {A} test (y ∷ ys) x there = by_test (test y) (λ g. unfiltered test ys x g) there
  where
    by_test : (b : Bool) → (Contains (filter test ys) x → Contains ys x) → Contains (cond b (y ∷ filter test ys) (filter test ys)) x → Contains (y ∷ ys) x
    by_test true rest g = by_place g.0 g.1 g.2 rest
      where
        by_place : (k : ℕ) → k < length (y ∷ filter test ys) → slice_index_or (y ∷ filter test ys) k x ≡ x → (Contains (filter test ys) x → Contains ys x) → Contains (y ∷ ys) x
        by_place zero low is more = (zero, omega arith, is)
        by_place (suc k) low is more = in_cons y ys x (more (k, omega (arith, low), is))
    by_test false rest g = in_cons y ys x (rest g)

placed_there : (ps : List Placed) (n : ℕ) (p : Placed) → element_at ps n ≡ Some p → Contains (map (λ q. q.entry) ps) p.entry
placed_there [] n p is = none_some p is
placed_there (q ∷ ps) zero p is = (zero, omega arith, ap (λ (r : Placed). r.entry) (same_some q p is))
placed_there (q ∷ ps) (suc n) p is = in_cons q.entry (map (λ r. r.entry) ps) p.entry (placed_there ps n p is)

-- what the call asked for

of_part : (size part index place : ℕ) (c : Call) (m : Mutation) → IsAskedOf size index c m → place_of m ≡ Some place → (IsTrue (has_index c) → index ≡ part) → IsWithinPlaces size index place → IsOfPart size part index place c m
of_part size part index place (call.Write fd offset content) (Write at bytes) asked is same within = (same refl, tt)
of_part size part index place (call.Write fd offset content) (Append at bytes) asked is same within = absurd asked
of_part size part index place (call.Write fd offset content) (Pad at end) asked is same within = absurd asked
of_part size part index place (call.Append fd content) (Append at bytes) asked is same within = (within, same_some at place is)
of_part size part index place (call.Append fd content) (Pad at end) asked is same within = none_some place is
of_part size part index place (call.Append fd content) (Write at bytes) asked is same within = absurd asked
of_part size part index place other m asked is same within = tt

module _ (config : Config) (servers clients : ℕ) (steps : List (Event × Choice)) (kept : IsTrue (after_events (new_world config servers clients) steps).observer.are_clocks_kept)
    (index : ℕ) (x : CurrentCall) (chunk : ToldChunk) (number place : ℕ) (d : WaitsForDone (after_events (new_world config servers clients) steps) index x chunk number place)
    (k : ChunkSides) (o : OpenCall) (h : HasTheCall (after_events (new_world config servers clients) steps) k index x o chunk) (reached : IsReached config k.machine)
  where
    abbrev w : WorldState
    w = after_events (new_world config servers clients) steps

    waits : waited d.client.current ≡ Some (chunk, number)
    waits = ap (λ (c : Option CurrentCall). waited c) d.current_is ∙ ap (λ (st : Stage). waits_at st) d.stage_is

    settled : HasSettledEntry w.observer chunk.handle.0 chunk.round.0 d.id place
    settled = noted_successes_have_entries config servers clients steps index d.client d.client_is chunk number waits d.sent_at d.done d.sent_is d.id place d.body_is d.own d.number_is

    entry : Entry
    entry = settled.placed.entry

    client_is : settled.placed.entry.call.client ≡ suc index
    client_is = settled.client_is ∙ d.own

    number_now : settled.placed.entry.call.number ≡ o.number
    number_now =
        let asked = entries_were_asked_for_in_their_call config servers clients steps kept chunk.handle.0 settled.place settled.placed settled.is index client_is in
        waited_numbers_are_of_the_open_call config servers clients steps index d.client d.client_is chunk number waits settled.placed.entry.call.number asked.0
        (subst (λ (n : ℕ). WasAsked index (new_world config servers clients) steps settled.placed.entry.call.number asked.0 n) (settled.seq_is ∙ d.number_is) asked.1) ∙ sym h.last

    call_is : settled.placed.entry.call ≡ id_of (suc index) o
    call_is = λ i. record { client = client_is i; number = number_now i }

    low : settled.placed.entry.round ≤ chunk.round.0
    low = let same = settled.round_is in omega (arith, same)

    there : Contains (chunk_at k.machine x.file.0 chunk.index).order settled.placed.entry
    there =
        let placed = placed_there (order_of w.observer chunk.handle.0) settled.place settled.placed settled.is in
        let passes = filtered (λ (e : Entry). nat_le e.round chunk.round.0) (entries_in w.observer.orders chunk.handle.0) settled.placed.entry (le-leb settled.placed.entry.round chunk.round.0 low) placed.0 placed.1 placed.2 in
        let here = subst (λ (os : Table (List Placed)). Contains (filter (λ (e : Entry). nat_le e.round chunk.round.0) (entries_in os chunk.handle.0)) settled.placed.entry) (sym h.orders) passes in
        unfiltered (λ (e : Entry). nat_le e.round chunk.round.0) (chunk_at k.machine x.file.0 chunk.index).order settled.placed.entry (subst (λ (es : List Entry). Contains es settled.placed.entry) h.stands.entries here)

    asked_of : IsAskedOf (chunk_size k.machine x.file.0) chunk.index o.asked.call settled.placed.entry.mutation
    asked_of =
        success_asked config k.machine (suc index) o x.file.0 chunk.index chunk.round.0 settled.placed.entry reached h.call.is_open there
        (ap (λ (c : CallId). same_call (id_of (suc index) o) c) call_is ∙ same_as_itself (id_of (suc index) o), settled.settled, low)

    pub is_settled : IsWithinPlaces (chunk_size k.machine x.file.0) chunk.index place → IsPartSettled k.machine (id_of (suc index) o) x.file.0 x.index chunk.index place x.asked
    is_settled within =
        settled_entries_are_successes k.machine (suc index) x o h.call chunk number d.stage_is h.stands.count settled.placed.entry there call_is settled.settled low place
        (of_part (chunk_size k.machine x.file.0) x.index chunk.index place x.asked settled.placed.entry.mutation
        (subst (λ (c : Call). IsAskedOf (chunk_size k.machine x.file.0) chunk.index c settled.placed.entry.mutation) h.call.call_is asked_of)
        settled.place_is h.part within)

pub waited_successes_are_settled : WaitedSuccessesAreSettled
waited_successes_are_settled config servers clients steps kept index x chunk number place d k o h reached within = is_settled config servers clients steps kept index x chunk number place d k o h reached within
