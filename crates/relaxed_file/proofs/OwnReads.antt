-- No later look of a client leaves out its own success: its notes and what it is told never go below that round.
use Rattle.std.proofs.Common.{◌≡◌, ℕ, zero, suc, ◌+◌, ◌*◌, ◌<◌, ◌≤◌, ◌⊎◌, Bool, true, false, cond, List, [], ◌∷◌, Option, Some, None, refl, sym, ◌∙◌, ap, subst, inl, inr, arith}
use Rattle.std.specs.Prelude.{IsTrue, Contains, slice_get, option_map, ◌==◌, nat_lt}
use Rattle.std.specs.List.{AllByRecursion}
use Rattle.std.proofs.lemmas.Option.{none-some}
use Rattle.gfs_types.specs.declared.answer.Answer.{Answer}
use Rattle.gfs_types.specs.declared.call.Call.{Call}
use Rattle.gfs_types.specs.declared.call.Call.TheVariants as call
use Rattle.gfs_types.specs.declared.config.Config.{Config}
use Rattle.gfs_types.specs.Image.{image_length}
use Rattle.relaxed_file.specs.Order.{Entry, IsSelection, empty, takes, leaves, mutations_of}
use Rattle.relaxed_file.specs.Machine.{Machine, Client, OpenCall, IsOpen, Outcome, Offer, Told, NoSuchChunk, chunk_at, chunk_count, chunk_size, put, with_client, with_step, with_chunk}
use Rattle.relaxed_file.specs.NameStep.{performed, is_refused, stepped, with_outcome}
use Rattle.relaxed_file.specs.Chunks.{chunk_added, begun_call, placed, with_entry}
use Rattle.relaxed_file.specs.Reads.{offer_of, IsLook, looked, read_slice}
use Rattle.relaxed_file.specs.Answers.{returned, IsSuccess}
use Rattle.relaxed_file.specs.Run.{Action, Invoke, Return, ReturnFd, Step, FindBusy, FindFull, Lock, Add, Place, Tell, Note, Look, LookPast, Measure, MeasureNone, Allows, after, LeadsTo, IsReached, asked_file}
use Rattle.relaxed_file.specs.RunLaws.{IsOwnSuccess, OwnSuccessesAreRead}
use Rattle.relaxed_file.proofs.Tables.{cond_keeps, put_look, put_same, at_some, contained, from_some}
use Rattle.relaxed_file.proofs.Reached.{kept_to, leads_on, leads_by}
use Rattle.relaxed_file.proofs.Known.{Known, known_step, asked_is}
use Rattle.relaxed_file.proofs.Grows.{grows_step, known_when_reached}
use Rattle.relaxed_file.proofs.Rounds.{IsWithin, every_order}
use Rattle.relaxed_file.proofs.Apart.{below_top}
use Rattle.relaxed_file.proofs.Successes.{settled_entries_stay, found_at}

abbrev NoteReaches : ℕ → Option ℕ → Type 0
NoteReaches r None = Unit {0}
NoteReaches r (Some noted) = r ≤ noted

abbrev OfferReaches : ℕ → ℕ → Offer → Type 0
OfferReaches index r (Told i round count) = i ≡ index → r ≤ round
OfferReaches index r (NoSuchChunk i) = Unit {0}

-- what an open call on the file was told of the chunk
abbrev OffersReach : ℕ → ℕ → ℕ → Option OpenCall → Type 0
OffersReach file index r None = Unit {0}
OffersReach file index r (Some c) = c.asked.file ≡ Some file → AllByRecursion (OfferReaches index r) c.offers

record StateReaches (file index r : ℕ) (state : Client) : Type 0 where
  note : NoteReaches r (state.notes file index)
  offers : OffersReach file index r state.open_call

record Reaches (client file index r : ℕ) (m : Machine) : Type 0 where
  known : Known m
  round : r ≤ (chunk_at m file index).round
  state : StateReaches file index r (m.clients client)

pub performed_clients : (m : Machine) (c : Call) (moment : ℕ) → (performed m c moment).clients ≡ m.clients
performed_clients m (call.Create p shape) moment = refl
performed_clients m (call.Snapshot p q) moment = refl
performed_clients m other moment = refl

module _ (client file index r : ℕ) where
  abbrev Holds : Machine → Type 0
  Holds m = StateReaches file index r (m.clients client)

  -- a step that changes neither what was asked nor what was told
  abbrev KeepsOffers : (OpenCall → OpenCall) → Type 0
  KeepsOffers change = (c : OpenCall) → (c.asked.file ≡ (change c).asked.file) × (c.offers ≡ (change c).offers)

  offers_step : (change : OpenCall → OpenCall) (o : Option OpenCall) → KeepsOffers change → OffersReach file index r o
      → OffersReach file index r (option_map (λ current. record (change current) { has_begun = true }) o)
  offers_step change None keeps h = tt
  offers_step change (Some c) keeps h = λ on. subst (AllByRecursion (OfferReaches index r)) (keeps c).1 (h ((keeps c).0 ∙ on))

  step_taken : (m : Machine) (who : ℕ) (change : OpenCall → OpenCall) → KeepsOffers change → Holds m → Holds (with_step m who change)
  step_taken m who change keeps h = put_look (StateReaches file index r) who _ m.clients client
      (λ same. let mine : StateReaches file index r (m.clients who) = subst (λ k. StateReaches file index r (m.clients k)) same h in
      record { note = mine.note; offers = offers_step change (m.clients who).open_call keeps mine.offers })
      h

  outcome_taken : (m : Machine) (who : ℕ) (outcome : Outcome) → Holds m → Holds (with_outcome m who outcome)
  outcome_taken m who outcome h = step_taken m who (λ current. record current { outcomes = outcome ∷ current.outcomes }) (λ c. (refl, refl)) h

  closed : (state : Client) (descriptors : ℕ → Option ℕ) → StateReaches file index r state → StateReaches file index r (record state { open_call = None; descriptors = descriptors })
  closed state descriptors h = record { note = h.note; offers = tt }

  offer_told : (m : Machine) (i : ℕ) (b : Bool) → r ≤ (chunk_at m file index).round
      → OfferReaches index r (cond b (Told i (chunk_at m file i).round (chunk_count m file)) (NoSuchChunk i))
  offer_told m i true h = λ same. subst (λ k. r ≤ (chunk_at m file k).round) (sym same) h
  offer_told m i false h = tt

  told : (m : Machine) (who f i : ℕ) (current : OpenCall) → IsOpen m who current → current.asked.file ≡ Some f → r ≤ (chunk_at m file index).round → Holds m
      → Holds (with_step m who (λ c. record c { offers = offer_of m f i ∷ c.offers }))
  told m who f i current is on round h = put_look (StateReaches file index r) who _ m.clients client
      (λ same. let mine : StateReaches file index r (m.clients who) = subst (λ k. StateReaches file index r (m.clients k)) same h in
      record {
        note = mine.note;
        offers = subst (λ o. OffersReach file index r (option_map {T = OpenCall} {U = OpenCall} (λ (c : OpenCall). record c { offers = offer_of m f i ∷ c.offers; has_begun = true }) o)) (sym is)
            (λ here. (
              subst (λ g. OfferReaches index r (offer_of m g i)) (from_some (sym here ∙ on)) (offer_told m i (nat_lt i (chunk_count m file)) round),
              (let before : OffersReach file index r (Some current) = subst (OffersReach file index r) is mine.offers in before here),
            ));
      })
      h

  note_taken : (m : Machine) (who f i round count : ℕ) (current : OpenCall) → IsOpen m who current → current.asked.file ≡ Some f → Contains current.offers (Told i round count) → Holds m
      → Holds (with_client m who (record (m.clients who) { notes = put f (put i (Some round) ((m.clients who).notes f)) (m.clients who).notes }))
  note_taken m who f i round count current is on offer h = put_look (StateReaches file index r) who _ m.clients client
      (λ same. let mine : StateReaches file index r (m.clients who) = subst (λ k. StateReaches file index r (m.clients k)) same h in
      record {
        note = put_look (λ (t : ℕ → Option ℕ). NoteReaches r (t index)) f (put i (Some round) ((m.clients who).notes f)) (m.clients who).notes file
            (λ this. put_look (NoteReaches r) i (Some round) ((m.clients who).notes f) index
            (λ at. let before : OffersReach file index r (Some current) = subst (OffersReach file index r) is mine.offers in
            contained (OfferReaches index r) current.offers (Told i round count) (before (on ∙ ap Some (sym this))) offer (sym at))
            (subst (λ g. NoteReaches r ((m.clients who).notes g index)) this mine.note))
            mine.note;
        offers = mine.offers;
      })
      h

  forgotten : (f : ℕ) (notes : ℕ → ℕ → Option ℕ) → NoteReaches r (notes file index) → NoteReaches r (put f (λ i. None) notes file index)
  forgotten f notes h = put_look (λ (t : ℕ → Option ℕ). NoteReaches r (t index)) f (λ i. None) notes file (λ this. tt) h

  begun_offers : (number : ℕ) (o : Option OpenCall) → OffersReach file index r o → OffersReach file index r (begun_call number o)
  begun_offers number None h = tt
  begun_offers number (Some c) h = cond_keeps (λ d. OffersReach file index r (Some d)) (c.number == number) (record c { has_begun = true }) c h h

  state_step : (m : Machine) (action : Action) → Allows m action → r ≤ (chunk_at m file index).round → Holds m → Holds (after m action)
  state_step m (Invoke who asked) a round h = put_look (StateReaches file index r) who _ m.clients client
      (λ same. let mine : StateReaches file index r (m.clients who) = subst (λ k. StateReaches file index r (m.clients k)) same h in record { note = mine.note; offers = λ on. tt }) h
  state_step m (Return who reply) a round h = at_some Holds (λ current. returned m who current reply) m _ a.0 a.1
      (put_look (StateReaches file index r) who _ m.clients client (λ same. closed (m.clients who) _ (subst (λ k. StateReaches file index r (m.clients k)) same h)) h)
  state_step m (ReturnFd who fd f) a round h = put_look (StateReaches file index r) who _ m.clients client
      (λ same. let mine : StateReaches file index r (m.clients who) = subst (λ k. StateReaches file index r (m.clients k)) same h in record { note = forgotten f (m.clients who).notes mine.note; offers = tt }) h
  state_step m (Step who moment outcome) a round h = at_some Holds (λ current. stepped m who moment outcome current) m _ a.0 a.1
      (elim (is_refused outcome) as (λ b. Holds (with_outcome (cond b m (performed m (a.0).asked.call moment)) who outcome)) [
        | true ↦ outcome_taken m who outcome h
        | false ↦ outcome_taken (performed m (a.0).asked.call moment) who outcome
            (subst (λ (t : ℕ → Client). StateReaches file index r (t client)) (sym (performed_clients m (a.0).asked.call moment)) h)
      ])
  state_step m (FindBusy who holder) a round h = outcome_taken m who _ h
  state_step m (FindFull who) a round h = outcome_taken m who _ h
  state_step m (Lock who) a round h = step_taken m who (λ current. record current { has_locks = true }) (λ c. (refl, refl)) h
  state_step m (Add id) a round h = at_some Holds (chunk_added m id) m (asked_file m id) a.1 (asked_is m id a.0 a.1 a.2.0 a.2.1)
      (put_look (StateReaches file index r) id.client _ m.clients client
      (λ same. let mine : StateReaches file index r (m.clients id.client) = subst (λ k. StateReaches file index r (m.clients k)) same h in
      record { note = mine.note; offers = begun_offers id.number (m.clients id.client).open_call mine.offers })
      h)
  state_step m (Place who f i mutation) a round h = at_some Holds (λ current. placed m who current f i mutation) m _ a.0 a.1
      (step_taken (with_chunk m f i (with_entry (chunk_at m f i) (record { client = who; number = (a.0).number }) mutation)) who (λ c. c) (λ c. (refl, refl)) h)
  state_step m (Tell who f i) a round h = told m who f i a.0 a.1 a.2.0 round h
  state_step m (Note who f i noted count) a round h =
      step_taken (with_client m who (record (m.clients who) { notes = put f (put i (Some noted) ((m.clients who).notes f)) (m.clients who).notes })) who (λ c. c) (λ c. (refl, refl))
      (note_taken m who f i noted count a.0 a.1 a.2.0 a.2.1 h)
  state_step m (Look who f i least last chosen) a round h = at_some Holds (λ current. looked m who current f i least chosen) m _ a.0 a.1
      (step_taken m who (λ c. record c { pieces = record { index = i; bytes = read_slice (chunk_size m f) i (a.0).asked.call chosen; round = Some least } ∷ c.pieces }) (λ c. (refl, refl)) h)
  state_step m (LookPast who i) a round h = step_taken m who (λ c. record c { pieces = record { index = i; bytes = []; round = None } ∷ c.pieces }) (λ c. (refl, refl)) h
  state_step m (Measure who f i told_round least last chosen) a round h = step_taken m who (λ c. record c { lengths = (i * chunk_size m f + image_length (mutations_of chosen)) ∷ c.lengths }) (λ c. (refl, refl)) h
  state_step m (MeasureNone who) a round h = step_taken m who (λ c. record c { lengths = 0 ∷ c.lengths }) (λ c. (refl, refl)) h
  state_step m other a round h = h

  reaches_step : (m : Machine) (action : Action) → Allows m action → Reaches client file index r m → Reaches client file index r (after m action)
  reaches_step m action allowed h = record {
    known = known_step m action allowed h.known;
    round = let more : (chunk_at m file index).round ≤ (chunk_at (after m action) file index).round = (((grows_step m action allowed h.known).files file).chunks index).round in omega (arith, more, h.round);
    state = state_step m action allowed h.round h.state;
  }

-- the rounds of an order are at most the chunk's
within_top : (least most : ℕ) (order : List Entry) → IsWithin least most order → AllByRecursion (λ e. e.round ≤ most) order
within_top least most [] h = tt
within_top least most (e ∷ rest) h = (below_top e.round most rest h.1, within_top e.round most rest h.1)

-- a settled entry is in each selection up to its round or later
abbrev pub Has : List Entry → Entry → Type 0
Has [] e = ⊥
Has (x ∷ rest) e = (x ≡ e) ⊎ Has rest e

pub selected : (last : ℕ) {order chosen : List Entry} → IsSelection last order chosen → (k : ℕ) (e : Entry) → slice_get order k ≡ Some e → IsTrue e.settled → e.round ≤ last → Has chosen e
selected last empty k e is s l = absurd (none-some e is)
selected last (takes {e = x} r rest) zero e is s l = inl (from_some is)
selected last (takes {e = x} r rest) (suc k) e is s l = inr (selected last rest k e is s l)
selected last (leaves {e = x} late rest) zero e is s l =
    let same : x ≡ e = from_some is in
    let later : last < e.round = subst (λ (w : Entry). IsTrue w.settled → last < w.round) same late s in absurd (omega arith)
selected last (leaves {e = x} late rest) (suc k) e is s l = selected last rest k e is s l

pub has_place : (chosen : List Entry) (e : Entry) → Has chosen e → Contains chosen e
has_place [] e h = absurd h
has_place (x ∷ rest) e (inl same) = (0, omega arith, same)
has_place (x ∷ rest) e (inr h) = let there : Contains rest e = has_place rest e h in (suc there.0, omega (arith, there.1), there.2)

-- A client's looks after an answer name no round before that of its own success.
pub own_rounds_are_named : (config : Config) (m n : Machine) (client file index : ℕ) (e : Entry) (reply : Answer) (least last : ℕ) (chosen : List Entry)
    → IsReached config m → IsOwnSuccess m client file index e → Allows m (Return client reply)
    → LeadsTo (after m (Return client reply)) n → IsLook n client file index least last chosen → e.round ≤ least
own_rounds_are_named config m n client file index e reply least last chosen reached own allowed way look =
    let known : Known m = known_when_reached config m reached in
    let current : OpenCall = own.0 in
    let success : IsSuccess (record { client = client; number = current.number }) own.3 e = own.5 in
    let below : e.round ≤ (chunk_at m file index).round = contained (λ f. f.round ≤ (chunk_at m file index).round) _ e (within_top 0 _ _ (every_order config m reached file index)) own.2 in
    let noted : e.round ≤ own.3 = success.2 in
    let note : NoteReaches e.round ((m.clients client).notes file index) = subst (NoteReaches e.round) (sym own.4) noted in
    let now : Reaches client file index e.round (after m (Return client reply)) = record {
      known = known_step m (Return client reply) allowed known;
      round = let more : (chunk_at m file index).round ≤ (chunk_at (after m (Return client reply)) file index).round = (((grows_step m (Return client reply) allowed known).files file).chunks index).round in omega (arith, more, below);
      state = at_some (λ k. StateReaches file index e.round (k.clients client)) (λ c. returned m client c reply) m _ current own.1
          (subst (StateReaches file index e.round) (sym (put_same client _ m.clients)) (record { note = note; offers = tt }));
    } in
    let later : Reaches client file index e.round n = kept_to (Reaches client file index e.round) (reaches_step client file index e.round) _ n way now in
    subst (NoteReaches e.round) look.1 later.state.note

pub own_successes_are_read : OwnSuccessesAreRead
own_successes_are_read config m n client file index e reply least last chosen reached own allowed way look =
    let success : IsSuccess (record { client = client; number = (own.0).number }) own.3 e = own.5 in
    let l : e.round ≤ least = own_rounds_are_named config m n client file index e reply least last chosen reached own allowed way look in
    let there : slice_get (chunk_at n file index).order (own.2).0 ≡ Some e =
    settled_entries_stay config m n reached (leads_on m _ n (leads_by m (Return client reply) allowed) way) file index (own.2).0 e (found_at _ e own.2) success.1 in
    has_place chosen e (selected last look.3 (own.2).0 e there success.1 (omega (arith, l, look.2)))
