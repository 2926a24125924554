-- How a client's open call changes by one action: it is made, it ends, or it goes on with the same number, perhaps with one more thing that it was told, that it read, that it came to or that it measured.
use Rattle.std.proofs.Common.{◌≡◌, ℕ, suc, ◌+◌, ◌*◌, ◌⊎◌, true, false, cond, List, [], ◌∷◌, Option, Some, None, refl, sym, ◌∙◌, ap, subst, inl, inr}
use Rattle.std.specs.Prelude.{option_map, ◌==◌, IsTrue}
use Rattle.std.proofs.lemmas.Bool.{cases_eq, false≢true}
use Rattle.gfs_types.specs.declared.call.Call.{Call}
use Rattle.gfs_types.specs.declared.call.Call.TheVariants as call
use Rattle.gfs_types.specs.declared.answer.Answer.{Answer}
use Rattle.gfs_types.specs.declared.answer.Answer.TheVariants as answer
use Rattle.gfs_types.specs.Image.{image_length}
use Rattle.relaxed_file.specs.Order.{Entry, mutations_of}
use Rattle.relaxed_file.specs.Machine.{Machine, Client, Asked, OpenCall, IsOpen, Outcome, Piece, chunk_at, chunk_size, put, with_client, with_step, with_chunk}
use Rattle.relaxed_file.specs.NameStep.{performed, is_refused, stepped, with_outcome, is_name_call, needs_room, HasNameStepLeft}
use Rattle.relaxed_file.specs.Locks.{is_snapshot, conflict, MayBeBusy}
use Rattle.relaxed_file.specs.Chunks.{chunk_added, begun_call, placed, with_entry}
use Rattle.relaxed_file.specs.Reads.{offer_of, looked, read_slice, MayLook, MayLookPast, MayMeasure, MayMeasureNone, MayOffer}
use Rattle.relaxed_file.specs.Answers.{returned}
use Rattle.relaxed_file.specs.Run.{Action, Invoke, Return, ReturnFd, Step, FindBusy, FindFull, Lock, Add, Place, Tell, Note, Look, LookPast, Measure, MeasureNone, Pass, Visible, Called, Answered, Passed, shown, asked_now, Allows, after, asked_file}
use Rattle.relaxed_file.specs.RunLaws.{ComesTo, by_names, by_lock, by_room}
use Rattle.relaxed_file.proofs.Tables.{put_is, put_same, put_other, at_some, from_some}
use Rattle.relaxed_file.proofs.Known.{asked_is}
use Rattle.relaxed_file.proofs.OwnReads.{performed_clients}

-- where a piece came from
pub data IsPieceOf (m : Machine) (client : ℕ) (c : OpenCall) (piece : Piece) : Type 0 where
  by_look : (file index least last : ℕ) (chosen : List Entry) → MayLook m client c file index least last chosen
      → piece ≡ record { index = index; bytes = read_slice (chunk_size m file) index c.asked.call chosen; round = Some least } → IsPieceOf m client c piece
  by_none : (index : ℕ) → MayLookPast c index → piece ≡ record { index = index; bytes = []; round = None } → IsPieceOf m client c piece

abbrev pub GetsPiece : Machine → ℕ → OpenCall → OpenCall → Type 0
GetsPiece m client c d = (d.pieces ≡ c.pieces) ⊎ ((piece : Piece) × IsPieceOf m client c piece × (d.pieces ≡ piece ∷ c.pieces))

abbrev pub GetsOffer : Machine → OpenCall → OpenCall → Type 0
GetsOffer m c d = (d.offers ≡ c.offers) ⊎ ((file : ℕ) × (index : ℕ) × MayOffer m c file × (d.offers ≡ offer_of m file index ∷ c.offers))

-- only a name call comes to something, and only while it has a name step left
abbrev pub GetsOutcome : Machine → ℕ → OpenCall → OpenCall → Type 0
GetsOutcome m client c d =
    (d.outcomes ≡ c.outcomes)
    ⊎ (IsTrue (is_name_call c.asked.call) × HasNameStepLeft c × (outcome : Outcome) × ComesTo m client c.asked.call outcome × (d.outcomes ≡ outcome ∷ c.outcomes))

-- where a length came from
pub data IsLengthOf (m : Machine) (client : ℕ) (c : OpenCall) (found : ℕ) : Type 0 where
  by_measure : (file index told least last : ℕ) (chosen : List Entry) → MayMeasure m client c file index told least last chosen
      → found ≡ index * chunk_size m file + image_length (mutations_of chosen) → IsLengthOf m client c found
  by_no_chunk : MayMeasureNone c → found ≡ 0 → IsLengthOf m client c found

abbrev pub GetsLength : Machine → ℕ → OpenCall → OpenCall → Type 0
GetsLength m client c d = (d.lengths ≡ c.lengths) ⊎ ((found : ℕ) × IsLengthOf m client c found × (d.lengths ≡ found ∷ c.lengths))

-- only a snapshot gets locks
abbrev pub GetsLocks : OpenCall → OpenCall → Type 0
GetsLocks c d = (d.has_locks ≡ c.has_locks) ⊎ IsTrue (is_snapshot c.asked.call)

abbrev pub Goes : Machine → ℕ → OpenCall → OpenCall → Type 0
Goes m client c d = (c.number ≡ d.number) × (c.asked ≡ d.asked) × GetsPiece m client c d × GetsOffer m c d × GetsOutcome m client c d × (IsTrue c.has_begun → IsTrue d.has_begun) × GetsLength m client c d × GetsLocks c d

pub same_call : (m : Machine) (client : ℕ) (c : OpenCall) → Goes m client c c
same_call m client c = (refl, refl, inl refl, inl refl, inl refl, λ begun. begun, inl refl, inl refl)

-- the calls that lock a name, and those that need room, are name calls
conflicts_by_name : (a b : Call) → IsTrue (conflict a b) → IsTrue (is_name_call a)
conflicts_by_name (call.Close fd) b h = absurd (false≢true h)
conflicts_by_name (call.Length fd) b h = absurd (false≢true h)
conflicts_by_name (call.Write fd offset bytes) b h = absurd (false≢true h)
conflicts_by_name (call.Append fd bytes) b h = absurd (false≢true h)
conflicts_by_name (call.Read fd offset count) b h = absurd (false≢true h)
conflicts_by_name other b h = refl

room_by_name : (c : Call) → IsTrue (needs_room c) → IsTrue (is_name_call c)
room_by_name (call.Mkdir p) h = refl
room_by_name (call.Create p shape) h = refl
room_by_name (call.Delete p) h = refl
room_by_name (call.Rename p q) h = refl
room_by_name (call.Snapshot p q) h = refl
room_by_name other h = absurd (false≢true h)

abbrev pub fresh_call : Client → Asked → OpenCall
fresh_call state asked = record { number = suc state.call_count; asked = asked; has_begun = false; has_locks = false; outcomes = []; offers = []; pieces = []; lengths = [] }

-- what is seen is no call of this client and no answer to it
abbrev pub IsOthers : ℕ → Option Visible → Type 0
IsOthers client None = Unit {0}
IsOthers client (Some (Called who asked)) = client ≡ who → ⊥
IsOthers client (Some (Answered who reply)) = client ≡ who → ⊥
IsOthers client (Some (Passed moment)) = Unit {0}

abbrev pub IsMade : Machine → ℕ → Option Visible → Option OpenCall → Option OpenCall → Type 0
IsMade m client v old new = (c : Call) × (v ≡ Some (Called client c)) × (old ≡ None) × (new ≡ Some (fresh_call (m.clients client) (asked_now m client c)))

abbrev pub IsEnded : ℕ → Option Visible → Option OpenCall → Option OpenCall → Type 0
IsEnded client v old new = (reply : Answer) × (v ≡ Some (Answered client reply)) × (c : OpenCall) × (old ≡ Some c) × (new ≡ None)

abbrev pub IsGoing : Machine → ℕ → Option OpenCall → Option OpenCall → Type 0
IsGoing m client old new = (c : OpenCall) × (d : OpenCall) × (old ≡ Some c) × (new ≡ Some d) × Goes m client c d

abbrev pub CallStep : Machine → ℕ → Option Visible → Option OpenCall → Option OpenCall → Type 0
CallStep m client v old new = IsMade m client v old new ⊎ (IsEnded client v old new ⊎ (IsOthers client v × (IsGoing m client old new ⊎ ((old ≡ None) × (new ≡ None)))))

unchanged : (m : Machine) (client : ℕ) (v : Option Visible) (o : Option OpenCall) → IsOthers client v → CallStep m client v o o
unchanged m client v None other = inr (inr (other, inr (refl, refl)))
unchanged m client v (Some c) other = inr (inr (other, inl (c, c, refl, refl, same_call m client c)))

module _ (m : Machine) (client : ℕ) where
  abbrev old : Option OpenCall
  old = (m.clients client).open_call

  -- the action leads there
  abbrev Steps : Option Visible → Machine → Type 0
  Steps v n = CallStep m client v old (n.clients client).open_call

  -- another client's state changes, or this one's
  changed : (n : Machine) (v : Option Visible) (who : ℕ) (state : Client) → n.clients ≡ m.clients → ((client ≡ who → ⊥) → IsOthers client v)
      → (client ≡ who → CallStep m client v old state.open_call) → CallStep m client v old (put who state n.clients client).open_call
  changed n v who state same others mine =
      elim (cases_eq client who) [
        | inl is ↦ subst (λ (s : Client). CallStep m client v old s.open_call) (sym (put_is who state n.clients client is)) (mine is)
        | inr other ↦ subst (λ (s : Client). CallStep m client v old s.open_call) (sym (put_other who state n.clients client other ∙ ap (λ (t : ℕ → Client). t client) same))
            (unchanged m client v old (others other))
      ]

  goes_on : (change : OpenCall → OpenCall) (o : Option OpenCall) → ((c : OpenCall) → o ≡ Some c → Goes m client c (change c))
      → CallStep m client None o (option_map (λ current. record (change current) { has_begun = true }) o)
  goes_on change None keeps = inr (inr (tt, inr (refl, refl)))
  goes_on change (Some c) keeps =
      let goes : Goes m client c (change c) = keeps c refl in
      inr (inr (tt, inl (c, record (change c) { has_begun = true }, refl, refl, (goes.0, goes.1, goes.2, goes.3, goes.4, λ begun. refl, goes.6, goes.7))))

  -- the open call takes a step that nobody sees
  step_taken : (n : Machine) (who : ℕ) (change : OpenCall → OpenCall) → n.clients ≡ m.clients
      → ((c : OpenCall) → old ≡ Some c → client ≡ who → Goes m client c (change c)) → Steps None (with_step n who change)
  step_taken n who change same keeps = changed n None who _ same (λ other. tt) (λ is.
      let here : (n.clients who).open_call ≡ old = ap (λ (t : ℕ → Client). (t who).open_call) same ∙ ap (λ k. (m.clients k).open_call) (sym is) in
      subst (λ o. CallStep m client None old (option_map (λ current. record (change current) { has_begun = true }) o)) (sym here)
      (goes_on change old (λ c there. keeps c there is)))

  plain_step : (n : Machine) (who : ℕ) (change : OpenCall → OpenCall) → n.clients ≡ m.clients → ((c : OpenCall) → Goes m client c (change c)) → Steps None (with_step n who change)
  plain_step n who change same keeps = step_taken n who change same (λ c there is. keeps c)

  outcome_taken : (n : Machine) (who : ℕ) (outcome : Outcome) (current : OpenCall) → n.clients ≡ m.clients → IsOpen m who current → IsTrue (is_name_call current.asked.call) → HasNameStepLeft current → ComesTo m who current.asked.call outcome
      → Steps None (with_outcome n who outcome)
  outcome_taken n who outcome current same is named left comes = step_taken n who (λ c. record c { outcomes = outcome ∷ c.outcomes }) same (λ c there mine.
      let here : current ≡ c = from_some (sym is ∙ subst (λ k. (m.clients k).open_call ≡ Some c) mine there) in (
        refl,
        refl,
        inl refl,
        inl refl,
        subst (λ (d : OpenCall). GetsOutcome m client d (record d { outcomes = outcome ∷ d.outcomes })) here
            (inr (named, left, outcome, subst (λ k. ComesTo m k current.asked.call outcome) (sym mine) comes, refl)),
        λ begun. begun,
        inl refl,
        inl refl,
      ))

  -- the notes change, and then the call takes a step
  note_taken : (who : ℕ) (state : Client) → state.open_call ≡ (m.clients who).open_call → Steps None (with_step (with_client m who state) who (λ c. c))
  note_taken who state kept =
      let new : Client = record ((with_client m who state).clients who) { open_call = option_map {T = OpenCall} {U = OpenCall} (λ (current : OpenCall). record current { has_begun = true }) ((with_client m who state).clients who).open_call } in
      elim (cases_eq client who) [
        | inl is ↦ subst (λ (s : Client). CallStep m client None old s.open_call) (sym (put_is who new (with_client m who state).clients client is))
            (let here : ((with_client m who state).clients who).open_call ≡ old = ap (λ (s : Client). s.open_call) (put_same who state m.clients) ∙ kept ∙ ap (λ k. (m.clients k).open_call) (sym is) in
            subst (λ o. CallStep m client None old (option_map {T = OpenCall} {U = OpenCall} (λ (current : OpenCall). record current { has_begun = true }) o)) (sym here) (goes_on (λ c. c) old (λ c there. same_call m client c)))
        | inr other ↦ subst (λ (s : Client). CallStep m client None old s.open_call) (sym (put_other who new (with_client m who state).clients client other ∙ put_other who state m.clients client other))
            (unchanged m client None old tt)
      ]

  begun_step : (number : ℕ) (o : Option OpenCall) → CallStep m client None o (begun_call number o)
  begun_step number None = inr (inr (tt, inr (refl, refl)))
  begun_step number (Some c) = inr (inr (
    tt,
    inl (elim (c.number == number) as (λ b. IsGoing m client (Some c) (Some (cond b (record c { has_begun = true }) c))) [
      | true ↦ (c, record c { has_begun = true }, refl, refl, (refl, refl, inl refl, inl refl, inl refl, λ begun. refl, inl refl, inl refl))
      | false ↦ (c, c, refl, refl, same_call m client c)
    ]),
  ))

  stays : (v : Option Visible) (n : Machine) → n.clients ≡ m.clients → IsOthers client v → Steps v n
  stays v n same others = subst (λ (t : ℕ → Client). CallStep m client v old (t client).open_call) (sym same) (unchanged m client v old others)

  ended : (who : ℕ) (reply : Answer) (current : OpenCall) (state : Client) → IsOpen m who current → state.open_call ≡ None
      → CallStep m client (Some (Answered who reply)) old (put who state m.clients client).open_call
  ended who reply current state is closed = changed m (Some (Answered who reply)) who state refl (λ other. other)
      (λ mine. inr (inl (reply, ap (λ k. Some (Answered k reply)) (sym mine), current, subst (λ k. (m.clients k).open_call ≡ Some current) (sym mine) is, closed)))

  pub call_step : (action : Action) → Allows m action → Steps (shown action) (after m action)
  call_step (Invoke who asked) a = changed m (Some (Called who asked)) who _ refl (λ other. other)
      (λ mine. inl (asked, ap (λ k. Some (Called k asked)) (sym mine), subst (λ k. (m.clients k).open_call ≡ None) (sym mine) a, ap (λ k. Some (fresh_call (m.clients k) (asked_now m k asked))) (sym mine)))
  call_step (Return who reply) a = at_some (Steps (Some (Answered who reply))) (λ current. returned m who current reply) m _ a.0 a.1 (ended who reply a.0 _ a.1 refl)
  call_step (ReturnFd who fd f) a = ended who (answer.Fd (record { 0 = fd })) a.0 _ a.1 refl
  call_step (Step who moment outcome) a = at_some (Steps None) (λ current. stepped m who moment outcome current) m _ a.0 a.1
      (elim (is_refused outcome) as (λ b. Steps None (with_outcome (cond b m (performed m (a.0).asked.call moment)) who outcome)) [
        | true ↦ outcome_taken m who outcome a.0 refl a.1 (a.2).0 (a.2).1 (by_names (a.2).2)
        | false ↦ outcome_taken (performed m (a.0).asked.call moment) who outcome a.0 (performed_clients m (a.0).asked.call moment) a.1 (a.2).0 (a.2).1 (by_names (a.2).2)
      ])
  call_step (FindBusy who holder) a =
      let busy : MayBeBusy m.config who a.0 holder (a.2).0 = (a.2).2 in
      outcome_taken m who _ a.0 refl a.1 (conflicts_by_name (a.0).asked.call ((a.2).0).asked.call busy.5) busy.1 (by_lock holder (a.2).0 busy.0 (a.2).1 busy.2 busy.3 busy.5 refl)
  call_step (FindFull who) a = outcome_taken m who _ a.0 refl a.1 (room_by_name (a.0).asked.call (a.2).0) (a.2).1 (by_room (a.2).0 (a.2).2 refl)
  call_step (Lock who) a = step_taken m who (λ current. record current { has_locks = true }) refl (λ c there mine.
      let same : a.0 ≡ c = from_some (sym a.1 ∙ subst (λ k. (m.clients k).open_call ≡ Some c) mine there) in
      (refl, refl, inl refl, inl refl, inl refl, λ begun. begun, inl refl, inr (subst (λ (d : OpenCall). IsTrue (is_snapshot d.asked.call)) same (a.2).0)))
  call_step (Add id) a = at_some (Steps None) (chunk_added m id) m (asked_file m id) a.1 (asked_is m id a.0 a.1 a.2.0 a.2.1)
      (changed m None id.client _ refl (λ other. tt) (λ mine.
      subst (λ k. CallStep m client None old (begun_call id.number (m.clients k).open_call)) mine (begun_step id.number old)))
  call_step (Place who f i mutation) a = at_some (Steps None) (λ current. placed m who current f i mutation) m _ a.0 a.1
      (plain_step (with_chunk m f i (with_entry (chunk_at m f i) (record { client = who; number = (a.0).number }) mutation)) who (λ c. c) refl (λ c. same_call m client c))
  call_step (Tell who f i) a = step_taken m who (λ c. record c { offers = offer_of m f i ∷ c.offers }) refl (λ c there mine.
      let same : a.0 ≡ c = from_some (sym a.1 ∙ subst (λ k. (m.clients k).open_call ≡ Some c) mine there) in
      (refl, refl, inl refl, inr (f, i, subst (λ d. MayOffer m d f) same a.2, refl), inl refl, λ begun. begun, inl refl, inl refl))
  call_step (Note who f i noted count) a = note_taken who (record (m.clients who) { notes = put f (put i (Some noted) ((m.clients who).notes f)) (m.clients who).notes }) refl
  call_step (Look who f i least last chosen) a = at_some (Steps None) (λ current. looked m who current f i least chosen) m _ a.0 a.1
      (step_taken m who (λ c. record c { pieces = record { index = i; bytes = read_slice (chunk_size m f) i (a.0).asked.call chosen; round = Some least } ∷ c.pieces }) refl (λ c there mine.
      let same : a.0 ≡ c = from_some (sym a.1 ∙ subst (λ k. (m.clients k).open_call ≡ Some c) mine there) in (
        refl,
        refl,
        inr (
          _,
          by_look f i least last chosen (subst (λ d. MayLook m client d f i least last chosen) same (subst (λ k. MayLook m k a.0 f i least last chosen) (sym mine) a.2))
              (ap (λ (d : OpenCall). record { index = i; bytes = read_slice (chunk_size m f) i d.asked.call chosen; round = Some least }) same),
          refl,
        ),
        inl refl,
        inl refl,
        λ begun. begun,
        inl refl,
        inl refl,
      )))
  call_step (LookPast who i) a = step_taken m who (λ c. record c { pieces = record { index = i; bytes = []; round = None } ∷ c.pieces }) refl (λ c there mine.
      let same : a.0 ≡ c = from_some (sym a.1 ∙ subst (λ k. (m.clients k).open_call ≡ Some c) mine there) in
      (refl, refl, inr (_, by_none i (subst (λ d. MayLookPast d i) same a.2) refl, refl), inl refl, inl refl, λ begun. begun, inl refl, inl refl))
  call_step (Measure who f i told least last chosen) a = step_taken m who (λ c. record c { lengths = (i * chunk_size m f + image_length (mutations_of chosen)) ∷ c.lengths }) refl (λ c there mine.
      let same : a.0 ≡ c = from_some (sym a.1 ∙ subst (λ k. (m.clients k).open_call ≡ Some c) mine there) in
      let may : MayMeasure m client c f i told least last chosen =
      subst (λ d. MayMeasure m client d f i told least last chosen) same (subst (λ k. MayMeasure m k a.0 f i told least last chosen) (sym mine) a.2) in
      (refl, refl, inl refl, inl refl, inl refl, λ begun. begun, inr (_, by_measure f i told least last chosen may refl, refl), inl refl))
  call_step (MeasureNone who) a = step_taken m who (λ c. record c { lengths = 0 ∷ c.lengths }) refl (λ c there mine.
      let same : a.0 ≡ c = from_some (sym a.1 ∙ subst (λ k. (m.clients k).open_call ≡ Some c) mine there) in
      (refl, refl, inl refl, inl refl, inl refl, λ begun. begun, inr (_, by_no_chunk (subst MayMeasureNone same a.2) refl, refl), inl refl))
  call_step (Pass moment) a = unchanged m client (Some (Passed moment)) old tt
  call_step other a = unchanged m client None old tt
