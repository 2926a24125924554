-- How a client's note of a chunk changes by one action: it stays, is forgotten, or becomes a round that its open call on the file was told of the chunk.
use Rattle.std.proofs.Common.{◌≡◌, ℕ, ◌⊎◌, true, false, cond, Option, Some, None, refl, sym, ◌∙◌, ap, subst, inl, inr}
use Rattle.std.specs.Prelude.{Contains}
use Rattle.relaxed_file.specs.Machine.{Machine, Client, OpenCall, IsOpen, Told, put, with_client}
use Rattle.relaxed_file.specs.NameStep.{performed, is_refused, stepped, with_outcome}
use Rattle.relaxed_file.specs.Chunks.{chunk_added, placed}
use Rattle.relaxed_file.specs.Reads.{looked}
use Rattle.relaxed_file.specs.Answers.{returned}
use Rattle.relaxed_file.specs.Run.{Action, Invoke, Return, ReturnFd, Step, FindBusy, FindFull, Lock, Add, Place, Tell, Note, Look, LookPast, Measure, MeasureNone, Allows, after, asked_file}
use Rattle.relaxed_file.proofs.Tables.{put_look, at_some}
use Rattle.relaxed_file.proofs.Known.{asked_is}
use Rattle.relaxed_file.proofs.OwnReads.{performed_clients}

-- the note is a round that the client's open call on the file was told of the chunk
abbrev pub WasNoted : Machine → ℕ → ℕ → ℕ → Option ℕ → Type 0
WasNoted m client file index note =
    (c : OpenCall) × IsOpen m client c × (c.asked.file ≡ Some file) × (round : ℕ) × (count : ℕ) × Contains c.offers (Told index round count) × (note ≡ Some round)

abbrev pub NoteStep : Machine → ℕ → ℕ → ℕ → Option ℕ → Type 0
NoteStep m client file index note = (note ≡ (m.clients client).notes file index) ⊎ ((note ≡ None) ⊎ WasNoted m client file index note)

module _ (m : Machine) (client file index : ℕ) where
  abbrev Steps : Machine → Type 0
  Steps n = NoteStep m client file index ((n.clients client).notes file index)

  unchanged : Steps m
  unchanged = inl refl

  -- another state of a client with the same notes
  same_notes : (n : Machine) (who : ℕ) (state : Client) → state.notes ≡ (n.clients who).notes → Steps n → Steps (with_client n who state)
  same_notes n who state same h = put_look (λ (c : Client). NoteStep m client file index (c.notes file index)) who state n.clients client
      (λ is. subst (λ (t : ℕ → ℕ → Option ℕ). NoteStep m client file index (t file index)) (sym same) (subst (λ k. NoteStep m client file index ((n.clients k).notes file index)) is h))
      h

  note_taken : (who f i round count : ℕ) (current : OpenCall) → IsOpen m who current → current.asked.file ≡ Some f → Contains current.offers (Told i round count)
      → Steps (with_client m who (record (m.clients who) { notes = put f (put i (Some round) ((m.clients who).notes f)) (m.clients who).notes }))
  note_taken who f i round count current is on told = put_look (λ (c : Client). NoteStep m client file index (c.notes file index)) who _ m.clients client
      (λ same. put_look (λ (t : ℕ → Option ℕ). NoteStep m client file index (t index)) f (put i (Some round) ((m.clients who).notes f)) (m.clients who).notes file
      (λ this. put_look (NoteStep m client file index) i (Some round) ((m.clients who).notes f) index
      (λ at. inr (inr (current, subst (λ k. IsOpen m k current) (sym same) is, on ∙ ap Some (sym this), round, count, subst (λ j. Contains current.offers (Told j round count)) (sym at) told, refl)))
      (inl (ap (λ k. (m.clients k).notes f index) (sym same) ∙ ap (λ g. (m.clients client).notes g index) (sym this))))
      (inl (ap (λ k. (m.clients k).notes file index) (sym same))))
      unchanged

  pub note_step : (action : Action) → Allows m action → Steps (after m action)
  note_step (Invoke who asked) a = same_notes m who _ refl unchanged
  note_step (Return who reply) a = at_some Steps (λ current. returned m who current reply) m _ a.0 a.1 (same_notes m who _ refl unchanged)
  note_step (ReturnFd who fd f) a = put_look (λ (c : Client). NoteStep m client file index (c.notes file index)) who _ m.clients client
      (λ same. put_look (λ (t : ℕ → Option ℕ). NoteStep m client file index (t index)) f (λ i. None) (m.clients who).notes file
      (λ this. inr (inl refl))
      (inl (ap (λ k. (m.clients k).notes file index) (sym same))))
      unchanged
  note_step (Step who moment outcome) a = at_some Steps (λ current. stepped m who moment outcome current) m _ a.0 a.1
      (elim (is_refused outcome) as (λ b. Steps (with_outcome (cond b m (performed m (a.0).asked.call moment)) who outcome)) [
        | true ↦ same_notes m who _ refl unchanged
        | false ↦ same_notes (performed m (a.0).asked.call moment) who _ refl
            (subst (λ (t : ℕ → Client). NoteStep m client file index ((t client).notes file index)) (sym (performed_clients m (a.0).asked.call moment)) unchanged)
      ])
  note_step (FindBusy who holder) a = same_notes m who _ refl unchanged
  note_step (FindFull who) a = same_notes m who _ refl unchanged
  note_step (Lock who) a = same_notes m who _ refl unchanged
  note_step (Add id) a = at_some Steps (chunk_added m id) m (asked_file m id) a.1 (asked_is m id a.0 a.1 a.2.0 a.2.1) (same_notes m id.client _ refl unchanged)
  note_step (Place who f i mutation) a = at_some Steps (λ current. placed m who current f i mutation) m _ a.0 a.1 (same_notes m who _ refl unchanged)
  note_step (Tell who f i) a = same_notes m who _ refl unchanged
  note_step (Note who f i round count) a =
      same_notes (with_client m who (record (m.clients who) { notes = put f (put i (Some round) ((m.clients who).notes f)) (m.clients who).notes })) who _ refl
      (note_taken who f i round count a.0 a.1 (a.2).0 (a.2).1)
  note_step (Look who f i named last chosen) a = at_some Steps (λ current. looked m who current f i named chosen) m _ a.0 a.1 (same_notes m who _ refl unchanged)
  note_step (LookPast who i) a = same_notes m who _ refl unchanged
  note_step (Measure who f i told named last chosen) a = same_notes m who _ refl unchanged
  note_step (MeasureNone who) a = same_notes m who _ refl unchanged
  note_step action a = unchanged
