-- While a client doesn't open a file again, its notes of the file's chunks never fall.
use Rattle.std.proofs.Common.{◌≡◌, ℕ, ◌≤◌, true, false, cond, List, [], ◌∷◌, Option, Some, None, refl, sym, subst, arith}
use Rattle.std.specs.Prelude.{IsSomeAnd, IfSome}
use Rattle.std.specs.List.{AllByRecursion}
use Rattle.relaxed_file.specs.Machine.{Machine, Client, put, with_client}
use Rattle.relaxed_file.specs.NameStep.{performed, is_refused, stepped, with_outcome}
use Rattle.relaxed_file.specs.Chunks.{chunk_added, placed}
use Rattle.relaxed_file.specs.Reads.{looked}
use Rattle.relaxed_file.specs.Answers.{returned}
use Rattle.relaxed_file.specs.Run.{Action, Invoke, Return, ReturnFd, Step, FindBusy, FindFull, Lock, Add, Place, Tell, Note, Look, LookPast, Measure, MeasureNone, Allows, after, after_all, IsLawful, asked_file}
use Rattle.relaxed_file.specs.RunLaws.{IsOpenedFor, NotesNeverFall, LooksNameNoEarlierRounds}
use Rattle.relaxed_file.proofs.Tables.{put_look, at_some}
use Rattle.relaxed_file.proofs.Known.{asked_is}
use Rattle.relaxed_file.proofs.OwnReads.{performed_clients}

module _ (client file index least : ℕ) where
  abbrev Reaches : Option ℕ → Type 0
  Reaches note = IsSomeAnd note (λ noted. least ≤ noted)

  abbrev Holds : Machine → Type 0
  Holds m = Reaches ((m.clients client).notes file index)

  -- another state of a client with the same notes
  same_notes : (m : Machine) (who : ℕ) (state : Client) → state.notes ≡ (m.clients who).notes → Holds m → Holds (with_client m who state)
  same_notes m who state same h = put_look (λ (c : Client). Reaches (c.notes file index)) who state m.clients client
      (λ is. subst (λ (t : ℕ → ℕ → Option ℕ). Reaches (t file index)) (sym same) (subst (λ k. Reaches ((m.clients k).notes file index)) is h))
      h

  raised : (note : Option ℕ) (round : ℕ) → Reaches note → IfSome note (λ before. before ≤ round) → least ≤ round
  raised None round h rises = absurd h
  raised (Some before) round h rises = omega (arith, h, rises)

  note_taken : (m : Machine) (who f i round : ℕ) → IfSome ((m.clients who).notes f i) (λ before. before ≤ round) → Holds m
      → Holds (with_client m who (record (m.clients who) { notes = put f (put i (Some round) ((m.clients who).notes f)) (m.clients who).notes }))
  note_taken m who f i round rises h = put_look (λ (c : Client). Reaches (c.notes file index)) who _ m.clients client
      (λ same. let mine : Reaches ((m.clients who).notes file index) = subst (λ k. Reaches ((m.clients k).notes file index)) same h in
      put_look (λ (t : ℕ → Option ℕ). Reaches (t index)) f (put i (Some round) ((m.clients who).notes f)) (m.clients who).notes file
      (λ this. let here : Reaches ((m.clients who).notes f index) = subst (λ g. Reaches ((m.clients who).notes g index)) this mine in
      put_look Reaches i (Some round) ((m.clients who).notes f) index
      (λ at. raised ((m.clients who).notes f i) round (subst (λ j. Reaches ((m.clients who).notes f j)) at here) rises)
      here)
      mine)
      h

  note_step : (m : Machine) (action : Action) → Allows m action → (IsOpenedFor client file action → ⊥) → Holds m → Holds (after m action)
  note_step m (Invoke who asked) a other h = same_notes m who _ refl h
  note_step m (Return who reply) a other h = at_some Holds (λ current. returned m who current reply) m _ a.0 a.1 (same_notes m who _ refl h)
  note_step m (ReturnFd who fd f) a other h = put_look (λ (c : Client). Reaches (c.notes file index)) who _ m.clients client
      (λ same. put_look (λ (t : ℕ → Option ℕ). Reaches (t index)) f (λ i. None) (m.clients who).notes file
      (λ this. absurd (other (sym same, sym this)))
      (subst (λ k. Reaches ((m.clients k).notes file index)) same h))
      h
  note_step m (Step who moment outcome) a other h = at_some Holds (λ current. stepped m who moment outcome current) m _ a.0 a.1
      (elim (is_refused outcome) as (λ b. Holds (with_outcome (cond b m (performed m (a.0).asked.call moment)) who outcome)) [
        | true ↦ same_notes m who _ refl h
        | false ↦ same_notes (performed m (a.0).asked.call moment) who _ refl
            (subst (λ (t : ℕ → Client). Reaches ((t client).notes file index)) (sym (performed_clients m (a.0).asked.call moment)) h)
      ])
  note_step m (FindBusy who holder) a other h = same_notes m who _ refl h
  note_step m (FindFull who) a other h = same_notes m who _ refl h
  note_step m (Lock who) a other h = same_notes m who _ refl h
  note_step m (Add id) a other h = at_some Holds (chunk_added m id) m (asked_file m id) a.1 (asked_is m id a.0 a.1 a.2.0 a.2.1) (same_notes m id.client _ refl h)
  note_step m (Place who f i mutation) a other h = at_some Holds (λ current. placed m who current f i mutation) m _ a.0 a.1 (same_notes m who _ refl h)
  note_step m (Tell who f i) a other h = same_notes m who _ refl h
  note_step m (Note who f i round count) a other h =
      same_notes (with_client m who (record (m.clients who) { notes = put f (put i (Some round) ((m.clients who).notes f)) (m.clients who).notes })) who _ refl
      (note_taken m who f i round (a.2).2 h)
  note_step m (Look who f i named last chosen) a other h = at_some Holds (λ current. looked m who current f i named chosen) m _ a.0 a.1 (same_notes m who _ refl h)
  note_step m (LookPast who i) a other h = same_notes m who _ refl h
  note_step m (Measure who f i told named last chosen) a other h = same_notes m who _ refl h
  note_step m (MeasureNone who) a other h = same_notes m who _ refl h
  note_step m action a other h = h

  notes_step : (m : Machine) (actions : List Action) → IsLawful m actions → AllByRecursion (λ action. IsOpenedFor client file action → ⊥) actions → Holds m → Holds (after_all m actions)
  notes_step m [] lawful others h = h
  notes_step m (action ∷ rest) lawful others h = notes_step (after m action) rest lawful.1 others.1 (note_step m action lawful.0 others.0 h)

pub notes_never_fall : NotesNeverFall
notes_never_fall m actions client file index noted lawful others is =
    notes_step client file index noted m actions lawful others (subst (λ o. IsSomeAnd o (λ later. noted ≤ later)) (sym is) (omega arith))

pub looks_name_no_earlier_rounds : LooksNameNoEarlierRounds
looks_name_no_earlier_rounds m actions client file index named later last last_later chosen chosen_later look lawful others look_later =
    subst (λ o. IsSomeAnd o (λ round. named ≤ round)) ((look_later.2).2).1 (notes_never_fall m actions client file index named lawful others ((look.2).2).1)
