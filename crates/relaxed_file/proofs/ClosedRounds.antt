-- Once a chunk's round is closed, its order stays as it is until another round opens.
use Rattle.std.proofs.Common.{◌≡◌, ℕ, ◌<◌, ◌≤◌, ◌⊎◌, ⊎_elim, refl, sym, ◌∙◌, ap, subst, inl, inr, arith}
use Rattle.std.specs.Prelude.{IsTrue, IsFalse}
use Rattle.std.proofs.lemmas.Bool.{true≢false}
use Rattle.std.proofs.lemmas.Option.{none-some}
use Rattle.relaxed_file.specs.Machine.{Machine, FileState, Chunk, new_chunk, chunk_at, chunk_count, with_chunk}
use Rattle.relaxed_file.specs.Chunks.{chunk_added, placed, with_entry}
use Rattle.relaxed_file.specs.Run.{Action, Add, OpenRound, CloseRound, Place, Settle, Allows, after, asked_file}
use Rattle.relaxed_file.specs.RunLaws.{ClosedRoundsAreOver}
use Rattle.relaxed_file.proofs.Tables.{put_look, at_some}
use Rattle.relaxed_file.proofs.Reached.{kept_to}
use Rattle.relaxed_file.proofs.Known.{Known, known_step, asked_is, made_by_count}
use Rattle.relaxed_file.proofs.Grows.{grows_step, known_when_reached}
use Rattle.relaxed_file.proofs.FilesApart.{untouched}

module _ (file index : ℕ) (old : Chunk) (closed : IsFalse old.is_open) where
  -- a later round was opened since, or the chunk is as it was
  abbrev IsOver : Chunk → Type 0
  IsOver chunk = (old.round < chunk.round) ⊎ (chunk ≡ old)

  abbrev Holds : Machine → Type 0
  Holds m = IsOver (chunk_at m file index)

  opened : (chunk : Chunk) (round : ℕ) → chunk.round < round → IsOver chunk → old.round < round
  opened chunk round l (inl later) = omega arith
  opened chunk round l (inr same) = let e : chunk.round ≡ old.round = ap (λ (c : Chunk). c.round) same in omega arith

  -- only a chunk with a later round is open
  while_open : (chunk new : Chunk) → IsTrue chunk.is_open → new.round ≡ chunk.round → IsOver chunk → IsOver new
  while_open chunk new is_open e (inl later) = inl (omega arith)
  while_open chunk new is_open e (inr same) = absurd (true≢false (sym is_open ∙ ap (λ (c : Chunk). c.is_open) same ∙ closed))

  changed : (m : Machine) (f i : ℕ) (chunk : Chunk) → (IsOver (chunk_at m f i) → IsOver chunk) → Holds m → Holds (with_chunk m f i chunk)
  changed m f i chunk new h = put_look (λ (s : FileState). IsOver (s.chunks index)) f _ m.files file
      (λ this. let here : IsOver (chunk_at m f index) = subst (λ g. IsOver (chunk_at m g index)) this h in
      put_look IsOver i chunk (m.files f).chunks index (λ at. new (subst (λ j. IsOver (chunk_at m f j)) at here)) here)
      h

  over_step : (m : Machine) (action : Action) → Allows m action → Known m → index < chunk_count m file → Holds m → Holds (after m action)
  over_step m (Add id) a known there h = at_some Holds (chunk_added m id) m (asked_file m id) a.1 (asked_is m id a.0 a.1 a.2.0 a.2.1)
      (put_look (λ (s : FileState). IsOver (s.chunks index)) a.1 _ m.files file
      (λ this. put_look IsOver (chunk_count m a.1) new_chunk (m.files a.1).chunks index
      (λ at. let same : chunk_count m file ≡ chunk_count m a.1 = ap (λ g. chunk_count m g) this in absurd (omega arith))
      (subst (λ g. IsOver (chunk_at m g index)) this h))
      h)
  over_step m (OpenRound f i round) a known there h = changed m f i _ (λ over. inl (opened (chunk_at m f i) round a.2 over)) h
  over_step m (CloseRound f i) a known there h = changed m f i _ (while_open (chunk_at m f i) _ a refl) h
  over_step m (Place client f i mutation) a known there h = at_some Holds (λ current. placed m client current f i mutation) m _ a.0 a.1
      (changed m f i (with_entry (chunk_at m f i) (record { client = client; number = (a.0).number }) mutation) (while_open (chunk_at m f i) _ (a.2).2 refl) h)
  over_step m (Settle f i place) a known there h = changed m f i _ (while_open (chunk_at m f i) _ a.0 refl) h
  over_step m other a known there h = subst IsOver (sym (untouched m file (made_by_count m file index known there) other a (λ none. none-some file none) index)) h

  abbrev Keeps : Machine → Type 0
  Keeps m = Known m × (index < chunk_count m file) × Holds m

  keeps_step : (m : Machine) (action : Action) → Allows m action → Keeps m → Keeps (after m action)
  keeps_step m action a h =
      let more : chunk_count m file ≤ chunk_count (after m action) file = ((grows_step m action a h.0).files file).count in
      (known_step m action a h.0, omega (arith, more, h.1), over_step m action a h.0 h.1 h.2)

pub closed_rounds_are_over : ClosedRoundsAreOver
closed_rounds_are_over config m n file index reached way there closed same =
    let old : Chunk = chunk_at m file index in
    ⊎_elim (λ later. absurd (omega arith)) (λ is. ap (λ (c : Chunk). c.order) is)
    (kept_to (Keeps file index old closed) (keeps_step file index old closed) m n way (known_when_reached config m reached, there, inr refl)).2
