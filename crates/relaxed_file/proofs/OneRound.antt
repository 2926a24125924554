-- Between two rounds of a chunk that open, the first one closes.
use Rattle.std.proofs.Common.{◌≡◌, ℕ, suc, ◌<◌, ◌≤◌, ◌⊎◌, true, List, [], ◌∷◌, refl, sym, ◌∙◌, ap, subst, inl, inr, arith}
use Rattle.std.specs.Prelude.{IsTrue, Contains}
use Rattle.std.proofs.lemmas.Bool.{true≢false, cases_eq}
use Rattle.std.proofs.lemmas.Option.{none-some}
use Rattle.relaxed_file.specs.Machine.{Machine, FileState, Chunk, new_chunk, chunk_at, chunk_count, put, with_chunk}
use Rattle.relaxed_file.specs.Chunks.{chunk_added, placed, with_entry, round_opened}
use Rattle.relaxed_file.specs.Run.{Action, Add, OpenRound, CloseRound, Place, Settle, Allows, after, after_all, IsLawful, asked_file}
use Rattle.relaxed_file.specs.RunLaws.{RoundsComeOneByOne}
use Rattle.relaxed_file.proofs.Tables.{put_look, put_same, at_some}
use Rattle.relaxed_file.proofs.Known.{Known, known_step, asked_is, made_by_round, there_by_round}
use Rattle.relaxed_file.proofs.Grows.{grows_to, known_when_reached}
use Rattle.relaxed_file.proofs.FilesApart.{untouched}

module _ (file index : ℕ) where
  abbrev IsOpenIn : Machine → Type 0
  IsOpenIn m = IsTrue (chunk_at m file index).is_open

  -- a chunk changes, and stays open where it is this one
  changed : (m : Machine) (f i : ℕ) (chunk : Chunk) → (f ≡ file → i ≡ index → IsTrue chunk.is_open) → IsOpenIn m → IsOpenIn (with_chunk m f i chunk)
  changed m f i chunk new h = put_look (λ (s : FileState). IsTrue (s.chunks index).is_open) f _ m.files file
      (λ this. put_look (λ (c : Chunk). IsTrue c.is_open) i chunk (m.files f).chunks index
      (λ at. new (sym this) (sym at))
      (subst (λ g. IsTrue (chunk_at m g index).is_open) this h))
      h

  closes : (f i : ℕ) → (CloseRound f i ≡ CloseRound file index) ⊎ (f ≡ file → i ≡ index → ⊥)
  closes f i = elim (cases_eq f file) [
    | inl this ↦ elim (cases_eq i index) [
      | inl at ↦ inl (λ k. CloseRound (this k) (at k))
      | inr other ↦ inr (λ same at. other at)
    ]
    | inr other ↦ inr (λ same at. other same)
  ]

  stays_open : (m : Machine) (action : Action) → Allows m action → Known m → IsOpenIn m → (action ≡ CloseRound file index) ⊎ IsOpenIn (after m action)
  stays_open m (Add id) a known h = inr (at_some IsOpenIn (chunk_added m id) m (asked_file m id) a.1 (asked_is m id a.0 a.1 a.2.0 a.2.1)
      (put_look (λ (s : FileState). IsTrue (s.chunks index).is_open) a.1 _ m.files file
      (λ this. put_look (λ (c : Chunk). IsTrue c.is_open) (chunk_count m a.1) new_chunk (m.files a.1).chunks index
      (λ at. let there : index < chunk_count m file = there_by_round m file index known h in
      let same : chunk_count m file ≡ chunk_count m a.1 = ap (λ g. chunk_count m g) this in absurd (omega (arith, there, same, at)))
      (subst (λ g. IsTrue (chunk_at m g index).is_open) this h))
      h))
  stays_open m (OpenRound f i round) a known h = inr (changed m f i _ (λ this at. refl) h)
  stays_open m (CloseRound f i) a known h = elim (closes f i) [
    | inl is ↦ inl is
    | inr other ↦ inr (changed m f i _ (λ this at. absurd (other this at)) h)
  ]
  stays_open m (Place client f i mutation) a known h = inr (at_some IsOpenIn (λ current. placed m client current f i mutation) m _ a.0 a.1
      (changed m f i (with_entry (chunk_at m f i) (record { client = client; number = (a.0).number }) mutation) (λ this at. (a.2).2) h))
  stays_open m (Settle f i place) a known h = inr (changed m f i _ (λ this at. a.0) h)
  stays_open m other a known h = inr (subst (λ (c : Chunk). IsTrue c.is_open) (sym (untouched m file (made_by_round m file index known h) other a (λ none. none-some file none) index)) h)

  closed_between : (m : Machine) (actions : List Action) (next : ℕ) → Known m → IsOpenIn m → IsLawful m actions → Allows (after_all m actions) (OpenRound file index next)
      → Contains actions (CloseRound file index)
  closed_between m [] next known h lawful opens = absurd (true≢false (sym h ∙ opens.1))
  closed_between m (x ∷ xs) next known h lawful opens = elim (stays_open m x lawful.0 known h) [
    | inl is ↦ (0, omega arith, is)
    | inr still ↦
        let rest : Contains xs (CloseRound file index) = closed_between (after m x) xs next (known_step m x lawful.0 known) still lawful.1 opens in
        (suc rest.0, omega (arith, rest.1), rest.2)
  ]

  opened_is : (m : Machine) (round : ℕ) → chunk_at (round_opened m file index round) file index ≡ record (chunk_at m file index) { round = round; is_open = true }
  opened_is m round =
      ap (λ (f : FileState). f.chunks index) (put_same file (record (m.files file) { chunks = put index (record (chunk_at m file index) { round = round; is_open = true }) (m.files file).chunks }) m.files)
      ∙ put_same index (record (chunk_at m file index) { round = round; is_open = true }) (m.files file).chunks

pub rounds_come_one_by_one : RoundsComeOneByOne
rounds_come_one_by_one config m file index round next actions reached opens lawful again =
    let start : Machine = after m (OpenRound file index round) in
    let known : Known start = known_step m (OpenRound file index round) opens (known_when_reached config m reached) in
    let is : chunk_at start file index ≡ record (chunk_at m file index) { round = round; is_open = true } = opened_is file index m round in
    let rose : (chunk_at start file index).round ≤ (chunk_at (after_all start actions) file index).round = (((grows_to start (after_all start actions) (actions, lawful, refl) known).files file).chunks index).round in
    let first : (chunk_at start file index).round ≡ round = ap (λ (c : Chunk). c.round) is in
    let later : (chunk_at (after_all start actions) file index).round < next = again.2 in
    (closed_between file index start actions next known (ap (λ (c : Chunk). c.is_open) is) lawful again, omega (arith, rose, first, later))
