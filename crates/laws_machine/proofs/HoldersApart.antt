-- What stands for a chunk stays so as an entry comes or is settled in an open round.
use Rattle.std.proofs.Common.{◌≡◌, ◌⊎◌, ℕ, ◌<◌, Bool, true, false, cond, List, [], ◌∷◌, map, refl, sym, ap, subst, ◌∙◌, inl, inr}
use Rattle.std.specs.Prelude.{nat_le, filter, IsTrue}
use Rattle.std.proofs.lemmas.Bool.{cases_lt}
use Rattle.relaxed_file.specs.Order.{Entry}
use Rattle.relaxed_file.specs.Machine.{Machine, Chunk, chunk_at, chunk_count}
use Rattle.relaxed_file.specs.Run.{Action, Visible, after_all}
use Rattle.protocol.specs.Tables.{Table}
use Rattle.protocol.specs.declared.seen.Seen.{Seen}
use Rattle.protocol.specs.Observer.{Placed, placed_in, orders_after}
use Rattle.laws_base.proofs.Steps.{same_or_not}
use Rattle.laws_versions.specs.SkippedRounds.{up_to}
use Rattle.laws_versions.proofs.UpTo.{IsLater, all_same}
use Rattle.protocol_invariant.specs.Actions.{Spot}
use Rattle.laws_machine.specs.ChunksAlike.{ChunkSides, IsRoundOpen, chunk_in, entries_in, moved}
use Rattle.laws_machine.proofs.Sides.{same_spot}
use Rattle.laws_machine.specs.ChunkReadings.{AgreeUpTo}
use Rattle.laws_machine.specs.HoldersApart.{IsRoundAt, IsApart, KeepsStanding}

pub spot_or_not : (s t : Spot) → (s ≡ t) ⊎ (s ≡ t → ⊥)
spot_or_not s t = elim (same_or_not s.file t.file) [
  | inl file ↦ elim (same_or_not s.index t.index) [
    | inl index ↦ inl (same_spot s t file index)
    | inr differs ↦ inr (λ same. differs (ap (λ (at : Spot). at.index) same))
  ]
  | inr differs ↦ inr (λ same. differs (ap (λ (at : Spot). at.file) same))
]

-- entries up to a round, with their serials or without

entries_up : (low : ℕ) (ps : List Placed) → filter (λ (e : Entry). nat_le e.round low) (map (λ (p : Placed). p.entry) ps) ≡ map (λ (p : Placed). p.entry) (up_to low ps)
entries_up low [] = refl
entries_up low (p ∷ ps) = by_test (nat_le p.entry.round low) (entries_up low ps)
  where
    by_test : (b : Bool) → filter (λ (e : Entry). nat_le e.round low) (map (λ (q : Placed). q.entry) ps) ≡ map (λ (q : Placed). q.entry) (up_to low ps)
        → cond b (p.entry ∷ filter (λ (e : Entry). nat_le e.round low) (map (λ (q : Placed). q.entry) ps)) (filter (λ (e : Entry). nat_le e.round low) (map (λ (q : Placed). q.entry) ps))
        ≡ map (λ (q : Placed). q.entry) (cond b (p ∷ up_to low ps) (up_to low ps))
    by_test true same = ap (λ (es : List Entry). p.entry ∷ es) same
    by_test false same = same

pub same_up : (low : ℕ) (ps qs : List Placed) → up_to low ps ≡ up_to low qs → AgreeUpTo low (map (λ (p : Placed). p.entry) ps) (map (λ (p : Placed). p.entry) qs)
same_up low ps qs same = entries_up low ps ∙ (ap (λ (xs : List Placed). map (λ (p : Placed). p.entry) xs) same ∙ sym (entries_up low qs))

-- what is seen of later rounds changes none
pub later_entries : (low : ℕ) (trace : List Visible) (orders : Table (List Placed)) (x : Seen) (handle : ℕ) → IsLater low handle x → AgreeUpTo low (entries_in (orders_after trace orders x) handle) (entries_in orders handle)
later_entries low trace orders x handle later = same_up low (placed_in (orders_after trace orders x) handle) (placed_in orders handle) (all_same low handle trace orders (x ∷ []) (later, tt))

abbrev up : ℕ → List Entry → List Entry
up low es = filter (λ (e : Entry). nat_le e.round low) es

-- an entry comes or is settled in the open round of this handle, whose lease isn't over: of each other handle and chunk nothing changes
module _ (IsOver : ℕ → ℕ → Type 0) (k : ChunkSides) (actions : List Action) (orders : Table (List Placed)) (handle version : ℕ) (s : Spot) (was : IsRoundOpen k handle version s) (now : IsRoundOpen (moved k actions k.log k.gone orders) handle version s)
    (not_over : IsOver handle version → ⊥) (others : (other : ℕ) → (other ≡ handle → ⊥) → entries_in orders other ≡ entries_in k.orders other)
    (below : (low : ℕ) → low < version → AgreeUpTo low (entries_in orders handle) (entries_in k.orders handle))
    (elsewhere : (at : Spot) → (at ≡ s → ⊥) → chunk_in (after_all k.machine actions) at ≡ chunk_in k.machine at) (counts : (file : ℕ) → chunk_count (after_all k.machine actions) file ≡ chunk_count k.machine file)
  where
    abbrev then_ : Machine
    then_ = after_all k.machine actions

    abbrev j : ChunkSides
    j = moved k actions k.log k.gone orders

    round_before : (other round : ℕ) (t : Spot) → IsRoundAt j other round t → IsRoundAt k other round t
    round_before other round t at = elim (spot_or_not t s) [
      | inl same ↦
          record {
            place = at.place;
            round = ap (λ (u : Spot). (chunk_in k.machine u).round) same ∙ (was.round ∙ (sym now.round ∙ (ap (λ (u : Spot). (chunk_in then_ u).round) (sym same) ∙ at.round)));
            is_open = subst (λ (u : Spot). IsTrue (chunk_in k.machine u).is_open) (sym same) was.is_open;
          }
      | inr apart ↦
          record {
            place = at.place;
            round = ap (λ (c : Chunk). c.round) (sym (elsewhere t apart)) ∙ at.round;
            is_open = subst (λ (c : Chunk). IsTrue c.is_open) (elsewhere t apart) at.is_open;
          }
    ]

    -- of rounds before this one nothing changes
    handles_same : (low q : ℕ) → low < version → AgreeUpTo low (entries_in orders q) (entries_in k.orders q)
    handles_same low q less = elim (same_or_not q handle) [
      | inl same ↦ subst (λ (n : ℕ). AgreeUpTo low (entries_in orders n) (entries_in k.orders n)) (sym same) (below low less)
      | inr differs ↦ ap (λ (es : List Entry). up low es) (others q differs)
    ]

    chunks_same : (low : ℕ) (t : Spot) → low < version → AgreeUpTo low (chunk_in k.machine t).order (chunk_in then_ t).order
    chunks_same low t less = elim (spot_or_not t s) [
      | inl same ↦
          subst (λ (u : Spot). AgreeUpTo low (chunk_in k.machine u).order (chunk_in then_ u).order) (sym same)
          (ap (λ (es : List Entry). up low es) (sym was.order) ∙ (sym (below low less) ∙ ap (λ (es : List Entry). up low es) now.order))
      | inr apart ↦ ap (λ (c : Chunk). up low c.order) (sym (elsewhere t apart))
    ]

    -- of this round all changes alike
    entries_now : (low q : ℕ) (t : Spot) → (handle ≡ q → s ≡ t) × (s ≡ t → handle ≡ q) → AgreeUpTo low (entries_in k.orders q) (chunk_in k.machine t).order → AgreeUpTo low (entries_in orders q) (chunk_in then_ t).order
    entries_now low q t both before = elim (same_or_not q handle) [
      | inl same ↦ ap (λ (es : List Entry). up low es) (ap (λ (n : ℕ). entries_in orders n) same ∙ (now.order ∙ ap (λ (u : Spot). (chunk_in then_ u).order) (both.0 (sym same))))
      | inr differs ↦
          ap (λ (es : List Entry). up low es) (others q differs) ∙ (before ∙ ap (λ (c : Chunk). up low c.order) (sym (elsewhere t (λ same. differs (sym (both.1 (sym same)))))))
    ]

    entries_on : (file index q low : ℕ) → IsApart IsOver k q low (record { file = file; index = index }) → AgreeUpTo low (entries_in k.orders q) (chunk_at k.machine file index).order → AgreeUpTo low (entries_in orders q) (chunk_at then_ file index).order
    entries_on file index q low apart before = elim (cases_lt low version) [
      | inl less ↦ handles_same low q less ∙ (before ∙ chunks_same low (record { file = file; index = index }) less)
      | inr least ↦ elim (apart handle version s (record { place = was.place; round = was.round; is_open = was.is_open }) least) [
        | inl over ↦ absurd (not_over over)
        | inr both ↦ entries_now low q (record { file = file; index = index }) both before
      ]
    ]

    pub standing_kept : KeepsStanding IsOver k j
    standing_kept file index q low apart stands = (
      λ other round t at few. apart other round t (round_before other round t at) few,
      record { count = subst (λ (n : ℕ). index < n) (sym (counts file)) stands.count; entries = entries_on file index q low apart stands.entries },
    )
