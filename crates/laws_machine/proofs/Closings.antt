-- The rounds below a snapshot's source are closed one by one.
use Rattle.std.proofs.Common.{◌≡◌, ◌⊎◌, ℕ, suc, ◌+◌, ◌<◌, ◌≤◌, false, List, [], ◌∷◌, ◌++◌, Some, refl, sym, ap, subst, ◌∙◌, inl, inr, arith}
use Rattle.std.specs.Prelude.{flat_map, unwrap_or, IsTrue}
use Rattle.std.specs.List.{AllByRecursion}
use Rattle.std.specs.FinMap as table
use Rattle.gfs_types.specs.Paths.{Path}
use Rattle.relaxed_file.specs.Names.{Node, Dir, File, copied_entries}
use Rattle.relaxed_file.specs.Machine.{Machine, Chunk, chunk_at}
use Rattle.relaxed_file.specs.Chunks.{round_closed}
use Rattle.relaxed_file.specs.Run.{Action, CloseRound, IsLawful, after, after_all}
use Rattle.protocol.specs.Tables.{element_at}
use Rattle.protocol.specs.Logged.{Logged}
use Rattle.laws_base.proofs.Steps as steps
use Rattle.protocol_invariant.specs.Actions.{Spot, closings_from, closings_of_node}
use Rattle.laws_machine.specs.ChunksAlike.{ChunkSides, chunk_in, StandsAt, AreChunksAlike, KeepsChunks, KeepsRounds}
use Rattle.laws_machine.specs.ChunkRecords.{AreFilesOnce, StandsIn, RoundsAreClosed}
use Rattle.laws_machine.proofs.Sides.{still_open, spot_at, same_spot}
use Rattle.laws_machine.proofs.OneChunk.{IsChangedAt, one_changed, HasPlace, one_owner}

-- lists of actions, one after the other
pub after_both : (m : Machine) (xs ys : List Action) → after_all m (xs ++ ys) ≡ after_all (after_all m xs) ys
after_both m [] ys = refl
after_both m (x ∷ xs) ys = after_both (after m x) xs ys

pub lawful_both : (m : Machine) (xs ys : List Action) → IsLawful m xs → IsLawful (after_all m xs) ys → IsLawful m (xs ++ ys)
lawful_both m [] ys first second = second
lawful_both m (x ∷ xs) ys first second = (first.0, lawful_both (after m x) xs ys first.1 second)

abbrev with_machine : ChunkSides → Machine → ChunkSides
with_machine k m = record k { machine = m }

-- From one state to another by actions that close rounds: all else of the chunks stays.
record Closes (E : ℕ → Type 0) (k : ChunkSides) (actions : List Action) (n : Machine) : Type 0 where
  pub is : after_all k.machine actions ≡ n
  pub allowed : IsLawful k.machine actions
  pub keeps : KeepsChunks E k (with_machine k n)

closes_nothing : (E : ℕ → Type 0) (k : ChunkSides) → AreChunksAlike k → Closes E k [] k.machine
closes_nothing E k h = record { is = refl; allowed = tt; keeps = record { alike = h; rounds = λ handle version s was_open. inr was_open } }

closes_both : (E : ℕ → Type 0) (k : ChunkSides) (xs ys : List Action) (m n : Machine) → Closes E k xs m → Closes E (with_machine k m) ys n → Closes E k (xs ++ ys) n
closes_both E k xs ys m n first second = record {
  is = after_both k.machine xs ys ∙ ap (λ (x : Machine). after_all x ys) first.is ∙ second.is;
  allowed = lawful_both k.machine xs ys first.allowed (subst (λ (x : Machine). IsLawful x ys) (sym first.is) second.allowed);
  keeps = record {
    alike = second.keeps.alike;
    rounds = λ handle version s was_open. elim (first.keeps.rounds handle version s was_open) [
      | inl over ↦ inl over
      | inr still ↦ second.keeps.rounds handle version s still
    ];
  };
}

-- one round is closed
module _ (E : ℕ → Type 0) (k : ChunkSides) (h : AreChunksAlike k) (handle : ℕ) (s : Spot) (place : StandsAt k.log.table handle s) (ends : E handle) where
  abbrev shut : Chunk
  shut = record (chunk_in k.machine s) { is_open = false }

  abbrev closed : ChunkSides
  closed = with_machine k (round_closed k.machine s.file s.index)

  changed : IsChangedAt k.machine closed.machine s shut
  changed = one_changed k.machine s shut

  same_order : (at : Spot) → (at ≡ s) ⊎ (at ≡ s → ⊥) → (chunk_in closed.machine at).order ≡ (chunk_in k.machine at).order
  same_order at (inl same) = ap (λ (x : Spot). (chunk_in closed.machine x).order) same ∙ ap (λ (c : Chunk). c.order) changed.here ∙ ap (λ (x : Spot). (chunk_in k.machine x).order) (sym same)
  same_order at (inr differs) = ap (λ (c : Chunk). c.order) (changed.elsewhere at differs)

  same_round : (at : Spot) → (at ≡ s) ⊎ (at ≡ s → ⊥) → (chunk_in closed.machine at).round ≡ (chunk_in k.machine at).round
  same_round at (inl same) = ap (λ (x : Spot). (chunk_in closed.machine x).round) same ∙ ap (λ (c : Chunk). c.round) changed.here ∙ ap (λ (x : Spot). (chunk_in k.machine x).round) (sym same)
  same_round at (inr differs) = ap (λ (c : Chunk). c.round) (changed.elsewhere at differs)

  spot_or_not : (at : Spot) → (at ≡ s) ⊎ (at ≡ s → ⊥)
  spot_or_not at = elim (steps.same_or_not at.file s.file) [
    | inl files ↦ elim (steps.same_or_not at.index s.index) [
      | inl indexes ↦ inl (same_spot at s files indexes)
      | inr differs ↦ inr (λ same. differs (ap (λ (x : Spot). x.index) same))
    ]
    | inr differs ↦ inr (λ same. differs (ap (λ (x : Spot). x.file) same))
  ]

  closed_alike : AreChunksAlike closed
  closed_alike = record {
    there = λ file handles is.
        let old = h.there file handles is in
        record {
          numbered = old.numbered;
          count = changed.counts file ∙ old.count;
          chunks = λ index x at.
              let has = old.chunks index x at in
              let spot : Spot = record { file = file; index = index } in
              (has.0, has.1, record { order = has.2.order ∙ sym (same_order spot (spot_or_not spot)); round = same_round spot (spot_or_not spot) ∙ has.2.round });
        };
    gone = λ x at was. let old = h.gone x at was in record { numbered = old.numbered; collected = old.collected; count = subst (λ (n : ℕ). at.index < n) (sym (changed.counts at.file)) old.count };
    apart = h.apart;
  }

  closed_rounds : KeepsRounds E k closed
  closed_rounds x version at was_open = elim (spot_or_not at) [
    | inl same ↦
        let owner : x ≡ handle = one_owner k h x handle s (subst (λ (y : Spot). HasPlace k x y) same was_open.place) (inl place) in
        inl (subst (λ (n : ℕ). E n) (sym owner) ends)
    | inr differs ↦ inr (still_open k closed x version at was_open was_open.place refl (changed.elsewhere at differs))
  ]

  closes_one : IsTrue (chunk_in k.machine s).is_open → Closes E k (CloseRound s.file s.index ∷ []) closed.machine
  closes_one is_open = record { is = refl; allowed = (is_open, tt); keeps = record { alike = closed_alike; rounds = closed_rounds } }

record ClosesFrom (E : ℕ → Type 0) (m : Machine) (k : ChunkSides) (file index : ℕ) (actions : List Action) : Type 0 where
  pub n : Machine
  pub closes : Closes E k actions n
  pub others : (at : Spot) → (at.file ≡ file → ⊥) → chunk_in n at ≡ chunk_in k.machine at

-- the rounds of one file's chunks, whose handles are these from an index on
closes_from : (E : ℕ → Type 0) (m : Machine) (k : ChunkSides) (file index : ℕ) (handles : List ℕ) → AreChunksAlike k
    → ((place handle : ℕ) → element_at handles place ≡ Some handle → StandsAt k.log.table handle (spot_at file (index + place)) × E handle)
    → ((place : ℕ) → index ≤ place → chunk_at k.machine file place ≡ chunk_at m file place) → ClosesFrom E m k file index (closings_from m file index handles)
closes_from E m k file index [] h each before = record { n = k.machine; closes = closes_nothing E k h; others = λ at differs. refl }
closes_from E m k file index (handle ∷ rest) h each before =
    steps.on_cond (λ (first : List Action). ClosesFrom E m k file index (first ++ closings_from m file (suc index) rest)) (chunk_at m file index).is_open (CloseRound file index ∷ []) []
    (λ is_open.
    let s : Spot = record { file = file; index = index } in
    let place : StandsAt k.log.table handle s = subst (λ (n : ℕ). StandsAt k.log.table handle (spot_at file n)) plus_none ((each 0 handle refl).0) in
    let ends : E handle = (each 0 handle refl).1 in
    let one = closes_one E k h handle s place ends (ap (λ (c : Chunk). c.is_open) (before index (omega arith)) ∙ is_open) in
    let next : ChunkSides = with_machine k (round_closed k.machine file index) in
    let change = one_changed k.machine s (record (chunk_in k.machine s) { is_open = false }) in
    let more = closes_from E m next file (suc index) rest one.keeps.alike (λ place_ x at. (subst (λ (n : ℕ). StandsAt k.log.table x (spot_at file n)) (plus_suc place_) ((each (suc place_) x at).0), (each (suc place_) x at).1))
    (λ place_ low. change.elsewhere (spot_at file place_) (λ same. let at = ap (λ (y : Spot). y.index) same in absurd (omega (arith, at, low))) ∙ before place_ (omega (arith, low))) in
    record {
      n = more.n;
      closes = closes_both E k (CloseRound file index ∷ []) (closings_from m file (suc index) rest) next.machine more.n one more.closes;
      others = λ at differs. more.others at differs ∙ change.elsewhere at (λ same. differs (ap (λ (y : Spot). y.file) same));
    })
    (λ is_closed.
    let more = closes_from E m k file (suc index) rest h (λ place_ x at. (subst (λ (n : ℕ). StandsAt k.log.table x (spot_at file n)) (plus_suc place_) ((each (suc place_) x at).0), (each (suc place_) x at).1)) (λ place_ low. before place_ (omega (arith, low))) in
    record { n = more.n; closes = more.closes; others = more.others })
  where
    plus_none : index + 0 ≡ index
    plus_none = omega arith

    plus_suc : (n : ℕ) → index + suc n ≡ suc index + n
    plus_suc n = omega arith

-- one copied name, and then all of them
record ClosesAll (E : ℕ → Type 0) (k : ChunkSides) (actions : List Action) : Type 0 where
  pub n : Machine
  pub closes : Closes E k actions n

abbrev IsFileIn : List (Path × Node) → ℕ → Type 0
IsFileIn [] file = ⊥
IsFileIn (e ∷ rest) file = (e.1 ≡ File file) ⊎ IsFileIn rest file

closes_all : (E : ℕ → Type 0) (m : Machine) (l : Logged) (k : ChunkSides) (es : List (Path × Node)) → k.log ≡ l → AreChunksAlike k → AreFilesOnce es → ((handle : ℕ) → StandsIn l es handle → E handle)
    → ((at : Spot) → IsFileIn es at.file → chunk_in k.machine at ≡ chunk_in m at) → ClosesAll E k (flat_map (λ (e : Path × Node). closings_of_node m l e.1) es)
closes_all E m l k [] log_is h once ends before = record { n = k.machine; closes = closes_nothing E k h }
closes_all E m l k (e ∷ rest) log_is h once ends before =
    by_node e.1 refl (λ j j_log j_alike j_before. closes_all E m l j rest j_log j_alike once.1 (λ handle is_in. ends handle (inr is_in)) j_before)
  where
    zero_plus : (i : ℕ) → i ≡ 0 + i
    zero_plus i = omega arith

    not_in : (file : ℕ) (es : List (Path × Node)) → AllByRecursion (λ (other : Path × Node). other.1 ≡ File file → ⊥) es → IsFileIn es file → ⊥
    not_in file [] all is = is
    not_in file (x ∷ xs) all (inl is) = all.0 is
    not_in file (x ∷ xs) all (inr is) = not_in file xs all.1 is

    by_node : (node : Node) → e.1 ≡ node → ((j : ChunkSides) → j.log ≡ l → AreChunksAlike j → ((at : Spot) → IsFileIn rest at.file → chunk_in j.machine at ≡ chunk_in m at) → ClosesAll E j (flat_map (λ (e : Path × Node). closings_of_node m l e.1) rest))
        → ClosesAll E k (flat_map (λ (e : Path × Node). closings_of_node m l e.1) (e ∷ rest))
    by_node Dir is go_on =
        let more = go_on k log_is h (λ at in_rest. before at (inr in_rest)) in
        record { n = more.n; closes = subst (λ (node : Node). Closes E k (closings_of_node m l node ++ flat_map (λ (e : Path × Node). closings_of_node m l e.1) rest) more.n) (sym is) more.closes }
    by_node (File file) is go_on =
        let handles : List ℕ = unwrap_or (table.get l.table.files file) [] in
        let one = closes_from E m k file 0 handles h (λ place handle at. (subst (λ (i : ℕ). StandsAt k.log.table handle (spot_at file i)) (zero_plus place) (subst (λ (x : Logged). StandsAt x.table handle (spot_at file place)) (sym log_is) at), ends handle (inl (file, is, (place, at)))))
        (λ place low. before (spot_at file place) (inl is)) in
        let next : ChunkSides = with_machine k one.n in
        let more = go_on next log_is one.closes.keeps.alike
        (λ at in_rest. one.others at (λ same. not_in at.file rest (once.0 at.file (is ∙ ap (λ (n : ℕ). File n) (sym same))) in_rest) ∙ before at (inr in_rest)) in
        record {
          n = more.n;
          closes = subst (λ (node : Node). Closes E k (closings_of_node m l node ++ flat_map (λ (e : Path × Node). closings_of_node m l e.1) rest) more.n) (sym is)
              (closes_both E k (closings_from m file 0 handles) (flat_map (λ (e : Path × Node). closings_of_node m l e.1) rest) one.n more.n one.closes more.closes);
        }

pub rounds_are_closed : RoundsAreClosed
rounds_are_closed k from to h once =
    let es : List (Path × Node) = copied_entries k.log.names from to in
    let all = closes_all (StandsIn k.log es) k.machine k.log k es refl h once (λ handle is_in. is_in) (λ at is. refl) in
    record { allowed = all.closes.allowed; keeps = subst (λ (m : Machine). KeepsChunks (StandsIn k.log es) k (with_machine k m)) (sym all.closes.is) all.closes.keeps }
