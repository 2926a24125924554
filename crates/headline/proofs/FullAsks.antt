-- Past a chunk for which a client asked, to append to it, the machine's chunk is full: what was told of it stands for that chunk up to the told round, and of such a round is an entry that ends at the chunk's end.
use Rattle.std.proofs.Common.{◌≡◌, ℕ, zero, suc, ◌≤◌, min, Bool, true, false, cond, List, [], ◌∷◌, Some, refl, sym, ap, subst, ◌∙◌, arith}
use Rattle.std.specs.Prelude.{◌==◌, ◌||◌, nat_le, filter, map, IsTrue}
use Rattle.std.specs.List.{list_any}
use Rattle.std.proofs.lemmas.Bool.{eq-eqb, leb-false, or_right}
use Rattle.std.proofs.Math.Nat.{min-eq_left}
use Rattle.gfs_types.specs.declared.config.Config.{Config}
use Rattle.gfs_types.specs.declared.shape.Shape.{Shape}
use Rattle.gfs_types.specs.Mutations.{end_of}
use Rattle.messages.specs.declared.message.Location.{Location}
use Rattle.relaxed_file.specs.Order.{Entry}
use Rattle.relaxed_file.specs.Machine.{chunk_at, chunk_size}
use Rattle.protocol.specs.Tables.{Table, element_at}
use Rattle.protocol.specs.Observer.{Placed, placed_in, order_of}
use Rattle.laws_base.proofs.Steps.{on_cond, none_some, same_some}
use Rattle.laws_base.proofs.Lengths.{settings_stay}
use Rattle.laws_base.specs.Laws.{IsSizeGranted}
use Rattle.laws_base.specs.Reads.{IsTold}
use Rattle.laws_versions.specs.ReplacedChunks.{IsToldAt}
use Rattle.laws_versions.proofs.OneSizes.{told_shapes_have_the_granted_size}
use Rattle.laws_versions.proofs.RowSizes.{size_counts}
use Rattle.laws_versions.specs.FullOrders.{HasFullEnd}
use Rattle.laws_machine.specs.FullBefore.{IsFullBefore}
use Rattle.laws_machine.proofs.FullBefore.{asks_past_a_chunk_find_it_full}
use Rattle.laws_machine.proofs.GrantedRounds.{granted_from_one}
use Rattle.laws_machine.specs.HoldersApart.{StandsUpTo}
use Rattle.laws_machine.proofs.ServerSteps.{size_within}
use Rattle.headline.specs.AskedChunks.{IsFullAt, AsksAreFull}

-- entries that end at the chunk's end, of rounds up to a version

module _ (size version : ℕ) where
  abbrev ends : Entry → Bool
  ends e = end_of e.mutation == size

  abbrev within : List Entry → List Entry
  within order = filter (λ e. nat_le e.round version) order

  one_within : (order : List Placed) (place : ℕ) (p : Placed) → element_at order place ≡ Some p → p.entry.round ≤ version → end_of p.entry.mutation ≡ size → list_any ends (within (map (λ (q : Placed). q.entry) order)) ≡ true
  one_within [] place p at low is = none_some p at
  one_within (q ∷ order) zero p at low is =
      let same : q ≡ p = same_some q p at in
      let rest : List Entry = within (map (λ (x : Placed). x.entry) order) in
      on_cond (λ (es : List Entry). list_any ends es ≡ true) (nat_le q.entry.round version) (q.entry ∷ rest) rest
      (λ _. ap (λ (b : Bool). b || list_any ends rest) (eq-eqb (end_of q.entry.mutation) size (ap (λ (x : Placed). end_of x.entry.mutation) same ∙ is)))
      (λ late. absurd (let high = leb-false q.entry.round version late in let round : q.entry.round ≡ p.entry.round = ap (λ (x : Placed). x.entry.round) same in omega (arith, high, round, low)))
  one_within (q ∷ order) (suc place) p at low is =
      let rest : List Entry = within (map (λ (x : Placed). x.entry) order) in
      let more = one_within order place p at low is in
      on_cond (λ (es : List Entry). list_any ends es ≡ true) (nat_le q.entry.round version) (q.entry ∷ rest) rest (λ _. or_right (ends q.entry) (list_any ends rest) more) (λ _. more)

  or_more : (a b d : Bool) → (b ≡ true → d ≡ true) → a || b ≡ true → a || d ≡ true
  or_more true b d go h = refl
  or_more false b d go h = go h

  by_round : (e : Entry) (order : List Entry) (b : Bool) → (list_any ends (within order) ≡ true → list_any ends order ≡ true) → list_any ends (cond b (e ∷ within order) (within order)) ≡ true → list_any ends (e ∷ order) ≡ true
  by_round e order true rest h = or_more (ends e) (list_any ends (within order)) (list_any ends order) rest h
  by_round e order false rest h = or_right (ends e) (list_any ends order) (rest h)

  one_there : (order : List Entry) → list_any ends (within order) ≡ true → list_any ends order ≡ true
  one_there [] h = h
  one_there (e ∷ order) h = by_round e order (nat_le e.round version) (one_there order) h

pub asks_are_full : AsksAreFull
asks_are_full config servers clients w r clocks some ss k beside client place number past x file deadline lost at from is = subst (λ (n : ℕ). IsFullAt k.machine file.0 n) before.chunk.index_is (record { count = stands.count; full = full })
  where
    before : IsFullBefore w client file.0 past
    before = asks_past_a_chunk_find_it_full config servers clients w r clocks some place client number past x file deadline lost at from is

    l : Location
    l = before.chunk.location

    granted : IsSizeGranted w.sent l.handle.0 l.round.0 before.size
    granted =
        subst (λ (n : ℕ). IsSizeGranted w.sent n l.round.0 before.size) (sym before.chunk.handle_is) (subst (λ (n : ℕ). IsSizeGranted w.sent before.handle n before.size) (sym before.chunk.round_is) before.granted)

    -- the client was told it with a granted round
    t : IsTold w.sent client file.0 l
    t = before.chunk.told

    told_at : IsToldAt w.sent client file.0 l (t.sent_is).0
    told_at =
        record {
          number = t.number;
          asked = t.asked;
          told = t.told;
          sent_is = (t.sent_is).1;
          receiver_is = t.receiver_is;
          body_is = t.body_is;
          granted = granted_from_one config servers clients w r l.handle.0 l.round.0 (size_counts l.handle.0 l.round.0 before.size w.sent granted);
        }

    -- so with the size of the machine's file, which is a slot's at most
    size_is : before.size ≡ chunk_size k.machine file.0
    size_is =
        sym (told_shapes_have_the_granted_size config servers clients w r clocks client file.0 l (t.sent_is).0 told_at l.round.0 before.size granted) ∙ ap (λ (x : Shape). x.chunk) (beside.shapes.located client file.0 l (t.sent_is).0 told_at).1

    slot_is : min before.size w.config.chunk ≡ chunk_size k.machine file.0
    slot_is =
        let low : chunk_size k.machine file.0 ≤ w.config.chunk =
        subst (λ (c : Config). chunk_size k.machine file.0 ≤ c.chunk) (sym (settings_stay config servers clients w r)) (size_within config k.machine (beside.run.0, beside.run.1, beside.run.3) file.0) in
        min-eq_left (subst (λ (n : ℕ). n ≤ w.config.chunk) (sym size_is) low) ∙ size_is

    stands : StandsUpTo k file.0 l.index l.handle.0 l.round.0
    stands = ((beside.chunks.holders client file.0 l before.chunk.told).round).stands

    ended : HasFullEnd (chunk_size k.machine file.0) (placed_in k.orders l.handle.0) l.round.0
    ended =
        subst (λ (n : ℕ). HasFullEnd n (placed_in k.orders l.handle.0) l.round.0) slot_is
        (subst (λ (os : Table (List Placed)). HasFullEnd (min before.size w.config.chunk) (placed_in os l.handle.0) l.round.0) (sym beside.chunks.orders)
        (subst (λ (n : ℕ). HasFullEnd (min before.size w.config.chunk) (order_of w.observer n) l.round.0) (sym before.chunk.handle_is)
        (subst (λ (n : ℕ). HasFullEnd (min before.size w.config.chunk) (order_of w.observer before.handle) n) (sym before.chunk.round_is) before.ends)))

    full : IsTrue (list_any (λ e. end_of e.mutation == chunk_size k.machine file.0) (chunk_at k.machine file.0 l.index).order)
    full =
        one_there (chunk_size k.machine file.0) l.round.0 (chunk_at k.machine file.0 l.index).order
        (subst (λ (es : List Entry). list_any (λ e. end_of e.mutation == chunk_size k.machine file.0) es ≡ true) stands.entries (one_within (chunk_size k.machine file.0) l.round.0 (placed_in k.orders l.handle.0) ended.0 ended.1 ended.2 ended.3 ended.4))
