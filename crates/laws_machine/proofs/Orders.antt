-- A mutation that is numbered, an entry that becomes settled, and a copy that begins.
use Rattle.std.proofs.Common.{◌≡◌, ◌⊎◌, ℕ, zero, suc, ◌+◌, ◌<◌, Bool, true, false, cond, List, [], ◌∷◌, ◌++◌, map, Option, Some, refl, sym, ap, subst, ◌∙◌, inl, inr, arith}
use Rattle.std.specs.FinMap as table
use Rattle.std.specs.Prelude.{◌==◌, ◌&&◌, unwrap_or, option_map, slice_get, IsSomeAnd}
use Rattle.std.proofs.lemmas.Bool.{eq-eqb, eqb-true}
use Rattle.std.proofs.lemmas.List.{map-append}
use Rattle.gfs_types.specs.declared.ids.DataId.{DataId}
use Rattle.gfs_types.specs.declared.ids.Handle.{Handle}
use Rattle.gfs_types.specs.declared.ids.Serial.{Serial}
use Rattle.gfs_types.specs.declared.ids.Version.{Version}
use Rattle.gfs_types.specs.declared.mutation.Mutation.{Mutation}
use Rattle.chunk_table.specs.ChunkTable.{file_of}
use Rattle.relaxed_file.specs.Order.{CallId, Entry}
use Rattle.relaxed_file.specs.Machine.{Machine, Chunk, OpenCall, chunk_count}
use Rattle.relaxed_file.specs.Chunks.{with_entry, placed, settled_at}
use Rattle.relaxed_file.specs.Run.{Place, Settle, Visible, after}
use Rattle.protocol.specs.Tables.{Table, element_at}
use Rattle.protocol.specs.declared.seen.Seen.TheVariants.{Numbered, BecameSettled, CopyStarted}
use Rattle.protocol.specs.Observer.{Placed, placed_in, is_placed_as, settled_as, new_entry, orders_after}
use Rattle.laws_base.proofs.Steps as steps
use Rattle.protocol_invariant.specs.Actions.{Spot, place_from}
use Rattle.laws_machine.specs.ChunksAlike.{ChunkSides, chunk_in, entries_in, StandsAt, IsRoundOpen, IsFileAlike, IsGoneSpot, AreChunksAlike, NoneEnds, KeepsChunks, moved}
use Rattle.laws_machine.specs.EntrySteps.{StandsNowhereElse, IsWanted, NumberedMutationsArePlaced, IsOnlyPlace, SettledEntriesAreSettled, CopiesBeginUnseen}
use Rattle.laws_machine.proofs.Sides.{stands_in, gone_or_there, still_open, still_alike, spot_at}
use Rattle.laws_machine.proofs.OneChunk.{one_changed, AreChangedAt, HasPlace, open_changed}
use Rattle.laws_machine.proofs.Grants.{is_counted}

-- the handle of an open round stands nowhere but there
only_there : (k : ChunkSides) → AreChunksAlike k → (handle version : ℕ) (s : Spot) → IsRoundOpen k handle version s → StandsNowhereElse k handle → (other : Spot) → StandsAt k.log.table handle other → other ≡ s
only_there k h handle version s was_open nowhere other at = by_place was_open.place
  where
    by_place : HasPlace k handle s → other ≡ s
    by_place (inl here) = nowhere other s at here
    by_place (inr stood) = absurd (gone_or_there k h handle other at s stood)

-- its chunk is one of the file's
is_inside : (k : ChunkSides) → AreChunksAlike k → (handle : ℕ) (s : Spot) → HasPlace k handle s → s.index < chunk_count k.machine s.file
is_inside k h handle s (inl at) = is_counted k h handle s at
is_inside k h handle s (inr stood) = (h.gone handle s stood.0).count

abbrev entries : List Placed → List Entry
entries ps = map (λ p. p.entry) ps

-- what stands in the orders after one order was put in
put_entries : (orders : Table (List Placed)) (handle : ℕ) (ps : List Placed) (other : ℕ) → other ≡ handle → entries_in (table.insert orders handle ps) other ≡ entries ps
put_entries orders handle ps other same = ap (λ (o : Option (List Placed)). entries (unwrap_or o [])) (steps.put_there orders handle ps other same)

other_entries : (orders : Table (List Placed)) (handle : ℕ) (ps : List Placed) (other : ℕ) → (other ≡ handle → ⊥) → entries_in (table.insert orders handle ps) other ≡ entries_in orders other
other_entries orders handle ps other differs = ap (λ (o : Option (List Placed)). entries (unwrap_or o [])) (steps.put_other orders handle ps other differs)

-- Place

abbrev an_entry : ℕ → ℕ → ℕ → Mutation → Entry
an_entry client number round mutation = record { call = record { client = client; number = number }; round = round; mutation = mutation; settled = false }

module _ (k : ChunkSides) (trace : List Visible) (handle : Handle) (version : Version) (serial : Serial) (id : DataId) (mutation : Mutation) (s : Spot)
    (h : AreChunksAlike k) (was_open : IsRoundOpen k handle.0 version.0 s) (nowhere : StandsNowhereElse k handle.0) (wanted : IsWanted k trace id.client.0 s mutation) where
  abbrev orders : Table (List Placed)
  orders = orders_after trace k.orders (Numbered handle version serial id mutation)

  abbrev its_call : CallId
  its_call = record { client = id.client.0; number = wanted.current.number }

  abbrev longer : Chunk
  longer = with_entry (chunk_in k.machine s) its_call mutation

  abbrev machine : Machine
  machine = placed k.machine id.client.0 wanted.current s.file s.index mutation

  abbrev numbered : ChunkSides
  numbered = record { log = k.log; gone = k.gone; orders = orders; machine = machine }

  machine_is : after k.machine (Place id.client.0 s.file s.index mutation) ≡ machine
  machine_is = ap (λ (o : Option OpenCall). unwrap_or (option_map (λ (c : OpenCall). placed k.machine id.client.0 c s.file s.index mutation) o) k.machine) wanted.is_open

  entry_is : (new_entry trace version.0 serial.0 id mutation).entry ≡ an_entry id.client.0 wanted.current.number (chunk_in k.machine s).round mutation
  entry_is = ap (λ (n : ℕ). an_entry id.client.0 n version.0 mutation) (sym wanted.number_is) ∙ ap (λ (r : ℕ). an_entry id.client.0 wanted.current.number r mutation) (sym was_open.round)

  order_is : entries_in orders handle.0 ≡ longer.order
  order_is =
      put_entries k.orders handle.0 (placed_in k.orders handle.0 ++ new_entry trace version.0 serial.0 id mutation ∷ []) handle.0 refl
      ∙ map-append (λ (p : Placed). p.entry) (placed_in k.orders handle.0) (new_entry trace version.0 serial.0 id mutation ∷ [])
      ∙ ap (λ (es : List Entry). es ++ (new_entry trace version.0 serial.0 id mutation).entry ∷ []) was_open.order
      ∙ ap (λ (e : Entry). (chunk_in k.machine s).order ++ e ∷ []) entry_is

  place_changed : AreChangedAt k numbered handle.0 s longer
  place_changed = record {
    place = was_open.place;
    alone = only_there k h handle.0 version.0 s was_open nowhere;
    lists = refl;
    next = refl;
    gone = refl;
    rows = λ other differs. refl;
    row = λ before is round. (before, is, round);
    orders = λ other differs. other_entries k.orders handle.0 (placed_in k.orders handle.0 ++ new_entry trace version.0 serial.0 id mutation ∷ []) other differs;
    order = order_is;
    machine = let one = one_changed k.machine s longer in record { here = one.here; elsewhere = one.elsewhere; counts = one.counts };
  }

  place_keeps : KeepsChunks NoneEnds k numbered
  place_keeps = open_changed k numbered handle.0 s longer h place_changed refl refl was_open.place

pub numbered_mutations_are_placed : NumberedMutationsArePlaced
numbered_mutations_are_placed k trace handle version serial id mutation s h was_open nowhere wanted = record {
  allowed = ((wanted.current, wanted.is_open, (wanted.file_is, is_inside k h handle.0 s was_open.place, was_open.is_open, wanted.asks)), tt);
  keeps = subst (λ (m : Machine). KeepsChunks NoneEnds k (record { log = k.log; gone = k.gone; orders = orders_after trace k.orders (Numbered handle version serial id mutation); machine = m }))
      (sym (machine_is k trace handle version serial id mutation s h was_open nowhere wanted)) (place_keeps k trace handle version serial id mutation s h was_open nowhere wanted);
}

-- Settle

both : (a b : Bool) → a && b ≡ true → (a ≡ true) × (b ≡ true)
both true b e = (refl, e)
both false b e = absurd (let no : false ≡ true = e in cc)

abbrev IsPlacedAs : ℕ → ℕ → Placed → Type 0
IsPlacedAs version serial p = (p.entry.round ≡ version) × (p.serial ≡ serial)

test_is : (version serial : ℕ) (p : Placed) → IsPlacedAs version serial p → is_placed_as version serial p ≡ true
test_is version serial p is = ap (λ (b : Bool). b && (p.serial == serial)) (eq-eqb p.entry.round version is.0) ∙ eq-eqb p.serial serial is.1

test_is_not : (version serial : ℕ) (p : Placed) → (IsPlacedAs version serial p → ⊥) → is_placed_as version serial p ≡ false
test_is_not version serial p not_it = by_test (is_placed_as version serial p) refl
  where
    by_test : (b : Bool) → is_placed_as version serial p ≡ b → is_placed_as version serial p ≡ false
    by_test true e = let parts = both (p.entry.round == version) (p.serial == serial) e in absurd (not_it (eqb-true p.entry.round version parts.0, eqb-true p.serial serial parts.1))
    by_test false e = e

settled_it : (version serial : ℕ) (p : Placed) → IsPlacedAs version serial p → settled_as version serial p ≡ record p { entry = record p.entry { settled = true } }
settled_it version serial p is = ap (λ (b : Bool). cond b (record p { entry = record p.entry { settled = true } }) p) (test_is version serial p is)

settled_other : (version serial : ℕ) (p : Placed) → (IsPlacedAs version serial p → ⊥) → settled_as version serial p ≡ p
settled_other version serial p not_it = ap (λ (b : Bool). cond b (record p { entry = record p.entry { settled = true } }) p) (test_is_not version serial p not_it)

abbrev AreOthers : ℕ → ℕ → List Placed → Type 0
AreOthers version serial ps = (place : ℕ) (q : Placed) → element_at ps place ≡ Some q → IsPlacedAs version serial q → ⊥

all_others : (version serial : ℕ) (ps : List Placed) → AreOthers version serial ps → map (settled_as version serial) ps ≡ ps
all_others version serial [] others = refl
all_others version serial (p ∷ ps) others =
    ap (λ (q : Placed). q ∷ map (settled_as version serial) ps) (settled_other version serial p (others 0 p refl))
    ∙ ap (λ (qs : List Placed). p ∷ qs) (all_others version serial ps (λ place q is. others (suc place) q is))

-- the entry at the place is settled, and no other
pub settles_one : (version serial : ℕ) (ps : List Placed) (place : ℕ) → IsOnlyPlace ps version serial place → entries (map (settled_as version serial) ps) ≡ settled_at place (entries ps)
settles_one version serial [] place only = steps.none_some ((only.0).0) (only.0).1
settles_one version serial (p ∷ ps) zero only =
    let it = only.0 in
    let same : p ≡ it.0 = steps.same_some p it.0 it.1 in
    let is : IsPlacedAs version serial p = (ap (λ (q : Placed). q.entry.round) same ∙ it.2, ap (λ (q : Placed). q.serial) same ∙ it.3) in
    let rest : AreOthers version serial ps = λ place q at is_too. (let same_place : suc place ≡ zero = only.1 (suc place) q at is_too.0 is_too.1 in absurd (omega (arith, same_place))) in
    ap (λ (q : Placed). q.entry ∷ entries (map (settled_as version serial) ps)) (settled_it version serial p is)
    ∙ ap (λ (qs : List Placed). record p.entry { settled = true } ∷ entries qs) (all_others version serial ps rest)
settles_one version serial (p ∷ ps) (suc place) only =
    let first : IsPlacedAs version serial p → ⊥ = λ is. (let same_place : zero ≡ suc place = only.1 zero p refl is.0 is.1 in absurd (omega (arith, same_place))) in
    ap (λ (q : Placed). q.entry ∷ entries (map (settled_as version serial) ps)) (settled_other version serial p first)
    ∙ ap (λ (es : List Entry). p.entry ∷ es) (settles_one version serial ps place (only.0, λ other q at round serial_is. let same = only.1 (suc other) q at round serial_is in omega (arith, same)))

pub found_at : (version serial : ℕ) (ps : List Placed) (place start : ℕ) → IsOnlyPlace ps version serial place → place_from version serial ps start ≡ start + place
found_at version serial [] place start only = steps.none_some ((only.0).0) (only.0).1
found_at version serial (p ∷ ps) zero start only =
    let it = only.0 in
    let same : p ≡ it.0 = steps.same_some p it.0 it.1 in
    ap (λ (b : Bool). cond b start (place_from version serial ps (suc start))) (test_is version serial p (ap (λ (q : Placed). q.entry.round) same ∙ it.2, ap (λ (q : Placed). q.serial) same ∙ it.3)) ∙ omega arith
found_at version serial (p ∷ ps) (suc place) start only =
    let first : IsPlacedAs version serial p → ⊥ = λ is. (let same_place : zero ≡ suc place = only.1 zero p refl is.0 is.1 in absurd (omega (arith, same_place))) in
    let rest = found_at version serial ps place (suc start) (only.0, λ other q at round serial_is. let same = only.1 (suc other) q at round serial_is in omega (arith, same)) in
    ap (λ (b : Bool). cond b start (place_from version serial ps (suc start))) (test_is_not version serial p first) ∙ omega (arith, rest)

entry_at : (ps : List Placed) (place : ℕ) (p : Placed) → element_at ps place ≡ Some p → slice_get (entries ps) place ≡ Some p.entry
entry_at [] place p is = steps.none_some p is
entry_at (q ∷ ps) zero p is = ap (λ (x : Placed). Some x.entry) (steps.same_some q p is)
entry_at (q ∷ ps) (suc place) p is = entry_at ps place p is

module _ (k : ChunkSides) (trace : List Visible) (handle : Handle) (version : Version) (serial : Serial) (s : Spot) (place : ℕ)
    (h : AreChunksAlike k) (was_open : IsRoundOpen k handle.0 version.0 s) (nowhere : StandsNowhereElse k handle.0) (only : IsOnlyPlace (placed_in k.orders handle.0) version.0 serial.0 place) where
  abbrev later_orders : Table (List Placed)
  later_orders = orders_after trace k.orders (BecameSettled handle version serial)

  abbrev settled_chunk : Chunk
  settled_chunk = record (chunk_in k.machine s) { order = settled_at place (chunk_in k.machine s).order }

  abbrev settled_sides : ChunkSides
  settled_sides = moved k (Settle s.file s.index place ∷ []) k.log k.gone later_orders

  settled_order : entries_in later_orders handle.0 ≡ settled_chunk.order
  settled_order =
      put_entries k.orders handle.0 (map (settled_as version.0 serial.0) (placed_in k.orders handle.0)) handle.0 refl
      ∙ settles_one version.0 serial.0 (placed_in k.orders handle.0) place only
      ∙ ap (settled_at place) was_open.order

  settle_changed : AreChangedAt k settled_sides handle.0 s settled_chunk
  settle_changed = record {
    place = was_open.place;
    alone = only_there k h handle.0 version.0 s was_open nowhere;
    lists = refl;
    next = refl;
    gone = refl;
    rows = λ other differs. refl;
    row = λ before is round. (before, is, round);
    orders = λ other differs. other_entries k.orders handle.0 (map (settled_as version.0 serial.0) (placed_in k.orders handle.0)) other differs;
    order = settled_order;
    machine = one_changed k.machine s settled_chunk;
  }

  settle_keeps : KeepsChunks NoneEnds k settled_sides
  settle_keeps = open_changed k settled_sides handle.0 s settled_chunk h settle_changed refl refl was_open.place

  round_there : IsSomeAnd (slice_get (chunk_in k.machine s).order place) (λ e. e.round ≡ (chunk_in k.machine s).round)
  round_there =
      let it = only.0 in
      subst (λ (o : Option Entry). IsSomeAnd o (λ e. e.round ≡ (chunk_in k.machine s).round))
      (sym (ap (λ (es : List Entry). slice_get es place) (sym was_open.order) ∙ entry_at (placed_in k.orders handle.0) place it.0 it.1)) (it.2 ∙ sym was_open.round)

none_more : (n : ℕ) → 0 + n ≡ n
none_more n = omega arith

pub settled_entries_are_settled : SettledEntriesAreSettled
settled_entries_are_settled k trace handle version serial s place h was_open nowhere only = (
  found_at version.0 serial.0 (placed_in k.orders handle.0) place 0 only ∙ none_more place,
  record {
    allowed = ((was_open.is_open, round_there k trace handle version serial s place h was_open nowhere only), tt);
    keeps = settle_keeps k trace handle version serial s place h was_open nowhere only;
  },
)

-- CopyStarted

module _ (k : ChunkSides) (trace : List Visible) (handle copy : Handle) (h : AreChunksAlike k) (placeless : (s : Spot) → StandsAt k.log.table copy.0 s → ⊥) where
  abbrev begun : ChunkSides
  begun = record k { orders = orders_after trace k.orders (CopyStarted handle copy) }

  same_entries : (other : ℕ) → (other ≡ copy.0 → ⊥) → entries_in begun.orders other ≡ entries_in k.orders other
  same_entries other differs = other_entries k.orders copy.0 (placed_in k.orders handle.0) other differs

  begun_file : (file : ℕ) (handles : List ℕ) → file_of k.log.table file ≡ Some handles → IsFileAlike begun file handles
  begun_file file handles is =
      let old = h.there file handles is in
      record {
        numbered = old.numbered;
        count = old.count;
        chunks = λ index other at.
            let has = old.chunks index other at in
            let differs : other ≡ copy.0 → ⊥ = λ same. placeless (spot_at file index) (subst (λ (n : ℕ). StandsAt k.log.table n (spot_at file index)) same (stands_in k.log.table file index other handles is at)) in
            (has.0, has.1, still_alike k begun other has.0 has.0 _ _ has.2 (same_entries other differs) refl refl);
      }

  begun_gone : (other : ℕ) (s : Spot) → k.gone other ≡ Some s → IsGoneSpot begun s
  begun_gone other s was = let old = h.gone other s was in record { numbered = old.numbered; collected = old.collected; count = old.count }

  begun_round : (other version : ℕ) (s : Spot) → IsRoundOpen k other version s → (other ≡ copy.0) ⊎ IsRoundOpen begun other version s
  begun_round other version s was_open = elim (steps.same_or_not other copy.0) [
    | inl same ↦ inl same
    | inr differs ↦ inr (still_open k begun other version s was_open was_open.place (same_entries other differs) refl)
  ]

  begins : KeepsChunks (λ ended. ended ≡ copy.0) k begun
  begins = record { alike = record { there = begun_file; gone = begun_gone; apart = h.apart }; rounds = begun_round }

pub copies_begin_unseen : CopiesBeginUnseen
copies_begin_unseen k trace handle copy h placeless = begins k trace handle copy h placeless
