-- Two orders are the same or not, and handles that are gone keep their place only where the chunk there has their order.
use Rattle.std.proofs.Common.{◌≡◌, ◌⊎◌, ℕ, Bool, true, false, List, [], ◌∷◌, Option, Some, None, refl, sym, ap, subst, ◌∙◌, inl, inr}
use Rattle.gfs_types.specs.declared.mutation.Mutation.{Mutation}
use Rattle.gfs_types.specs.declared.mutation.Mutation.TheVariants.{Write, Append, Pad}
use Rattle.relaxed_file.specs.Order.{CallId, Entry}
use Rattle.laws_base.proofs.Steps.{none_some, same_some}
use Rattle.laws_names.proofs.OpenCalls.{same_or_not}
use Rattle.protocol_invariant.specs.Actions.{Spot}
use Rattle.laws_machine.specs.ChunksAlike.{ChunkSides, IsRoundOpen, AreChunksAlike, chunk_in, entries_in}
use Rattle.laws_machine.specs.ServerSteps.{AreGoneOrdersAlike}
use Rattle.headline.specs.KeptEntries.{EntriesAreSameOrNot}

-- of each two
abbrev Decides : Type 0 → Type 0
Decides X = (x y : X) → (x ≡ y) ⊎ (x ≡ y → ⊥)

both : {A B C : Type 0} → (A ⊎ (A → ⊥)) → (B ⊎ (B → ⊥)) → (A → B → C) → (C → A) → (C → B) → C ⊎ (C → ⊥)
both (inl a) (inl b) join first second = inl (join a b)
both (inl a) (inr apart) join first second = inr (λ c. apart (second c))
both (inr apart) other join first second = inr (λ c. apart (first c))

lists : {X : Type 0} → Decides X → Decides (List X)
lists d [] [] = inl refl
lists d [] (y ∷ ys) = inr (λ same. cc)
lists d (x ∷ xs) [] = inr (λ same. cc)
lists d (x ∷ xs) (y ∷ ys) = both (d x y) (lists d xs ys) (λ one two. cc) (λ same. cc) (λ same. cc)

bools : Decides Bool
bools true true = inl refl
bools true false = inr (λ same. cc)
bools false true = inr (λ same. cc)
bools false false = inl refl

mutations : Decides Mutation
mutations (Write at content) (Write place bytes) = both (same_or_not at place) (lists same_or_not content bytes) (λ one two. cc) (λ same. cc) (λ same. cc)
mutations (Append at content) (Append place bytes) = both (same_or_not at place) (lists same_or_not content bytes) (λ one two. cc) (λ same. cc) (λ same. cc)
mutations (Pad at end) (Pad place last) = both (same_or_not at place) (same_or_not end last) (λ one two. cc) (λ same. cc) (λ same. cc)
mutations (Write at content) (Append place bytes) = inr (λ same. cc)
mutations (Write at content) (Pad place end) = inr (λ same. cc)
mutations (Append at content) (Write place bytes) = inr (λ same. cc)
mutations (Append at content) (Pad place end) = inr (λ same. cc)
mutations (Pad at end) (Write place bytes) = inr (λ same. cc)
mutations (Pad at end) (Append place bytes) = inr (λ same. cc)

calls : Decides CallId
calls a b = both (same_or_not a.client b.client) (same_or_not a.number b.number)
    (λ one two. ap (λ (x : ℕ). record { client = x; number = a.number }) one ∙ ap (λ (x : ℕ). record { client = b.client; number = x }) two) (λ same. ap (λ (x : CallId). x.client) same) (λ same. ap (λ (x : CallId). x.number) same)

-- an entry by its parts
abbrev first_parts : Entry → CallId × ℕ
first_parts e = (e.call, e.round)

abbrev last_parts : Entry → Mutation × Bool
last_parts e = (e.mutation, e.settled)

abbrev entry_of : CallId × ℕ → Mutation × Bool → Entry
entry_of a b = record { call = a.0; round = a.1; mutation = b.0; settled = b.1 }

pairs : {X Y : Type 0} → Decides X → Decides Y → Decides (X × Y)
pairs d f a b = both (d a.0 b.0) (f a.1 b.1) (λ one two. ap (λ x. (x, a.1)) one ∙ ap (λ y. (b.0, y)) two) (λ same. ap (λ p. p.0) same) (λ same. ap (λ p. p.1) same)

entries : Decides Entry
entries e f = both (pairs calls same_or_not (first_parts e) (first_parts f)) (pairs mutations bools (last_parts e) (last_parts f))
    (λ one two. ap (λ (a : CallId × ℕ). entry_of a (last_parts e)) one ∙ ap (λ (b : Mutation × Bool). entry_of (first_parts f) b) two) (λ same. ap first_parts same) (λ same. ap last_parts same)

pub entries_are_same_or_not : EntriesAreSameOrNot
entries_are_same_or_not = lists entries

-- A handle that is gone keeps its spot, where the chunk there has its order.
abbrev pub spot_by : {A : Type 0} → A ⊎ (A → ⊥) → Spot → Option Spot
spot_by (inl same) s = Some s
spot_by (inr apart) s = None

abbrev pub kept : ChunkSides → ℕ → Option Spot → Option Spot
kept j handle None = None
kept j handle (Some s) = spot_by (entries_are_same_or_not (entries_in j.orders handle) (chunk_in j.machine s).order) s

abbrev pub trimmed : ChunkSides → ChunkSides
trimmed j = record j { gone = λ handle. kept j handle (j.gone handle) }

module _ (j : ChunkSides) where
  abbrev Alike : ℕ → Spot → Type 0
  Alike handle s = entries_in j.orders handle ≡ (chunk_in j.machine s).order

  kept_was : (handle : ℕ) (o : Option Spot) (s : Spot) → kept j handle o ≡ Some s → (o ≡ Some s) × Alike handle s
  kept_was handle None s is = none_some s is
  kept_was handle (Some t) s is = by_orders (entries_are_same_or_not (entries_in j.orders handle) (chunk_in j.machine t).order) is
    where
      by_orders : (d : (Alike handle t) ⊎ (Alike handle t → ⊥)) → spot_by d t ≡ Some s → (Some t ≡ Some s) × Alike handle s
      by_orders (inl same) now = (now, subst (λ (x : Spot). Alike handle x) (same_some t s now) same)
      by_orders (inr apart) now = none_some s now

  kept_on : (handle : ℕ) (o : Option Spot) (s : Spot) → o ≡ Some s → Alike handle s → kept j handle o ≡ Some s
  kept_on handle None s is alike = none_some s is
  kept_on handle (Some t) s is alike = by_orders (entries_are_same_or_not (entries_in j.orders handle) (chunk_in j.machine t).order)
    where
      by_orders : (d : (Alike handle t) ⊎ (Alike handle t → ⊥)) → spot_by d t ≡ Some s
      by_orders (inl same) = is
      by_orders (inr apart) = absurd (apart (subst (λ (x : Spot). Alike handle x) (sym (same_some t s is)) alike))

  pub trimmed_alike : AreChunksAlike j → AreChunksAlike (trimmed j)
  trimmed_alike h = record {
    there = λ file handles is.
        let old = h.there file handles is in
        record {
          numbered = old.numbered;
          count = old.count;
          chunks = λ index handle at. let c = old.chunks index handle at in (c.0, c.1, record { order = c.2.order; round = c.2.round });
        };
    gone = λ handle s is. let old = h.gone handle s (kept_was handle (j.gone handle) s is).0 in record { numbered = old.numbered; collected = old.collected; count = old.count };
    apart = λ handle other s one two. h.apart handle other s (kept_was handle (j.gone handle) s one).0 (kept_was other (j.gone other) s two).0;
  }

  pub trimmed_gone : AreGoneOrdersAlike (trimmed j)
  trimmed_gone handle s stood = (kept_was handle (j.gone handle) s stood.0).1

  pub trimmed_below : (handle : ℕ) (s : Spot) → (trimmed j).gone handle ≡ Some s → j.gone handle ≡ Some s
  trimmed_below handle s is = (kept_was handle (j.gone handle) s is).0

  pub trimmed_open : (handle version : ℕ) (s : Spot) → IsRoundOpen j handle version s → IsRoundOpen (trimmed j) handle version s
  trimmed_open handle version s was_open = record {
    place = elim was_open.place [ inl at ↦ inl at | inr stood ↦ inr (kept_on handle (j.gone handle) s stood.0 was_open.order, stood.1) ];
    order = was_open.order;
    round = was_open.round;
    is_open = was_open.is_open;
  }
