-- What a server settles: each entry has its name, its round and its serial, before and after.
use Rattle.std.proofs.Common.{◌≡◌, ℕ, zero, suc, ◌≤◌, Bool, true, false, cond, List, [], ◌∷◌, ◌++◌, map, length, Option, Some, refl, sym, ap, subst, ◌∙◌, inl, inr, arith}
use Rattle.std.specs.Prelude.{◌==◌, ◌&&◌, filter, unwrap_or}
use Rattle.std.specs.List.{list_all}
use Rattle.std.proofs.lemmas.Bool.{eqb-true, cases_lt}
use Rattle.relaxed_file.specs.Order.{CallId}
use Rattle.relaxed_file.specs.Run.{Action, Settle, Visible, after, after_all}
use Rattle.protocol.specs.Tables.{Table, element_at, first_numbers}
use Rattle.protocol.specs.declared.seen.Seen.{Seen}
use Rattle.protocol.specs.declared.seen.Seen.TheVariants.{Numbered, BecameSettled, CopyStarted}
use Rattle.protocol.specs.Observer.{Placed, placed_in, is_placed_as, settled_as, orders_after, orders_after_all}
use Rattle.laws_base.proofs.Steps.{on_cond, none_some, same_some, same_or_not, put_there, put_other}
use Rattle.laws_base.proofs.Entries.{AllOf}
use Rattle.laws_base.proofs.MembersRecorded.{kept_place}
use Rattle.laws_base.specs.CountedSerials.{serials_of}
use Rattle.protocol_invariant.specs.Actions.{Spot}
use Rattle.laws_machine.specs.ChunksAlike.{ChunkSides, IsRoundOpen, AreChunksAlike, NoneEnds, KeepsRounds, moved, Follows, StoodAt, chunk_in, entries_in}
use Rattle.laws_machine.specs.EntrySteps.{StandsNowhereElse, IsOnlyPlace}
use Rattle.laws_machine.proofs.Orders.{settled_entries_are_settled}
use Rattle.laws_machine.specs.HoldersApart.{KeepsStanding}
use Rattle.laws_machine.specs.ServerSteps.{is_of_entries, ComesToOrders, AreGoneOrdersAlike}
use Rattle.laws_machine.specs.Tries.{RiseBy}
use Rattle.laws_machine.proofs.TriesRise.{settle_tries}
use Rattle.laws_machine.proofs.HoldersApart.{standing_kept, later_entries}
use Rattle.laws_machine.proofs.Sides.{gone_or_there}
use Rattle.laws_machine.proofs.OneChunk.{one_changed, HasPlace, one_owner}
use Rattle.relaxed_file.specs.Machine.{Chunk}
use Rattle.relaxed_file.specs.Chunks.{settled_at}

-- rounds and serials of two orders, place by place
abbrev pub AreNamedAlike : List Placed → List Placed → Type 0
AreNamedAlike [] [] = Unit {0}
AreNamedAlike [] (q ∷ qs) = ⊥
AreNamedAlike (p ∷ ps) [] = ⊥
AreNamedAlike (p ∷ ps) (q ∷ qs) = (p.entry.round ≡ q.entry.round) × (p.serial ≡ q.serial) × AreNamedAlike ps qs

named_same : (ps : List Placed) → AreNamedAlike ps ps
named_same [] = tt
named_same (p ∷ ps) = (refl, refl, named_same ps)

named_on : (ps qs rs : List Placed) → AreNamedAlike ps qs → AreNamedAlike qs rs → AreNamedAlike ps rs
named_on [] [] [] h g = tt
named_on [] [] (r ∷ rs) h g = absurd g
named_on [] (q ∷ qs) rs h g = absurd h
named_on (p ∷ ps) [] rs h g = absurd h
named_on (p ∷ ps) (q ∷ qs) [] h g = absurd g
named_on (p ∷ ps) (q ∷ qs) (r ∷ rs) h g = (h.0 ∙ g.0, h.1 ∙ g.1, named_on ps qs rs h.2 g.2)

named_back : (ps qs : List Placed) → AreNamedAlike ps qs → AreNamedAlike qs ps
named_back [] [] h = tt
named_back [] (q ∷ qs) h = absurd h
named_back (p ∷ ps) [] h = absurd h
named_back (p ∷ ps) (q ∷ qs) h = (sym h.0, sym h.1, named_back ps qs h.2)

settled_named : (version serial : ℕ) (ps : List Placed) → AreNamedAlike ps (map (settled_as version serial) ps)
settled_named version serial [] = tt
settled_named version serial (p ∷ ps) = (
  on_cond (λ (q : Placed). p.entry.round ≡ q.entry.round) (is_placed_as version serial p) (record p { entry = record p.entry { settled = true } }) p (λ _. refl) (λ _. refl),
  on_cond (λ (q : Placed). p.serial ≡ q.serial) (is_placed_as version serial p) (record p { entry = record p.entry { settled = true } }) p (λ _. refl) (λ _. refl),
  settled_named version serial ps,
)

-- the entry at the same place of the other order
named_at : (ps qs : List Placed) (place : ℕ) (p : Placed) → AreNamedAlike ps qs → element_at ps place ≡ Some p → (q : Placed) × (element_at qs place ≡ Some q) × (p.entry.round ≡ q.entry.round) × (p.serial ≡ q.serial)
named_at [] qs place p h at = none_some p at
named_at (x ∷ ps) [] place p h at = absurd h
named_at (x ∷ ps) (y ∷ qs) zero p h at = let same = same_some x p at in (y, refl, ap (λ (z : Placed). z.entry.round) (sym same) ∙ h.0, ap (λ (z : Placed). z.serial) (sym same) ∙ h.1)
named_at (x ∷ ps) (y ∷ qs) (suc place) p h at = named_at ps qs place p h.2 at

pub only_of : (ps qs : List Placed) (version serial place : ℕ) → AreNamedAlike ps qs → IsOnlyPlace ps version serial place → IsOnlyPlace qs version serial place
only_of ps qs version serial place h only =
    let it = only.0 in
    let there = named_at ps qs place it.0 h it.1 in (
      (there.0, there.1, sym there.2 ∙ it.2, sym there.3 ∙ it.3),
      λ other q at round serial_is. let old = named_at qs ps other q (named_back ps qs h) at in only.1 other old.0 old.1 (sym old.2 ∙ round) (sym old.3 ∙ serial_is),
    )

-- what settles alone

abbrev pub IsSettling : Seen → Type 0
IsSettling (BecameSettled handle version serial) = Unit {0}
IsSettling other = ⊥

one_named : (trace : List Visible) (orders : Table (List Placed)) (x : Seen) → IsSettling x → (handle : ℕ) → AreNamedAlike (placed_in orders handle) (placed_in (orders_after trace orders x) handle)
one_named trace orders (Numbered q v n id m) is handle = absurd is
one_named trace orders (CopyStarted q copy) is handle = absurd is
one_named trace orders (BecameSettled q v n) is handle = elim (same_or_not handle q.0) [
  | inl same ↦
      subst (λ (ps : List Placed). AreNamedAlike ps (placed_in later handle)) (ap (λ (k : ℕ). placed_in orders k) (sym same))
      (subst (λ (o : Option (List Placed)). AreNamedAlike (placed_in orders q.0) (unwrap_or o [])) (sym (put_there orders q.0 (map (settled_as v.0 n.0) (placed_in orders q.0)) handle same)) (settled_named v.0 n.0 (placed_in orders q.0)))
  | inr apart ↦ subst (λ (o : Option (List Placed)). AreNamedAlike (placed_in orders handle) (unwrap_or o [])) (sym (put_other orders q.0 (map (settled_as v.0 n.0) (placed_in orders q.0)) handle apart)) (named_same (placed_in orders handle))
]
  where
    later : Table (List Placed)
    later = orders_after trace orders (BecameSettled q v n)

all_named : (trace : List Visible) (orders : Table (List Placed)) (xs : List Seen) → AllOf IsSettling xs → (handle : ℕ) → AreNamedAlike (placed_in orders handle) (placed_in (orders_after_all trace orders xs) handle)
all_named trace orders [] all handle = named_same (placed_in orders handle)
all_named trace orders (x ∷ xs) all handle =
    named_on (placed_in orders handle) (placed_in (orders_after trace orders x) handle) (placed_in (orders_after_all trace orders (x ∷ xs)) handle) (one_named trace orders x all.0 handle)
    (all_named trace (orders_after trace orders x) xs all.1 handle)

-- It is settled in a round that is open, under a lease that isn't over, and has one entry in the end.
abbrev pub IsSettlingDue : (ℕ → ℕ → Type 0) → ChunkSides → Table (List Placed) → Seen → Type 0
IsSettlingDue IsOver k end (BecameSettled handle version serial) =
    (s : Spot) × IsRoundOpen k handle.0 version.0 s × StandsNowhereElse k handle.0 × (IsOver handle.0 version.0 → ⊥) × (place : ℕ) × IsOnlyPlace (placed_in end handle.0) version.0 serial.0 place
IsSettlingDue IsOver k end other = ⊥

due_settling : (IsOver : ℕ → ℕ → Type 0) (k : ChunkSides) (end : Table (List Placed)) (xs : List Seen) → AllOf (IsSettlingDue IsOver k end) xs → AllOf IsSettling xs
due_settling IsOver k end [] all = tt
due_settling IsOver k end (BecameSettled q v n ∷ xs) all = (tt, due_settling IsOver k end xs all.1)
due_settling IsOver k end (Numbered q v n id m ∷ xs) all = absurd all.0
due_settling IsOver k end (CopyStarted q copy ∷ xs) all = absurd all.0

-- after actions that keep each round
pub due_later : (IsOver : ℕ → ℕ → Type 0) (k : ChunkSides) (actions : List Action) (orders end : Table (List Placed)) (xs : List Seen) → KeepsRounds NoneEnds k (moved k actions k.log k.gone orders) → AllOf (IsSettlingDue IsOver k end) xs
    → AllOf (IsSettlingDue IsOver (moved k actions k.log k.gone orders) end) xs
due_later IsOver k actions orders end [] keeps all = tt
due_later IsOver k actions orders end (BecameSettled q v n ∷ xs) keeps all =
    let it = all.0 in (
      (it.0, elim (keeps q.0 v.0 it.0 it.1) [ inl none ↦ absurd none | inr still ↦ still ], it.2, it.3, it.4, it.5),
      due_later IsOver k actions orders end xs keeps all.1,
    )
due_later IsOver k actions orders end (Numbered q v n id m ∷ xs) keeps all = absurd all.0
due_later IsOver k actions orders end (CopyStarted q copy ∷ xs) keeps all = absurd all.0

pub takes_nothing : (IsOver : ℕ → ℕ → Type 0) (k : ChunkSides) (Rise : Spot → CallId → Type 0) → AreChunksAlike k → ComesToOrders IsOver k k.orders Rise
takes_nothing IsOver k Rise h =
    record {
      actions = [];
      of_entries = refl;
      follows = record { allowed = tt; keeps = record { alike = h; rounds = λ handle version s was_open. inr was_open } };
      gone = λ gone. gone;
      standing = λ file index handle version apart stands. (apart, stands);
      tries = λ s c. inl (omega arith);
    }

-- one action, and then the others
pub takes_more : (IsOver : ℕ → ℕ → Type 0) (k : ChunkSides) (orders end : Table (List Placed)) (Rise : Spot → CallId → Type 0) (action : Action) → is_of_entries action ≡ true → Follows NoneEnds k (action ∷ []) (moved k (action ∷ []) k.log k.gone orders)
    → (AreGoneOrdersAlike k → AreGoneOrdersAlike (moved k (action ∷ []) k.log k.gone orders)) → KeepsStanding IsOver k (moved k (action ∷ []) k.log k.gone orders)
    → RiseBy Rise k.machine (after k.machine action) → ComesToOrders IsOver (moved k (action ∷ []) k.log k.gone orders) end (λ s c. ⊥) → ComesToOrders IsOver k end Rise
takes_more IsOver k orders end Rise action is first first_gone first_standing first_tries rest = record {
  actions = action ∷ rest.actions;
  of_entries = ap (λ (b : Bool). b && list_all is_of_entries rest.actions) is ∙ rest.of_entries;
  follows = record {
    allowed = (first.allowed.0, rest.follows.allowed);
    keeps = record {
      alike = rest.follows.keeps.alike;
      rounds = λ handle version s was_open. elim (first.keeps.rounds handle version s was_open) [
        | inl none ↦ absurd none
        | inr still ↦ rest.follows.keeps.rounds handle version s still
      ];
    };
  };
  gone = λ gone. rest.gone (first_gone gone);
  standing = λ file index handle version apart stands. let one = first_standing file index handle version apart stands in rest.standing file index handle version one.0 one.1;
  tries = λ s c. elim (rest.tries s c) [
    | inl same ↦ elim (first_tries s c) [ inl less ↦ inl (omega (arith, same, less)) | inr more ↦ inr (more.0, let one = more.1 in omega (arith, same, one)) ]
    | inr none ↦ absurd none.0
  ];
}

-- an entry comes or is settled in an open round: of each other chunk nothing changes
pub gone_kept : (k : ChunkSides) (actions : List Action) (orders : Table (List Placed)) (handle version : ℕ) (s : Spot) → AreChunksAlike k → IsRoundOpen k handle version s
    → IsRoundOpen (moved k actions k.log k.gone orders) handle version s → ((other : ℕ) → (other ≡ handle → ⊥) → entries_in orders other ≡ entries_in k.orders other)
    → ((at : Spot) → (at ≡ s → ⊥) → chunk_in (after_all k.machine actions) at ≡ chunk_in k.machine at) → AreGoneOrdersAlike k → AreGoneOrdersAlike (moved k actions k.log k.gone orders)
gone_kept k actions orders handle version s h was_open now others elsewhere gone q t stood = elim (same_or_not q handle) [
  | inl same ↦
      ap (λ (n : ℕ). entries_in orders n) same
      ∙ (now.order ∙ ap (λ (at : Spot). (chunk_in (after_all k.machine actions) at).order) (sym (its_spot (subst (λ (n : ℕ). StoodAt k n t) same stood) was_open.place)))
  | inr differs ↦ others q differs ∙ (gone q t stood ∙ sym (ap (λ (c : Chunk). c.order) (elsewhere t (λ same. differs (owner same)))))
]
  where
    its_spot : StoodAt k handle t → HasPlace k handle s → t ≡ s
    its_spot there (inl at) = absurd (gone_or_there k h handle s at t there)
    its_spot there (inr was) = same_some t s (sym there.0 ∙ was.0)

    owner : t ≡ s → q ≡ handle
    owner same = one_owner k h q handle s (subst (λ (at : Spot). HasPlace k q at) same (inr stood)) was_open.place

-- the machine settles what becomes settled
pub settles_all : (IsOver : ℕ → ℕ → Type 0) (k : ChunkSides) (trace : List Visible) (xs : List Seen) → AreChunksAlike k → AllOf (IsSettlingDue IsOver k (orders_after_all trace k.orders xs)) xs → ComesToOrders IsOver k (orders_after_all trace k.orders xs) (λ s c. ⊥)
settles_all IsOver k trace [] h all = takes_nothing IsOver k (λ s c. ⊥) h
settles_all IsOver k trace (Numbered q v n id m ∷ xs) h all = absurd all.0
settles_all IsOver k trace (CopyStarted q copy ∷ xs) h all = absurd all.0
settles_all IsOver k trace (BecameSettled q v n ∷ xs) h all =
    takes_more IsOver k orders end (λ t c. ⊥) (Settle s.file s.index place) refl follows keeps_gone keeps_standing (settle_tries k.machine s place)
    (settles_all IsOver (moved k (Settle s.file s.index place ∷ []) k.log k.gone orders) trace xs follows.keeps.alike (due_later IsOver k (Settle s.file s.index place ∷ []) orders end xs follows.keeps.rounds all.1))
  where
    end : Table (List Placed)
    end = orders_after_all trace k.orders (BecameSettled q v n ∷ xs)

    orders : Table (List Placed)
    orders = orders_after trace k.orders (BecameSettled q v n)

    s : Spot
    s = (all.0).0

    place : ℕ
    place = (all.0).4

    names : AreNamedAlike (placed_in end q.0) (placed_in k.orders q.0)
    names = named_back (placed_in k.orders q.0) (placed_in end q.0) (all_named trace k.orders (BecameSettled q v n ∷ xs) (tt, due_settling IsOver k end xs all.1) q.0)

    follows : Follows NoneEnds k (Settle s.file s.index place ∷ []) (moved k (Settle s.file s.index place ∷ []) k.log k.gone orders)
    follows = (settled_entries_are_settled k trace q v n s place h (all.0).1 (all.0).2 (only_of (placed_in end q.0) (placed_in k.orders q.0) v.0 n.0 place names (all.0).5)).1

    still_open : IsRoundOpen (moved k (Settle s.file s.index place ∷ []) k.log k.gone orders) q.0 v.0 s
    still_open = elim (follows.keeps.rounds q.0 v.0 s (all.0).1) [ inl none ↦ absurd none | inr still ↦ still ]

    others : (other : ℕ) → (other ≡ q.0 → ⊥) → entries_in orders other ≡ entries_in k.orders other
    others other differs = ap (λ (o : Option (List Placed)). map (λ (p : Placed). p.entry) (unwrap_or o [])) (put_other k.orders q.0 (map (settled_as v.0 n.0) (placed_in k.orders q.0)) other differs)

    changed : Chunk
    changed = record (chunk_in k.machine s) { order = settled_at place (chunk_in k.machine s).order }

    keeps_gone : AreGoneOrdersAlike k → AreGoneOrdersAlike (moved k (Settle s.file s.index place ∷ []) k.log k.gone orders)
    keeps_gone = gone_kept k (Settle s.file s.index place ∷ []) orders q.0 v.0 s h (all.0).1 still_open others (one_changed k.machine s changed).elsewhere

    keeps_standing : KeepsStanding IsOver k (moved k (Settle s.file s.index place ∷ []) k.log k.gone orders)
    keeps_standing =
        standing_kept IsOver k (Settle s.file s.index place ∷ []) orders q.0 v.0 s (all.0).1 still_open (all.0).3 others (λ low less. later_entries low trace k.orders (BecameSettled q v n) q.0 (λ same. less))
        (one_changed k.machine s changed).elsewhere (one_changed k.machine s changed).counts

-- serials that are counted have their entries

number_at : (count n : ℕ) → 1 ≤ n → n ≤ count → (i : ℕ) × (element_at (first_numbers count) i ≡ Some n)
number_at zero n some few = absurd (omega (arith, some, few))
number_at (suc count) n some few = elim (same_or_not n (suc count)) [
  | inl same ↦ (length (first_numbers count), last_at (first_numbers count) (suc count) ∙ ap (λ (k : ℕ). Some k) (sym same))
  | inr other ↦
      let less : n ≤ count = below n count few other in
      let before = number_at count n some less in
      (before.0, kept_place (first_numbers count) (suc count ∷ []) before.0 n before.1)
]
  where
    last_at : (xs : List ℕ) (x : ℕ) → element_at (xs ++ x ∷ []) (length xs) ≡ Some x
    last_at [] x = refl
    last_at (y ∷ xs) x = last_at xs x

    below : (a b : ℕ) → a ≤ suc b → (a ≡ suc b → ⊥) → a ≤ b
    below a b low other = elim (cases_lt b a) [
      | inl more ↦ absurd (other (omega (arith, low, more)))
      | inr less ↦ less
    ]

abbrev HasNamed : List Placed → ℕ → ℕ → Type 0
HasNamed ps round serial = (place : ℕ) × (p : Placed) × (element_at ps place ≡ Some p) × (p.entry.round ≡ round) × (p.serial ≡ serial)

named_behind : (p : Placed) (ps : List Placed) (round serial : ℕ) → HasNamed ps round serial → HasNamed (p ∷ ps) round serial
named_behind p ps round serial h = (suc h.0, h.1, h.2, h.3, h.4)

named_entry : (round serial : ℕ) (ps : List Placed) (i : ℕ) → element_at (serials_of round ps) i ≡ Some serial → HasNamed ps round serial
named_entry round serial [] i at = none_some serial at
named_entry round serial (p ∷ ps) i at = by_test (p.entry.round == round) refl (λ n there. named_behind p ps round serial (named_entry round serial ps n there)) i at
  where
    by_test : (b : Bool) → (p.entry.round == round) ≡ b → ((n : ℕ) → element_at (serials_of round ps) n ≡ Some serial → HasNamed (p ∷ ps) round serial) → (n : ℕ)
        → element_at (map (λ (q : Placed). q.serial) (cond b (p ∷ filter (λ (q : Placed). q.entry.round == round) ps) (filter (λ (q : Placed). q.entry.round == round) ps))) n ≡ Some serial → HasNamed (p ∷ ps) round serial
    by_test true is behind zero there = (0, p, refl, eqb-true p.entry.round round is, same_some p.serial serial there)
    by_test true is behind (suc n) there = behind n there
    by_test false is behind n there = behind n there

pub counted_entry : (round serial count : ℕ) (ps : List Placed) → serials_of round ps ≡ first_numbers count → 1 ≤ serial → serial ≤ count → HasNamed ps round serial
counted_entry round serial count ps is some few =
    let at = number_at count serial some few in
    named_entry round serial ps at.0 (ap (λ (xs : List ℕ). element_at xs at.0) is ∙ at.1)
