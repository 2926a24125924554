-- What is kept of the entries of all chunks' orders by what a step shows.
use Rattle.std.proofs.Common.{◌≡◌, ℕ, zero, suc, ◌+◌, List, [], ◌∷◌, ◌++◌, map, Option, Some, None, refl, sym, subst, inl, inr, arith}
use Rattle.std.specs.Prelude.{nat_lt, unwrap_or, true, count_by}
use Rattle.std.specs.FinMap as table
use Rattle.gfs_types.specs.declared.ids.DataId.{DataId}
use Rattle.gfs_types.specs.declared.ids.Handle.{Handle}
use Rattle.gfs_types.specs.declared.ids.Version.{Version}
use Rattle.gfs_types.specs.declared.ids.Serial.{Serial}
use Rattle.gfs_types.specs.declared.answer.Answer.{Answer}
use Rattle.gfs_types.specs.declared.mutation.Mutation.{Mutation}
use Rattle.relaxed_file.specs.Run.{Visible, Passed}
use Rattle.protocol.specs.Tables.{Table, element_at}
use Rattle.protocol.specs.declared.seen.Seen.{Seen}
use Rattle.protocol.specs.declared.seen.Seen.TheVariants.{Numbered, BecameSettled, CopyStarted}
use Rattle.protocol.specs.Observer.{Placed, Observer, observed_moment, observed_answer, is_call_of, calls_made, placed_in, is_placed_as, settled_as, new_entry, orders_after, orders_after_all}
use Rattle.laws_base.proofs.Steps.{on_cond, same_or_not, put_there, put_other, count-append}
use Rattle.laws_base.proofs.Entries.{AllOf, all_joined}
use Rattle.laws_base.specs.ChunkOrders.{unsettled, Linked, IsSource}

pub all_placed : {X : Type 0} (P : X → Type 0) (xs : List X) → ((place : ℕ) (x : X) → element_at xs place ≡ Some x → P x) → AllOf P xs
all_placed P [] each = tt
all_placed P (x ∷ xs) each = (each zero x refl, all_placed P xs (λ place y at. each (suc place) y at))

all_on : {X : Type 0} (P Q : X → Type 0) → ((x : X) → P x → Q x) → (xs : List X) → AllOf P xs → AllOf Q xs
all_on P Q go [] h = tt
all_on P Q go (x ∷ xs) h = (go x h.0, all_on P Q go xs h.1)

-- T of an entry's chunk and of the entry, but for whether it is settled
abbrev pub Holds : (ℕ → Placed → Type 0) → ℕ → Placed → Type 0
Holds T handle p = T handle (unsettled p)

abbrev pub AreAll : (ℕ → Placed → Type 0) → Table (List Placed) → Type 0
AreAll T orders = (handle : ℕ) → AllOf (Holds T handle) (placed_in orders handle)

pub all_go_on : (T U : ℕ → Placed → Type 0) → ((handle : ℕ) (p : Placed) → T handle p → U handle p) → (orders : Table (List Placed)) → AreAll T orders → AreAll U orders
all_go_on T U go orders h handle = all_on (Holds T handle) (Holds U handle) (λ p t. go handle (unsettled p) t) (placed_in orders handle) (h handle)

-- one chunk's order is put anew
put_all : (T : ℕ → Placed → Type 0) (orders : Table (List Placed)) (k : ℕ) (ps : List Placed) → AreAll T orders → AllOf (Holds T k) ps → AreAll T (table.insert orders k ps)
put_all T orders k ps h all handle =
    elim (same_or_not handle k) [
      | inl same ↦ subst (λ (o : Option (List Placed)). AllOf (Holds T handle) (unwrap_or o [])) (sym (put_there orders k ps handle same)) (subst (λ (n : ℕ). AllOf (Holds T n) ps) (sym same) all)
      | inr apart ↦ subst (λ (o : Option (List Placed)). AllOf (Holds T handle) (unwrap_or o [])) (sym (put_other orders k ps handle apart)) (h handle)
    ]

settled_holds : (T : ℕ → Placed → Type 0) (handle version serial : ℕ) (ps : List Placed) → AllOf (Holds T handle) ps → AllOf (Holds T handle) (map (settled_as version serial) ps)
settled_holds T handle version serial [] h = tt
settled_holds T handle version serial (p ∷ ps) h = (
  on_cond (Holds T handle) (is_placed_as version serial p) (record p { entry = record p.entry { settled = true } }) p (λ _. h.0) (λ _. h.0),
  settled_holds T handle version serial ps h.1,
)

-- what is seen, of which V, keeps T
pub record Keeps (trace : List Visible) (V : Seen → Type 0) (T : ℕ → Placed → Type 0) : Type 0 where
  pub numbers : (handle : Handle) (version : Version) (serial : Serial) (id : DataId) (m : Mutation) → V (Numbered handle version serial id m) → T handle.0 (new_entry trace version.0 serial.0 id m)
  pub copies : (handle copy : Handle) → V (CopyStarted handle copy) → (p : Placed) → T handle.0 p → T copy.0 p

module _ (trace : List Visible) (V : Seen → Type 0) (T : ℕ → Placed → Type 0) (k : Keeps trace V T) where
  one_keeps : (orders : Table (List Placed)) (x : Seen) → V x → AreAll T orders → AreAll T (orders_after trace orders x)
  one_keeps orders (Numbered handle version serial id m) v h =
      let new : Placed = new_entry trace version.0 serial.0 id m in
      put_all T orders handle.0 (placed_in orders handle.0 ++ new ∷ []) h (all_joined (Holds T handle.0) (placed_in orders handle.0) (new ∷ []) (h handle.0) (k.numbers handle version serial id m v, tt))
  one_keeps orders (BecameSettled handle version serial) v h =
      put_all T orders handle.0 (map (settled_as version.0 serial.0) (placed_in orders handle.0)) h (settled_holds T handle.0 version.0 serial.0 (placed_in orders handle.0) (h handle.0))
  one_keeps orders (CopyStarted handle copy) v h =
      put_all T orders copy.0 (placed_in orders handle.0) h (all_on (Holds T handle.0) (Holds T copy.0) (λ p t. k.copies handle copy v (unsettled p) t) (placed_in orders handle.0) (h handle.0))

  pub all_keep : (orders : Table (List Placed)) (seen : List Seen) → AllOf V seen → AreAll T orders → AreAll T (orders_after_all trace orders seen)
  all_keep orders [] all h = h
  all_keep orders (x ∷ xs) all h = all_keep (orders_after trace orders x) xs all.1 (one_keeps orders x all.0 h)

-- a moment that passes changes neither orders nor calls

pub same_orders : (o : Observer) (n : ℕ) (a : Option Answer) → (observed_answer o n a).orders ≡ o.orders
same_orders o n None = refl
same_orders o n (Some reply) = refl

pub same_calls : (skew : ℕ) (o : Observer) (moment client : ℕ) → calls_made (observed_moment skew o moment).trace client ≡ calls_made o.trace client
same_calls skew o moment client =
    on_cond (λ (trace : List Visible). calls_made trace client ≡ calls_made o.trace client) (nat_lt o.greatest moment) (o.trace ++ Passed moment ∷ []) o.trace
    (λ _. let both = count-append (is_call_of client) o.trace (Passed moment ∷ []) in let none : count_by (is_call_of client) (Passed moment ∷ []) ≡ 0 = refl in omega (arith, both, none)) (λ _. refl)

-- chains

pub linked_on : (C D : ℕ → ℕ → Type 0) → ((a b : ℕ) → C a b → D a b) → (from : ℕ) (chain : List ℕ) (handle : ℕ) → Linked C from chain handle → Linked D from chain handle
linked_on C D go from [] handle h = h
linked_on C D go from (next ∷ rest) handle h = (go from next h.0, linked_on C D go next rest handle h.1)

linked_both : (C : ℕ → ℕ → Type 0) (from : ℕ) (chain : List ℕ) (middle : ℕ) (more : List ℕ) (handle : ℕ) → Linked C from chain middle → Linked C middle more handle → Linked C from (chain ++ more) handle
linked_both C from [] middle more handle same h = subst (λ (n : ℕ). Linked C n more handle) (sym same) h
linked_both C from (next ∷ rest) middle more handle first h = (first.0, linked_both C next rest middle more handle first.1 h)

pub sources_both : (C : ℕ → ℕ → Type 0) (from middle handle : ℕ) → IsSource C from middle → IsSource C middle handle → IsSource C from handle
sources_both C from middle handle first h = (first.0 ++ h.0, linked_both C from first.0 middle h.0 handle first.1 h.1)

pub one_source : (C : ℕ → ℕ → Type 0) (handle copy : ℕ) → C handle copy → IsSource C handle copy
one_source C handle copy c = (copy ∷ [], (c, refl))

pub own_source : (C : ℕ → ℕ → Type 0) (handle : ℕ) → IsSource C handle handle
own_source C handle = ([], refl)
