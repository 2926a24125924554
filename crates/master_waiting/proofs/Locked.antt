-- The taken sets are the locks of the snapshots that wait, as these come and go.
use Rattle.std.proofs.Common.{◌≡◌, ◌≢◌, ℕ, zero, suc, ◌+◌, ◌-◌, ◌<◌, ◌==◌, Bool, true, false, not, cond, ◌&&◌, ◌||◌, List, [], ◌∷◌, ◌++◌, length, length-append, filter_map, filter, take, drop, Option, Some, None, is_some, slice_index_or, refl, sym, ap, ◌∙◌, subst, arith}
use Rattle.std.specs.Option.{option_or}
use Rattle.std.specs.Prelude.{◌↔◌, IsTrue, Result, Ok, Err, OnOk, OnErr}
use Rattle.name_locks.specs.declared.table.TakeFault.{TakeFault}
use Rattle.name_locks.specs.declared.table.TakeFault.TheVariants.{Conflict}
use Rattle.std.specs.Result.{is_ok, is_err}
use Rattle.std.proofs.lemmas.List.{take_at}
use Rattle.std.specs.List.{list_any, list_all, remove}
use Rattle.std.proofs.lemmas.Bool.{and_parts}
use Rattle.std.proofs.lemmas.Bool.Decides.{nat_tests}
use Rattle.name_locks.specs.Locks.{Lock, Table, Changes, held_by, has_conflict, sets_clash}
use Rattle.protocol.specs.Tables.{has_number}
use Rattle.protocol.specs.Master.{PendingSnapshot}
use Rattle.master_waiting.specs.CallLocks.{has_paths, locks_of_snapshot, locks_under, AreDistinct, AreLocked, TakesOne, AreKept}

same : (a b : ℕ) → (a == b) ≡ true → a ≡ b
same a b e = grind (arith, nat_tests)

apart : (a b : ℕ) → (a == b) ≡ false → (b == a) ≡ false
apart a b e = grind (arith, nat_tests)

itself : (a : ℕ) → (a == a) ≡ true
itself a = grind (arith, nat_tests)

differ : (a b : ℕ) → (a == b) ≡ false → a ≢ b
differ a b e is = let t : (a == b) ≡ true = ap (λ x. a == x) (sym is) ∙ itself a in absurd (let both : true ≡ false = sym t ∙ e in cc)

pub neither : (a b : Bool) → (a || b) ≡ false → (a ≡ false) × (b ≡ false)
neither false b e = (refl, e)
neither true b e = cc

or_true : (b : Bool) → (b || true) ≡ true
or_true true = refl
or_true false = refl

-- a ticket that nobody has holds nothing
absent : (ss : List PendingSnapshot) (ts : List ℕ) (n : ℕ) → has_number ts n ≡ false → locks_under ss ts n ≡ None
absent [] ts n e = refl
absent (s ∷ ss) [] n e = refl
absent (s ∷ ss) (t ∷ ts) n e =
    let both = neither (t == n) (has_number ts n) e in
    ap (λ b. cond b (Some (locks_of_snapshot s)) (locks_under ss ts n)) both.0 ∙ absent ss ts n both.1

-- and one that somebody has holds something
there : (ss : List PendingSnapshot) (ts : List ℕ) (n : ℕ) → length ts ≡ length ss → has_number ts n ≡ true → is_some (locks_under ss ts n) ≡ true
there ss [] n l e = cc
there [] (t ∷ ts) n l e = absurd (omega (arith, l))
there (s ∷ ss) (t ∷ ts) n l e =
    elim (t == n) as (λ b. (b || has_number ts n) ≡ true → is_some (cond b (Some (locks_of_snapshot s)) (locks_under ss ts n)) ≡ true) [
      | true ↦ λ _. refl
      | false ↦ λ h. there ss ts n (omega (arith, l)) h
    ] e

vacant : (ss : List PendingSnapshot) (ts : List ℕ) (n : ℕ) → length ts ≡ length ss → locks_under ss ts n ≡ None → has_number ts n ≡ false
vacant ss ts n l none =
    elim (has_number ts n) as (λ b. has_number ts n ≡ b → b ≡ false) [
      | true ↦ λ e. let some : is_some (locks_under ss ts n) ≡ true = there ss ts n l e in let no : is_some (locks_under ss ts n) ≡ false = ap is_some none in absurd (let both : true ≡ false = sym some ∙ no in cc)
      | false ↦ λ e. refl
    ] refl

-- One more.
under_more : (ss : List PendingSnapshot) (ts : List ℕ) (s : PendingSnapshot) (t n : ℕ) → length ts ≡ length ss
    → locks_under (ss ++ s ∷ []) (ts ++ t ∷ []) n ≡ option_or (locks_under ss ts n) (cond (t == n) (Some (locks_of_snapshot s)) None)
under_more [] [] s t n l = refl
under_more [] (u ∷ ts) s t n l = absurd (omega (arith, l))
under_more (x ∷ ss) [] s t n l = absurd (omega (arith, l))
under_more (x ∷ ss) (u ∷ ts) s t n l =
    let rest = under_more ss ts s t n (omega (arith, l)) in
    elim (u == n) as (λ b. cond b (Some (locks_of_snapshot x)) (locks_under (ss ++ s ∷ []) (ts ++ t ∷ []) n)
    ≡ option_or (cond b (Some (locks_of_snapshot x)) (locks_under ss ts n)) (cond (t == n) (Some (locks_of_snapshot s)) None)) [
      | true ↦ refl
      | false ↦ rest
    ]

or_none : {X : Type 0} (o : Option X) → option_or o None ≡ o
or_none None = refl
or_none (Some x) = refl

number_more : (ts : List ℕ) (t n : ℕ) → has_number ts n ≡ false → (t == n) ≡ false → has_number (ts ++ t ∷ []) n ≡ false
number_more [] t n e f = ap (λ b. b || false) f
number_more (u ∷ ts) t n e f =
    let both = neither (u == n) (has_number ts n) e in
    ap (λ b. b || has_number (ts ++ t ∷ []) n) both.0 ∙ number_more ts t n both.1 f

distinct_more : (ts : List ℕ) (t : ℕ) → AreDistinct ts → has_number ts t ≡ false → AreDistinct (ts ++ t ∷ [])
distinct_more [] t d e = (refl, tt)
distinct_more (u ∷ ts) t d e =
    let both = neither (u == t) (has_number ts t) e in
    (number_more ts t u d.0 (apart u t both.0), distinct_more ts t d.1 both.1)

pub all_more : {X : Type 0} (f : X → Bool) (xs : List X) (x : X) → list_all f xs ≡ true → f x ≡ true → list_all f (xs ++ x ∷ []) ≡ true
all_more f [] x e g = ap (λ b. b && true) g
all_more f (y ∷ ys) x e g = let both = and_parts (f y) (list_all f ys) e in ap (λ b. b && list_all f (ys ++ x ∷ [])) both.0 ∙ all_more f ys x both.1 g

pub all_less : {X : Type 0} (f : X → Bool) (xs : List X) (i : ℕ) → list_all f xs ≡ true → list_all f (remove xs i) ≡ true
all_less f [] zero e = refl
all_less f [] (suc i) e = refl
all_less f (x ∷ xs) zero e = (and_parts (f x) (list_all f xs) e).1
all_less f (x ∷ xs) (suc i) e = let both = and_parts (f x) (list_all f xs) e in ap (λ b. b && list_all f (remove xs i)) both.0 ∙ all_less f xs i both.1

pub locked_more : (ss : List PendingSnapshot) (ts new : List ℕ) (table after : Table) (s : PendingSnapshot)
    → TakesOne ts new table after (locks_of_snapshot s) → has_paths s ≡ true → AreLocked ss ts table → AreLocked (ss ++ s ∷ []) new after
locked_more ss ts new table after s takes lawful h =
    let t = takes.ticket in
    let none : locks_under ss ts t ≡ None = sym (h.taken t) ∙ takes.vacant in
    let free : has_number ts t ≡ false = vacant ss ts t h.each none in
    let long : length (ts ++ t ∷ []) ≡ length (ss ++ s ∷ []) = length-append ts (t ∷ []) ∙ ap (λ k. k + 1) h.each ∙ sym (length-append ss (s ∷ [])) in
    let all : AreLocked (ss ++ s ∷ []) (ts ++ t ∷ []) after = record {
      each = long;
      paths = all_more has_paths ss s h.paths lawful;
      distinct = distinct_more ts t h.distinct free;
      taken = λ n.
          elim (t == n) as (λ b. (t == n) ≡ b → held_by after n ≡ locks_under (ss ++ s ∷ []) (ts ++ t ∷ []) n) [
            | true ↦ λ e.
                let is : t ≡ n = same t n e in
                subst (λ k. held_by after k ≡ locks_under (ss ++ s ∷ []) (ts ++ t ∷ []) k) is
                (takes.changes.changed
                ∙ sym (under_more ss ts s t t h.each ∙ ap (λ o. option_or o (cond (t == t) (Some (locks_of_snapshot s)) None)) none ∙ ap (λ b. cond b (Some (locks_of_snapshot s)) None) (itself t)))
            | false ↦ λ e.
                takes.changes.others n (differ n t (apart t n e)) ∙ h.taken n
                ∙ sym (under_more ss ts s t n h.each ∙ ap (λ b. option_or (locks_under ss ts n) (cond b (Some (locks_of_snapshot s)) None)) e ∙ or_none (locks_under ss ts n))
          ] refl;
    } in
    subst (λ xs. AreLocked (ss ++ s ∷ []) xs after) (sym takes.behind) all

-- one more, and that one taken back
pub popped : {X : Type 0} (xs : List X) (x : X) → take (length (xs ++ x ∷ []) - 1) (xs ++ x ∷ []) ≡ xs
popped xs x =
    let l : length (xs ++ x ∷ []) - 1 ≡ length xs = omega (arith, length-append xs (x ∷ [])) in
    ap (λ n. take n (xs ++ x ∷ [])) l ∙ take_at xs (x ∷ []) (length xs) refl

-- None more.
pub locked_still : (ss : List PendingSnapshot) (ts new : List ℕ) (table after : Table) → new ≡ ts → AreKept table after → AreLocked ss ts table → AreLocked ss new after
locked_still ss ts new table after is kept h =
    subst (λ xs. AreLocked ss xs after) (sym is) (record { each = h.each; paths = h.paths; distinct = h.distinct; taken = λ n. kept n ∙ h.taken n })

-- One less.
has_own : (ts : List ℕ) (i t : ℕ) → i < length ts → t ≡ slice_index_or ts i t → has_number ts t ≡ true
has_own [] i t lt is = absurd (omega (arith, lt))
has_own (u ∷ ts) zero t lt is = ap (λ b. b || has_number ts t) (ap (λ x. x == t) (sym is) ∙ itself t)
has_own (u ∷ ts) (suc i) t lt is = ap (λ b. (u == t) || b) (has_own ts i t (omega (arith, lt)) is) ∙ or_true (u == t)

under_less : (ss : List PendingSnapshot) (ts : List ℕ) (i t n : ℕ) → length ts ≡ length ss → i < length ss → t ≡ slice_index_or ts i t → AreDistinct ts
    → locks_under (remove ss i) (remove ts i) n ≡ cond (t == n) None (locks_under ss ts n)
under_less [] ts i t n l lt is d = absurd (omega (arith, lt))
under_less (s ∷ ss) [] i t n l lt is d = absurd (omega (arith, l))
under_less (s ∷ ss) (u ∷ ts) zero t n l lt is d =
    let free : has_number ts t ≡ false = subst (λ x. has_number ts x ≡ false) (sym is) d.0 in
    elim (t == n) as (λ b. (t == n) ≡ b → locks_under ss ts n ≡ cond b None (cond (u == n) (Some (locks_of_snapshot s)) (locks_under ss ts n))) [
      | true ↦ λ e. absent ss ts n (subst (λ x. has_number ts x ≡ false) (same t n e) free)
      | false ↦ λ e. sym (ap (λ b. cond b (Some (locks_of_snapshot s)) (locks_under ss ts n)) (ap (λ x. x == n) (sym is) ∙ e))
    ] refl
under_less (s ∷ ss) (u ∷ ts) (suc i) t n l lt is d =
    let rest = under_less ss ts i t n (omega (arith, l)) (omega (arith, lt)) is d.1 in
    let own : has_number ts t ≡ true = has_own ts i t (omega (arith, l, lt)) is in
    elim (u == n) as (λ b. (u == n) ≡ b
    → cond b (Some (locks_of_snapshot s)) (locks_under (remove ss i) (remove ts i) n) ≡ cond (t == n) None (cond b (Some (locks_of_snapshot s)) (locks_under ss ts n))) [
      | true ↦ λ e.
          let no : (t == n) ≡ false = elim (t == n) as (λ b. (t == n) ≡ b → b ≡ false) [
            | true ↦ λ f.
                let both : u ≡ t = same u n e ∙ sym (same t n f) in
                absurd (let clash : true ≡ false = sym own ∙ subst (λ x. has_number ts x ≡ false) both d.0 in cc)
            | false ↦ λ f. refl
          ] refl in
          sym (ap (λ b. cond b None (Some (locks_of_snapshot s))) no)
      | false ↦ λ e. rest
    ] refl

number_less : (ts : List ℕ) (i n : ℕ) → has_number ts n ≡ false → has_number (remove ts i) n ≡ false
number_less [] zero n e = refl
number_less [] (suc i) n e = refl
number_less (u ∷ ts) zero n e = (neither (u == n) (has_number ts n) e).1
number_less (u ∷ ts) (suc i) n e =
    let both = neither (u == n) (has_number ts n) e in
    ap (λ b. b || has_number (remove ts i) n) both.0 ∙ number_less ts i n both.1

distinct_less : (ts : List ℕ) (i : ℕ) → AreDistinct ts → AreDistinct (remove ts i)
distinct_less [] zero d = tt
distinct_less [] (suc i) d = tt
distinct_less (u ∷ ts) zero d = d.1
distinct_less (u ∷ ts) (suc i) d = (number_less ts i u d.0, distinct_less ts i d.1)

length_less : {X Y : Type 0} (xs : List X) (ys : List Y) (i : ℕ) → length xs ≡ length ys → length (remove xs i) ≡ length (remove ys i)
length_less [] [] zero l = refl
length_less [] [] (suc i) l = refl
length_less [] (y ∷ ys) i l = absurd (omega (arith, l))
length_less (x ∷ xs) [] i l = absurd (omega (arith, l))
length_less (x ∷ xs) (y ∷ ys) zero l = omega (arith, l)
length_less (x ∷ xs) (y ∷ ys) (suc i) l = ap suc (length_less xs ys i (omega (arith, l)))

pub locked_less : (ss : List PendingSnapshot) (ts : List ℕ) (table after : Table) (i t : ℕ) → i < length ss → t ≡ slice_index_or ts i t → Changes table after t None
    → AreLocked ss ts table → AreLocked (remove ss i) (remove ts i) after
locked_less ss ts table after i t lt is changes h =
    record {
      each = length_less ts ss i h.each;
      paths = all_less has_paths ss i h.paths;
      distinct = distinct_less ts i h.distinct;
      taken = λ n.
          elim (t == n) as (λ b. (t == n) ≡ b → held_by after n ≡ locks_under (remove ss i) (remove ts i) n) [
            | true ↦ λ e.
                subst (λ k. held_by after k ≡ None) (same t n e) changes.changed
                ∙ sym (under_less ss ts i t n h.each lt is h.distinct ∙ ap (λ b. cond b None (locks_under ss ts n)) e)
            | false ↦ λ e.
                changes.others n (differ n t (apart t n e)) ∙ h.taken n
                ∙ sym (under_less ss ts i t n h.each lt is h.distinct ∙ ap (λ b. cond b None (locks_under ss ts n)) e)
          ] refl;
    }

-- a ticket of the list is open
pub is_open : (ss : List PendingSnapshot) (ts : List ℕ) (table : Table) (i t : ℕ) → i < length ss → t ≡ slice_index_or ts i t → AreLocked ss ts table → is_some (held_by table t) ≡ true
is_open ss ts table i t lt is h =
    ap is_some (h.taken t) ∙ there ss ts t h.each (has_own ts i t (let l : length ts ≡ length ss = h.each in omega (arith, lt)) is)

-- What conflicts.
record Held (table : Table) (P : List Lock → Bool) : Type 0 where
  ticket : ℕ
  locks : List Lock
  holds : held_by table ticket ≡ Some locks
  passes : P locks ≡ true

either : (a b : Bool) → (a || b) ≡ true → (A : Type 0) → (a ≡ true → A) → (b ≡ true → A) → A
either true b e A f g = f refl
either false b e A f g = g e

some_held : (P : List Lock → Bool) (table : Table) → list_any P (filter_map (λ held. held) table) ≡ true → Held table P
some_held P [] e = cc
some_held P (None ∷ table) e =
    let rest = some_held P table e in
    record { ticket = suc rest.ticket; locks = rest.locks; holds = rest.holds; passes = rest.passes }
some_held P (Some x ∷ table) e =
    either (P x) (list_any P (filter_map (λ held. held) table)) e (Held (Some x ∷ table) P)
    (λ here. record { ticket = 0; locks = x; holds = refl; passes = here })
    (λ later. let rest = some_held P table later in record { ticket = suc rest.ticket; locks = rest.locks; holds = rest.holds; passes = rest.passes })

no_slot : (n : ℕ) (x : List Lock) → held_by [] n ≡ Some x → ⊥
no_slot zero x e = cc
no_slot (suc n) x e = cc

held_some : (P : List Lock → Bool) (table : Table) (n : ℕ) (x : List Lock) → held_by table n ≡ Some x → P x ≡ true → list_any P (filter_map (λ held. held) table) ≡ true
held_some P [] n x e p = absurd (no_slot n x e)
held_some P (None ∷ table) zero x e p = cc
held_some P (None ∷ table) (suc n) x e p = held_some P table n x e p
held_some P (Some y ∷ table) zero x e p = let is : y ≡ x = cc in ap (λ b. b || list_any P (filter_map (λ held. held) table)) (ap P is ∙ p)
held_some P (Some y ∷ table) (suc n) x e p = ap (λ b. P y || b) (held_some P table n x e p) ∙ or_true (P y)

under_any : (P : List Lock → Bool) (ss : List PendingSnapshot) (ts : List ℕ) (n : ℕ) (x : List Lock) → locks_under ss ts n ≡ Some x → P x ≡ true
    → list_any (λ s. P (locks_of_snapshot s)) ss ≡ true
under_any P [] ts n x e p = cc
under_any P (s ∷ ss) [] n x e p = cc
under_any P (s ∷ ss) (t ∷ ts) n x e p =
    elim (t == n) as (λ b. cond b (Some (locks_of_snapshot s)) (locks_under ss ts n) ≡ Some x → (P (locks_of_snapshot s) || list_any (λ s. P (locks_of_snapshot s)) ss) ≡ true) [
      | true ↦ λ f. let is : locks_of_snapshot s ≡ x = cc in ap (λ b. b || list_any (λ s. P (locks_of_snapshot s)) ss) (ap P is ∙ p)
      | false ↦ λ f. ap (λ b. P (locks_of_snapshot s) || b) (under_any P ss ts n x f p) ∙ or_true (P (locks_of_snapshot s))
    ] e

record Under (ss : List PendingSnapshot) (ts : List ℕ) (P : List Lock → Bool) : Type 0 where
  ticket : ℕ
  locks : List Lock
  own : has_number ts ticket ≡ true
  holds : locks_under ss ts ticket ≡ Some locks
  passes : P locks ≡ true

any_under : (P : List Lock → Bool) (ss : List PendingSnapshot) (ts : List ℕ) → length ts ≡ length ss → AreDistinct ts → list_any (λ s. P (locks_of_snapshot s)) ss ≡ true → Under ss ts P
any_under P [] ts l d e = cc
any_under P (s ∷ ss) [] l d e = absurd (omega (arith, l))
any_under P (s ∷ ss) (t ∷ ts) l d e =
    either (P (locks_of_snapshot s)) (list_any (λ s. P (locks_of_snapshot s)) ss) e (Under (s ∷ ss) (t ∷ ts) P)
    (λ here. record {
      ticket = t;
      locks = locks_of_snapshot s;
      own = ap (λ b. b || has_number ts t) (itself t);
      holds = ap (λ b. cond b (Some (locks_of_snapshot s)) (locks_under ss ts t)) (itself t);
      passes = here;
    })
    (λ later.
    let rest = any_under P ss ts (omega (arith, l)) d.1 later in
    let no : (t == rest.ticket) ≡ false = elim (t == rest.ticket) as (λ b. (t == rest.ticket) ≡ b → b ≡ false) [
      | true ↦ λ f. absurd (let clash : true ≡ false = sym rest.own ∙ subst (λ x. has_number ts x ≡ false) (same t rest.ticket f) d.0 in cc)
      | false ↦ λ f. refl
    ] refl in
    record {
      ticket = rest.ticket;
      locks = rest.locks;
      own = ap (λ b. (t == rest.ticket) || b) rest.own ∙ or_true (t == rest.ticket);
      holds = ap (λ b. cond b (Some (locks_of_snapshot s)) (locks_under ss ts rest.ticket)) no ∙ rest.holds;
      passes = rest.passes;
    })

alike : (a b : Bool) → (a ≡ true → b ≡ true) → (b ≡ true → a ≡ true) → a ≡ b
alike true b f g = sym (f refl)
alike false true f g = g refl
alike false false f g = refl

-- a taken set conflicts where the locks of a snapshot do
pub conflicts_are : (ss : List PendingSnapshot) (ts : List ℕ) (table : Table) (wanted : List Lock) → AreLocked ss ts table
    → has_conflict table wanted ≡ list_any (λ s. sets_clash (locks_of_snapshot s) wanted) ss
conflicts_are ss ts table wanted h =
    let P : List Lock → Bool = λ held. sets_clash held wanted in
    alike (has_conflict table wanted) (list_any (λ s. P (locks_of_snapshot s)) ss)
    (λ e. let found = some_held P table e in under_any P ss ts found.ticket found.locks (sym (h.taken found.ticket) ∙ found.holds) found.passes)
    (λ e. let found = any_under P ss ts h.each h.distinct e in held_some P table found.ticket found.locks (h.taken found.ticket ∙ found.holds) found.passes)

-- What a call answered.
pub if_no_err : {T E P : Type 0} (r : Result T E) → is_err r ≡ false → OnOk r P → P
if_no_err (Ok x) e h = h
if_no_err (Err x) e h = absurd (let both : true ≡ false = e in cc)

pub if_err : {T E P : Type 0} (r : Result T E) → is_err r ≡ true → OnErr r P → P
if_err (Ok x) e h = absurd (let both : false ≡ true = e in cc)
if_err (Err x) e h = h

pub is_ok_there : {T E : Type 0} (r : Result T E) → is_err r ≡ false → is_ok r ≡ true
is_ok_there (Ok x) e = refl
is_ok_there (Err x) e = absurd (let both : true ≡ false = e in cc)

-- locks that are free don't conflict
pub no_conflict : {T : Type 0} (r : Result T TakeFault) (table : Table) (wanted locks : List Lock) → r ≡ Err Conflict → ((r ≡ Err Conflict) ↔ IsTrue (has_conflict table wanted))
    → wanted ≡ locks → has_conflict table locks ≡ false → ⊥
no_conflict r table wanted locks is iff same free =
    let met : has_conflict table wanted ≡ true = iff.0 is in
    let none : has_conflict table wanted ≡ false = ap (has_conflict table) same ∙ free in
    let both : true ≡ false = sym met ∙ none in cc
