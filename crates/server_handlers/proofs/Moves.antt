-- What a primary's calls are without the clock, at a moment at which its lease counts.
use Rattle.std.proofs.Common.{◌≡◌, ℕ, ◌+◌, ◌<◌, ◌≤◌, Bool, true, false, cond, eqb, ltb, ◌&&◌, Option, Some, None, refl, sym, ap, ◌∙◌, subst, max, arith}
use Rattle.std.specs.Option.{option_map}
use Rattle.std.specs.FinMap.{get, insert}
use Rattle.std.proofs.lemmas.Bool.Decides.{nat_tests}
use Rattle.gfs_types.specs.Counters.{counter_limit}
use Rattle.gfs_types.specs.declared.ids.DataId.{DataId}
use Rattle.gfs_types.specs.declared.refusal.Refusal.{Refusal}
use Rattle.gfs_types.specs.declared.refusal.Refusal.TheVariants as refusal
use Rattle.leases.specs.LeaseHeld.{LeaseHeld, counts_at, extended}
use Rattle.primary_order.specs.declared.answer.Accept.{Accept}
use Rattle.primary_order.specs.declared.answer.Accept.TheVariants.{New, Pending, Refused}
use Rattle.primary_order.specs.declared.waiting.Waiting.{Waiting}
use Rattle.primary_order.specs.declared.primary.Primary.{Primary}
use Rattle.primary_order.specs.PrimaryOrder as primary
use Rattle.primary_order.specs.PrimaryOrder.{known, seen_at, new_answer, numbered_if, denied_if, accepted, accept_answer, ack_answer, settled_kept, settled_by, success_of, waiting_by}
use Rattle.primary_order.specs.SerialOrder as order
use Rattle.primary_order.specs.SerialOrder.{SerialOrder, IsNew, attempted, attempt_of, known_as, order_of}
use Rattle.primary_order.proofs.Attempts.{known_by_attempt}
use Rattle.protocol.specs.Tables.{Table}
use Rattle.protocol.specs.Sending.{serial_of}
use Rattle.server_handlers.specs.Held.{HeldLeases, AreHeld, orders_of, changed_at, counting_at, counted_at, serial_in, serial_given, settled_at, attempt_at, would_count}
use Rattle.server_handlers.proofs.SeenOrders.{IsHeld, asked, get_orders, held_changed, held_put, orders_changed, orders_put}

latest_of : (a b : ℕ) → a ≤ b → max a b ≡ b
latest_of a b le = omega arith

-- whether a lease counts now, by its primary and by its server
pub counts_same : (skew latest now : ℕ) (p : Primary) → IsHeld skew latest p → latest ≤ now → would_count now p ≡ counts_at skew (order_of p).held now
counts_same skew latest now p held le =
    let most = held.1 in
    ap (λ x. counts_at x p.held.lease (max p.held.latest now)) held.0 ∙ ap (counts_at skew p.held.lease) (latest_of p.held.latest now (omega arith))

-- of a lease that counts by its server
pub counts_now : (skew latest now : ℕ) (p : Primary) (q : SerialOrder) → IsHeld skew latest p → latest ≤ now → order_of p ≡ q → counts_at skew q.held now ≡ true → would_count now p ≡ true
counts_now skew latest now p q held le same counts = counts_same skew latest now p held le ∙ ap (λ (x : SerialOrder). counts_at skew x.held now) same ∙ counts

-- a new attempt is not known
none_known : (p : Primary) (q : SerialOrder) (id : DataId) → order_of p ≡ q → attempted q id.client id.seq ≡ IsNew → known p id.client id.seq ≡ None
none_known p q id same is =
    known_by_attempt p id.client id.seq ∙ ap (λ (x : SerialOrder). known_as id.client id.seq (attempted x id.client id.seq)) same ∙ ap (known_as id.client id.seq) is

pub order_denied : (p : Primary) (q : SerialOrder) (id : DataId) (r : Refusal) → order_of p ≡ q → attempted q id.client id.seq ≡ IsNew
    → order_of (primary.denied p id.client id.seq r) ≡ order.denied q id.client id.seq r
order_denied p q id r same is =
    ap (λ o. order_of (denied_if p id.client id.seq r o)) (none_known p q id same is) ∙ ap (λ (x : SerialOrder). order.denied x id.client id.seq r) same

has_room : (a b : ℕ) → a < b → ltb a b ≡ true
has_room a b lt = grind (arith, nat_tests)

pub order_accepted : (p : Primary) (q : SerialOrder) (id : DataId) (place : Option ℕ) (now : ℕ) → order_of p ≡ q → would_count now p ≡ true → attempted q id.client id.seq ≡ IsNew → q.serial < counter_limit
    → order_of (accepted (seen_at p now) id.client id.seq place) ≡ order.numbered q id.client id.seq place
order_accepted p q id place now same counts is lt =
    let s : Primary = seen_at p now in
    ap (λ b. order_of (cond b (numbered_if s id.client id.seq place (known s id.client id.seq)) s)) counts
    ∙ (ap (λ o. order_of (numbered_if s id.client id.seq place o)) (none_known p q id same is)
    ∙ (ap (λ b. order_of (cond b (primary.numbered s id.client id.seq place) s)) (ap (λ (x : SerialOrder). ltb x.serial counter_limit) same ∙ has_room q.serial counter_limit lt)
    ∙ ap (λ (x : SerialOrder). order.numbered x id.client id.seq place) same))

pub serial_accepted : (p : Primary) (q : SerialOrder) (id : DataId) (now : ℕ) → order_of p ≡ q → would_count now p ≡ true → attempted q id.client id.seq ≡ IsNew → q.serial < counter_limit
    → serial_in (accept_answer (seen_at p now) id.client id.seq) ≡ Some (serial_of (q.serial + 1))
serial_accepted p q id now same counts is lt =
    let s : Primary = seen_at p now in
    ap (λ b. serial_in (cond b (new_answer s (known s id.client id.seq)) (Refused refusal.NoLease))) counts
    ∙ (ap (λ o. serial_in (new_answer s o)) (none_known p q id same is)
    ∙ (ap (λ b. serial_in (cond b (New (serial_of (s.serial + 1))) Pending)) (ap (λ (x : SerialOrder). ltb x.serial counter_limit) same ∙ has_room q.serial counter_limit lt)
    ∙ ap (λ (x : SerialOrder). Some (serial_of (x.serial + 1))) same))

pub order_acknowledged : (p : Primary) (q : SerialOrder) (now server serial : ℕ) → order_of p ≡ q → would_count now p ≡ true
    → order_of (primary.acknowledged (seen_at p now) server serial) ≡ order.acknowledged q server serial
order_acknowledged p q now server serial same counts =
    let s : Primary = seen_at p now in
    ap (λ b. order_of (cond b (record s {
      kept = settled_kept s.kept (settled_by server (get s.waiting serial));
      waiting = waiting_by s.waiting serial server (get s.waiting serial);
    }) s)) counts
    ∙ ap (λ (x : SerialOrder). order.acknowledged x server serial) same

pub answer_acknowledged : (p : Primary) (q : SerialOrder) (now server serial : ℕ) → order_of p ≡ q → would_count now p ≡ true → ack_answer (seen_at p now) server serial ≡ order.settled q server serial
answer_acknowledged p q now server serial same counts =
    ap (λ b. cond b (success_of (settled_by server (get p.waiting serial))) None) counts ∙ ap (λ (x : SerialOrder). order.settled x server serial) same

refused_same : (p : Primary) (r : Refusal) (o : Option Waiting) → order_of (primary.refused_by p r o) ≡ order.refused_by (order_of p) r o
refused_same p r None = refl
refused_same p r (Some w) = refl

pub order_refused : (p : Primary) (q : SerialOrder) (serial : ℕ) (r : Refusal) → order_of p ≡ q → order_of (primary.refused p serial r) ≡ order.refused_by q r (get q.waiting serial)
order_refused p q serial r same = refused_same p r (get p.waiting serial) ∙ ap (λ (x : SerialOrder). order.refused_by x r (get x.waiting serial)) same

pub order_extended : (skew latest now : ℕ) (p : Primary) (q : SerialOrder) (until : ℕ) → IsHeld skew latest p → latest ≤ now → order_of p ≡ q
    → order_of (primary.extended p until now) ≡ record q { held = extended skew q.held until now }
order_extended skew latest now p q until held le same =
    let most = held.1 in
    ap (λ s. record (order_of p) { held = extended s p.held.lease until (max p.held.latest now) }) held.0
    ∙ (ap (λ m. record (order_of p) { held = extended skew p.held.lease until m }) (latest_of p.held.latest now (omega arith))
    ∙ ap (λ (x : SerialOrder). record x { held = extended skew x.held until now }) same)

-- what a call keeps of the clock
held_if : (p s : Primary) (b : Bool) (skew latest : ℕ) → IsHeld skew latest p → IsHeld skew latest s → IsHeld skew latest (cond b p s)
held_if p s true skew latest h k = h
held_if p s false skew latest h k = k

seen_held : (skew latest now : ℕ) (p : Primary) → latest ≤ now → IsHeld skew latest p → IsHeld skew now (seen_at p now)
seen_held skew latest now p le held =
    let most = held.1 in
    let within : max p.held.latest now ≤ now = omega arith in
    (held.0, within)

numbered_held : (skew latest : ℕ) (s : Primary) (id : DataId) (place : Option ℕ) (o : Option Accept) → IsHeld skew latest s → IsHeld skew latest (numbered_if s id.client id.seq place o)
numbered_held skew latest s id place None held = held_if (primary.numbered s id.client id.seq place) s (ltb s.serial counter_limit) skew latest held held
numbered_held skew latest s id place (Some a) held = held

denied_held : (skew latest : ℕ) (p : Primary) (id : DataId) (r : Refusal) (o : Option Accept) → IsHeld skew latest p → IsHeld skew latest (denied_if p id.client id.seq r o)
denied_held skew latest p id r None held = held
denied_held skew latest p id r (Some a) held = held

refused_held : (skew latest : ℕ) (p : Primary) (r : Refusal) (o : Option Waiting) → IsHeld skew latest p → IsHeld skew latest (primary.refused_by p r o)
refused_held skew latest p r None held = held
refused_held skew latest p r (Some w) held = held

module _ (skew latest : ℕ) (t after : Table Primary) (k : ℕ) (all : AreHeld skew latest t) where
  pub keeps_itself : after ≡ changed_at t k (λ p. p) → AreHeld skew latest after
  keeps_itself e = held_changed skew latest latest t after k (λ p. p) e (omega arith) all (λ p held. held)

  pub keeps_denied : (id : DataId) (r : Refusal) → after ≡ changed_at t k (λ p. primary.denied p id.client id.seq r) → AreHeld skew latest after
  keeps_denied id r e =
      held_changed skew latest latest t after k (λ p. primary.denied p id.client id.seq r) e (omega arith) all (λ p held. denied_held skew latest p id r (known p id.client id.seq) held)

  pub keeps_refused : (serial : ℕ) (r : Refusal) → after ≡ changed_at t k (λ p. primary.refused p serial r) → AreHeld skew latest after
  keeps_refused serial r e =
      held_changed skew latest latest t after k (λ p. primary.refused p serial r) e (omega arith) all (λ p held. refused_held skew latest p r (get p.waiting serial) held)

  pub keeps_seen : (now : ℕ) → latest ≤ now → after ≡ changed_at t k (λ p. seen_at p now) → AreHeld skew now after
  keeps_seen now le e = held_changed skew latest now t after k (λ p. seen_at p now) e le all (λ p held. seen_held skew latest now p le held)

  pub keeps_accepted : (now : ℕ) (id : DataId) (place : Option ℕ) → latest ≤ now → after ≡ changed_at t k (λ p. accepted (seen_at p now) id.client id.seq place) → AreHeld skew now after
  keeps_accepted now id place le e =
      held_changed skew latest now t after k (λ p. accepted (seen_at p now) id.client id.seq place) e le all (λ p held.
      let s : Primary = seen_at p now in
      let seen = seen_held skew latest now p le held in
      held_if (numbered_if s id.client id.seq place (known s id.client id.seq)) s (would_count now p) skew now (numbered_held skew now s id place (known s id.client id.seq) seen) seen)

  pub keeps_acknowledged : (now server serial : ℕ) → latest ≤ now → after ≡ changed_at t k (λ p. primary.acknowledged (seen_at p now) server serial) → AreHeld skew now after
  keeps_acknowledged now server serial le e =
      held_changed skew latest now t after k (λ p. primary.acknowledged (seen_at p now) server serial) e le all (λ p held.
      let s : Primary = seen_at p now in
      let seen = seen_held skew latest now p le held in
      held_if (record s {
        kept = settled_kept s.kept (settled_by server (get s.waiting serial));
        waiting = waiting_by s.waiting serial server (get s.waiting serial);
      }) s (would_count now p) skew now seen seen)

  pub keeps_extended : (until now : ℕ) → latest ≤ now → after ≡ changed_at t k (λ p. primary.extended p until now) → AreHeld skew now after
  keeps_extended until now le e =
      held_changed skew latest now t after k (λ p. primary.extended p until now) e le all (λ p held. seen_held skew latest now p le held)

-- a lease begins
pub begins_one : (t after : Table Primary) (k : ℕ) (orders : Table SerialOrder) (p : Primary) (chunk : ℕ) (held : LeaseHeld) → orders_of t ≡ orders → order_of p ≡ order.new_order chunk held → after ≡ insert t k p
    → orders_of after ≡ insert orders k (order.new_order chunk held)
begins_one t after k orders p chunk held seen is e =
    ap (λ x. orders_of x) e ∙ (orders_put t k p ∙ (ap (insert (orders_of t) k) is ∙ ap (λ x. insert x k (order.new_order chunk held)) seen))

pub keeps_begun : (skew latest : ℕ) (t after : Table Primary) (k : ℕ) (p : Primary) → AreHeld skew latest t → p.held.skew ≡ skew → p.held.latest ≡ 0 → after ≡ insert t k p → AreHeld skew latest after
keeps_begun skew latest t after k p all own new e =
    let most : p.held.latest ≤ latest = omega arith in
    subst (AreHeld skew latest) (sym e) (held_put skew latest t k p all (own, most))

-- the greatest moment, in the value of the leases
pub within : (v w : HeldLeases) (now : ℕ) → v ≡ w → w.latest ≤ now → v.latest ≤ now
within v w now e le = subst (λ (x : HeldLeases). x.latest ≤ now) (sym e) le

-- A call that doesn't look at the clock, at a lease that is held.
module _ (t after : Table Primary) (k : ℕ) (orders : Table SerialOrder) (seen : orders_of t ≡ orders) (q : SerialOrder) (at : get orders k ≡ Some q) where
  pub denies_one : (id : DataId) (r : Refusal) → after ≡ changed_at t k (λ p. primary.denied p id.client id.seq r) → attempted q id.client id.seq ≡ IsNew
      → orders_of after ≡ insert orders k (order.denied q id.client id.seq r)
  denies_one id r e is =
      orders_changed t after k (λ p. primary.denied p id.client id.seq r) orders (λ x. order.denied x id.client id.seq r) q e seen (λ p found same. order_denied p q id r same is) at

  pub refuses_one : (serial : ℕ) (r : Refusal) → after ≡ changed_at t k (λ p. primary.refused p serial r) → orders_of after ≡ insert orders k (order.refused_by q r (get q.waiting serial))
  refuses_one serial r e =
      orders_changed t after k (λ p. primary.refused p serial r) orders (λ x. order.refused_by x r (get x.waiting serial)) q e seen (λ p found same. order_refused p q serial r same) at

  pub refuses_whose : (serial : ℕ) → attempt_at serial (get t k) ≡ option_map attempt_of (get q.waiting serial)
  refuses_whose serial =
      asked t k (attempt_at serial) orders q (option_map attempt_of (get q.waiting serial)) seen (λ p found same. ap (λ (x : SerialOrder). option_map attempt_of (get x.waiting serial)) same) at

-- A call at a moment, at a lease that is held.
module _ (skew latest now own : ℕ) (t after : Table Primary) (k : ℕ) (orders : Table SerialOrder) (all : AreHeld skew latest t) (le : latest ≤ now) (skew_is : skew ≡ own) (seen : orders_of t ≡ orders) (q : SerialOrder) (at : get orders k ≡ Some q) where
  pub extends_one : (until : ℕ) → after ≡ changed_at t k (λ p. primary.extended p until now) → orders_of after ≡ insert orders k (record q { held = extended own q.held until now })
  extends_one until e =
      orders_changed t after k (λ p. primary.extended p until now) orders (λ x. record x { held = extended skew x.held until now }) q e seen
      (λ p found same. order_extended skew latest now p q until (all k p found) le same) at
      ∙ ap (λ n. insert orders k (record q { held = extended n q.held until now })) skew_is

  counts_found : (p : Primary) → get t k ≡ Some p → order_of p ≡ q → counts_at own q.held now ≡ true → would_count now p ≡ true
  counts_found p found same counts = counts_now skew latest now p q (all k p found) le same (ap (λ n. counts_at n q.held now) skew_is ∙ counts)

  pub accepts_one : (id : DataId) (place : Option ℕ) → after ≡ changed_at t k (λ p. accepted (seen_at p now) id.client id.seq place)
      → counts_at own q.held now ≡ true → attempted q id.client id.seq ≡ IsNew → q.serial < counter_limit → orders_of after ≡ insert orders k (order.numbered q id.client id.seq place)
  accepts_one id place e counts is lt =
      orders_changed t after k (λ p. accepted (seen_at p now) id.client id.seq place) orders (λ x. order.numbered x id.client id.seq place) q e seen
      (λ p found same. order_accepted p q id place now same (counts_found p found same counts) is lt) at

  pub accepts_as : (id : DataId) → counts_at own q.held now ≡ true → attempted q id.client id.seq ≡ IsNew → q.serial < counter_limit
      → serial_given now id (get t k) ≡ Some (serial_of (q.serial + 1))
  accepts_as id counts is lt =
      asked t k (serial_given now id) orders q (Some (serial_of (q.serial + 1))) seen (λ p found same. serial_accepted p q id now same (counts_found p found same counts) is lt) at

  pub acknowledges_one : (server serial : ℕ) → after ≡ changed_at t k (λ p. primary.acknowledged (seen_at p now) server serial)
      → counts_at own q.held now ≡ true → orders_of after ≡ insert orders k (order.acknowledged q server serial)
  acknowledges_one server serial e counts =
      orders_changed t after k (λ p. primary.acknowledged (seen_at p now) server serial) orders (λ x. order.acknowledged x server serial) q e seen
      (λ p found same. order_acknowledged p q now server serial same (counts_found p found same counts)) at

  pub settles_as : (server serial : ℕ) → counts_at own q.held now ≡ true → settled_at now server serial (get t k) ≡ order.settled q server serial
  settles_as server serial counts =
      asked t k (settled_at now server serial) orders q (order.settled q server serial) seen
      (λ p found same. answer_acknowledged p q now server serial same (counts_found p found same counts)) at

-- the lease that counts, by its primary and by its server
counting_by : (skew latest now version : ℕ) (o : Option Primary) → latest ≤ now → ((p : Primary) → o ≡ Some p → IsHeld skew latest p)
    → option_map order_of (counted_at now version o) ≡ counting_at skew now version (option_map order_of o)
counting_by skew latest now version None le held = refl
counting_by skew latest now version (Some p) le held =
    ap (λ c. option_map order_of (cond (eqb p.held.lease.version version && c) (Some p) None)) (counts_same skew latest now p (held p refl) le)
    ∙ mapped_if p (eqb p.held.lease.version version && counts_at skew p.held.lease now)
  where
    mapped_if : (p : Primary) (b : Bool) → option_map order_of (cond b (Some p) None) ≡ cond b (Some (order_of p)) None
    mapped_if p true = refl
    mapped_if p false = refl

pub counting_same : (skew latest now version : ℕ) (t : Table Primary) (k : ℕ) (orders : Table SerialOrder) (own : ℕ) → AreHeld skew latest t → latest ≤ now → orders_of t ≡ orders → skew ≡ own
    → option_map order_of (counted_at now version (get t k)) ≡ counting_at own now version (get orders k)
counting_same skew latest now version t k orders own all le seen skew_is =
    counting_by skew latest now version (get t k) le (λ p found. all k p found)
    ∙ (ap (counting_at skew now version) (sym (get_orders t k) ∙ ap (λ x. get x k) seen) ∙ ap (λ n. counting_at n now version (get orders k)) skew_is)
