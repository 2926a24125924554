-- The serial order that a primary picks under one lease, and what it keeps so that each attempt of a client is placed once (sections 3.1 and 3.3).
use Rattle.std.specs.Prelude.{◌≡◌, ℕ, ◌+◌, Bool, true, false, ◌==◌, nat_lt, if◌then◌else◌, List, Option, Some, None}
use Rattle.std.specs.List.{list_all, position, remove}
use Rattle.std.specs.FinMap as map
use Rattle.std.specs.Ordering.{nat_cmp}
use Rattle.gfs_types.specs.Counters.{counter_limit}
use Rattle.gfs_types.specs.declared.ids.ClientId.{ClientId}
use Rattle.gfs_types.specs.declared.refusal.Refusal.{Refusal}
use Rattle.gfs_types.specs.declared.refusal.Refusal.TheVariants as refusal
use Rattle.gfs_types.specs.declared.mutation.Mutation.{Mutation}
use Rattle.gfs_types.specs.declared.mutation.Mutation.TheVariants.{Write, Append, Pad}
use Rattle.leases.specs.LeaseHeld.{HeldState, at_moment, counts, after_call, Extend, End}
use Rattle.primary_order.specs.declared.answer.Settled.{Settled}
use Rattle.primary_order.specs.declared.answer.Accept.{Accept}
use Rattle.primary_order.specs.declared.answer.Accept.TheVariants.{New, Again, Pending, Refused}
use Rattle.primary_order.specs.declared.kept.Standing.{Standing}
use Rattle.primary_order.specs.declared.kept.Standing.TheVariants.{IsPending, IsSettled, IsRefused}
use Rattle.primary_order.specs.declared.kept.Kept.{Kept}
use Rattle.primary_order.specs.declared.waiting.Waiting.{Waiting}
use Rattle.primary_order.specs.declared.primary.Primary.{Primary}

abbrev pub NumberTable : Type 0 → Type 0
NumberTable X = map.FinMap nat_cmp X

abbrev pub new_primary : ℕ → HeldState → Primary
new_primary chunk held = record { chunk = chunk; held = held; serial = 0; was_used_since_report = false; kept = map.empty; waiting = map.empty }

-- the place that a success tells; a pad has none
abbrev pub place_of : Mutation → Option ℕ
place_of (Write offset bytes) = Some offset
place_of (Append offset bytes) = Some offset
place_of (Pad offset end) = None

-- what a repeated attempt is answered
abbrev pub answer_by : ClientId → ℕ → Standing → Accept
answer_by client seq IsPending = Pending
answer_by client seq (IsSettled place) = Again (record { client = client; seq = seq; place = place })
answer_by client seq (IsRefused r) = Refused r

-- A number greater than the client's last one is new; the last one gets what is kept; a lower one is refused.
abbrev pub known_by : ClientId → ℕ → Option Kept → Option Accept
known_by client seq None = None
known_by client seq (Some k) = if nat_lt k.seq seq then None else (if k.seq == seq then Some (answer_by client seq k.standing) else Some (Refused refusal.OldRequest))

abbrev pub known : Primary → ClientId → ℕ → Option Accept
known p client seq = known_by client seq (map.get p.kept client.0)

abbrev pub kept_as : ℕ → Standing → Kept
kept_as seq standing = record { seq = seq; standing = standing }

abbrev pub denied_if : Primary → ClientId → ℕ → Refusal → Option Accept → Primary
denied_if p client seq r None = record p { kept = map.insert p.kept client.0 (kept_as seq (IsRefused r)) }
denied_if p client seq r (Some answer) = p

-- the refusal of a new attempt is kept
abbrev pub denied : Primary → ClientId → ℕ → Refusal → Primary
denied p client seq r = denied_if p client seq r (known p client seq)

-- the primary at a moment
abbrev pub seen_at : Primary → ℕ → Primary
seen_at p now = record p { held = at_moment p.held now }

-- A new attempt takes the next serial, and waits for each member.
abbrev pub numbered : Primary → ClientId → ℕ → Option ℕ → Primary
numbered p client seq place =
    record p {
      serial = p.serial + 1;
      was_used_since_report = true;
      kept = map.insert p.kept client.0 (kept_as seq IsPending);
      waiting = map.insert p.waiting (p.serial + 1) (record { client = client; seq = seq; members = p.held.lease.members; place = place });
    }

-- the answer to an attempt: numbered only where the lease counts, its number is new, and the counter has room
abbrev pub new_answer : Primary → Option Accept → Accept
new_answer p None = if nat_lt p.serial counter_limit then New (record { 0 = p.serial + 1 }) else Pending
new_answer p (Some answer) = answer

abbrev pub accept_answer : Primary → ClientId → ℕ → Accept
accept_answer p client seq = if counts p.held then new_answer p (known p client seq) else Refused refusal.NoLease

abbrev pub numbered_if : Primary → ClientId → ℕ → Option ℕ → Option Accept → Primary
numbered_if p client seq place None = if nat_lt p.serial counter_limit then numbered p client seq place else p
numbered_if p client seq place (Some answer) = p

abbrev pub accepted : Primary → ClientId → ℕ → Option ℕ → Primary
accepted p client seq place = if counts p.held then numbered_if p client seq place (known p client seq) else p

abbrev pub stood_by : NumberTable Kept → ℕ → ℕ → Standing → Option Kept → NumberTable Kept
stood_by kept client seq standing None = kept
stood_by kept client seq standing (Some k) = if k.seq == seq then map.insert kept client (record k { standing = standing }) else kept

-- what is kept for an attempt becomes this, where it is still the client's last one
abbrev pub with_standing : NumberTable Kept → ℕ → ℕ → Standing → NumberTable Kept
with_standing kept client seq standing = stood_by kept client seq standing (map.get kept client)

-- whether a mutation waits for no other member
abbrev pub is_last : ℕ → Waiting → Bool
is_last server w = list_all (λ m. m == server) w.members

abbrev pub without_at : List ℕ → Option ℕ → List ℕ
without_at members None = members
without_at members (Some index) = remove members index

-- the mutation waits for that member no more
abbrev pub less_member : ℕ → Waiting → Waiting
less_member server w = record w { members = without_at w.members (position (λ m. m == server) w.members) }

abbrev pub waiting_by : NumberTable Waiting → ℕ → ℕ → Option Waiting → NumberTable Waiting
waiting_by waiting serial server None = waiting
waiting_by waiting serial server (Some w) = if is_last server w then map.remove waiting serial else map.insert waiting serial (less_member server w)

-- the mutation that is settled by this acknowledgement
abbrev pub settled_by : ℕ → Option Waiting → Option Waiting
settled_by server None = None
settled_by server (Some w) = if is_last server w then Some w else None

abbrev pub settled_kept : NumberTable Kept → Option Waiting → NumberTable Kept
settled_kept kept None = kept
settled_kept kept (Some w) = with_standing kept w.client.0 w.seq (IsSettled w.place)

abbrev pub success_of : Option Waiting → Option Settled
success_of None = None
success_of (Some w) = Some (record { client = w.client; seq = w.seq; place = w.place })

-- A member acknowledged under a lease that counts: the mutation is settled where it was the last.
abbrev pub acknowledged : Primary → ℕ → ℕ → Primary
acknowledged p server serial =
    if counts p.held then
    record p {
      kept = settled_kept p.kept (settled_by server (map.get p.waiting serial));
      waiting = waiting_by p.waiting serial server (map.get p.waiting serial);
    }
    else p

abbrev pub ack_answer : Primary → ℕ → ℕ → Option Settled
ack_answer p server serial = if counts p.held then success_of (settled_by server (map.get p.waiting serial)) else None

abbrev pub refused_by : Primary → Refusal → Option Waiting → Primary
refused_by p r None = p
refused_by p r (Some w) = record p { kept = with_standing p.kept w.client.0 w.seq (IsRefused r) }

-- A member refused: the refusal is kept where the attempt is its client's last one.
abbrev pub refused : Primary → ℕ → Refusal → Primary
refused p serial r = refused_by p r (map.get p.waiting serial)

-- what was kept for a client before
abbrev pub restored : NumberTable Kept → ℕ → Option Kept → NumberTable Kept
restored kept client None = map.remove kept client
restored kept client (Some k) = map.insert kept client k

abbrev pub extended : Primary → ℕ → ℕ → Primary
extended p until now = record p { held = after_call p.held (Extend until now) }

abbrev pub ended : Primary → Primary
ended p = record p { held = after_call p.held End }

-- a number that takes a serial, memory aside
abbrev pub IsNewAttempt : Primary → ClientId → ℕ → Type 0
IsNewAttempt p client seq = accept_answer p client seq ≡ New (record { 0 = p.serial + 1 })
