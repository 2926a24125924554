-- What holds of a primary's order over any list of calls (section 3.1).
use Rattle.std.specs.Prelude.{◌≡◌, ℕ, zero, suc, ◌+◌, ◌≤◌, ◌==◌, ◌&&◌, nat_le, if◌then◌else◌, false, List, [], ◌∷◌, ◌++◌, length, Option, IsSome, All, Contains}
use Rattle.leases.specs.LeaseHeld.{HeldState, counts}
use Rattle.gfs_types.specs.declared.ids.ClientId.{ClientId}
use Rattle.gfs_types.specs.declared.refusal.Refusal.{Refusal}
use Rattle.primary_order.specs.declared.answer.Accept.{Accept}
use Rattle.primary_order.specs.declared.answer.Accept.TheVariants.{New, Again, Pending, Refused}
use Rattle.primary_order.specs.declared.primary.Primary.{Primary}
use Rattle.primary_order.specs.PrimaryOrder.{new_primary, seen_at, known, accept_answer, accepted, denied, acknowledged, ack_answer, refused, extended, ended}

-- What is done with a primary. An attempt whose memory was refused is one of them.
pub data OrderCall : Type 0 where
  Attempt : (client : ClientId) (seq : ℕ) (place : Option ℕ) (now : ℕ) → OrderCall
  AttemptWithoutMemory : (now : ℕ) → OrderCall
  Deny : (client : ClientId) (seq : ℕ) (r : Refusal) → OrderCall
  Acknowledge : (server serial now : ℕ) → OrderCall
  Refuse : (serial : ℕ) (r : Refusal) → OrderCall
  ExtendLease : (until now : ℕ) → OrderCall
  Report : OrderCall
  EndLease : OrderCall

abbrev pub after_call : Primary → OrderCall → Primary
after_call p (Attempt client seq place now) = accepted (seen_at p now) client seq place
after_call p (AttemptWithoutMemory now) = seen_at p now
after_call p (Deny client seq r) = denied p client seq r
after_call p (Acknowledge server serial now) = acknowledged (seen_at p now) server serial
after_call p (Refuse serial r) = refused p serial r
after_call p (ExtendLease until now) = extended p until now
after_call p Report = record p { was_used_since_report = false }
after_call p EndLease = ended p

abbrev pub after_calls : Primary → List OrderCall → Primary
after_calls p [] = p
after_calls p (call ∷ rest) = after_calls (after_call p call) rest

abbrev pub serials_in : Accept → List ℕ
serials_in (New serial) = serial.0 ∷ []
serials_in (Again settled) = []
serials_in Pending = []
serials_in (Refused r) = []

-- the serials that a call gave
abbrev pub serials_by : Primary → OrderCall → List ℕ
serials_by p (Attempt client seq place now) = serials_in (accept_answer (seen_at p now) client seq)
serials_by p (AttemptWithoutMemory now) = []
serials_by p (Deny client seq r) = []
serials_by p (Acknowledge server serial now) = []
serials_by p (Refuse serial r) = []
serials_by p (ExtendLease until now) = []
serials_by p Report = []
serials_by p EndLease = []

-- the serials that were given, in order
abbrev pub serials_of : Primary → List OrderCall → List ℕ
serials_of p [] = []
serials_of p (call ∷ rest) = serials_by p call ++ serials_of (after_call p call) rest

-- so many numbers from the first one on
abbrev pub counted_from : ℕ → ℕ → List ℕ
counted_from first zero = []
counted_from first (suc count) = first ∷ counted_from (first + 1) count

-- The serials of one lease rise by one; so none is given twice.
abbrev pub SerialsRiseByOne : Type 0
SerialsRiseByOne = (p : Primary) (calls : List OrderCall) → serials_of p calls ≡ counted_from (p.serial + 1) (length (serials_of p calls))

-- how often a call gave that number of that client a serial
abbrev pub times_new_by : Primary → ClientId → ℕ → OrderCall → ℕ
times_new_by p client seq (Attempt c s place now) = if (c.0 == client.0) && (s == seq) then length (serials_by p (Attempt c s place now)) else 0
times_new_by p client seq (AttemptWithoutMemory now) = 0
times_new_by p client seq (Deny c s r) = 0
times_new_by p client seq (Acknowledge server serial now) = 0
times_new_by p client seq (Refuse serial r) = 0
times_new_by p client seq (ExtendLease until now) = 0
times_new_by p client seq Report = 0
times_new_by p client seq EndLease = 0

-- how often that number of that client was New
abbrev pub times_new : Primary → ClientId → ℕ → List OrderCall → ℕ
times_new p client seq [] = 0
times_new p client seq (call ∷ rest) = times_new_by p client seq call + times_new (after_call p call) client seq rest

-- Under one lease a client's number is New at most once.
abbrev pub NewAtMostOnce : Type 0
NewAtMostOnce = (p : Primary) (client : ClientId) (seq : ℕ) (calls : List OrderCall) → times_new p client seq calls ≤ 1

-- A number that is known, as one whose refusal was kept, is never New.
abbrev pub KnownIsNeverNew : Type 0
KnownIsNeverNew = (p : Primary) (client : ClientId) (seq : ℕ) (calls : List OrderCall) → IsSome (known p client seq) → times_new p client seq calls ≡ 0

-- the server that acknowledged that serial by this call, after it was given and while the lease counted
abbrev pub members_by : Primary → ℕ → OrderCall → List ℕ
members_by p serial (Acknowledge server s now) = if (s == serial) && (nat_le s p.serial && counts (seen_at p now).held) then server ∷ [] else []
members_by p serial (Attempt client seq place now) = []
members_by p serial (AttemptWithoutMemory now) = []
members_by p serial (Deny client seq r) = []
members_by p serial (Refuse s r) = []
members_by p serial (ExtendLease until now) = []
members_by p serial Report = []
members_by p serial EndLease = []

-- the servers that did so, in order
abbrev pub members_of : Primary → ℕ → List OrderCall → List ℕ
members_of p serial [] = []
members_of p serial (call ∷ rest) = members_by p serial call ++ members_of (after_call p call) serial rest

-- A success implies that every member acknowledged, after the serial was given and while the lease counted.
abbrev pub SuccessNeedsEveryMember : Type 0
SuccessNeedsEveryMember = (chunk : ℕ) (held : HeldState) (calls : List OrderCall) (server serial now : ℕ)
    → IsSome (ack_answer (seen_at (after_calls (new_primary chunk held) calls) now) server serial)
    → All (Contains (members_of (new_primary chunk held) serial (calls ++ Acknowledge server serial now ∷ []))) held.lease.members
