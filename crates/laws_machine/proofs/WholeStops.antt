-- Where a step stops, and where it ends: what goes on along the changes, put together.
use Rattle.std.proofs.Common.{◌≡◌, ℕ, List, [], ◌∷◌, refl, ◌∙◌, inl, inr}
use Rattle.log_records.specs.declared.record.Record.{Record}
use Rattle.log_records.specs.declared.record.Record.TheVariants as log
use Rattle.relaxed_file.specs.Machine.{Machine}
use Rattle.protocol.specs.Logged.{LogDisk, LogChange, AppendRecord, WriteCheckpoint, log_changed, log_changed_by_all}
use Rattle.laws_base.proofs.OrderNumbers.{AllStops, found_stopped}
use Rattle.laws_names.specs.Alike.{Requests}
use Rattle.laws_names.specs.NameTrails.{log_read, IsBesideLog}
use Rattle.protocol_invariant.specs.Actions.{Spot}
use Rattle.laws_machine.specs.ChunksAlike.{ChunkSides, KeepsRounds, NoneEnds}
use Rattle.laws_machine.specs.MasterSteps.{IsWhole, Comes, AreGoneBy, HasOpened, HasOpenedAt, EndsAtChange, GoesAtChange, IsTaken, WholeTrail}
use Rattle.laws_machine.specs.WholeSteps.{EndsAlong, GoesAlong, IsOpenOrEnds, AreRoundsOpened, IsLeftAt, StopsAreTaken, EndsAreReached}
use Rattle.laws_machine.proofs.GoneHandles.{none_goes, goes_on}
use Rattle.laws_machine.proofs.MasterKept.{comes_both, stays_whole}
use Rattle.laws_machine.proofs.MasterNames.{more_end}

-- from the first sides to those after one change more
one_on : (requests : Requests) (first : Machine) (start d : LogDisk) (E T : ℕ → Type 0) (k0 k j : ChunkSides) (m n a b : Machine) (x : LogChange) → ((handle : ℕ) → E handle → T handle) → ((handle : ℕ) → EndsAtChange d x handle → T handle)
    → Comes E k0 k n → IsTaken requests first start d k j m a b x → Comes T k0 j b
one_on requests first start d E T k0 k j m n a b x e f so_far taken =
    comes_both E (EndsAtChange d x) T k0 (record k { machine = m }) j a b e f
    (comes_both E NoneEnds E k0 k (record k { machine = m }) n a (λ handle over. over) (λ handle none. absurd none) so_far taken.quiet) taken.comes

module _ (requests : Requests) (first : Machine) (start : LogDisk) (k0 : ChunkSides) (T : ℕ → Type 0) (G : ℕ → Spot → Type 0) where
  left_all : (changes : List LogChange) (d : LogDisk) (k : ChunkSides) (n later : Machine) → ((handle : ℕ) → EndsAlong d changes handle → T handle) → ((handle : ℕ) (s : Spot) → GoesAlong d changes handle s → G handle s) → IsBesideLog requests first start d n
      → k.log ≡ log_read d → k.orders ≡ k0.orders → Comes T k0 k n → AreGoneBy G k0 k → WholeTrail requests first start d k changes later → AllStops (IsLeftAt requests first start k0 T G) d changes
  left_all [] d k n later over goes beside is same so_far gone trail = record { names = n; beside = beside; sides = k; log = is; orders = same; comes = so_far; gone = gone }
  left_all (x ∷ rest) d k n later over goes beside is same so_far gone trail =
      let j : ChunkSides = trail.0 in
      let taken = trail.4 in (
        record { names = n; beside = beside; sides = k; log = is; orders = same; comes = so_far; gone = gone },
        left_all rest (log_changed d x) j trail.3 later (λ handle at. over handle (inr at)) (λ handle s at. goes handle s (inr at)) taken.beside taken.log (taken.orders ∙ same)
            (one_on requests first start d T T k0 k j trail.1 n trail.2 trail.3 x (λ handle t. t) (λ handle at. over handle (inl at)) so_far taken)
            (goes_on G (GoesAtChange d x) G k0 k j (λ handle s at. at) (λ handle s at. goes handle s (inl at)) gone taken.gone) trail.5,
      )

pub stops_are_taken : StopsAreTaken
stops_are_taken requests first start d changes k n later h beside is trail made decided =
    let T : ℕ → Type 0 = EndsAlong d changes in
    let G : ℕ → Spot → Type 0 = GoesAlong d changes in
    found_stopped (IsLeftAt requests first start k T G) d changes made
    (left_all requests first start k T G changes d k n later (λ handle over. over) (λ handle s goes. goes) beside is refl (more_end NoneEnds T k k n (λ handle none. absurd none) (stays_whole k n h)) (none_goes G k) trail) decided

-- what a change opened stays open, but where it ends later
still_open : (k j : ChunkSides) (d : LogDisk) (rest : List LogChange) (x : LogChange) → HasOpenedAt k x → KeepsRounds (EndsAlong d rest) k j → IsOpenOrEnds j d rest x
still_open k j d rest (AppendRecord r) was keeps = by_record r was
  where
    by_record : (q : Record) → HasOpened k q → IsOpenOrEnds j d rest (AppendRecord q)
    by_record (log.Grant handle version primary members) had = elim (keeps handle.0 version.0 had.0 had.1) [ inl over ↦ inl over | inr still ↦ inr (had.0, still) ]
    by_record other had = tt
still_open k j d rest (WriteCheckpoint items) was keeps = tt

-- to the last log
record IsAtEnd (d : LogDisk) (changes : List LogChange) (k : ChunkSides) (later : Machine) : Type 0 where
  j : ChunkSides
  is_log : j.log ≡ log_read (log_changed_by_all d changes)
  same : j.orders ≡ k.orders
  comes : Comes (EndsAlong d changes) k j later
  opened : AreRoundsOpened d changes j
  gone : AreGoneBy (GoesAlong d changes) k j

at_end : (requests : Requests) (first : Machine) (start : LogDisk) (changes : List LogChange) (d : LogDisk) (k : ChunkSides) (n later : Machine) → IsWhole k n → k.log ≡ log_read d → WholeTrail requests first start d k changes later → IsAtEnd d changes k later
at_end requests first start [] d k n later h is trail =
    record { j = record k { machine = trail.0 }; is_log = is; same = refl; comes = more_end NoneEnds (EndsAlong d []) k (record k { machine = trail.0 }) later (λ handle none. absurd none) trail.1; opened = tt; gone = none_goes (GoesAlong d []) k }
at_end requests first start (x ∷ rest) d k n later h is trail =
    let j : ChunkSides = trail.0 in
    let taken = trail.4 in
    let T : ℕ → Type 0 = EndsAlong d (x ∷ rest) in
    let end : IsAtEnd (log_changed d x) rest j later = at_end requests first start rest (log_changed d x) j trail.3 later (taken.comes).whole taken.log trail.5 in
    let one : Comes (EndsAtChange d x) k j trail.3 =
    one_on requests first start d NoneEnds (EndsAtChange d x) k k j trail.1 n trail.2 trail.3 x (λ handle none. absurd none) (λ handle over. over) (stays_whole k n h) taken in
    record {
      j = end.j;
      is_log = end.is_log;
      same = end.same ∙ taken.orders;
      comes = comes_both (EndsAtChange d x) (EndsAlong (log_changed d x) rest) T k j end.j trail.3 later (λ handle over. inl over) (λ handle over. inr over) one end.comes;
      opened = (still_open j end.j (log_changed d x) rest x taken.opened (end.comes).rounds, end.opened);
      gone = goes_on (GoesAtChange d x) (GoesAlong (log_changed d x) rest) (GoesAlong d (x ∷ rest)) k j end.j (λ handle s goes. inl goes) (λ handle s goes. inr goes) taken.gone end.gone;
    }

pub ends_are_reached : EndsAreReached
ends_are_reached requests first start d changes k n later h is trail = let end = at_end requests first start changes d k n later h is trail in (end.j, end.is_log, end.same, end.comes, end.opened, end.gone)
