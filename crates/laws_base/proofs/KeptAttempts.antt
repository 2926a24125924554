-- What a primary keeps of its clients' last attempts: what waits, what is settled, and the numbers of the entries of its lease's round.
use Rattle.std.proofs.Common.{◌≡◌, ℕ, zero, suc, ◌≤◌, Bool, true, false, true≢false, cond, List, [], ◌∷◌, ◌++◌, Option, Some, refl, sym, ap, subst, ◌∙◌, arith}
use Rattle.std.specs.Prelude.{◌==◌}
use Rattle.std.specs.FinMap as table
use Rattle.gfs_types.specs.declared.config.Config.{Config}
use Rattle.primary_order.specs.declared.kept.Kept.{Kept}
use Rattle.primary_order.specs.declared.kept.Standing.{Standing}
use Rattle.primary_order.specs.declared.kept.Standing.TheVariants.{IsPending, IsSettled, IsRefused}
use Rattle.primary_order.specs.SerialOrder.{SerialOrder}
use Rattle.primary_order.specs.PrimaryOrder.{place_of}
use Rattle.protocol.specs.Tables.{element_at, first_numbers}
use Rattle.protocol.specs.Sending.{data_id}
use Rattle.protocol.specs.Observer.{Placed, order_of}
use Rattle.protocol.specs.Server.{ServerState}
use Rattle.protocol.specs.World.{WorldState, IsReached}
use Rattle.laws_base.proofs.Steps.{none_some, same_some}
use Rattle.laws_base.proofs.Entries.{AllOf, all_joined}
use Rattle.laws_base.proofs.MembersRecorded.{all_at}
use Rattle.laws_base.specs.CountedSerials.{serials_of}
use Rattle.laws_base.specs.KeptAttempts.{HasKeptEntry, IsKeptAs, KeptAttemptsStandSo, IsKeptOrLater, NumbersOfEntriesAreKept, NumbersThatWaitAreKept}
use Rattle.laws_base.proofs.RightLeases.{IsSettledHere, IsGiven, IsRight}
use Rattle.laws_base.proofs.RoundSerials.{serial_in, serials_first, is_of}
use Rattle.laws_base.proofs.CountedRounds.{leases_count_their_serials, serials_have_one_entry}
use Rattle.laws_base.proofs.SettledOrders.{IsEntryOf, HasEntry, IsSettled as IsSettledOf}
use Rattle.laws_base.proofs.KnownEntries.{IsPlacedNow, IsSettledNow, K}
use Rattle.laws_base.proofs.SettledEntries.{sound_reached}

-- serials of a round

abbrev IsCountedBy : ℕ → ℕ → Type 0
IsCountedBy n x = (1 ≤ x) × (x ≤ n)

all_on : (P Q : ℕ → Type 0) → ((n : ℕ) → P n → Q n) → (ns : List ℕ) → AllOf P ns → AllOf Q ns
all_on P Q go [] h = tt
all_on P Q go (n ∷ ns) h = (go n h.0, all_on P Q go ns h.1)

all_counted_by : (n : ℕ) → AllOf (IsCountedBy n) (first_numbers n)
all_counted_by zero = tt
all_counted_by (suc n) =
    all_joined (IsCountedBy (suc n)) (first_numbers n) (suc n ∷ []) (all_on (IsCountedBy n) (IsCountedBy (suc n)) (λ x h. (h.0, let most = h.1 in omega (arith, most))) (first_numbers n) (all_counted_by n)) ((omega arith, omega arith), tt)

serial_by : (P : ℕ → Type 0) (round : ℕ) (x : Placed) (ps : List Placed) (b : Bool) → (x.entry.round == round) ≡ b → (place : ℕ) (p : Placed) → AllOf P (cond b (x.serial ∷ []) [] ++ serials_of round ps) → element_at (x ∷ ps) place ≡ Some p → p.entry.round ≡ round
    → ((n : ℕ) → AllOf P (serials_of round ps) → element_at ps n ≡ Some p → P p.serial) → P p.serial
serial_by P round x ps true is zero p h at same rest = subst (λ (y : Placed). P y.serial) (same_some x p at) h.0
serial_by P round x ps true is (suc n) p h at same rest = rest n h.1 at
serial_by P round x ps false is zero p h at same rest = absurd (true≢false (sym (is_of round x p (same_some x p at) same) ∙ is))
serial_by P round x ps false is (suc n) p h at same rest = rest n h at

-- what holds of each serial of the round
serial_has : (P : ℕ → Type 0) (round : ℕ) (ps : List Placed) (place : ℕ) (p : Placed) → AllOf P (serials_of round ps) → element_at ps place ≡ Some p → p.entry.round ≡ round → P p.serial
serial_has P round [] place p h at same = none_some p at
serial_has P round (x ∷ ps) place p h at same =
    serial_by P round x ps (x.entry.round == round) refl place p (subst (λ (ys : List ℕ). AllOf P ys) (serials_first round x ps) h) at same (λ n rest there. serial_has P round ps n p rest there same)

module _ (config : Config) (servers clients : ℕ) (w : WorldState) (r : IsReached config servers clients w) (index : ℕ) (s : ServerState) (at : element_at w.servers index ≡ Some s) (handle : ℕ) (p : SerialOrder) (there : table.get s.leases handle ≡ Some p) where
  right : IsRight (K w) handle p
  right = (sound_reached config servers clients w r).leases index s at handle p there

  settled_entry : (client seq : ℕ) (place : Option ℕ) → IsSettledHere (K w) handle p.held.version (data_id client seq) place → HasKeptEntry w.observer handle p.held.version client seq place
  settled_entry client seq place h =
      subst (λ (q : ℕ). HasKeptEntry w.observer q p.held.version client seq place) h.1
      (subst (λ (v : ℕ). HasKeptEntry w.observer (h.0).handle v client seq place) h.2 (record {
        place = has.0;
        placed = has.1;
        is = has.2;
        client_is = entry.client;
        seq_is = entry.seq;
        round_is = entry.round;
        place_is = ap place_of entry.mutation ∙ (h.0).numbered.place_is;
        settled = all_at (IsSettledOf (h.0).version (h.0).serial) (order_of w.observer (h.0).handle) has.0 has.1 done.all has.2 entry.round entry.serial_is;
      }))
    where
      now : IsPlacedNow w (h.0).handle (h.0).version (h.0).serial (data_id client seq) (h.0).numbered.placed
      now = (h.0).numbered.numbered

      done : IsSettledNow w (h.0).handle (h.0).version (h.0).serial
      done = (h.0).settled

      has : HasEntry (h.0).version (h.0).serial (data_id client seq) (h.0).numbered.placed (order_of w.observer (h.0).handle)
      has = now.has

      entry : IsEntryOf (h.0).version (h.0).serial (data_id client seq) (h.0).numbered.placed has.1
      entry = has.3

  kept_as_it_stands : (client : ℕ) (k : Kept) → table.get p.kept client ≡ Some k → IsKeptAs w.observer handle p client k.seq k.standing
  kept_as_it_stands client k is = by_standing k.standing refl
    where
      by_standing : (st : Standing) → k.standing ≡ st → IsKeptAs w.observer handle p client k.seq st
      by_standing IsPending now = right.well.pending client k is now
      by_standing (IsSettled place) now = settled_entry client k.seq place (right.keeps client k place is now)
      by_standing (IsRefused refusal) now = tt

  entry_kept : (place : ℕ) (q : Placed) → element_at (order_of w.observer handle) place ≡ Some q → q.entry.round ≡ p.held.version → IsKeptOrLater p.kept q.entry.call.client q.seq
  entry_kept place q is round =
      subst (λ (x : Placed). IsKeptOrLater p.kept x.entry.call.client x.seq) (sym one)
      (subst (λ (c : ℕ). IsKeptOrLater p.kept c (has.1).seq) (sym entry.client) (subst (λ (n : ℕ). IsKeptOrLater p.kept given.id.client.0 n) (sym entry.seq) given.known))
    where
      counted : IsCountedBy p.serial q.serial
      counted =
          serial_has (IsCountedBy p.serial) p.held.version (order_of w.observer handle) place q
          (subst (λ (xs : List ℕ). AllOf (IsCountedBy p.serial) xs) (sym (leases_count_their_serials config servers clients w r index s at handle p there)) (all_counted_by p.serial)) is round

      given : IsGiven (K w) handle p.held.version q.serial p.kept
      given = right.given q.serial counted.0 counted.1

      now : IsPlacedNow w handle p.held.version q.serial given.id given.placed
      now = given.numbered

      has : HasEntry p.held.version q.serial given.id given.placed (order_of w.observer handle)
      has = now.has

      entry : IsEntryOf p.held.version q.serial given.id given.placed has.1
      entry = has.3

      one : q ≡ has.1
      one = same_some q has.1 (sym is ∙ (ap (λ (n : ℕ). element_at (order_of w.observer handle) n) (serials_have_one_entry config servers clients w r handle place has.0 q has.1 is has.2 (round ∙ sym entry.round) (sym entry.serial_is)) ∙ has.2))

pub kept_attempts_stand_so : KeptAttemptsStandSo
kept_attempts_stand_so config servers clients w r index s at handle p there client k is = kept_as_it_stands config servers clients w r index s at handle p there client k is

pub numbers_of_entries_are_kept : NumbersOfEntriesAreKept
numbers_of_entries_are_kept config servers clients w r index s at handle p there place q is round = entry_kept config servers clients w r index s at handle p there place q is round

pub numbers_that_wait_are_kept : NumbersThatWaitAreKept
numbers_that_wait_are_kept config servers clients w r index s at handle p there serial a is = (right config servers clients w r index s at handle p there).well.kept serial a is
