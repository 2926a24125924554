-- What became of a Name, by its three cases.
use Rattle.std.proofs.Common.{◌≡◌, ⊎_elim, ℕ, ◌+◌, ◌-◌, ◌≤◌, ◌<◌, List, [], ◌∷◌, Option, Some, refl, sym, ap, subst, ◌∙◌, inl, inr, arith}
use Rattle.std.specs.Prelude.{Contains}
use Rattle.std.specs.FinMap as table
use Rattle.gfs_types.specs.declared.config.Config.{Config}
use Rattle.gfs_types.specs.declared.call.Call.{Call}
use Rattle.relaxed_file.specs.Machine.{Machine, Asked, OpenCall, Outcome}
use Rattle.relaxed_file.proofs.Tables.{from_some}
use Rattle.protocol.specs.Tables.{Table}
use Rattle.protocol.specs.Logged.{KeptCall}
use Rattle.laws_names.specs.Alike.{Requests, IsWaiting}
use Rattle.laws_names.specs.Followed.{RunsTo, AreKeptOn}
use Rattle.machine_names.specs.UnseenRuns.{IsSameCall, AreLeft}
use Rattle.machine_names.proofs.Unseen.{unseen_runs_leave_clients}
use Rattle.laws_names.specs.OpenRequests.{IsOldOrOpen, AreNotLater, OldOrOpenNamesAreRequests, NamesStayOldOrOpen, AnsweredNamesAreKept}

pub old_or_open_names_are_requests : OldOrOpenNamesAreRequests
old_or_open_names_are_requests d m requests client number deadline c timely changes known early later = ⊎_elim
    (λ kept.
    let more = kept.2 in
    let less = later kept.0 kept.1 in
    absurd (omega (arith, more, less)))
    (λ rest. ⊎_elim
    (λ late.
    let near = timely.0 in
    absurd (omega (arith, late, near, early)))
    (λ open_call. (changes, open_call.0, open_call.1, open_call.2))
    rest)
    known

module _ (m n : Machine) (requests : Requests) (before now : Table KeptCall) (left : AreLeft m n) (on : AreKeptOn requests before now) (least : AreNotLater requests before) where
  not_later : AreNotLater requests now
  not_later client number k is asked = ⊎_elim
      (λ same. least client number k (sym same ∙ is) asked)
      (λ new.
      let equal : (new.0).number ≡ k.number = ap (λ (x : KeptCall). x.number) (from_some (sym new.1 ∙ is)) in
      let number_is : (new.0).number ≡ number = from_some (sym new.2 ∙ asked) in
      omega (arith, equal, number_is))
      (on client)

  kept_still : (client number : ℕ) (k : KeptCall) → table.get before client ≡ Some k → number ≤ k.number → (x : KeptCall) × (table.get now client ≡ Some x) × (number ≤ x.number)
  kept_still client number k is low = ⊎_elim
      (λ same. (k, same ∙ is, low))
      (λ new.
      let most = least client (new.0).number k is new.2 in
      (new.0, new.1, omega (arith, low, most)))
      (on client)

  open_still : (client number : ℕ) (c : Call) (current : OpenCall) → IsWaiting m requests client number current → current.asked.call ≡ c → (later : OpenCall) × IsWaiting n requests client number later × (later.asked.call ≡ c)
  open_still client number c current w same =
      let goes_on = subst (λ (o : Option OpenCall). IsSameCall o (n.clients client).open_call) w.is_open (left.clients client).call in
      (goes_on.0, record { is_open = goes_on.1; number_is = w.number_is }, ap (λ (a : Asked). a.call) goes_on.3 ∙ same)

  old_or_open : (client number deadline : ℕ) (c : Call) → IsOldOrOpen before m requests client number deadline c → IsOldOrOpen now n requests client number deadline c
  old_or_open client number deadline c known = ⊎_elim
      (λ kept. inl (kept_still client number kept.0 kept.1 kept.2))
      (λ rest. ⊎_elim
      (λ late.
      let clock = left.clock in
      let skew : n.config.skew_ms ≡ m.config.skew_ms = ap (λ (x : Config). x.skew_ms) left.settings in
      inr (inl (omega (arith, late, clock, skew))))
      (λ open_call. inr (inr (open_still client number c open_call.0 open_call.1 open_call.2)))
      rest)
      known

pub names_stay_old_or_open : NamesStayOldOrOpen
names_stay_old_or_open m n requests before now run on least =
    let left : AreLeft m n = unseen_runs_leave_clients m n run.0 run.1 in
    (not_later m n requests before now left on least, old_or_open m n requests before now left on least)

pub answered_names_are_kept : AnsweredNamesAreKept
answered_names_are_kept l snapshots m requests client number current outcome h w changes has = ⊎_elim
    (λ none. absurd (nothing current.outcomes none has))
    (λ answered. answered)
    (h.untaken client number current w changes)
  where
    nothing : (xs : List Outcome) → xs ≡ [] → Contains xs outcome → ⊥
    nothing [] none there = let below = there.1 in omega (arith, below)
    nothing (x ∷ xs) none there = let both : (x ∷ xs) ≡ [] = none in cc
