-- A call begins.
use Rattle.std.proofs.Common.{◌≡◌, ◌⊎◌, ⊎_elim, ℕ, suc, false, List, [], ◌∷◌, Option, Some, None, refl, sym, ap, ◌∙◌, inl, inr}
use Rattle.std.specs.List.{AllByRecursion}
use Rattle.std.proofs.lemmas.Option.{none-some}
use Rattle.std.specs.FinMap as table
use Rattle.gfs_types.specs.declared.call.Call.{Call}
use Rattle.messages.specs.declared.message.Body.{Body}
use Rattle.messages.specs.declared.message.Body.TheVariants as body
use Rattle.messages.specs.declared.message.Message.{Message}
use Rattle.relaxed_file.specs.Machine.{Machine, Client, OpenCall, IsOpen, put}
use Rattle.relaxed_file.specs.Run.{Invoke, after, asked_now}
use Rattle.relaxed_file.proofs.Tables.{put_is, put_other, from_some}
use Rattle.protocol.specs.Sending.{client_number}
use Rattle.protocol.specs.Logged.{Logged, KeptCall}
use Rattle.protocol.specs.Master.{PendingSnapshot}
use Rattle.laws_names.specs.Alike.{Requests, IsWaiting, HoldsLocks, AreAlike}
use Rattle.laws_names.proofs.OpenCalls.{same_or_not}
use Rattle.laws_names.specs.Followed.{IsTold, IsToldTo}
use Rattle.laws_names.specs.NameClients.{with_request, IsUnkept, IsOfOther, StaysTold, CallsBegin}

module _ (m : Machine) (requests : Requests) (client : ℕ) (number : Option ℕ) (c : Call) where
  abbrev n : Machine
  n = after m (Invoke client c)

  abbrev later : Requests
  later = with_request requests client number

  -- the call as it begins
  abbrev begun : OpenCall
  begun = record { number = suc (m.clients client).call_count; asked = asked_now m client c; has_begun = false; has_locks = false; outcomes = []; offers = []; pieces = []; lengths = [] }

  abbrev calling : Client
  calling = record (m.clients client) { call_count = suc (m.clients client).call_count; calls = put (suc (m.clients client).call_count) (Some (asked_now m client c)) (m.clients client).calls; open_call = Some begun }

  -- what waits now is the new call, or waited before
  waits_now : (q asked : ℕ) (x : OpenCall) → IsWaiting n later q asked x → ((q ≡ client) × (number ≡ Some asked) × (begun ≡ x)) ⊎ ((q ≡ client → ⊥) × IsWaiting m requests q asked x)
  waits_now q asked x w = ⊎_elim
      (λ same. inl (
        same,
        sym (put_is client number requests q same) ∙ w.number_is,
        from_some (sym (ap (λ (s : Client). s.open_call) (put_is client calling m.clients q same)) ∙ w.is_open),
      ))
      (λ other. inr (
        other,
        record { is_open = ap (λ (s : Client). s.open_call) (sym (put_other client calling m.clients q other)) ∙ w.is_open; number_is = sym (put_other client number requests q other) ∙ w.number_is },
      ))
      (same_or_not q client)

  holds_on : (s : PendingSnapshot) → (m.clients client).open_call ≡ None → HoldsLocks m requests s → HoldsLocks n later s
  holds_on s none h =
      let other : s.client ≡ client → ⊥ = λ same. none-some h.current (sym none ∙ ap (λ (q : ℕ). (m.clients q).open_call) (sym same) ∙ h.waiting.is_open) in
      record {
        current = h.current;
        waiting = record { is_open = ap (λ (x : Client). x.open_call) (put_other client calling m.clients s.client other) ∙ h.waiting.is_open; number_is = put_other client number requests s.client other ∙ h.waiting.number_is };
        call_is = h.call_is;
        has_locks = h.has_locks;
        untaken = h.untaken;
      }

  all_hold_on : (snapshots : List PendingSnapshot) → (m.clients client).open_call ≡ None → AllByRecursion (HoldsLocks m requests) snapshots → AllByRecursion (HoldsLocks n later) snapshots
  all_hold_on [] none all = tt
  all_hold_on (s ∷ rest) none all = (holds_on s none all.0, all_hold_on rest none all.1)

  alike_now : (l : Logged) (snapshots : List PendingSnapshot) → AreAlike l snapshots m requests → (m.clients client).open_call ≡ None → IsUnkept l.kept client number → AreAlike l snapshots n later
  alike_now l snapshots h none unkept =
      record {
        names = h.names;
        next = h.next;
        files = h.files;
        shapes = h.shapes;
        kept = λ q k is x w. elim (waits_now q k.number x w) [
          | inl new ↦ absurd (unkept k (ap (λ (i : ℕ). table.get l.kept i) (sym new.0) ∙ is) new.1)
          | inr old ↦ h.kept q k is x old.1
        ];
        untaken = λ q asked x w plain. elim (waits_now q asked x w) [
          | inl new ↦ inl (ap (λ (y : OpenCall). y.outcomes) (sym new.2))
          | inr old ↦ h.untaken q asked x old.1 plain
        ];
        locks = all_hold_on snapshots none h.locks;
      }

  told_now : (q : ℕ) (b : Body) → (q ≡ client → IsOfOther b number) → IsToldTo m requests q b → IsToldTo n later q b
  told_now q (body.Named named reply) other told = λ x w. elim (waits_now q named x w) [
    | inl new ↦ absurd (other new.0 new.1)
    | inr old ↦ told x old.1
  ]
  told_now q b other told = tt

pub calls_begin : CallsBegin
calls_begin l snapshots m requests client number c h none unkept =
    (none, alike_now m requests client number c l snapshots h none unkept, λ x other told. told_now m requests client number c (client_number x.receiver) x.body other told)
