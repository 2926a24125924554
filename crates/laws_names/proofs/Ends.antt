-- A call is answered, and the clock goes on.
use Rattle.std.proofs.Common.{◌≡◌, ⊎_elim, ℕ, suc, Bool, true, false, cond, List, [], ◌∷◌, Option, Some, None, refl, sym, ap, subst, ◌∙◌}
use Rattle.std.specs.Prelude.{◌==◌, not, filter}
use Rattle.std.specs.List.{AllByRecursion}
use Rattle.std.proofs.lemmas.Option.{none-some}
use Rattle.std.proofs.lemmas.Bool.{true≢false, eq-eqb}
use Rattle.gfs_types.specs.declared.answer.Answer.{Answer}
use Rattle.messages.specs.declared.message.Body.{Body}
use Rattle.messages.specs.declared.message.Body.TheVariants as body
use Rattle.messages.specs.declared.message.Message.{Message}
use Rattle.relaxed_file.specs.Machine.{Machine, Client, FileState, OpenCall, put}
use Rattle.relaxed_file.specs.Answers.{descriptors_after, returned, returned_fd}
use Rattle.relaxed_file.specs.Run.{Action, Return, ReturnFd, Pass, Allows, after}
use Rattle.relaxed_file.proofs.Tables.{put_same, put_other, at_some}
use Rattle.protocol.specs.Sending.{client_number}
use Rattle.protocol.specs.Logged.{Logged}
use Rattle.protocol.specs.Master.{PendingSnapshot}
use Rattle.laws_names.specs.Alike.{Requests, is_there, IsWaiting, HoldsLocks, AreAlike}
use Rattle.laws_names.proofs.OpenCalls.{same_or_not, waits_still, all_still}
use Rattle.laws_names.specs.Followed.{IsTold, IsToldTo}
use Rattle.laws_names.specs.NameClients.{IsAnswerTo, StaysTold, AnswersEndCalls, MomentsPass}

-- the client's call is over, and nothing else of names
record IsOver (m n : Machine) (client : ℕ) : Type 0 where
  none : (n.clients client).open_call ≡ None
  others : (q : ℕ) → (q ≡ client → ⊥) → n.clients q ≡ m.clients q
  names : n.names ≡ m.names
  count : n.file_count ≡ m.file_count
  files : n.files ≡ m.files

module _ (m n : Machine) (requests : Requests) (client : ℕ) (over : IsOver m n client) where
  waited : (q number : ℕ) (c : OpenCall) → IsWaiting n requests q number c → IsWaiting m requests q number c
  waited q number c w = ⊎_elim
      (λ same. absurd (none-some c (sym over.none ∙ ap (λ (i : ℕ). (n.clients i).open_call) (sym same) ∙ w.is_open)))
      (λ other. record { is_open = ap (λ (s : Client). s.open_call) (sym (over.others q other)) ∙ w.is_open; number_is = w.number_is })
      (same_or_not q client)

  holds_on : (s : PendingSnapshot) → (s.client ≡ client → ⊥) → HoldsLocks m requests s → HoldsLocks n requests s
  holds_on s other h =
      record {
        current = h.current;
        waiting = record { is_open = ap (λ (x : Client). x.open_call) (over.others s.client other) ∙ h.waiting.is_open; number_is = h.waiting.number_is };
        call_is = h.call_is;
        has_locks = h.has_locks;
        untaken = h.untaken;
      }

  -- the snapshots of the others
  others_hold_on : (snapshots : List PendingSnapshot) → AllByRecursion (HoldsLocks m requests) snapshots → AllByRecursion (HoldsLocks n requests) (filter (λ s. not (s.client == client)) snapshots)
  others_hold_on [] all = tt
  others_hold_on (s ∷ rest) all = by_test (s.client == client) refl (others_hold_on rest all.1)
    where
      by_test : (b : Bool) → (s.client == client) ≡ b → AllByRecursion (HoldsLocks n requests) (filter (λ t. not (t.client == client)) rest)
          → AllByRecursion (HoldsLocks n requests) (cond (not b) (s ∷ filter (λ t. not (t.client == client)) rest) (filter (λ t. not (t.client == client)) rest))
      by_test true is left = left
      by_test false is left = (holds_on s (λ same. true≢false (sym (eq-eqb s.client client same) ∙ is)) all.0, left)

  there_still : (file : ℕ) → is_there m file ≡ is_there n file
  there_still file = ap (λ (count : ℕ). is_there (record m { file_count = count }) file) (sym over.count) ∙ ap (λ (files : ℕ → FileState). is_there (record m { file_count = n.file_count; files = files }) file) (sym over.files)

  alike_over : (l : Logged) (snapshots : List PendingSnapshot) → AreAlike l snapshots m requests → AreAlike l (filter (λ s. not (s.client == client)) snapshots) n requests
  alike_over l snapshots h =
      record {
        names = h.names ∙ sym over.names;
        next = h.next ∙ ap suc (sym over.count);
        files = λ file. h.files file ∙ there_still file;
        shapes = λ file has. h.shapes file has ∙ ap (λ (files : ℕ → FileState). (files file).shape) (sym over.files);
        kept = λ q k is c w. h.kept q k is c (waited q k.number c w);
        untaken = λ q number c w plain. h.untaken q number c (waited q number c w) plain;
        locks = others_hold_on snapshots h.locks;
      }

  told_over : (q : ℕ) (b : Body) → IsToldTo m requests q b → IsToldTo n requests q b
  told_over q (body.Named number reply) told = λ c w. told c (waited q number c w)
  told_over q b told = tt

returned_over : (m : Machine) (client : ℕ) (current : OpenCall) (reply : Answer) → IsOver m (returned m client current reply) client
returned_over m client current reply =
    let state : Client = record (m.clients client) { open_call = None; descriptors = descriptors_after (m.clients client).descriptors current.asked.call reply } in
    record { none = ap (λ (s : Client). s.open_call) (put_same client state m.clients); others = λ q other. put_other client state m.clients q other; names = refl; count = refl; files = refl }

returned_fd_over : (m : Machine) (client fd file : ℕ) → IsOver m (returned_fd m client fd file) client
returned_fd_over m client fd file =
    let state : Client = record (m.clients client) { open_call = None; fd_count = fd; descriptors = put fd (Some file) (m.clients client).descriptors; notes = put file (λ index. None) (m.clients client).notes } in
    record { none = ap (λ (s : Client). s.open_call) (put_same client state m.clients); others = λ q other. put_other client state m.clients q other; names = refl; count = refl; files = refl }

over_after : (m : Machine) (client : ℕ) (action : Action) → IsAnswerTo client action → Allows m action → IsOver m (after m action) client
over_after m client (Return answered reply) same allowed =
    subst (λ (q : ℕ). IsOver m (after m (Return answered reply)) q) same
    (at_some (λ (n : Machine). IsOver m n answered) (λ (x : OpenCall). returned m answered x reply) m (m.clients answered).open_call allowed.0 allowed.1 (returned_over m answered allowed.0 reply))
over_after m client (ReturnFd answered fd file) same allowed =
    subst (λ (q : ℕ). IsOver m (after m (ReturnFd answered fd file)) q) same (returned_fd_over m answered fd file)
over_after m client other same allowed = absurd same

pub answers_end_calls : AnswersEndCalls
answers_end_calls l snapshots m requests client action h same allowed =
    let over : IsOver m (after m action) client = over_after m client action same allowed in
    (alike_over m (after m action) requests client over l snapshots h, λ x told. told_over m (after m action) requests client over (client_number x.receiver) x.body told)

-- the clock

told_later : (m : Machine) (requests : Requests) (moment q : ℕ) (b : Body) → IsToldTo m requests q b → IsToldTo (after m (Pass moment)) requests q b
told_later m requests moment q (body.Named number reply) told = λ c w. told c (waits_still m (after m (Pass moment)) requests q number c refl w)
told_later m requests moment q b told = tt

pub moments_pass : MomentsPass
moments_pass l snapshots m requests moment h =
    let n : Machine = after m (Pass moment) in (
      record {
        names = h.names;
        next = h.next;
        files = h.files;
        shapes = h.shapes;
        kept = λ q k is c w. h.kept q k is c (waits_still m n requests q k.number c refl w);
        untaken = λ q number c w plain. h.untaken q number c (waits_still m n requests q number c refl w) plain;
        locks = all_still m n requests snapshots refl h.locks;
      },
      λ x told. told_later m requests moment (client_number x.receiver) x.body told,
    )
