-- One client's state changes at both machines, or at the whole one alone.
use Rattle.std.proofs.Common.{◌≡◌, ℕ, suc, Bool, true, false, cond, [], Option, Some, None, refl, sym, ap, subst, ◌∙◌}
use Rattle.std.specs.Prelude.{◌==◌, option_map, IsFalse}
use Rattle.std.proofs.lemmas.Bool.{eqb-true}
use Rattle.std.proofs.lemmas.Option.{none-some}
use Rattle.gfs_types.specs.declared.call.Call.{Call}
use Rattle.gfs_types.specs.declared.answer.Answer.{Answer}
use Rattle.relaxed_file.specs.Machine.{Machine, Client, Asked, OpenCall, IsOpen, put, with_step}
use Rattle.relaxed_file.specs.NameStep.{is_name_call}
use Rattle.relaxed_file.specs.Answers.{descriptors_after}
use Rattle.relaxed_file.specs.Run.{asked_now}
use Rattle.machine_names.specs.NameProjections.{named_state, IsSameCall, AreSameCalls, AreNamesOf}

-- both clients have the same name call open, and as many descriptors
abbrev pub AreSame : Client → Client → Type 0
AreSame s t = AreSameCalls s t.open_call s.open_call × (t.fd_count ≡ s.fd_count)

abbrev pub AreAllSame : (ℕ → Client) → (ℕ → Client) → Type 0
AreAllSame ms ns = (client : ℕ) → AreSame (ms client) (ns client)

pub all_same : (m n : Machine) → AreNamesOf m n → AreAllSame m.clients n.clients
all_same m n h client = (h.calls client, h.fds client)

pub put_both : (ms ns : ℕ → Client) (client : ℕ) (s t : Client) → AreAllSame ms ns → AreSame s t → AreAllSame (put client s ms) (put client t ns)
put_both ms ns client s t all same q = by_key (q == client)
  where
    by_key : (b : Bool) → AreSame (cond b s (ms q)) (cond b t (ns q))
    by_key true = same
    by_key false = all q

pub put_first : (ms ns : ℕ → Client) (client : ℕ) (s : Client) → AreAllSame ms ns → AreSame s (ns client) → AreAllSame (put client s ms) ns
put_first ms ns client s all same q = by_key (q == client) refl
  where
    by_key : (b : Bool) → (q == client) ≡ b → AreSame (cond b s (ms q)) (ns q)
    by_key true e = subst (λ (k : ℕ). AreSame s (ns k)) (sym (eqb-true q client e)) same
    by_key false e = all q

-- the names with other clients
pub with_same_clients : (m n o p : Machine) → AreNamesOf m n → o.config ≡ m.config → o.clock ≡ m.clock → o.names ≡ m.names → o.file_count ≡ m.file_count → ((file : ℕ) → named_state (o.files file) ≡ named_state (m.files file))
    → p.config ≡ n.config → p.clock ≡ n.clock → p.names ≡ n.names → p.file_count ≡ n.file_count → ((file : ℕ) → named_state (p.files file) ≡ named_state (n.files file)) → AreAllSame o.clients p.clients → AreNamesOf o p
with_same_clients m n o p h config clock names count files p_config p_clock p_names p_count p_files all = record {
  config = p_config ∙ h.config ∙ sym config;
  clock = p_clock ∙ h.clock ∙ sym clock;
  names = p_names ∙ h.names ∙ sym names;
  count = p_count ∙ h.count ∙ sym count;
  files = λ file. p_files file ∙ h.files file ∙ sym (files file);
  calls = λ client. (all client).0;
  fds = λ client. (all client).1;
}

-- the whole machine has the client's name call too
pub record HasCall (m : Machine) (client : ℕ) (c : OpenCall) : Type 0 where
  pub d : OpenCall
  pub is_open : IsOpen m client d
  pub same : IsSameCall (m.clients client) c d

pub its_call : (m n : Machine) (client : ℕ) (c : OpenCall) → AreNamesOf m n → IsOpen n client c → HasCall m client c
its_call m n client c h is = by_call (m.clients client).open_call refl (subst (λ (o : Option OpenCall). AreSameCalls (m.clients client) o (m.clients client).open_call) is (h.calls client))
  where
    by_call : (o : Option OpenCall) → (m.clients client).open_call ≡ o → AreSameCalls (m.clients client) (Some c) o → HasCall m client c
    by_call None at same = absurd same
    by_call (Some d) at same = record { d = d; is_open = at; same = same }

-- an open call of the whole machine that is no name call
pub record IsUnnamed (m n : Machine) (client : ℕ) (d : OpenCall) : Type 0 where
  pub none : (n.clients client).open_call ≡ None
  pub unnamed : IsFalse (is_name_call d.asked.call)

pub unnamed_call : (m n : Machine) (client : ℕ) (d : OpenCall) → AreNamesOf m n → IsOpen m client d → ((c : OpenCall) → IsSameCall (m.clients client) c d → ⊥) → IsUnnamed m n client d
unnamed_call m n client d h is other = by_call (n.clients client).open_call refl (subst (λ (o : Option OpenCall). AreSameCalls (m.clients client) (n.clients client).open_call o) is (h.calls client))
  where
    by_call : (o : Option OpenCall) → (n.clients client).open_call ≡ o → AreSameCalls (m.clients client) o (Some d) → IsUnnamed m n client d
    by_call None at same = record { none = at; unnamed = same }
    by_call (Some c) at same = absurd (other c same)

-- a call on a file is no name call
pub on_file : (state : Client) (c d : OpenCall) (file : ℕ) → d.asked.file ≡ Some file → IsSameCall state c d → ⊥
on_file state c d file is same = none-some file (sym same.no_file.1 ∙ is)

-- a step of the open call, which stays what it is
abbrev pub after_change : (OpenCall → OpenCall) → OpenCall → OpenCall
after_change change current = record (change current) { has_begun = true }

abbrev pub Stays : (OpenCall → OpenCall) → Type 0
Stays change = (c : OpenCall) → (change c).asked ≡ c.asked

abbrev pub StaysSame : (OpenCall → OpenCall) → Type 0
StaysSame change = (state : Client) (c d : OpenCall) → IsSameCall state c d → IsSameCall state (after_change change c) (after_change change d)

abbrev pub with_open : Client → Option OpenCall → Client
with_open state o = record state { open_call = o }

abbrev pub stepped_client : (OpenCall → OpenCall) → Client → Client
stepped_client change state = with_open state (option_map (after_change change) state.open_call)

same_anywhere : (s t : Client) (c d : OpenCall) → t.calls ≡ s.calls → IsSameCall s c d → IsSameCall t c d
same_anywhere s t c d calls h = record { naming = h.naming; call_is = h.call_is; no_file = h.no_file; begun = h.begun; locks = h.locks; outcomes = h.outcomes; no_offer = h.no_offer; listed = ap (λ (cs : ℕ → Option Asked). cs d.number) calls ∙ h.listed }

pub step_same : (s t : Client) (change : OpenCall → OpenCall) → Stays change → StaysSame change → AreSame s t
    → AreSame (with_open s (option_map (after_change change) s.open_call)) (with_open t (option_map (after_change change) t.open_call))
step_same s t change stays same h = (by_calls t.open_call s.open_call h.0, h.1)
  where
    by_calls : (p o : Option OpenCall) → AreSameCalls s p o → AreSameCalls (with_open s (option_map (after_change change) s.open_call)) (option_map (after_change change) p) (option_map (after_change change) o)
    by_calls None None is = tt
    by_calls None (Some d) is = ap (λ (a : Asked). is_name_call a.call) (stays d) ∙ is
    by_calls (Some c) None is = absurd is
    by_calls (Some c) (Some d) is = same_anywhere s (with_open s (option_map (after_change change) s.open_call)) (after_change change c) (after_change change d) refl (same s c d is)

-- both machines take the same step of the call
pub both_step : (m n : Machine) (client : ℕ) (change : OpenCall → OpenCall) → Stays change → StaysSame change → AreNamesOf m n → AreNamesOf (with_step m client change) (with_step n client change)
both_step m n client change stays same h =
    with_same_clients m n (with_step m client change) (with_step n client change) h refl refl refl refl (λ file. refl) refl refl refl refl (λ file. refl)
    (put_both m.clients n.clients client (stepped_client change (m.clients client)) (stepped_client change (n.clients client)) (all_same m n h) (step_same (m.clients client) (n.clients client) change stays same (h.calls client, h.fds client)))

-- the whole machine alone takes a step of a call on a file
pub one_step : (m n : Machine) (client : ℕ) (d : OpenCall) (change : OpenCall → OpenCall) → Stays change → AreNamesOf m n → IsOpen m client d → IsUnnamed m n client d → AreNamesOf (with_step m client change) n
one_step m n client d change stays h is unnamed =
    with_same_clients m n (with_step m client change) n h refl refl refl refl (λ file. refl) refl refl refl refl (λ file. refl)
    (put_first m.clients n.clients client (stepped_client change (m.clients client)) (all_same m n h)
    (subst (λ (o : Option OpenCall). AreSame (with_open (m.clients client) (option_map (after_change change) o)) (n.clients client)) (sym is) (still, h.fds client)))
  where
    still : AreSameCalls (with_open (m.clients client) (Some (after_change change d))) (n.clients client).open_call (Some (after_change change d))
    still = subst (λ (o : Option OpenCall). AreSameCalls (with_open (m.clients client) (Some (after_change change d))) o (Some (after_change change d))) (sym unnamed.none) (ap (λ (a : Asked). is_name_call a.call) (stays d) ∙ unnamed.unnamed)

-- the client after its call, and after an answer
abbrev pub called : Machine → ℕ → Call → Client
called m client c =
    record (m.clients client) {
      call_count = suc (m.clients client).call_count;
      calls = put (suc (m.clients client).call_count) (Some (asked_now m client c)) (m.clients client).calls;
      open_call = Some (record { number = suc (m.clients client).call_count; asked = asked_now m client c; has_begun = false; has_locks = false; outcomes = []; offers = []; pieces = []; lengths = [] });
    }

abbrev pub answered : Machine → ℕ → OpenCall → Answer → Client
answered m client current reply = record (m.clients client) { open_call = None; descriptors = descriptors_after (m.clients client).descriptors current.asked.call reply }

abbrev pub answered_fd : Machine → ℕ → ℕ → ℕ → Client
answered_fd m client fd file =
    record (m.clients client) { open_call = None; fd_count = fd; descriptors = put fd (Some file) (m.clients client).descriptors; notes = put file (λ index. None) (m.clients client).notes }
