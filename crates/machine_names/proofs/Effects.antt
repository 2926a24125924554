-- What a name call may do, and does, is the same at both machines.
use Rattle.std.proofs.Common.{◌≡◌, ℕ, suc, ◌-◌, ◌≤◌, Bool, true, false, cond, List, [], ◌∷◌, None, refl, sym, ap, subst, ◌∙◌, inl, inr, Option}
use Rattle.std.specs.Prelude.{◌==◌, Contains, IsTrue}
use Rattle.std.specs.FinMap as map
use Rattle.std.proofs.lemmas.Bool.{true≢false}
use Rattle.std.proofs.lemmas.Option.{none-some}
use Rattle.gfs_types.specs.declared.call.Call.{Call}
use Rattle.gfs_types.specs.declared.call.Call.TheVariants as call
use Rattle.gfs_types.specs.declared.answer.Answer.{Answer}
use Rattle.gfs_types.specs.declared.answer.Answer.TheVariants as answer
use Rattle.gfs_types.specs.declared.refusal.Refusal.{Refusal}
use Rattle.gfs_types.specs.declared.refusal.Refusal.TheVariants.{BadFd, TooLong, Collected, NoMemory}
use Rattle.gfs_types.specs.declared.config.Config.{Config}
use Rattle.gfs_types.specs.Paths.{Path}
use Rattle.relaxed_file.specs.Names.{Names, Node, Dir, File, node_at, copied_entries, with_copies, id_after, id_after_all}
use Rattle.relaxed_file.specs.Machine.{Machine, Client, FileState, OpenCall, Outcome, Replies, new_file, put}
use Rattle.relaxed_file.specs.NameStep.{is_name_call, with_node, hidden, with_copied_file, with_copied_files, performed, MayTakeEffect, made_file}
use Rattle.relaxed_file.specs.Answers.{IsDone, IsCause, MayReturn, may_give_up}
use Rattle.relaxed_file.specs.Run.{file_of}
use Rattle.machine_names.specs.NameProjections.{IsSameCall, named_state, AreNamesOf, AreSourcesClosed}
use Rattle.gfs_types.specs.declared.shape.Shape.{Shape}
use Rattle.gfs_types.specs.Shapes.{usual_shape, shape_or}

-- effects

-- a collected file of this shape
abbrev pub gone_state : Shape → Bool × Shape
gone_state shape = (true, shape)

-- the same files go with the names
abbrev pub AreSameFiles : (ℕ → FileState) → (ℕ → FileState) → Type 0
AreSameFiles gs fs = (k : ℕ) → named_state (gs k) ≡ named_state (fs k)

pub put_files : (fs gs : ℕ → FileState) (key : ℕ) (s t : FileState) → AreSameFiles gs fs → named_state t ≡ named_state s → AreSameFiles (put key t gs) (put key s fs)
put_files fs gs key s t all same k = by_key (k == key)
  where
    by_key : (b : Bool) → named_state (cond b t (gs k)) ≡ named_state (cond b s (fs k))
    by_key true = same
    by_key false = all k

copied_files : (es : List (Path × Node)) (fs gs : ℕ → FileState) (next : ℕ) → AreSameFiles gs fs → AreSameFiles (with_copied_files gs next es) (with_copied_files fs next es)
copied_files [] fs gs next all = all
copied_files (e ∷ es) fs gs next all = copied_files es (with_copied_file fs next e.1) (with_copied_file gs next e.1) (id_after next e.1) (by_node e.1)
  where
    by_node : (n : Node) → AreSameFiles (with_copied_file gs next n) (with_copied_file fs next n)
    by_node Dir = all
    by_node (File id) = put_files fs gs next (fs id) (gs id) all (all id)

module _ (m n : Machine) (h : AreNamesOf m n) where
  pub same_collected : (file : ℕ) → (n.files file).is_collected ≡ (m.files file).is_collected
  same_collected file = ap (λ (s : Bool × Shape). s.0) (h.files file)

  pub same_shape : (file : ℕ) → (n.files file).shape ≡ (m.files file).shape
  same_shape file = ap (λ (s : Bool × Shape). s.1) (h.files file)

  -- only the names change
  renamed : (f : Names → Names) → AreNamesOf (record m { names = f m.names }) (record n { names = f n.names })
  renamed f = record { config = h.config; clock = h.clock; names = ap f h.names; count = h.count; files = h.files; calls = h.calls; fds = h.fds }

  created : (p : Path) (shape : Option Shape) (moment : ℕ) → AreNamesOf (performed m (call.Create p shape) moment) (performed n (call.Create p shape) moment)
  created p shape moment = record {
    config = h.config;
    clock = h.clock;
    names = ap (λ (x : Names). map.insert x p (File (suc n.file_count))) h.names ∙ ap (λ (k : ℕ). map.insert m.names p (File (suc k))) h.count;
    count = ap (λ (k : ℕ). suc k) h.count;
    files = λ file.
        ap (λ (k : ℕ). named_state (put (suc k) (made_file n shape) n.files file)) h.count
        ∙ put_files m.files n.files (suc m.file_count) (made_file m shape) (made_file n shape) h.files (ap (λ (c : Config). named_state (new_file (shape_or (usual_shape c) shape))) h.config) file;
    calls = h.calls;
    fds = h.fds;
  }

  copied : (p q : Path) (moment : ℕ) → AreNamesOf (performed m (call.Snapshot p q) moment) (performed n (call.Snapshot p q) moment)
  copied p q moment = record {
    config = h.config;
    clock = h.clock;
    names = ap (λ (x : Names). with_copies x (suc n.file_count) (copied_entries x p q)) h.names ∙ ap (λ (k : ℕ). with_copies m.names (suc k) (copied_entries m.names p q)) h.count;
    count = ap (λ (x : Names). id_after_all (suc n.file_count) (copied_entries x p q) - 1) h.names ∙ ap (λ (k : ℕ). id_after_all (suc k) (copied_entries m.names p q) - 1) h.count;
    files = λ file.
        ap (λ (x : Names). named_state (with_copied_files n.files (suc n.file_count) (copied_entries x p q) file)) h.names
        ∙ ap (λ (k : ℕ). named_state (with_copied_files n.files (suc k) (copied_entries m.names p q) file)) h.count
        ∙ copied_files (copied_entries m.names p q) m.files n.files (suc m.file_count) h.files file;
    calls = h.calls;
    fds = h.fds;
  }

  pub performed_both : (k : Call) (moment : ℕ) → AreNamesOf (performed m k moment) (performed n k moment)
  performed_both (call.Mkdir p) moment = renamed (λ x. map.insert x p Dir)
  performed_both (call.Rmdir p) moment = renamed (λ x. map.remove x p)
  performed_both (call.Create p shape) moment = created p shape moment
  performed_both (call.Delete p) moment = renamed (λ x. hidden x p moment (node_at x p))
  performed_both (call.Rename p q) moment = renamed (λ x. with_node (map.remove x p) q (node_at x p))
  performed_both (call.Snapshot p q) moment = copied p q moment
  performed_both other moment = h

  pub may_take_effect : (k : Call) (moment : ℕ) → AreSourcesClosed m k → MayTakeEffect n k moment → MayTakeEffect m k moment
  may_take_effect (call.Delete p) moment closed may = (
    subst (λ (c : Config). m.clock - c.skew_ms ≤ moment) h.config (subst (λ (t : ℕ). t - n.config.skew_ms ≤ moment) h.clock may.0),
    subst (λ (t : ℕ). moment ≤ t) h.clock may.1,
  )
  may_take_effect (call.Snapshot p q) moment closed may = closed
  may_take_effect other moment closed may = tt

-- answers

-- a name call has no file
pub named_no_file : (state : Client) (k : Call) → IsTrue (is_name_call k) → file_of state k ≡ None
named_no_file state (call.Close fd) is = absurd (true≢false (sym is))
named_no_file state (call.Length fd) is = absurd (true≢false (sym is))
named_no_file state (call.Write fd offset bytes) is = absurd (true≢false (sym is))
named_no_file state (call.Append fd bytes) is = absurd (true≢false (sym is))
named_no_file state (call.Read fd offset count) is = absurd (true≢false (sym is))
named_no_file state other is = refl

named_done : (m n : Machine) (client : ℕ) (c d : OpenCall) (k : Call) (reply : Answer) → IsTrue (is_name_call k) → d.outcomes ≡ c.outcomes → IsDone n client c k reply → IsDone m client d k reply
named_done m n client c d (call.Close fd) reply is same done = absurd (true≢false (sym is))
named_done m n client c d (call.Length fd) reply is same done = absurd (true≢false (sym is))
named_done m n client c d (call.Write fd offset bytes) reply is same done = absurd (true≢false (sym is))
named_done m n client c d (call.Append fd bytes) reply is same done = absurd (true≢false (sym is))
named_done m n client c d (call.Read fd offset count) reply is same done = absurd (true≢false (sym is))
named_done m n client c d other reply is same done = subst (λ (os : List Outcome). Contains os (Replies reply)) (sym same) done

module _ (m n : Machine) (client : ℕ) (c d : OpenCall) (state : Client) (s : IsSameCall state c d) where
  caused : (reason : Refusal) → IsCause n client c reason → IsCause m client d reason
  caused BadFd cause = absurd (let both : true ≡ false = sym s.naming ∙ cause.0 in cc)
  caused TooLong cause = absurd (none-some cause.0 (sym s.no_file.0 ∙ cause.1))
  caused Collected cause = absurd (none-some cause.0 (sym s.no_file.0 ∙ cause.1))
  caused NoMemory cause = s.begun ∙ cause
  caused other cause = absurd cause

  done : (reply : Answer) → IsDone n client c c.asked.call reply → IsDone m client d d.asked.call reply
  done reply h = subst (λ (k : Call). IsDone m client d k reply) (sym s.call_is) (named_done m n client c d c.asked.call reply s.naming s.outcomes h)

  pub may_return : (reply : Answer) → MayReturn n client c reply → MayReturn m client d reply
  may_return (answer.Refused reason) (inl told) = inl (subst (λ (os : List Outcome). Contains os (Replies (answer.Refused reason))) (sym s.outcomes) told)
  may_return (answer.Refused reason) (inr (inl given_up)) = inr (inl (subst (λ (k : Call). IsTrue (may_give_up k reason)) (sym s.call_is) given_up))
  may_return (answer.Refused reason) (inr (inr cause)) = inr (inr (caused reason cause))
  may_return other h = done other h
