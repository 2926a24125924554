-- In every run of the machine each file that is named, open or asked for has a number above 0.
use Rattle.std.proofs.Common.{◌≡◌, ℕ, suc, ◌≤◌, true, false, cond, List, [], ◌∷◌, Option, Some, None, sym, subst, arith}
use Rattle.std.specs.Prelude.{option_map, ◌==◌, ◌*◌, ◌+◌}
use Rattle.std.specs.List.{AllByRecursion}
use Rattle.std.specs.Ordering.{nat_cmp, eq_by_cmp}
use Rattle.std.specs.Cmp.Lexicographic.{slice_cmp, nat_list_cmp_total}
use Rattle.std.specs.FinMap as map
use Rattle.gfs_types.specs.declared.config.Config.{Config}
use Rattle.gfs_types.specs.declared.call.Call.{Call}
use Rattle.gfs_types.specs.declared.call.Call.TheVariants as call
use Rattle.gfs_types.specs.declared.answer.Answer.{Answer}
use Rattle.gfs_types.specs.declared.answer.Answer.TheVariants as answer
use Rattle.gfs_types.specs.declared.refusal.Refusal.{Refusal}
use Rattle.gfs_types.specs.declared.refusal.Refusal.TheVariants.{Busy, NamesFull}
use Rattle.gfs_types.specs.Paths.{Path, root, trash, hidden_name}
use Rattle.gfs_types.specs.Image.{image_length}
use Rattle.relaxed_file.specs.Names.{Node, Dir, File, Names, first_names, node_at, copied_entries, with_copies, id_after, copy_of_node}
use Rattle.relaxed_file.specs.Order.{mutations_of}
use Rattle.relaxed_file.specs.Machine.{Machine, Client, OpenCall, Outcome, Replies, Opens, IsOpen, chunk_size, new_machine, put, with_client, with_step}
use Rattle.relaxed_file.specs.NameStep.{performed, is_refused, stepped, with_outcome, with_node, hidden, opened, done_outcome, outcome_by, refusal_of}
use Rattle.relaxed_file.specs.Chunks.{chunk_added, placed, begun_call}
use Rattle.relaxed_file.specs.Reads.{looked, offer_of, read_slice}
use Rattle.relaxed_file.specs.Answers.{returned, descriptors_after}
use Rattle.relaxed_file.specs.Run.{Action, Invoke, Return, ReturnFd, Step, FindBusy, FindFull, Lock, Expire, Add, OpenRound, CloseRound, Place, Settle, Tell, Note, Look, LookPast, Measure, MeasureNone, Pass, file_of, Allows, after, asked_file, IsReached}
use Rattle.relaxed_file.proofs.Known.{asked_is, id_after_rises}
use Rattle.relaxed_file.proofs.Reached.{kept_to}
use Rattle.relaxed_file.proofs.Tables.{cond_keeps, put_keeps, at_some, contained}

-- names

abbrev IsMadeNode : Option Node → Type 0
IsMadeNode None = Unit {0}
IsMadeNode (Some Dir) = Unit {0}
IsMadeNode (Some (File id)) = 1 ≤ id

abbrev AreMadeNames : Names → Type 0
AreMadeNames names = (path : Path) → IsMadeNode (node_at names path)

inserted : (names : Names) (path : Path) (node : Node) → IsMadeNode (Some node) → AreMadeNames names → AreMadeNames (map.insert names path node)
inserted names path node new h q =
    subst IsMadeNode (sym (map.get-insert nat_list_cmp_total names path node q)) (cond_keeps IsMadeNode (eq_by_cmp (slice_cmp nat_cmp) q path) (Some node) (node_at names q) new (h q))

removed : (names : Names) (path : Path) → AreMadeNames names → AreMadeNames (map.remove names path)
removed names path h q =
    subst IsMadeNode (sym (map.get-remove nat_list_cmp_total names path q)) (cond_keeps IsMadeNode (eq_by_cmp (slice_cmp nat_cmp) q path) None (node_at names q) tt (h q))

renamed : (names : Names) (path : Path) (o : Option Node) → IsMadeNode o → AreMadeNames names → AreMadeNames (with_node names path o)
renamed names path None new h = h
renamed names path (Some node) new h = inserted names path node new h

hid : (names : Names) (path : Path) (moment : ℕ) (o : Option Node) → IsMadeNode o → AreMadeNames names → AreMadeNames (hidden names path moment o)
hid names path moment None new h = h
hid names path moment (Some Dir) new h = h
hid names path moment (Some (File id)) new h = inserted (map.remove names path) (hidden_name moment id) (File id) new (removed names path h)

copied : (names : Names) (next : ℕ) (entries : List (Path × Node)) → 1 ≤ next → AreMadeNames names → AreMadeNames (with_copies names next entries)
copied names next [] low h = h
copied names next (e ∷ rest) low h =
    copied (map.insert names e.0 (copy_of_node next e.1)) (id_after next e.1) rest (let more = id_after_rises next e.1 in omega (arith, low, more)) (inserted names e.0 (copy_of_node next e.1) (one e.1) h)
  where
    one : (n : Node) → IsMadeNode (Some (copy_of_node next n))
    one Dir = tt
    one (File id) = low

-- calls

abbrev IsMadeFile : Option ℕ → Type 0
IsMadeFile None = Unit {0}
IsMadeFile (Some file) = 1 ≤ file

abbrev IsMadeOutcome : Outcome → Type 0
IsMadeOutcome (Replies reply) = Unit {0}
IsMadeOutcome (Opens file) = 1 ≤ file

abbrev IsMadeCall : Option OpenCall → Type 0
IsMadeCall None = Unit {0}
IsMadeCall (Some c) = IsMadeFile c.asked.file × AllByRecursion IsMadeOutcome c.outcomes

opens_made : (o : Option Node) → IsMadeNode o → IsMadeOutcome (opened o)
opens_made None h = tt
opens_made (Some Dir) h = tt
opens_made (Some (File id)) h = h

done_made : (names : Names) (c : Call) → AreMadeNames names → IsMadeOutcome (done_outcome names c)
done_made names (call.Open p) h = opens_made (node_at names p) (h p)
done_made names (call.List p) h = tt
done_made names other h = tt

by_made : (names : Names) (c : Call) (o : Option Refusal) → AreMadeNames names → IsMadeOutcome (outcome_by names c o)
by_made names c (Some refusal) h = tt
by_made names c None h = done_made names c h

record AreMadeOf (state : Client) : Type 0 where
  pub descriptors : (fd : ℕ) → IsMadeFile (state.descriptors fd)
  pub open_call : IsMadeCall state.open_call

record AreMade (m : Machine) : Type 0 where
  pub names : AreMadeNames m.names
  pub clients : (client : ℕ) → AreMadeOf (m.clients client)

client_changed : (m : Machine) (client : ℕ) (state : Client) → AreMade m → AreMadeOf state → AreMade (with_client m client state)
client_changed m client state h new = record { names = h.names; clients = put_keeps AreMadeOf client state m.clients new h.clients }

-- the open call takes a step, which leaves what it asked and its outcomes
abbrev KeepsMade : (OpenCall → OpenCall) → Type 0
KeepsMade change = (c : OpenCall) → IsMadeCall (Some c) → IsMadeCall (Some (change c))

step_taken : (m : Machine) (client : ℕ) (change : OpenCall → OpenCall) → AreMade m → KeepsMade change → AreMade (with_step m client change)
step_taken m client change h keeps =
    client_changed m client (record (m.clients client) { open_call = option_map (λ (current : OpenCall). record (change current) { has_begun = true }) (m.clients client).open_call }) h
    (record { descriptors = (h.clients client).descriptors; open_call = by_call (m.clients client).open_call (h.clients client).open_call })
  where
    by_call : (o : Option OpenCall) → IsMadeCall o → IsMadeCall (option_map (λ (current : OpenCall). record (change current) { has_begun = true }) o)
    by_call None made = tt
    by_call (Some c) made = keeps c made

outcome_taken : (m : Machine) (client : ℕ) (outcome : Outcome) → AreMade m → IsMadeOutcome outcome → AreMade (with_outcome m client outcome)
outcome_taken m client outcome h new = step_taken m client (λ current. record current { outcomes = outcome ∷ current.outcomes }) h (λ c made. (made.0, (new, made.1)))

performs : (m : Machine) (c : Call) (moment : ℕ) → AreMade m → AreMade (performed m c moment)
performs m (call.Mkdir p) moment h = record { names = inserted m.names p Dir tt h.names; clients = h.clients }
performs m (call.Rmdir p) moment h = record { names = removed m.names p h.names; clients = h.clients }
performs m (call.Create p shape) moment h = record { names = inserted m.names p (File (suc m.file_count)) (omega arith) h.names; clients = h.clients }
performs m (call.Delete p) moment h = record { names = hid m.names p moment (node_at m.names p) (h.names p) h.names; clients = h.clients }
performs m (call.Rename p q) moment h = record { names = renamed (map.remove m.names p) q (node_at m.names p) (h.names p) (removed m.names p h.names); clients = h.clients }
performs m (call.Snapshot p q) moment h = record { names = copied m.names (suc m.file_count) (copied_entries m.names p q) (omega arith) h.names; clients = h.clients }
performs m other moment h = h

steps : (m : Machine) (client moment : ℕ) (outcome : Outcome) (current : OpenCall) → AreMade m → IsMadeOutcome outcome → AreMade (stepped m client moment outcome current)
steps m client moment outcome current h new =
    elim (is_refused outcome) as (λ b. AreMade (with_outcome (cond b m (performed m current.asked.call moment)) client outcome)) [
      | true ↦ outcome_taken m client outcome h new
      | false ↦ outcome_taken (performed m current.asked.call moment) client outcome (performs m current.asked.call moment h) new
    ]

-- a call is made, or answered

asked_made : (state : Client) (c : Call) → AreMadeOf state → IsMadeFile (file_of state c)
asked_made state (call.Close fd) h = h.descriptors fd.0
asked_made state (call.Length fd) h = h.descriptors fd.0
asked_made state (call.Write fd offset bytes) h = h.descriptors fd.0
asked_made state (call.Append fd bytes) h = h.descriptors fd.0
asked_made state (call.Read fd offset count) h = h.descriptors fd.0
asked_made state other h = tt

left_made : (descriptors : ℕ → Option ℕ) (c : Call) (reply : Answer) → ((fd : ℕ) → IsMadeFile (descriptors fd)) → (fd : ℕ) → IsMadeFile (descriptors_after descriptors c reply fd)
left_made descriptors (call.Close fd) answer.Done h = put_keeps IsMadeFile fd.0 None descriptors tt h
left_made descriptors c reply h = h

began_made : (number : ℕ) (o : Option OpenCall) → IsMadeCall o → IsMadeCall (begun_call number o)
began_made number None h = tt
began_made number (Some c) h = cond_keeps (λ x. IsMadeCall (Some x)) (c.number == number) (record c { has_begun = true }) c h h

made_outcomes : (m : Machine) (client : ℕ) (current : OpenCall) → AreMade m → IsOpen m client current → AllByRecursion IsMadeOutcome current.outcomes
made_outcomes m client current h is = let k : IsMadeCall (Some current) = subst IsMadeCall is (h.clients client).open_call in k.1

made_step : (m : Machine) (action : Action) → Allows m action → AreMade m → AreMade (after m action)
made_step m (Invoke client asked) a h =
    client_changed m client _ h (record { descriptors = (h.clients client).descriptors; open_call = (asked_made (m.clients client) asked (h.clients client), tt) })
made_step m (Return client reply) a h =
    at_some AreMade (λ current. returned m client current reply) m _ a.0 a.1
    (client_changed m client _ h (record { descriptors = left_made (m.clients client).descriptors (a.0).asked.call reply (h.clients client).descriptors; open_call = tt }))
made_step m (ReturnFd client fd file) a h =
    client_changed m client _ h
    (record {
      descriptors = put_keeps IsMadeFile fd (Some file) (m.clients client).descriptors (contained IsMadeOutcome (a.0).outcomes (Opens file) (made_outcomes m client a.0 h a.1) a.2.0) (h.clients client).descriptors;
      open_call = tt;
    })
made_step m (Step client moment outcome) a h =
    at_some AreMade (λ current. stepped m client moment outcome current) m _ a.0 a.1
    (steps m client moment outcome a.0 h (subst IsMadeOutcome (sym a.2.2) (by_made m.names (a.0).asked.call (refusal_of m.config m.names (a.0).asked.call) h.names)))
made_step m (FindBusy client holder) a h = outcome_taken m client (Replies (answer.Refused Busy)) h tt
made_step m (FindFull client) a h = outcome_taken m client (Replies (answer.Refused NamesFull)) h tt
made_step m (Lock client) a h = step_taken m client (λ current. record current { has_locks = true }) h (λ c made. made)
made_step m (Expire file moment) a h = record { names = removed m.names (hidden_name moment file) h.names; clients = h.clients }
made_step m (Add id) a h =
    at_some AreMade (chunk_added m id) m (asked_file m id) a.1 (asked_is m id a.0 a.1 a.2.0 a.2.1)
    (record {
      names = h.names;
      clients = put_keeps AreMadeOf id.client _ m.clients
          (record { descriptors = (h.clients id.client).descriptors; open_call = began_made id.number (m.clients id.client).open_call (h.clients id.client).open_call }) h.clients;
    })
made_step m (OpenRound file index round) a h = record { names = h.names; clients = h.clients }
made_step m (CloseRound file index) a h = record { names = h.names; clients = h.clients }
made_step m (Place client file index mutation) a h =
    at_some AreMade (λ current. placed m client current file index mutation) m _ a.0 a.1 (step_taken _ client (λ c. c) (record { names = h.names; clients = h.clients }) (λ c made. made))
made_step m (Settle file index place) a h = record { names = h.names; clients = h.clients }
made_step m (Tell client file index) a h = step_taken m client (λ c. record c { offers = offer_of m file index ∷ c.offers }) h (λ c made. made)
made_step m (Note client file index round count) a h =
    step_taken (with_client m client (record (m.clients client) { notes = put file (put index (Some round) ((m.clients client).notes file)) (m.clients client).notes })) client (λ c. c)
    (client_changed m client _ h (record { descriptors = (h.clients client).descriptors; open_call = (h.clients client).open_call })) (λ c made. made)
made_step m (Look client file index least last chosen) a h =
    at_some AreMade (λ current. looked m client current file index least chosen) m _ a.0 a.1
    (step_taken m client (λ c. record c { pieces = record { index = index; bytes = read_slice (chunk_size m file) index (a.0).asked.call chosen; round = Some least } ∷ c.pieces }) h (λ c made. made))
made_step m (LookPast client index) a h = step_taken m client (λ c. record c { pieces = record { index = index; bytes = []; round = None } ∷ c.pieces }) h (λ c made. made)
made_step m (Measure client file index told least last chosen) a h =
    step_taken m client (λ c. record c { lengths = (index * chunk_size m file + image_length (mutations_of chosen)) ∷ c.lengths }) h (λ c made. made)
made_step m (MeasureNone client) a h = step_taken m client (λ c. record c { lengths = 0 ∷ c.lengths }) h (λ c made. made)
made_step m (Pass moment) a h = record { names = h.names; clients = h.clients }

first_made : AreMadeNames first_names
first_made = inserted _ root Dir tt (inserted _ trash Dir tt (λ q. subst IsMadeNode (sym (map.get-empty (slice_cmp nat_cmp) q)) tt))

-- the file of an open call
pub asked_files_are_made : (config : Config) (m : Machine) → IsReached config m → (client : ℕ) (o : OpenCall) → IsOpen m client o → (file : ℕ) → o.asked.file ≡ Some file → 1 ≤ file
asked_files_are_made config m reached client o is file asked =
    let made : AreMade m =
    kept_to AreMade made_step (new_machine config) m reached
    (record { names = λ path. first_made path; clients = λ client. record { descriptors = λ fd. tt; open_call = tt } }) in
    let now : IsMadeCall (Some o) = subst IsMadeCall is (made.clients client).open_call in
    subst IsMadeFile asked now.0
