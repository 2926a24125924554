-- In every run each file that is named, open or asked for was made, and a file that was not made is empty. Numbers of calls and descriptors are used once.
use Rattle.std.proofs.Common.{◌≡◌, ℕ, suc, ◌+◌, ◌-◌, ◌*◌, ◌<◌, ◌≤◌, true, false, cond, List, [], ◌∷◌, Option, Some, None, refl, sym, ◌∙◌, ap, subst, arith, ⊎_elim}
use Rattle.std.specs.Prelude.{option_map, option_and_then, IsTrue, ◌==◌}
use Rattle.std.specs.List.{AllByRecursion}
use Rattle.std.specs.Ordering.{nat_cmp, eq_by_cmp}
use Rattle.std.specs.Cmp.Lexicographic.{slice_cmp, nat_list_cmp_total}
use Rattle.std.specs.FinMap as map
use Rattle.std.proofs.lemmas.Bool.{cases_lt, false≢true}
use Rattle.gfs_types.specs.declared.call.Call.{Call}
use Rattle.gfs_types.specs.declared.call.Call.TheVariants as call
use Rattle.gfs_types.specs.declared.answer.Answer.{Answer}
use Rattle.gfs_types.specs.declared.answer.Answer.TheVariants as answer
use Rattle.gfs_types.specs.declared.refusal.Refusal.{Refusal}
use Rattle.gfs_types.specs.Paths.{Path, root, trash, hidden_name}
use Rattle.relaxed_file.specs.Names.{Node, Dir, File, Names, first_names, node_at, copied_entries, with_copies, id_after, id_after_all, copy_of_node}
use Rattle.gfs_types.specs.Image.{image_length}
use Rattle.relaxed_file.specs.Order.{CallId, mutations_of}
use Rattle.relaxed_file.specs.Machine.{Machine, FileState, Chunk, new_chunk, new_file, Client, Asked, OpenCall, Outcome, Replies, Opens, chunk_at, chunk_count, chunk_size, put, with_file, with_chunk, with_client, with_step, IsOpen}
use Rattle.relaxed_file.specs.NameStep.{performed, is_refused, stepped, with_outcome, with_node, hidden, opened, done_outcome, outcome_by, outcome_of, refusal_of, with_copied_file, with_copied_files, made_file}
use Rattle.relaxed_file.specs.Chunks.{chunk_added, placed, begun, begun_call}
use Rattle.relaxed_file.specs.Reads.{looked, offer_of, read_slice}
use Rattle.relaxed_file.specs.Answers.{returned, descriptors_after}
use Rattle.relaxed_file.specs.Run.{Action, Invoke, Return, ReturnFd, Step, FindBusy, FindFull, Lock, Expire, Add, OpenRound, CloseRound, Place, Settle, Tell, Note, Look, LookPast, Measure, MeasureNone, Pass, file_of, Allows, after, asked_file}
use Rattle.relaxed_file.proofs.Tables.{cond_keeps, put_keeps, put_same, put_other, at_some, contained, all_more}
use Rattle.gfs_types.specs.declared.shape.Shape.{Shape}
use Rattle.gfs_types.specs.Shapes.{usual_shape}

-- the file is one of those before this number
abbrev pub NodeBelow : ℕ → Option Node → Type 0
NodeBelow next None = Unit {0}
NodeBelow next (Some Dir) = Unit {0}
NodeBelow next (Some (File id)) = id < next

abbrev pub AreNamesBelow : ℕ → Names → Type 0
AreNamesBelow next names = (path : Path) → NodeBelow next (node_at names path)

node_more : (next later : ℕ) (o : Option Node) → next ≤ later → NodeBelow next o → NodeBelow later o
node_more next later None l h = tt
node_more next later (Some Dir) l h = tt
node_more next later (Some (File id)) l h = omega (arith, h)

inserted : (next : ℕ) (names : Names) (path : Path) (node : Node) → NodeBelow next (Some node) → AreNamesBelow next names → AreNamesBelow next (map.insert names path node)
inserted next names path node new h q =
    subst (NodeBelow next) (sym (map.get-insert nat_list_cmp_total names path node q))
    (cond_keeps (NodeBelow next) (eq_by_cmp (slice_cmp nat_cmp) q path) (Some node) (node_at names q) new (h q))

removed : (next : ℕ) (names : Names) (path : Path) → AreNamesBelow next names → AreNamesBelow next (map.remove names path)
removed next names path h q =
    subst (NodeBelow next) (sym (map.get-remove nat_list_cmp_total names path q))
    (cond_keeps (NodeBelow next) (eq_by_cmp (slice_cmp nat_cmp) q path) None (node_at names q) tt (h q))

with_node_below : (next : ℕ) (names : Names) (path : Path) (o : Option Node) → NodeBelow next o → AreNamesBelow next names → AreNamesBelow next (with_node names path o)
with_node_below next names path None new h = h
with_node_below next names path (Some node) new h = inserted next names path node new h

hidden_below : (next : ℕ) (names : Names) (path : Path) (moment : ℕ) (o : Option Node) → NodeBelow next o → AreNamesBelow next names → AreNamesBelow next (hidden names path moment o)
hidden_below next names path moment None new h = h
hidden_below next names path moment (Some Dir) new h = h
hidden_below next names path moment (Some (File id)) new h = inserted next (map.remove names path) (hidden_name moment id) (File id) new (removed next names path h)

pub id_after_rises : (next : ℕ) (node : Node) → next ≤ id_after next node
id_after_rises next Dir = omega arith
id_after_rises next (File id) = omega arith

pub ids_rise : (next : ℕ) (entries : List (Path × Node)) → next ≤ id_after_all next entries
ids_rise next [] = omega arith
ids_rise next (e ∷ rest) = let one : next ≤ id_after next e.1 = id_after_rises next e.1 in let more : id_after next e.1 ≤ id_after_all (id_after next e.1) rest = ids_rise (id_after next e.1) rest in omega arith

copy_below : (next : ℕ) (node : Node) → NodeBelow (id_after next node) (Some (copy_of_node next node))
copy_below next Dir = tt
copy_below next (File id) = omega arith

copies_below : (names : Names) (next : ℕ) (entries : List (Path × Node)) → AreNamesBelow next names → AreNamesBelow (id_after_all next entries) (with_copies names next entries)
copies_below names next [] h = h
copies_below names next (e ∷ rest) h =
    copies_below (map.insert names e.0 (copy_of_node next e.1)) (id_after next e.1) rest
    (inserted (id_after next e.1) names e.0 (copy_of_node next e.1) (copy_below next e.1) (λ q. node_more next (id_after next e.1) (node_at names q) (id_after_rises next e.1) (h q)))

abbrev pub FileBelow : ℕ → Option ℕ → Type 0
FileBelow next None = Unit {0}
FileBelow next (Some file) = file < next

file_more : (next later : ℕ) (o : Option ℕ) → next ≤ later → FileBelow next o → FileBelow later o
file_more next later None l h = tt
file_more next later (Some file) l h = omega (arith, h)

pub file_below : (next file : ℕ) (o : Option ℕ) → o ≡ Some file → FileBelow next o → file < next
file_below next file o is h = subst (FileBelow next) is h

abbrev pub OutcomeBelow : ℕ → Outcome → Type 0
OutcomeBelow next (Replies reply) = Unit {0}
OutcomeBelow next (Opens file) = file < next

outcome_more : (next later : ℕ) (o : Outcome) → next ≤ later → OutcomeBelow next o → OutcomeBelow later o
outcome_more next later (Replies reply) l h = tt
outcome_more next later (Opens file) l h = omega (arith, h)

opened_below : (next : ℕ) (o : Option Node) → NodeBelow next o → OutcomeBelow next (opened o)
opened_below next None h = tt
opened_below next (Some Dir) h = tt
opened_below next (Some (File id)) h = h

done_below : (next : ℕ) (names : Names) (c : Call) → AreNamesBelow next names → OutcomeBelow next (done_outcome names c)
done_below next names (call.Open p) h = opened_below next (node_at names p) (h p)
done_below next names (call.List p) h = tt
done_below next names other h = tt

by_below : (next : ℕ) (names : Names) (c : Call) (o : Option Refusal) → AreNamesBelow next names → OutcomeBelow next (outcome_by names c o)
by_below next names c (Some refusal) h = tt
by_below next names c None h = done_below next names c h

abbrev pub AskedBelow : ℕ → Option Asked → Type 0
AskedBelow next None = Unit {0}
AskedBelow next (Some asked) = FileBelow next asked.file

asked_more : (next later : ℕ) (o : Option Asked) → next ≤ later → AskedBelow next o → AskedBelow later o
asked_more next later None l h = tt
asked_more next later (Some asked) l h = file_more next later asked.file l h

abbrev pub CurrentKnown : ℕ → (ℕ → Option Asked) → Option OpenCall → Type 0
CurrentKnown next calls None = Unit {0}
CurrentKnown next calls (Some current) = (calls current.number ≡ Some current.asked) × AllByRecursion (OutcomeBelow next) current.outcomes

current_more : (next later : ℕ) (calls : ℕ → Option Asked) (o : Option OpenCall) → next ≤ later → CurrentKnown next calls o → CurrentKnown later calls o
current_more next later calls None l h = tt
current_more next later calls (Some current) l h = (h.0, all_more current.outcomes (λ o g. outcome_more next later o l g) h.1)

pub record ClientKnown (next : ℕ) (state : Client) : Type 0 where
  pub descriptors : (fd : ℕ) → FileBelow next (state.descriptors fd)
  pub no_more_descriptors : (fd : ℕ) → state.fd_count < fd → state.descriptors fd ≡ None
  pub calls : (number : ℕ) → AskedBelow next (state.calls number)
  pub no_more_calls : (number : ℕ) → state.call_count < number → state.calls number ≡ None
  pub current : CurrentKnown next state.calls state.open_call

client_more : (next later : ℕ) (state : Client) → next ≤ later → ClientKnown next state → ClientKnown later state
client_more next later state l h = record {
  descriptors = λ fd. file_more next later (state.descriptors fd) l (h.descriptors fd);
  no_more_descriptors = h.no_more_descriptors;
  calls = λ number. asked_more next later (state.calls number) l (h.calls number);
  no_more_calls = h.no_more_calls;
  current = current_more next later state.calls state.open_call l h.current;
}

-- past the file's chunks there is nothing
abbrev pub FileKnown : FileState → Type 0
FileKnown file = (index : ℕ) → file.chunk_count ≤ index → file.chunks index ≡ new_chunk

pub record Known (m : Machine) : Type 0 where
  pub names : AreNamesBelow (suc m.file_count) m.names
  pub clients : (client : ℕ) → ClientKnown (suc m.file_count) (m.clients client)
  pub fresh : (file : ℕ) → m.file_count < file → m.files file ≡ new_file (usual_shape m.config)
  pub files : (file : ℕ) → FileKnown (m.files file)

-- a client's state changes
client_changed : (m : Machine) (client : ℕ) (state : Client) → Known m → ClientKnown (suc m.file_count) state → Known (with_client m client state)
client_changed m client state h new = record {
  names = h.names;
  clients = put_keeps (ClientKnown (suc m.file_count)) client state m.clients new h.clients;
  fresh = h.fresh;
  files = h.files;
}

-- a file that was made changes
file_changed : (m : Machine) (file : ℕ) (state : FileState) → Known m → file ≤ m.file_count → FileKnown state → Known (with_file m file state)
file_changed m file state h l new = record {
  names = h.names;
  clients = h.clients;
  fresh = λ k late. put_other file state m.files k (λ same. absurd (omega arith)) ∙ h.fresh k late;
  files = put_keeps FileKnown file state m.files new h.files;
}

-- one of its chunks changes
chunk_known : (file : FileState) (index : ℕ) (chunk : Chunk) → FileKnown file → index < file.chunk_count → FileKnown (record file { chunks = put index chunk file.chunks })
chunk_known file index chunk h l k late = put_other index chunk file.chunks k (λ same. absurd (omega arith)) ∙ h k late

chunk_changed : (m : Machine) (file index : ℕ) (chunk : Chunk) → Known m → file ≤ m.file_count → index < chunk_count m file → Known (with_chunk m file index chunk)
chunk_changed m file index chunk h l there = file_changed m file _ h l (chunk_known (m.files file) index chunk (h.files file) there)

-- a file with a chunk was made
pub made_by_count : (m : Machine) (file index : ℕ) → Known m → index < chunk_count m file → file ≤ m.file_count
made_by_count m file index h l = ⊎_elim
    (λ late. let none : chunk_count m file ≡ 0 = ap (λ (f : FileState). f.chunk_count) (h.fresh file late) in absurd (omega arith))
    (λ made. made) (cases_lt m.file_count file)

pub made_by_round : (m : Machine) (file index : ℕ) → Known m → IsTrue (chunk_at m file index).is_open → file ≤ m.file_count
made_by_round m file index h is = ⊎_elim
    (λ late. absurd (false≢true (sym (ap (λ (f : FileState). (f.chunks index).is_open) (h.fresh file late)) ∙ is)))
    (λ made. made) (cases_lt m.file_count file)

pub there_by_round : (m : Machine) (file index : ℕ) → Known m → IsTrue (chunk_at m file index).is_open → index < chunk_count m file
there_by_round m file index h is = ⊎_elim
    (λ there. there)
    (λ past. absurd (false≢true (sym (ap (λ (c : Chunk). c.is_open) (h.files file index past)) ∙ is))) (cases_lt index (chunk_count m file))

-- the open call changes, and is still of the same number and call
abbrev KeepsCall : ℕ → (OpenCall → OpenCall) → Type 0
KeepsCall next change = (c : OpenCall) → ((change c).number ≡ c.number) × ((change c).asked ≡ c.asked) × (AllByRecursion (OutcomeBelow next) c.outcomes → AllByRecursion (OutcomeBelow next) (change c).outcomes)

step_current : (next : ℕ) (calls : ℕ → Option Asked) (change : OpenCall → OpenCall) (o : Option OpenCall) → KeepsCall next change → CurrentKnown next calls o
    → CurrentKnown next calls (option_map (λ current. record (change current) { has_begun = true }) o)
step_current next calls change None keeps h = tt
step_current next calls change (Some c) keeps h = (ap calls (keeps c).0 ∙ h.0 ∙ ap Some (sym (keeps c).1), (keeps c).2 h.1)

step_client : (next : ℕ) (state : Client) (change : OpenCall → OpenCall) → KeepsCall next change → ClientKnown next state
    → ClientKnown next (record state { open_call = option_map (λ current. record (change current) { has_begun = true }) state.open_call })
step_client next state change keeps h = record {
  descriptors = h.descriptors;
  no_more_descriptors = h.no_more_descriptors;
  calls = h.calls;
  no_more_calls = h.no_more_calls;
  current = step_current next state.calls change state.open_call keeps h.current;
}

step_taken : (m : Machine) (client : ℕ) (change : OpenCall → OpenCall) → Known m → KeepsCall (suc m.file_count) change → Known (with_step m client change)
step_taken m client change h keeps = client_changed m client _ h (step_client (suc m.file_count) (m.clients client) change keeps (h.clients client))

outcome_known : (m : Machine) (client : ℕ) (outcome : Outcome) → Known m → OutcomeBelow (suc m.file_count) outcome → Known (with_outcome m client outcome)
outcome_known m client outcome h below = step_taken m client (λ current. record current { outcomes = outcome ∷ current.outcomes }) h (λ c. (refl, refl, λ all. (below, all)))

-- what a name call does
names_changed : (m : Machine) (names : Names) → Known m → AreNamesBelow (suc m.file_count) names → Known (record m { names = names })
names_changed m names h new = record { names = new; clients = h.clients; fresh = h.fresh; files = h.files }

pub copied_file_fresh : {new : FileState} (files : ℕ → FileState) (next : ℕ) (node : Node) → ((k : ℕ) → next ≤ k → files k ≡ new) → (k : ℕ) → id_after next node ≤ k → with_copied_file files next node k ≡ new
copied_file_fresh files next Dir h k l = h k l
copied_file_fresh files next (File id) h k l = put_other next (files id) files k (λ same. absurd (omega arith)) ∙ h k (omega arith)

copied_files_fresh : {new : FileState} (entries : List (Path × Node)) (files : ℕ → FileState) (next : ℕ) → ((k : ℕ) → next ≤ k → files k ≡ new) → (k : ℕ) → id_after_all next entries ≤ k → with_copied_files files next entries k ≡ new
copied_files_fresh [] files next h k l = h k l
copied_files_fresh (e ∷ rest) files next h k l = copied_files_fresh rest (with_copied_file files next e.1) (id_after next e.1) (copied_file_fresh files next e.1 h) k l

copied_file_known : (files : ℕ → FileState) (next : ℕ) (node : Node) → ((k : ℕ) → FileKnown (files k)) → (k : ℕ) → FileKnown (with_copied_file files next node k)
copied_file_known files next Dir h k = h k
copied_file_known files next (File id) h k = put_keeps FileKnown next (files id) files (h id) h k

copied_files_known : (entries : List (Path × Node)) (files : ℕ → FileState) (next : ℕ) → ((k : ℕ) → FileKnown (files k)) → (k : ℕ) → FileKnown (with_copied_files files next entries k)
copied_files_known [] files next h k = h k
copied_files_known (e ∷ rest) files next h k = copied_files_known rest (with_copied_file files next e.1) (id_after next e.1) (copied_file_known files next e.1 h) k

snapshot_known : (m : Machine) (entries : List (Path × Node)) → Known m → Known (Rattle.relaxed_file.specs.NameStep.snapshot_taken m entries)
snapshot_known m entries h =
    let rises : suc m.file_count ≤ id_after_all (suc m.file_count) entries = ids_rise (suc m.file_count) entries in
    let same : id_after_all (suc m.file_count) entries ≡ suc (id_after_all (suc m.file_count) entries - 1) = omega arith in
    record {
      names = subst (λ next. AreNamesBelow next (with_copies m.names (suc m.file_count) entries)) same (copies_below m.names (suc m.file_count) entries h.names);
      clients = λ client. client_more (suc m.file_count) _ (m.clients client) (omega arith) (h.clients client);
      fresh = λ file late. copied_files_fresh entries m.files (suc m.file_count) (λ k l. h.fresh k (omega arith)) file (omega arith);
      files = copied_files_known entries m.files (suc m.file_count) h.files;
    }

created : (m : Machine) (p : Path) (shape : Option Shape) (moment : ℕ) → Known m → Known (performed m (call.Create p shape) moment)
created m p shape moment h = record {
  names = inserted (suc (suc m.file_count)) m.names p (File (suc m.file_count)) (omega arith) (λ q. node_more (suc m.file_count) (suc (suc m.file_count)) (node_at m.names q) (omega arith) (h.names q));
  clients = λ client. client_more (suc m.file_count) (suc (suc m.file_count)) (m.clients client) (omega arith) (h.clients client);
  fresh = λ file late. put_other (suc m.file_count) (made_file m shape) m.files file (λ same. absurd (omega arith)) ∙ h.fresh file (omega arith);
  files = put_keeps FileKnown (suc m.file_count) (made_file m shape) m.files (λ index l. refl) h.files;
}

performed_known : (m : Machine) (c : Call) (moment : ℕ) → Known m → Known (performed m c moment)
performed_known m (call.Mkdir p) moment h = names_changed m _ h (inserted _ m.names p Dir tt h.names)
performed_known m (call.Rmdir p) moment h = names_changed m _ h (removed _ m.names p h.names)
performed_known m (call.Create p shape) moment h = created m p shape moment h
performed_known m (call.Delete p) moment h = names_changed m _ h (hidden_below _ m.names p moment (node_at m.names p) (h.names p) h.names)
performed_known m (call.Rename p q) moment h = names_changed m _ h (with_node_below _ (map.remove m.names p) q (node_at m.names p) (h.names p) (removed _ m.names p h.names))
performed_known m (call.Snapshot p q) moment h = snapshot_known m (copied_entries m.names p q) h
performed_known m other moment h = h

-- no fewer files
pub files_rise : (m : Machine) (c : Call) (moment : ℕ) → m.file_count ≤ (performed m c moment).file_count
files_rise m (call.Create p shape) moment = omega arith
files_rise m (call.Snapshot p q) moment =
    let rises : suc m.file_count ≤ id_after_all (suc m.file_count) (copied_entries m.names p q) = ids_rise (suc m.file_count) (copied_entries m.names p q) in omega arith
files_rise m other moment = omega arith

stepped_known : (m : Machine) (client moment : ℕ) (outcome : Outcome) (current : OpenCall) → Known m → OutcomeBelow (suc m.file_count) outcome → Known (stepped m client moment outcome current)
stepped_known m client moment outcome current h below =
    elim (is_refused outcome) as (λ b. Known (with_outcome (cond b m (performed m current.asked.call moment)) client outcome)) [
      | true ↦ outcome_known m client outcome h below
      | false ↦ outcome_known (performed m current.asked.call moment) client outcome (performed_known m current.asked.call moment h)
          (let more : m.file_count ≤ (performed m current.asked.call moment).file_count = files_rise m current.asked.call moment in outcome_more _ _ outcome (omega arith) below)
    ]

-- a call is made
file_of_below : (next : ℕ) (state : Client) (c : Call) → ClientKnown next state → FileBelow next (file_of state c)
file_of_below next state (call.Close fd) h = h.descriptors fd.0
file_of_below next state (call.Length fd) h = h.descriptors fd.0
file_of_below next state (call.Write fd offset bytes) h = h.descriptors fd.0
file_of_below next state (call.Append fd bytes) h = h.descriptors fd.0
file_of_below next state (call.Read fd offset count) h = h.descriptors fd.0
file_of_below next state other h = tt

invoked_known : (next : ℕ) (state : Client) (asked : Asked) → ClientKnown next state → FileBelow next asked.file
    → ClientKnown next (record state {
      call_count = suc state.call_count;
      calls = put (suc state.call_count) (Some asked) state.calls;
      open_call = Some (record { number = suc state.call_count; asked = asked; has_begun = false; has_locks = false; outcomes = []; offers = []; pieces = []; lengths = [] });
    })
invoked_known next state asked h below = record {
  descriptors = h.descriptors;
  no_more_descriptors = h.no_more_descriptors;
  calls = put_keeps (AskedBelow next) (suc state.call_count) (Some asked) state.calls below h.calls;
  no_more_calls = λ number late. put_other (suc state.call_count) (Some asked) state.calls number (λ same. absurd (omega arith)) ∙ h.no_more_calls number (omega arith);
  current = (put_same (suc state.call_count) (Some asked) state.calls, tt);
}

-- a call is answered
descriptors_below : (next : ℕ) (descriptors : ℕ → Option ℕ) (c : Call) (reply : Answer) → ((fd : ℕ) → FileBelow next (descriptors fd)) → (fd : ℕ) → FileBelow next (descriptors_after descriptors c reply fd)
descriptors_below next descriptors (call.Close fd) answer.Done h = put_keeps (FileBelow next) fd.0 None descriptors tt h
descriptors_below next descriptors c reply h = h

descriptors_end : (descriptors : ℕ → Option ℕ) (count : ℕ) (c : Call) (reply : Answer) → ((fd : ℕ) → count < fd → descriptors fd ≡ None) → (fd : ℕ) → count < fd → descriptors_after descriptors c reply fd ≡ None
descriptors_end descriptors count (call.Close fd) answer.Done h k l = cond_keeps (λ o. o ≡ None) (k == fd.0) None (descriptors k) refl (h k l)
descriptors_end descriptors count c reply h k l = h k l

returned_known : (m : Machine) (client : ℕ) (current : OpenCall) (reply : Answer) → Known m → Known (returned m client current reply)
returned_known m client current reply h = client_changed m client _ h (record {
  descriptors = descriptors_below _ (m.clients client).descriptors current.asked.call reply (h.clients client).descriptors;
  no_more_descriptors = descriptors_end (m.clients client).descriptors (m.clients client).fd_count current.asked.call reply (h.clients client).no_more_descriptors;
  calls = (h.clients client).calls;
  no_more_calls = (h.clients client).no_more_calls;
  current = tt;
})

-- a call that is in progress, or was ended
begun_known : (next : ℕ) (calls : ℕ → Option Asked) (number : ℕ) (o : Option OpenCall) → CurrentKnown next calls o → CurrentKnown next calls (begun_call number o)
begun_known next calls number None h = tt
begun_known next calls number (Some current) h = cond_keeps (λ c. CurrentKnown next calls (Some c)) (current.number == number) (record current { has_begun = true }) current h h

added_known : (m : Machine) (id : CallId) (file : ℕ) → Known m → file ≤ m.file_count → Known (chunk_added m id file)
added_known m id file h l =
    let started : Known (begun m id) = client_changed m id.client _ h (record {
      descriptors = (h.clients id.client).descriptors;
      no_more_descriptors = (h.clients id.client).no_more_descriptors;
      calls = (h.clients id.client).calls;
      no_more_calls = (h.clients id.client).no_more_calls;
      current = begun_known _ (m.clients id.client).calls id.number (m.clients id.client).open_call (h.clients id.client).current;
    }) in
    file_changed (begun m id) file _ started l (λ k late. put_other (chunk_count m file) new_chunk (m.files file).chunks k (λ same. absurd (omega arith)) ∙ h.files file k (omega arith))

pub asked_is : (m : Machine) (id : CallId) (asked : Asked) (file : ℕ) → (m.clients id.client).calls id.number ≡ Some asked → asked.file ≡ Some file → asked_file m id ≡ Some file
asked_is m id asked file is on = ap (option_and_then (λ (a : Asked). a.file)) is ∙ on

pub asked_made : (m : Machine) (client number : ℕ) (asked : Asked) (file : ℕ) → Known m → (m.clients client).calls number ≡ Some asked → asked.file ≡ Some file → file ≤ m.file_count
asked_made m client number asked file h is on =
    let l : file < suc m.file_count = file_below _ file asked.file on (subst (AskedBelow (suc m.file_count)) is ((h.clients client).calls number)) in omega arith

current_outcomes : (m : Machine) (client : ℕ) (current : OpenCall) → Known m → IsOpen m client current → AllByRecursion (OutcomeBelow (suc m.file_count)) current.outcomes
current_outcomes m client current h is = let k : CurrentKnown (suc m.file_count) (m.clients client).calls (Some current) = subst (CurrentKnown _ (m.clients client).calls) is (h.clients client).current in k.1

same_call : (next : ℕ) (c : OpenCall) → AllByRecursion (OutcomeBelow next) c.outcomes → AllByRecursion (OutcomeBelow next) c.outcomes
same_call next c all = all

pub known_step : (m : Machine) (action : Action) → Allows m action → Known m → Known (after m action)
known_step m (Invoke client asked) a h = client_changed m client _ h (invoked_known _ (m.clients client) _ (h.clients client) (file_of_below _ (m.clients client) asked (h.clients client)))
known_step m (Return client reply) a h = at_some Known (λ current. returned m client current reply) m _ a.0 a.1 (returned_known m client a.0 reply h)
known_step m (ReturnFd client fd file) a h = client_changed m client _ h (record {
  descriptors = put_keeps (FileBelow _) fd (Some file) (m.clients client).descriptors (contained (OutcomeBelow _) (a.0).outcomes (Opens file) (current_outcomes m client a.0 h a.1) a.2.0) (h.clients client).descriptors;
  no_more_descriptors = λ k late. let is : fd ≡ suc (m.clients client).fd_count = a.2.1 in put_other fd (Some file) (m.clients client).descriptors k (λ same. absurd (omega arith)) ∙ (h.clients client).no_more_descriptors k (omega arith);
  calls = (h.clients client).calls;
  no_more_calls = (h.clients client).no_more_calls;
  current = tt;
})
known_step m (Step client moment outcome) a h = at_some Known (λ current. stepped m client moment outcome current) m _ a.0 a.1
    (stepped_known m client moment outcome a.0 h (subst (OutcomeBelow (suc m.file_count)) (sym a.2.2) (by_below _ m.names (a.0).asked.call (refusal_of m.config m.names (a.0).asked.call) h.names)))
known_step m (FindBusy client holder) a h = outcome_known m client _ h tt
known_step m (FindFull client) a h = outcome_known m client _ h tt
known_step m (Lock client) a h = step_taken m client (λ current. record current { has_locks = true }) h (λ c. (refl, refl, λ all. all))
known_step m (Expire file moment) a h =
    let below : file < suc m.file_count = subst (NodeBelow (suc m.file_count)) a.0 (h.names (hidden_name moment file)) in
    file_changed (record m { names = map.remove m.names (hidden_name moment file) }) file _ (names_changed m _ h (removed _ m.names (hidden_name moment file) h.names)) (omega arith) (h.files file)
known_step m (Add id) a h = at_some Known (chunk_added m id) m (asked_file m id) a.1 (asked_is m id a.0 a.1 a.2.0 a.2.1)
    (added_known m id a.1 h (asked_made m id.client id.number a.0 a.1 h a.2.0 a.2.1))
known_step m (OpenRound file index round) a h = chunk_changed m file index _ h (made_by_count m file index h a.0) a.0
known_step m (CloseRound file index) a h = chunk_changed m file index _ h (made_by_round m file index h a) (there_by_round m file index h a)
known_step m (Place client file index mutation) a h = at_some Known (λ current. placed m client current file index mutation) m _ a.0 a.1
    (step_taken _ client (λ c. c) (chunk_changed m file index _ h (made_by_count m file index h a.2.1) a.2.1) (λ c. (refl, refl, λ all. all)))
known_step m (Settle file index place) a h = chunk_changed m file index _ h (made_by_round m file index h a.0) (there_by_round m file index h a.0)
known_step m (Tell client file index) a h = step_taken m client (λ c. record c { offers = offer_of m file index ∷ c.offers }) h (λ c. (refl, refl, λ all. all))
known_step m (Note client file index round count) a h =
    step_taken (with_client m client (record (m.clients client) { notes = put file (put index (Some round) ((m.clients client).notes file)) (m.clients client).notes })) client (λ c. c)
    (client_changed m client _ h (record {
      descriptors = (h.clients client).descriptors;
      no_more_descriptors = (h.clients client).no_more_descriptors;
      calls = (h.clients client).calls;
      no_more_calls = (h.clients client).no_more_calls;
      current = (h.clients client).current;
    })) (λ c. (refl, refl, λ all. all))
known_step m (Look client file index least last chosen) a h = at_some Known (λ current. looked m client current file index least chosen) m _ a.0 a.1
    (step_taken m client (λ c. record c { pieces = record { index = index; bytes = read_slice (chunk_size m file) index (a.0).asked.call chosen; round = Some least } ∷ c.pieces }) h (λ c. (refl, refl, λ all. all)))
known_step m (LookPast client index) a h = step_taken m client (λ c. record c { pieces = record { index = index; bytes = []; round = None } ∷ c.pieces }) h (λ c. (refl, refl, λ all. all))
known_step m (Measure client file index told least last chosen) a h = step_taken m client (λ c. record c { lengths = (index * chunk_size m file + image_length (mutations_of chosen)) ∷ c.lengths }) h (λ c. (refl, refl, λ all. all))
known_step m (MeasureNone client) a h = step_taken m client (λ c. record c { lengths = 0 ∷ c.lengths }) h (λ c. (refl, refl, λ all. all))
known_step m (Pass moment) a h = record { names = h.names; clients = h.clients; fresh = h.fresh; files = h.files }

-- the first names are directories
pub first_below : AreNamesBelow 1 first_names
first_below = inserted 1 _ root Dir tt (inserted 1 _ trash Dir tt (λ q. subst (NodeBelow 1) (sym (map.get-empty (slice_cmp nat_cmp) q)) tt))
