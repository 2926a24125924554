-- What a machine keeps while it goes on: orders only get entries at their end, and entries only become settled; rounds, counts and the clock never fall; calls and descriptors keep their meaning.
use Rattle.std.proofs.Common.{◌≡◌, ℕ, zero, suc, ◌+◌, ◌*◌, ◌<◌, ◌≤◌, true, false, cond, List, [], ◌∷◌, ◌++◌, Option, Some, None, refl, sym, ◌∙◌, subst, inl, inr, arith, ◌⊎◌}
use Rattle.std.specs.Prelude.{option_map, IsTrue, ◌==◌}
use Rattle.std.proofs.lemmas.Bool.{false≢true}
use Rattle.std.proofs.lemmas.Option.{none-some}
use Rattle.gfs_types.specs.declared.call.Call.{Call}
use Rattle.gfs_types.specs.declared.call.Call.TheVariants as call
use Rattle.gfs_types.specs.declared.answer.Answer.{Answer}
use Rattle.gfs_types.specs.declared.answer.Answer.TheVariants as answer
use Rattle.gfs_types.specs.declared.config.Config.{Config}
use Rattle.gfs_types.specs.Paths.{Path}
use Rattle.gfs_types.specs.Image.{image_length}
use Rattle.relaxed_file.specs.Names.{Node, Dir, File, copied_entries, id_after}
use Rattle.relaxed_file.specs.Order.{CallId, Entry, mutations_of}
use Rattle.relaxed_file.specs.Machine.{Machine, FileState, Chunk, new_chunk, new_file, new_machine, Client, Asked, OpenCall, Outcome, chunk_at, chunk_count, chunk_size, put, with_file, with_chunk, with_client, with_step}
use Rattle.relaxed_file.specs.NameStep.{performed, is_refused, stepped, with_outcome, with_copied_file, with_copied_files, made_file}
use Rattle.relaxed_file.specs.Chunks.{chunk_added, placed, settled_at, begun, begun_call, with_entry}
use Rattle.relaxed_file.specs.Reads.{looked, offer_of, read_slice}
use Rattle.relaxed_file.specs.Answers.{returned, descriptors_after}
use Rattle.relaxed_file.specs.Run.{Action, Invoke, Return, ReturnFd, Step, FindBusy, FindFull, Lock, Expire, Add, OpenRound, CloseRound, Place, Settle, Tell, Note, Look, LookPast, Measure, MeasureNone, Pass, Allows, after, asked_file, LeadsTo, IsReached}
use Rattle.relaxed_file.proofs.Reached.{kept_to}
use Rattle.relaxed_file.proofs.Tables.{cond_keeps, put_other, put_at, at_some}
use Rattle.relaxed_file.proofs.Known.{Known, known_step, first_below, asked_is, copied_file_fresh, files_rise}
use Rattle.gfs_types.specs.declared.shape.Shape.{Shape}

-- the same entry, perhaps settled since
abbrev pub EntryGrows : Entry → Entry → Type 0
EntryGrows e f = (e.call ≡ f.call) × (e.round ≡ f.round) × (e.mutation ≡ f.mutation) × (IsTrue e.settled → IsTrue f.settled)

abbrev pub OrderGrows : List Entry → List Entry → Type 0
OrderGrows [] later = Unit {0}
OrderGrows (e ∷ rest) [] = ⊥
OrderGrows (e ∷ rest) (f ∷ more) = EntryGrows e f × OrderGrows rest more

pub same_entry : (e : Entry) → EntryGrows e e
same_entry e = (refl, refl, refl, λ s. s)

pub same_order : (order : List Entry) → OrderGrows order order
same_order [] = tt
same_order (e ∷ rest) = (same_entry e, same_order rest)

entry_on : (e f g : Entry) → EntryGrows e f → EntryGrows f g → EntryGrows e g
entry_on e f g a b = (a.0 ∙ b.0, a.1 ∙ b.1, a.2 ∙ b.2, λ s. b.3 (a.3 s))

pub order_on : (a b c : List Entry) → OrderGrows a b → OrderGrows b c → OrderGrows a c
order_on [] b c h g = tt
order_on (e ∷ a) [] c h g = absurd h
order_on (e ∷ a) (f ∷ b) [] h g = absurd g
order_on (e ∷ a) (f ∷ b) (x ∷ c) h g = (entry_on e f x h.0 g.0, order_on a b c h.1 g.1)

pub order_longer : (order more : List Entry) → OrderGrows order (order ++ more)
order_longer [] more = tt
order_longer (e ∷ rest) more = (same_entry e, order_longer rest more)

pub order_settled : (place : ℕ) (order : List Entry) → OrderGrows order (settled_at place order)
order_settled place [] = tt
order_settled zero (e ∷ rest) = ((refl, refl, refl, λ s. refl), same_order rest)
order_settled (suc place) (e ∷ rest) = (same_entry e, order_settled place rest)

pub record ChunkGrows (old new : Chunk) : Type 0 where
  pub order : OrderGrows old.order new.order
  pub round : old.round ≤ new.round

pub record FileGrows (old new : FileState) : Type 0 where
  pub count : old.chunk_count ≤ new.chunk_count
  pub chunks : (index : ℕ) → ChunkGrows (old.chunks index) (new.chunks index)
  pub collected : IsTrue old.is_collected → IsTrue new.is_collected

-- the call that is open now is one made since, or the one that was open before
abbrev pub IsSameCall : Option OpenCall → OpenCall → Type 0
IsSameCall None c = ⊥
IsSameCall (Some b) c = (b.number ≡ c.number) × (b.asked ≡ c.asked)

abbrev pub OpenGrows : ℕ → Option OpenCall → Option OpenCall → Type 0
OpenGrows count old None = Unit {0}
OpenGrows count old (Some c) = (count < c.number) ⊎ IsSameCall old c

pub record ClientGrows (old new : Client) : Type 0 where
  pub call_count : old.call_count ≤ new.call_count
  pub calls : (number : ℕ) (asked : Asked) → old.calls number ≡ Some asked → new.calls number ≡ Some asked
  pub fd_count : old.fd_count ≤ new.fd_count
  pub descriptors : (fd file : ℕ) → fd ≤ old.fd_count → new.descriptors fd ≡ Some file → old.descriptors fd ≡ Some file
  pub open_call : OpenGrows old.call_count old.open_call new.open_call

pub record Grows (m n : Machine) : Type 0 where
  pub config : n.config ≡ m.config
  pub clock : m.clock ≤ n.clock
  pub file_count : m.file_count ≤ n.file_count
  pub files : (file : ℕ) → FileGrows (m.files file) (n.files file)
  pub clients : (client : ℕ) → ClientGrows (m.clients client) (n.clients client)

same_chunk : (c : Chunk) → ChunkGrows c c
same_chunk c = record { order = same_order c.order; round = omega arith }

chunk_on : (a b c : Chunk) → ChunkGrows a b → ChunkGrows b c → ChunkGrows a c
chunk_on a b c h g = record { order = order_on a.order b.order c.order h.order g.order; round = omega (arith, h.round, g.round) }

pub same_file : (f : FileState) → FileGrows f f
same_file f = record { count = omega arith; chunks = λ index. same_chunk (f.chunks index); collected = λ h. h }

pub file_on : (a b c : FileState) → FileGrows a b → FileGrows b c → FileGrows a c
file_on a b c h g = record {
  count = omega (arith, h.count, g.count);
  chunks = λ index. chunk_on (a.chunks index) (b.chunks index) (c.chunks index) (h.chunks index) (g.chunks index);
  collected = λ is. g.collected (h.collected is);
}

same_open : (count : ℕ) (o : Option OpenCall) → OpenGrows count o o
same_open count None = tt
same_open count (Some c) = inr (refl, refl)

-- a step of the open call keeps its number and what was asked
abbrev KeepsCall : (OpenCall → OpenCall) → Type 0
KeepsCall change = (c : OpenCall) → (c.number ≡ (change c).number) × (c.asked ≡ (change c).asked)

open_step : (count : ℕ) (change : OpenCall → OpenCall) (o : Option OpenCall) → KeepsCall change → OpenGrows count o (option_map (λ current. record (change current) { has_begun = true }) o)
open_step count change None keeps = tt
open_step count change (Some c) keeps = inr (keeps c)

open_begun : (count number : ℕ) (o : Option OpenCall) → OpenGrows count o (begun_call number o)
open_begun count number None = tt
open_begun count number (Some c) = cond_keeps (λ d. OpenGrows count (Some c) (Some d)) (c.number == number) (record c { has_begun = true }) c (inr (refl, refl)) (inr (refl, refl))

same_call_on : (a : Option OpenCall) (b c : OpenCall) → IsSameCall a b → IsSameCall (Some b) c → IsSameCall a c
same_call_on None b c h g = absurd h
same_call_on (Some x) b c h g = (h.0 ∙ g.0, h.1 ∙ g.1)

later_open_on : (a_count : ℕ) (a : Option OpenCall) (b c : OpenCall) → OpenGrows a_count a (Some b) → IsSameCall (Some b) c → OpenGrows a_count a (Some c)
later_open_on a_count a b c (inl late) same = inl (let e : b.number ≡ c.number = same.0 in omega arith)
later_open_on a_count a b c (inr h) same = inr (same_call_on a b c h same)

open_on : (a_count b_count : ℕ) (a b c : Option OpenCall) → a_count ≤ b_count → OpenGrows a_count a b → OpenGrows b_count b c → OpenGrows a_count a c
open_on a_count b_count a b None l h g = tt
open_on a_count b_count a b (Some c) l h (inl late) = inl (omega arith)
open_on a_count b_count a None (Some c) l h (inr same) = absurd same
open_on a_count b_count a (Some b) (Some c) l h (inr same) = later_open_on a_count a b c h same

pub same_client : (c : Client) → ClientGrows c c
same_client c = record { call_count = omega arith; calls = λ number asked is. is; fd_count = omega arith; descriptors = λ fd file l is. is; open_call = same_open c.call_count c.open_call }

pub client_on : (a b c : Client) → ClientGrows a b → ClientGrows b c → ClientGrows a c
client_on a b c h g = record {
  call_count = omega (arith, h.call_count, g.call_count);
  calls = λ number asked is. g.calls number asked (h.calls number asked is);
  fd_count = omega (arith, h.fd_count, g.fd_count);
  descriptors = λ fd file l is. h.descriptors fd file l (g.descriptors fd file (omega (arith, l, h.fd_count)) is);
  open_call = open_on a.call_count b.call_count a.open_call b.open_call c.open_call h.call_count h.open_call g.open_call;
}

pub same_machine : (m : Machine) → Grows m m
same_machine m = record { config = refl; clock = omega arith; file_count = omega arith; files = λ file. same_file (m.files file); clients = λ client. same_client (m.clients client) }

pub machine_on : (a b c : Machine) → Grows a b → Grows b c → Grows a c
machine_on a b c h g = record {
  config = g.config ∙ h.config;
  clock = omega (arith, h.clock, g.clock);
  file_count = omega (arith, h.file_count, g.file_count);
  files = λ file. file_on (a.files file) (b.files file) (c.files file) (h.files file) (g.files file);
  clients = λ client. client_on (a.clients client) (b.clients client) (c.clients client) (h.clients client) (g.clients client);
}

-- all that a new file can become
new_file_grows : {shape : Shape} (old new : FileState) → old ≡ new_file shape → FileGrows old new
new_file_grows old new is = subst (λ f. FileGrows f new) (sym is) (record {
  count = omega arith;
  chunks = λ index. record { order = tt; round = omega arith };
  collected = λ h. absurd (false≢true h);
})

file_changed : (m : Machine) (file : ℕ) (state : FileState) → FileGrows (m.files file) state → Grows m (with_file m file state)
file_changed m file state new = record {
  config = refl;
  clock = omega arith;
  file_count = omega arith;
  files = put_at (λ k f. FileGrows (m.files k) f) file state m.files new (λ k. same_file (m.files k));
  clients = λ client. same_client (m.clients client);
}

client_changed : (m : Machine) (client : ℕ) (state : Client) → ClientGrows (m.clients client) state → Grows m (with_client m client state)
client_changed m client state new = record {
  config = refl;
  clock = omega arith;
  file_count = omega arith;
  files = λ file. same_file (m.files file);
  clients = put_at (λ k c. ClientGrows (m.clients k) c) client state m.clients new (λ k. same_client (m.clients k));
}

chunk_changed : (m : Machine) (file index : ℕ) (chunk : Chunk) → ChunkGrows (chunk_at m file index) chunk → Grows m (with_chunk m file index chunk)
chunk_changed m file index chunk new = file_changed m file _ (record {
  count = omega arith;
  chunks = put_at (λ k c. ChunkGrows ((m.files file).chunks k) c) index chunk (m.files file).chunks new (λ k. same_chunk ((m.files file).chunks k));
  collected = λ h. h;
})

-- a step that changes what came of an open call
step_taken : (m : Machine) (client : ℕ) (change : OpenCall → OpenCall) → KeepsCall change → Grows m (with_step m client change)
step_taken m client change keeps = client_changed m client _ (record {
  call_count = omega arith;
  calls = λ number asked is. is;
  fd_count = omega arith;
  descriptors = λ fd file l is. is;
  open_call = open_step (m.clients client).call_count change (m.clients client).open_call keeps;
})

copied_file_grows : {shape : Shape} (files : ℕ → FileState) (next : ℕ) (node : Node) → ((k : ℕ) → next ≤ k → files k ≡ new_file shape) → (k : ℕ) → FileGrows (files k) (with_copied_file files next node k)
copied_file_grows files next Dir fresh k = same_file (files k)
copied_file_grows files next (File id) fresh k = put_at (λ j f. FileGrows (files j) f) next (files id) files (new_file_grows (files next) (files id) (fresh next (omega arith))) (λ j. same_file (files j)) k

copied_files_grow : {shape : Shape} (entries : List (Path × Node)) (files : ℕ → FileState) (next : ℕ) → ((k : ℕ) → next ≤ k → files k ≡ new_file shape) → (k : ℕ) → FileGrows (files k) (with_copied_files files next entries k)
copied_files_grow [] files next fresh k = same_file (files k)
copied_files_grow (e ∷ rest) files next fresh k =
    file_on (files k) (with_copied_file files next e.1 k) _ (copied_file_grows files next e.1 fresh k)
    (copied_files_grow rest (with_copied_file files next e.1) (id_after next e.1) (copied_file_fresh files next e.1 fresh) k)

performed_grows : (m : Machine) (c : Call) (moment : ℕ) → Known m → Grows m (performed m c moment)
performed_grows m (call.Create p shape) moment h = record {
  config = refl;
  clock = omega arith;
  file_count = omega arith;
  files = put_at (λ k f. FileGrows (m.files k) f) (suc m.file_count) (made_file m shape) m.files (new_file_grows _ (made_file m shape) (h.fresh (suc m.file_count) (omega arith))) (λ k. same_file (m.files k));
  clients = λ client. same_client (m.clients client);
}
performed_grows m (call.Snapshot p q) moment h = record {
  config = refl;
  clock = omega arith;
  file_count = files_rise m (call.Snapshot p q) moment;
  files = copied_files_grow (copied_entries m.names p q) m.files (suc m.file_count) (λ k l. h.fresh k (omega arith));
  clients = λ client. same_client (m.clients client);
}
performed_grows m other moment h = record {
  config = refl;
  clock = omega arith;
  file_count = omega arith;
  files = λ file. same_file (m.files file);
  clients = λ client. same_client (m.clients client);
}

outcome_grows : (m n : Machine) (client : ℕ) (outcome : Outcome) → Grows m n → Grows m (with_outcome n client outcome)
outcome_grows m n client outcome h = machine_on m n _ h (step_taken n client (λ current. record current { outcomes = outcome ∷ current.outcomes }) (λ c. (refl, refl)))

stepped_grows : (m : Machine) (client moment : ℕ) (outcome : Outcome) (current : OpenCall) → Known m → Grows m (stepped m client moment outcome current)
stepped_grows m client moment outcome current h =
    elim (is_refused outcome) as (λ b. Grows m (with_outcome (cond b m (performed m current.asked.call moment)) client outcome)) [
      | true ↦ outcome_grows m m client outcome (same_machine m)
      | false ↦ outcome_grows m (performed m current.asked.call moment) client outcome (performed_grows m current.asked.call moment h)
    ]

invoked_grows : (state : Client) (asked : Asked) (open_call : Option OpenCall) → OpenGrows state.call_count state.open_call open_call → ((number : ℕ) → state.call_count < number → state.calls number ≡ None)
    → ClientGrows state (record state { call_count = suc state.call_count; calls = put (suc state.call_count) (Some asked) state.calls; open_call = open_call })
invoked_grows state asked open_call newer unused = record {
  call_count = omega arith;
  calls = λ number before is. put_other (suc state.call_count) (Some asked) state.calls number
      (λ same. absurd (none-some before (sym (unused number (omega arith)) ∙ is))) ∙ is;
  fd_count = omega arith;
  descriptors = λ fd file l is. is;
  open_call = newer;
}

descriptors_grow : (descriptors : ℕ → Option ℕ) (c : Call) (reply : Answer) (fd file : ℕ) → descriptors_after descriptors c reply fd ≡ Some file → descriptors fd ≡ Some file
descriptors_grow descriptors (call.Close closed) answer.Done fd file is = put_at (λ k o. o ≡ Some file → descriptors k ≡ Some file) closed.0 None descriptors (λ none. absurd (none-some file none)) (λ k there. there) fd is
descriptors_grow descriptors c reply fd file is = is

returned_grows : (m : Machine) (client : ℕ) (current : OpenCall) (reply : Answer) → Grows m (returned m client current reply)
returned_grows m client current reply = client_changed m client _ (record {
  call_count = omega arith;
  calls = λ number asked is. is;
  fd_count = omega arith;
  descriptors = λ fd file l is. descriptors_grow (m.clients client).descriptors current.asked.call reply fd file is;
  open_call = tt;
})

fd_grows : (state : Client) (fd file : ℕ) (notes : ℕ → ℕ → Option ℕ) → fd ≡ suc state.fd_count
    → ClientGrows state (record state { open_call = None; fd_count = fd; descriptors = put fd (Some file) state.descriptors; notes = notes })
fd_grows state fd file notes is = record {
  call_count = omega arith;
  calls = λ number asked there. there;
  fd_count = omega arith;
  descriptors = λ k f l there. sym (put_other fd (Some file) state.descriptors k (λ same. absurd (omega arith))) ∙ there;
  open_call = tt;
}

-- all that a new chunk can become
new_chunk_grows : (old new : Chunk) → old ≡ new_chunk → ChunkGrows old new
new_chunk_grows old new is = subst (λ c. ChunkGrows c new) (sym is) (record { order = tt; round = omega arith })

added_grows : (m : Machine) (id : CallId) (file : ℕ) → Known m → Grows m (chunk_added m id file)
added_grows m id file h = machine_on m (begun m id) _
    (client_changed m id.client _ (record { call_count = omega arith; calls = λ number asked is. is; fd_count = omega arith; descriptors = λ fd f l is. is; open_call = open_begun (m.clients id.client).call_count id.number (m.clients id.client).open_call }))
    (file_changed (begun m id) file _ (record {
      count = omega arith;
      chunks = put_at (λ k c. ChunkGrows ((m.files file).chunks k) c) (chunk_count m file) new_chunk (m.files file).chunks
          (new_chunk_grows _ new_chunk (h.files file (chunk_count m file) (omega arith))) (λ k. same_chunk ((m.files file).chunks k));
      collected = λ is. is;
    }))

pub grows_step : (m : Machine) (action : Action) → Allows m action → Known m → Grows m (after m action)
grows_step m (Invoke client asked) a h = client_changed m client _ (invoked_grows (m.clients client) _ _ (inl (omega arith)) (h.clients client).no_more_calls)
grows_step m (Return client reply) a h = at_some (Grows m) (λ current. returned m client current reply) m _ a.0 a.1 (returned_grows m client a.0 reply)
grows_step m (ReturnFd client fd file) a h = client_changed m client _ (fd_grows (m.clients client) fd file _ a.2.1)
grows_step m (Step client moment outcome) a h = at_some (Grows m) (λ current. stepped m client moment outcome current) m _ a.0 a.1 (stepped_grows m client moment outcome a.0 h)
grows_step m (FindBusy client holder) a h = outcome_grows m m client _ (same_machine m)
grows_step m (FindFull client) a h = outcome_grows m m client _ (same_machine m)
grows_step m (Lock client) a h = step_taken m client (λ current. record current { has_locks = true }) (λ c. (refl, refl))
grows_step m (Expire file moment) a h = record {
  config = refl;
  clock = omega arith;
  file_count = omega arith;
  files = put_at (λ k f. FileGrows (m.files k) f) file (record (m.files file) { is_collected = true }) m.files
      (record { count = omega arith; chunks = λ index. same_chunk ((m.files file).chunks index); collected = λ is. refl }) (λ k. same_file (m.files k));
  clients = λ client. same_client (m.clients client);
}
grows_step m (Add id) a h = at_some (Grows m) (chunk_added m id) m (asked_file m id) a.1 (asked_is m id a.0 a.1 a.2.0 a.2.1) (added_grows m id a.1 h)
grows_step m (OpenRound file index round) a h = chunk_changed m file index _ (record { order = same_order (chunk_at m file index).order; round = omega (arith, a.2) })
grows_step m (CloseRound file index) a h = chunk_changed m file index _ (record { order = same_order (chunk_at m file index).order; round = omega arith })
grows_step m (Place client file index mutation) a h = at_some (Grows m) (λ current. placed m client current file index mutation) m _ a.0 a.1
    (machine_on m (with_chunk m file index (with_entry (chunk_at m file index) (record { client = client; number = (a.0).number }) mutation)) _
    (chunk_changed m file index _ (record { order = order_longer (chunk_at m file index).order _; round = omega arith }))
    (step_taken _ client (λ c. c) (λ c. (refl, refl))))
grows_step m (Settle file index place) a h = chunk_changed m file index _ (record { order = order_settled place (chunk_at m file index).order; round = omega arith })
grows_step m (Tell client file index) a h = step_taken m client (λ c. record c { offers = offer_of m file index ∷ c.offers }) (λ c. (refl, refl))
grows_step m (Note client file index round count) a h = machine_on m (with_client m client (record (m.clients client) { notes = put file (put index (Some round) ((m.clients client).notes file)) (m.clients client).notes })) _
    (client_changed m client _ (record { call_count = omega arith; calls = λ number asked is. is; fd_count = omega arith; descriptors = λ fd f l is. is; open_call = same_open (m.clients client).call_count (m.clients client).open_call }))
    (step_taken _ client (λ c. c) (λ c. (refl, refl)))
grows_step m (Look client file index least last chosen) a h = at_some (Grows m) (λ current. looked m client current file index least chosen) m _ a.0 a.1
    (step_taken m client (λ c. record c { pieces = record { index = index; bytes = read_slice (chunk_size m file) index (a.0).asked.call chosen; round = Some least } ∷ c.pieces }) (λ c. (refl, refl)))
grows_step m (LookPast client index) a h = step_taken m client (λ c. record c { pieces = record { index = index; bytes = []; round = None } ∷ c.pieces }) (λ c. (refl, refl))
grows_step m (Measure client file index told least last chosen) a h = step_taken m client (λ c. record c { lengths = (index * chunk_size m file + image_length (mutations_of chosen)) ∷ c.lengths }) (λ c. (refl, refl))
grows_step m (MeasureNone client) a h = step_taken m client (λ c. record c { lengths = 0 ∷ c.lengths }) (λ c. (refl, refl))
grows_step m (Pass moment) a h = record {
  config = refl;
  clock = a;
  file_count = omega arith;
  files = λ file. same_file (m.files file);
  clients = λ client. same_client (m.clients client);
}

-- in every state that a run reaches, what is known is known, and from then on the machine grows
pub known_then : (m n : Machine) → LeadsTo m n → Known m → Known n
known_then m n way h = kept_to Known known_step m n way h

pub grows_to : (m n : Machine) → LeadsTo m n → Known m → Grows m n
grows_to m n way h = (kept_to (λ k. Known k × Grows m k) (λ k action allowed g. (known_step k action allowed g.0, machine_on m k _ g.1 (grows_step k action allowed g.0))) m n way (h, same_machine m)).1

pub known_at_first : (config : Config) → Known (new_machine config)
known_at_first config = record {
  names = λ path. first_below path;
  clients = λ client. record { descriptors = λ fd. tt; no_more_descriptors = λ fd l. refl; calls = λ number. tt; no_more_calls = λ number l. refl; current = tt };
  fresh = λ file l. refl;
  files = λ file index l. refl;
}

pub known_when_reached : (config : Config) (m : Machine) → IsReached config m → Known m
known_when_reached config m way = known_then (new_machine config) m way (known_at_first config)
