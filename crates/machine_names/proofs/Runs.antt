-- Each action of a run by names keeps every file without a chunk.
use Rattle.std.proofs.Common.{◌≡◌, ℕ, suc, ◌<◌, Bool, true, false, cond, List, [], ◌∷◌, ◌++◌, Option, Some, None, refl, sym, ap, subst, ◌∙◌, arith}
use Rattle.std.specs.Prelude.{◌==◌, ◌&&◌, option_map, unwrap_or}
use Rattle.std.specs.List.{list_all}
use Rattle.std.proofs.lemmas.List.Elements.{filter_map-append}
use Rattle.std.proofs.lemmas.Bool.{true≢false, and_parts, and_from}
use Rattle.gfs_types.specs.declared.call.Call.{Call}
use Rattle.gfs_types.specs.declared.call.Call.TheVariants as call
use Rattle.gfs_types.specs.Paths.{Path}
use Rattle.relaxed_file.specs.Names.{Node, Dir, File, copied_entries, id_after}
use Rattle.relaxed_file.specs.Machine.{Machine, FileState, OpenCall, put, new_machine}
use Rattle.relaxed_file.specs.NameStep.{AllRoundsClosed, AreRoundsClosed, is_refused, performed, stepped, with_copied_file, with_copied_files, made_file}
use Rattle.relaxed_file.specs.Answers.{returned}
use Rattle.relaxed_file.specs.Run.{Action, Invoke, Return, ReturnFd, Step, FindBusy, FindFull, Lock, Expire, Pass, IsLawful, shown, after, after_all}
use Rattle.relaxed_file.proofs.Reached.{lawful_after, after_all-append}
use Rattle.machine_names.specs.NameRuns.{is_name_action, LeadsByNames, NameRunsHaveNoChunks, NameRunsCloseAllRounds, NameRunsGoOn}

-- no file has a chunk
abbrev HaveNone : (ℕ → FileState) → Type 0
HaveNone files = (file : ℕ) → (files file).chunk_count ≡ 0

put_none : (files : ℕ → FileState) (file : ℕ) (state : FileState) → state.chunk_count ≡ 0 → HaveNone files → HaveNone (put file state files)
put_none files file state none h k = by_key (k == file)
  where
    by_key : (b : Bool) → (cond b state (files k)).chunk_count ≡ 0
    by_key true = none
    by_key false = h k

copied_none : (es : List (Path × Node)) (files : ℕ → FileState) (next : ℕ) → HaveNone files → HaveNone (with_copied_files files next es)
copied_none [] files next h = h
copied_none (e ∷ es) files next h = copied_none es (with_copied_file files next e.1) (id_after next e.1) (by_node e.1)
  where
    by_node : (n : Node) → HaveNone (with_copied_file files next n)
    by_node Dir = h
    by_node (File id) = put_none files next (files id) (h id) h

performed_none : (m : Machine) (c : Call) (moment : ℕ) → HaveNone m.files → HaveNone (performed m c moment).files
performed_none m (call.Create p shape) moment h = put_none m.files (suc m.file_count) (made_file m shape) refl h
performed_none m (call.Snapshot p q) moment h = copied_none (copied_entries m.names p q) m.files (suc m.file_count) h
performed_none m other moment h = h

stepped_none : (m : Machine) (client : ℕ) (current : OpenCall) (moment : ℕ) (refused : Bool) → HaveNone m.files → HaveNone (cond refused m (performed m current.asked.call moment)).files
stepped_none m client current moment true h = h
stepped_none m client current moment false h = performed_none m current.asked.call moment h

on_open_none : (m : Machine) (o : Option OpenCall) (f : OpenCall → Machine) → ((current : OpenCall) → HaveNone (f current).files) → HaveNone m.files → HaveNone (unwrap_or (option_map f o) m).files
on_open_none m None f g h = h
on_open_none m (Some current) f g h = g current

action_none : (m : Machine) (action : Action) → is_name_action action ≡ true → HaveNone m.files → HaveNone (after m action).files
action_none m (Invoke client asked) is h = h
action_none m (Return client reply) is h = on_open_none m (m.clients client).open_call (λ current. returned m client current reply) (λ current. h) h
action_none m (ReturnFd client fd file) is h = h
action_none m (Step client moment outcome) is h =
    on_open_none m (m.clients client).open_call (λ current. stepped m client moment outcome current) (λ current. stepped_none m client current moment (is_refused outcome) h) h
action_none m (FindBusy client holder) is h = h
action_none m (FindFull client) is h = h
action_none m (Lock client) is h = h
action_none m (Expire file moment) is h = put_none m.files file (record (m.files file) { is_collected = true }) (h file) h
action_none m (Pass moment) is h = h
action_none m other is h = absurd (true≢false (sym is))

actions_none : (m : Machine) (actions : List Action) → list_all is_name_action actions ≡ true → HaveNone m.files → HaveNone (after_all m actions).files
actions_none m [] all h = h
actions_none m (action ∷ rest) all h =
    let parts = and_parts (is_name_action action) (list_all is_name_action rest) all in
    actions_none (after m action) rest parts.1 (action_none m action parts.0 h)

pub name_runs_have_no_chunks : NameRunsHaveNoChunks
name_runs_have_no_chunks config m run file = ap (λ (n : Machine). (n.files file).chunk_count) (sym run.3) ∙ actions_none (new_machine config) run.0 run.2 (λ k. refl) file

all_closed : (m : Machine) (es : List (Path × Node)) → HaveNone m.files → AllRoundsClosed m es
all_closed m [] h = tt
all_closed m (e ∷ es) h = (by_node e.1, all_closed m es h)
  where
    by_node : (n : Node) → AreRoundsClosed m n
    by_node Dir = tt
    by_node (File id) = λ index below. let none = h id in absurd (omega (arith, none, below))

pub name_runs_close_all_rounds : NameRunsCloseAllRounds
name_runs_close_all_rounds config m run from to = all_closed m (copied_entries m.names from to) (name_runs_have_no_chunks config m run)

all_both : (xs ys : List Action) → list_all is_name_action xs ≡ true → list_all is_name_action ys ≡ true → list_all is_name_action (xs ++ ys) ≡ true
all_both [] ys a b = b
all_both (x ∷ xs) ys a b =
    let parts = and_parts (is_name_action x) (list_all is_name_action xs) a in
    and_from (is_name_action x) (list_all is_name_action (xs ++ ys)) parts.0 (all_both xs ys parts.1 b)

pub name_runs_go_on : NameRunsGoOn
name_runs_go_on m k n one two = (
  (
    one.0 ++ two.0,
    lawful_after m one.0 two.0 one.1 (subst (λ (x : Machine). IsLawful x two.0) (sym one.3) two.1),
    all_both one.0 two.0 one.2 two.2,
    after_all-append m one.0 two.0 ∙ ap (λ (x : Machine). after_all x two.0) one.3 ∙ two.3,
  ),
  filter_map-append shown one.0 two.0,
)
