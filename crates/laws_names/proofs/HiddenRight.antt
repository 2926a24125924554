-- Each file that stands right in the trash has a hidden name of its own, whatever record follows.
use Rattle.std.proofs.Common.{◌≡◌, ⊎_elim, ℕ, Bool, true, false, cond, ◌++◌, Option, Some, None, sym, ap, subst, ◌∙◌}
use Rattle.std.specs.Prelude.{find}
use Rattle.std.specs.Str.{bytes_eq}
use Rattle.std.proofs.lemmas.Option.{none-some}
use Rattle.std.proofs.lemmas.Bool.{true≢false, or_right, and_parts}
use Rattle.std.specs.FinMap as table
use Rattle.gfs_types.specs.declared.call.Call.TheVariants as call
use Rattle.gfs_types.specs.Paths.{Path, root, trash, is_below, is_child, hidden_name}
use Rattle.log_records.specs.declared.record.Record.{Record}
use Rattle.log_records.specs.declared.record.Record.TheVariants as log
use Rattle.relaxed_file.specs.Names.{Names, Node, Dir, File, node_at, copied_entries, with_copies, first_names}
use Rattle.relaxed_file.specs.NameStep.{path_tests, name_tests, is_in_trash, with_node, hidden}
use Rattle.relaxed_file.proofs.Tables.{from_some}
use Rattle.relaxed_file.proofs.NamesTree.{Tree, inserted_there, inserted_other, removed_there, removed_other, same_or_other, copies_other, copies_are_new, tests_passed, first_look}
use Rattle.protocol.specs.Logged.{Logged, after_record, is_this_file, name_removed}
use Rattle.protocol.specs.MasterStep.{hidden_moment}
use Rattle.laws_base.proofs.Namespace.{IsFree, names_after, names_are_after}
use Rattle.laws_base.proofs.MasterMoves.{IsDue, AreNames}
use Rattle.laws_base.proofs.LoggedParts.{Parts, same_after, checkpoint_parts}
use Rattle.laws_base.proofs.NamesReached.{IsKeptByLog}
use Rattle.laws_base.proofs.CountsLogged.{IsFoundCounts, IsCountedLog}
use Rattle.laws_base.proofs.CountsKept.{counts_kept}
use Rattle.machine_names.proofs.PathsApart.{not_in_trash}
use Rattle.laws_names.proofs.HiddenMoment.{moment_told}

pub child_there : (path : Path) → is_child trash path ≡ true → is_in_trash path ≡ true
child_there path is = or_right (bytes_eq path trash) (is_below trash path) (and_parts (is_below trash path) _ is).0

-- a file right in the trash has the hidden name of the moment that this tells
abbrev pub HidesRight : Names → Type 0
HidesRight names = (path : Path) (file : ℕ) → node_at names path ≡ Some (File file) → is_child trash path ≡ true → hidden_name (hidden_moment path) file ≡ path

id_of : Node → ℕ
id_of Dir = 0
id_of (File id) = id

same_id : (one two : ℕ) → File one ≡ File two → one ≡ two
unfolding id_of
same_id one two same = ap id_of same

no_dir : (file : ℕ) → Dir ≡ File file → ⊥
no_dir file same = true≢false (ap is_dir_here same)
  where
    is_dir_here : Node → Bool
    is_dir_here Dir = true
    is_dir_here (File id) = false

less_right : (names : Names) (p : Path) → HidesRight names → HidesRight (table.remove names p)
less_right names p h path file at is =
    ⊎_elim (λ same. absurd (none-some (File file) (sym (removed_there names p path same) ∙ at))) (λ other. h path file (sym (removed_other names p path other) ∙ at) is) (same_or_other path p)

-- a name outside the trash
outside_right : (names : Names) (p : Path) (v : Node) → is_in_trash p ≡ false → HidesRight names → HidesRight (table.insert names p v)
outside_right names p v outside h path file at is =
    ⊎_elim (λ same. absurd (true≢false (sym (child_there path is) ∙ ap is_in_trash same ∙ outside))) (λ other. h path file (sym (inserted_other names p v path other) ∙ at) is) (same_or_other path p)

dir_right : (names : Names) (p : Path) → HidesRight names → HidesRight (table.insert names p Dir)
dir_right names p h path file at is =
    ⊎_elim (λ same. absurd (no_dir file (from_some (sym (inserted_there names p Dir path same) ∙ at)))) (λ other. h path file (sym (inserted_other names p Dir path other) ∙ at) is) (same_or_other path p)

deleted_right : (names : Names) (p : Path) (moment : ℕ) (o : Option Node) → HidesRight names → HidesRight (hidden names p moment o)
deleted_right names p moment None h = h
deleted_right names p moment (Some Dir) h = h
deleted_right names p moment (Some (File id)) h =
    λ path file at is.
    let less : Names = table.remove names p in
    ⊎_elim
    (λ same.
    let ids : id ≡ file = same_id id file (from_some (sym (inserted_there less (hidden_name moment id) (File id) path same) ∙ at)) in
    ap (λ (q : Path). hidden_name (hidden_moment q) file) same ∙ ap (λ (i : ℕ). hidden_name (hidden_moment (hidden_name moment id)) i) (sym ids) ∙ moment_told moment id ∙ sym same)
    (λ other. less_right names p h path file (sym (inserted_other less (hidden_name moment id) (File id) path other) ∙ at) is)
    (same_or_other path (hidden_name moment id))

renamed_right : (names : Names) (p q : Path) (o : Option Node) → is_in_trash q ≡ false → HidesRight names → HidesRight (with_node (table.remove names p) q o)
renamed_right names p q None outside h = less_right names p h
renamed_right names p q (Some v) outside h = outside_right (table.remove names p) q v outside (less_right names p h)

copied_right : (names : Names) (from to : Path) (next : ℕ) → Tree names → IsFree names from to → HidesRight names → HidesRight (with_copies names next (copied_entries names from to))
copied_right names from to next tree free h path file at is =
    h path file (sym (copies_other (copied_entries names from to) names next path (λ v there.
    not_in_trash to path free.path_to free.open_to (child_there path is)
    (copies_are_new names from to tree free.path_from free.path_to free.open_from free.open_to free.above free.free path v there).0)) ∙ at) is

named_less : (names : Names) (o : Option (Path × Node)) → HidesRight names → HidesRight (name_removed names o)
named_less names None h = h
named_less names (Some e) h = less_right names e.0 h

-- the names after a record of a step
pub record_right : (l : Logged) (r : Record) → IsDue (Unit {0}) l r → AreNames l r → HidesRight l.names → HidesRight (names_after l.names l.next_file r)
record_right l (log.Mkdir client n path) due names h = dir_right l.names path h
record_right l (log.Rmdir client n path) due names h = less_right l.names path h
record_right l (log.Create client n file shape path) due names h =
    let all = tests_passed (path_tests names.due.1.0 (call.Create path names.due.0) ++ name_tests l.names (call.Create path names.due.0)) names.due.1.1 in
    outside_right l.names path (File file.0) all.1.1.0 h
record_right l (log.Delete client n moment path) due names h = deleted_right l.names path moment.0 (node_at l.names path) h
record_right l (log.Rename client n from to) due names h =
    let all = tests_passed (path_tests names.due.0 (call.Rename from to) ++ name_tests l.names (call.Rename from to)) names.due.1 in
    renamed_right l.names from to (node_at l.names from) all.1.1.0 h
record_right l (log.Snapshot client n from to) due names h = copied_right l.names from to l.next_file names.before names.due h
record_right l (log.Expired file) due names h = named_less l.names (find (λ e. is_this_file file.0 e.1) (table.entries l.names)) h
record_right l (log.DirItem path) due names h = absurd due
record_right l (log.FileItem path file shape handles) due names h = absurd due
record_right l other due names h = h

pub first_right : HidesRight first_names
first_right path file at is = absurd (by_look (bytes_eq path root) (bytes_eq path trash) (sym (first_look path) ∙ at))
  where
    by_look : (a b : Bool) → cond a (Some Dir) (cond b (Some Dir) None) ≡ Some (File file) → ⊥
    by_look true b e = no_dir file (from_some e)
    by_look false true e = no_dir file (from_some e)
    by_look false false e = none-some (File file) e

-- the same relation with what each file in the trash is named
abbrev pub IsFoundRight : Logged → Type 0
IsFoundRight k = IsFoundCounts k × HidesRight k.names

abbrev pub IsRightLog : Logged → Logged → Type 0
IsRightLog l k = IsCountedLog l k × HidesRight l.names × HidesRight k.names

pub right_kept : IsKeptByLog IsFoundRight IsRightLog
right_kept =
    record {
      good = λ l k h. (counts_kept.good l k h.0, h.2);
      sound = λ l k h. counts_kept.sound l k h.0;
      new = (counts_kept.new, first_right, first_right);
      restart = λ k h. (counts_kept.restart k h.0, h.1, h.1);
      epochs = λ l k epoch h. (counts_kept.epochs l k epoch h.0, h.1, h.2);
      records = λ l k r same due names h.
          let here : HidesRight (after_record l r).names = subst (λ (ns : Names). HidesRight ns) (sym (names_are_after l r)) (record_right l r due names h.1) in
          (counts_kept.records l k r same due names h.0, here, subst (λ (ns : Names). HidesRight ns) (ap (λ (p : Parts). p.names) (same_after l k r same)) here);
      checkpoint = λ l k same tree h.
          (counts_kept.checkpoint l k same tree h.0, h.1, subst (λ (ns : Names). HidesRight ns) (sym (ap (λ (p : Parts). p.names) (checkpoint_parts l tree))) h.1);
      less = λ l k handles copied h. (counts_kept.less l k handles copied h.0, h.1, h.2);
      rows = λ l k f shapes chunks same shaped h. (counts_kept.rows l k f shapes chunks same shaped h.0, h.1, h.2);
    }
