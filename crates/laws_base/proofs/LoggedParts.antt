-- The logged state but for its files and chunks: names, counters, epoch and kept answers. A checkpoint, read again, gives them back.
use Rattle.std.proofs.Common.{◌≡◌, ℕ, Bool, true, false, cond, List, [], ◌∷◌, ◌++◌, map, Option, Some, None, refl, sym, ap, subst, ◌∙◌}
use Rattle.std.specs.Prelude.{◌+◌, max, nat_lt, ◌&&◌, filter, T}
use Rattle.std.specs.Str.{bytes_eq}
use Rattle.std.specs.Ordering.{nat_cmp, eq_by_cmp, is_lt, is_eq}
use Rattle.std.specs.Cmp.{IsTotalOrder, nat_cmp_total}
use Rattle.std.specs.Cmp.Lexicographic.{slice_cmp, nat_list_cmp_total}
use Rattle.std.specs.FinMap as table
use Rattle.std.specs.FinMap.Entries.{find, is_sorted, below_all}
use Rattle.std.specs.declared.cmp.Ordering.{Ordering}
use Rattle.std.specs.declared.cmp.Ordering.TheVariants.{Less, Equal, Greater}
use Rattle.std.proofs.lemmas.Bool.{true≢false}
use Rattle.log_records.specs.declared.record.Record.{Record}
use Rattle.log_records.specs.declared.record.Record.TheVariants as log
use Rattle.gfs_types.specs.declared.refusal.Refusal.{Refusal}
use Rattle.gfs_types.specs.Paths.{Path, root, trash}
use Rattle.relaxed_file.specs.Names.{Names, Node, Dir, File, node_at, is_dir_node, is_dir, first_names, copied_entries, id_after_all}
use Rattle.relaxed_file.proofs.PathParts.{equal_paths}
use Rattle.relaxed_file.proofs.NamesTree.{Tree, first_look}
use Rattle.protocol.specs.Tables.{Table}
use Rattle.protocol.specs.Sending.{file_id, handle_of}
use Rattle.chunk_table.specs.ChunkTable.{ChunkRow, ChunkTable}
use Rattle.protocol.specs.Logged.{Logged, KeptCall, Copy, first_logged, after_record, after_records, swapped_in, checkpoint_of, name_item, node_item, chunk_item, client_item}
use Rattle.laws_base.proofs.Namespace.{names_after}
use Rattle.laws_base.proofs.OrderNumbers.{after-append}

pub record Parts : Type 0 where
  pub names : Names
  pub next_file : ℕ
  pub next_handle : ℕ
  pub epoch : ℕ
  pub kept : Table KeptCall

abbrev pub parts_of : Logged → Parts
parts_of l = record { names = l.names; next_file = l.next_file; next_handle = l.next_handle; epoch = l.epoch; kept = l.kept }

abbrev next_after : ℕ → Names → Record → ℕ
next_after next names (log.Create client n file shape path) = max next (file.0 + 1)
next_after next names (log.Snapshot client n from to) = id_after_all next (copied_entries names from to)
next_after next names (log.Counters next_file next_handle epoch) = next_file.0
next_after next names other = next

abbrev handle_after : ℕ → Record → ℕ
handle_after next (log.AddChunk file handle) = max next (handle.0 + 1)
handle_after next (log.CopyStart file index handle copy copy_version) = max next (copy.0 + 1)
handle_after next (log.Counters next_file next_handle epoch) = next_handle.0
handle_after next other = next

abbrev epoch_after : ℕ → Record → ℕ
epoch_after epoch (log.Epoch new) = new
epoch_after epoch (log.Counters next_file next_handle new) = new
epoch_after epoch other = epoch

abbrev answered : Table KeptCall → ℕ → ℕ → Option Refusal → Table KeptCall
answered kept client number refusal = table.insert kept client (record { number = number; refusal = refusal })

abbrev kept_after : Table KeptCall → Record → Table KeptCall
kept_after kept (log.Mkdir client n path) = answered kept client.0 n None
kept_after kept (log.Rmdir client n path) = answered kept client.0 n None
kept_after kept (log.Create client n file shape path) = answered kept client.0 n None
kept_after kept (log.Delete client n moment path) = answered kept client.0 n None
kept_after kept (log.Rename client n from to) = answered kept client.0 n None
kept_after kept (log.Snapshot client n from to) = answered kept client.0 n None
kept_after kept (log.Refused client n refusal) = answered kept client.0 n (Some refusal)
kept_after kept (log.ClientItem client n refusal) = answered kept client.0 n refusal
kept_after kept other = kept

abbrev pub parts_after : Parts → Record → Parts
parts_after p r =
    record {
      names = names_after p.names p.next_file r;
      next_file = next_after p.next_file p.names r;
      next_handle = handle_after p.next_handle r;
      epoch = epoch_after p.epoch r;
      kept = kept_after p.kept r;
    }

swapped_parts : (l : Logged) (handle : ℕ) (o : Option Copy) → parts_of (swapped_in l handle o) ≡ parts_of l
swapped_parts l handle None = refl
swapped_parts l handle (Some c) = refl

pub parts_are_after : (l : Logged) (r : Record) → parts_of (after_record l r) ≡ parts_after (parts_of l) r
parts_are_after l (log.Grant handle version primary members) = swapped_parts _ handle.0 (table.get l.copies handle.0)
parts_are_after l other = refl

-- the same record, from the same parts
pub same_after : (l k : Logged) (r : Record) → parts_of l ≡ parts_of k → parts_of (after_record l r) ≡ parts_of (after_record k r)
same_after l k r same = parts_are_after l r ∙ ap (λ (p : Parts). parts_after p r) same ∙ sym (parts_are_after k r)

-- a table with all of these

abbrev with_all : {K X : Type 0} {R : K → K → Ordering} → table.FinMap R X → List (K × X) → table.FinMap R X
with_all m [] = m
with_all m (e ∷ es) = with_all (table.insert m e.0 e.1) es

abbrev or_else : {X : Type 0} → Option X → Option X → Option X
or_else None other = other
or_else (Some x) other = Some x

tied : (o : Ordering) → is_eq o ≡ true → o ≡ Equal
tied Less h = absurd (true≢false (sym h))
tied Equal h = refl
tied Greater h = absurd (true≢false (sym h))

less_is_other : (o : Ordering) → T (is_lt o) → is_eq o ≡ false
less_is_other Less h = refl
less_is_other Equal h = absurd h
less_is_other Greater h = absurd h

both_parts : (a b : Bool) → T (a && b) → T a × T b
both_parts true b h = (tt, h)
both_parts false b h = absurd h

module _ {K X : Type 0} (R : K → K → Ordering) (total : IsTotalOrder R) (same : table.IsAntisymmetric R) where
  none_below : (x : K) (es : List (K × X)) → T (below_all R x es) → find R x es ≡ None
  none_below x [] h = refl
  none_below x (e ∷ es) h =
      let parts = both_parts (is_lt (R x e.0)) (below_all R x es) h in
      ap (λ (b : Bool). cond b (Some e.1) (find R x es)) (less_is_other (R x e.0) parts.0) ∙ none_below x es parts.1

  all_is : (m : table.FinMap R X) (es : List (K × X)) (q : K) → T (is_sorted R es) → table.get (with_all m es) q ≡ or_else (find R q es) (table.get m q)
  all_is m [] q h = refl
  all_is m (e ∷ es) q h = all_is (table.insert m e.0 e.1) es q parts.1 ∙ ap (or_else (find R q es)) (table.get-insert total m e.0 e.1 q) ∙ by_key (eq_by_cmp R q e.0) refl
    where
      parts : T (below_all R e.0 es) × T (is_sorted R es)
      parts = both_parts (below_all R e.0 es) (is_sorted R es) h

      no_more : eq_by_cmp R q e.0 ≡ true → find R q es ≡ None
      no_more is = subst (λ (x : K). find R x es ≡ None) (sym (same q e.0 (tied (R q e.0) is))) (none_below e.0 es parts.0)

      by_key : (b : Bool) → eq_by_cmp R q e.0 ≡ b → or_else (find R q es) (cond b (Some e.1) (table.get m q)) ≡ or_else (cond b (Some e.1) (find R q es)) (table.get m q)
      by_key true is = ap (λ (o : Option X). or_else o (Some e.1)) (no_more is)
      by_key false is = refl

  all_of_it : (m t : table.FinMap R X) (q : K) → table.get (with_all m (table.entries t)) q ≡ or_else (table.get t q) (table.get m q)
  all_of_it m t q = all_is m (table.entries t) q (table.entries_sorted t) ∙ ap (λ (o : Option X). or_else o (table.get m q)) (sym (table.get-entries t q))

-- the names of a tree, put in over those of a new cell
dir_is_there : (o : Option Node) → is_dir_node o ≡ true → o ≡ None → ⊥
dir_is_there o h none = true≢false (sym h ∙ ap is_dir_node none)

names_again : (names : Names) → Tree names → with_all first_names (table.entries names) ≡ names
names_again names tree =
    table.same_map nat_list_cmp_total (table.slice_cmp-IsAntisymmetric table.nat_cmp-IsAntisymmetric) (with_all first_names (table.entries names)) names
    (λ q. all_of_it (slice_cmp nat_cmp) nat_list_cmp_total (table.slice_cmp-IsAntisymmetric table.nat_cmp-IsAntisymmetric) first_names names q ∙ by_node q (table.get names q) refl)
  where
    by_node : (q : Path) (o : Option Node) → table.get names q ≡ o → or_else o (node_at first_names q) ≡ o
    by_node q (Some v) is = refl
    by_node q None is = first_look q ∙ by_root (bytes_eq q root) refl
      where
        by_trash : (b : Bool) → bytes_eq q trash ≡ b → cond b (Some Dir) None ≡ None
        by_trash true e = absurd (dir_is_there (table.get names q) (ap (is_dir names) (equal_paths q trash e) ∙ (tree.is).trash_is_dir) is)
        by_trash false e = refl

        by_root : (b : Bool) → bytes_eq q root ≡ b → cond b (Some Dir) (cond (bytes_eq q trash) (Some Dir) None) ≡ None
        by_root true e = absurd (dir_is_there (table.get names q) (ap (is_dir names) (equal_paths q root e) ∙ (tree.is).root_is_dir) is)
        by_root false e = by_trash (bytes_eq q trash) refl

calls_again : (kept : Table KeptCall) → with_all (table.empty) (table.entries kept) ≡ kept
calls_again kept =
    table.same_map nat_cmp_total table.nat_cmp-IsAntisymmetric (with_all (table.empty) (table.entries kept)) kept
    (λ q. all_of_it nat_cmp nat_cmp_total table.nat_cmp-IsAntisymmetric (table.empty) kept q ∙ by_call q (table.get kept q))
  where
    by_call : (q : ℕ) (o : Option KeptCall) → or_else o (table.get (table.empty {X = KeptCall} {R = nat_cmp}) q) ≡ o
    by_call q (Some v) = refl
    by_call q None = table.get-empty nat_cmp q

-- a checkpoint's items

names_parts : (t : ChunkTable) (es : List (Path × Node)) (l : Logged) → parts_of (after_records l (map (name_item t) es)) ≡ record (parts_of l) { names = with_all l.names es }
names_parts t [] l = refl
names_parts t (e ∷ es) l = names_parts t es (after_record l (name_item t e)) ∙ ap (λ (p : Parts). record p { names = with_all p.names es }) (one e.0 e.1)
  where
    one : (path : Path) (n : Node) → parts_of (after_record l (node_item t path n)) ≡ record (parts_of l) { names = table.insert l.names path n }
    one path Dir = refl
    one path (File id) = refl

chunks_parts : (es : List (ℕ × ChunkRow)) (l : Logged) → parts_of (after_records l (map chunk_item es)) ≡ parts_of l
chunks_parts [] l = refl
chunks_parts (e ∷ es) l = chunks_parts es (after_record l (chunk_item e))

clients_parts : (es : List (ℕ × KeptCall)) (l : Logged) → parts_of (after_records l (map client_item es)) ≡ record (parts_of l) { kept = with_all l.kept es }
clients_parts [] l = refl
clients_parts (e ∷ es) l = clients_parts es (after_record l (client_item e))

pub checkpoint_parts : (l : Logged) → Tree l.names → parts_of (after_records first_logged (checkpoint_of l)) ≡ parts_of l
checkpoint_parts l tree =
    let first : Logged = after_record first_logged (log.Counters (file_id l.next_file) (handle_of l.next_handle) l.epoch) in
    let names : List Record = map (name_item l.table) (table.entries l.names) in
    let rows : List (ℕ × ChunkRow) = filter (λ e. nat_lt 0 e.1.references) (table.entries l.table.chunks) in
    let one : Logged = after_records first names in
    let two : Logged = after_records one (map chunk_item rows) in
    let to_two : after_records first (names ++ map chunk_item rows) ≡ two = after-append first names (map chunk_item rows) in
    let at_two : parts_of two ≡ record (parts_of first) { names = with_all first_names (table.entries l.names) } =
    chunks_parts rows one ∙ names_parts l.table (table.entries l.names) first in
    ap (λ (k : Logged). parts_of k) (after-append first (names ++ map chunk_item rows) (map client_item (table.entries l.kept)))
    ∙ ap (λ (k : Logged). parts_of (after_records k (map client_item (table.entries l.kept)))) to_two
    ∙ clients_parts (table.entries l.kept) two
    ∙ ap (λ (p : Parts). record p { kept = with_all p.kept (table.entries l.kept) }) at_two
    ∙ ap (λ (n : Names). record (parts_of l) { names = n; kept = with_all (table.empty) (table.entries l.kept) }) (names_again l.names tree)
    ∙ ap (λ (t : Table KeptCall). record (parts_of l) { kept = t }) (calls_again l.kept)
