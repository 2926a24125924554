-- In every run each file has one name at most.
use Rattle.std.proofs.Common.{◌≡◌, ℕ, suc, ◌<◌, ◌≤◌, Bool, true, false, cond, List, [], ◌∷◌, Option, Some, None, refl, sym, ◌∙◌, ap, subst, arith}
use Rattle.std.specs.Str.{bytes_eq}
use Rattle.std.specs.Ordering.{nat_cmp}
use Rattle.std.specs.Cmp.Lexicographic.{slice_cmp, nat_list_cmp_total}
use Rattle.std.specs.FinMap as map
use Rattle.std.proofs.lemmas.Map.Text.{is_eq-slice_cmp}
use Rattle.std.proofs.lemmas.Slice.Eq.{bytes_eq-Decides}
use Rattle.std.proofs.lemmas.Option.{none-some}
use Rattle.gfs_types.specs.declared.call.Call.{Call}
use Rattle.gfs_types.specs.declared.call.Call.TheVariants as call
use Rattle.gfs_types.specs.declared.config.Config.{Config}
use Rattle.gfs_types.specs.Paths.{Path, root, trash, hidden_name}
use Rattle.relaxed_file.specs.Names.{Names, Node, Dir, File, first_names, node_at, copied_entries, with_copies, id_after, copy_of_node}
use Rattle.relaxed_file.specs.Machine.{Machine, new_machine}
use Rattle.relaxed_file.specs.NameStep.{performed, is_refused, stepped, with_outcome, with_node, hidden}
use Rattle.relaxed_file.specs.Chunks.{chunk_added, placed}
use Rattle.relaxed_file.specs.Reads.{looked}
use Rattle.relaxed_file.specs.Answers.{returned}
use Rattle.relaxed_file.specs.Run.{Action, Return, Step, Expire, Add, Place, Look, Allows, after, asked_file, IsReached}
use Rattle.relaxed_file.proofs.Tables.{at_some}
use Rattle.relaxed_file.proofs.Reached.{kept_to}
use Rattle.relaxed_file.proofs.Known.{Known, known_step, asked_is, NodeBelow, AreNamesBelow}
use Rattle.relaxed_file.proofs.Grows.{known_at_first}

abbrev IsNameFor : Names → Path → ℕ → Type 0
IsNameFor names path file = node_at names path ≡ Some (File file)

abbrev HaveOneName : Names → Type 0
HaveOneName names = (a b : Path) (file : ℕ) → IsNameFor names a file → IsNameFor names b file → a ≡ b

abbrev IsNowhere : Names → ℕ → Type 0
IsNowhere names file = (a : Path) → IsNameFor names a file → ⊥

same_path : (a b : Path) → bytes_eq a b ≡ true → a ≡ b
same_path a b e = (bytes_eq-Decides a b).0 e

same_id : (one two : ℕ) → Some (File one) ≡ Some (File two) → one ≡ two
same_id one two h = cc

no_file : (file : ℕ) → Some Dir ≡ Some (File file) → ⊥
no_file file h = cc

get_inserted : (names : Names) (p : Path) (v : Node) (q : Path) → node_at (map.insert names p v) q ≡ cond (bytes_eq q p) (Some v) (node_at names q)
get_inserted names p v q = map.get-insert nat_list_cmp_total names p v q ∙ ap (λ b. cond b (Some v) (node_at names q)) (is_eq-slice_cmp q p)

get_removed : (names : Names) (p q : Path) → node_at (map.remove names p) q ≡ cond (bytes_eq q p) None (node_at names q)
get_removed names p q = map.get-remove nat_list_cmp_total names p q ∙ ap (λ b. cond b None (node_at names q)) (is_eq-slice_cmp q p)

-- what stands in these names stands at the same path in those
abbrev IsWithin : Names → Names → Type 0
IsWithin less names = (a : Path) (file : ℕ) → IsNameFor less a file → IsNameFor names a file

one_within : (less names : Names) → IsWithin less names → HaveOneName names → HaveOneName less
one_within less names within one a b file x y = one a b file (within a file x) (within b file y)

by_removal : (o : Option Node) (b : Bool) (file : ℕ) → cond b None o ≡ Some (File file) → o ≡ Some (File file)
by_removal o true file h = absurd (none-some (File file) h)
by_removal o false file h = h

removed_within : (names : Names) (p : Path) → IsWithin (map.remove names p) names
removed_within names p a file h = by_removal (node_at names a) (bytes_eq a p) file (sym (get_removed names p a) ∙ h)

by_dir : (o : Option Node) (b : Bool) (file : ℕ) → cond b (Some Dir) o ≡ Some (File file) → o ≡ Some (File file)
by_dir o true file h = absurd (no_file file h)
by_dir o false file h = h

dir_within : (names : Names) (p : Path) → IsWithin (map.insert names p Dir) names
dir_within names p a file h = by_dir (node_at names a) (bytes_eq a p) file (sym (get_inserted names p Dir a) ∙ h)

-- a file that stands nowhere yet
module _ (names : Names) (p : Path) (id : ℕ) (new : IsNowhere names id) (one : HaveOneName names) where
  -- where it stands there, by whether that is the new path
  by_paths : (a b : Path) (file : ℕ) (s t : Bool) → bytes_eq a p ≡ s → bytes_eq b p ≡ t
      → cond s (Some (File id)) (node_at names a) ≡ Some (File file) → cond t (Some (File id)) (node_at names b) ≡ Some (File file) → a ≡ b
  by_paths a b file true true e g x y = same_path a p e ∙ sym (same_path b p g)
  by_paths a b file true false e g x y = absurd (new b (subst (λ k. IsNameFor names b k) (sym (same_id id file x)) y))
  by_paths a b file false true e g x y = absurd (new a (subst (λ k. IsNameFor names a k) (sym (same_id id file y)) x))
  by_paths a b file false false e g x y = one a b file x y

  file_added : HaveOneName (map.insert names p (File id))
  file_added a b file x y = by_paths a b file (bytes_eq a p) (bytes_eq b p) refl refl (sym (get_inserted names p (File id) a) ∙ x) (sym (get_inserted names p (File id) b) ∙ y)

nowhere_past : (next id : ℕ) (names : Names) → AreNamesBelow next names → next ≤ id → IsNowhere names id
nowhere_past next id names below l a h = let under : id < next = subst (NodeBelow next) h (below a) in absurd (omega arith)

-- a file that is taken from its only name stands nowhere
gone : (names : Names) (p : Path) (id : ℕ) → HaveOneName names → IsNameFor names p id → IsNowhere (map.remove names p) id
gone names p id one there a h =
    let same : a ≡ p = one a p id (removed_within names p a id h) there in
    none-some (File id) (sym (get_removed names p a ∙ ap (λ b. cond b None (node_at names a)) ((bytes_eq-Decides a p).1 same)) ∙ h)

moved : (names : Names) (p q : Path) (o : Option Node) → HaveOneName names → node_at names p ≡ o → HaveOneName (with_node (map.remove names p) q o)
moved names p q None one is = one_within _ names (removed_within names p) one
moved names p q (Some Dir) one is = one_within _ (map.remove names p) (dir_within (map.remove names p) q) (one_within _ names (removed_within names p) one)
moved names p q (Some (File id)) one is = file_added (map.remove names p) q id (gone names p id one is) (one_within _ names (removed_within names p) one)

hides : (names : Names) (p : Path) (moment : ℕ) (o : Option Node) → HaveOneName names → node_at names p ≡ o → HaveOneName (hidden names p moment o)
hides names p moment None one is = one
hides names p moment (Some Dir) one is = one
hides names p moment (Some (File id)) one is = file_added (map.remove names p) (hidden_name moment id) id (gone names p id one is) (one_within _ names (removed_within names p) one)

-- copies come under ids that are past all that stand
past_more : (next : ℕ) (names : Names) (p : Path) (v : Node) → ((id : ℕ) → next ≤ id → IsNowhere names id) → (id : ℕ) → id_after next v ≤ id → IsNowhere (map.insert names p (copy_of_node next v)) id
past_more next names p Dir past id l a h = past id l a (dir_within names p a id h)
past_more next names p (File from) past id l a h =
    let by : (b : Bool) → cond b (Some (File next)) (node_at names a) ≡ Some (File id) → ⊥ = λ b. elim b as (λ t. cond t (Some (File next)) (node_at names a) ≡ Some (File id) → ⊥) [
      | true ↦ λ x. let same : next ≡ id = same_id next id x in absurd (omega arith)
      | false ↦ λ x. past id (omega arith) a x
    ] in by (bytes_eq a p) (sym (get_inserted names p (File next) a) ∙ h)

copy_added : (next : ℕ) (names : Names) (p : Path) (v : Node) → ((id : ℕ) → next ≤ id → IsNowhere names id) → HaveOneName names → HaveOneName (map.insert names p (copy_of_node next v))
copy_added next names p Dir past one = one_within _ names (dir_within names p) one
copy_added next names p (File from) past one = file_added names p next (past next (omega arith)) one

copied : (entries : List (Path × Node)) (next : ℕ) (names : Names) → ((id : ℕ) → next ≤ id → IsNowhere names id) → HaveOneName names → HaveOneName (with_copies names next entries)
copied [] next names past one = one
copied (e ∷ rest) next names past one = copied rest (id_after next e.1) (map.insert names e.0 (copy_of_node next e.1)) (past_more next names e.0 e.1 past) (copy_added next names e.0 e.1 past one)

performed_one : (m : Machine) (c : Call) (moment : ℕ) → Known m → HaveOneName m.names → HaveOneName (performed m c moment).names
performed_one m (call.Mkdir p) moment known one = one_within _ m.names (dir_within m.names p) one
performed_one m (call.Rmdir p) moment known one = one_within _ m.names (removed_within m.names p) one
performed_one m (call.Create p shape) moment known one = file_added m.names p (suc m.file_count) (nowhere_past (suc m.file_count) (suc m.file_count) m.names known.names (omega arith)) one
performed_one m (call.Delete p) moment known one = hides m.names p moment (node_at m.names p) one refl
performed_one m (call.Rename p q) moment known one = moved m.names p q (node_at m.names p) one refl
performed_one m (call.Snapshot p q) moment known one = copied (copied_entries m.names p q) (suc m.file_count) m.names (λ id l. nowhere_past (suc m.file_count) id m.names known.names l) one
performed_one m other moment known one = one

abbrev HasOneNames : Machine → Type 0
HasOneNames m = HaveOneName m.names

one_step : (m : Machine) (action : Action) → Allows m action → Known m → HasOneNames m → HasOneNames (after m action)
one_step m (Return client reply) a known h = at_some HasOneNames (λ current. returned m client current reply) m _ a.0 a.1 h
one_step m (Step client moment outcome) a known h = at_some HasOneNames (λ current. stepped m client moment outcome current) m _ a.0 a.1
    (elim (is_refused outcome) as (λ b. HasOneNames (with_outcome (cond b m (performed m (a.0).asked.call moment)) client outcome)) [
      | true ↦ h
      | false ↦ performed_one m (a.0).asked.call moment known h
    ])
one_step m (Expire file moment) a known h = one_within _ m.names (removed_within m.names (hidden_name moment file)) h
one_step m (Add id) a known h = at_some HasOneNames (chunk_added m id) m (asked_file m id) a.1 (asked_is m id a.0 a.1 a.2.0 a.2.1) h
one_step m (Place client file index mutation) a known h = at_some HasOneNames (λ current. placed m client current file index mutation) m _ a.0 a.1 h
one_step m (Look client file index least last chosen) a known h = at_some HasOneNames (λ current. looked m client current file index least chosen) m _ a.0 a.1 h
one_step m other a known h = h

record Holding (m : Machine) : Type 0 where
  known : Known m
  one : HasOneNames m

none_first : (a : Path) (file : ℕ) → IsNameFor first_names a file → ⊥
none_first a file h = none-some (File file) (sym (map.get-empty (slice_cmp nat_cmp) a)
    ∙ dir_within map.empty trash a file (dir_within (map.insert map.empty trash Dir) root a file h))

first_one : (config : Config) → HasOneNames (new_machine config)
first_one config a b file x y = absurd (none_first a file x)

-- two paths that stand for one file are one path
pub one_name : (config : Config) (m : Machine) → IsReached config m → (a b : Path) (file : ℕ) → node_at m.names a ≡ Some (File file) → node_at m.names b ≡ Some (File file) → a ≡ b
one_name config m reached =
    (kept_to Holding (λ k action allowed h. record { known = known_step k action allowed h.known; one = one_step k action allowed h.known h.one })
    (new_machine config) m reached (record { known = known_at_first config; one = first_one config })).one
