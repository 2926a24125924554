-- A deletion, by its actions.
use Rattle.std.proofs.Common.{◌≡◌, Bool, true, false, cond, List, [], ◌∷◌, Some, None, Ordering, refl, sym, ◌∙◌, ap, subst, inl, inr, arith, codes}
use Rattle.std.specs.Ordering.{nat_cmp, eq_by_cmp, is_eq}
use Rattle.std.specs.declared.cmp.Ordering.TheVariants.{Less, Equal, Greater}
use Rattle.std.proofs.lemmas.Bool.{false≢true}
use Rattle.std.specs.FinMap as map
use Rattle.std.specs.Cmp.Lexicographic.{slice_cmp, nat_list_cmp_total}
use Rattle.gfs_types.specs.declared.call.Call.TheVariants as call
use Rattle.gfs_types.specs.declared.answer.Answer.TheVariants as answer
use Rattle.gfs_types.specs.declared.refusal.Refusal.TheVariants.{NotFound, Collected}
use Rattle.gfs_types.specs.Paths.{Path, hidden_name}
use Rattle.relaxed_file.specs.Names.{Node, File, Names, first_names, node_at}
use Rattle.relaxed_file.specs.Machine.{new_machine, Outcome, Replies, Opens}
use Rattle.relaxed_file.specs.NameStep.{outcome_of, hidden, with_node}
use Rattle.relaxed_file.proofs.FirstRuns.{◌▸◌}
use Rattle.relaxed_file.specs.Run.{Action, IsLawful, Invoke, Return, ReturnFd, Step, Expire, Pass}
use Rattle.relaxed_file.specs.Traces.{small_chunks, fd, deletion_trace, IsRunOfSmall}
use Rattle.relaxed_file.proofs.NamesLemmas.{with_f, create_f}
use Rattle.relaxed_file.proofs.SnapshotRun.{empty_entries}

abbrev hidden_f : Path
hidden_f = codes "/.gone/00000000000000005000-0000000000000001"

spelled : hidden_name 5000 1 ≡ hidden_f
spelled = refl

-- a name that comes and goes leaves the rest as it was
looked_up : (b : Bool) (q : Path) → (b ≡ true → map.get first_names q ≡ None) → cond b None (cond b (Some (File 1)) (map.get first_names q)) ≡ map.get first_names q
looked_up true q h = sym (h refl)
looked_up false q h = refl

tied : (r : Ordering) → is_eq r ≡ true → r ≡ Equal
tied Equal e = refl
tied Less e = absurd (false≢true e)
tied Greater e = absurd (false≢true e)

alike : (q : Path) → eq_by_cmp (slice_cmp nat_cmp) q (codes "/f") ≡ true → q ≡ codes "/f"
alike q e = map.slice_cmp-IsAntisymmetric map.nat_cmp-IsAntisymmetric q (codes "/f") (tied (slice_cmp nat_cmp q (codes "/f")) e)

f_is_new : map.get first_names (codes "/f") ≡ None
f_is_new = simp (map.gets) refl

f_is_there : node_at with_f (codes "/f") ≡ Some (File 1)
f_is_there = simp (map.gets) refl

come_and_gone : map.remove with_f (codes "/f") ≡ first_names
come_and_gone = map.same_map nat_list_cmp_total (map.slice_cmp-IsAntisymmetric map.nat_cmp-IsAntisymmetric) _ _ (λ q.
    map.get-remove nat_list_cmp_total with_f (codes "/f") q
    ∙ ap (cond (eq_by_cmp (slice_cmp nat_cmp) q (codes "/f")) None) (map.get-insert nat_list_cmp_total first_names (codes "/f") (File 1) q)
    ∙ looked_up (eq_by_cmp (slice_cmp nat_cmp) q (codes "/f")) q (λ e. ap (map.get first_names) (alike q e) ∙ f_is_new))

abbrev names_after : Names
names_after = map.insert first_names hidden_f (File 1)

abbrev names_deleted : Names
names_deleted = hidden with_f (codes "/f") 5000 (node_at with_f (codes "/f"))

gone : names_deleted ≡ names_after
gone = ap (hidden with_f (codes "/f") 5000) f_is_there ∙ ap (λ names. map.insert names hidden_f (File 1)) come_and_gone

delete_f : Replies answer.Done ≡ outcome_of small_chunks with_f (call.Delete (codes "/f"))
delete_f = simp (map.gets) refl

abbrev listed : Outcome
listed = Replies (answer.Names (codes "00000000000000005000-0000000000000001" ∷ []))

list_after : listed ≡ outcome_of small_chunks names_after (call.List (codes "/.gone"))
list_after = simp (map.gets, map.entries-insert {X = Node} nat_list_cmp_total, empty_entries) refl

open_after : Opens 1 ≡ outcome_of small_chunks names_after (call.Open hidden_f)
open_after = simp (map.gets) refl

there_after : node_at names_after (hidden_name 5000 1) ≡ Some (File 1)
there_after = simp (map.gets) refl

-- brought back by another name, and deleted again
abbrev renamed : Names → Names
renamed names = with_node (map.remove names hidden_f) (codes "/g") (node_at names hidden_f)

abbrev names_g : Names
names_g = map.insert (map.remove names_after hidden_f) (codes "/g") (File 1)

back : renamed names_deleted ≡ names_g
back = ap renamed gone ∙ ap (with_node (map.remove names_after hidden_f) (codes "/g")) there_after

rename_g : Replies answer.Done ≡ outcome_of small_chunks names_after (call.Rename hidden_f (codes "/g"))
rename_g = simp (map.gets) refl

delete_g : Replies answer.Done ≡ outcome_of small_chunks names_g (call.Delete (codes "/g"))
delete_g = simp (map.gets) refl

g_is_there : node_at names_g (codes "/g") ≡ Some (File 1)
g_is_there = simp (map.gets) refl

abbrev deleted_again : Names → Names
deleted_again names = hidden names (codes "/g") 5000 (node_at names (codes "/g"))

abbrev names_again : Names
names_again = map.insert (map.remove names_g (codes "/g")) hidden_f (File 1)

again : deleted_again (renamed names_deleted) ≡ names_again
again = ap deleted_again back ∙ ap (hidden names_g (codes "/g") 5000) g_is_there

there_again : node_at names_again (hidden_name 5000 1) ≡ Some (File 1)
there_again = simp (map.gets) refl

abbrev not_found : Outcome
not_found = Replies (answer.Refused NotFound)

open_gone : not_found ≡ outcome_of small_chunks (map.remove names_again hidden_f) (call.Open hidden_f)
open_gone = simp (map.gets) refl

abbrev actions : List Action
actions =
    Pass 5000
    ∷ Invoke 1 (call.Create (codes "/f") None) ∷ Step 1 0 (Replies answer.Done) ∷ Return 1 answer.Done
    ∷ Invoke 1 (call.Delete (codes "/f")) ∷ Step 1 5000 (Replies answer.Done) ∷ Return 1 answer.Done
    ∷ Invoke 1 (call.List (codes "/.gone")) ∷ Step 1 0 listed ∷ Return 1 (answer.Names (codes "00000000000000005000-0000000000000001" ∷ []))
    ∷ Invoke 1 (call.Open hidden_f) ∷ Step 1 0 (Opens 1) ∷ ReturnFd 1 1 1
    ∷ Invoke 1 (call.Rename hidden_f (codes "/g")) ∷ Step 1 5000 (Replies answer.Done) ∷ Return 1 answer.Done
    ∷ Invoke 1 (call.Delete (codes "/g")) ∷ Step 1 5000 (Replies answer.Done) ∷ Return 1 answer.Done
    ∷ Pass 259_205_000 ∷ Expire 1 5000
    ∷ Invoke 1 (call.Open hidden_f) ∷ Step 1 0 not_found ∷ Return 1 (answer.Refused NotFound)
    ∷ Invoke 1 (call.Length (fd 1)) ∷ Return 1 (answer.Refused Collected) ∷ []

pub deletion_run : IsRunOfSmall deletion_trace
deletion_run =
    let lawful : IsLawful (new_machine small_chunks) actions =
    omega arith
    ▸ refl
    ▸ (_, refl, (refl, inr refl, create_f, λ h. tt))
    ▸ (_, refl, (0, omega arith, refl))
    ▸ refl
    ▸ (_, refl, (refl, inr refl, delete_f, λ h. (omega arith, omega arith)))
    ▸ (_, refl, (0, omega arith, refl))
    ▸ refl
    ▸ (_, refl, (refl, inl refl, subst (λ names. listed ≡ outcome_of small_chunks names (call.List (codes "/.gone"))) (sym gone) list_after, λ h. tt))
    ▸ (_, refl, (0, omega arith, refl))
    ▸ refl
    ▸ (_, refl, (refl, inl refl, subst (λ names. Opens 1 ≡ outcome_of small_chunks names (call.Open hidden_f)) (sym gone) open_after, λ h. tt))
    ▸ (_, refl, ((0, omega arith, refl), refl))
    ▸ refl
    ▸ (_, refl, (refl, inr refl, subst (λ names. Replies answer.Done ≡ outcome_of small_chunks names (call.Rename hidden_f (codes "/g"))) (sym gone) rename_g, λ h. tt))
    ▸ (_, refl, (0, omega arith, refl))
    ▸ refl
    ▸ (_, refl, (refl, inr refl, subst (λ names. Replies answer.Done ≡ outcome_of small_chunks names (call.Delete (codes "/g"))) (sym back) delete_g, λ h. (omega arith, omega arith)))
    ▸ (_, refl, (0, omega arith, refl))
    ▸ omega arith
    ▸ (subst (λ names. node_at names (hidden_name 5000 1) ≡ Some (File 1)) (sym again) there_again, omega arith)
    ▸ refl
    ▸ (_, refl, (refl, inl refl, subst (λ names. not_found ≡ outcome_of small_chunks (map.remove names hidden_f) (call.Open hidden_f)) (sym again) open_gone, λ h. tt))
    ▸ (_, refl, inl (0, omega arith, refl))
    ▸ refl
    ▸ (_, refl, inr (inr (1, refl, refl, refl)))
    ▸ tt
    in (_, (actions, lawful, refl, refl))
