-- A file has no more chunks than there are handles, since each stands at one index; and a master that is up has no handle with which a place would be too far.
use Rattle.std.proofs.Common.{nat_cmp, ◌≡◌, ◌⊎◌, ℕ, zero, suc, ◌≤◌, ◌<◌, Bool, true, false, true≢false, List, [], ◌∷◌, length, Option, Some, refl, sym, ap, subst, ◌∙◌, inl, inr, arith}
use Rattle.std.specs.Prelude.{◌*◌, ◌&&◌, ◌||◌, unwrap_or, IsTrue}
use Rattle.std.specs.List.{AllByRecursion, IsDistinct, list_any}
use Rattle.std.specs.FinMap as table
use Rattle.std.proofs.Math.Nat.{mul-le-mul_right, le_trans}
use Rattle.std.proofs.lemmas.Bool.{and_parts, leb-true, eqb-true}
use Rattle.std.proofs.lemmas.Map.Steps.{length-le_from_distinct_below}
use lib.Dec.{eqb}
use Rattle.gfs_types.specs.declared.config.Config.{Config}
use Rattle.messages.specs.declared.event.NodeInput.{NodeInput}
use Rattle.chunk_table.specs.ChunkTable.{handles_of}
use Rattle.gfs_types.specs.Counters.{counter_limit}
use Rattle.protocol.specs.Tables.{element_at}
use Rattle.protocol.specs.Choice.{Choice, Ending, Goes, Lost, Stops}
use Rattle.protocol.specs.Seen.{Taken, no_step}
use Rattle.protocol.specs.Master.{MasterState, MasterDoing}
use Rattle.protocol.specs.MasterLimits.{can_count}
use Rattle.protocol.specs.MasterStep.{is_within_limits, master_goes, master_ends, master_bounded, master_step, may_end, started_master, opening, has_opened, opens_as, found_log}
use Rattle.protocol.specs.World.{WorldState, new_world}
use Rattle.laws_base.proofs.Steps.{on_cond, none_some}
use Rattle.laws_base.specs.Laws.{times_in}
use Rattle.laws_base.proofs.FilesNamed.{Files}
use Rattle.laws_base.proofs.Owners.{stands, times_at_least, placed_stands}
use Rattle.laws_base.proofs.MembersRecorded.{place_below}
use Rattle.laws_base.proofs.SentReached.{sent_reached}
use Rattle.laws_base.proofs.LoggedParts.{Parts}
use Rattle.laws_base.proofs.NamesReached.{IsUpToLog}
use Rattle.laws_base.proofs.RowsLogged.{IsFoundRows, IsRowedLog}
use Rattle.laws_base.proofs.RowsKept.{rows_kept}
use Rattle.laws_base.proofs.MasterReached.{IsKeptByMaster, reached_here}
use Rattle.laws_base.proofs.MasterClock.{master_in_time}
use Rattle.laws_base.proofs.WaitsKept.{IsOfWaits, waits_kept}
use Rattle.laws_machine.proofs.OpenEntries.{config_stays}
use Rattle.laws_versions.proofs.HandleIndexes.{handles_stand_at_one_index}
use Rattle.headline.specs.Places.{FilesAreWithinPlaces}

-- the places of all handles so far, of a master that is up and has a file

abbrev IsWithin : MasterState → Type 0
IsWithin m = IsTrue m.up → (m.logged.next_handle * m.config.chunk ≤ counter_limit) ⊎ ((file : ℕ) → handles_of m.logged.table file ≡ [])

by_limits : (m : MasterState) → is_within_limits m ≡ true → m.logged.next_handle * m.config.chunk ≤ counter_limit
by_limits m h = leb-true (m.logged.next_handle * m.config.chunk) counter_limit (and_parts _ _ h).1

down : (m : MasterState) → m.up ≡ false → IsWithin m
down m is up = absurd (true≢false (sym up ∙ is))

ends_within : (m : MasterState) (i : NodeInput) (d : MasterDoing) (choice : Choice) (e : Ending) → may_end m i d e ≡ true → IsWithin (master_ends m d choice e).state
ends_within m i d choice Goes may up = inl (by_limits d.master (and_parts (can_count m i) (is_within_limits d.master) may).1)
ends_within m i d choice Lost may up = absurd cc
ends_within m i d choice (Stops made) may up = absurd cc

step_within : (m : MasterState) (moment : ℕ) (i : NodeInput) (choice : Choice) → IsWithin m → IsWithin (master_step m moment i choice).state
step_within m moment i choice h =
    let d : MasterDoing = master_goes m moment i choice.refused in
    let Good : Taken MasterState → Type 0 = λ t. IsWithin t.state in
    on_cond Good m.up (master_bounded m i d choice) (no_step m)
    (λ _. on_cond Good (may_end m i d choice.ending) (master_ends m d choice choice.ending) (no_step m) (λ may. ends_within m i d choice choice.ending may) (λ _. h)) (λ _. h)

opens_within : (old m : MasterState) (d : MasterDoing) (choice : Choice) (e : Ending) → IsWithin (opens_as old m d choice e).state
opens_within old m d choice Lost = λ up. absurd cc
opens_within old m d choice (Stops made) = λ up. absurd cc
opens_within old m d choice Goes =
    on_cond (λ (t : Taken MasterState). IsWithin t.state) (has_opened m d && is_within_limits d.master) _ _ (λ both up. inl (by_limits d.master (and_parts _ _ both).1)) (λ _ up. absurd cc)

kept_within : IsKeptByMaster IsWithin
kept_within =
    record {
      new = λ config servers up. inr (λ file. ap (λ (o : Option (List ℕ)). unwrap_or o []) (table.get-empty nat_cmp file));
      steps = step_within;
      restarts = λ m moment choice h. opens_within m (started_master m.config m.server_count (found_log m choice) moment) (opening (started_master m.config m.server_count (found_log m choice) moment)) choice choice.ending;
    }

-- different numbers in a list

apart : (x : ℕ) (xs : List ℕ) → ((place y : ℕ) → element_at xs place ≡ Some y → x ≡ y → ⊥) → AllByRecursion (λ y. eqb x y ≡ false) xs
apart x [] h = tt
apart x (y ∷ ys) h = (by_test (eqb x y) refl, apart x ys (λ place z at. h (suc place) z at))
  where
    by_test : (b : Bool) → eqb x y ≡ b → eqb x y ≡ false
    by_test false is = is
    by_test true is = absurd (h 0 y refl (eqb-true x y is))

distinct : (xs : List ℕ) → ((place other x : ℕ) → element_at xs place ≡ Some x → element_at xs other ≡ Some x → place ≡ other) → IsDistinct eqb xs
unfolding IsDistinct
distinct [] h = tt
distinct (x ∷ xs) h = (
  apart x xs (λ place y at same. let both : zero ≡ suc place = h 0 (suc place) x refl (at ∙ ap (λ (z : ℕ). Some z) (sym same)) in omega (arith, both)),
  distinct xs (λ place other y at also. let next : suc place ≡ suc other = h (suc place) (suc other) y at also in omega (arith, next)),
)

all_below : (xs : List ℕ) (n : ℕ) → ((place x : ℕ) → element_at xs place ≡ Some x → x < n) → (q : ℕ) → list_any (eqb q) xs ≡ true → q < n
all_below [] n h q some = absurd cc
all_below (x ∷ xs) n h q some = first (eqb q x) refl some (all_below xs n (λ place y at. h (suc place) y at) q)
  where
    first : (b : Bool) → eqb q x ≡ b → (b || list_any (eqb q) xs) ≡ true → (list_any (eqb q) xs ≡ true → q < n) → q < n
    first true is any rest = subst (λ (z : ℕ). z < n) (sym (eqb-true q x is)) (h 0 x refl)
    first false is any rest = rest any

pub files_are_within_places : FilesAreWithinPlaces
files_are_within_places config servers clients w r up file index handle at =
    elim (reached_here IsWithin kept_within config servers clients w r up) [
      | inl within ↦ subst (λ (c : Config). suc index * c.chunk ≤ counter_limit) config_is (le_trans (mul-le-mul_right w.master.config.chunk few) within)
      | inr none ↦ none_some handle (sym (ap (λ (hs : List ℕ). element_at hs index) (none file)) ∙ at)
    ]
  where
    u : IsUpToLog IsFoundRows IsRowedLog rows_kept w.master
    u = (sent_reached IsOfWaits waits_kept config servers clients w r).base.logged.up up

    config_is : w.master.config ≡ config
    config_is = (master_in_time config servers clients w r).0 ∙ ap (λ (v : WorldState). v.config) (sym r.1) ∙ config_stays config (new_world config servers clients) r.0 refl

    hs : List ℕ
    hs = handles_of w.master.logged.table file

    below : (place x : ℕ) → element_at hs place ≡ Some x → x < w.master.logged.next_handle
    below place x there =
        let one : 1 ≤ stands x hs = placed_stands hs place x there in
        let all = times_at_least w.master.logged.table.files file x in
        subst (λ (n : ℕ). x < n) (sym (ap (λ (p : Parts). p.next_handle) u.same))
        (u.tied.base.log.below x (subst (λ (f : Files). 1 ≤ times_in f x) u.tied.base.base.files (omega (arith, one, all))))

    few : suc index ≤ w.master.logged.next_handle
    few =
        let long : length hs ≤ w.master.logged.next_handle =
        length-le_from_distinct_below hs w.master.logged.next_handle
        (distinct hs (λ place other x there also. handles_stand_at_one_index config servers clients w r x file place file other (inr (up, there)) (inr (up, also)))) (all_below hs w.master.logged.next_handle below) in
        let low = place_below hs index handle at in
        omega (arith, long, low)
