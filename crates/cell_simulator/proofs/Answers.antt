-- A call's line prints one answer to its client.
use Rattle.std.proofs.Common.{◌≡◌, ◌+◌, ℕ, zero, suc, Bool, true, false, List, [], ◌∷◌, sym, ap, ◌∙◌, subst, arith}
use Rattle.std.specs.Prelude.{not, ◌||◌, IsTrue}
use Rattle.std.proofs.lemmas.List.Elements.{All-head, All-tail}
use Rattle.gfs_types.specs.declared.ids.ClientId.{ClientId}
use Rattle.messages.specs.declared.event.Event.{Event}
use Rattle.script.specs.declared.cell_lines.ClientCall.{ClientCall}
use Rattle.script.specs.declared.cell_lines.CellLine.TheVariants as line
use Rattle.cell_simulator.specs.Cells.{Meaning}
use Rattle.cell_simulator.specs.Steps.{Step, Simulated, is_of_round, DropsTimes, Lead, Only}
use Rattle.cell_simulator.specs.Shown.{has_client, call_event}
use Rattle.cell_simulator.specs.Lines.{ComesTo}
use Rattle.cell_simulator.specs.Answered.{one_if, answers_to, AnswersOnce, IsAlike}

-- where messages were dropped, a client's calls stand as they stood
alike : {C : Type 0} (m : Meaning C) (is_up : C → ClientId → Bool) (takes : C → ClientId → Event → Bool) → AnswersOnce m is_up takes → (client : ClientId) (times : ℕ) (old new : C) → DropsTimes m times old new → IsAlike m is_up takes client old new
alike m is_up takes law client zero old new same =
    record {
      same_up = ap (λ w. is_up w client) same;
      same_open = ap (λ w. m.is_open w client) same;
      same_taken = λ e. ap (λ w. takes w client e) same;
    }
alike m is_up takes law client (suc times) old new drops =
    let first : IsAlike m is_up takes client old drops.0 = law.dropped old drops.0 client drops.1 in
    let later : IsAlike m is_up takes client drops.0 new = alike m is_up takes law client times drops.0 new drops.2 in
    record { same_up = later.same_up ∙ first.same_up; same_open = later.same_open ∙ first.same_open; same_taken = λ e. later.same_taken e ∙ first.same_taken e }

-- deliveries and ticks answer what is open, and open nothing
rounds_answer : {C : Type 0} (m : Meaning C) (is_up : C → ClientId → Bool) (takes : C → ClientId → Event → Bool) → AnswersOnce m is_up takes → (client : ClientId) (old new : C) (xs : List Step) → Lead m old xs new → Only is_of_round xs → is_up new client ≡ true
    → (is_up old client ≡ true) × (one_if (m.is_open new client) + answers_to client xs ≡ one_if (m.is_open old client))
rounds_answer m is_up takes law client old new [] leads only up =
    let same : IsAlike m is_up takes client old new = alike m is_up takes law client leads.times old new leads.drops in
    (sym same.same_up ∙ up, omega (arith, ap one_if same.same_open))
rounds_answer m is_up takes law client old new (s ∷ xs) leads only up =
    let v = leads.0 in
    let w = leads.2 in
    let same : IsAlike m is_up takes client old v = alike m is_up takes law client leads.1.times old v leads.1.drops in
    let later = rounds_answer m is_up takes law client w new xs leads.5 (All-tail (λ t. IsTrue (is_of_round t.event)) s xs only) up in
    let first = law.counts v w s client leads.3 leads.4 later.0 in
    let none = ap one_if (law.only_calls v client s.event (All-head (λ t. IsTrue (is_of_round t.event)) s xs only)) in
    (sym same.same_up ∙ first.0, omega (arith, later.1, first.1, none, ap one_if same.same_open))

neither : (a b : Bool) → a || b ≡ false → b ≡ false
neither true b h = absurd (cc)
neither false b h = h

-- The client of a call's line was answered once where it took the call, and never where it didn't.
pub call_answered : {C : Type 0} (m : Meaning C) (is_up : C → ClientId → Bool) (takes : C → ClientId → Event → Bool) → AnswersOnce m is_up takes → (old new : Simulated C) (asked : ClientCall) (printed : List ℕ) (c : ComesTo m old (line.Call asked) new printed)
    → is_up new.cell asked.client ≡ true → answers_to asked.client c.steps ≡ one_if (takes old.cell asked.client (call_event asked (record { 0 = old.clock })))
call_answered m is_up takes law old new asked printed c up =
    let s = c.makes.0 in
    let rest = c.makes.1 in
    let leads = subst (λ xs. Lead m old.cell xs new.cell) c.makes.3 c.leads in
    let same : IsAlike m is_up takes asked.client old.cell leads.0 = alike m is_up takes law asked.client leads.1.times old.cell leads.0 leads.1.drops in
    let later = rounds_answer m is_up takes law asked.client leads.2 new.cell rest leads.5 c.makes.4 up in
    let first = law.counts leads.0 leads.2 s asked.client leads.3 leads.4 later.0 in
    let before = ap one_if (neither (not (has_client m old.cell asked.client)) (m.is_open old.cell asked.client) c.is_good) in
    let after = ap one_if c.leaves in
    let taken = ap (λ e. one_if (takes old.cell asked.client e)) c.makes.2 in
    ap (answers_to asked.client) c.makes.3 ∙ omega (arith, later.1, first.1, before, after, taken, ap one_if same.same_open, ap one_if (same.same_taken s.event))
