-- The counters that the table of chunks keeps within their limits.
use Rattle.std.proofs.Common.{◌≡◌, ℕ, Bool, true, false, refl, ap, subst, ◌∙◌}
use Rattle.std.specs.Prelude.{◌*◌, ◌&&◌, nat_le}
use Rattle.messages.specs.declared.event.NodeInput.{NodeInput}
use Rattle.std.specs.List.{list_all}
use Rattle.std.specs.FinMap as table
use Rattle.std.proofs.lemmas.Bool.{le-leb}
use Rattle.chunk_table.specs.ChunkTable.{TableState}
use Rattle.chunk_table.specs.Owners.{IsSound}
use Rattle.gfs_types.specs.Counters.{counter_limit}
use Rattle.protocol.specs.MasterLimits.{is_far, counts_on, can_count}
use Rattle.protocol.specs.MasterStep.{is_within_limits}
use Rattle.master_state.specs.Follows.{table_of}
use Rattle.master_cell.proofs.StatedLimits.{issued_within_limit}
use Rattle.master_plan.specs.Plans.{PlanState, known}

six : (a b e o l s : Bool) → a ≡ true → b ≡ true → l ≡ true → ((e && o) && s) ≡ (a && b && e && o && l && s)
six false b e o l s h i j = absurd cc
six true false e o l s h i j = absurd cc
six true true e o false s h i j = absurd cc
six true true true true true s h i j = refl
six true true true false true s h i j = refl
six true true false true true s h i j = refl
six true true false false true s h i j = refl

abbrev has_places : PlanState → Bool
has_places p = nat_le (p.logged.next_handle * p.config.chunk) counter_limit

by_sound : (p : PlanState) → IsSound (table_of p.logged) → ((nat_le p.logged.epoch counter_limit && nat_le p.order_count counter_limit) && has_places p) ≡ is_within_limits (known p)
by_sound p sound =
    six (nat_le p.logged.next_file counter_limit) (nat_le p.logged.next_handle counter_limit) (nat_le p.logged.epoch counter_limit) (nat_le p.order_count counter_limit)
    (list_all (λ e. nat_le e.1.issued counter_limit) (table.entries p.logged.table.chunks)) (has_places p)
    (le-leb p.logged.next_file counter_limit sound.next_file_within_limit)
    (le-leb p.logged.next_handle counter_limit sound.next_handle_within_limit)
    (issued_within_limit p.logged.next_handle p.logged.table.chunks sound.chunks)

pub limits_are : (p : PlanState) (t : TableState) (epoch orders handle chunk : ℕ) → t ≡ table_of p.logged → epoch ≡ p.logged.epoch → orders ≡ p.order_count
    → handle ≡ t.next_handle → chunk ≡ p.config.chunk → IsSound t
    → ((nat_le epoch counter_limit && nat_le orders counter_limit) && nat_le (handle * chunk) counter_limit) ≡ is_within_limits (known p)
limits_are p t epoch orders handle chunk t_is e o h c sound =
    ap (λ n. (nat_le n counter_limit && nat_le orders counter_limit) && nat_le (handle * chunk) counter_limit) e
    ∙ ap (λ n. (nat_le p.logged.epoch counter_limit && nat_le n counter_limit) && nat_le (handle * chunk) counter_limit) o
    ∙ ap (λ n. (nat_le p.logged.epoch counter_limit && nat_le p.order_count counter_limit) && nat_le (n * chunk) counter_limit) (h ∙ ap (λ x. x.next_handle) t_is)
    ∙ ap (λ n. (nat_le p.logged.epoch counter_limit && nat_le p.order_count counter_limit) && nat_le (p.logged.next_handle * n) counter_limit) c
    ∙ by_sound p (subst IsSound t_is sound)

pub counts_are : (p : PlanState) (t : TableState) (next orders : ℕ) (i : NodeInput) → t ≡ table_of p.logged → next ≡ t.next_file → orders ≡ p.order_count
    → ((is_far next && is_far orders) && counts_on p.config p.logged i) ≡ can_count (known p) i
counts_are p t next orders i t_is n o =
    ap (λ k. (is_far k && is_far orders) && counts_on p.config p.logged i) (n ∙ ap (λ x. x.next_file) t_is)
    ∙ ap (λ k. (is_far p.logged.next_file && is_far k) && counts_on p.config p.logged i) o
