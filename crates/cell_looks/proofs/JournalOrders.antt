-- The orders of a journal's chunks are those by what is noted of its steps.
use Rattle.std.proofs.Common.{◌≡◌, ℕ, List, [], ◌∷◌, map, Option, Some, None, refl, sym, ap, subst, ◌∙◌}
use Rattle.std.specs.FinMap as table
use Rattle.gfs_types.specs.declared.answer.Answer.{Answer}
use Rattle.gfs_types.specs.declared.config.Config.{Config}
use Rattle.gfs_types.specs.declared.ids.ClientId.{ClientId}
use Rattle.gfs_types.specs.declared.ids.Node.{Node}
use Rattle.gfs_types.specs.declared.ids.Node.TheVariants as node
use Rattle.relaxed_file.specs.Regions.{regions_of}
use Rattle.protocol.specs.declared.seen.Seen.{Seen}
use Rattle.protocol.specs.Observer.{Observer, Placed, new_observer, observed_moment, placed_in, orders_after_all, entries_of}
use Rattle.protocol.specs.Tables.{Table}
use Rattle.protocol_journal.specs.Journal.{StepCause, Calls, Takes, Restarts, Entry, asked, noticed, answered, entry_observed, observed_after, observer_of}
use Rattle.cell_world.specs.Held.{AreHeldAs}
use Rattle.cell_world.specs.Kept.{blank_seen, blank_placed}
use Rattle.cell_world.specs.Seeing.{orders_seen, entries_seen}
use Rattle.cell_world.proofs.Regions.{regions_by}
use Rattle.cell_world.proofs.Seeing.{after_both}
use Rattle.cell_world.proofs.WorldOrders.{after_all, blank_held}
use Rattle.cell_looks.specs.Noted.{noted_of, noted_in}

client_orders : (skew : ℕ) (o : Observer) (m : ℕ) (c : ClientId) (cause : StepCause) (reply : Option Answer) → (answered (observed_moment skew (asked skew o m (node.Client c) cause) m) (node.Client c) reply).orders ≡ o.orders
client_orders skew o m c (Calls call) None = refl
client_orders skew o m c (Calls call) (Some answer) = refl
client_orders skew o m c (Takes given) None = refl
client_orders skew o m c (Takes given) (Some answer) = refl
client_orders skew o m c Restarts None = refl
client_orders skew o m c Restarts (Some answer) = refl

step_orders : (skew : ℕ) (o : Observer) (m : ℕ) (n : Node) (cause : StepCause) (seen : List Seen) (reply : Option Answer) (held : Table (List Placed)) → AreHeldAs o.orders held
    → AreHeldAs (answered (noticed (observed_moment skew (asked skew o m n cause) m) n seen) n reply).orders (orders_after_all [] held (noted_of n seen))
step_orders skew o m node.Master cause seen reply held g = after_all (observed_moment skew o m).trace o.orders held seen g
step_orders skew o m (node.Server s) cause seen reply held g = after_all (observed_moment skew o m).trace o.orders held seen g
step_orders skew o m (node.Client c) cause seen reply held g = subst (λ (t : Table (List Placed)). AreHeldAs t held) (sym (client_orders skew o m c cause reply)) g

steps_orders : (skew : ℕ) (o : Observer) (held : Table (List Placed)) (es : List Entry) → AreHeldAs o.orders held → AreHeldAs (observed_after skew o es).orders (orders_after_all [] held (noted_in es))
steps_orders skew o held [] g = g
steps_orders skew o held (e ∷ rest) g = λ q.
    let one : List Seen = noted_of e.node e.seen in
    steps_orders skew (entry_observed skew o e) (orders_after_all [] held one) rest (step_orders skew o e.moment e.node e.cause e.seen e.out.answer held g) q
    ∙ ap (λ (t : Table (List Placed)). map blank_placed (placed_in t q)) (sym (after_both [] held one (noted_in rest)))

pub journal_orders : (config : Config) (es : List Entry) → AreHeldAs (observer_of config es).orders (orders_seen (map blank_seen (noted_in es)))
journal_orders config es = λ q. steps_orders config.skew_ms (new_observer table.empty) table.empty es (λ p. refl) q ∙ blank_held [] (noted_in es) q

-- the regions of a chunk, by what was noted
pub journal_regions : (config : Config) (es : List Entry) (seen : List Seen) (handle : ℕ) → seen ≡ map blank_seen (noted_in es) → regions_of (entries_seen seen handle) ≡ regions_of (entries_of (observer_of config es) handle)
journal_regions config es seen handle is =
    ap (λ (l : List Seen). regions_of (entries_seen l handle)) is ∙ regions_by (observer_of config es).orders (orders_seen (map blank_seen (noted_in es))) handle (journal_orders config es)
