-- What a step leaves of a world, as a cell holds it.
use Rattle.std.proofs.Common.{◌≡◌, ℕ, suc, List, [], ◌++◌, length, Option, Some, None, refl, sym, subst, ap, ◌∙◌}
use Rattle.std.specs.Prelude.{max}
use Rattle.gfs_types.specs.declared.answer.Answer.{Answer}
use Rattle.gfs_types.specs.declared.call.Call.{Call}
use Rattle.messages.specs.declared.message.Message.{Message}
use Rattle.relaxed_file.specs.Run.{Visible}
use Rattle.protocol.specs.Tables.{Table, with_at}
use Rattle.protocol.specs.declared.seen.Seen.{Seen}
use Rattle.protocol.specs.Seen.{Taken}
use Rattle.protocol.specs.Server.{ServerState}
use Rattle.protocol.specs.Master.{MasterState}
use Rattle.protocol.specs.Client.{ClientState}
use Rattle.protocol.specs.Observer.{Observer, Placed, observed_moment, observed_call, observed_answer, orders_after_all}
use Rattle.protocol.specs.World.{WorldState, stamped, files_seen, after_master, after_server, after_client}
use Rattle.protocol.specs.Conforms.{IsLeftAs}
use Rattle.cell_world.proofs.Seeing.{after_both}
use Rattle.cell_world.specs.Seeing.{orders_seen}
use Rattle.cell_world.specs.Held.{HeldCell, IsHeldAs, AreHeldAs}
use Rattle.cell_world.proofs.Left.{files_alike}
use Rattle.cell_world.proofs.WorldOrders.{after_all}

abbrev pub sent_after : List Message → List Message → List Message
sent_after sent more = sent ++ stamped (suc (length sent)) more

seen_more : (trace : List Visible) (orders : Table (List Placed)) (seen more : List Seen) → AreHeldAs orders (orders_seen seen) → AreHeldAs (orders_after_all trace orders more) (orders_seen (seen ++ more))
seen_more trace orders seen more g =
    subst (AreHeldAs (orders_after_all trace orders more)) (sym (after_both [] _ seen more)) (after_all trace orders (orders_seen seen) more g)

pub held_after_master : (w : WorldState) (h : HeldCell) (moment : ℕ) (t : Taken MasterState) (m : MasterState) → IsHeldAs w h → IsLeftAs t.state m
    → IsHeldAs (after_master w moment t).world (record h { master = m; files = files_seen m h.files; sent = sent_after h.sent t.out.sent; seen = h.seen ++ t.seen; greatest = max h.greatest moment })
held_after_master w h moment t m g left = record {
  config = g.config;
  master = left;
  files = ap (files_seen t.state) g.files ∙ files_alike t.state m h.files left;
  servers = g.servers;
  clients = g.clients;
  sent = ap (λ ms. sent_after ms t.out.sent) g.sent;
  orders = seen_more (observed_moment w.config.skew_ms w.observer moment).trace w.observer.orders h.seen t.seen g.orders;
  greatest = ap (λ (n : ℕ). max n moment) g.greatest;
}

pub held_after_server : (w : WorldState) (h : HeldCell) (place moment : ℕ) (t : Taken ServerState) → IsHeldAs w h
    → IsHeldAs (after_server w place moment t).world (record h { servers = with_at h.servers place t.state; sent = sent_after h.sent t.out.sent; seen = h.seen ++ t.seen; greatest = max h.greatest moment })
held_after_server w h place moment t g = record {
  config = g.config;
  master = g.master;
  files = g.files;
  servers = ap (λ ss. with_at ss place t.state) g.servers;
  clients = g.clients;
  sent = ap (λ ms. sent_after ms t.out.sent) g.sent;
  orders = seen_more (observed_moment w.config.skew_ms w.observer moment).trace w.observer.orders h.seen t.seen g.orders;
  greatest = ap (λ (n : ℕ). max n moment) g.greatest;
}

files_answered : (o : Observer) (client : ℕ) (a : Option Answer) → (observed_answer o client a).files ≡ o.files
files_answered o client None = refl
files_answered o client (Some reply) = refl

orders_answered : (o : Observer) (client : ℕ) (a : Option Answer) → (observed_answer o client a).orders ≡ o.orders
orders_answered o client None = refl
orders_answered o client (Some reply) = refl

greatest_answered : (o : Observer) (client : ℕ) (a : Option Answer) → (observed_answer o client a).greatest ≡ o.greatest
greatest_answered o client None = refl
greatest_answered o client (Some reply) = refl

pub held_after_client : (w : WorldState) (h : HeldCell) (place moment : ℕ) (t : Taken ClientState) → IsHeldAs w h
    → IsHeldAs (after_client w place moment t).world (record h { clients = with_at h.clients place t.state; sent = sent_after h.sent t.out.sent; greatest = max h.greatest moment })
held_after_client w h place moment t g =
    let o : Observer = observed_moment w.config.skew_ms w.observer moment in
    record {
      config = g.config;
      master = g.master;
      files = files_answered o (suc place) t.out.answer ∙ g.files;
      servers = g.servers;
      clients = ap (λ cs. with_at cs place t.state) g.clients;
      sent = ap (λ ms. sent_after ms t.out.sent) g.sent;
      orders = subst (λ (orders : Table (List Placed)). AreHeldAs orders (orders_seen h.seen)) (sym (orders_answered o (suc place) t.out.answer)) g.orders;
      greatest = greatest_answered o (suc place) t.out.answer ∙ ap (λ (n : ℕ). max n moment) g.greatest;
    }

-- a call is seen
pub held_called : (w : WorldState) (h : HeldCell) (moment client : ℕ) (c : Call) → IsHeldAs w h
    → IsHeldAs (record w { observer = observed_call (observed_moment w.config.skew_ms w.observer moment) client c }) (record h { greatest = max h.greatest moment })
held_called w h moment client c g =
    record { config = g.config; master = g.master; files = g.files; servers = g.servers; clients = g.clients; sent = g.sent; orders = g.orders; greatest = ap (λ (n : ℕ). max n moment) g.greatest }
