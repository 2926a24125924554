-- What is seen of entries depends on the calls and answers, the chunks' orders, the greatest moment, and whether clocks were kept, alone.
use Rattle.std.proofs.Common.{◌≡◌, ℕ, ◌+◌, Bool, List, [], ◌∷◌, ◌++◌, Option, Some, None, refl, ap, ◌∙◌}
use Rattle.std.specs.Prelude.{◌&&◌, nat_lt, nat_le, max, if◌then◌else◌}
use Rattle.gfs_types.specs.declared.ids.Node.{Node}
use Rattle.gfs_types.specs.declared.ids.Node.TheVariants as node
use Rattle.gfs_types.specs.declared.answer.Answer.{Answer}
use Rattle.relaxed_file.specs.Run.{Visible, Called, Answered, Passed}
use Rattle.protocol.specs.declared.seen.Seen.{Seen}
use Rattle.protocol.specs.Tables.{Table}
use Rattle.protocol.specs.Observer.{Observer, Placed, observed_moment, orders_after_all}
use Rattle.protocol_journal.specs.Journal.{StepCause, Calls, Takes, Restarts, Entry, asked, noticed, answered, entry_observed, observed_after}

pub record View : Type 0 where
  pub trace : List Visible
  pub orders : Table (List Placed)
  pub greatest : ℕ
  pub are_clocks_kept : Bool

abbrev pub view : Observer → View
view o = record { trace = o.trace; orders = o.orders; greatest = o.greatest; are_clocks_kept = o.are_clocks_kept }

abbrev moment_on : ℕ → View → ℕ → View
moment_on skew v moment =
    record {
      trace = if nat_lt v.greatest moment then v.trace ++ Passed moment ∷ [] else v.trace;
      orders = v.orders;
      greatest = max v.greatest moment;
      are_clocks_kept = v.are_clocks_kept && nat_le v.greatest (moment + skew);
    }

abbrev noticed_on : View → List Seen → View
noticed_on v seen = record v { orders = orders_after_all v.trace v.orders seen }

abbrev shown_on : View → Visible → View
shown_on v x = record v { trace = v.trace ++ x ∷ [] }

same_moment : (skew : ℕ) (o p : Observer) (moment : ℕ) → view o ≡ view p → view (observed_moment skew o moment) ≡ view (observed_moment skew p moment)
same_moment skew o p moment h = ap (λ (v : View). moment_on skew v moment) h

same_asked : (skew : ℕ) (o p : Observer) (moment : ℕ) (n : Node) (cause : StepCause) → view o ≡ view p → view (asked skew o moment n cause) ≡ view (asked skew p moment n cause)
same_asked skew o p moment node.Master cause h = h
same_asked skew o p moment (node.Server s) cause h = h
same_asked skew o p moment (node.Client c) (Calls call) h = ap (λ (v : View). shown_on (moment_on skew v moment) (Called c.0 call)) h
same_asked skew o p moment (node.Client c) (Takes i) h = h
same_asked skew o p moment (node.Client c) Restarts h = h

same_noticed : (o p : Observer) (n : Node) (seen : List Seen) → view o ≡ view p → view (noticed o n seen) ≡ view (noticed p n seen)
same_noticed o p node.Master seen h = ap (λ (v : View). noticed_on v seen) h
same_noticed o p (node.Server s) seen h = ap (λ (v : View). noticed_on v seen) h
same_noticed o p (node.Client c) seen h = h

same_answered : (o p : Observer) (n : Node) (reply : Option Answer) → view o ≡ view p → view (answered o n reply) ≡ view (answered p n reply)
same_answered o p node.Master reply h = h
same_answered o p (node.Server s) reply h = h
same_answered o p (node.Client c) None h = h
same_answered o p (node.Client c) (Some reply) h = ap (λ (v : View). shown_on v (Answered c.0 reply)) h

pub same_after : (skew : ℕ) (o p : Observer) (entries : List Entry) → view o ≡ view p → view (observed_after skew o entries) ≡ view (observed_after skew p entries)
same_after skew o p [] h = h
same_after skew o p (e ∷ rest) h =
    let before : Observer = asked skew o e.moment e.node e.cause in
    let other : Observer = asked skew p e.moment e.node e.cause in
    same_after skew (entry_observed skew o e) (entry_observed skew p e) rest
    (same_answered (noticed (observed_moment skew before e.moment) e.node e.seen) (noticed (observed_moment skew other e.moment) e.node e.seen) e.node e.out.answer
    (same_noticed (observed_moment skew before e.moment) (observed_moment skew other e.moment) e.node e.seen
    (same_moment skew before other e.moment (same_asked skew o p e.moment e.node e.cause h))))
