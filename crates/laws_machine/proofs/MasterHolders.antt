-- Holders that were told, over an event of the master: it leaves the order of each handle that was used.
use Rattle.std.proofs.Common.{◌≡◌, ℕ, ◌<◌, true, false, List, [], map, length, refl, sym, ap, subst, ◌∙◌, inl, inr, arith}
use Rattle.std.specs.Prelude.{nat_le, filter, IsTrue}
use Rattle.std.proofs.lemmas.Bool.{cases_lt}
use Rattle.gfs_types.specs.declared.config.Config.{Config}
use Rattle.gfs_types.specs.declared.ids.Node.{Node}
use Rattle.gfs_types.specs.declared.ids.Node.TheVariants as node
use Rattle.messages.specs.declared.event.Event.{Event}
use Rattle.messages.specs.declared.event.Event.TheVariants as event
use Rattle.messages.specs.declared.event.NodeInput.{NodeInput}
use Rattle.messages.specs.declared.event.NodeInput.TheVariants as input
use Rattle.messages.specs.declared.message.Message.{Message}
use Rattle.messages.specs.declared.message.Location.{Location}
use Rattle.relaxed_file.specs.Order.{Entry}
use Rattle.protocol.specs.Tables.{Table}
use Rattle.protocol.specs.Sending.{the_server}
use Rattle.protocol.specs.Choice.{Choice}
use Rattle.protocol.specs.ClientStep.{client_step, client_call}
use Rattle.protocol.specs.Logged.{Logged}
use Rattle.protocol.specs.MasterStep.{master_restart}
use Rattle.protocol.specs.declared.seen.Seen.{Seen}
use Rattle.protocol.specs.Observer.{Placed, placed_in, observed_moment, orders_after_all}
use Rattle.protocol.specs.ServerStep.{server_restart}
use Rattle.protocol.specs.World.{WorldState, happens, IsReached}
use Rattle.laws_base.proofs.Steps.{same_some}
use Rattle.laws_base.specs.Reads.{IsTold}
use Rattle.laws_base.specs.Versions.{IsLeaseOver}
use Rattle.laws_base.proofs.Events.{IsGiven, HoldsAfter, holds_after}
use Rattle.laws_base.proofs.MasterTalks.{restart_shown}
use Rattle.laws_base.proofs.Numbering.{restarted_shown}
use Rattle.laws_base.proofs.Placing.{same_orders}
use Rattle.laws_versions.proofs.StillOrders.{used_still}
use Rattle.laws_machine.specs.ChunksAlike.{ChunkSides, entries_in}
use Rattle.laws_machine.specs.Rounds.{IsLogOf}
use Rattle.laws_machine.specs.ChunksBeside.{IsMastersEvent}
use Rattle.laws_machine.specs.HoldersApart.{IsApart}
use Rattle.laws_machine.specs.ToldHolders.{IsStandingFor, IsToldLocation, AreHoldersTold, HoldersMayGoOn}
use Rattle.laws_machine.proofs.HoldersOn.{told_before}

apart_nodes : (n : Node) (index : ℕ) → n ≡ the_server index → n ≡ node.Master → ⊥
apart_nodes n index server master = let both : the_server index ≡ node.Master = sym server ∙ master in absurd (cc)

no_server : (w : WorldState) (e : Event) (index moment : ℕ) (i : NodeInput) → IsGiven w e (the_server index) moment i → IsMastersEvent w e → ⊥
no_server w (event.Deliver number now) index moment (input.Deliver m) given is =
    apart_nodes m.receiver index given.1 (subst (λ (x : Message). x.receiver ≡ node.Master) (same_some is.0 m (sym is.1 ∙ given.0)) is.2)
no_server w (event.Deliver number now) index moment input.Tick given is = given
no_server w (event.Tick to now) index moment input.Tick given is = apart_nodes to index given.0 is
no_server w (event.Tick to now) index moment (input.Deliver m) given is = given
no_server w (event.Call c asked now) index moment i given is = given
no_server w (event.Restart to now) index moment i given is = given
no_server w (event.Rot server handle place byte) index moment i given is = given
no_server w (event.Fuse to count torn) index moment i given is = given

-- the order of a handle that was used

module _ (config : Config) (servers clients : ℕ) (w : WorldState) (r : IsReached config servers clients w) (handle : ℕ) (used : IsTrue w.master.up → handle < w.master.logged.next_handle) where
  abbrev IsSame : Table (List Placed) → Type 0
  IsSame orders = placed_in orders handle ≡ placed_in w.observer.orders handle

  none_shown : (moment : ℕ) (xs : List Seen) → xs ≡ [] → IsSame (orders_after_all (observed_moment w.config.skew_ms w.observer moment).trace w.observer.orders xs)
  none_shown moment xs none = ap (λ (ys : List Seen). placed_in (orders_after_all (observed_moment w.config.skew_ms w.observer moment).trace w.observer.orders ys) handle) none

  each_same : HoldsAfter w (λ e x. IsMastersEvent w e → IsSame x.world.observer.orders)
  each_same = record {
    nothing = λ e is. refl;
    masters = λ e moment i choice given up is. used_still config servers clients w r (observed_moment w.config.skew_ms w.observer moment).trace moment i choice handle used;
    opens = λ e moment choice is. none_shown moment (master_restart w.master moment choice).seen (restart_shown w.master moment choice);
    serves = λ e index moment s i choice at given up is. absurd (no_server w e _ moment i given is);
    restarts = λ e index moment s choice at is. none_shown moment (server_restart s moment choice).seen (restarted_shown s moment choice choice.ending);
    steps = λ e index moment s i choice at given up is. ap (λ (os : Table (List Placed)). placed_in os handle) (same_orders (observed_moment w.config.skew_ms w.observer moment) _ (client_step s moment i choice).out.answer);
    calls = λ e index moment s c choice at may is. ap (λ (os : Table (List Placed)). placed_in os handle) (same_orders _ _ (client_call s moment c choice).out.answer);
    rots = λ e index q s x place byte ending is_kept at there up is. refl;
  }

module _ (config : Config) (servers clients : ℕ) (w : WorldState) (r : IsReached config servers clients w) (e : Event) (choice : Choice) (is : IsMastersEvent w e) (k j : ChunkSides) (log : IsLogOf w.master k.log) (before : k.orders ≡ w.observer.orders)
    (after : j.orders ≡ (happens w e choice).world.observer.orders) (told : AreHoldersTold w k) (may : HoldersMayGoOn w (happens w e choice).world k j)
  where
    abbrev then_ : WorldState
    then_ = (happens w e choice).world

    log_is : IsTrue w.master.up → k.log ≡ w.master.logged
    log_is up = by_log log
      where
        by_log : IsLogOf w.master k.log → k.log ≡ w.master.logged
        by_log (inl here) = here.1
        by_log (inr down) = absurd (let both : true ≡ false = sym up ∙ down.0 in cc)

    entries_same : (handle : ℕ) → handle < k.log.next_handle → entries_in j.orders handle ≡ entries_in k.orders handle
    entries_same handle used =
        let same = holds_after w (λ e x. IsMastersEvent w e → placed_in x.world.observer.orders handle ≡ placed_in w.observer.orders handle)
        (each_same config servers clients w r handle (λ up. subst (λ (l : Logged). handle < l.next_handle) (log_is up) used)) e choice is in
        ap (λ (os : Table (List Placed)). entries_in os handle) after ∙ (ap (λ (ps : List Placed). map (λ (p : Placed). p.entry) ps) same ∙ ap (λ (os : Table (List Placed)). entries_in os handle) (sym before))

    pub standing_on : (file index handle version : ℕ) → handle < k.log.next_handle
        → (IsApart (IsLeaseOver w) k handle version (record { file = file; index = index }) → IsApart (IsLeaseOver then_) j handle version (record { file = file; index = index }))
        → IsStandingFor w k file index handle version → IsStandingFor then_ j file index handle version
    standing_on file index handle version used apart x =
        let chunk = may.orders file index (x.stands).count in
        record {
          stands = record {
            count = chunk.0;
            entries = ap (λ (es : List Entry). filter (λ (entry : Entry). nat_le entry.round version) es) (entries_same handle used)
                ∙ ((x.stands).entries ∙ ap (λ (es : List Entry). filter (λ (entry : Entry). nat_le entry.round version) es) (sym chunk.1));
          };
          apart = apart x.apart;
        }

    location_on : (client file : ℕ) (l : Location) → IsTold w.sent client file l → IsToldLocation then_ j file l
    location_on client file l t =
        let it : IsToldLocation w k file l = told client file l t in
        record {
          used = (let low = it.used in let more = may.next in omega (arith, low, more));
          round = standing_on file l.index l.handle.0 l.round.0 it.used (may.apart client file l t l.round.0 (inl refl)) it.round;
          holders = λ n x there. let one = it.holders n x there in (one.0, standing_on file l.index l.handle.0 x.version.0 it.used (may.apart client file l t x.version.0 (inr (n, x, there, refl))) one.1);
        }

    pub masters_events_keep_holders : AreHoldersTold then_ j
    masters_events_keep_holders client file l t = elim (cases_lt (t.sent_is).0 (length w.sent)) [
      | inl early ↦ location_on client file l (told_before config servers clients w r e choice client file l t early)
      | inr from ↦ may.begun client file l t from
    ]
