-- With which size of its chunk a Grant goes, by the rows before and after the event in which it goes.
use Rattle.std.proofs.Common.{◌≡◌, ℕ, suc, ◌≤◌, Bool, List, ◌++◌, length, Some, refl, sym, ap, subst, ◌∙◌, inl, inr, arith}
use Rattle.std.specs.Prelude.{IsTrue}
use Rattle.gfs_types.specs.declared.config.Config.{Config}
use Rattle.messages.specs.declared.event.Event.{Event}
use Rattle.messages.specs.declared.event.NodeInput.{NodeInput}
use Rattle.messages.specs.declared.message.Body.{Body}
use Rattle.messages.specs.declared.message.Message.{Message}
use Rattle.chunk_table.specs.ChunkTable.{ChunkRow, chunk_of}
use Rattle.protocol.specs.Tables.{element_at}
use Rattle.protocol.specs.Choice.{Choice, Ending, Goes, Lost, Stops}
use Rattle.protocol.specs.Seen.{Taken, no_step}
use Rattle.protocol.specs.Logged.{Logged}
use Rattle.protocol.specs.Master.{MasterState, MasterDoing}
use Rattle.protocol.specs.MasterStep.{master_goes, master_ends, master_bounded, master_step, master_restart, may_end}
use Rattle.protocol.specs.ServerStep.{server_step, server_restart}
use Rattle.protocol.specs.ClientStep.{client_step, client_call}
use Rattle.protocol.specs.World.{WorldState, stamped, happens, IsReached}
use Rattle.laws_base.specs.Laws.{IsSizeGranted, is_grant, grants_of}
use Rattle.laws_base.proofs.ClientMoves.{HasNoOrder, quiet_orders, client_quiet, call_quiet}
use Rattle.laws_base.proofs.LeaseOrders.{says_grant}
use Rattle.laws_base.proofs.LeasesTold.{granting}
use Rattle.laws_base.proofs.MembersRecorded.{all_at, all_in_order}
use Rattle.laws_base.proofs.SentReached.{server_quiet, server_restarts_quiet}
use Rattle.laws_base.proofs.Steps.{on_cond, none_some, same_some}
use Rattle.laws_base.proofs.Events.{HoldsAfter, holds_after}
use Rattle.laws_base.proofs.RequestsOnce.{later_cases}
use Rattle.laws_base.proofs.SentGrants.{counted_one}
use Rattle.laws_versions.specs.ToldSizes.{GrantsTellTheirRowsSize}
use Rattle.laws_versions.proofs.ExtendLaws.{restart_silent}
use Rattle.laws_versions.proofs.GrantedSizes.{IsSizeIn, AreSized, TellsSize, goes_sized, not_new}
use Rattle.laws_versions.proofs.SharedChunks.{quiet_sent}

-- such a Grant is counted
pub size_counts : (handle version size : ℕ) (sent : List Message) → IsSizeGranted sent handle version size → 1 ≤ grants_of handle version sent
size_counts handle version size sent g =
    counted_one (λ m. is_grant handle version m.body) sent g.1 g.0 g.2 (granting g.3 handle version g.4 g.5 (g.1).body (says_grant (size, g.6)))

module _ (config : Config) (servers clients : ℕ) (w : WorldState) (r : IsReached config servers clients w) where
  abbrev now : Logged
  now = w.master.logged

  -- what a step of the master says and leaves
  abbrev IsOfRows : Taken MasterState → Type 0
  IsOfRows t = (place : ℕ) (x : Message) → element_at t.out.sent place ≡ Some x → TellsSize now x.body × AreSized now t.state.logged

  step_of_rows : IsTrue w.master.up → (moment : ℕ) (i : NodeInput) (choice : Choice) → IsOfRows (master_step w.master moment i choice)
  step_of_rows up moment i choice =
      on_cond IsOfRows w.master.up (master_bounded w.master i d choice) (no_step w.master)
      (λ _. on_cond IsOfRows (may_end w.master i d choice.ending) (master_ends w.master d choice choice.ending) (no_step w.master) (λ _. by_ending choice.ending) (λ _ place x none. none_some x none))
      (λ _ place x none. none_some x none)
    where
      d : MasterDoing
      d = master_goes w.master moment i choice.refused

      by_ending : (e : Ending) → IsOfRows (master_ends w.master d choice e)
      by_ending Goes place x at =
          let sized = goes_sized config servers clients w r up moment i choice.refused in
          (all_at (λ (y : Message). TellsSize now y.body) (master_ends w.master d choice Goes).out.sent place x (all_in_order (λ y. TellsSize now y.body) choice.order d.sent sized.1) at, sized.0)
      by_ending Lost place x none = none_some x none
      by_ending (Stops made) place x none = none_some x none

  module _ (handle version size : ℕ) (before after : ChunkRow) (few : grants_of handle version w.sent ≡ 0) (was : chunk_of now.table handle ≡ Some before) where
    abbrev Tells : WorldState → Type 0
    Tells v = IsSizeGranted v.sent handle version size → chunk_of v.master.logged.table handle ≡ Some after → (size ≡ before.shape.chunk) × (size ≡ after.shape.chunk)

    -- a size that was in the log is the row's
    of_row : IsTrue w.master.up → (n : ℕ) → IsSizeIn now handle n → n ≡ before.shape.chunk
    of_row up n (inl row) = sym row.2 ∙ ap (λ (x : ChunkRow). x.shape.chunk) (same_some row.0 before (sym row.1 ∙ was))
    of_row up n (inr new) = absurd (not_new config servers clients w r up handle (before, was) new)

    quiet : {A : Type 0} (ms : List Message) → HasNoOrder ms → IsSizeGranted (w.sent ++ stamped (suc (length w.sent)) ms) handle version size → A
    quiet ms none g =
        let less = quiet_sent w.sent (suc (length w.sent)) ms handle version none in
        let some = size_counts handle version size (w.sent ++ stamped (suc (length w.sent)) ms) g in
        absurd (omega (arith, few, less, some))

    unsent : {A : Type 0} → IsSizeGranted w.sent handle version size → A
    unsent g = absurd (let some = size_counts handle version size w.sent g in omega (arith, few, some))

    stepped : (moment : ℕ) (i : NodeInput) (choice : Choice) → IsTrue w.master.up → IsSizeGranted (w.sent ++ stamped (suc (length w.sent)) (master_step w.master moment i choice).out.sent) handle version size
        → chunk_of (master_step w.master moment i choice).state.logged.table handle ≡ Some after → (size ≡ before.shape.chunk) × (size ≡ after.shape.chunk)
    stepped moment i choice up g is = elim (later_cases w.sent (suc (length w.sent)) (master_step w.master moment i choice).out.sent g.0 g.1 g.2) [
      | inl early ↦ unsent (g.0, g.1, early, g.3, g.4, g.5, g.6)
      | inr new ↦
          let of = step_of_rows up moment i choice (new.1).0 new.0 (new.1).1 in
          let told = of_row up size (subst (λ (b : Body). TellsSize now b) ((new.2).2 ∙ g.6) of.0) in
          let left = of_row up after.shape.chunk ((of.1).rows handle after is) in
          (told, told ∙ sym left)
    ]

    each_telling : HoldsAfter w (λ e x. Tells x.world)
    each_telling =
        record {
          nothing = λ e g is. unsent g;
          masters = λ e moment i choice given up g is. stepped moment i choice up g is;
          opens = λ e moment choice g is. quiet (master_restart w.master moment choice).out.sent (subst HasNoOrder (sym (restart_silent w.master moment choice)) (λ epoch count. refl)) g;
          serves = λ e index moment s i choice at given up g is. quiet (server_step s moment i choice).out.sent (server_quiet s moment i choice) g;
          restarts = λ e index moment s choice at g is. quiet (server_restart s moment choice).out.sent (server_restarts_quiet s moment choice choice.ending) g;
          steps = λ e index moment s i choice at given up g is. quiet (client_step s moment i choice).out.sent (quiet_orders (client_step s moment i choice).out.sent (client_quiet s moment i choice)) g;
          calls = λ e index moment s c choice at may g is. quiet (client_call s moment c choice).out.sent (quiet_orders (client_call s moment c choice).out.sent (call_quiet s moment c choice)) g;
          rots = λ e index q s x place byte ending is_kept at there up g is. unsent g;
        }

pub grants_tell_their_rows_size : GrantsTellTheirRowsSize
grants_tell_their_rows_size config servers clients w r e choice handle version size few g before after was is =
    holds_after w (λ e x. Tells config servers clients w r handle version size before after few was x.world) (each_telling config servers clients w r handle version size before after few was) e choice g is
