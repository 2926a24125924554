-- What the master grants it grants as it takes a message that is no Ask: such a step begins no copy, and no file expires in it.
use Rattle.std.proofs.Common.{◌≡◌, ℕ, suc, ◌<◌, Bool, true, List, [], ◌∷◌, ◌++◌, length, refl, sym, subst, inl, inr, arith}
use Rattle.std.specs.Prelude.{IsTrue}
use Rattle.gfs_types.specs.declared.config.Config.{Config}
use Rattle.messages.specs.declared.event.Event.{Event}
use Rattle.messages.specs.declared.event.NodeInput.{NodeInput}
use Rattle.messages.specs.declared.event.NodeInput.TheVariants as input
use Rattle.messages.specs.declared.message.Message.{Message}
use Rattle.log_records.specs.declared.record.Record.{Record}
use Rattle.log_records.specs.declared.record.Record.TheVariants as log
use Rattle.protocol.specs.Sending.{server_id, handle_of, version_of}
use Rattle.protocol.specs.Choice.{Choice, Ending, Goes, Lost, Stops}
use Rattle.protocol.specs.Seen.{Taken, no_step}
use Rattle.protocol.specs.Logged.{LogDisk, LogChange, AppendRecord, WriteCheckpoint, log_changed, checkpoint_of}
use Rattle.protocol.specs.Master.{MasterState, MasterDoing, master_begins}
use Rattle.protocol.specs.MasterStep.{master_at, master_goes, master_ends, master_bounded, master_step, master_restart, may_end}
use Rattle.protocol.specs.ServerStep.{server_step, server_restart}
use Rattle.protocol.specs.ClientStep.{client_step, client_call}
use Rattle.protocol.specs.World.{WorldState, stamped, happens, IsReached}
use Rattle.laws_base.specs.Laws.{is_grant, grants_of}
use Rattle.laws_base.proofs.Steps.{on_cond}
use Rattle.laws_base.proofs.Entries.{AllOf, all_joined}
use Rattle.laws_base.proofs.MasterMoves.{IsNoGrantRecord, Keeps, Nothing, NoneEnded}
use Rattle.laws_base.proofs.MasterSteps.{goes_keeps}
use Rattle.laws_base.proofs.ClientMoves.{HasNoOrder, quiet_orders, client_quiet, call_quiet}
use Rattle.laws_base.proofs.SentReached.{count-sent, server_quiet, server_restarts_quiet}
use Rattle.laws_base.proofs.Events.{HoldsAfter, holds_after}
use Rattle.laws_names.specs.NameTrails.{log_read}
use Rattle.laws_base.proofs.MasterPremises.{IsOfCalls}
use Rattle.laws_versions.proofs.UnaskedSteps.{IsNoAsk, KeepsThese, KeepsNames, KeepsReports, taken_kept, ticked_kept}
use Rattle.laws_versions.proofs.AskedSteps.{IsNoGrant, names_grant_nothing}
use Rattle.laws_versions.proofs.CopiedSources.{asked_or_not, asked_step, free_reached}
use Rattle.laws_versions.proofs.ExtendLaws.{restart_silent}
use Rattle.laws_versions.proofs.SharedChunks.{quiet_sent}
use Rattle.laws_machine.specs.GrantedRecords.{IsAttempted, IsGrantedFrom, AreGrantedFrom, IsGrantOf, HasGrantRecord}
use Rattle.laws_machine.proofs.GrantedRecords.{steps_grant_what_was_attempted}
use Rattle.laws_machine.proofs.SentGrants.{sent_grants_are_logged}
use Rattle.headline.specs.RoundsApart.{IsNewGrant}

-- a Grant, or a record of a name call or of a snapshot
abbrev pub IsPlainRecord : Record → Type 0
IsPlainRecord (log.Grant handle version primary members) = Unit {0}
IsPlainRecord other = IsOfCalls other

abbrev pub IsPlain : LogChange → Type 0
IsPlain (AppendRecord entry) = IsPlainRecord entry
IsPlain (WriteCheckpoint items) = Unit {0}

calls_are_plain : (r : Record) → IsOfCalls r → IsPlainRecord r
calls_are_plain (log.Grant handle version primary members) is = tt
calls_are_plain other is = is

abbrev ArePlain : MasterDoing → Type 0
ArePlain d = AllOf IsPlain d.changes

plain_names : KeepsThese IsOfCalls ArePlain
plain_names =
    record {
      said = λ d receiver b is h. h;
      ordered = λ d server b is h. h;
      recorded = λ d r is h. all_joined IsPlain d.changes (AppendRecord r ∷ []) h (calls_are_plain r is, tt);
      checkpointed = λ d h. all_joined IsPlain d.changes (WriteCheckpoint (checkpoint_of d.master.logged) ∷ []) h (tt, tt);
      less = λ d handles h. h;
      fewer = λ d handles h. h;
      waiting = λ d ss h. h;
      refusing = λ d bs h. h;
    }

plain_reports : KeepsReports ArePlain
plain_reports =
    record {
      held = λ d server handle version h. h;
      heard = λ d server lines h. h;
      in_time = λ d h. h;
      noted = λ d handle a b at same h. h;
      granted = λ d handle a primary members at h. all_joined IsPlain d.changes (AppendRecord (log.Grant (handle_of handle) (version_of a.version) (server_id primary) members) ∷ []) h (tt, tt);
      ended = λ d handle h. h;
      lengthened = λ d handle until row is late h. h;
    }

-- a step that takes a message but an Ask
pub messages_are_plain : (m : MasterState) (moment : ℕ) (x : Message) (refused : List Bool) → IsNoAsk x.body → AllOf IsPlain (master_goes m moment (input.Deliver x) refused).changes
messages_are_plain m moment x refused none = taken_kept IsOfCalls (λ r is. is) ArePlain plain_names plain_reports (master_begins (master_at m moment) refused) x none tt

abbrev GrantsNothing : MasterDoing → Type 0
GrantsNothing d = AllOf IsNoGrant d.changes

ungranting_names : KeepsNames GrantsNothing
ungranting_names =
    record {
      said = λ d receiver b is h. h;
      ordered = λ d server b is h. h;
      recorded = λ d r is h. all_joined IsNoGrant d.changes (AppendRecord r ∷ []) h (names_grant_nothing r is, tt);
      checkpointed = λ d h. all_joined IsNoGrant d.changes (WriteCheckpoint (checkpoint_of d.master.logged) ∷ []) h (tt, tt);
      less = λ d handles h. h;
      fewer = λ d handles h. h;
      waiting = λ d ss h. h;
      refusing = λ d bs h. h;
    }

-- a tick
ticks_grant_nothing : (m : MasterState) (moment : ℕ) (refused : List Bool) → AllOf IsNoGrant (master_goes m moment input.Tick refused).changes
ticks_grant_nothing m moment refused = ticked_kept GrantsNothing ungranting_names (λ d h. h) (master_begins (master_at m moment) refused) tt

up_keeps : Keeps ⊥ Nothing NoneEnded (λ c. c.up ≡ true)
up_keeps =
    record {
      sound = λ asks. absurd asks;
      tells = λ c receiver b quiet h. h;
      orders = λ c server b is plain h. h;
      revokes = λ c handle row is h. h;
      grants = λ c handle version until primary members told due names from idle h. h;
      appends = λ c r due plain names h. h;
      checkpoint = λ c tree h. h;
      less = λ c handles copied h. h;
      ends = λ c handle row is word h. h;
      extends = λ c handle until row is left later from h. h;
    }

-- a master stays up in its step
pub goes_up : (m : MasterState) (moment : ℕ) (i : NodeInput) (refused : List Bool) → IsTrue m.up → IsTrue (master_goes m moment i refused).master.up
goes_up m moment i refused up = goes_keeps (λ c. c.up ≡ true) up_keeps m moment i refused up

none_has : (xs : List LogChange) (handle version : ℕ) → AllOf IsNoGrant xs → HasGrantRecord xs handle version → ⊥
none_has [] handle version none has = has
none_has (WriteCheckpoint items ∷ xs) handle version none (inl is) = is
none_has (AppendRecord r ∷ xs) handle version none (inl is) = by_record r none.0 is
  where
    by_record : (r : Record) → IsNoGrantRecord r → IsGrantOf (AppendRecord r) handle version → ⊥
    by_record (log.Grant h v primary members) plain is = plain
    by_record other plain is = is
none_has (x ∷ xs) handle version none (inr later) = none_has xs handle version none.1 later

attempted_of : (m : MasterState) (d : LogDisk) (xs : List LogChange) (handle version : ℕ) → AreGrantedFrom m d xs → HasGrantRecord xs handle version → IsAttempted m handle version
attempted_of m d [] handle version all has = absurd has
attempted_of m d (WriteCheckpoint items ∷ xs) handle version all (inl is) = absurd is
attempted_of m d (WriteCheckpoint items ∷ xs) handle version all (inr later) = attempted_of m (log_changed d (WriteCheckpoint items)) xs handle version all later
attempted_of m d (AppendRecord r ∷ xs) handle version all (inr later) = attempted_of m (log_changed d (AppendRecord r)) xs handle version all.1 later
attempted_of m d (AppendRecord r ∷ xs) handle version all (inl is) = by_record r all.0 is
  where
    by_record : (r : Record) → IsGrantedFrom m (log_read d) r → IsGrantOf (AppendRecord r) handle version → IsAttempted m handle version
    by_record (log.Grant h v primary members) one is = subst (λ (n : ℕ). IsAttempted m n version) is.0 (subst (λ (n : ℕ). IsAttempted m h.0 n) is.1 one.attempted)
    by_record other one is = absurd is

-- The step of the master in which this version of the chunk is granted: it takes a message, and goes through.
pub record IsGrantingStep (w : WorldState) (handle version : ℕ) (m : MasterState) : Type 0 where
  pub up : IsTrue w.master.up
  pub moment : ℕ
  pub message : Message
  pub refused : List Bool
  pub no_ask : IsNoAsk message.body
  pub goes : m ≡ (master_goes w.master moment (input.Deliver message) refused).master
  pub has : HasGrantRecord (master_goes w.master moment (input.Deliver message) refused).changes handle version
  pub attempted : IsAttempted w.master handle version

module _ (config : Config) (servers clients : ℕ) (w : WorldState) (r : IsReached config servers clients w) (clocks : IsTrue w.observer.are_clocks_kept) (handle version : ℕ) where
  abbrev Granting : WorldState → Type 0
  Granting v = IsNewGrant w v handle version → IsGrantingStep w handle version v.master

  k : ℕ
  k = suc (length w.sent)

  quiet : {A : Type 0} (ms : List Message) → HasNoOrder ms → grants_of handle version w.sent < grants_of handle version (w.sent ++ stamped (suc (length w.sent)) ms) → A
  quiet ms none new = absurd (let few = quiet_sent w.sent (suc (length w.sent)) ms handle version none in omega (arith, few, new))

  by_step : (moment : ℕ) (i : NodeInput) (choice : Choice) → IsTrue w.master.up → grants_of handle version w.sent < grants_of handle version (w.sent ++ stamped (suc (length w.sent)) (master_step w.master moment i choice).out.sent)
      → IsGrantingStep w handle version (master_step w.master moment i choice).state
  by_step moment i choice up =
      on_cond good w.master.up (master_bounded w.master i d choice) (no_step w.master)
      (λ _. on_cond good (may_end w.master i d choice.ending) (master_ends w.master d choice choice.ending) (no_step w.master) (λ _. by_ending choice.ending) (λ _. quiet [] (λ epoch count. refl)))
      (λ _. quiet [] (λ epoch count. refl))
    where
      d : MasterDoing
      d = master_goes w.master moment i choice.refused

      good : Taken MasterState → Type 0
      good t = grants_of handle version w.sent < grants_of handle version (w.sent ++ stamped (suc (length w.sent)) t.out.sent) → IsGrantingStep w handle version t.state

      by_input : (j : NodeInput) → HasGrantRecord (master_goes w.master moment j choice.refused).changes handle version → IsGrantingStep w handle version (master_goes w.master moment j choice.refused).master
      by_input input.Tick has = absurd (none_has (master_goes w.master moment input.Tick choice.refused).changes handle version (ticks_grant_nothing w.master moment choice.refused) has)
      by_input (input.Deliver x) has = elim (asked_or_not (input.Deliver x)) [
        | inl none ↦
            record {
              up = up;
              moment = moment;
              message = x;
              refused = choice.refused;
              no_ask = none;
              goes = refl;
              has = has;
              attempted = attempted_of w.master w.master.disk (master_goes w.master moment (input.Deliver x) choice.refused).changes handle version
                  (steps_grant_what_was_attempted config servers clients w r clocks up moment (input.Deliver x) choice.refused) has;
            }
        | inr ask ↦
            absurd (none_has (master_goes w.master moment (input.Deliver x) choice.refused).changes handle version
            (asked_step config servers clients w r clocks up (free_reached config servers clients w r clocks up) moment (input.Deliver x) choice.refused ask).changes has)
      ]

      by_ending : (e : Ending) → good (master_ends w.master d choice e)
      by_ending Goes new =
          let whole = count-sent (λ b. is_grant handle version b) (suc (length w.sent)) w.sent choice.order d.sent in
          by_input i (sent_grants_are_logged config servers clients w r up moment i choice.refused handle version (omega (arith, whole, new)))
      by_ending Lost new = quiet [] (λ epoch count. refl) new
      by_ending (Stops made) new = quiet [] (λ epoch count. refl) new

  each_granting : HoldsAfter w (λ e x. Granting x.world)
  each_granting =
      record {
        nothing = λ e new. absurd (omega (arith, new));
        masters = λ e moment i choice given up new. by_step moment i choice up new;
        opens = λ e moment choice new. quiet (master_restart w.master moment choice).out.sent (subst HasNoOrder (sym (restart_silent w.master moment choice)) (λ epoch count. refl)) new;
        serves = λ e index moment s i choice at given up new. quiet (server_step s moment i choice).out.sent (server_quiet s moment i choice) new;
        restarts = λ e index moment s choice at new. quiet (server_restart s moment choice).out.sent (server_restarts_quiet s moment choice choice.ending) new;
        steps = λ e index moment s i choice at given up new. quiet (client_step s moment i choice).out.sent (quiet_orders (client_step s moment i choice).out.sent (client_quiet s moment i choice)) new;
        calls = λ e index moment s c choice at may new. quiet (client_call s moment c choice).out.sent (quiet_orders (client_call s moment c choice).out.sent (call_quiet s moment c choice)) new;
        rots = λ e index q s x place byte ending is_kept at there up new. absurd (omega (arith, new));
      }

  pub granting_step : (e : Event) (choice : Choice) → IsNewGrant w (happens w e choice).world handle version → IsGrantingStep w handle version (happens w e choice).world.master
  granting_step e choice new = holds_after w (λ e x. Granting x.world) each_granting e choice new
