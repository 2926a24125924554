-- In a step of the master no attempt of a chunk is below a version that an order of the step gives.
use Rattle.std.proofs.Common.{◌≡◌, ℕ, suc, ◌≤◌, true, false, List, [], ◌∷◌, ◌++◌, Some, None, refl, sym, ap, subst, ◌∙◌, inl, inr, arith}
use Rattle.std.specs.FinMap as table
use Rattle.messages.specs.declared.event.NodeInput.{NodeInput}
use Rattle.messages.specs.declared.message.Message.{Message}
use Rattle.messages.specs.declared.message.Body.{Body}
use Rattle.messages.specs.declared.message.Body.TheVariants as body
use Rattle.log_records.specs.declared.record.Record.{Record}
use Rattle.log_records.specs.declared.record.Record.TheVariants as log
use Rattle.protocol.specs.Choice.{Choice, Ending, Goes, Lost, Stops}
use Rattle.protocol.specs.Seen.{Taken, no_step}
use Rattle.protocol.specs.Sending.{handle_of, version_of}
use Rattle.protocol.specs.Tables.{removed_all}
use Rattle.protocol.specs.Logged.{LogDisk, after_record, copies_given_up}
use Rattle.protocol.specs.Master.{MasterState, MasterDoing, VersionAttempt}
use Rattle.protocol.specs.MasterStep.{master_goes, master_ends, master_bounded, master_step, may_end}
use Rattle.laws_base.proofs.Steps.{on_cond, none_some, same_some, put_cases, gone_split, removed_cases}
use Rattle.laws_base.proofs.Words.{is_of_lease, true_false}
use Rattle.laws_base.proofs.ChunkRows.{rows_of}
use Rattle.laws_base.proofs.MasterMoves.{Core, core_of, NoneEnded, core_appended, core_ended, grant_record}
use Rattle.laws_base.proofs.MessagesSent.{IsSent, sent_last, none_sent, ordered_sent}
use Rattle.laws_base.proofs.OrderNumbers.{state_of}
use Rattle.laws_base.proofs.NamesReached.{IsUpToLog, IsLogged}
use Rattle.laws_base.proofs.RowsLogged.{IsFoundRows, IsRowedLog}
use Rattle.laws_base.proofs.RowsKept.{rows_kept}
use Rattle.laws_base.proofs.GrantsOnce.{row_below}
use Rattle.laws_base.proofs.Awaited.{Attempts}
use Rattle.laws_base.specs.Given.{version_given}
use Rattle.laws_base.proofs.MasterActs.{IsRowing, rowing_keeps, core_checkpointed, Waits, Acts}
use Rattle.laws_base.proofs.WaitsKept.{WaitsHere, any_input}
use Rattle.laws_base.proofs.ActsOfSteps.{goes_acts}
use Rattle.laws_base.proofs.IssuedNumbers.{IsPassed, passed_after, passed_grant, passed_ended, passed_issue, passed_copy, passed_less}

quiet_given : (b : Body) → is_of_lease b ≡ false → version_given b ≡ None
quiet_given (body.Create order handle version) quiet = true_false quiet
quiet_given (body.SetVersion order handle version base) quiet = true_false quiet
quiet_given (body.CopyLocal order handle version copy copy_version) quiet = true_false quiet
quiet_given other quiet = refl

module _ (handle : ℕ) where
  -- what is attempted was issued; so is what an order of this step gives, and no attempt is below it
  pub record AreAbove (c : Core) (attempts : Attempts) : Type 0 where
    pub tried : (a : VersionAttempt) → table.get attempts handle ≡ Some a → IsPassed handle a.version c.logged
    pub given : (m : Message) → IsSent c.sent m → (n : ℕ) → version_given m.body ≡ Some (handle, n) → IsPassed handle n c.logged × ((a : VersionAttempt) → table.get attempts handle ≡ Some a → n ≤ a.version)

  sends : (c : Core) (attempts : Attempts) (m : Message) (count : ℕ) → version_given m.body ≡ None → AreAbove c attempts → AreAbove (record c { sent = c.sent ++ m ∷ []; order_count = count }) attempts
  sends c attempts m count none h =
      record {
        tried = h.tried;
        given = λ x s n g.
            elim (sent_last c.sent m x s) [
              | inl old ↦ h.given x old n g
              | inr same ↦ none_some (handle, n) (sym none ∙ ap (λ (y : Message). version_given y.body) same ∙ g)
            ];
      }

  -- an order gives the version of an attempt
  gave : (c : Core) (attempts : Attempts) (chunk : ℕ) (a : VersionAttempt) (m : Message) (count : ℕ) → table.get attempts chunk ≡ Some a → version_given m.body ≡ Some (chunk, a.version) → AreAbove c attempts
      → AreAbove (record c { sent = c.sent ++ m ∷ []; order_count = count }) attempts
  gave c attempts chunk a m count at given h =
      record {
        tried = h.tried;
        given = λ x s n g.
            elim (sent_last c.sent m x s) [
              | inl old ↦ h.given x old n g
              | inr same ↦
                  let both : (chunk, a.version) ≡ (handle, n) = same_some (chunk, a.version) (handle, n) (sym given ∙ ap (λ (y : Message). version_given y.body) same ∙ g) in
                  let there : table.get attempts handle ≡ Some a = ap (λ (k : ℕ). table.get attempts k) (sym (ap (λ (p : ℕ × ℕ). p.0) both)) ∙ at in
                  let number : a.version ≡ n = ap (λ (p : ℕ × ℕ). p.1) both in (
                    subst (λ (k : ℕ). IsPassed handle k c.logged) number (h.tried a there),
                    λ b is. let one : a.version ≡ b.version = ap (λ (y : VersionAttempt). y.version) (same_some a b (sym there ∙ is)) in omega (arith, one, number),
                  )
            ];
      }

  -- the state goes on, with attempts that were there
  changed : (c d : Core) (attempts left : Attempts) → d.sent ≡ c.sent → ((k : ℕ) → IsPassed handle k c.logged → IsPassed handle k d.logged) → ((a : VersionAttempt) → table.get left handle ≡ Some a → table.get attempts handle ≡ Some a)
      → AreAbove c attempts → AreAbove d left
  changed c d attempts left sent f from h =
      record {
        tried = λ a is. f a.version (h.tried a (from a is));
        given = λ m s n g. let was = h.given m (subst (λ (ms : List Message). IsSent ms m) sent s) n g in (f n was.0, λ a is. was.1 a (from a is));
      }

  -- an attempt begins, or goes on
  began : (d : Core) (attempts : Attempts) (chunk : ℕ) (a : VersionAttempt) → (chunk ≡ handle → IsPassed handle a.version d.logged)
      → (chunk ≡ handle → (m : Message) → IsSent d.sent m → (n : ℕ) → version_given m.body ≡ Some (handle, n) → n ≤ a.version) → AreAbove d attempts → AreAbove d (table.insert attempts chunk a)
  began d attempts chunk a issued low h =
      record {
        tried = λ b is.
            elim (put_cases attempts chunk a handle b is) [
              | inl now ↦ subst (λ (y : VersionAttempt). IsPassed handle y.version d.logged) now.1 (issued (sym now.0))
              | inr there ↦ h.tried b there
            ];
        given = λ m s n g.
            let was = h.given m s n g in (
              was.0,
              λ b is.
                  elim (put_cases attempts chunk a handle b is) [
                    | inl now ↦ let below = low (sym now.0) m s n g in let same = ap (λ (y : VersionAttempt). y.version) now.1 in omega (arith, below, same)
                    | inr there ↦ was.1 b there
                  ],
            );
      }

  abbrev Above : Core → Attempts → Waits → Type 0
  Above c attempts ss = AreAbove c attempts

  above_acts : (start : LogDisk) → Acts start NoneEnded (IsRowing start) Above
  above_acts start =
      record {
        tells = λ c attempts ss receiver b quiet h. sends c attempts _ c.order_count (quiet_given b quiet) h;
        orders = λ c attempts ss server b is plain none h. sends c attempts _ (suc c.order_count) (none _) h;
        gives = λ c attempts ss server chunk a b at has plain given h. gave c attempts chunk a _ (suc c.order_count) at (given _) h;
        revokes = λ c attempts ss chunk row is h. sends c attempts _ (suc c.order_count) refl h;
        appends = λ c attempts ss r due plain beside n after h. changed c (core_appended c r) attempts attempts refl (λ k p. passed_after handle k c.logged c.logged r due plain p p) (λ a is. is) h;
        checkpoint = λ c attempts ss tree n after h.
            changed c (core_checkpointed c) attempts (removed_all attempts (table.keys c.logged.copies)) refl (λ k p. passed_less handle k c.logged (table.keys c.logged.copies) p)
            (λ a is. removed_cases attempts (table.keys c.logged.copies) handle a is) h;
        less = λ c attempts ss handles copied n h.
            changed c (record c { logged = copies_given_up c.logged handles }) attempts (removed_all attempts handles) refl (λ k p. passed_less handle k c.logged handles p) (λ a is. removed_cases attempts handles handle a is) h;
        fewer = λ c attempts left ss from h. changed c c attempts left refl (λ k p. p) (λ a is. from handle a is) h;
        waits = λ c attempts ss more h. h;
        issues = λ c attempts ss chunk row a is next alone n before h.
            began (core_appended c (log.Issue (handle_of chunk) (version_of a.version))) attempts chunk a
            (λ same. passed_issue handle a.version c.logged chunk a.version same refl (row_below c.logged (state_of c.disk) n.same n.tied chunk row is))
            (λ same m s number g. let low = (before.given m s number g).0.1 row (ap (λ (k : ℕ). table.get (rows_of c.logged) k) (sym same) ∙ is) in omega (arith, low, next)) h;
        copies = λ c attempts ss file index source copy a next n before h.
            began (core_appended c (log.CopyStart file index source (handle_of copy) (version_of a.version))) attempts copy a (λ same. passed_copy handle a.version c.logged file index source copy a.version same refl)
            (λ same m s number g. absurd (let used = (before.given m s number g).0.0 in omega (arith, used, same, next))) h;
        records = λ c attempts ss chunk a b at same servers h.
            began c attempts chunk b (λ key. subst (λ (k : ℕ). IsPassed handle k c.logged) (sym same) (h.tried a (ap (λ (k : ℕ). table.get attempts k) (sym key) ∙ at)))
            (λ key m s number g. let low = (h.given m s number g).1 a (ap (λ (k : ℕ). table.get attempts k) (sym key) ∙ at) in omega (arith, low, same)) h;
        grants = λ c attempts ss chunk a until primary members at all due n after h.
            let r : Record = grant_record chunk a.version primary members in
            let d : Core = core_ended (core_appended c r) chunk until in
            sends d (table.remove attempts chunk) _ _ refl
            (changed c d attempts (table.remove attempts chunk) refl (λ k p. passed_ended handle k (after_record c.logged r) chunk until (passed_grant handle k c.logged c.logged chunk a.version primary members due p))
            (λ b is. (gone_split attempts chunk handle b is).1) h);
        ends = λ c attempts ss chunk row is word n h. changed c (core_ended c chunk 0) attempts attempts refl (λ k p. passed_ended handle k c.logged chunk 0 p) (λ a is. is) h;
        extends = λ c attempts ss chunk until row is lasts n h.
            sends (core_ended c chunk until) attempts _ c.order_count refl (changed c (core_ended c chunk until) attempts attempts refl (λ k p. passed_ended handle k c.logged chunk until p) (λ a is. is) h);
      }

  -- after a step that gave this version, no attempt is below it
  pub step_above : (m : MasterState) (moment : ℕ) (i : NodeInput) (choice : Choice) → IsLogged IsFoundRows IsRowedLog rows_kept m → WaitsHere m → ((a : VersionAttempt) → table.get m.attempts handle ≡ Some a → IsPassed handle a.version m.logged)
      → (x : Message) → IsSent (master_step m moment i choice).out.sent x → (n : ℕ) → version_given x.body ≡ Some (handle, n) → (a : VersionAttempt) → table.get (master_step m moment i choice).state.attempts handle ≡ Some a → n ≤ a.version
  step_above m moment i choice logged waits tried x said n given =
      on_cond good m.up (master_bounded m i d choice) (no_step m)
      (λ up. on_cond good (may_end m i d choice.ending) (master_ends m d choice choice.ending) (no_step m) (λ _. by_ending (goes up) choice.ending) (λ _ s. none_some x s.1))
      (λ _ s. none_some x s.1) said
    where
      d : MasterDoing
      d = master_goes m moment i choice.refused

      good : Taken MasterState → Type 0
      good t = IsSent t.out.sent x → (a : VersionAttempt) → table.get t.state.attempts handle ≡ Some a → n ≤ a.version

      goes : m.up ≡ true → AreAbove (core_of d) d.master.attempts
      goes up =
          let u : IsUpToLog IsFoundRows IsRowedLog rows_kept m = logged.up up in
          (goes_acts NoneEnded (IsRowing m.disk) Above m moment i choice.refused (rowing_keeps m.disk) (λ c n. n) (above_acts m.disk) (any_input i) logged up waits
          (record { none = u.idle; disk = refl; same = u.same; tied = u.tied; stops = logged.found [] })
          (record { tried = tried; given = λ y s. none_sent y s })).2

      by_ending : AreAbove (core_of d) d.master.attempts → (e : Ending) → good (master_ends m d choice e)
      by_ending h Goes s a is = (h.given x (ordered_sent choice.order d.sent x s) n given).1 a is
      by_ending h Lost s a is = none_some x s.1
      by_ending h (Stops made) s a is = none_some x s.1
