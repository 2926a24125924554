-- The round of an entry was granted to its chunk, or lies below each version of the chunk that is given: a copy's first version follows all that was issued of its source.
use Rattle.std.proofs.Common.{◌≡◌, ℕ, ◌≤◌, ◌<◌, List, [], ◌∷◌, ◌++◌, Some, None, refl, sym, ap, ◌∙◌, inl, inr, arith}
use Rattle.std.specs.Prelude.{max, IsTrue}
use Rattle.std.specs.FinMap as table
use Rattle.gfs_types.specs.declared.config.Config.{Config}
use Rattle.messages.specs.declared.event.NodeInput.{NodeInput}
use Rattle.messages.specs.declared.message.Message.{Message}
use Rattle.protocol.specs.Tables.{element_at}
use Rattle.protocol.specs.Choice.{Choice}
use Rattle.protocol.specs.declared.seen.Seen.{Seen}
use Rattle.protocol.specs.declared.seen.Seen.TheVariants.{CopyStarted}
use Rattle.protocol.specs.Observer.{Placed, placed_in}
use Rattle.protocol.specs.MasterStep.{master_step}
use Rattle.protocol.specs.World.{WorldState, stamped, IsReached}
use Rattle.laws_base.specs.Laws.{is_grant}
use Rattle.laws_base.proofs.Steps.{none_some, same_some}
use Rattle.laws_base.proofs.Entries.{AllOf}
use Rattle.laws_base.proofs.MembersRecorded.{all_at}
use Rattle.laws_base.proofs.MessagesSent.{IsSent, sent_cases, numbered_sent}
use Rattle.laws_base.proofs.SentReached.{without_order, sent_reached}
use Rattle.laws_base.proofs.ClientMoves.{HasNoOrder}
use Rattle.laws_base.proofs.Placing.{all_placed}
use Rattle.laws_base.proofs.WaitsKept.{IsOfWaits, waits_kept}
use Rattle.laws_base.proofs.CopiesBegun.{ShowsCopy}
use Rattle.laws_base.proofs.RoundsPassed.{rounds_of_entries_were_issued}
use Rattle.messages.specs.declared.message.Body.{Body}
use Rattle.messages.specs.declared.message.Body.TheVariants as body
use Rattle.chunk_table.specs.ChunkTable.{chunk_of}
use Rattle.protocol.specs.Sending.{handle_of, order_number}
use Rattle.laws_base.specs.Given.{version_given}
use Rattle.laws_base.proofs.GrantedIssued.{granted_is_at_most_issued}
use Rattle.laws_versions.proofs.GivenVersions.{given_reached}
use Rattle.laws_base.proofs.MasterPremises.{IsAsk}
use Rattle.laws_versions.proofs.MasterCauses.{step_caused}
use Rattle.laws_versions.proofs.GivenOnce.{IsNext, IsGivenNext, next_causes}
use Rattle.laws_base.proofs.SentGrants.{counted_one}
use Rattle.laws_base.proofs.RisingRounds.{RoundPremises, round_of}
use Rattle.laws_versions.specs.AskedVersions.{EntriesLieBelowGivenVersions}
use Rattle.laws_versions.proofs.AskedOrders.{GivesFirst, ready_later, step_asked}

-- each order of this chunk among them gives a version above that number

abbrev GivesAbove : ℕ → ℕ → Message → Type 0
GivesAbove handle round m = (version : ℕ) → version_given m.body ≡ Some (handle, version) → round < version

abbrev AreGivenAbove : ℕ → ℕ → List Message → Type 0
AreGivenAbove handle round sent = (m : Message) → IsSent sent m → GivesAbove handle round m

above_more : (handle round k : ℕ) (sent ms : List Message) → AllOf (GivesAbove handle round) ms → AreGivenAbove handle round sent → AreGivenAbove handle round (sent ++ stamped k ms)
above_more handle round k sent ms all h m is version given =
    elim (sent_cases sent (stamped k ms) m is) [
      | inl before ↦ h m before version given
      | inr new ↦
          let was = numbered_sent k ms new.0 m new.1 in
          all_at (GivesAbove handle round) ms (was.1).0 was.0 all (was.1).1 version (ap version_given (was.2).2 ∙ given)
    ]

unordered_none : (b : Body) → order_number b ≡ None → version_given b ≡ None
unordered_none (body.Create order q v) none = none_some order (sym none)
unordered_none (body.SetVersion order q v base) none = none_some order (sym none)
unordered_none (body.CopyLocal order q v copy copy_version) none = none_some order (sym none)
unordered_none other none = refl

none_above : (handle round : ℕ) (ms : List Message) → AllOf (λ m. order_number m.body ≡ None) ms → AllOf (GivesAbove handle round) ms
none_above handle round [] all = tt
none_above handle round (m ∷ ms) all = ((λ version given. none_some (handle, version) (sym (unordered_none m.body all.0) ∙ given)), none_above handle round ms all.1)

-- messages that are no orders give nothing
quiet_above : (handle round : ℕ) (ms : List Message) → HasNoOrder ms → AllOf (GivesAbove handle round) ms
quiet_above handle round ms quiet = none_above handle round ms (without_order ms quiet)

-- of a handle that was not used no version was given
unused_above : (config : Config) (servers clients : ℕ) (w : WorldState) → IsReached config servers clients w → IsTrue w.master.up → (handle round : ℕ) → w.master.logged.next_handle ≤ handle → AreGivenAbove handle round w.sent
unused_above config servers clients w r up handle round new m is version given =
    absurd (let used = (((given_reached handle version config servers clients w r).words m is (inl given)).1 up).0 in omega (arith, used, new))

handles_in : Seen → ℕ × ℕ
handles_in (CopyStarted source new) = (source.0, new.0)
handles_in other = (0, 0)

same_handles : (a b c d : ℕ) → CopyStarted (handle_of a) (handle_of b) ∷ [] ≡ CopyStarted (handle_of c) (handle_of d) ∷ [] → (a ≡ c) × (b ≡ d)
unfolding handles_in
same_handles a b c d same =
    let one : Some (CopyStarted (handle_of a) (handle_of b)) ≡ Some (CopyStarted (handle_of c) (handle_of d)) = ap (λ (xs : List Seen). element_at xs 0) same in
    let both : (a, b) ≡ (c, d) = ap handles_in (same_some (CopyStarted (handle_of a) (handle_of b)) (CopyStarted (handle_of c) (handle_of d)) one) in
    (ap (λ (p : ℕ × ℕ). p.0) both, ap (λ (p : ℕ × ℕ). p.1) both)

module _ (config : Config) (servers clients : ℕ) (w : WorldState) (r : IsReached config servers clients w) where
  base : IsOfWaits w.sent w.master
  base = sent_reached IsOfWaits waits_kept config servers clients w r

  -- an order of a step that gives a version
  caused : (moment : ℕ) (i : NodeInput) (choice : Choice) (n : ℕ) (m : Message) → element_at (master_step w.master moment i choice).out.sent n ≡ Some m → (handle version : ℕ) → version_given m.body ≡ Some (handle, version)
      → IsAsk i × IsNext w.master.logged handle version
  caused moment i choice n m there handle version given =
      all_at (IsGivenNext w.master.logged i) (master_step w.master moment i choice).out.sent n m
      (step_caused w.master moment i choice (IsGivenNext w.master.logged i) (granted_is_at_most_issued config servers clients w r) (next_causes w.master.logged w.master.attempts i)) there handle version given

  -- what a step of the master gives of a chunk that has an entry is above the entry's round
  entry_above : IsTrue w.master.up → (moment : ℕ) (i : NodeInput) (choice : Choice) (handle place : ℕ) (p : Placed) → element_at (placed_in w.observer.orders handle) place ≡ Some p → AllOf (GivesAbove handle p.entry.round) (master_step w.master moment i choice).out.sent
  entry_above up moment i choice handle place p at =
      all_placed (GivesAbove handle p.entry.round) (master_step w.master moment i choice).out.sent
      (λ n m there version given.
      let known = rounds_of_entries_were_issued config servers clients w r up handle place p at in
      elim ((caused moment i choice n m there handle version given).1) [
        | inl old ↦ let low = known.issued old.0 old.1 in let next = old.2 in omega (arith, low, next)
        | inr new ↦ absurd (let used = known.used in omega (arith, used, new))
      ])

  -- the first version of a copy is above the rounds of its source
  first_above : IsTrue w.master.up → (moment : ℕ) (i : NodeInput) (choice : Choice) (shows : ShowsCopy w.master (master_step w.master moment i choice)) (place : ℕ) (p : Placed) → element_at (placed_in w.observer.orders shows.source) place ≡ Some p
      → AllOf (GivesAbove shows.copy p.entry.round) (master_step w.master moment i choice).out.sent
  first_above up moment i choice shows place p at =
      all_placed (GivesAbove shows.copy p.entry.round) (master_step w.master moment i choice).out.sent
      (λ n m there version given.
      let known = rounds_of_entries_were_issued config servers clients w r up shows.source place p at in
      let ask = (caused moment i choice n m there shows.copy version given).0 in
      elim (step_asked w.master moment i choice ((base.base.logged.up up).ready).copied ask) [
        | inl usual ↦ none_some (CopyStarted (handle_of shows.source) (handle_of shows.copy)) (ap (λ (xs : List Seen). element_at xs 0) (sym usual.1 ∙ shows.seen))
        | inr begun ↦
            let same = same_handles begun.source begun.copy shows.source shows.copy (sym begun.seen ∙ shows.seen) in
            let first = (all_at (GivesFirst w.master.logged (max w.master.now moment) (ready_later w.master moment ((base.base.logged.up up).ready).copied) begun.copy begun.issued) (master_step w.master moment i choice).out.sent n m begun.given there shows.copy version given).1 in
            elim (begun.known) [
              | inl old ↦ let low = known.issued old.0 (ap (λ (k : ℕ). chunk_of w.master.logged.table k) (sym same.0) ∙ old.1) in let issued = old.2 in omega (arith, low, issued, first)
              | inr new ↦ absurd (let used = known.used in let source = same.0 in omega (arith, used, new, source))
            ]
      ])

-- a round was granted, or lies below each version of the chunk that is given
given_rounds : RoundPremises GivesAbove AreGivenAbove
given_rounds =
    record {
      more = above_more;
      quiet = quiet_above;
      masters = entry_above;
      copies = λ config servers clients w r up moment i choice shows place p at.
          (first_above config servers clients w r up moment i choice shows place p at, unused_above config servers clients w r up shows.copy p.entry.round shows.new);
    }

pub entries_lie_below_given_versions : EntriesLieBelowGivenVersions
entries_lie_below_given_versions config servers clients w r handle place p at =
    elim (round_of GivesAbove AreGivenAbove given_rounds config servers clients w r handle place p at) [
      | inl was ↦ inl (counted_one (λ m. is_grant handle p.entry.round m.body) w.sent was.0 (was.1).0 (was.1).1 was.2)
      | inr above ↦ inr (λ other m there version given. above m (other, there) version given)
    ]
