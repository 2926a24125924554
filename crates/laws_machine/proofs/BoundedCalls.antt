-- Each number of an entry that is no pad counts among those under which the part was asked for; and so does one that is numbered now, which has no entry yet.
use Rattle.std.proofs.Common.{◌≡◌, ℕ, suc, ◌≤◌, ◌<◌, List, [], ◌∷◌, length, Option, Some, None, refl, sym, ap, subst, ◌∙◌, arith}
use Rattle.std.specs.Prelude.{max, IsTrue}
use Rattle.gfs_types.specs.declared.config.Config.{Config}
use Rattle.gfs_types.specs.declared.ids.DataId.{DataId}
use Rattle.gfs_types.specs.declared.ids.Handle.{Handle}
use Rattle.gfs_types.specs.declared.ids.Version.{Version}
use Rattle.messages.specs.declared.event.Event.{Event}
use Rattle.messages.specs.declared.event.NodeInput.{NodeInput}
use Rattle.messages.specs.declared.event.NodeInput.TheVariants as input
use Rattle.messages.specs.declared.message.Message.{Message}
use Rattle.relaxed_file.specs.Order.{CallId}
use Rattle.protocol.specs.Tables.{element_at}
use Rattle.protocol.specs.Sending.{data_id}
use Rattle.protocol.specs.Choice.{Choice}
use Rattle.protocol.specs.Observer.{Placed, observed_moment, order_of, calls_made}
use Rattle.protocol.specs.Server.{ServerState}
use Rattle.protocol.specs.ServerStep.{server_at}
use Rattle.protocol.specs.World.{WorldState, new_world, after_events, IsReached}
use Rattle.laws_base.specs.FewAttempts.{WasAsked, Counts, EachOf, AreApart}
use Rattle.laws_base.proofs.FewAttempts.{parts_have_few_attempts}
use Rattle.laws_base.specs.Deadlines.{Numbers}
use Rattle.laws_base.specs.Entries.{IsAskedFor}
use Rattle.laws_base.specs.FullChunks.{IsPad}
use Rattle.laws_base.proofs.FullChunks.{IsFull, full_numbers, full_numbers_have_pads_alone}
use Rattle.laws_base.proofs.Stemming.{numbered_mutations_were_asked_for}
use Rattle.laws_base.proofs.UsedNumbers.{Asks, IsUsed, entries_are_used, used_not_new}
use Rattle.laws_machine.specs.OpenAttempts.{IsOfOpenCall}
use Rattle.laws_machine.specs.BoundedCalls.{IsEntryFor, PartsHaveFewEntries, EntriesAreOfFew, PlacingsAreOfFewEntries}
use Rattle.laws_machine.proofs.OpenEntries.{entries_are_of_open_calls, entries_were_asked_for_in_their_call}

each_on : (P Q : ℕ → Type 0) → ((n : ℕ) → P n → Q n) → (ns : List ℕ) → EachOf P ns → EachOf Q ns
each_on P Q go [] h = tt
each_on P Q go (n ∷ ns) h = (go n h.0, each_on P Q go ns h.1)

module _ (config : Config) (servers clients : ℕ) (steps : List (Event × Choice)) where
  abbrev Start : WorldState
  Start = new_world config servers clients

  abbrev Now : WorldState
  Now = after_events (new_world config servers clients) steps

  module _ (index made : ℕ) where
    abbrev Asked : Option ℕ → ℕ → Type 0
    Asked part n = WasAsked index (new_world config servers clients) steps made part n × Counts (after_events (new_world config servers clients) steps).sent index part n

    -- a number with such an entry counts
    counting : (part : Option ℕ) (n : ℕ) → IsEntryFor (new_world config servers clients) steps index made part n → Counts (after_events (new_world config servers clients) steps).sent index part n
    counting None n e = λ told m at receiver is.
        e.no_pad (full_numbers_have_pads_alone config servers clients Now (steps, refl) told (suc index) n m at receiver is e.handle e.place e.placed e.is (ap (λ (c : CallId). c.client) e.call_is) e.seq_is)
    counting (Some part) n e = tt

    all_asked : (part : Option ℕ) (numbers : List ℕ) → EachOf (IsEntryFor (new_world config servers clients) steps index made part) numbers → EachOf (Asked part) numbers
    all_asked part numbers each = each_on (IsEntryFor (new_world config servers clients) steps index made part) (Asked part) (λ n e. (e.part_is, counting part n e)) numbers each

    pub few : (part : Option ℕ) (numbers : List ℕ) → AreApart numbers → EachOf (IsEntryFor (new_world config servers clients) steps index made part) numbers → length numbers ≤ max 1 config.attempts
    few part numbers apart each = parts_have_few_attempts config servers clients steps index made part numbers apart (all_asked part numbers each)

  -- what is numbered now is new
  module _ (server moment : ℕ) (s : ServerState) (i : NodeInput) (choice : Choice) (handle : Handle) (version : Version) (id : DataId) (n : Numbers (after_events (new_world config servers clients) steps) server moment s i choice handle version id) where
    law : (m : Message) × (i ≡ input.Deliver m) × IsAskedFor (server_at s moment) Now.sent m handle version n.serial id n.placed
    law = numbered_mutations_were_asked_for config servers clients Now (steps, refl) server s n.is moment i choice n.came n.place handle version n.serial id n.placed n.seen

    asked : IsAskedFor (server_at s moment) Now.sent law.0 handle version n.serial id n.placed
    asked = law.2

    not_used : IsUsed (after_events (new_world config servers clients) steps) id → ⊥
    not_used used =
        used_not_new config servers clients Now (steps, refl) id used server moment s n.is handle version
        (record { asked = law.0; aim = asked.aim; deadline = asked.deadline; sent_is = n.came law.0 law.1; sender_is = asked.sender_is; body_is = asked.body_is }) asked.lease asked.lease_is asked.new

    module _ (index : ℕ) (own : id.client.0 ≡ suc index) where
      same_data : data_id (suc index) id.seq ≡ id
      same_data = ap (λ (k : ℕ). data_id k id.seq) (sym own)

      -- and no ChunkFull was told of it
      counts_now : (part : Option ℕ) → Counts (after_events (new_world config servers clients) steps).sent index part id.seq
      counts_now None = λ told m at receiver is.
          not_used (subst (λ (x : DataId). IsUsed (after_events (new_world config servers clients) steps) x) same_data (full_numbers config servers clients Now (steps, refl) told (suc index) id.seq m at receiver is).used)
      counts_now (Some part) = tt

      no_entry : (made : ℕ) (part : Option ℕ) (k : ℕ) → IsEntryFor (new_world config servers clients) steps index made part k → id.seq ≡ k → ⊥
      no_entry made part k e same =
          not_used
          (subst (λ (x : DataId). IsUsed (after_events (new_world config servers clients) steps) x)
          (ap (λ (c : ℕ). data_id c e.placed.seq) (ap (λ (c : CallId). c.client) e.call_is) ∙ (ap (λ (k : ℕ). data_id (suc index) k) (e.seq_is ∙ sym same) ∙ same_data))
          (entries_are_used config servers clients Now (steps, refl) e.handle e.place e.placed e.is))

      pub fewer : (made : ℕ) (part : Option ℕ) → WasAsked index (new_world config servers clients) steps made part id.seq → (numbers : List ℕ) → AreApart numbers
          → EachOf (IsEntryFor (new_world config servers clients) steps index made part) numbers → length numbers < max 1 config.attempts
      fewer made part was numbers apart each =
          parts_have_few_attempts config servers clients steps index made part (id.seq ∷ numbers) (each_on (IsEntryFor (new_world config servers clients) steps index made part) (λ k. id.seq ≡ k → ⊥) (no_entry made part) numbers each, apart)
          ((was, counts_now part), all_asked index made part numbers each)

pub parts_have_few_entries : PartsHaveFewEntries
parts_have_few_entries config servers clients steps index made part numbers apart each = few config servers clients steps index made part numbers apart each

pub entries_are_of_few : EntriesAreOfFew
entries_are_of_few config servers clients steps kept handle place p at no_pad index own =
    let was = entries_were_asked_for_in_their_call config servers clients steps kept handle place p at index own in (
      was.0,
      record { handle = handle; place = place; placed = p; is = at; call_is = ap (λ (c : ℕ). record { client = c; number = p.entry.call.number }) own; seq_is = refl; no_pad = no_pad; part_is = was.1 },
      λ numbers apart each. few config servers clients steps index p.entry.call.number was.0 numbers apart each,
    )

pub placings_are_of_few_entries : PlacingsAreOfFewEntries
placings_are_of_few_entries config servers clients steps server moment s i choice handle version id n no_pad kept index own = (
  is_open.part,
  is_open.asked,
  λ numbers apart each. fewer config servers clients steps server moment s i choice handle version id n index own (calls_made (after_events (new_world config servers clients) steps).observer.trace (suc index)) is_open.part is_open.asked numbers apart each,
)
  where
    is_open : IsOfOpenCall (new_world config servers clients) steps index id.seq
    is_open = entries_are_of_open_calls config servers clients steps server moment s i choice handle version id n kept index own
