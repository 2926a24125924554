-- A record that a server numbers is at most a quarter of a chunk, and begins below the chunk's end; a pad comes in place of such a record.
use Rattle.std.proofs.Common.{◌≡◌, ◌≢◌, ℕ, ◌≤◌, false, List, length, Some, sym, subst, ◌∙◌, arith}
use Rattle.std.specs.Prelude.{◌*◌, ◌/◌, nat_lt}
use Rattle.std.specs.FinMap as table
use Rattle.std.proofs.lemmas.Bool.{ltb-false}
use Rattle.std.proofs.Math.Nat.{mul-div-le}
use Rattle.gfs_types.specs.declared.config.Config.{Config}
use Rattle.gfs_types.specs.declared.ids.DataId.{DataId}
use Rattle.gfs_types.specs.declared.ids.Handle.{Handle}
use Rattle.gfs_types.specs.declared.ids.Serial.{Serial}
use Rattle.gfs_types.specs.declared.ids.Version.{Version}
use Rattle.gfs_types.specs.declared.mutation.Mutation.{Mutation}
use Rattle.gfs_types.specs.declared.mutation.Mutation.TheVariants as mutation
use Rattle.messages.specs.declared.message.Message.{Message}
use Rattle.messages.specs.declared.event.NodeInput.{NodeInput}
use Rattle.messages.specs.declared.event.NodeInput.TheVariants as input
use Rattle.data_push.specs.Buffers.{data_of}
use Rattle.protocol.specs.Tables.{element_at}
use Rattle.protocol.specs.Choice.{Choice}
use Rattle.protocol.specs.declared.seen.Seen.{Seen}
use Rattle.protocol.specs.declared.seen.Seen.TheVariants.{Numbered, BecameSettled, CopyStarted}
use Rattle.protocol.specs.Server.{chunk_limit, ServerState}
use Rattle.primary_order.specs.SerialOrder.{SerialOrder}
use Rattle.protocol.specs.ServerStep.{server_at, server_step}
use Rattle.protocol.specs.World.{WorldState, IsReached}
use Rattle.laws_base.proofs.ServerWalk.{IsPlacedAt, IsRecord}
use Rattle.laws_base.proofs.ServerSays.{IsShown as IsNoted, step_shows}
use Rattle.laws_base.proofs.Entries.{AllOf}
use Rattle.laws_base.proofs.MembersRecorded.{all_at}
use Rattle.laws_base.specs.Entries.{IsAmong}
use Rattle.laws_base.proofs.RoundsPassed.{primary_there}

-- what is numbered of these data in a chunk of this size
abbrev pub IsShort : (size : ℕ) → List ℕ → Mutation → Type 0
IsShort size bytes (mutation.Write offset written) = Unit {0}
IsShort size bytes (mutation.Append offset written) = (4 * length bytes ≤ size) × (offset ≢ size)
IsShort size bytes (mutation.Pad offset end) = 4 * length bytes ≤ size

quarter : (size count : ℕ) → nat_lt (size / 4) count ≡ false → 4 * count ≤ size
quarter size count short =
    let least = ltb-false (size / 4) count short in
    let most = mul-div-le size 4 in
    omega (arith, least, most)

-- what this server shows of its data
abbrev pub IsShown : ServerState → Seen → Type 0
IsShown s (Numbered handle version serial id m) =
    (lease : SerialOrder) × (table.get s.leases handle.0 ≡ Some lease) × (bytes : List ℕ) × (data_of s.pushed id ≡ Some bytes) × IsShort (chunk_limit s lease.chunk) bytes m
IsShown s (BecameSettled handle version serial) = Unit {0}
IsShown s (CopyStarted handle copy) = Unit {0}

short_record : (size count : ℕ) (bytes : List ℕ) (m : Mutation) → IsPlacedAt size count bytes m → IsRecord size count bytes m → IsShort size bytes m
short_record size count bytes (mutation.Write offset written) at whole = tt
short_record size count bytes (mutation.Append offset written) at whole = (quarter size (length bytes) whole.0, λ same. let less = whole.1 in let place = at.1 in omega (arith, less, place, same))
short_record size count bytes (mutation.Pad offset end) at whole = quarter size (length bytes) whole

shown_short : (s : ServerState) (i : NodeInput) (x : Seen) → IsNoted s i x → IsShown s x
shown_short s i (Numbered handle version serial id m) h =
    let n = h.0 in (
      n.a.p,
      subst (λ (q : Handle). table.get s.leases q.0 ≡ Some n.a.p) (sym (h.1).0) (primary_there s (n.a.c.version).0 (table.get s.leases (n.a.c.handle).0) n.a.p n.a.primary).0,
      n.bytes,
      subst (λ (x : DataId). data_of s.pushed x ≡ Some n.bytes) (sym h.2) n.pushed,
      subst (λ (x : Mutation). IsShort (chunk_limit s n.a.p.chunk) n.bytes x) (sym h.3) (short_record (chunk_limit s n.a.p.chunk) n.a.row.count n.bytes n.placed n.at n.whole),
    )
shown_short s i (BecameSettled handle version serial) h = tt
shown_short s i (CopyStarted handle copy) h = tt

-- what a server numbers is of data that it keeps, and short
pub numbered_short : (config : Config) (servers clients : ℕ) (w : WorldState) → IsReached config servers clients w → (index : ℕ) (s : ServerState)
    → element_at w.servers index ≡ Some s → (moment : ℕ) (i : NodeInput) (choice : Choice)
    → ((m : Message) → i ≡ input.Deliver m → IsAmong w.sent m) → (shown : ℕ) (handle : Handle) (version : Version) (serial : Serial) (id : DataId) (m : Mutation)
    → element_at (server_step s moment i choice).seen shown ≡ Some (Numbered handle version serial id m)
    → (lease : SerialOrder) × (table.get s.leases handle.0 ≡ Some lease) × (bytes : List ℕ) × (data_of s.pushed id ≡ Some bytes) × IsShort (chunk_limit s lease.chunk) bytes m
numbered_short config servers clients w r index s at moment i choice came shown handle version serial id m seen =
    all_at (IsShown s) (server_step s moment i choice).seen shown (Numbered handle version serial id m) step seen
  where
    step : AllOf (IsShown s) (server_step s moment i choice).seen
    step = step_shows (IsShown s) s moment i choice (λ x noted. shown_short (server_at s moment) i x noted)
