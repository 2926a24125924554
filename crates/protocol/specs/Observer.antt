-- What an observer of the cell keeps: the calls and answers in one order, each chunk's entries, and whether clocks and disks kept what is asked of them. No node reads it (section 2.7).
use Rattle.std.specs.Prelude.{ℕ, ◌+◌, Bool, true, false, ◌==◌, ◌&&◌, nat_lt, nat_le, max, if◌then◌else◌, List, [], ◌∷◌, ◌++◌, map, Option, Some, None, unwrap_or, count_by}
use Rattle.std.specs.FinMap as table
use Rattle.gfs_types.specs.declared.call.Call.{Call}
use Rattle.gfs_types.specs.declared.answer.Answer.{Answer}
use Rattle.gfs_types.specs.declared.ids.DataId.{DataId}
use Rattle.gfs_types.specs.declared.mutation.Mutation.{Mutation}
use Rattle.relaxed_file.specs.Order.{CallId, Entry}
use Rattle.relaxed_file.specs.Run.{Visible, Called, Answered, Passed}
use Rattle.protocol.specs.Tables.{Table}
use Rattle.protocol.specs.declared.seen.Seen.{Seen}
use Rattle.protocol.specs.declared.seen.Seen.TheVariants.{Numbered, BecameSettled, CopyStarted}

-- An entry of a chunk's order, with the serial that its primary gave it, and the number of the attempt.
pub record Placed : Type 0 where
  pub serial : ℕ
  pub seq : ℕ
  pub entry : Entry

-- What was stored in the chunk of a replica, by the place of its server, as a byte of it rotted.
pub record IntactChunk : Type 0 where
  pub index : ℕ
  pub handle : ℕ
  pub bytes : List ℕ

pub record Observer : Type 0 where
  pub trace : List Visible
  -- the entries of each chunk, by handle
  pub orders : Table (List Placed)
  -- the files' chunks, as they stood when the master was last up
  pub files : Table (List ℕ)
  pub greatest : ℕ
  pub are_clocks_kept : Bool
  -- what was stored in the replicas of which bytes rotted, the latest first
  pub intact : List IntactChunk
  pub are_disks_kept : Bool

abbrev pub new_observer : Table (List ℕ) → Observer
new_observer files = record { trace = []; orders = table.empty; files = files; greatest = 0; are_clocks_kept = true; intact = []; are_disks_kept = true }

-- a moment was given: clocks are kept where it is behind the greatest one by the clock bound at most
abbrev pub observed_moment : ℕ → Observer → ℕ → Observer
observed_moment skew o moment =
    record o {
      trace = if nat_lt o.greatest moment then o.trace ++ Passed moment ∷ [] else o.trace;
      greatest = max o.greatest moment;
      are_clocks_kept = o.are_clocks_kept && nat_le o.greatest (moment + skew);
    }

abbrev pub is_chunk_of : ℕ → ℕ → IntactChunk → Bool
is_chunk_of index handle c = (c.index == index) && (c.handle == handle)

-- what was stored in a replica as a byte of it rotted last
abbrev pub intact_bytes : List IntactChunk → ℕ → ℕ → List ℕ
intact_bytes [] index handle = []
intact_bytes (c ∷ rest) index handle = if is_chunk_of index handle c then c.bytes else intact_bytes rest index handle

abbrev pub is_call_of : ℕ → Visible → Bool
is_call_of client (Called c asked) = c == client
is_call_of client (Answered c reply) = false
is_call_of client (Passed moment) = false

-- how many calls the client made so far
abbrev pub calls_made : List Visible → ℕ → ℕ
calls_made trace client = count_by (is_call_of client) trace

abbrev pub observed_call : Observer → ℕ → Call → Observer
observed_call o client c = record o { trace = o.trace ++ Called client c ∷ [] }

abbrev pub observed_answer : Observer → ℕ → Option Answer → Observer
observed_answer o client None = o
observed_answer o client (Some reply) = record o { trace = o.trace ++ Answered client reply ∷ [] }

abbrev pub placed_in : Table (List Placed) → ℕ → List Placed
placed_in orders handle = unwrap_or (table.get orders handle) []

abbrev pub order_of : Observer → ℕ → List Placed
order_of o handle = placed_in o.orders handle

abbrev pub is_placed_as : ℕ → ℕ → Placed → Bool
is_placed_as version serial p = (p.entry.round == version) && (p.serial == serial)

-- that entry is settled now
abbrev pub settled_as : ℕ → ℕ → Placed → Placed
settled_as version serial p = if is_placed_as version serial p then record p { entry = record p.entry { settled = true } } else p

-- The entry of a mutation that was numbered. It is its client's last call's.
abbrev pub new_entry : List Visible → ℕ → ℕ → DataId → Mutation → Placed
new_entry trace version serial id mutation =
    let call : CallId = record { client = id.client.0; number = calls_made trace id.client.0 } in
    record { serial = serial; seq = id.seq; entry = record { call = call; round = version; mutation = mutation; settled = false } }

-- The orders after what was seen, under a trace. A copy of a chunk has the order of its source.
abbrev pub orders_after : List Visible → Table (List Placed) → Seen → Table (List Placed)
orders_after trace orders (Numbered handle version serial id mutation) = table.insert orders handle.0 (placed_in orders handle.0 ++ new_entry trace version.0 serial.0 id mutation ∷ [])
orders_after trace orders (BecameSettled handle version serial) = table.insert orders handle.0 (map (settled_as version.0 serial.0) (placed_in orders handle.0))
orders_after trace orders (CopyStarted handle copy) = table.insert orders copy.0 (placed_in orders handle.0)

abbrev pub orders_after_all : List Visible → Table (List Placed) → List Seen → Table (List Placed)
orders_after_all trace orders [] = orders
orders_after_all trace orders (s ∷ rest) = orders_after_all trace (orders_after trace orders s) rest

-- what is seen changes the orders alone
abbrev pub observed_all : Observer → List Seen → Observer
observed_all o seen = record o { orders = orders_after_all o.trace o.orders seen }

-- the entries without their serials
abbrev pub entries_of : Observer → ℕ → List Entry
entries_of o handle = map (λ p. p.entry) (order_of o handle)
