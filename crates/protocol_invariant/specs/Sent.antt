-- What the messages that were ever sent told: grants, the orders that give versions, and what clients asked for. Computed from the messages alone.
use Rattle.std.specs.Prelude.{ℕ, List, [], ◌∷◌, Option, Some, None, unwrap_or}
use Rattle.std.specs.FinMap as table
use Rattle.gfs_types.specs.declared.ids.Node.{Node}
use Rattle.gfs_types.specs.declared.ids.Node.TheVariants as node
use Rattle.gfs_types.specs.declared.ids.OrderNo.{OrderNo}
use Rattle.messages.specs.declared.message.Message.{Message}
use Rattle.messages.specs.declared.message.Body.{Body}
use Rattle.messages.specs.declared.message.Body.TheVariants as body
use Rattle.messages.specs.declared.message.Target.{Target}
use Rattle.protocol.specs.Tables.{Table}
use Rattle.protocol.specs.Sending.{server_number, client_number}

-- the one Grant of a version: its number, to whom it went, the members, and the end and the size of the chunk that it told
pub record Granted : Type 0 where
  pub order : OrderNo
  pub primary : ℕ
  pub members : List ℕ
  pub until : ℕ
  pub chunk : ℕ

-- what a client asked a primary to place
pub record Mutated : Type 0 where
  pub handle : ℕ
  pub version : ℕ
  pub target : Target
  pub deadline : ℕ

-- what a client asked a server to read; of a question for a length there is no range
pub record Reading : Type 0 where
  pub handle : ℕ
  pub version : ℕ
  pub range : Option (ℕ × ℕ)

pub record Sent : Type 0 where
  -- by handle and version
  pub grants : Table (Table Granted)
  -- by handle, version and server: the number of the order that gives the server this version
  pub given : Table (Table (Table OrderNo))
  -- by client and number
  pub pushes : Table (Table (List ℕ))
  pub mutates : Table (Table Mutated)
  pub readings : Table (Table Reading)

abbrev pub nothing_sent : Sent
nothing_sent = record { grants = table.empty; given = table.empty; pushes = table.empty; mutates = table.empty; readings = table.empty }

-- the table under a number, empty where there is none
abbrev pub under : {X : Type 0} → Table (Table X) → ℕ → Table X
under t first = unwrap_or (table.get t first) table.empty

abbrev pub get_under : {X : Type 0} → Table (Table X) → ℕ → ℕ → Option X
get_under t first second = table.get (under t first) second

abbrev pub put_under : {X : Type 0} → Table (Table X) → ℕ → ℕ → X → Table (Table X)
put_under t first second x = table.insert t first (table.insert (under t first) second x)

abbrev pub with_given : Sent → ℕ → ℕ → ℕ → OrderNo → Sent
with_given s handle version server order =
    record s { given = table.insert s.given handle (put_under (under s.given handle) version server order) }

-- a client's own Push; servers pass the same data on
abbrev pub with_push : Sent → Node → ℕ → List ℕ → Sent
with_push s (node.Client c) seq bytes = record s { pushes = put_under s.pushes c.0 seq bytes }
with_push s other seq bytes = s

abbrev pub with_body : Sent → Node → Node → Body → Sent
with_body s from to (body.Grant order handle version end_moment chunk members) =
    record s { grants = put_under s.grants handle.0 version.0 (record { order = order; primary = server_number to; members = members; until = end_moment.0; chunk = chunk }) }
with_body s from to (body.Create order handle version) = with_given s handle.0 version.0 (server_number to) order
with_body s from to (body.SetVersion order handle version base) = with_given s handle.0 version.0 (server_number to) order
with_body s from to (body.CopyLocal order handle version copy copy_version) = with_given s copy.0 copy_version.0 (server_number to) order
with_body s from to (body.Push id bytes rest) = with_push s from id.seq bytes
with_body s from to (body.Mutate id handle version t deadline) =
    record s { mutates = put_under s.mutates id.client.0 id.seq (record { handle = handle.0; version = version.0; target = t; deadline = deadline.0 }) }
with_body s from to (body.Read number handle version offset count) =
    record s { readings = put_under s.readings (client_number from) number (record { handle = handle.0; version = version.0; range = Some (offset, count) }) }
with_body s from to (body.Len number handle version) =
    record s { readings = put_under s.readings (client_number from) number (record { handle = handle.0; version = version.0; range = None }) }
with_body s from to other = s

abbrev pub with_message : Sent → Message → Sent
with_message s x = with_body s x.sender x.receiver x.body

-- what all these messages told
abbrev pub sent_after : Sent → List Message → Sent
sent_after s [] = s
sent_after s (x ∷ rest) = sent_after (with_message s x) rest

abbrev pub grants_of : Sent → ℕ → Table Granted
grants_of s handle = under s.grants handle

abbrev pub grant_of : Sent → ℕ → ℕ → Option Granted
grant_of s handle version = get_under s.grants handle version

-- the number of the order that gives a server a version, if one was sent
abbrev pub order_giving : Sent → ℕ → ℕ → ℕ → Option OrderNo
order_giving s handle version server = get_under (under s.given handle) version server
