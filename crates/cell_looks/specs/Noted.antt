-- What observers note of a journal's steps: what came to chunks, in order.
use Rattle.std.specs.Prelude.{Bool, true, false, if◌then◌else◌, List, []}
use Rattle.std.specs.List.{flat_map}
use Rattle.gfs_types.specs.declared.ids.Node.{Node}
use Rattle.gfs_types.specs.declared.ids.Node.TheVariants as node
use Rattle.protocol.specs.declared.seen.Seen.{Seen}
use Rattle.protocol_journal.specs.Journal.{Entry}

abbrev pub is_client : Node → Bool
is_client (node.Client c) = true
is_client other = false

-- nothing of a client's step
abbrev pub noted_of : Node → List Seen → List Seen
noted_of n seen = if is_client n then [] else seen

abbrev pub noted : Entry → List Seen
noted e = noted_of e.node e.seen

abbrev pub noted_in : List Entry → List Seen
noted_in es = flat_map noted es
