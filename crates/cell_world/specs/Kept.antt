-- What is kept of what was seen: of a mutation which places it covers, as a pad over them, but no bytes, nor whose it is.
use Rattle.std.specs.Prelude.{◌+◌}
use Rattle.gfs_types.specs.Mutations.{start_of, end_of}
use Rattle.gfs_types.specs.declared.ids.DataId.{DataId}
use Rattle.gfs_types.specs.declared.mutation.Mutation.{Mutation}
use Rattle.gfs_types.specs.declared.mutation.Mutation.TheVariants.{Pad}
use Rattle.protocol.specs.declared.seen.Seen.{Seen}
use Rattle.protocol.specs.declared.seen.Seen.TheVariants as seen
use Rattle.protocol.specs.Observer.{Placed}
use Rattle.cell_world.specs.declared.extent.Extent.{Extent}
use Rattle.cell_world.specs.declared.extent.Extent.TheVariants as places
use Rattle.cell_world.specs.declared.sighting.Sighting.{Sighting}
use Rattle.cell_world.specs.declared.sighting.Sighting.TheVariants as kept

-- a pad over the places that a mutation covers
abbrev pub blank : Mutation → Mutation
blank m = Pad (start_of m) (end_of m)

abbrev pub mutation_of : Extent → Mutation
mutation_of (places.Bytes start count) = Pad start (start + count)
mutation_of (places.Pad start end) = Pad start end

-- the data of no client
abbrev pub no_data : DataId
no_data = record { client = record { 0 = 0 }; seq = 0 }

abbrev pub blank_seen : Seen → Seen
blank_seen (seen.Numbered handle version serial id mutation) = seen.Numbered handle version serial no_data (blank mutation)
blank_seen (seen.BecameSettled handle version serial) = seen.BecameSettled handle version serial
blank_seen (seen.CopyStarted handle copy) = seen.CopyStarted handle copy

-- what stands for what was seen
abbrev pub seen_of : Sighting → Seen
seen_of (kept.Numbered handle version serial extent) = seen.Numbered handle version serial no_data (mutation_of extent)
seen_of (kept.BecameSettled handle version serial) = seen.BecameSettled handle version serial
seen_of (kept.CopyStarted handle copy) = seen.CopyStarted handle copy

abbrev pub blank_placed : Placed → Placed
blank_placed p =
    record {
      serial = p.serial;
      seq = 0;
      entry = record { call = record { client = 0; number = 0 }; round = p.entry.round; mutation = blank p.entry.mutation; settled = p.entry.settled };
    }
