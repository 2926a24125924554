-- The bytes of each record and of each item of a checkpoint: a tag, and the fields (section 4.1).
use Rattle.std.specs.Prelude.{ℕ, ◌<◌, ◌^◌, Bool, true, false, IsTrue, List, ◌∷◌, ◌++◌, length, None, Some}
use Rattle.gfs_types.specs.Paths.{is_path}
use Rattle.log_records.specs.declared.record.Record.{Record}
use Rattle.log_records.specs.declared.record.Record.TheVariants as log
use Rattle.log_codec.specs.Fields.{number, index, server, path, members, handles, shape, outcome, IsNumber, IsIndex, IsServer, IsShape, IsPath, AreMembers, AreHandles}

abbrev pub payload : Record → List ℕ
payload (log.Epoch epoch) = 1 ∷ number epoch
payload (log.Mkdir client call p) = 2 ∷ (number client.0 ++ number call ++ path p)
payload (log.Rmdir client call p) = 3 ∷ (number client.0 ++ number call ++ path p)
payload (log.Create client call file None p) = 4 ∷ (number client.0 ++ number call ++ number file.0 ++ path p)
payload (log.Create client call file (Some s) p) = 15 ∷ (number client.0 ++ number call ++ number file.0 ++ shape s ++ path p)
payload (log.Delete client call moment p) = 5 ∷ (number client.0 ++ number call ++ number moment.0 ++ path p)
payload (log.Rename client call from to) = 6 ∷ (number client.0 ++ number call ++ path from ++ path to)
payload (log.Snapshot client call from to) = 7 ∷ (number client.0 ++ number call ++ path from ++ path to)
payload (log.Refused client call refusal) = 8 ∷ (number client.0 ++ number call ++ outcome (Some refusal))
payload (log.Expired file) = 9 ∷ number file.0
payload (log.AddChunk file handle) = 10 ∷ (number file.0 ++ number handle.0)
payload (log.Issue handle version) = 11 ∷ (number handle.0 ++ number version.0)
payload (log.Grant handle version primary servers) = 12 ∷ (number handle.0 ++ number version.0 ++ server primary.0 ++ members servers)
payload (log.CopyStart file i handle copy copy_version) = 13 ∷ (number file.0 ++ index i ++ number handle.0 ++ number copy.0 ++ number copy_version.0)
payload (log.Counters next_file next_handle epoch) = 20 ∷ (number next_file.0 ++ number next_handle.0 ++ number epoch)
payload (log.DirItem p) = 21 ∷ path p
payload (log.FileItem p file None all) = 22 ∷ (path p ++ number file.0 ++ handles all)
payload (log.FileItem p file (Some s) all) = 25 ∷ (path p ++ number file.0 ++ shape s ++ handles all)
payload (log.ChunkItem handle granted issued primary servers) = 23 ∷ (number handle.0 ++ number granted.0 ++ number issued.0 ++ server primary.0 ++ members servers)
payload (log.ClientItem client call refusal) = 24 ∷ (number client.0 ++ number call ++ outcome refusal)

-- what has bytes: each field is one
abbrev pub IsRecord : Record → Type 0
IsRecord (log.Epoch epoch) = IsNumber epoch
IsRecord (log.Mkdir client call p) = IsNumber client.0 × IsNumber call × IsPath p
IsRecord (log.Rmdir client call p) = IsNumber client.0 × IsNumber call × IsPath p
IsRecord (log.Create client call file None p) = IsNumber client.0 × IsNumber call × IsNumber file.0 × IsPath p
IsRecord (log.Create client call file (Some s) p) = IsNumber client.0 × IsNumber call × IsNumber file.0 × IsShape s × IsPath p
IsRecord (log.Delete client call moment p) = IsNumber client.0 × IsNumber call × IsNumber moment.0 × IsPath p
IsRecord (log.Rename client call from to) = IsNumber client.0 × IsNumber call × IsPath from × IsPath to
IsRecord (log.Snapshot client call from to) = IsNumber client.0 × IsNumber call × IsPath from × IsPath to
IsRecord (log.Refused client call refusal) = IsNumber client.0 × IsNumber call
IsRecord (log.Expired file) = IsNumber file.0
IsRecord (log.AddChunk file handle) = IsNumber file.0 × IsNumber handle.0
IsRecord (log.Issue handle version) = IsNumber handle.0 × IsNumber version.0
IsRecord (log.Grant handle version primary servers) = IsNumber handle.0 × IsNumber version.0 × IsServer primary.0 × AreMembers servers
IsRecord (log.CopyStart file i handle copy copy_version) = IsNumber file.0 × IsIndex i × IsNumber handle.0 × IsNumber copy.0 × IsNumber copy_version.0
IsRecord (log.Counters next_file next_handle epoch) = IsNumber next_file.0 × IsNumber next_handle.0 × IsNumber epoch
IsRecord (log.DirItem p) = IsPath p
IsRecord (log.FileItem p file None all) = IsPath p × IsNumber file.0 × AreHandles all
IsRecord (log.FileItem p file (Some s) all) = IsPath p × IsNumber file.0 × IsShape s × AreHandles all
IsRecord (log.ChunkItem handle granted issued primary servers) = IsNumber handle.0 × IsNumber granted.0 × IsNumber issued.0 × IsServer primary.0 × AreMembers servers
IsRecord (log.ClientItem client call refusal) = IsNumber client.0 × IsNumber call

-- What a record's type leaves open: paths are paths, and lists and the index have room in their fields.
abbrev pub IsWritable : Record → Type 0
IsWritable (log.Mkdir client call p) = IsTrue (is_path p)
IsWritable (log.Rmdir client call p) = IsTrue (is_path p)
IsWritable (log.Create client call file s p) = IsTrue (is_path p)
IsWritable (log.Delete client call moment p) = IsTrue (is_path p)
IsWritable (log.Rename client call from to) = IsTrue (is_path from) × IsTrue (is_path to)
IsWritable (log.Snapshot client call from to) = IsTrue (is_path from) × IsTrue (is_path to)
IsWritable (log.Grant handle version primary servers) = length servers < 256
IsWritable (log.CopyStart file i handle copy copy_version) = IsIndex i
IsWritable (log.DirItem p) = IsTrue (is_path p)
IsWritable (log.FileItem p file s all) = IsTrue (is_path p) × (length all < 2 ^ 32)
IsWritable (log.ChunkItem handle granted issued primary servers) = length servers < 256
IsWritable entry = Unit {0}

-- an item of a checkpoint, and no record of a change
abbrev pub is_item : Record → Bool
is_item (log.Counters next_file next_handle epoch) = true
is_item (log.DirItem p) = true
is_item (log.FileItem p file s all) = true
is_item (log.ChunkItem handle granted issued primary servers) = true
is_item (log.ClientItem client call refusal) = true
is_item entry = false

-- a record or an item that tells a file's shape: none of a log of format 1 does
abbrev pub has_shape : Record → Bool
has_shape (log.Create client call file (Some s) p) = true
has_shape (log.FileItem p file (Some s) all) = true
has_shape entry = false
