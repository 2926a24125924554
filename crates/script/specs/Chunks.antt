-- What is printed of a chunk (section 2.7.1).
use Rattle.std.specs.Prelude.{ℕ, Bool, if◌then◌else◌, List, [], ◌∷◌, ◌++◌, codes}
use Rattle.std.specs.List.{flat_map}
use Rattle.std.specs.Fmt.{decimal}
use Rattle.gfs_types.specs.declared.ids.Handle.{Handle}
use Rattle.relaxed_file.specs.declared.region.Region.{Region}
use Rattle.script.specs.declared.stored.StoredReplica.{StoredReplica}

abbrev pub kind_of : Bool → List ℕ
kind_of determined = if determined then codes "determined" else codes "undetermined"

abbrev pub region_text : Region → List ℕ
region_text r = decimal r.from ++ codes "-" ++ decimal r.to ++ codes " " ++ kind_of r.determined

abbrev pub next_region : Region → List ℕ
next_region r = codes ", " ++ region_text r

abbrev pub regions_line : List Region → List ℕ
regions_line [] = codes "regions -"
regions_line (r ∷ rest) = codes "regions " ++ region_text r ++ flat_map next_region rest

abbrev pub replica_text : StoredReplica → List ℕ
replica_text r = codes "s" ++ decimal r.server.0 ++ codes " v" ++ decimal r.version.0 ++ codes " " ++ decimal r.length

abbrev pub next_replica : StoredReplica → List ℕ
next_replica r = codes ", " ++ replica_text r

abbrev pub replica_texts : List StoredReplica → List ℕ
replica_texts [] = []
replica_texts (r ∷ rest) = codes " " ++ replica_text r ++ flat_map next_replica rest

-- the chunk's handle, and its replicas
abbrev pub replicas_line : Handle → List StoredReplica → List ℕ
replicas_line handle replicas = codes "replicas " ++ decimal handle.0 ++ replica_texts replicas
