-- How many bytes a record's fields take.
use Rattle.std.proofs.Common.{◌≡◌, ℕ, suc, ◌+◌, ◌*◌, List, [], ◌∷◌, ◌++◌, length, Option, None, Some, refl, ap, ◌∙◌, arith}
use Rattle.std.specs.List.{flat_map}
use Rattle.std.proofs.lemmas.List.{length-append}
use Rattle.std.proofs.lemmas.List.Concat.{flat_map-cons}
use Rattle.gfs_types.specs.declared.refusal.Refusal.{Refusal}
use Rattle.gfs_types.specs.declared.shape.Shape.{Shape}
use Rattle.log_records.specs.declared.record.Record.{Record}
use Rattle.log_records.specs.declared.record.Record.TheVariants as log
use Rattle.log_codec.specs.Fields.{number, index, server, path, members, handles, shape, outcome}
use Rattle.log_codec.specs.Payloads.{payload}
use Rattle.log_codec.specs.Sizes.{payload_size}

number_len : (n : ℕ) → length (number n) ≡ 8
unfolding number
number_len n = refl

index_len : (n : ℕ) → length (index n) ≡ 4
unfolding index
index_len n = refl

server_len : (n : ℕ) → length (server n) ≡ 2
unfolding server
server_len n = refl

path_len : (p : List ℕ) → length (path p) ≡ 2 + length p
unfolding path
path_len p = omega arith

outcome_len : (o : Option Refusal) → length (outcome o) ≡ 1
outcome_len None = refl
outcome_len (Some r) = refl

servers_len : (xs : List ℕ) → length (flat_map server xs) ≡ 2 * length xs
servers_len [] = refl
servers_len (x ∷ xs) = ap length (flat_map-cons server x xs) ∙ omega (arith, length-append (server x) (flat_map server xs), server_len x, servers_len xs)

numbers_len : (xs : List ℕ) → length (flat_map number xs) ≡ 8 * length xs
numbers_len [] = refl
numbers_len (x ∷ xs) = ap length (flat_map-cons number x xs) ∙ omega (arith, length-append (number x) (flat_map number xs), number_len x, numbers_len xs)

members_len : (xs : List ℕ) → length (members xs) ≡ 1 + 2 * length xs
unfolding members
members_len xs = omega (arith, servers_len xs)

handles_len : (xs : List ℕ) → length (handles xs) ≡ 4 + 8 * length xs
unfolding handles
handles_len xs = omega (arith, length-append (index (length xs)) (flat_map number xs), index_len (length xs), numbers_len xs)

shape_len : (s : Shape) → length (shape s) ≡ 5
unfolding shape
shape_len s = omega (arith, index_len s.chunk, length-append (index s.chunk) (s.goal ∷ []))

pub payload_len : (r : Record) → payload_size r ≡ length (payload r)
payload_len (log.Epoch epoch) = omega (arith, number_len epoch)
payload_len (log.Mkdir client call p) = omega (arith, number_len client.0, number_len call, path_len p, length-append (number client.0) (number call), length-append (number client.0 ++ number call) (path p))
payload_len (log.Rmdir client call p) = omega (arith, number_len client.0, number_len call, path_len p, length-append (number client.0) (number call), length-append (number client.0 ++ number call) (path p))
payload_len (log.Create client call file None p) = omega (
  arith,
  number_len client.0,
  number_len call,
  number_len file.0,
  path_len p,
  length-append (number client.0) (number call),
  length-append (number client.0 ++ number call) (number file.0),
  length-append (number client.0 ++ number call ++ number file.0) (path p),
)
payload_len (log.Create client call file (Some s) p) = omega (
  arith,
  number_len client.0,
  number_len call,
  number_len file.0,
  shape_len s,
  path_len p,
  length-append (number client.0) (number call),
  length-append (number client.0 ++ number call) (number file.0),
  length-append (number client.0 ++ number call ++ number file.0) (shape s),
  length-append (number client.0 ++ number call ++ number file.0 ++ shape s) (path p),
)
payload_len (log.Delete client call moment p) = omega (arith, number_len client.0, number_len call, number_len moment.0, path_len p, length-append (number client.0) (number call), length-append (number client.0 ++ number call) (number moment.0), length-append (number client.0 ++ number call ++ number moment.0) (path p))
payload_len (log.Rename client call old new) = omega (arith, number_len client.0, number_len call, path_len old, path_len new, length-append (number client.0) (number call), length-append (number client.0 ++ number call) (path old), length-append (number client.0 ++ number call ++ path old) (path new))
payload_len (log.Snapshot client call source copy) = omega (arith, number_len client.0, number_len call, path_len source, path_len copy, length-append (number client.0) (number call), length-append (number client.0 ++ number call) (path source), length-append (number client.0 ++ number call ++ path source) (path copy))
payload_len (log.Refused client call refusal) = omega (arith, number_len client.0, number_len call, outcome_len (Some refusal), length-append (number client.0) (number call), length-append (number client.0 ++ number call) (outcome (Some refusal)))
payload_len (log.Expired file) = omega (arith, number_len file.0)
payload_len (log.AddChunk file handle) = omega (arith, number_len file.0, number_len handle.0, length-append (number file.0) (number handle.0))
payload_len (log.Issue handle version) = omega (arith, number_len handle.0, number_len version.0, length-append (number handle.0) (number version.0))
payload_len (log.Grant handle version primary servers) = omega (arith, number_len handle.0, number_len version.0, server_len primary.0, members_len servers, length-append (number handle.0) (number version.0), length-append (number handle.0 ++ number version.0) (server primary.0), length-append (number handle.0 ++ number version.0 ++ server primary.0) (members servers))
payload_len (log.CopyStart file i handle copy version) = omega (arith, number_len file.0, index_len i, number_len handle.0, number_len copy.0, number_len version.0, length-append (number file.0) (index i), length-append (number file.0 ++ index i) (number handle.0), length-append (number file.0 ++ index i ++ number handle.0) (number copy.0), length-append (number file.0 ++ index i ++ number handle.0 ++ number copy.0) (number version.0))
payload_len (log.Counters file handle epoch) = omega (arith, number_len file.0, number_len handle.0, number_len epoch, length-append (number file.0) (number handle.0), length-append (number file.0 ++ number handle.0) (number epoch))
payload_len (log.DirItem p) = omega (arith, path_len p)
payload_len (log.FileItem p file None all) = omega (
  arith,
  path_len p,
  number_len file.0,
  handles_len all,
  length-append (path p) (number file.0),
  length-append (path p ++ number file.0) (handles all),
)
payload_len (log.FileItem p file (Some s) all) = omega (
  arith,
  path_len p,
  number_len file.0,
  shape_len s,
  handles_len all,
  length-append (path p) (number file.0),
  length-append (path p ++ number file.0) (shape s),
  length-append (path p ++ number file.0 ++ shape s) (handles all),
)
payload_len (log.ChunkItem handle granted issued primary servers) = omega (arith, number_len handle.0, number_len granted.0, number_len issued.0, server_len primary.0, members_len servers, length-append (number handle.0) (number granted.0), length-append (number handle.0 ++ number granted.0) (number issued.0), length-append (number handle.0 ++ number granted.0 ++ number issued.0) (server primary.0), length-append (number handle.0 ++ number granted.0 ++ number issued.0 ++ server primary.0) (members servers))
payload_len (log.ClientItem client call refusal) = omega (arith, number_len client.0, number_len call, outcome_len refusal, length-append (number client.0) (number call), length-append (number client.0 ++ number call) (outcome refusal))
