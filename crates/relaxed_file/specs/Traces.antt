-- Worked traces, as checks of the definitions.
use Rattle.std.specs.Prelude.{◌≡◌, ℕ, Bool, List, [], ◌∷◌, ◌++◌, replicate, codes, None}
use Rattle.gfs_types.specs.declared.call.Call.TheVariants as call
use Rattle.gfs_types.specs.declared.answer.Answer.TheVariants as answer
use Rattle.gfs_types.specs.declared.refusal.Refusal.TheVariants.{NotFound, TooLong, Busy, Collected}
use Rattle.gfs_types.specs.declared.ids.Fd.{Fd}
use Rattle.gfs_types.specs.declared.config.Config.{Config}
use Rattle.relaxed_file.specs.declared.region.Region.{Region}
use Rattle.relaxed_file.specs.Regions.{regions_of}
use Rattle.relaxed_file.specs.Machine.{Machine, chunk_at}
use Rattle.relaxed_file.specs.Run.{Visible, Called, Answered, Passed, IsRunTo, IsRun}

-- chunks of 64 bytes and blocks of 16, the rest by default
abbrev pub small_chunks : Config
small_chunks = record {
  chunk = 64;
  block = 16;
  goal = 3;
  lease_ms = 60_000;
  skew_ms = 2_000;
  attempt_ms = 5_000;
  attempts = 5;
  cache_entries = 256;
  cache_ms = 60_000;
  push_entries = 64;
  keep_ms = 259_200_000;
  slots = 32;
  log_bytes = 16_777_216;
  journal = 1_048_576;
}

abbrev pub fd : ℕ → Fd
fd n = record { 0 = n }

-- client 1 makes a file and opens it, and then this
abbrev pub after_open : List Visible → List Visible
after_open rest =
    Called 1 (call.Create (codes "/f") None) ∷ Answered 1 answer.Done
    ∷ Called 1 (call.Open (codes "/f")) ∷ Answered 1 (answer.Fd (fd 1)) ∷ rest

-- what is written is read
abbrev pub hello_trace : List Visible
hello_trace = after_open (
    Called 1 (call.Write (fd 1) 0 (codes "hello")) ∷ Answered 1 answer.Done
    ∷ Called 1 (call.Read (fd 1) 0 5) ∷ Answered 1 (answer.Bytes (codes "hello") (1 ∷ [])) ∷ [])

-- a record of more than a quarter of a chunk is refused, and the file stays empty
abbrev pub long_record_trace : List Visible
long_record_trace = after_open (
    Called 1 (call.Append (fd 1) (replicate 17 97)) ∷ Answered 1 (answer.Refused TooLong)
    ∷ Called 1 (call.Length (fd 1)) ∷ Answered 1 (answer.Length 0) ∷ [])

abbrev pub IsRunOfSmall : List Visible → Type 0
IsRunOfSmall trace = IsRun small_chunks trace

-- thirteen times one letter
abbrev pub record_a : List ℕ
record_a = replicate 13 97

abbrev pub record_b : List ℕ
record_b = replicate 13 98

-- A record fails in one round and succeeds in the next. A client that opened the file before reads at the old round, where the failed record may be seen and the later one is not; when it opens the file again, it reads at the new round.
abbrev pub two_rounds_trace : List Visible
two_rounds_trace = after_open (
    Called 1 (call.Append (fd 1) record_a) ∷ Answered 1 (answer.At 0)
    ∷ Called 2 (call.Open (codes "/f")) ∷ Answered 2 (answer.Fd (fd 1))
    ∷ Called 2 (call.Read (fd 1) 0 64) ∷ Answered 2 (answer.Bytes record_a (1 ∷ []))
    ∷ Called 1 (call.Append (fd 1) record_b) ∷ Answered 1 (answer.At 26)
    ∷ Called 2 (call.Read (fd 1) 0 64) ∷ Answered 2 (answer.Bytes (record_a ++ record_b) (1 ∷ []))
    ∷ Called 2 (call.Open (codes "/f")) ∷ Answered 2 (answer.Fd (fd 2))
    ∷ Called 2 (call.Read (fd 2) 0 64) ∷ Answered 2 (answer.Bytes (record_a ++ record_b ++ record_b) (2 ∷ [])) ∷ [])

-- A snapshot waits until the lease on the file has ended; meanwhile another client is told Busy. Then the two files go their own ways.
abbrev pub snapshot_trace : List Visible
snapshot_trace =
    Called 1 (call.Mkdir (codes "/d")) ∷ Answered 1 answer.Done
    ∷ Called 1 (call.Create (codes "/d/f") None) ∷ Answered 1 answer.Done
    ∷ Called 1 (call.Open (codes "/d/f")) ∷ Answered 1 (answer.Fd (fd 1))
    ∷ Called 1 (call.Append (fd 1) record_a) ∷ Answered 1 (answer.At 0)
    ∷ Called 1 (call.Snapshot (codes "/d") (codes "/e"))
    ∷ Called 2 (call.Create (codes "/d/x") None) ∷ Answered 2 (answer.Refused Busy)
    ∷ Answered 1 answer.Done
    ∷ Called 1 (call.Append (fd 1) record_b) ∷ Answered 1 (answer.At 13)
    ∷ Called 1 (call.Open (codes "/e/f")) ∷ Answered 1 (answer.Fd (fd 2))
    ∷ Called 1 (call.Read (fd 2) 0 64) ∷ Answered 1 (answer.Bytes record_a (1 ∷ [])) ∷ []

-- A deleted file is found under its hidden name and can be brought back; its descriptor is refused once it is collected.
abbrev pub deletion_trace : List Visible
deletion_trace =
    Passed 5000
    ∷ Called 1 (call.Create (codes "/f") None) ∷ Answered 1 answer.Done
    ∷ Called 1 (call.Delete (codes "/f")) ∷ Answered 1 answer.Done
    ∷ Called 1 (call.List (codes "/.gone")) ∷ Answered 1 (answer.Names (codes "00000000000000005000-0000000000000001" ∷ []))
    ∷ Called 1 (call.Open (codes "/.gone/00000000000000005000-0000000000000001")) ∷ Answered 1 (answer.Fd (fd 1))
    ∷ Called 1 (call.Rename (codes "/.gone/00000000000000005000-0000000000000001") (codes "/g")) ∷ Answered 1 answer.Done
    ∷ Called 1 (call.Delete (codes "/g")) ∷ Answered 1 answer.Done
    ∷ Passed 259_205_000
    ∷ Called 1 (call.Open (codes "/.gone/00000000000000005000-0000000000000001")) ∷ Answered 1 (answer.Refused NotFound)
    ∷ Called 1 (call.Length (fd 1)) ∷ Answered 1 (answer.Refused Collected) ∷ []

-- the file's chunk has these regions at the end
abbrev pub HasRegions : ℕ → ℕ → List Region → Machine → Type 0
HasRegions file index regions m = regions_of (chunk_at m file index).order ≡ regions

-- a run with this trace ends in a state of which this holds
abbrev pub IsRunWith : List Visible → (Machine → Type 0) → Type 0
IsRunWith trace P = (m : Machine) × IsRunTo small_chunks trace m × P m

abbrev pub region : ℕ → ℕ → Bool → Region
region from to determined = record { from = from; to = to; determined = determined }

-- a file that has no chunk
abbrev pub empty_file_trace : List Visible
empty_file_trace = after_open (
    Called 1 (call.Read (fd 1) 0 10) ∷ Answered 1 (answer.Bytes [] [])
    ∷ Called 1 (call.Length (fd 1)) ∷ Answered 1 (answer.Length 0) ∷ [])

-- a record of a quarter of a chunk
abbrev pub quarter_record_trace : List Visible
quarter_record_trace = after_open (Called 1 (call.Append (fd 1) (replicate 16 97)) ∷ Answered 1 (answer.At 0) ∷ [])

-- The fifth record doesn't fit into the first chunk: the rest of it is padded with zeros, and the record begins the next one.
abbrev pub padding_trace : List Visible
padding_trace = after_open (
    Called 1 (call.Append (fd 1) record_a) ∷ Answered 1 (answer.At 0)
    ∷ Called 1 (call.Append (fd 1) record_a) ∷ Answered 1 (answer.At 13)
    ∷ Called 1 (call.Append (fd 1) record_a) ∷ Answered 1 (answer.At 26)
    ∷ Called 1 (call.Append (fd 1) record_a) ∷ Answered 1 (answer.At 39)
    ∷ Called 1 (call.Append (fd 1) record_a) ∷ Answered 1 (answer.At 64)
    ∷ Called 1 (call.Read (fd 1) 52 12) ∷ Answered 1 (answer.Bytes (replicate 12 0) (1 ∷ [])) ∷ [])

-- twenty letters, no two of them the same
abbrev pub letters : List ℕ
letters = codes "abcdefghijklmnopqrst"

-- a write over the boundary of two chunks: each gets its own part of the letters
abbrev pub two_chunks_trace : List Visible
two_chunks_trace = after_open (
    Called 1 (call.Write (fd 1) 60 letters) ∷ Answered 1 answer.Done
    ∷ Called 1 (call.Length (fd 1)) ∷ Answered 1 (answer.Length 80)
    ∷ Called 1 (call.Read (fd 1) 60 20) ∷ Answered 1 (answer.Bytes letters (1 ∷ 1 ∷ [])) ∷ [])

-- A record that one replica didn't get is tried again, and stands twice: the first time undetermined.
abbrev pub second_try_trace : List Visible
second_try_trace = after_open (Called 1 (call.Append (fd 1) record_a) ∷ Answered 1 (answer.At 13) ∷ [])
