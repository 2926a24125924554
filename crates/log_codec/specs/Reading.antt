-- Reading from left to right.
use Rattle.std.specs.Prelude.{◌≡◌, ℕ, zero, suc, List, [], ◌∷◌, length, take, drop, Option, Some, None, Result, Ok, Err, nat_lt, ◌==◌, ◌&&◌, if◌then◌else◌}
use Rattle.std.specs.Int.{Width, w16, w32, w64, byte_len, from_le_bytes}
use Rattle.std.specs.List.{find}
use Rattle.std.specs.Str.{is_utf8}
use Rattle.gfs_types.specs.Paths.{is_path}
use Rattle.gfs_types.specs.Refusals.{number_of}
use Rattle.gfs_types.specs.declared.refusal.Refusal.{Refusal}
use Rattle.gfs_types.specs.declared.shape.Shape.{Shape}
use Rattle.gfs_types.specs.declared.refusal.Refusal.TheVariants.{BadPath, NoParent, Exists, NotFound, NotFile, NotDir, NotEmpty, Reserved, Inside, Busy, TooLong, BadFd, NamesFull, Collected, NoReplica, Failed, Unknown, NoMemory, ClockBroken, JournalFull, Closed, BadSize, NoChunk, Version, NoLease, NoData, OldSerial, OldRequest, Late, Corrupt, NoRoom, OldOrder, ChunkFull, ServerTooLong}
use Rattle.log_records.specs.declared.record.Record.{Record}
use Rattle.log_codec.specs.declared.fault.DecodeFault.{DecodeFault}
use Rattle.log_codec.specs.declared.fault.DecodeFault.TheVariants as faults

infixl 10 ◌>>=◌
abbrev pub ◌>>=◌ : {A B : Type 0} → Option A → (A → Option B) → Option B
(Some x) >>= f = f x
None >>= f = None

-- What a function returned, seen by view, is what reading gives, unless memory ran out.
abbrev pub Fails : {Y : Type 0} → DecodeFault → Option Y → Type 0
Fails faults.NoMemory read = Unit {0}
Fails faults.Damaged read = read ≡ None

abbrev pub Gives : {X Y : Type 0} → (X → Y) → Result X DecodeFault → Option Y → Type 0
Gives view (Ok x) read = read ≡ Some (view x)
Gives view (Err e) read = Fails e read

-- what reads a field: its value and the bytes after it
abbrev pub Reader : Type 0 → Type 0
Reader A = List ℕ → Option (A × List ℕ)

abbrev pub wide_at : Width → Reader ℕ
wide_at w bytes = if nat_lt (length bytes) (byte_len w) then None else Some (from_le_bytes w (take (byte_len w) bytes), drop (byte_len w) bytes)

unfoldable pub number_at : Reader ℕ
number_at bytes = wide_at w64 bytes

unfoldable pub index_at : Reader ℕ
index_at bytes = wide_at w32 bytes

unfoldable pub server_at : Reader ℕ
server_at bytes = wide_at w16 bytes

unfoldable pub path_in : List ℕ → Option (List ℕ)
path_in text = if is_path text && is_utf8 text then Some text else None

unfoldable pub path_at : Reader (List ℕ)
path_at bytes = do
  n ← server_at bytes
  if nat_lt (length n.1) n.0 then None else (do
    text ← path_in (take n.0 n.1)
    Some (text, drop n.0 n.1))

-- so many fields
unfoldable pub many_at : {A : Type 0} → Reader A → ℕ → Reader (List A)
many_at one zero bytes = Some ([], bytes)
many_at one (suc n) bytes = do
  first ← one bytes
  others ← many_at one n first.1
  Some (first.0 ∷ others.0, others.1)

unfoldable pub members_at : Reader (List ℕ)
members_at [] = None
members_at (n ∷ rest) = many_at server_at n rest

unfoldable pub handles_at : Reader (List ℕ)
handles_at bytes = do
  n ← index_at bytes
  many_at number_at n.0 n.1

unfoldable pub byte_at : Reader ℕ
byte_at [] = None
byte_at (b ∷ rest) = Some (b, rest)

unfoldable pub shape_at : Reader Shape
shape_at bytes = do
  chunk ← index_at bytes
  goal ← byte_at chunk.1
  Some (record { chunk = chunk.0; goal = goal.0 }, goal.1)

abbrev pub all_refusals : List Refusal
all_refusals = BadPath ∷ NoParent ∷ Exists ∷ NotFound ∷ NotFile ∷ NotDir ∷ NotEmpty ∷ Reserved ∷ Inside ∷ Busy ∷ TooLong ∷ BadFd ∷ NamesFull ∷ Collected
    ∷ NoReplica ∷ Failed ∷ Unknown ∷ NoMemory ∷ ClockBroken ∷ JournalFull ∷ Closed ∷ BadSize ∷ NoChunk ∷ Version ∷ NoLease ∷ NoData ∷ OldSerial ∷ OldRequest ∷ Late
    ∷ Corrupt ∷ NoRoom ∷ OldOrder ∷ ChunkFull ∷ ServerTooLong ∷ []

-- the refusal of this number
unfoldable pub refusal_numbered : ℕ → Option Refusal
refusal_numbered n = find (λ r. number_of r == n) all_refusals

unfoldable pub refusal_at : Reader Refusal
refusal_at [] = None
refusal_at (n ∷ rest) = do
  r ← refusal_numbered n
  Some (r, rest)

unfoldable pub outcome_at : Reader (Option Refusal)
outcome_at [] = None
outcome_at (zero ∷ rest) = Some (None, rest)
outcome_at (suc n ∷ rest) = do
  r ← refusal_numbered (suc n)
  Some (Some r, rest)

-- one field and then another
abbrev pub both : {A B : Type 0} → Reader A → Reader B → Reader (A × B)
both one other bytes = do
  a ← one bytes
  b ← other a.1
  Some ((a.0, b.0), b.1)

-- all of the bytes
abbrev pub all_of : {A : Type 0} → Reader A → (A → Record) → List ℕ → Option Record
all_of read make bytes = do
  x ← read bytes
  if length x.1 == 0 then Some (make x.0) else None
