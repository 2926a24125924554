-- What a buffer gives after a list of calls.
use Rattle.std.specs.Prelude.{◌≡◌, ◌⊎◌, ℕ, ◌+◌, ◌<◌, ◌≤◌, false, List, [], ◌∷◌, ◌++◌, length, Some, None}
use Rattle.gfs_types.specs.declared.ids.DataId.{DataId}
use Rattle.data_push.specs.Buffers.{PushBuffer, push_buffer, same_id, data_of, with_data, without_data}

-- a call of a buffer that changes it
pub data BufferCall : Type 0 where
  put : DataId → List ℕ → BufferCall
  take : DataId → BufferCall

abbrev pub id_of : BufferCall → DataId
id_of (put id bytes) = id
id_of (take id) = id

-- the buffer after one call
abbrev pub after_call : PushBuffer → BufferCall → PushBuffer
after_call b (put id bytes) = with_data b id bytes
after_call b (take id) = without_data b id

-- the buffer after these calls, in their order
abbrev pub after_calls : PushBuffer → List BufferCall → PushBuffer
after_calls b [] = b
after_calls b (call ∷ calls) = after_calls (after_call b call) calls

-- a new buffer for so many data, after these calls
abbrev pub after_all : ℕ → List BufferCall → PushBuffer
after_all limit calls = after_calls (push_buffer [] limit) calls

-- no call is about that id
abbrev pub LeavesOut : DataId → List BufferCall → Type 0
LeavesOut id [] = Unit {0}
LeavesOut id (call ∷ calls) = (same_id id (id_of call) ≡ false) × LeavesOut id calls

-- how many data were put
abbrev pub puts : List BufferCall → ℕ
puts [] = 0
puts (put id bytes ∷ calls) = 1 + puts calls
puts (take id ∷ calls) = puts calls

-- these data were put, and no later call was about their id
pub record WasLastPut (id : DataId) (bytes : List ℕ) (calls : List BufferCall) : Type 0 where
  pub before : List BufferCall
  pub since : List BufferCall
  pub calls_are : calls ≡ before ++ put id bytes ∷ since
  pub left_out : LeavesOut id since

-- the buffer is full, id is its oldest, and the call puts data of a new id
pub record Drops (b : PushBuffer) (id : DataId) (call : BufferCall) : Type 0 where
  pub newer : List (DataId × List ℕ)
  pub oldest : List ℕ
  pub entries_are : b.entries ≡ newer ++ (id, oldest) ∷ []
  pub full : length b.entries ≡ b.limit
  pub other : DataId
  pub bytes : List ℕ
  pub call_is : call ≡ put other bytes
  pub new : data_of b other ≡ None

-- one of these calls dropped the data under that id
pub record WasDropped (b : PushBuffer) (id : DataId) (calls : List BufferCall) : Type 0 where
  pub before : List BufferCall
  pub call : BufferCall
  pub after : List BufferCall
  pub calls_are : calls ≡ before ++ call ∷ after
  pub drops : Drops (after_calls b before) id call

abbrev pub GivesLastPut : Type 0
GivesLastPut = (limit : ℕ) (calls : List BufferCall) (id : DataId) (bytes : List ℕ)
    → data_of (after_all limit calls) id ≡ Some bytes → WasLastPut id bytes calls

abbrev pub KeepsUntilDropped : Type 0
KeepsUntilDropped = (limit : ℕ) (before since : List BufferCall) (id : DataId) (bytes : List ℕ)
    → 1 ≤ limit → LeavesOut id since
    → (data_of (after_all limit (before ++ put id bytes ∷ since)) id ≡ Some bytes) ⊎ WasDropped (after_all limit (before ++ put id bytes ∷ [])) id since

abbrev pub KeepsTheNewest : Type 0
KeepsTheNewest = (limit : ℕ) (before since : List BufferCall) (id : DataId) (bytes : List ℕ)
    → puts since < limit → LeavesOut id since
    → data_of (after_all limit (before ++ put id bytes ∷ since)) id ≡ Some bytes
