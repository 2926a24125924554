-- Pushed data in a buffer that is made at the first.
use Rattle.std.specs.Prelude.{ℕ, max, [], Option, Some, None}
use Rattle.data_push.specs.Buffers.{PushBuffer, push_buffer}

abbrev pub pushed_in : ℕ → Option PushBuffer → PushBuffer
pushed_in entries None = push_buffer [] (max 1 entries)
pushed_in entries (Some buffer) = buffer
