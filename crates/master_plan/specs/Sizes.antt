-- The bytes that the log takes.
use Rattle.std.specs.Prelude.{ℕ, ◌+◌, []}
use Rattle.protocol.specs.LogSizes.{payload_size, used_size}
use Rattle.protocol.specs.Logged.{LogChange, AppendRecord, WriteCheckpoint}

-- after a change
abbrev pub size_after : ℕ → LogChange → ℕ
size_after used (AppendRecord entry) = used + (5 + payload_size entry)
size_after used (WriteCheckpoint items) = used_size items []
