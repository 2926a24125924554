-- A log in memory.
use Rattle.std.specs.Prelude.{ℕ, List, []}
use Rattle.log_records.specs.declared.record.Record.{Record}
use Rattle.protocol.specs.Logged.{LogDisk, new_log}

-- The log, the items of the checkpoint that is being written, and the bytes of its disk.
pub record MemoryLogState : Type 0 where
  pub disk : LogDisk
  pub writing : List Record
  pub log_bytes : ℕ

abbrev pub new_memory_log : ℕ → MemoryLogState
new_memory_log log_bytes = record { disk = new_log; writing = []; log_bytes = log_bytes }
