-- The placing table of record append (section 3.3).
use Rattle.std.specs.Prelude.{ℕ, ◌+◌, ◌/◌, nat_lt, nat_le, if◌then◌else◌}
use Rattle.record_append.specs.declared.placing.Placing.{Placing}
use Rattle.record_append.specs.declared.placing.Placing.TheVariants.{At, Pad, Full, TooLong}

-- A record is at most a quarter of a chunk. A full chunk takes none; else it is put behind the chunk's bytes where it fits there, or the chunk is padded to its end.
abbrev pub placing : (length size chunk : ℕ) → Placing
placing length size chunk =
    if nat_lt (chunk / 4) size then TooLong
    else (if nat_le chunk length then Full
    else (if nat_lt chunk (length + size) then Pad length
    else At length))
