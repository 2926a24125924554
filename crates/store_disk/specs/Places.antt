-- Where the parts of a chunkserver's disk begin, and how many bytes each has, for a chunk of so many bytes in blocks of so many. A chunk is 64 MB in the paper (section 2.5), a block 64 KB with a checksum of its own (section 5.2).
use Rattle.std.specs.Prelude.{ℕ, ◌+◌, ◌*◌, ◌/◌}

-- the head
abbrev pub head_size : ℕ
head_size = 32

-- the number of the last order that the server took
abbrev pub order_place : ℕ
order_place = 32

abbrev pub order_size : ℕ
order_size = 16

-- the area that a change is written to before it is made
abbrev pub redo_place : ℕ
redo_place = 48

-- how many blocks a chunk has
abbrev pub blocks_of : ℕ → ℕ → ℕ
blocks_of chunk block = chunk / block

abbrev pub redo_size : ℕ → ℕ → ℕ
redo_size chunk block = chunk + 32 * blocks_of chunk block + 256

-- a slot: its header, a digest of 32 bytes for each block, and the chunk's bytes
abbrev pub header_size : ℕ
header_size = 40

abbrev pub slot_size : ℕ → ℕ → ℕ
slot_size chunk block = 40 + 32 * blocks_of chunk block + chunk

-- slots count from 0
abbrev pub slot_place : ℕ → ℕ → ℕ → ℕ
slot_place chunk block slot = 48 + redo_size chunk block + slot * slot_size chunk block

-- the digests of a slot
abbrev pub digests_place : ℕ → ℕ → ℕ → ℕ
digests_place chunk block slot = slot_place chunk block slot + 40

-- the chunk's bytes in a slot
abbrev pub data_place : ℕ → ℕ → ℕ → ℕ
data_place chunk block slot = digests_place chunk block slot + 32 * blocks_of chunk block

-- a whole disk with so many slots
abbrev pub disk_size : ℕ → ℕ → ℕ → ℕ
disk_size chunk block slots = slot_place chunk block slots
