-- The number and the printed name of each refusal.
use Rattle.std.specs.Prelude.{ℕ, List, codes}
use Rattle.gfs_types.specs.declared.refusal.Refusal.{Refusal}
use Rattle.gfs_types.specs.declared.refusal.Refusal.TheVariants.{BadPath, NoParent, Exists, NotFound, NotFile, NotDir, NotEmpty, Reserved, Inside, Busy, TooLong, BadFd, NamesFull, Collected, NoReplica, Failed, Unknown, NoMemory, ClockBroken, JournalFull, Closed, BadSize, NoChunk, Version, NoLease, NoData, OldSerial, OldRequest, Late, Corrupt, NoRoom, OldOrder, ChunkFull, ServerTooLong}

-- 1 to 22 are a client's refusals, 31 to 42 a chunkserver's
abbrev pub number_of : Refusal → ℕ
number_of BadPath = 1
number_of NoParent = 2
number_of Exists = 3
number_of NotFound = 4
number_of NotFile = 5
number_of NotDir = 6
number_of NotEmpty = 7
number_of Reserved = 8
number_of Inside = 9
number_of Busy = 10
number_of TooLong = 11
number_of BadFd = 12
number_of NamesFull = 13
number_of Collected = 14
number_of NoReplica = 15
number_of Failed = 16
number_of Unknown = 17
number_of NoMemory = 18
number_of ClockBroken = 19
number_of JournalFull = 20
number_of Closed = 21
number_of BadSize = 22
number_of NoChunk = 31
number_of Version = 32
number_of NoLease = 33
number_of NoData = 34
number_of OldSerial = 35
number_of OldRequest = 36
number_of Late = 37
number_of Corrupt = 38
number_of NoRoom = 39
number_of OldOrder = 40
number_of ChunkFull = 41
number_of ServerTooLong = 42

-- a client and a chunkserver refuse what is too long under one name
abbrev pub name_of : Refusal → List ℕ
name_of BadPath = codes "BadPath"
name_of NoParent = codes "NoParent"
name_of Exists = codes "Exists"
name_of NotFound = codes "NotFound"
name_of NotFile = codes "NotFile"
name_of NotDir = codes "NotDir"
name_of NotEmpty = codes "NotEmpty"
name_of Reserved = codes "Reserved"
name_of Inside = codes "Inside"
name_of Busy = codes "Busy"
name_of TooLong = codes "TooLong"
name_of BadFd = codes "BadFd"
name_of NamesFull = codes "NamesFull"
name_of Collected = codes "Collected"
name_of NoReplica = codes "NoReplica"
name_of Failed = codes "Failed"
name_of Unknown = codes "Unknown"
name_of NoMemory = codes "NoMemory"
name_of ClockBroken = codes "ClockBroken"
name_of JournalFull = codes "JournalFull"
name_of Closed = codes "Closed"
name_of BadSize = codes "BadSize"
name_of NoChunk = codes "NoChunk"
name_of Version = codes "Version"
name_of NoLease = codes "NoLease"
name_of NoData = codes "NoData"
name_of OldSerial = codes "OldSerial"
name_of OldRequest = codes "OldRequest"
name_of Late = codes "Late"
name_of Corrupt = codes "Corrupt"
name_of NoRoom = codes "NoRoom"
name_of OldOrder = codes "OldOrder"
name_of ChunkFull = codes "ChunkFull"
name_of ServerTooLong = codes "TooLong"
