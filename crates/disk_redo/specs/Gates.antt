-- Bytes that count from the moment at which a gate before them is open. A gate is open where it is 1.
use Rattle.std.specs.Prelude.{◌≡◌, ◌⊎◌, ℕ, List, [], ◌∷◌, length}
use Rattle.disk.specs.Bytes.{put_at}
use Rattle.disk.specs.Device.{ChangesOnly}

-- with the bytes written and their gate open
abbrev pub committed : List ℕ → ℕ → List ℕ → ℕ → List ℕ
committed old at bytes gate = put_at (put_at old at bytes) gate (1 ∷ [])

-- a stop while that is done: any bytes in the range, or the bytes written and any byte at the gate
abbrev pub IsCommitting : List ℕ → ℕ → List ℕ → ℕ → List ℕ → Type 0
IsCommitting old at bytes gate c = ChangesOnly at (length bytes) old c ⊎ ChangesOnly gate 1 (put_at old at bytes) c

-- what the want of memory leaves: nothing is written, or the bytes are and their gate isn't
abbrev pub IsUncommitted : List ℕ → ℕ → List ℕ → List ℕ → Type 0
IsUncommitted old at bytes new = (new ≡ old) ⊎ (new ≡ put_at old at bytes)
