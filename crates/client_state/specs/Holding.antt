-- The bytes that a read holds.
use Rattle.std.specs.Prelude.{ℕ, List}
use Rattle.client_state.specs.declared.held.ReadBytes.{ReadBytes}
use Rattle.client_state.specs.declared.held.ReadBytes.TheVariants.{One, Many}

abbrev pub bytes_held : ReadBytes → List ℕ
bytes_held (One b) = b
bytes_held (Many v) = v.items
