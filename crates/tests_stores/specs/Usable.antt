-- A store that a test can go on with.
use Rattle.std.specs.Prelude.{◌≡◌, true}
use Rattle.chunk_store.specs.Stores.{StoreState}

-- The store is open, for chunks of 64 bytes.
pub record IsUsable {D : Type 0} (store : StoreState D) : Type 0 where
  pub chunk : store.layout.chunk ≡ 64
  pub is_open : store.is_open ≡ true
