-- Nodes of a new cell, one more at a time.
use Rattle.std.proofs.Common.{◌≡◌, ℕ, suc, ◌+◌, List, [], ◌∷◌, ◌++◌, map, refl, sym, subst, ap, ◌∙◌, arith}
use Rattle.std.specs.Prelude.{unwrap_or}
use Rattle.std.specs.Ordering.{nat_cmp}
use Rattle.std.specs.FinMap as table
use Rattle.std.proofs.lemmas.List.{map-append}
use Rattle.gfs_types.specs.declared.config.Config.{Config}
use Rattle.replica_store.specs.Replicas.{new_server_disk}
use Rattle.protocol.specs.Tables.{first_numbers}
use Rattle.protocol.specs.declared.seen.Seen.{Seen}
use Rattle.protocol.specs.Client.{new_client}
use Rattle.protocol.specs.Server.{started_server}
use Rattle.protocol.specs.MasterStep.{new_master}
use Rattle.protocol.specs.World.{new_world}
use Rattle.protocol.specs.Conforms.{IsLeftAs}
use Rattle.cell_world.specs.Seeing.{orders_seen}
use Rattle.cell_world.specs.Held.{HeldCell, IsHeldAs, AreHeldAs}
use Rattle.cell_world.proofs.Left.{same_left}

pub one_more : {X : Type 0} (f : ℕ → X) (n : ℕ) (xs after : List X) → xs ≡ map f (first_numbers n) → after ≡ xs ++ f (n + 1) ∷ [] → after ≡ map f (first_numbers (n + 1))
one_more f n xs after is more =
    let next : suc n ≡ n + 1 = omega arith in
    more ∙ (ap (λ ys. ys ++ f (n + 1) ∷ []) is ∙ (ap (λ k. map f (first_numbers n) ++ f k ∷ []) (next⁻ n) ∙ (back f n ∙ ap (λ k. map f (first_numbers k)) next)))
  where
    next⁻ : (n : ℕ) → n + 1 ≡ suc n
    next⁻ n = omega arith

    back : {Y : Type 0} (f : ℕ → Y) (n : ℕ) → map f (first_numbers n) ++ f (suc n) ∷ [] ≡ map f (first_numbers (suc n))
    back f n = sym (map-append f (first_numbers n) (suc n ∷ []))

none_held : AreHeldAs table.empty (orders_seen [])
none_held q = refl

pub held_new : (config : Config) (servers clients : ℕ) (h : HeldCell) → h.config ≡ config → h.master ≡ new_master config servers → h.files ≡ table.empty
    → h.servers ≡ map (λ s. started_server config s (new_server_disk config.chunk config.block config.slots) 0) (first_numbers servers) → h.clients ≡ map (new_client config) (first_numbers clients)
    → h.sent ≡ [] → h.seen ≡ [] → h.greatest ≡ 0 → IsHeldAs (new_world config servers clients) h
held_new config servers clients h config_is master_is files_are servers_are clients_are sent_is seen_is greatest_is = record {
  config = sym config_is;
  master = subst (IsLeftAs (new_master config servers)) (sym master_is) (same_left (new_master config servers));
  files = sym files_are;
  servers = sym servers_are;
  clients = sym clients_are;
  sent = sym sent_is;
  orders = subst (λ (s : List Seen). AreHeldAs table.empty (orders_seen s)) (sym seen_is) none_held;
  greatest = sym greatest_is;
}
