-- For which nodes a registry's writer writes.
use Rattle.std.proofs.Common.{◌≡◌, ℕ, ◌+◌, ◌≤◌, [], Option, refl, sym, ap, subst, ◌∙◌, arith}
use Rattle.atomic_table.specs.Table.{Me}
use Rattle.gfs_types.specs.declared.config.Config.{Config}
use Rattle.gfs_types.specs.declared.ids.Node.{Node}
use Rattle.gfs_types.specs.declared.ids.Node.TheVariants as node
use Rattle.cell_journal.specs.Identity.{Identity, Filled, identity}
use Rattle.cell_journal.specs.Roles.{number_of, node_at, WritesAs}
use Rattle.cell_journal.specs.Rules.{Writes, first_view, next_writer}
use Rattle.cell_journal.specs.declared.view.View.{View}
use Rattle.cell_journal.specs.declared.view.Role.{Role}
use Rattle.cell_journal.specs.declared.view.Role.TheVariants.{From}
use Rattle.cell_journal.specs.Writers.{WritesAll}
use Rattle.cell_seats.specs.Registry.{Registers, IsRegistered}

module _ (config : Config) (servers registered : ℕ) (me : Me (Option Filled) View) (registers : Registers config servers registered me) where
  pub writes_for : (n : Node) → registered ≤ number_of servers n → Writes me.0 n
  writes_for n h =
      subst (λ (r : Role). WritesAs me.0.of.servers r n) (sym registers.role)
      (subst (λ (k : ℕ). registered ≤ number_of k n) (sym registers.servers_are) h)

  -- for some node, however many nodes there were
  pub writes_some : (n : Node) × Writes me.0 n
  writes_some =
      let past : registered ≤ servers + registered = omega arith in
      (node.Client (record { 0 = registered }), writes_for (node.Client (record { 0 = registered })) past)

  -- the next node's own writer
  pub next_registered : (m n : Node) (w : Me (Option Filled) View) → node_at servers registered ≡ m → n ≡ m → w ≡ (next_writer me.0, []) → IsRegistered config servers m me.0 n w.0
  next_registered m n w at same is =
      subst (λ (x : Me (Option Filled) View). IsRegistered config servers m me.0 n x.0) (sym is)
      (record {
        node_is = same;
        of = refl;
        config_is = registers.config_is;
        servers_are = registers.servers_are;
        clients_are = registers.clients_are;
        mine = registers.mine;
        seen = refl;
      })

-- it writes for every node while none was registered
pub writes_all : (config : Config) (servers registered : ℕ) (me : Me (Option Filled) View) → Registers config servers registered me → registered ≡ 0 → WritesAll me
writes_all config servers registered me registers none = record { role = registers.role ∙ ap (λ (k : ℕ). From k) none; mine = registers.mine; free = registers.free }

-- the first writer of a cell
pub first_registers : (config : Config) (servers : ℕ) (cell : Identity) (me : Me (Option Filled) View) → cell ≡ identity cell.name config servers 64 cell.base cell.retired cell.retention
    → me ≡ (first_view cell, []) → Registers config servers 0 me
first_registers config servers cell me of is =
    subst (Registers config servers 0) (sym is)
    (record {
      role = refl;
      mine = refl;
      free = refl;
      config_is = ap (λ (i : Identity). i.config) of;
      servers_are = ap (λ (i : Identity). i.servers) of;
      clients_are = ap (λ (i : Identity). i.clients) of;
    })
