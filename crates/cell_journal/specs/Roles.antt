-- Whose steps a writer of the journal writes. The nodes have numbers: the master, then the servers, then the clients.
use Rattle.std.specs.Prelude.{◌≡◌, ℕ, zero, suc, ◌+◌, ◌-◌, ◌≤◌, nat_le, if◌then◌else◌, List}
use Rattle.gfs_types.specs.declared.ids.Node.{Node}
use Rattle.gfs_types.specs.declared.ids.Node.TheVariants as node
use Rattle.protocol_journal.specs.Journal.{Entry, own}
use Rattle.cell_journal.specs.declared.view.Role.{Role}
use Rattle.cell_journal.specs.declared.view.Role.TheVariants.{Nobody, Only, From}

abbrev pub number_of : ℕ → Node → ℕ
number_of servers node.Master = 0
number_of servers (node.Server s) = s.0
number_of servers (node.Client c) = servers + c.0

abbrev pub node_at : ℕ → ℕ → Node
node_at servers zero = node.Master
node_at servers (suc n) = if nat_le (suc n) servers then node.Server (record { 0 = suc n }) else node.Client (record { 0 = suc n - servers })

-- a writer of this role, among so many servers, writes this node's steps
abbrev pub WritesAs : ℕ → Role → Node → Type 0
WritesAs servers Nobody n = ⊥
WritesAs servers (Only m) n = m ≡ n
WritesAs servers (From k) n = k ≤ number_of servers n

-- the writer for the next node, and what is left
abbrev pub next_role : ℕ → Role → Role
next_role servers (From k) = Only (node_at servers k)
next_role servers other = Nobody

abbrev pub later_roles : Role → Role
later_roles (From k) = From (suc k)
later_roles other = other

-- the steps of its own that a writer knows, once it saw these entries
abbrev pub own_of : Role → List Entry → List Entry → List Entry
own_of (Only n) before entries = own n entries
own_of other before entries = before
