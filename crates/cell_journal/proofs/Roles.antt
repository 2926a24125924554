-- Whose steps a writer writes.
use Rattle.std.proofs.Common.{◌≡◌, ◌≢◌, ℕ, zero, suc, ◌+◌, ◌-◌, ◌≤◌, ◌<◌, Bool, true, false, List, [], ◌∷◌, ◌++◌, refl, sym, ap, subst, ◌∙◌, arith, if◌then◌else◌}
use Rattle.std.proofs.lemmas.Bool.Decides.{nat_tests}
use Rattle.std.specs.Prelude.{nat_le}
use Rattle.std.proofs.lemmas.List.{append-nil}
use Rattle.gfs_types.specs.declared.ids.Node.{Node}
use Rattle.gfs_types.specs.declared.ids.Node.TheVariants as node
use Rattle.protocol_journal.specs.Journal.{Entry, own}
use Rattle.cell_journal.specs.declared.view.Role.{Role}
use Rattle.cell_journal.specs.declared.view.Role.TheVariants.{Nobody, Only, From}
use Rattle.cell_journal.specs.Roles.{number_of, node_at, WritesAs, next_role, later_roles, own_of}

-- a node's number is the number that it is at
pub number_at : (servers k : ℕ) → number_of servers (node_at servers k) ≡ k
number_at servers zero = refl
number_at servers (suc k) = by_test (nat_le (suc k) servers) refl
  where
    by_test : (b : Bool) → nat_le (suc k) servers ≡ b
        → number_of servers (if b then node.Server (record { 0 = suc k }) else node.Client (record { 0 = suc k - servers })) ≡ suc k
    by_test true is = refl
    by_test false is =
        let past : servers < suc k = grind (arith, nat_tests) in
        omega (arith, past)

pub later_writes : (servers : ℕ) (r : Role) (n : Node) → WritesAs servers (later_roles r) n → WritesAs servers r n
later_writes servers Nobody n h = h
later_writes servers (Only m) n h = h
later_writes servers (From k) n h = omega (arith, h)

pub next_writes : (servers : ℕ) (r : Role) (n : Node) → WritesAs servers (next_role servers r) n → WritesAs servers r n
next_writes servers Nobody n h = h
next_writes servers (Only m) n h = absurd h
next_writes servers (From k) n h =
    let same : number_of servers n ≡ k = ap (number_of servers) (sym h) ∙ number_at servers k in
    omega (arith, same)

pub never_both : (servers : ℕ) (r : Role) (n : Node) → WritesAs servers (later_roles r) n → WritesAs servers (next_role servers r) n → ⊥
never_both servers Nobody n h g = h
never_both servers (Only m) n h g = g
never_both servers (From k) n h g =
    let same : number_of servers n ≡ k = ap (number_of servers) (sym g) ∙ number_at servers k in
    absurd (omega (arith, same, h))

-- what a writer knows of its own node's steps is what the journal has of them
pub own_same : (servers : ℕ) (r : Role) (mine : List Entry) (n : Node) (log : List Entry) → WritesAs servers r n → own n log ≡ mine → own n (log ++ []) ≡ own_of r mine (log ++ [])
own_same servers Nobody mine n log w h = absurd w
own_same servers (Only m) mine n log w h = ap (λ k. own k (log ++ [])) (sym w)
own_same servers (From k) mine n log w h = ap (own n) (append-nil log) ∙ h

pub own_only : (servers : ℕ) (r : Role) (mine : List Entry) (m n : Node) (entries : List Entry) → r ≡ Only m → WritesAs servers r n → own n entries ≡ own_of r mine entries
own_only servers r mine m n entries is =
    subst (λ (x : Role). WritesAs servers x n → own n entries ≡ own_of x mine entries) (sym is) (λ w. ap (λ k. own k entries) (sym w))
