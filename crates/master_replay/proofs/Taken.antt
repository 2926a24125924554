-- When a snapshot's copies follow a state.
use Rattle.std.proofs.Common.{◌≡◌, ℕ, suc, ◌+◌, ◌<◌, ◌⊎◌, inl, inr, Bool, true, false, ◌&&◌, List, [], ◌∷◌, refl, sym, ap, ◌∙◌, arith}
use Rattle.gfs_types.specs.Paths.{Path, is_path}
use Rattle.relaxed_file.specs.Names.{Node, Dir, File}
use Rattle.chunk_table.specs.ChunkTable.{TableState}
use Rattle.leases.specs.LeaseEnds.{last_moment}
use Rattle.snapshot.specs.Copies.{are_paths, may_share, may_share_all, with_node_shared}
use Rattle.protocol.specs.Logged.{Logged, snapshot_logged}
use Rattle.master_state.specs.Follows.{copies_follow, node_follows, table_of}

both_halves : (a b c d : Bool) → a && b && (c && d) ≡ (a && c) && (b && d)
both_halves true true c d = refl
both_halves true false true d = refl
both_halves true false false d = refl
both_halves false b c d = refl

-- the table after one copy
one_copy : (l : Logged) (path : Path) (n : Node) → table_of (snapshot_logged l ((path, n) ∷ [])) ≡ with_node_shared (table_of l) n
one_copy l path Dir = refl
one_copy l path (File id) =
    let next : l.next_file + 1 ≡ suc l.next_file = omega arith in
    ap (λ k. record { table = (with_node_shared (table_of l) (File id)).table; next_file = k; next_handle = l.next_handle }) (sym next)

node_alike : (s : TableState) (n : Node) → node_follows s n ≡ may_share s n
node_alike s Dir = refl
node_alike s (File id) = refl

pub copies_follow_both : (l : Logged) (es : List (Path × Node)) → copies_follow l es ≡ are_paths es && may_share_all (table_of l) es
copies_follow_both l [] = refl
copies_follow_both l (e ∷ es) =
    ap (λ b. is_path e.0 && node_follows (table_of l) e.1 && b) (copies_follow_both (snapshot_logged l (e ∷ [])) es)
    ∙ ap (λ b. is_path e.0 && b && (are_paths es && may_share_all (table_of (snapshot_logged l (e ∷ []))) es)) (node_alike (table_of l) e.1)
    ∙ ap (λ s. is_path e.0 && may_share (table_of l) e.1 && (are_paths es && may_share_all s es)) (one_copy l e.0 e.1)
    ∙ both_halves (is_path e.0) (may_share (table_of l) e.1) (are_paths es) (may_share_all (with_node_shared (table_of l) e.1) es)

pub refuted : (A : Type 0) → A ⊎ (last_moment < last_moment) → A
refuted A (inl a) = a
refuted A (inr lt) = absurd (omega (arith, lt))
