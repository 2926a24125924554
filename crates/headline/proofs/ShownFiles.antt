-- What is shown of names, files, orders and replicas is the machine's that is beside the world.
use Rattle.std.proofs.Common.{◌≡◌, ℕ, zero, suc, ◌≤◌, ◌<◌, Bool, true, false, cond, true≢false, List, [], ◌∷◌, length, Option, Some, None, refl, sym, ap, subst, ◌∙◌, arith}
use Rattle.std.specs.Prelude.{◌+◌, ◌&&◌, not, nat_le, filter, filter_map, option_and_then, if◌then◌else◌, IsTrue, IsFalse}
use Rattle.std.specs.List.{cons_option}
use Rattle.std.specs.FinMap as table
use Rattle.std.proofs.lemmas.Bool.{and_parts, le-leb, lt-ltb}
use Rattle.gfs_types.specs.declared.config.Config.{Config}
use Rattle.replica_store.specs.Replicas.{Replica, replica_of}
use Rattle.relaxed_file.specs.Order.{Entry, IsSelection, mutations_of}
use Rattle.relaxed_file.specs.Machine.{Machine, chunk_at, chunk_count}
use Rattle.relaxed_file.specs.Run.{IsRunTo}
use Rattle.protocol.specs.Tables.{Table, element_at}
use Rattle.protocol.specs.Lookups.{StoredAt, handle_at, stored_as, stored_on, replicas_of}
use Rattle.protocol.specs.Logged.{Logged}
use Rattle.protocol.specs.Server.{ServerState}
use Rattle.protocol.specs.Master.{PendingSnapshot}
use Rattle.protocol.specs.Observer.{Placed, entries_of}
use Rattle.protocol.specs.Conforms.{IsSelected}
use Rattle.protocol.specs.World.{WorldState, new_world, IsReached, is_kept}
use Rattle.laws_base.proofs.Steps.{none_some, same_some}
use Rattle.laws_machine.proofs.OpenEntries.{config_stays}
use Rattle.laws_versions.proofs.KeptDisks.{stored_as_long}
use Rattle.laws_versions.proofs.Selections.{replicas_are_selections}
use Rattle.protocol.specs.Each.{EachEntry, EachPlace}
use Rattle.protocol.specs.Explained.{IsShown, Explains}
use Rattle.laws_machine.specs.ChunksAlike.{ChunkSides, IsFileAlike, entries_in}
use Rattle.laws_machine.specs.ChunkReadings.{AgreeUpTo}
use Rattle.laws_machine.specs.ChunksBeside.{AreChunksBeside}
use Rattle.laws_machine.proofs.ChunkReadings.{length_of}
use Rattle.laws_machine.proofs.ShownChunks.{files_are_seen}
use Rattle.laws_machine.specs.WholeWorlds.{IsBeside}
use Rattle.headline.specs.Explanations.{WholeWorldsAreExplained}
use Rattle.machine_names.proofs.Effects.{same_collected}

-- each file that is shown has no more chunks than the machine's, and each has the order of the machine's chunk

abbrev AreFilesShown : WorldState → Machine → Type 0
AreFilesShown w m =
    EachEntry w.observer.files (λ file handles. (length handles ≤ chunk_count m file) × EachPlace handles (λ index handle. entries_of w.observer handle ≡ (chunk_at m file index).order))

no_longer : (xs : List ℕ) (n : ℕ) → ((index x : ℕ) → element_at xs index ≡ Some x → index < n) → length xs ≤ n
no_longer [] n below = omega arith
no_longer (x ∷ xs) zero below = let low = below 0 x refl in absurd (omega (arith, low))
no_longer (x ∷ xs) (suc n) below =
    let rest = no_longer xs n (λ index y at. let low = below (suc index) y at in omega (arith, low)) in
    omega (arith, rest)

-- a round that no entry is after
past_rounds : List Entry → ℕ
past_rounds [] = 0
past_rounds (e ∷ es) = e.round + past_rounds es

all_up_to : (n : ℕ) (es : List Entry) → past_rounds es ≤ n → filter (λ (e : Entry). nat_le e.round n) es ≡ es
unfolding past_rounds
all_up_to n [] low = refl
all_up_to n (e ∷ es) low =
    ap (λ (b : Bool). cond b (e ∷ filter (λ (x : Entry). nat_le x.round n) es) (filter (λ (x : Entry). nat_le x.round n) es)) (le-leb e.round n (omega (arith, low)))
    ∙ ap (λ (xs : List Entry). e ∷ xs) (all_up_to n es (omega (arith, low)))

same_entries : (order other : List Entry) → ((version : ℕ) → AgreeUpTo version order other) → order ≡ other
same_entries order other agree =
    let n : ℕ = past_rounds order + past_rounds other in
    sym (all_up_to n order (omega arith)) ∙ (agree n ∙ all_up_to n other (omega arith))

files_shown : (config : Config) (w : WorldState) (k : ChunkSides) → AreChunksBeside config w k → AreFilesShown w k.machine
files_shown config w k h file handles is = (
  no_longer handles (chunk_count k.machine file) (λ index handle at. ((h.shown file handles is index handle at).1 0).stands.count),
  λ index handle at.
      ap (λ (orders : Table (List Placed)). entries_in orders handle) (sym h.orders)
      ∙ same_entries (entries_in k.orders handle) (chunk_at k.machine file index).order (λ version. ((h.shown file handles is index handle at).1 version).stands.entries),
)

-- a replica that is shown

stored_of : (handle server : ℕ) (o : Option Replica) (r : StoredAt) → stored_as server o ≡ Some r → (x : Replica) × (o ≡ Some x) × (r ≡ record { server = server; version = x.version; count = x.count })
stored_of handle server None r is = none_some r is
stored_of handle server (Some x) r is = (x, refl, sym (same_some _ r is))

-- Where it stands on a server that is up.
record IsStored (w : WorldState) (handle : ℕ) (r : StoredAt) : Type 0 where
  index : ℕ
  server : ServerState
  there : element_at w.servers index ≡ Some server
  replica : Replica
  replica_is : replica_of server.disk handle ≡ Some replica
  shown : r ≡ record { server = server.id; version = replica.version; count = replica.count }

module _ (w : WorldState) (handle : ℕ) (r : StoredAt) where
  abbrev IsAmongServers : List ServerState → Type 0
  IsAmongServers ss = (index : ℕ) × (s : ServerState) × (element_at ss index ≡ Some s) × (stored_on handle s ≡ Some r)

  stored_among : (ss : List ServerState) (place : ℕ) → element_at (filter_map (stored_on handle) ss) place ≡ Some r → IsAmongServers ss
  stored_among [] place at = none_some r at
  stored_among (s ∷ rest) place at = by_first (stored_on handle s) refl place at (λ later there. let found = stored_among rest later there in (suc found.0, found.1, found.2, found.3))
    where
      by_first : (o : Option StoredAt) → stored_on handle s ≡ o → (n : ℕ) → element_at (cons_option o (filter_map (stored_on handle) rest)) n ≡ Some r
          → ((later : ℕ) → element_at (filter_map (stored_on handle) rest) later ≡ Some r → IsAmongServers (s ∷ rest)) → IsAmongServers (s ∷ rest)
      by_first None is n there others = others n there
      by_first (Some x) is zero there others = (0, s, refl, is ∙ there)
      by_first (Some x) is (suc n) there others = others n there

  is_stored : (place : ℕ) → element_at (replicas_of w handle) place ≡ Some r → IsStored w handle r
  is_stored place at =
      let found = stored_among w.servers place at in
      by_up found.0 found.1 found.2 found.1.up refl found.3
    where
      by_up : (index : ℕ) (s : ServerState) → element_at w.servers index ≡ Some s → (b : Bool) → s.up ≡ b → stored_on handle s ≡ Some r → IsStored w handle r
      by_up index s there false is kept = none_some r (sym (ap (λ (u : Bool). if u then stored_as s.id (replica_of s.disk handle) else None) is) ∙ kept)
      by_up index s there true is kept =
          let found = stored_of handle s.id (replica_of s.disk handle) r (sym (ap (λ (u : Bool). if u then stored_as s.id (replica_of s.disk handle) else None) is) ∙ kept) in
          record { index = index; server = s; there = there; replica = found.0; replica_is = found.1; shown = found.2 }

-- what is shown, beside a machine

module _ (config : Config) (servers clients : ℕ) (w : WorldState) (r : IsReached config servers clients w) (kept : IsTrue (is_kept w)) where
  config_is : w.config ≡ config
  config_is = ap (λ (v : WorldState). v.config) (sym r.1) ∙ config_stays config (new_world config servers clients) r.0 refl

  module _ (ss : List PendingSnapshot) (k : ChunkSides) (b : IsBeside config w ss k) where
    shown : AreFilesShown w k.machine
    shown = files_shown config w k b.chunks

    selected : (file index handle place : ℕ) (x : StoredAt) → handle_at w file index ≡ Some handle → element_at (replicas_of w handle) place ≡ Some x → IsSelected k.machine file index x
    selected file index handle place x at there = by_file (table.get w.observer.files file) refl at
      where
        s : IsStored w handle x
        s = is_stored w handle x place there

        by_file : (o : Option (List ℕ)) → table.get w.observer.files file ≡ o → option_and_then (λ handles. element_at handles index) o ≡ Some handle → IsSelected k.machine file index x
        by_file None is none = none_some handle none
        by_file (Some handles) is stands =
            let order : entries_of w.observer handle ≡ (chunk_at k.machine file index).order = (shown file handles is).1 index handle stands in
            let of_entries = (replicas_are_selections config servers clients w r kept s.index s.server s.there).0 handle s.replica s.replica_is in (
              of_entries.0,
              subst (λ (es : List Entry). IsSelection x.version es of_entries.0) order (subst (λ (n : ℕ). IsSelection n (entries_of w.observer handle) of_entries.0) (sym (ap (λ (y : StoredAt). y.version) s.shown)) of_entries.1),
              sym (length_of (mutations_of of_entries.0)) ∙ ap (λ (bs : List ℕ). length bs) (sym of_entries.2)
                  ∙ stored_as_long config servers clients w r (and_parts w.observer.are_clocks_kept w.observer.are_disks_kept kept).1 s.index s.server s.there handle s.replica s.replica_is
                  ∙ sym (ap (λ (y : StoredAt). y.count) s.shown),
            )

    explained : IsShown w k.machine → (m : Machine) × Explains w m
    explained is_shown = (k.machine, record { run = subst (λ (c : Config). IsRunTo c w.observer.trace k.machine) (sym config_is) b.run; shown = is_shown; replicas_are = selected })

    down_shown : IsFalse w.master.up → IsShown w k.machine
    down_shown down =
        record {
          names_are = λ up. absurd (true≢false (sym up ∙ down));
          counts_are = λ file handles is. ((shown file handles is).0, λ up. absurd (true≢false (sym up ∙ down)));
          files_are = λ up. absurd (true≢false (sym up ∙ down));
          orders_are = λ file handles is. (shown file handles is).1;
        }

  module _ (up : IsTrue w.master.up) (ss : List PendingSnapshot) (k : ChunkSides) (log_is : k.log ≡ w.master.logged) (b : IsBeside config w ss k) where
    files : w.observer.files ≡ k.log.table.files
    files = files_are_seen config servers clients w r up ∙ ap (λ (l : Logged). l.table.files) (sym log_is)

    alike_of : (file : ℕ) (handles : List ℕ) → table.get w.observer.files file ≡ Some handles → IsFileAlike k file handles
    alike_of file handles is = b.chunks.alike.there file handles (ap (λ (t : Table (List ℕ)). table.get t file) (sym files) ∙ is)

    up_shown : IsShown w k.machine
    up_shown =
        record {
          names_are = λ up. sym b.same.names ∙ sym b.named.alike.names ∙ ap (λ (l : Logged). l.names) log_is;
          counts_are = λ file handles is. ((shown ss k b file handles is).0, λ up. sym (alike_of file handles is).count);
          files_are = λ up n below there.
              ap (λ (t : Table (List ℕ)). table.contains_key t (suc n)) files ∙ b.named.alike.files (suc n)
              ∙ ap (λ (x : Bool). x && nat_le (suc n) b.names.file_count && not (b.names.files (suc n)).is_collected) (lt-ltb 0 (suc n) (omega arith))
              ∙ ap (λ (x : Bool). x && not (b.names.files (suc n)).is_collected) (le-leb (suc n) b.names.file_count (subst (λ (m : ℕ). n < m) (sym b.same.count) below))
              ∙ ap (λ (x : Bool). not x) (same_collected k.machine b.names b.same (suc n) ∙ there);
          orders_are = λ file handles is. (shown ss k b file handles is).1;
        }

pub whole_worlds_are_explained : WholeWorldsAreExplained
whole_worlds_are_explained config servers clients w r kept whole = by_up w.master.up refl
  where
    by_up : (u : Bool) → w.master.up ≡ u → (m : Machine) × Explains w m
    by_up true up =
        let found = whole.state up in
        explained config servers clients w r kept w.master.snapshots found.0 found.2 (up_shown config servers clients w r kept up w.master.snapshots found.0 found.1 found.2)
    by_up false down =
        let found = whole.log down [] in
        explained config servers clients w r kept [] found.0 found.2 (down_shown config servers clients w r kept [] found.0 found.2 down)
