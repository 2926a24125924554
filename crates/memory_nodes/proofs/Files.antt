-- The file of a name, the handle of a file's chunk, and a step's input.
use Rattle.std.proofs.Common.{◌≡◌, ℕ, zero, suc, Bool, true, false, List, [], ◌∷◌, Some, None, Option, refl, sym, ap, ◌∙◌, subst}
use Rattle.std.specs.Prelude.{if◌then◌else◌, slice_get, option_map, option_and_then}
use Rattle.std.specs.FinMap as table
use Rattle.gfs_types.specs.Paths.{Path}
use Rattle.gfs_types.specs.declared.ids.FileId.{FileId}
use Rattle.gfs_types.specs.declared.ids.Handle.{Handle}
use Rattle.relaxed_file.specs.Names.{Node, Dir, File, node_at}
use Rattle.messages.specs.declared.message.Message.{Message}
use Rattle.messages.specs.declared.event.StepOut.{StepOut}
use Rattle.protocol.specs.declared.seen.Seen.{Seen}
use Rattle.protocol.specs.Conforms.{MasterSteps}
use Rattle.protocol.specs.Logged.{Logged}
use Rattle.protocol.specs.Lookups.{file_of_node}
use Rattle.gfs_types.specs.declared.config.Config.{Config}
use Rattle.protocol.specs.Master.{MasterState}
use Rattle.protocol.specs.MasterStep.{new_master}
use Rattle.protocol.specs.World.{files_seen}
use Rattle.protocol.specs.Sending.{file_id, handle_of}
use Rattle.protocol.specs.Tables.{Table, element_at}
use Rattle.cell_world.specs.FileNames.{file_in}
use Rattle.server_cell.specs.Inputs.{input_of}
use Rattle.master_cell.specs.Inputs.{input_of as master_input}

-- what a master shows of its log
abbrev pub shown_by : MasterState → Option Logged
shown_by m = if m.up then Some m.logged else None

by_up : (b : Bool) (logged : Logged) (found : Option ℕ) → None ≡ (if b then Some logged else None) → ◌≡◌ {A = Option FileId} None (option_map file_id (if b then found else None))
by_up true logged found e = cc
by_up false logged found e = refl

-- one that is down names none
pub none_down : (m : MasterState) (path : Path) → None ≡ shown_by m → ◌≡◌ {A = Option FileId} None (option_map file_id (file_in m path))
none_down m path e = by_up m.up m.logged (option_and_then file_of_node (node_at m.logged.names path)) e

of_node : (b : Bool) (logged shown : Logged) (path : Path) → Some shown ≡ (if b then Some logged else None)
    → option_and_then file_of_node (node_at shown.names path) ≡ (if b then option_and_then file_of_node (node_at logged.names path) else None)
of_node true logged shown path e =
    let same : shown ≡ logged = cc in
    ap (λ (l : Logged). option_and_then file_of_node (node_at l.names path)) same
of_node false logged shown path e = absurd cc

-- what stands at the name
pub named : (m : MasterState) (path : Path) (shown : Logged) (found : Option Node) → Some shown ≡ shown_by m → found ≡ node_at shown.names path
    → option_map file_id (option_and_then file_of_node found) ≡ option_map file_id (file_in m path)
named m path shown found e is = ap (option_map file_id) (ap (option_and_then file_of_node) is ∙ of_node m.up m.logged shown path e)

pub no_name : (m : MasterState) (path : Path) (shown : Logged) → Some shown ≡ shown_by m → None ≡ node_at shown.names path → ◌≡◌ {A = Option FileId} None (option_map file_id (file_in m path))
no_name m path shown e is = named m path shown None e is

pub a_file : (m : MasterState) (path : Path) (shown : Logged) (node : Node) (id : FileId) → Some shown ≡ shown_by m → Some node ≡ node_at shown.names path → File id.0 ≡ node
    → Some id ≡ option_map file_id (file_in m path)
a_file m path shown node id e is kind = named m path shown (Some (File id.0)) e (ap Some kind ∙ is)

pub a_directory : (m : MasterState) (path : Path) (shown : Logged) (node : Node) → Some shown ≡ shown_by m → Some node ≡ node_at shown.names path → Dir ≡ node
    → ◌≡◌ {A = Option FileId} None (option_map file_id (file_in m path))
a_directory m path shown node e is kind = named m path shown (Some Dir) e (ap Some kind ∙ is)

same_element : (hs : List ℕ) (n : ℕ) → slice_get hs n ≡ element_at hs n
same_element [] n = refl
same_element (x ∷ xs) zero = refl
same_element (x ∷ xs) (suc n) = same_element xs n

pub no_file : (files : Table (List ℕ)) (file index : ℕ) → None ≡ table.get files file
    → ◌≡◌ {A = Option Handle} None (option_map handle_of (option_and_then (λ handles. element_at handles index) (table.get files file)))
no_file files file index e = ap (λ (o : Option (List ℕ)). option_map handle_of (option_and_then (λ handles. element_at handles index) o)) e

at_index : (files : Table (List ℕ)) (file index : ℕ) (handles : List ℕ) (found : Option ℕ) → Some handles ≡ table.get files file → found ≡ slice_get handles index
    → option_map handle_of found ≡ option_map handle_of (option_and_then (λ hs. element_at hs index) (table.get files file))
at_index files file index handles found e is =
    ap (option_map handle_of) (is ∙ same_element handles index) ∙ ap (λ (o : Option (List ℕ)). option_map handle_of (option_and_then (λ hs. element_at hs index) o)) e

pub no_chunk : (files : Table (List ℕ)) (file index : ℕ) (handles : List ℕ) → Some handles ≡ table.get files file → None ≡ slice_get handles index
    → ◌≡◌ {A = Option Handle} None (option_map handle_of (option_and_then (λ hs. element_at hs index) (table.get files file)))
no_chunk files file index handles e is = at_index files file index handles None e is

pub a_chunk : (files : Table (List ℕ)) (file index : ℕ) (handles : List ℕ) (handle : ℕ) → Some handles ≡ table.get files file → Some handle ≡ slice_get handles index
    → Some (handle_of handle) ≡ option_map handle_of (option_and_then (λ hs. element_at hs index) (table.get files file))
a_chunk files file index handles handle e is = at_index files file index handles (Some handle) e is

same_input : (o : Option Message) → master_input o ≡ input_of o
same_input None = refl
same_input (Some m) = refl

-- a step on a message, or on a tick
pub on_input : (old : MasterState) (moment : ℕ) (o : Option Message) (out : StepOut) (seen : List Seen) (new : MasterState)
    → MasterSteps old moment (master_input o) out seen new → MasterSteps old moment (input_of o) out seen new
on_input old moment o out seen new h = subst (λ i. MasterSteps old moment i out seen new) (same_input o) h

-- while the master is up its files are shown
pub shown_up : (m : MasterState) (files before : Table (List ℕ)) → files ≡ files_seen m before → m.up ≡ true → files ≡ m.logged.table.files
shown_up m files before is up = is ∙ ap (λ (b : Bool). if b then m.logged.table.files else before) up

pub shown_first : (config : Config) (count : ℕ) (m : MasterState) (files : Table (List ℕ)) → m ≡ new_master config count → files ≡ table.empty → files ≡ m.logged.table.files
shown_first config count m files is none = none ∙ ap (λ (x : MasterState). x.logged.table.files) (sym is)
