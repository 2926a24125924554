-- What is true of a message by what was sent: versions that servers say they have were ordered, and those that servers copy from each other were ordered to be cloned.
use Rattle.std.proofs.Common.{◌≡◌, ℕ, List, [], ◌∷◌, ◌++◌, Some, ◌∙◌, inl, inr}
use Rattle.gfs_types.specs.declared.ids.Node.{Node}
use Rattle.gfs_types.specs.declared.ids.Node.TheVariants as node
use Rattle.gfs_types.specs.declared.ids.Handle.{Handle}
use Rattle.gfs_types.specs.declared.ids.Version.{Version}
use Rattle.gfs_types.specs.declared.ids.Serial.{Serial}
use Rattle.messages.specs.declared.message.Body.{Body}
use Rattle.messages.specs.declared.message.Body.TheVariants as body
use Rattle.messages.specs.declared.message.Message.{Message}
use Rattle.messages.specs.declared.message.ReplicaLine.{ReplicaLine}
use Rattle.messages.specs.declared.message.LeaseLine.{LeaseLine}
use Rattle.protocol.specs.Sending.{server_number}
use Rattle.std.specs.FinMap as table
use Rattle.protocol.specs.Tables.{Table}
use Rattle.laws_base.proofs.Entries.{AllOf, IsFound, all_found}
use Rattle.laws_base.proofs.MembersRecorded.{kept_place}
use Rattle.laws_versions.specs.HeldVersions.{WasCloned}
use Rattle.laws_versions.specs.ToldVersions.{WasOrdered}

-- some server was ordered to clone this version
abbrev pub IsCloned : List Message → ℕ → ℕ → Type 0
IsCloned sent handle version = (server : ℕ) × WasCloned sent server handle version

abbrev pub AreLinesOrdered : List Message → ℕ → List ReplicaLine → Type 0
AreLinesOrdered sent server lines = AllOf (λ (line : ReplicaLine). WasOrdered sent server line.handle.0 line.version.0) lines

-- of what a server says
abbrev pub IsTrueWord : List Message → ℕ → Body → Type 0
IsTrueWord sent server (body.Recorded handle version) = WasOrdered sent server handle.0 version.0
IsTrueWord sent server (body.Cloned handle version) = WasOrdered sent server handle.0 version.0
IsTrueWord sent server (body.Report replicas leases) = AreLinesOrdered sent server replicas
IsTrueWord sent server (body.CopyAsk handle version) = IsCloned sent handle.0 version.0
IsTrueWord sent server (body.Image handle version serial bytes) = IsCloned sent handle.0 version.0
IsTrueWord sent server other = Unit {0}

-- what servers alone say of versions
abbrev pub IsOthersWord : Body → Type 0
IsOthersWord (body.Recorded handle version) = ⊥
IsOthersWord (body.Cloned handle version) = ⊥
IsOthersWord (body.Report replicas leases) = ⊥
IsOthersWord (body.CopyAsk handle version) = ⊥
IsOthersWord (body.Image handle version serial bytes) = ⊥
IsOthersWord other = Unit {0}

abbrev pub IsTrueFrom : List Message → Node → Body → Type 0
IsTrueFrom sent node.Master b = IsOthersWord b
IsTrueFrom sent (node.Server s) b = IsTrueWord sent s.0 b
IsTrueFrom sent (node.Client c) b = IsOthersWord b

abbrev pub IsTrueMessage : List Message → Message → Type 0
IsTrueMessage sent m = IsTrueFrom sent m.sender m.body

-- by its kind

pub recorded_true : (sent : List Message) (sender : Node) (handle : Handle) (version : Version) → IsTrueFrom sent sender (body.Recorded handle version) → WasOrdered sent (server_number sender) handle.0 version.0
recorded_true sent node.Master handle version h = absurd h
recorded_true sent (node.Server s) handle version h = h
recorded_true sent (node.Client c) handle version h = absurd h

pub cloned_true : (sent : List Message) (sender : Node) (handle : Handle) (version : Version) → IsTrueFrom sent sender (body.Cloned handle version) → WasOrdered sent (server_number sender) handle.0 version.0
cloned_true sent node.Master handle version h = absurd h
cloned_true sent (node.Server s) handle version h = h
cloned_true sent (node.Client c) handle version h = absurd h

pub report_true : (sent : List Message) (sender : Node) (replicas : List ReplicaLine) (leases : List LeaseLine) → IsTrueFrom sent sender (body.Report replicas leases) → AreLinesOrdered sent (server_number sender) replicas
report_true sent node.Master replicas leases h = absurd h
report_true sent (node.Server s) replicas leases h = h
report_true sent (node.Client c) replicas leases h = absurd h

pub copy_ask_true : (sent : List Message) (sender : Node) (handle : Handle) (version : Version) → IsTrueFrom sent sender (body.CopyAsk handle version) → IsCloned sent handle.0 version.0
copy_ask_true sent node.Master handle version h = absurd h
copy_ask_true sent (node.Server s) handle version h = h
copy_ask_true sent (node.Client c) handle version h = absurd h

pub image_true : (sent : List Message) (sender : Node) (handle : Handle) (version : Version) (serial : Serial) (bytes : List ℕ) → IsTrueFrom sent sender (body.Image handle version serial bytes) → IsCloned sent handle.0 version.0
image_true sent node.Master handle version serial bytes h = absurd h
image_true sent (node.Server s) handle version serial bytes h = h
image_true sent (node.Client c) handle version serial bytes h = absurd h

-- what was sent before was sent

pub cloned_more : (sent ms : List Message) (handle version : ℕ) → IsCloned sent handle version → IsCloned (sent ++ ms) handle version
cloned_more sent ms handle version g = let c = g.1 in (g.0, (c.0, c.1, kept_place sent ms c.0 c.1 c.2, c.3, c.4))

pub ordered_more : (sent ms : List Message) (server handle version : ℕ) → WasOrdered sent server handle version → WasOrdered (sent ++ ms) server handle version
ordered_more sent ms server handle version (inl g) = inl (g.0, g.1, kept_place sent ms g.0 g.1 g.2, g.3, g.4)
ordered_more sent ms server handle version (inr g) = inr (g.0, g.1, kept_place sent ms g.0 g.1 g.2, g.3, g.4)

lines_more : (sent ms : List Message) (server : ℕ) (lines : List ReplicaLine) → AreLinesOrdered sent server lines → AreLinesOrdered (sent ++ ms) server lines
lines_more sent ms server [] h = tt
lines_more sent ms server (line ∷ lines) h = (ordered_more sent ms server line.handle.0 line.version.0 h.0, lines_more sent ms server lines h.1)

word_more : (sent ms : List Message) (server : ℕ) (b : Body) → IsTrueWord sent server b → IsTrueWord (sent ++ ms) server b
word_more sent ms server (body.Recorded handle version) h = ordered_more sent ms server handle.0 version.0 h
word_more sent ms server (body.Cloned handle version) h = ordered_more sent ms server handle.0 version.0 h
word_more sent ms server (body.Report replicas leases) h = lines_more sent ms server replicas h
word_more sent ms server (body.CopyAsk handle version) h = cloned_more sent ms handle.0 version.0 h
word_more sent ms server (body.Image handle version serial bytes) h = cloned_more sent ms handle.0 version.0 h
word_more sent ms server other h = tt

pub true_more : (sent ms : List Message) (sender : Node) (b : Body) → IsTrueFrom sent sender b → IsTrueFrom (sent ++ ms) sender b
true_more sent ms node.Master b h = h
true_more sent ms (node.Server s) b h = word_more sent ms s.0 b h
true_more sent ms (node.Client c) b h = h

-- what holds of each entry of a table

all_of_found : {X : Type 0} (P : ℕ → X → Type 0) (t : Table X) (es : List (ℕ × X)) → ((k : ℕ) (x : X) → table.get t k ≡ Some x → P k x) → AllOf (IsFound (table.entries t)) es → AllOf (λ e. P e.0 e.1) es
all_of_found P t [] f h = tt
all_of_found P t (e ∷ es) f h = (f e.0 e.1 (table.get-entries t e.0 ∙ h.0), all_of_found P t es f h.1)

pub all_entries : {X : Type 0} (P : ℕ → X → Type 0) (t : Table X) → ((k : ℕ) (x : X) → table.get t k ≡ Some x → P k x) → AllOf (λ e. P e.0 e.1) (table.entries t)
all_entries P t f = all_of_found P t (table.entries t) f (all_found (table.entries t) (table.entries_sorted t))
