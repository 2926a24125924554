-- Laws of every lawful list of events on orders that raise a version, and on the entries of copied chunks, that public functions of this crate state.
use Rattle.std.specs.Prelude.{◌≡◌, ◌≤◌, ◌<◌, ℕ, List, Some, IsTrue}
use Rattle.gfs_types.specs.declared.config.Config.{Config}
use Rattle.gfs_types.specs.declared.ids.Handle.{Handle}
use Rattle.gfs_types.specs.declared.ids.Version.{Version}
use Rattle.gfs_types.specs.declared.ids.OrderNo.{OrderNo}
use Rattle.messages.specs.declared.message.Message.{Message}
use Rattle.messages.specs.declared.message.Body.TheVariants as body
use Rattle.protocol.specs.Tables.{element_at}
use Rattle.protocol.specs.Observer.{Placed, order_of}
use Rattle.protocol.specs.World.{WorldState, IsReached}
use Rattle.laws_base.specs.ChunkOrders.{unsettled}

-- each entry of the first order that passes stands at its place in the second one, but for whether it is settled
abbrev pub Follows : (Placed → Type 0) → List Placed → List Placed → Type 0
Follows T from to = (place : ℕ) (p : Placed) → element_at from place ≡ Some p → T (unsettled p) → (q : Placed) × (element_at to place ≡ Some q) × (unsettled q ≡ unsettled p)

-- the entry's round is at most this version
abbrev pub IsUpTo : ℕ → Placed → Type 0
IsUpTo version p = p.entry.round ≤ version

-- Each SetVersion goes to a version above its base (section 3.1).
abbrev pub RaisesGoAboveTheirBase : Type 0
RaisesGoAboveTheirBase =
    (config : Config) (servers clients : ℕ) (w : WorldState) → IsReached config servers clients w → (place : ℕ) (m : Message) → element_at w.sent place ≡ Some m
    → (order : OrderNo) (handle : Handle) (version base : Version) → m.body ≡ body.SetVersion order handle version base → base.0 < version.0

-- Each CopyLocal goes to a version of the copy above the one that it copies (section 3.4).
abbrev pub CopiesGoAboveTheirSource : Type 0
CopiesGoAboveTheirSource =
    (config : Config) (servers clients : ℕ) (w : WorldState) → IsReached config servers clients w → (place : ℕ) (m : Message) → element_at w.sent place ≡ Some m
    → (order : OrderNo) (handle : Handle) (version : Version) (copy : Handle) (copy_version : Version) → m.body ≡ body.CopyLocal order handle version copy copy_version → version.0 < copy_version.0

-- Where clocks are kept, each entry of the source up to the version that a CopyLocal copies stands at its place in the copy's order, from the moment the order is sent (section 3.4).
abbrev pub CopiesHaveTheirSourcesEntries : Type 0
CopiesHaveTheirSourcesEntries =
    (config : Config) (servers clients : ℕ) (w : WorldState) → IsReached config servers clients w → IsTrue w.observer.are_clocks_kept
    → (place : ℕ) (m : Message) → element_at w.sent place ≡ Some m
    → (order : OrderNo) (handle : Handle) (version : Version) (copy : Handle) (copy_version : Version) → m.body ≡ body.CopyLocal order handle version copy copy_version
    → Follows (IsUpTo version.0) (order_of w.observer handle.0) (order_of w.observer copy.0)
