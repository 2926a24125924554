-- A Grant and a Revoke, each taken apart in one place: a field more of one is a change of this file, and of the proofs that speak of that field.
use Rattle.std.proofs.Common.{◌≡◌, ℕ, true, false, List, [], None, Some, refl, sym, ap, subst, ◌∙◌}
use Rattle.std.specs.Prelude.{◌==◌, ◌&&◌}
use Rattle.std.proofs.lemmas.Bool.{eqb-true, and_parts, and_from}
use Rattle.gfs_types.specs.declared.ids.Handle.{Handle}
use Rattle.gfs_types.specs.declared.ids.Version.{Version}
use Rattle.gfs_types.specs.declared.ids.Moment.{Moment}
use Rattle.gfs_types.specs.declared.ids.OrderNo.{OrderNo}
use Rattle.leases.specs.LeaseHeld.{LeaseHeld}
use Rattle.messages.specs.declared.message.Body.{Body}
use Rattle.messages.specs.declared.message.Body.TheVariants as body
use Rattle.messages.specs.declared.message.Message.{Message}
use Rattle.chunk_table.specs.ChunkTable.{ChunkRow}
use Rattle.protocol.specs.Tables.{element_at}
use Rattle.protocol.specs.Sending.{the_server, handle_of, version_of, moment_of, order_number}
use Rattle.laws_base.specs.Laws.{IsGrantBody, is_grant, tells_end, WasGranted}
use Rattle.laws_base.proofs.Steps.{none_some}
use Rattle.laws_base.proofs.Entries.{same_number}

-- a Grant, as a case
pattern abbrev pub grant_body : OrderNo → Handle → Version → Moment → ℕ → List ℕ → Body
grant_body order handle version end_moment chunk members = body.Grant order handle version end_moment chunk members

-- a Revoke
pattern abbrev pub revoke_body : OrderNo → Handle → Version → Body
revoke_body order handle version = body.Revoke order handle version

-- a message is this Grant, with a size of the chunk
pub record SaysGrant (order : OrderNo) (handle : Handle) (version : Version) (end_moment : Moment) (members : List ℕ) (b : Body) : Type 0 where
  pub chunk : ℕ
  pub says : b ≡ body.Grant order handle version end_moment chunk members

abbrev pub says_grant : {order : OrderNo} {handle : Handle} {version : Version} {end_moment : Moment} {members : List ℕ} {b : Body} → IsGrantBody order handle version end_moment members b
    → SaysGrant order handle version end_moment members b
says_grant is = record { chunk = is.0; says = is.1 }

-- as a law states it
pub stated_grant : {order : OrderNo} {handle : Handle} {version : Version} {end_moment : Moment} {members : List ℕ} {b : Body} → SaysGrant order handle version end_moment members b
    → IsGrantBody order handle version end_moment members b
stated_grant is = (is.chunk, is.says)

-- so is the same message
abbrev pub moved_grant : {order : OrderNo} {handle : Handle} {version : Version} {end_moment : Moment} {members : List ℕ} {a b : Body} → a ≡ b → SaysGrant order handle version end_moment members b
    → SaysGrant order handle version end_moment members a
moved_grant same is = record { chunk = is.chunk; says = same ∙ is.says }

-- a Grant of a chunk and a version by their numbers
pub named_grant : {b : Body} {order : OrderNo} {q : Handle} {v : Version} {end_moment : Moment} {members : List ℕ} {handle version : ℕ} → SaysGrant order q v end_moment members b → q.0 ≡ handle → v.0 ≡ version
    → SaysGrant order (handle_of handle) (version_of version) end_moment members b
named_grant {b} {order} {q} {v} {end_moment} {members} {handle} {version} is key number =
    record {
      chunk = is.chunk;
      says = is.says ∙ (ap (λ (k : ℕ). body.Grant order (handle_of k) v end_moment is.chunk members) key ∙ ap (λ (k : ℕ). body.Grant order (handle_of handle) (version_of k) end_moment is.chunk members) number);
    }

-- the one by which a lease was granted
pub lease_grant : (sent : List Message) (server handle chunk : ℕ) (held : LeaseHeld) (g : WasGranted sent server handle chunk held) → SaysGrant g.4 (handle_of handle) (version_of held.version) g.5 held.members (g.1).body
lease_grant sent server handle chunk held g = says_grant (chunk, g.6)

pub was_granted : (sent : List Message) (server handle chunk : ℕ) (held : LeaseHeld) (place : ℕ) (grant : Message) → element_at sent place ≡ Some grant → grant.receiver ≡ the_server server → (order : OrderNo) (end_moment : Moment)
    → (is : SaysGrant order (handle_of handle) (version_of held.version) end_moment held.members grant.body) → is.chunk ≡ chunk → WasGranted sent server handle chunk held
was_granted sent server handle chunk held place grant at to order end_moment is same =
    (place, grant, at, to, order, end_moment, is.says ∙ ap (λ (n : ℕ). body.Grant order (handle_of handle) (version_of held.version) end_moment n held.members) same)

-- such a Grant is of those messages
abbrev pub HasGrant : (Body → Type 0) → OrderNo → Handle → Version → Moment → List ℕ → Type 0
HasGrant Came order handle version end_moment members = (b : Body) × Came b × SaysGrant order handle version end_moment members b

-- what a Grant says, and other messages don't
abbrev pub grant_handle : Body → ℕ
grant_handle (body.Grant order handle version end_moment chunk members) = handle.0
grant_handle other = 0

abbrev pub grant_version : Body → ℕ
grant_version (body.Grant order handle version end_moment chunk members) = version.0
grant_version other = 0

abbrev pub grant_members : Body → List ℕ
grant_members (body.Grant order handle version end_moment chunk members) = members
grant_members other = []

pub grant_number : {order : OrderNo} {handle : Handle} {version : Version} {end_moment : Moment} {members : List ℕ} {b : Body} → SaysGrant order handle version end_moment members b → order_number b ≡ Some order
grant_number is = ap order_number is.says

pub grant_counts : {order : OrderNo} {handle : Handle} {version : Version} {end_moment : Moment} {members : List ℕ} {b : Body} → SaysGrant order handle version end_moment members b
    → is_grant handle.0 version.0 b ≡ true
grant_counts {order} {handle} {version} {end_moment} {members} {b} is =
    ap (is_grant handle.0 version.0) is.says ∙ and_from (handle.0 == handle.0) (version.0 == version.0) (same_number handle.0) (same_number version.0)

pub grant_ends : {order : OrderNo} {handle : Handle} {version : Version} {end_moment : Moment} {members : List ℕ} {b : Body} → SaysGrant order handle version end_moment members b
    → tells_end handle.0 version.0 end_moment.0 b ≡ true
grant_ends {order} {handle} {version} {end_moment} {members} {b} is =
    ap (tells_end handle.0 version.0 end_moment.0) is.says
    ∙ and_from ((handle.0 == handle.0) && (version.0 == version.0)) (end_moment.0 == end_moment.0) (and_from (handle.0 == handle.0) (version.0 == version.0) (same_number handle.0) (same_number version.0)) (same_number end_moment.0)

-- what counts as a Grant is one
pub grant_parts : (handle version : ℕ) (b : Body) → is_grant handle version b ≡ true → (order : OrderNo) × (end_moment : Moment) × (members : List ℕ) × SaysGrant order (handle_of handle) (version_of version) end_moment members b
grant_parts handle version (body.Grant order q v end_moment chunk members) is =
    let parts = and_parts (q.0 == handle) (v.0 == version) is in
    let says : SaysGrant order q v end_moment members (body.Grant order q v end_moment chunk members) = says_grant (chunk, refl) in
    (order, end_moment, members, named_grant says (eqb-true q.0 handle parts.0) (eqb-true v.0 version parts.1))
grant_parts handle version other is = absurd (let no : false ≡ true = is in cc)

-- what holds of a message, if it is a Grant
abbrev pub OfGrant : (OrderNo → Handle → Version → Moment → List ℕ → Type 0) → Body → Type 0
OfGrant P (body.Grant order handle version end_moment chunk members) = P order handle version end_moment members
OfGrant P other = Unit {0}

pub of_grant : (P : OrderNo → Handle → Version → Moment → List ℕ → Type 0) {order : OrderNo} {handle : Handle} {version : Version} {end_moment : Moment} {members : List ℕ} {b : Body}
    → SaysGrant order handle version end_moment members b → OfGrant P b → P order handle version end_moment members
of_grant P is h = subst (λ (x : Body). OfGrant P x) is.says h

pub to_grant : (P : OrderNo → Handle → Version → Moment → List ℕ → Type 0) (b : Body)
    → ((order : OrderNo) (handle : Handle) (version : Version) (end_moment : Moment) (members : List ℕ) → SaysGrant order handle version end_moment members b → P order handle version end_moment members) → OfGrant P b
to_grant P (body.Grant order handle version end_moment chunk members) f = f order handle version end_moment members (says_grant (chunk, refl))
to_grant P other f = tt

-- a message that grants nothing
abbrev pub GrantsNothing : Body → Type 0
GrantsNothing (body.Grant order handle version end_moment chunk members) = ⊥
GrantsNothing other = Unit {0}

pub of_nothing : (P : OrderNo → Handle → Version → Moment → List ℕ → Type 0) (b : Body) → GrantsNothing b → OfGrant P b
of_nothing P (body.Grant order handle version end_moment chunk members) none = absurd none
of_nothing P other none = tt

pub not_said : {A : Type 0} {order : OrderNo} {handle : Handle} {version : Version} {end_moment : Moment} {members : List ℕ} {b : Body} → SaysGrant order handle version end_moment members b → GrantsNothing b → A
not_said is none = absurd (subst (λ (x : Body). GrantsNothing x) is.says none)

pub nothing_counts : (handle version : ℕ) (b : Body) → GrantsNothing b → is_grant handle version b ≡ false
nothing_counts handle version (body.Grant order q v end_moment chunk members) none = absurd none
nothing_counts handle version other none = refl

pub unordered_nothing : (b : Body) → order_number b ≡ None → GrantsNothing b
unordered_nothing (body.Grant order handle version end_moment chunk members) none = none_some order (sym none)
unordered_nothing other none = tt

-- one that extends nothing tells no end then
abbrev pub ExtendsNothing : Body → Type 0
ExtendsNothing (body.Extend handle version end_moment) = ⊥
ExtendsNothing other = Unit {0}

pub nothing_ends : (b : Body) → GrantsNothing b → ExtendsNothing b → (handle version until : ℕ) → tells_end handle version until b ≡ false
nothing_ends (body.Grant order q v end_moment chunk members) none also handle version until = absurd none
nothing_ends (body.Extend q v end_moment) none also handle version until = absurd also
nothing_ends other none also handle version until = refl

-- nor does one that tells no end grant anything
pub untold_nothing : (b : Body) → ((handle version until : ℕ) → tells_end handle version until b ≡ false) → GrantsNothing b
untold_nothing (body.Grant order q v end_moment chunk members) none =
    let says : SaysGrant order q v end_moment members (body.Grant order q v end_moment chunk members) = says_grant (chunk, refl) in
    let both : true ≡ false = sym (grant_ends says) ∙ none q.0 v.0 end_moment.0 in
    absurd (cc)
untold_nothing other none = tt

-- the master's Grant
abbrev pub grant_order : ℕ → ℕ → ℕ → ℕ → List ℕ → OrderNo → Body
grant_order handle version until chunk members order = body.Grant order (handle_of handle) (version_of version) (moment_of until) chunk members

-- a message is this Revoke
pub record SaysRevoke (order : OrderNo) (handle : Handle) (version : Version) (b : Body) : Type 0 where
  pub says : b ≡ body.Revoke order handle version

pub says_revoke : {order : OrderNo} {handle : Handle} {version : Version} {b : Body} → b ≡ body.Revoke order handle version → SaysRevoke order handle version b
says_revoke is = record { says = is }

pub moved_revoke : {order : OrderNo} {handle : Handle} {version : Version} {a b : Body} → a ≡ b → SaysRevoke order handle version b → SaysRevoke order handle version a
moved_revoke same is = record { says = same ∙ is.says }

pub named_revoke : {b : Body} {order : OrderNo} {q : Handle} {v : Version} {handle version : ℕ} → SaysRevoke order q v b → q.0 ≡ handle → v.0 ≡ version → SaysRevoke order (handle_of handle) (version_of version) b
named_revoke {b} {order} {q} {v} {handle} {version} is key number =
    record { says = is.says ∙ (ap (λ (k : ℕ). body.Revoke order (handle_of k) v) key ∙ ap (λ (k : ℕ). body.Revoke order (handle_of handle) (version_of k)) number) }

-- such a Revoke is of those messages
abbrev pub HasRevoke : (Body → Type 0) → OrderNo → Handle → Version → Type 0
HasRevoke Came order handle version = (b : Body) × Came b × SaysRevoke order handle version b

-- what a Revoke says, and other messages don't
abbrev pub revoke_handle : Body → ℕ
revoke_handle (body.Revoke order handle version) = handle.0
revoke_handle other = 0

abbrev pub revoke_version : Body → ℕ
revoke_version (body.Revoke order handle version) = version.0
revoke_version other = 0

-- a message that revokes nothing
abbrev pub RevokesNothing : Body → Type 0
RevokesNothing (body.Revoke order handle version) = ⊥
RevokesNothing other = Unit {0}

pub not_revoked : {A : Type 0} {order : OrderNo} {handle : Handle} {version : Version} {b : Body} → SaysRevoke order handle version b → RevokesNothing b → A
not_revoked is none = absurd (subst (λ (x : Body). RevokesNothing x) is.says none)

-- the master's Revoke of the lease of a row
abbrev pub revoke_order : ℕ → ChunkRow → OrderNo → Body
revoke_order handle row order = body.Revoke order (handle_of handle) (version_of row.granted)
