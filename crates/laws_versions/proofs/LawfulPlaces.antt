-- What a server numbers may follow the chunk's order: it is placed at the end of its server's replica, which is the image of a selection of the order.
use Rattle.std.proofs.Common.{◌≡◌, ◌⊎◌, ℕ, zero, suc, ◌+◌, ◌≤◌, ◌<◌, Bool, true, false, List, [], ◌∷◌, map, length, Some, refl, sym, ap, subst, ◌∙◌, inl, inr, arith}
use Rattle.std.specs.Prelude.{◌==◌, ◌||◌, max, IsTrue}
use Rattle.std.specs.List.{AllByRecursion, list_any}
use Rattle.std.proofs.lemmas.Bool.{and_parts, cases_lt, true≢false}
use Rattle.gfs_types.specs.declared.config.Config.{Config}
use Rattle.gfs_types.specs.declared.ids.DataId.{DataId}
use Rattle.gfs_types.specs.declared.ids.Handle.{Handle}
use Rattle.gfs_types.specs.declared.ids.Serial.{Serial}
use Rattle.gfs_types.specs.declared.ids.Version.{Version}
use Rattle.gfs_types.specs.declared.mutation.Mutation.{Mutation}
use Rattle.gfs_types.specs.declared.mutation.Mutation.TheVariants.{Write, Append, Pad}
use Rattle.gfs_types.specs.Mutations.{start_of, end_of}
use Rattle.gfs_types.specs.Image.{image_length}
use Rattle.messages.specs.declared.event.NodeInput.{NodeInput}
use Rattle.messages.specs.declared.event.NodeInput.TheVariants as input
use Rattle.messages.specs.declared.message.Message.{Message}
use Rattle.relaxed_file.specs.Order.{Entry, mutations_of, IsSelection, empty, takes, leaves}
use Rattle.relaxed_file.specs.Chunks.{is_an_end}
use Rattle.protocol.specs.Tables.{element_at}
use Rattle.protocol.specs.Choice.{Choice}
use Rattle.protocol.specs.declared.seen.Seen.TheVariants.{Numbered}
use Rattle.protocol.specs.Observer.{Placed, order_of, entries_of}
use Rattle.protocol.specs.Server.{chunk_limit, ServerState}
use Rattle.primary_order.specs.SerialOrder.{SerialOrder}
use Rattle.protocol.specs.ServerStep.{server_step}
use Rattle.protocol.specs.World.{WorldState, IsReached}
use Rattle.laws_base.proofs.Entries.{same_number}
use Rattle.laws_base.proofs.Steps.{same_some}
use Rattle.laws_base.specs.Replicas.{IsPlacedBehind, IsPlacedByReplica}
use Rattle.laws_base.specs.Laws.{IsSizeGranted}
use Rattle.laws_base.proofs.LeasesTold.{leases_are_told}
use Rattle.laws_base.proofs.Placings.{mutations_are_placed_by_replicas}
use Rattle.laws_base.specs.Entries.{IsAmong, IsPushed}
use Rattle.laws_versions.specs.HeldRounds.{ComesBehind}
use Rattle.laws_versions.specs.LawfulOrders.{MayFollow, IsMadeOf, NumberedMutationsMayFollow}
use Rattle.laws_versions.proofs.HeldRounds.{records_come_behind_their_round}
use Rattle.laws_versions.proofs.KeptData.{kept_was_pushed}
use Rattle.laws_versions.proofs.RecordPlaces.{IsShort, numbered_short}
use Rattle.laws_versions.proofs.KeptDisks.{stored_as_long}
use Rattle.laws_versions.proofs.Selections.{replicas_are_selections}
use Rattle.laws_versions.proofs.SettledEnds.{length_from, records_come_behind_settled_entries}

-- the end of an image

one_more_end : (a b c : Bool) → IsTrue (a || c) → IsTrue (a || (b || c))
one_more_end true b c h = refl
one_more_end false true c h = refl
one_more_end false false c h = h

this_end : (a b c : Bool) → IsTrue b → IsTrue (a || (b || c))
this_end true b c h = refl
this_end false true c h = refl
this_end false false c h = absurd (true≢false (sym h))

greater : (a b : ℕ) → (max a b ≡ a) ⊎ (max a b ≡ b)
greater a b = elim (cases_lt a b) [ inl less ↦ inr (omega (arith, less)) | inr least ↦ inl (omega (arith, least)) ]

-- a selection's image ends at 0 or at an entry's end
ends_at : (last : ℕ) {order chosen : List Entry} → IsSelection last order chosen → IsTrue (is_an_end order (image_length (mutations_of chosen)))
ends_at last empty = refl
ends_at last (takes {e} {order} {chosen} low rest) =
    let n : ℕ = image_length (mutations_of chosen) in
    let at : ℕ = end_of e.mutation in
    elim (greater at n) [
      | inl here ↦ subst (λ (k : ℕ). IsTrue ((k == 0) || ((at == k) || list_any (λ x. end_of x.mutation == k) order))) (sym here) (this_end (at == 0) (at == at) (list_any (λ x. end_of x.mutation == at) order) (same_number at))
      | inr there ↦ subst (λ (k : ℕ). IsTrue ((k == 0) || ((at == k) || list_any (λ x. end_of x.mutation == k) order))) (sym there)
          (one_more_end (n == 0) (at == n) (list_any (λ x. end_of x.mutation == n) order) (ends_at last rest))
    ]
ends_at last (leaves {e} {order} {chosen} late rest) =
    let n : ℕ = image_length (mutations_of chosen) in
    one_more_end (n == 0) (end_of e.mutation == n) (list_any (λ x. end_of x.mutation == n) order) (ends_at last rest)

-- each entry of an order, without its serial
pub all_entries : (P : Entry → Type 0) (ps : List Placed) → ((place : ℕ) (p : Placed) → element_at ps place ≡ Some p → P p.entry) → AllByRecursion P (map (λ p. p.entry) ps)
all_entries P [] each = tt
all_entries P (p ∷ ps) each = (each zero p refl, all_entries P ps (λ place q at. each (suc place) q at))

made_of : (size count : ℕ) (bytes : List ℕ) (m : Mutation) → IsPlacedBehind size count bytes m → IsShort size bytes m → IsMadeOf size bytes m
made_of size count bytes (Write offset written) by short = by.0
made_of size count bytes (Append offset written) by short = (by.0, short.0)
made_of size count bytes (Pad offset end) by short = (short, by.2)

-- It has room in a chunk of this size: a record or a pad begins below the chunk's end, and a pad ends where the chunk does.
abbrev pub HasRoom : (size : ℕ) → Mutation → Type 0
HasRoom size (Write offset bytes) = offset + length bytes ≤ size
HasRoom size (Append offset bytes) = (offset < size) × (offset + length bytes ≤ size)
HasRoom size (Pad offset end) = (offset < size) × (end ≡ size)

room_of : (size count : ℕ) (bytes : List ℕ) (m : Mutation) → IsPlacedBehind size count bytes m → IsShort size bytes m → HasRoom size m
room_of size count bytes (Write offset written) by short = by.1
room_of size count bytes (Append offset written) by short = (below, by.2)
  where
    below : offset < size
    below = elim (cases_lt offset size) [ inl less ↦ less | inr least ↦ absurd (short.1 (let fits = by.2 in omega (arith, least, fits))) ]
room_of size count bytes (Pad offset end) by short = (by.1, by.3)

-- What is asked of a place but for the size: a record or a pad begins at 0 or at an entry's end, at or past the end of each entry that is settled or of this round.
abbrev pub GoesBehind : List Entry → (round : ℕ) → Mutation → Type 0
GoesBehind order round m = IsTrue (is_an_end order (start_of m)) × AllByRecursion (λ e. (IsTrue e.settled ⊎ (e.round ≡ round)) → end_of e.mutation ≤ start_of m) order

abbrev pub MayStand : List Entry → (round : ℕ) → Mutation → Type 0
MayStand order round (Write offset bytes) = Unit {0}
MayStand order round (Append offset bytes) = GoesBehind order round (Append offset bytes)
MayStand order round (Pad offset end) = GoesBehind order round (Pad offset end)

pub may_follow : (size : ℕ) (order : List Entry) (round : ℕ) (m : Mutation) → HasRoom size m → MayStand order round m → MayFollow size order round m
may_follow size order round (Write offset bytes) room stands = room
may_follow size order round (Append offset bytes) room stands = (room.0, stands.0, (stands.1, room.1))
may_follow size order round (Pad offset end) room stands = ((room.0, stands.0, (stands.1, let same = room.1 in omega (arith, same))), room.1)

pub may_stand : (size : ℕ) (order : List Entry) (round : ℕ) (m : Mutation) → MayFollow size order round m → MayStand order round m
may_stand size order round (Write offset bytes) follows = tt
may_stand size order round (Append offset bytes) follows = (follows.1, follows.2.0)
may_stand size order round (Pad offset end) follows = (follows.0.1, follows.0.2.0)

module _ (config : Config) (servers clients : ℕ) (w : WorldState) (r : IsReached config servers clients w) (index : ℕ) (s : ServerState) (at : element_at w.servers index ≡ Some s) (moment : ℕ) (i : NodeInput) (choice : Choice)
    (came : (m : Message) → i ≡ input.Deliver m → IsAmong w.sent m) (shown : ℕ) (handle : Handle) (version : Version) (serial : Serial) (id : DataId) (m : Mutation)
    (seen : element_at (server_step s moment i choice).seen shown ≡ Some (Numbered handle version serial id m)) where
  pub placed : IsPlacedByReplica s handle.0 version.0 serial.0 id m
  placed = mutations_are_placed_by_replicas config servers clients w r index s at moment i choice shown handle version serial id m seen

  short : IsShort (chunk_limit s (placed.lease).chunk) placed.bytes m
  short =
      let one = numbered_short config servers clients w r index s at moment i choice came shown handle version serial id m seen in
      subst (λ (p : SerialOrder). IsShort (chunk_limit s p.chunk) placed.bytes m) (same_some one.0 placed.lease (sym one.1 ∙ placed.lease_is))
      (subst (λ (bs : List ℕ). IsShort (chunk_limit s (one.0).chunk) bs m) (same_some one.2 placed.bytes (sym one.3 ∙ placed.pushed)) one.4)

  -- of which data it is made
  pub numbered_data : (bytes : List ℕ) × IsPushed w.sent id bytes × IsMadeOf (chunk_limit s (placed.lease).chunk) bytes m
  numbered_data = (placed.bytes, kept_was_pushed config servers clients w r index s at id placed.bytes placed.pushed, made_of (chunk_limit s (placed.lease).chunk) (placed.replica).count placed.bytes m placed.placed short)

  -- and that it has room
  pub numbered_room : HasRoom (chunk_limit s (placed.lease).chunk) m
  numbered_room = room_of (chunk_limit s (placed.lease).chunk) (placed.replica).count placed.bytes m placed.placed short

  -- with which size its version was granted
  pub numbered_size : IsSizeGranted w.sent handle.0 version.0 (placed.lease).chunk
  numbered_size =
      let told = (leases_are_told config servers clients w r index s at handle.0 placed.lease placed.lease_is).0 in
      subst (λ (n : ℕ). IsSizeGranted w.sent handle.0 n (placed.lease).chunk) (sym placed.version_is) (told.0, told.1, told.2, told.4, told.5, (placed.lease).held.members, told.6)

pub numbered_mutations_may_follow : NumberedMutationsMayFollow
numbered_mutations_may_follow config servers clients w r kept index s at moment i choice came clocks shown handle version serial id m seen = (
  by.lease,
  by.lease_is,
  sym by.version_is,
  may_follow (chunk_limit s (by.lease).chunk) order version.0 m (numbered_room config servers clients w r index s at moment i choice came shown handle version serial id m seen) (stands m by.placed behind),
  numbered_data config servers clients w r index s at moment i choice came shown handle version serial id m seen,
)
  where
    by : IsPlacedByReplica s handle.0 version.0 serial.0 id m
    by = placed config servers clients w r index s at moment i choice came shown handle version serial id m seen

    order : List Entry
    order = entries_of w.observer handle.0

    count : ℕ
    count = (by.replica).count

    an_end : IsTrue (is_an_end order count)
    an_end =
        let selected = (replicas_are_selections config servers clients w r kept index s at).0 handle.0 by.replica by.replica_is in
        let long : count ≡ image_length (mutations_of selected.0) =
        sym (stored_as_long config servers clients w r (and_parts w.observer.are_clocks_kept w.observer.are_disks_kept kept).1 index s at handle.0 by.replica by.replica_is)
        ∙ ap (λ (bs : List ℕ). length bs) selected.2 ∙ length_from (mutations_of selected.0) 0 (image_length (mutations_of selected.0)) in
        subst (λ (n : ℕ). IsTrue (is_an_end order n)) (sym long) (ends_at (by.replica).version selected.1)

    behind : (place : ℕ) (e : Placed) → element_at (order_of w.observer handle.0) place ≡ Some e → IsTrue e.entry.settled ⊎ (e.entry.round ≡ version.0) → ComesBehind (end_of e.entry.mutation) m
    behind place e there which =
        elim (which) [
          | inl settled ↦ records_come_behind_settled_entries config servers clients w r kept index s at moment i choice came clocks shown handle version serial id m seen place e there settled
          | inr round ↦ records_come_behind_their_round config servers clients w r index s at moment i choice shown handle version serial id m seen place e there round
        ]

    past : (start : ℕ) → ((place : ℕ) (e : Placed) → element_at (order_of w.observer handle.0) place ≡ Some e → IsTrue e.entry.settled ⊎ (e.entry.round ≡ version.0) → end_of e.entry.mutation ≤ start)
        → AllByRecursion (λ e. (IsTrue e.settled ⊎ (e.round ≡ version.0)) → end_of e.mutation ≤ start) order
    past start each = all_entries (λ e. (IsTrue e.settled ⊎ (e.round ≡ version.0)) → end_of e.mutation ≤ start) (order_of w.observer handle.0) each

    end_here : (offset : ℕ) → offset ≡ count → IsTrue (is_an_end order offset)
    end_here offset same = subst (λ (n : ℕ). IsTrue (is_an_end order n)) (sym same) an_end

    stands : (x : Mutation) → IsPlacedBehind (chunk_limit s (by.lease).chunk) count by.bytes x
        → ((place : ℕ) (e : Placed) → element_at (order_of w.observer handle.0) place ≡ Some e → IsTrue e.entry.settled ⊎ (e.entry.round ≡ version.0) → ComesBehind (end_of e.entry.mutation) x) → MayStand order version.0 x
    stands (Write offset bytes) where_ each = tt
    stands (Append offset bytes) where_ each = (end_here offset where_.1, past offset each)
    stands (Pad offset end) where_ each = (end_here offset where_.0, past offset each)
