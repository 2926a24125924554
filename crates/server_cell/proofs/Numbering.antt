-- A mutation that took its serial and was applied.
use Rattle.std.proofs.Common.{◌≡◌, ℕ, ◌+◌, true, cond, sym, ap, ◌∙◌, Some}
use Rattle.std.specs.Cmp.{nat_cmp_total, eq_by_cmp_equiv}
use Rattle.std.specs.FinMap.{get, insert, get-insert}
use Rattle.gfs_types.specs.declared.ids.DataId.{DataId}
use Rattle.gfs_types.specs.declared.mutation.Mutation.{Mutation}
use Rattle.messages.specs.declared.message.Change.{Change}
use Rattle.replica_store.specs.declared.change.StoreChange.{StoreChange}
use Rattle.leases.specs.LeaseHeld.{counts_at}
use Rattle.primary_order.specs.PrimaryOrder.{place_of}
use Rattle.primary_order.specs.SerialOrder.{SerialOrder, numbered}
use Rattle.protocol.specs.Server.{ServerState, ServerDoing}
use Rattle.protocol.specs.ServerWrites.{change_of, stored_as, primary_applies}
use Rattle.server_handlers.specs.declared.effects.ServerEffects.{ServerEffects}
use Rattle.server_handlers.specs.Doing.{doing, held_at, numbers, applies}

-- the lease of a mutation that was numbered
held_after : (s : ServerState) (e : ServerEffects) (handle : ℕ) (p : SerialOrder) (id : DataId) (m : Mutation) (mid : ServerDoing)
    → numbers (doing s e) handle p id m ≡ mid → held_at mid.server handle ≡ Some (numbered p id.client id.seq (place_of m))
held_after s e handle p id m mid goes =
    let new : SerialOrder = numbered p id.client id.seq (place_of m) in
    let leases : insert s.leases handle new ≡ mid.server.leases = ap (λ (d : ServerDoing). d.server.leases) goes in
    ap (λ t. get t handle) (sym leases)
    ∙ (get-insert nat_cmp_total s.leases handle new handle ∙ ap (λ b. cond b (Some new) (get s.leases handle)) ((eq_by_cmp_equiv nat_cmp_total).refl handle))

-- it counts as before
counts_after : (s : ServerState) (e : ServerEffects) (handle : ℕ) (p : SerialOrder) (id : DataId) (m : Mutation) (mid : ServerDoing)
    → numbers (doing s e) handle p id m ≡ mid → counts_at s.config.skew_ms p.held s.now ≡ true → counts_at mid.server.config.skew_ms p.held mid.server.now ≡ true
counts_after s e handle p id m mid goes counts = sym (ap (λ (d : ServerDoing). counts_at d.server.config.skew_ms p.held d.server.now) goes) ∙ counts

pub applied : (s : ServerState) (e : ServerEffects) (handle : ℕ) (p : SerialOrder) (id : DataId) (m : Mutation) (mid after : ServerDoing)
    → counts_at s.config.skew_ms p.held s.now ≡ true → numbers (doing s e) handle p id m ≡ mid
    → ((q : SerialOrder) → held_at mid.server handle ≡ Some q → counts_at mid.server.config.skew_ms q.held mid.server.now ≡ true → applies mid handle q (p.serial + 1) id (change_of m) (stored_as handle (p.serial + 1) m) ≡ after)
    → primary_applies (numbers (doing s e) handle p id m) handle p id m ≡ after
applied s e handle p id m mid after counts goes f =
    ap (λ (d : ServerDoing). applies d handle (numbered p id.client id.seq (place_of m)) (p.serial + 1) id (change_of m) (stored_as handle (p.serial + 1) m)) goes
    ∙ f (numbered p id.client id.seq (place_of m)) (held_after s e handle p id m mid goes) (counts_after s e handle p id m mid goes counts)

-- the same, in the words of the code
pub applied_as : (s : ServerState) (e : ServerEffects) (handle : ℕ) (p : SerialOrder) (id : DataId) (m : Mutation) (mid after : ServerDoing) (primary : SerialOrder) (serial : ℕ) (c : Change) (stored : StoreChange)
    → counts_at s.config.skew_ms p.held s.now ≡ true → numbers (doing s e) handle p id m ≡ mid → primary ≡ p → serial ≡ primary.serial → c ≡ change_of m → stored ≡ stored_as handle (serial + 1) m
    → ((q : SerialOrder) → held_at mid.server handle ≡ Some q → counts_at mid.server.config.skew_ms q.held mid.server.now ≡ true → applies mid handle q (serial + 1) id c stored ≡ after)
    → primary_applies (numbers (doing s e) handle p id m) handle p id m ≡ after
applied_as s e handle p id m mid after primary serial c stored counts goes same serial_is change_is stored_is f =
    let n : p.serial ≡ serial = sym (serial_is ∙ ap (λ (x : SerialOrder). x.serial) same) in
    applied s e handle p id m mid after counts goes (λ q at over.
    ap (λ (k : ℕ). applies mid handle q (k + 1) id (change_of m) (stored_as handle (k + 1) m)) n
    ∙ (ap (λ (x : Change). applies mid handle q (serial + 1) id x (stored_as handle (serial + 1) m)) (sym change_is)
    ∙ (ap (λ (x : StoreChange). applies mid handle q (serial + 1) id c x) (sym stored_is) ∙ f q at over)))
