-- The lease of a chunk that counts, as the server's definitions have it.
use Rattle.std.proofs.Common.{◌≡◌, ℕ, Bool, true, false, cond, eqb, ◌&&◌, Option, Some, None, refl, sym, ap, ◌∙◌, subst}
use Rattle.std.specs.FinMap.{get, insert}
use Rattle.leases.specs.LeaseHeld.{counts_at, extended}
use Rattle.primary_order.specs.SerialOrder.{SerialOrder}
use Rattle.protocol.specs.Tables.{Table}
use Rattle.protocol.specs.Server.{ServerState, counting_primary, primary_of, with_primary}
use Rattle.protocol.specs.ServerOrders.{extends_held, takes_extend}
use Rattle.server_handlers.specs.declared.effects.ServerEffects.{ServerEffects}
use Rattle.server_handlers.specs.Doing.{doing}
use Rattle.server_handlers.specs.Held.{counting_at}

counting_is : (s : ServerState) (version : ℕ) (o : Option SerialOrder) → counting_at s.config.skew_ms s.now version o ≡ counting_primary s version o
counting_is s version None = refl
counting_is s version (Some p) = refl

-- by the clock bound that the leases have, and by that of the settings
pub counted_by : (s : ServerState) (skew own clock version handle : ℕ) (orders : Table SerialOrder) → skew ≡ own → own ≡ s.config.skew_ms → clock ≡ s.now → orders ≡ s.leases
    → counting_at skew clock version (get orders handle) ≡ primary_of s handle version
counted_by s skew own clock version handle orders is skew_is now_is leases_are =
    ap (λ n. counting_at n clock version (get orders handle)) (is ∙ skew_is)
    ∙ (ap (λ n. counting_at s.config.skew_ms n version (get orders handle)) now_is
    ∙ (ap (λ (t : Table SerialOrder). counting_at s.config.skew_ms s.now version (get t handle)) leases_are
    ∙ counting_is s version (get s.leases handle)))

same_order : (p q : SerialOrder) → Some p ≡ Some q → p ≡ q
same_order p q e = cc

no_order : {P : Type 0} (q : SerialOrder) → None ≡ Some q → P
no_order q e = cc

by_tests : (skew now : ℕ) (q p : SerialOrder) (a b : Bool) → counts_at skew q.held now ≡ b → cond (a && b) (Some q) None ≡ Some p → (Some q ≡ Some p) × (counts_at skew p.held now ≡ true)
by_tests skew now q p true true e h = (h, subst (λ (x : SerialOrder). counts_at skew x.held now ≡ true) (same_order q p h) e)
by_tests skew now q p true false e h = no_order p h
by_tests skew now q p false b e h = no_order p h

-- one that counts is held
pub counting_held : (s : ServerState) (version : ℕ) (o : Option SerialOrder) (p : SerialOrder) → counting_primary s version o ≡ Some p → (o ≡ Some p) × (counts_at s.config.skew_ms p.held s.now ≡ true)
counting_held s version None p h = no_order p h
counting_held s version (Some q) p h = by_tests s.config.skew_ms s.now q p (eqb q.held.version version) (counts_at s.config.skew_ms q.held s.now) refl h

-- a lease that is held at that version is moved on, by the clock bound that the leases have
pub extends_as : (s v : ServerState) (e : ServerEffects) (handle version end skew : ℕ) (p : SerialOrder) (after : Table SerialOrder) → v ≡ s → Some p ≡ get v.leases handle
    → eqb p.held.version version ≡ true → skew ≡ v.config.skew_ms → after ≡ insert v.leases handle (record p { held = extended skew p.held end v.now })
    → takes_extend (doing s e) handle version end ≡ doing (record v { leases = after }) e
extends_as s v e handle version end skew p after same found is skew_is moved =
    ap (λ (x : ServerState). takes_extend (doing x e) handle version end) (sym same)
    ∙ (ap (extends_held (doing v e) handle version end) (sym found)
    ∙ (ap (λ b. cond b (with_primary (doing v e) handle (record p { held = extended v.config.skew_ms p.held end v.now })) (doing v e)) is
    ∙ (ap (λ n. with_primary (doing v e) handle (record p { held = extended n p.held end v.now })) (sym skew_is)
    ∙ ap (λ (t : Table SerialOrder). doing (record v { leases = t }) e) (sym moved))))
