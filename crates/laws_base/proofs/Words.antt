-- Which messages speak of leases: the master's orders and Extend, and a server's Revoked.
use Rattle.std.proofs.Common.{◌≡◌, Bool, true, false, List, None, refl}
use Rattle.messages.specs.declared.message.Body.{Body}
use Rattle.messages.specs.declared.message.Body.TheVariants as body
use Rattle.messages.specs.declared.message.Message.{Message}
use Rattle.protocol.specs.Sending.{order_number}
use Rattle.laws_base.proofs.LeaseOrders.{revoke_body, grant_body, GrantsNothing}
use Rattle.laws_base.proofs.Entries.{AllOf}

abbrev pub is_of_lease : Body → Bool
is_of_lease (body.Create order handle version) = true
is_of_lease (body.SetVersion order handle version base) = true
is_of_lease (grant_body order handle version end_moment chunk members) = true
is_of_lease (body.Extend handle version end_moment) = true
is_of_lease (revoke_body order handle version) = true
is_of_lease (body.Revoked handle version) = true
is_of_lease (body.Drop order handle version) = true
is_of_lease (body.Clone order handle version source) = true
is_of_lease (body.CopyLocal order handle version copy copy_version) = true
is_of_lease other = false

abbrev pub AreQuiet : List Message → Type 0
AreQuiet ms = AllOf (λ m. is_of_lease m.body ≡ false) ms

pub true_false : {A : Type 0} → true ≡ false → A
true_false h = absurd (let both : true ≡ false = h in cc)

pub no_order : (b : Body) → is_of_lease b ≡ false → order_number b ≡ None
no_order (body.Create order handle version) h = true_false h
no_order (body.SetVersion order handle version base) h = true_false h
no_order (grant_body order handle version end_moment chunk members) h = true_false h
no_order (revoke_body order handle version) h = true_false h
no_order (body.Drop order handle version) h = true_false h
no_order (body.Clone order handle version source) h = true_false h
no_order (body.CopyLocal order handle version copy copy_version) h = true_false h
no_order other h = refl

-- one that doesn't grants nothing
pub quiet_nothing : (b : Body) → is_of_lease b ≡ false → GrantsNothing b
quiet_nothing (grant_body order handle version end_moment chunk members) h = true_false h
quiet_nothing other h = tt
