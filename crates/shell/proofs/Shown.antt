-- Messages that are dropped, and replicas as they are printed.
use Rattle.std.proofs.Common.{◌≡◌, ℕ, List, [], ◌∷◌, map, Option, Some, None, Result, Ok, Err, refl, sym, ap, ◌∙◌, inl, inr}
use Rattle.std.specs.Prelude.{◌⊎◌, IfOk, IfErr, OnOk, OnErr, option_map, unwrap_or}
use Rattle.gfs_types.specs.declared.ids.Handle.{Handle}
use Rattle.script.specs.declared.stored.StoredReplica.{StoredReplica}
use Rattle.protocol.specs.Lookups.{StoredAt}
use Rattle.protocol.specs.Sending.{handle_of}
use Rattle.cell_world.specs.AsStored.{as_stored}
use Rattle.cell_world.specs.Held.{HeldCell}
use Rattle.cell_world.specs.Looks.{replicas_held}
use Rattle.cell_world.specs.Rebasing.{IsBehind, Rebases}
use Rattle.cell_world.specs.declared.rebase_fault.RebaseFault.{RebaseFault}
use Rattle.cell_world.specs.declared.rebase_fault.RebaseFault.TheVariants.{Clock}
use Rattle.shell.specs.Worlds.{DropsMessages, as_shown, replicas_shown}

pub dropped : {V : Type 0} (old new : HeldCell) (moment : ℕ) (r : Result V RebaseFault) → OnOk r (Rebases old moment new) → IfErr r (λ fault. (fault ≡ Clock) × IsBehind old moment) → OnErr r (new ≡ old) → DropsMessages old moment new
dropped old new moment (Ok v) ok fault same = inl ok
dropped old new moment (Err e) ok fault same = inr (fault.1, same)

stored_back : (rs : List StoredReplica) → rs ≡ map as_shown (map as_stored rs)
stored_back [] = refl
stored_back (r ∷ rs) = ap (λ xs. r ∷ xs) (stored_back rs)

-- replicas as they are printed, by what they stand for
pub shown_so : {V : Type 0} (h : HeldCell) (file index : ℕ) (items : V → List StoredReplica) (found : Option (Handle × V)) → option_map (λ c. (c.0.0, map as_stored (items c.1))) found ≡ replicas_held h file index
    → option_map (λ c. (c.0, items c.1)) found ≡ replicas_shown h file index
shown_so h file index items None e = ap (option_map (λ f. (handle_of f.0, map as_shown f.1))) e
shown_so h file index items (Some c) e =
    ap (λ rs. Some (c.0, rs)) (stored_back (items c.1)) ∙ ap (option_map (λ f. (handle_of f.0, map as_shown f.1))) e

pub shown_ok : {V E : Type 0} (h : HeldCell) (file index : ℕ) (items : V → List StoredReplica) (r : Result (Option (Handle × V)) E)
    → IfOk r (λ found. option_map (λ c. (c.0.0, map as_stored (items c.1))) found ≡ replicas_held h file index)
    → IfOk r (λ found. option_map (λ c. (c.0, items c.1)) found ≡ replicas_shown h file index)
shown_ok h file index items (Ok found) e = shown_so h file index items found e
shown_ok h file index items (Err x) e = tt
