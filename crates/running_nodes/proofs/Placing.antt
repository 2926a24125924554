-- Places and clients that seats take.
use Rattle.std.proofs.Common.{◌≡◌, ℕ, zero, suc, ◌+◌, ◌-◌, ◌<◌, Bool, false, List, [], ◌∷◌, ◌++◌, length, get_or, inl, inr, refl, sym, ap, subst, ◌∙◌, arith, slice_set}
use Rattle.std.specs.Prelude.{◌⊎◌, Option, Some, None, IfSome, slice_get}
use Rattle.std.proofs.lemmas.Option.{slice_get_read}
use Rattle.gfs_types.specs.declared.config.Config.{Config}
use Rattle.gfs_types.specs.declared.ids.Node.TheVariants.{Client}
use Rattle.protocol.specs.Client.{new_client}
use Rattle.cell_journal.specs.Identity.{Identity}
use Rattle.cell_journal.specs.WholeHistories.{is_retired}
use Rattle.running_nodes.specs.declared.client_places.ClientPlace.{ClientPlace}
use Rattle.running_nodes.specs.declared.running_client.RunningClient.{RunningClient}
use Rattle.running_nodes.specs.Places.{IsPlaceOf, ArePlacesOf, AreNewClients, IsLeftOf}

-- what is taken out

kept_some : {X : Type 0} (xs : List (Option X)) (i k : ℕ) (x : X) → slice_get (slice_set xs i None) k ≡ Some (Some x) → slice_get xs k ≡ Some (Some x)
kept_some [] i k x h = h
kept_some {X} (o ∷ os) zero zero x h = absurd (let both : Some None ≡ Some (Some x) = h in cc)
kept_some (o ∷ os) zero (suc k) x h = h
kept_some (o ∷ os) (suc i) zero x h = h
kept_some (o ∷ os) (suc i) (suc k) x h = kept_some os i k x h

pub left_of : {X : Type 0} (xs ys : List (Option X)) (i : ℕ) → ys ≡ slice_set xs i None → IsLeftOf xs ys
left_of {X} xs ys i is k x at = kept_some xs i k x (subst (λ (l : List (Option X)). slice_get l k ≡ Some (Some x)) is at)

pub taken_some : {X : Type 0} (xs : List (Option X)) (i : ℕ) (o : Option X) (x : X) → i < length xs → o ≡ get_or xs i o → o ≡ Some x → slice_get xs i ≡ Some (Some x)
taken_some {X} xs i o x within at is = slice_get_read xs (length xs) i o refl within at ∙ ap (λ (p : Option X). Some p) is

pub fewer_places : (cell : Identity) (was now : List (Option ClientPlace)) → IsLeftOf was now → ArePlacesOf cell was → ArePlacesOf cell now
fewer_places cell was now left all k place at = all k place (left k place at)

pub fewer_clients : (config : Config) (made : ℕ) (was now : List (Option RunningClient)) → IsLeftOf was now → AreNewClients config made was → AreNewClients config made now
fewer_clients config made was now left all k c at = all k c (left k c at)

-- what is added

in_more : {X : Type 0} (xs : List X) (y : X) (k : ℕ) (z : X) → slice_get (xs ++ y ∷ []) k ≡ Some z → (slice_get xs k ≡ Some z) ⊎ ((k ≡ length xs) × (y ≡ z))
in_more {X} [] y zero z h = inr (refl, (let e : Some y ≡ Some z = h in cc))
in_more {X} [] y (suc k) z h = absurd (let e : None ≡ Some z = h in cc)
in_more (x ∷ xs) y zero z h = inl h
in_more (x ∷ xs) y (suc k) z h = further (in_more xs y k z h)
  where
    further : (slice_get xs k ≡ Some z) ⊎ ((k ≡ length xs) × (y ≡ z)) → (slice_get xs k ≡ Some z) ⊎ ((suc k ≡ suc (length xs)) × (y ≡ z))
    further (inl there) = inl there
    further (inr both) = inr (ap (λ (n : ℕ). suc n) both.0, both.1)

no_place_more : (cell : Identity) (was now : List (Option ClientPlace)) → now ≡ was ++ None ∷ [] → ArePlacesOf cell was → ArePlacesOf cell now
no_place_more cell was now is all k place at = by (in_more was None k (Some place) (subst (λ (l : List (Option ClientPlace)). slice_get l k ≡ Some (Some place)) is at))
  where
    by : (slice_get was k ≡ Some (Some place)) ⊎ ((k ≡ length was) × (None ≡ Some place)) → IsPlaceOf cell place
    by (inl there) = all k place there
    by (inr both) = absurd (let e : None ≡ Some place = both.1 in cc)

place_more : (cell : Identity) (was now : List (Option ClientPlace)) (new : ClientPlace) → now ≡ was ++ Some new ∷ [] → IsPlaceOf cell new → ArePlacesOf cell was → ArePlacesOf cell now
place_more cell was now new is one all k place at = by (in_more was (Some new) k (Some place) (subst (λ (l : List (Option ClientPlace)). slice_get l k ≡ Some (Some place)) is at))
  where
    by : (slice_get was k ≡ Some (Some place)) ⊎ ((k ≡ length was) × (Some new ≡ Some place)) → IsPlaceOf cell place
    by (inl there) = all k place there
    by (inr both) = subst (λ (o : Option ClientPlace). IfSome o (IsPlaceOf cell)) both.1 one

pub client_more : (config : Config) (made : ℕ) (was now : List (Option RunningClient)) (new : RunningClient) → now ≡ was ++ Some new ∷ [] → new.node.client ≡ new_client config (made + length was + 1)
    → AreNewClients config made was → AreNewClients config made now
client_more config made was now new is one all k c at = by (in_more was (Some new) k (Some c) (subst (λ (l : List (Option RunningClient)). slice_get l k ≡ Some (Some c)) is at))
  where
    by : (slice_get was k ≡ Some (Some c)) ⊎ ((k ≡ length was) × (Some new ≡ Some c)) → c.node.client ≡ new_client config (made + k + 1)
    by (inl there) = all k c there
    by (inr both) =
        let same : new ≡ c = (let e : Some new ≡ Some c = both.1 in cc) in
        ap (λ (x : RunningClient). x.node.client) (sym same) ∙ (one ∙ ap (λ (n : ℕ). new_client config (made + n + 1)) (sym both.0))

-- places that are made

pub place_added : (cell : Identity) (was now : List (Option ClientPlace)) (o : Option ClientPlace) → now ≡ was ++ o ∷ [] → IfSome o (IsPlaceOf cell) → ArePlacesOf cell was → ArePlacesOf cell now
place_added cell was now None is one all = no_place_more cell was now is all
place_added cell was now (Some place) is one all = place_more cell was now place is one all

-- a client whose flag is down goes on
pub goes_on_at : (cell : Identity) (retired : List Bool) (before : ℕ) → cell.retired ≡ retired → get_or retired before false ≡ false → is_retired cell (Client (record { 0 = before + 1 })) ≡ false
goes_on_at cell retired before same down =
    let place : before + 1 - 1 ≡ before = omega arith in
    ap (λ (l : List Bool). get_or l (before + 1 - 1) false) same ∙ (ap (λ (n : ℕ). get_or retired n false) place ∙ down)
