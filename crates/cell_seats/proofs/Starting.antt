-- A new node with its writer.
use Rattle.std.proofs.Common.{◌≡◌, ℕ, zero, suc, ◌+◌, ◌-◌, ◌≤◌, ◌<◌, Bool, true, false, if◌then◌else◌, List, [], ◌∷◌, ◌++◌, length, Option, Some, None, refl, sym, ap, subst, ◌∙◌, arith, inl, inr}
use Rattle.std.specs.Prelude.{◌⊎◌, map, nat_le}
use Rattle.std.proofs.lemmas.Bool.Decides.{nat_tests}
use Rattle.gfs_types.specs.declared.config.Config.{Config}
use Rattle.gfs_types.specs.declared.ids.ClientId.{ClientId}
use Rattle.gfs_types.specs.declared.ids.Node.{Node}
use Rattle.gfs_types.specs.declared.ids.Node.TheVariants as node
use Rattle.gfs_types.specs.declared.ids.ServerId.{ServerId}
use Rattle.protocol.specs.Tables.{element_at, first_numbers}
use Rattle.protocol.specs.World.{new_world, numbered_from_1}
use Rattle.protocol_journal.specs.Journal.{Entry, NodeState, node_in, own, LeadsTo}
use Rattle.cell_journal.specs.Identity.{Identity}
use Rattle.cell_journal.specs.WholeHistories.{steps_of, all_steps}
use Rattle.cell_journal.specs.Roles.{node_at}
use Rattle.cell_journal.specs.declared.view.View.{View}
use Rattle.cell_seats.specs.Slots.{IsLedTo}
use Rattle.cell_seats.specs.Registry.{IsRegistered}

at_before : {X : Type 0} (xs ys : List X) (k : ℕ) (x : X) → element_at xs k ≡ Some x → element_at (xs ++ ys) k ≡ Some x
at_before [] ys k x h = absurd (let none : None ≡ Some x = h in cc)
at_before (z ∷ zs) ys zero x h = h
at_before (z ∷ zs) ys (suc k) x h = at_before zs ys k x h

at_end : {X : Type 0} (xs : List X) (x : X) (k : ℕ) → length xs ≡ k → element_at (xs ++ x ∷ []) k ≡ Some x
at_end [] x zero h = refl
at_end [] x (suc k) h = absurd (omega (arith, h))
at_end (z ∷ zs) x zero h = absurd (omega (arith, h))
at_end (z ∷ zs) x (suc k) h = at_end zs x k (let e : length zs ≡ k = omega (arith, h) in e)

map_append : {X Y : Type 0} (f : X → Y) (xs ys : List X) → map f (xs ++ ys) ≡ map f xs ++ map f ys
map_append f [] ys = refl
map_append f (x ∷ xs) ys = ap (λ l. f x ∷ l) (map_append f xs ys)

counted : {Y : Type 0} (f : ℕ → Y) (n : ℕ) → length (map f (first_numbers n)) ≡ n
counted f zero = refl
counted f (suc n) = ap length (map_append f (first_numbers n) (suc n ∷ [])) ∙ longer (map f (first_numbers n)) (f (suc n)) ∙ ap (λ (k : ℕ). suc k) (counted f n)
  where
    longer : {Y : Type 0} (ys : List Y) (y : Y) → length (ys ++ y ∷ []) ≡ suc (length ys)
    longer [] y = refl
    longer (z ∷ zs) y = ap (λ (k : ℕ). suc k) (longer zs y)

split_at : (k n : ℕ) → k < suc n → (k < n) ⊎ (k ≡ n)
split_at zero zero h = inr refl
split_at zero (suc n) h = inl (let e : 0 < suc n = omega arith in e)
split_at (suc k) zero h = absurd (omega (arith, h))
split_at (suc k) (suc n) h = further (split_at k n (let e : k < suc n = omega (arith, h) in e))
  where
    further : (k < n) ⊎ (k ≡ n) → (suc k < suc n) ⊎ (suc k ≡ suc n)
    further (inl less) = inl (let e : suc k < suc n = omega (arith, less) in e)
    further (inr same) = inr (ap (λ (m : ℕ). suc m) same)

element_is : {Y : Type 0} (f : ℕ → Y) (count k : ℕ) → k < count → element_at (map f (first_numbers count)) k ≡ Some (f (suc k))
element_is f zero k h = absurd (omega (arith, h))
element_is f (suc n) k h = ap (λ l. element_at l k) (map_append f (first_numbers n) (suc n ∷ [])) ∙ by_case (element_is f n k) (split_at k n h)
  where
    by_case : (k < n → element_at (map f (first_numbers n)) k ≡ Some (f (suc k))) → (k < n) ⊎ (k ≡ n) → element_at (map f (first_numbers n) ++ f (suc n) ∷ []) k ≡ Some (f (suc k))
    by_case before (inl less) = at_before (map f (first_numbers n)) (f (suc n) ∷ []) k (f (suc k)) (before less)
    by_case before (inr same) = at_end (map f (first_numbers n)) (f (suc n)) k (counted f n ∙ sym same) ∙ ap (λ (m : ℕ). Some (f (suc m))) (sym same)

-- of a list with one for each number from 1, the one of a number
pub numbered_is : {Y : Type 0} (f : ℕ → Y) (count number : ℕ) → 0 < number → number ≤ count → numbered_from_1 (map f (first_numbers count)) number ≡ Some (f number)
numbered_is f count zero some within = absurd (omega (arith, some))
numbered_is f count (suc k) some within = element_is f count k (let e : k < count = omega (arith, within) in e)

-- a node that took no step, neither before nor in the journal, has none
pub no_steps : (node : Node) (v : View) (n : Node) (w : View) → n ≡ node → w.of ≡ v.of → w.mine ≡ [] → own node v.of.base ≡ [] → all_steps w n ≡ []
no_steps node v n w node_is of mine unused =
    ap (λ (es : List Entry). steps_of w.of n es) mine
    ∙ (ap (λ (c : Identity). own n c.base ++ []) of ∙ (ap (λ (m : Node). own m v.of.base ++ []) node_is ∙ ap (λ (es : List Entry). es ++ []) unused))

-- a node that took no step yet is in the state in which its cell began
pub led_new : (config : Config) (servers : ℕ) (node n : Node) (v w : View) (Stands : NodeState → Type 0) (state : NodeState) → IsRegistered config servers node v n w → own node v.of.base ≡ []
    → node_in (new_world config servers 64) node ≡ Some state → Stands state → IsLedTo w n Stands
led_new config servers node n v w Stands state registered unused begins stands = record {
  state = state;
  leads = subst (λ (es : List Entry). LeadsTo (node_in (new_world w.of.config w.of.servers w.of.clients) n) es (Some state)) (sym none)
      (subst (λ (o : Option NodeState). LeadsTo o [] (Some state)) (sym (world ∙ begins)) (state, refl, refl));
  stands = stands;
}
  where
    none : all_steps w n ≡ []
    none = no_steps node v n w registered.node_is registered.of registered.mine unused

    world : node_in (new_world w.of.config w.of.servers w.of.clients) n ≡ node_in (new_world config servers 64) node
    world = ap (λ (c : Config). node_in (new_world c w.of.servers w.of.clients) n) registered.config_is
        ∙ (ap (λ (k : ℕ). node_in (new_world config k w.of.clients) n) registered.servers_are
        ∙ (ap (λ (k : ℕ). node_in (new_world config servers k) n) registered.clients_are
        ∙ ap (λ (m : Node). node_in (new_world config servers 64) m) registered.node_is))

-- which node is next

pub master_at : (servers registered : ℕ) → registered ≡ 0 → node_at servers registered ≡ node.Master
master_at servers registered is = ap (node_at servers) is

pub server_at : (servers registered : ℕ) (id : ServerId) → registered ≡ id.0 → 0 < id.0 → id.0 ≤ servers → node_at servers registered ≡ node.Server id
server_at servers zero id is some within = absurd (omega (arith, is, some))
server_at servers (suc k) id is some within = by_test (nat_le (suc k) servers) refl
  where
    by_test : (b : Bool) → nat_le (suc k) servers ≡ b → (if b then node.Server (record { 0 = suc k }) else node.Client (record { 0 = suc k - servers })) ≡ node.Server id
    by_test true test = ap (λ (n : ℕ). node.Server (record { 0 = n })) is
    by_test false test =
        let past : servers < suc k = grind (arith, nat_tests) in
        absurd (omega (arith, past, is, within))

pub client_at : (servers registered : ℕ) (id : ClientId) → registered ≡ servers + id.0 → 0 < id.0 → node_at servers registered ≡ node.Client id
client_at servers zero id is some = absurd (omega (arith, is, some))
client_at servers (suc k) id is some = by_test (nat_le (suc k) servers) refl
  where
    by_test : (b : Bool) → nat_le (suc k) servers ≡ b → (if b then node.Server (record { 0 = suc k }) else node.Client (record { 0 = suc k - servers })) ≡ node.Client id
    by_test true test =
        let within : suc k ≤ servers = grind (arith, nat_tests) in
        absurd (omega (arith, within, is, some))
    by_test false test =
        let same : suc k - servers ≡ id.0 = omega (arith, is) in
        ap (λ (n : ℕ). node.Client (record { 0 = n })) same
