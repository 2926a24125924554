-- The locks of so many servers, and of one more.
use Rattle.std.proofs.Common.{◌≡◌, ℕ, zero, suc, ◌+◌, ◌<◌, ◌≤◌, List, [], ◌∷◌, ◌++◌, length, get_or, Some, refl, sym, ap, ◌∙◌, arith}
use Rattle.std.specs.Prelude.{map, slice_get, All}
use Rattle.std.specs.Option.{option_map}
use Rattle.std.proofs.lemmas.List.{length-map, length-append}
use Rattle.std.proofs.lemmas.List.Elements.{All-head, All-tail}
use Rattle.std.proofs.lemmas.Option.{slice_get-map, slice_get_read}
use Rattle.gfs_types.specs.declared.ids.Node.TheVariants.{Master}
use Rattle.protocol.specs.Tables.{first_numbers, element_at}
use Rattle.protocol.specs.Sending.{the_server}
use Rattle.cell_journal.specs.Identity.{Identity}
use Rattle.cell_seats.specs.NodeLocks.{NodeName, node_name}
use Rattle.cell_seats.specs.ParkedNodes.{ParkedNodeState, HasSeenBase}
use Rattle.cell_seats.proofs.Starting.{numbered_is}
use Rattle.cell_nodes.specs.Nodes.{names_of}

-- the servers of the first so many numbers
abbrev servers_of : Identity → ℕ → List NodeName
servers_of cell servers = map (λ s. node_name cell (the_server s)) (first_numbers servers)

map_append : {X Y : Type 0} (f : X → Y) (xs ys : List X) → map f (xs ++ ys) ≡ map f xs ++ map f ys
map_append f [] ys = refl
map_append f (x ∷ xs) ys = ap (λ l. f x ∷ l) (map_append f xs ys)

pub one_lock_more : {X : Type 0} (f : X → NodeName) (cell : Identity) (before : ℕ) (was now : List X) (one : X) → now ≡ was ++ one ∷ [] → f one ≡ node_name cell (the_server (before + 1))
    → map f was ≡ servers_of cell before → map f now ≡ servers_of cell (before + 1)
one_lock_more f cell before was now one is new locks =
    let next : before + 1 ≡ suc before = omega arith in
    let last : map f (one ∷ []) ≡ map (λ s. node_name cell (the_server s)) (suc before ∷ []) = ap (λ (n : NodeName). n ∷ []) (new ∙ ap (λ (s : ℕ). node_name cell (the_server s)) next) in
    ap (map f) is
    ∙ (map_append f was (one ∷ [])
    ∙ (ap (λ (l : List NodeName). l ++ map f (one ∷ [])) locks
    ∙ (ap (λ (l : List NodeName). servers_of cell before ++ l) last
    ∙ (sym (map_append (λ s. node_name cell (the_server s)) (first_numbers before) (suc before ∷ []))
    ∙ ap (servers_of cell) (sym next)))))

-- the lock at a place

same_place : {X : Type 0} (xs : List X) (i : ℕ) → element_at xs i ≡ slice_get xs i
same_place [] i = refl
same_place (x ∷ xs) zero = refl
same_place (x ∷ xs) (suc i) = same_place xs i

pub numbers_count : (n : ℕ) → length (first_numbers n) ≡ n
numbers_count zero = refl
numbers_count (suc n) = omega (arith, length-append (first_numbers n) (suc n ∷ []), numbers_count n)

-- room for the servers is room for all but the master
pub locks_fit : (locks : List NodeName) (cell : Identity) (servers room : ℕ) → locks ≡ names_of cell servers → servers ≤ room → length locks ≤ suc room
locks_fit locks cell servers room are fits =
    omega (arith, ap length are, length-map (first_numbers servers) (λ s. node_name cell (the_server s)), numbers_count servers, fits)

pub locks_count : {X : Type 0} (f : X → NodeName) (cell : Identity) (servers : ℕ) (xs : List X) → map f xs ≡ servers_of cell servers → length xs ≡ servers
locks_count f cell servers xs all =
    sym (length-map xs f) ∙ (ap length all ∙ (length-map (first_numbers servers) (λ s. node_name cell (the_server s)) ∙ numbers_count servers))

pub lock_at : {X : Type 0} (f : X → NodeName) (cell : Identity) (servers i : ℕ) (xs : List X) (x : X) → map f xs ≡ servers_of cell servers → i < length xs → x ≡ get_or xs i x
    → f x ≡ node_name cell (the_server (i + 1))
lock_at f cell servers i xs x all within at =
    let next : suc i ≡ i + 1 = omega arith in
    let few : i < servers = omega (arith, within, locks_count f cell servers xs all) in
    let some : 0 < suc i = omega arith in
    let here : slice_get (map f xs) i ≡ Some (f x) = slice_get-map f xs i ∙ ap (option_map f) (slice_get_read xs (length xs) i x refl within at) in
    let there : slice_get (servers_of cell servers) i ≡ Some (node_name cell (the_server (suc i))) =
    sym (same_place (servers_of cell servers) i) ∙ numbered_is (λ s. node_name cell (the_server s)) servers (suc i) some (omega (arith, few)) in
    let both : Some (f x) ≡ Some (node_name cell (the_server (suc i))) = sym here ∙ (ap (λ (l : List NodeName). slice_get l i) all ∙ there) in
    let same : f x ≡ node_name cell (the_server (suc i)) = (let e = both in cc) in
    same ∙ ap (λ (n : ℕ). node_name cell (the_server n)) next

-- the master's lock is the first one, and those of the servers are the others

pub first_lock : (x : NodeName) (xs : List NodeName) (cell : Identity) (servers : ℕ) → x ∷ xs ≡ names_of cell servers → x ≡ node_name cell Master
first_lock x xs cell servers all = (let both : x ∷ xs ≡ node_name cell Master ∷ servers_of cell servers = all in cc)

pub other_locks : (x : NodeName) (xs : List NodeName) (cell : Identity) (servers : ℕ) → x ∷ xs ≡ names_of cell servers → xs ≡ map (λ s. node_name cell (the_server s)) (first_numbers servers)
other_locks x xs cell servers all = (let both : x ∷ xs ≡ node_name cell Master ∷ servers_of cell servers = all in cc)

-- of nodes that saw as much as there is behind a cell the first one did, and so did the others

pub first_seen : (cell : Identity) (master : ParkedNodeState) (servers : List ParkedNodeState) → All (HasSeenBase cell) (master ∷ servers) → HasSeenBase cell master
first_seen cell master servers all = All-head (HasSeenBase cell) master servers all

pub others_seen : (cell : Identity) (master : ParkedNodeState) (servers : List ParkedNodeState) → All (HasSeenBase cell) (master ∷ servers) → All (HasSeenBase cell) servers
others_seen cell master servers all = All-tail (HasSeenBase cell) master servers all
