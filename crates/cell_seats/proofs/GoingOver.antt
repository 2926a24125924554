-- Seats that go over to a cell that was parked and goes on.
use Rattle.std.proofs.Common.{◌≡◌, ℕ, ◌+◌, Bool, true, false, List, [], ◌∷◌, ◌++◌, Some, None, refl, sym, ap, subst, ◌∙◌, arith}
use Rattle.std.specs.Prelude.{All, IsTrue, get_or}
use Rattle.std.proofs.lemmas.List.Elements.{All-nil, All-cons, All-head, All-tail}
use Rattle.std.specs.List.{flat_map}
use mathlib.Core.List.{IsPrefix}
use Rattle.logbook.specs.Pages.{Book}
use Rattle.gfs_types.specs.declared.ids.Node.{Node}
use Rattle.gfs_types.specs.declared.ids.Node.TheVariants.{Client}
use Rattle.gfs_types.specs.declared.config.Config.{Config}
use Rattle.protocol_journal.specs.Journal.{Entry, own, observer_of}
use Rattle.cell_journal.specs.Clocks.{are_clocks_kept}
use Rattle.cell_journal.specs.Log.{Listed, listed}
use Rattle.cell_journal.specs.Identity.{Identity}
use Rattle.cell_journal.specs.WholeHistories.{is_retired}
use Rattle.cell_journal.specs.declared.view.View.{View}
use Rattle.cell_seats.specs.Seen.{Visible, visible_of, answered_only, clients_in}
use Rattle.cell_seats.specs.Seats.{SeatState, seat_state, shown, StaysOver, MovesOver, GoesOver}
use Rattle.cell_seats.specs.ParkedNodes.{ParkedNodeState, IsClientOf, IsBehind, IsBehindAll, HasSeenBase, GoesOnBehind, SitsOn}
use Rattle.cell_journal.proofs.Beginnings.{none_before}
use Rattle.cell_seats.proofs.Flags.{all_retired}
use Rattle.cell_seats.proofs.ParkedSeats.{stays_on, moves_on, starts_anew, shows_moved}

-- what a seat shows is told by its numbers and by what it saw
pub shown_same : (old new : SeatState) → new.node ≡ old.node → new.earlier ≡ old.earlier → new.seen ≡ old.seen → shown new ≡ shown old
shown_same old new node earlier seen =
    ap (λ (es : List Entry). flat_map (λ n. answered_only (visible_of (own n es))) new.earlier ++ visible_of (own new.node es)) seen
    ∙ (ap (λ (ms : List Node). flat_map (λ n. answered_only (visible_of (own n old.seen))) ms ++ visible_of (own new.node old.seen)) earlier
    ∙ ap (λ (m : Node). flat_map (λ n. answered_only (visible_of (own n old.seen))) old.earlier ++ visible_of (own m old.seen)) node)

pub goes_stay : (k : ℕ) (cell : Identity) (old new : SeatState) → old.waits ≡ false → cell.name ≡ old.cell.name → StaysOver cell old new → GoesOver cell (Some k) old new
goes_stay k cell old new calm named it = record {
  cell_is = it.cell_is;
  name = ap (λ (c : Identity). c.name) it.cell_is ∙ named;
  seen = it.seen;
  answers = it.answers.0;
  waits = it.answers.1;
  stays = λ w. (it.node, it.earlier);
  moves = λ w. absurd (let both : true ≡ false = sym w ∙ calm in cc);
  shows = shown_same old new it.node it.earlier it.seen;
  anew = tt;
}

pub goes_move : (k : ℕ) (cell : Identity) (old new : SeatState) → old.waits ≡ true → cell.name ≡ old.cell.name → MovesOver cell old new → GoesOver cell (Some k) old new
goes_move k cell old new waits named it = record {
  cell_is = it.cell_is;
  name = ap (λ (c : Identity). c.name) it.cell_is ∙ named;
  seen = it.seen;
  answers = it.answers.0;
  waits = it.answers.1;
  stays = λ calm. absurd (let both : true ≡ false = sym waits ∙ calm in cc);
  moves = λ w. it.earlier;
  shows = it.shows;
  anew = tt;
}

pub goes_anew : (cell : Identity) (old new : SeatState) → new.cell ≡ cell → cell.name ≡ old.cell.name → new.seen ≡ old.seen → new.is_lost ≡ false → new.waits ≡ false → new.earlier ≡ [] → GoesOver cell None old new
goes_anew cell old new here named seen answers calm none = record {
  cell_is = here;
  name = ap (λ (c : Identity). c.name) here ∙ named;
  seen = seen;
  answers = answers;
  waits = calm;
  stays = λ w. tt;
  moves = λ w. tt;
  shows = tt;
  anew = none;
}

-- a node that met the history of the cell that goes on
pub behind_all : (cell : Identity) (p : ParkedNodeState) (l : Listed Entry) → HasSeenBase cell p → l ≡ listed cell.name cell.base → p.history ≡ l → IsBehindAll cell p
behind_all cell p l seen is met = record {
  base = ap (λ (x : Listed Entry). x.items) (met ∙ is);
  config_is = seen.config_is;
  servers_are = seen.servers_are;
  clients_are = seen.clients_are;
}

-- a client that did, in a cell of the same settings
pub behind_met : (cell : Identity) (p : ParkedNodeState) (l : Listed Entry) → l ≡ listed cell.name cell.base → p.history ≡ l → (p.cell.config ≡ cell.config) × (p.cell.servers ≡ cell.servers) × (p.cell.clients ≡ cell.clients)
    → IsBehindAll cell p
behind_met cell p l is met same = record { base = ap (λ (x : Listed Entry). x.items) (met ∙ is); config_is = same.0; servers_are = same.1; clients_are = same.2 }

-- a place in the cell that goes on
module _ (cell : Identity) (v : View) (of : v.of ≡ cell) where
  on : (name : Book) → name ≡ cell.name → GoesOnBehind cell.name cell → GoesOnBehind name v.of
  on name named it = subst (λ (c : Identity). GoesOnBehind name c) (sym of) (record { name_is = sym named; lawful = it.lawful; clocks = it.clocks; in_range = it.in_range })

  pub behind_at : (p : ParkedNodeState) → v.mine ≡ [] → IsBehindAll cell p → IsBehind v p
  behind_at p mine it = record {
    mine = mine;
    base = ap (λ (c : Identity). c.base) of ∙ sym it.base;
    config_is = ap (λ (c : Identity). c.config) of ∙ sym it.config_is;
    servers_are = ap (λ (c : Identity). c.servers) of ∙ sym it.servers_are;
    clients_are = ap (λ (c : Identity). c.clients) of ∙ sym it.clients_are;
  }

  kept_there : (p : ParkedNodeState) → IsBehindAll cell p → IsTrue (are_clocks_kept cell cell.base) → IsTrue (are_clocks_kept p.cell p.history.items)
  kept_there p it kept =
      subst (λ (c : Config). IsTrue (observer_of c p.history.items).are_clocks_kept) (sym it.config_is) (subst (λ (es : List Entry). IsTrue (are_clocks_kept cell es)) (sym it.base) kept)

  gone_there : (earlier : List Node) → All (λ m. IsTrue (is_retired cell m)) earlier → All (λ m. IsTrue (is_retired v.of m)) earlier
  gone_there earlier gone = subst (λ (c : Identity). All (λ m. IsTrue (is_retired c m)) earlier) (sym of) gone

  pub stay_here : (s : SeatState) (p : ParkedNodeState) (n : Node) → v.mine ≡ [] → IsClientOf s p → IsBehindAll cell p → GoesOnBehind cell.name cell → s.cell.name ≡ cell.name → s.waits ≡ false
      → All (λ m. IsTrue (is_retired cell m)) s.earlier → n ≡ s.node → SitsOn s n s.earlier v
  stay_here s p n mine client behind goes named calm gone same =
      subst (λ (m : Node). SitsOn s m s.earlier v) (sym same)
      (stays_on s p v client (behind_at p mine behind) (on s.cell.name named goes) (kept_there p behind goes.clocks) calm (gone_there s.earlier gone))

  pub move_here : (s : SeatState) (p : ParkedNodeState) (n : Node) (earlier : List Node) → v.mine ≡ [] → IsClientOf s p → IsBehindAll cell p → GoesOnBehind cell.name cell → s.cell.name ≡ cell.name
      → own n cell.base ≡ [] → All (λ m. IsTrue (is_retired cell m)) s.earlier → IsTrue (is_retired cell s.node) → earlier ≡ s.earlier ++ s.node ∷ [] → SitsOn s n earlier v
  move_here s p n earlier mine client behind goes named unused gone own_gone is =
      subst (λ (ms : List Node). SitsOn s n ms v) (sym is)
      (moves_on s p v client (behind_at p mine behind) (on s.cell.name named goes) (kept_there p behind goes.clocks) n (ap (λ (c : Identity). own n c.base) of ∙ unused) (gone_there s.earlier gone)
      (subst (λ (c : Identity). IsTrue (is_retired c s.node)) (sym of) own_gone))

  pub anew_here : (s : SeatState) (n : Node) → v.mine ≡ [] → IsPrefix s.seen cell.base → GoesOnBehind cell.name cell → s.cell.name ≡ cell.name → own n cell.base ≡ [] → SitsOn s n [] v
  anew_here s n mine begins goes named unused =
      starts_anew s v (on s.cell.name named goes) (subst (λ (c : Identity). IsPrefix s.seen c.base) (sym of) begins) n mine (ap (λ (c : Identity). own n c.base) of ∙ unused)

  -- clients by flags that stand among those of the clients of which nothing more is written
  gone_in : (flags all : List Bool) → cell.retired ≡ all → ((k : ℕ) → get_or flags k false ≡ true → get_or all k false ≡ true) → All (λ m. IsTrue (is_retired cell m)) (clients_in 0 flags)
  gone_in flags all same within =
      all_retired cell 0 flags (λ j up.
      let place : 0 + j ≡ j = omega arith in
      ap (λ (n : ℕ). get_or cell.retired n false) place ∙ (ap (λ (l : List Bool). get_or l j false) same ∙ within j up))

  pub stay_flags : (s : SeatState) (p : ParkedNodeState) (n : Node) (flags all : List Bool) → v.mine ≡ [] → IsClientOf s p → IsBehindAll cell p → GoesOnBehind cell.name cell → s.cell.name ≡ cell.name → s.waits ≡ false
      → cell.retired ≡ all → ((k : ℕ) → get_or flags k false ≡ true → get_or all k false ≡ true) → clients_in 0 flags ≡ s.earlier → n ≡ s.node → SitsOn s n (clients_in 0 flags) v
  stay_flags s p n flags all mine client behind goes named calm same within flags_are node_is =
      subst (λ (ms : List Node). SitsOn s n ms v) (sym flags_are)
      (stay_here s p n mine client behind goes named calm (subst (λ (ms : List Node). All (λ m. IsTrue (is_retired cell m)) ms) flags_are (gone_in flags all same within)) node_is)

  pub move_flags : (s : SeatState) (p : ParkedNodeState) (n : Node) (flags then all : List Bool) (number : ℕ) → v.mine ≡ [] → IsClientOf s p → IsBehindAll cell p → GoesOnBehind cell.name cell → s.cell.name ≡ cell.name
      → own n cell.base ≡ [] → cell.retired ≡ all → ((k : ℕ) → get_or then k false ≡ true → get_or all k false ≡ true) → clients_in 0 flags ≡ s.earlier → s.node ≡ Client (record { 0 = number })
      → clients_in 0 then ≡ clients_in 0 flags ++ Client (record { 0 = number }) ∷ [] → SitsOn s n (clients_in 0 then) v
  move_flags s p n flags then all number mine client behind goes named unused same within flags_are node_is then_are =
      let one_more : clients_in 0 then ≡ s.earlier ++ s.node ∷ [] =
      then_are ∙ (ap (λ (ms : List Node). ms ++ Client (record { 0 = number }) ∷ []) flags_are ∙ ap (λ (m : Node). s.earlier ++ m ∷ []) (sym node_is)) in
      let gone = subst (λ (ms : List Node). All (λ m. IsTrue (is_retired cell m)) ms) one_more (gone_in then all same within) in
      subst (λ (ms : List Node). SitsOn s n ms v) (sym one_more)
      (move_here s p n (s.earlier ++ s.node ∷ []) mine client behind goes named unused (front (λ m. IsTrue (is_retired cell m)) s.earlier (s.node ∷ []) gone)
      (last (λ m. IsTrue (is_retired cell m)) s.earlier s.node gone) refl)
    where
      front : (P : Node → Type 0) (xs ys : List Node) → All P (xs ++ ys) → All P xs
      front P [] ys all = All-nil P
      front P (x ∷ xs) ys all = All-cons P x xs (All-head P x (xs ++ ys) all) (front P xs ys (All-tail P x (xs ++ ys) all))

      last : (P : Node → Type 0) (xs : List Node) (y : Node) → All P (xs ++ y ∷ []) → P y
      last P [] y all = All-head P y [] all
      last P (x ∷ xs) y all = last P xs y (All-tail P x (xs ++ y ∷ []) all)

-- a seat that moved
pub moved_over : (cell : Identity) (s new : SeatState) (p : ParkedNodeState) (n : Node) (flags then : List Bool) (number : ℕ) (of : Identity) → new ≡ seat_state n (clients_in 0 then) of s.seen false false → of ≡ cell
    → clients_in 0 flags ≡ s.earlier → s.node ≡ Client (record { 0 = number }) → clients_in 0 then ≡ clients_in 0 flags ++ Client (record { 0 = number }) ∷ [] → IsClientOf s p → IsBehindAll cell p → own n cell.base ≡ []
    → MovesOver cell s new
moved_over cell s new p n flags then number of is same flags_are node_is then_are client behind unused = record {
  cell_is = ap (λ (x : SeatState). x.cell) is ∙ same;
  seen = ap (λ (x : SeatState). x.seen) is;
  answers = (ap (λ (x : SeatState). x.is_lost) is, ap (λ (x : SeatState). x.waits) is);
  earlier = one_more;
  shows = shows_moved s new n (ap (λ (x : SeatState). x.node) is) one_more (ap (λ (x : SeatState). x.seen) is) (none_before n s.seen cell.base (subst (IsPrefix s.seen) behind.base client.begins) unused) client.told;
}
  where
    one_more : new.earlier ≡ s.earlier ++ s.node ∷ []
    one_more = ap (λ (x : SeatState). x.earlier) is
        ∙ (then_are ∙ (ap (λ (ms : List Node). ms ++ Client (record { 0 = number }) ∷ []) flags_are ∙ ap (λ (m : Node). s.earlier ++ m ∷ []) (sym node_is)))
