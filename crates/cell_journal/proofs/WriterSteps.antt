-- What the steps at a journal leave of a writer.
use Rattle.std.proofs.Common.{◌≡◌, ℕ, ◌+◌, ◌-◌, ◌<◌, ◌≤◌, Bool, true, false, cond, List, [], ◌∷◌, ◌++◌, length, Option, Some, MatchBool, refl, sym, ap, subst, ◌∙◌, arith}
use mathlib.Core.List.{IsPrefix}
use Rattle.atomic_table.specs.Table.{Me}
use Rattle.cell_journal.proofs.Begins.{prefix_self, prefix_trans}
use Rattle.cell_journal.specs.Log.{Listed, listed}
use Rattle.gfs_types.specs.declared.ids.Node.{Node}
use Rattle.protocol_journal.specs.Journal.{Entry, own}
use Rattle.protocol_journal.proofs.Nodes.{node_itself}
use Rattle.cell_journal.specs.Clocks.{are_clocks_kept}
use Rattle.cell_journal.specs.Identity.{Identity, Filled, Closed, filled, closed}
use Rattle.cell_journal.specs.declared.view.View.{View}
use Rattle.cell_journal.specs.declared.view.Role.{Role}
use Rattle.cell_journal.specs.declared.view.Role.TheVariants.{Nobody, Only, From}
use Rattle.cell_journal.specs.Roles.{WritesAs, own_of}
use Rattle.cell_journal.specs.Rules.{Writes, Took, IsSame, IsStepOf, IsJournalOf, gave}
use Rattle.cell_journal.proofs.Grown.{own_append, journal_grows, leaves_more}
use Rattle.messages.specs.declared.message.Message.{Message}
use Rattle.gfs_types.specs.declared.refusal.Refusal.{Refusal}
use Rattle.std.specs.Prelude.{Result, Ok, Err, IfOk, OnErr}
use Rattle.protocol_journal.specs.Journal.{sent_after}
use Rattle.atomic_table.specs.Table.{rest}
use Rattle.cell_journal.proofs.Lending.{lent, left}
use Rattle.cell_journal.specs.Writers.{IsNodeWriter, IsLater, IsRead, GoesOn, IsSeen, Prepares, IsWaiting, IsParkedAt, HasOwn}
use Rattle.cell_journal.specs.WholeHistories.{history_of, all_seen, LeaveRetired}

pub when_true : (A B : Type 0) (b : Bool) → b ≡ true → MatchBool b A B → A
when_true A B true is h = h
when_true A B false is h = absurd (let both : false ≡ true = is in cc)

pub when_false : (A B : Type 0) (b : Bool) → b ≡ false → MatchBool b A B → B
when_false A B false is h = h
when_false A B true is h = absurd (let both : true ≡ false = is in cc)

pub only_writes : (v : View) (n : Node) → v.role ≡ Only n → Writes v n
only_writes v n is = subst (λ (r : Role). WritesAs v.of.servers r n) (sym is) refl

-- whoever took the journal writes for the same nodes
pub still_writes : (v m : View) (y : Filled) (n : Node) → Took v m y → Writes v n → Writes m n
still_writes v m y n t h = subst (λ (x : View). Writes x n) (sym t.is) h

own_kept : (servers : ℕ) (r : Role) (mine entries : List Entry) → ((n : Node) → WritesAs servers r n → own n entries ≡ mine) → own_of r mine entries ≡ mine
own_kept servers Nobody mine entries h = refl
own_kept servers (Only n) mine entries h = h n refl
own_kept servers (From k) mine entries h = refl

-- the journal comes back with the entries that it had
pub later : (v m : View) (y z : Filled) → Took v m y → z.entries ≡ y.entries → IsLater v (gave m z)
later v m y z t e =
    subst (λ (x : View). IsLater v (gave x z)) (sym t.is)
    (record {
      of = refl;
      role = refl;
      mine = ap (own_of v.role v.mine) e ∙ own_kept v.of.servers v.role v.mine y.entries t.mine;
      grows = subst (IsPrefix v.seen) (sym e) t.grows;
    })

pub same : (v m : View) (y z : Filled) → Took v m y → z.cell ≡ y.cell → z.entries ≡ y.entries → y.reserved ≤ v.rooms + z.reserved → IsSame m z
same v m y z t cell e room = subst (λ (x : View). IsSame x z) (sym t.is) (refl, cell ∙ t.cell, e, room)

pub rooms_after : (v m : View) (y z : Filled) → Took v m y → (gave m z).rooms ≡ v.rooms + z.reserved - y.reserved
rooms_after v m y z t = ap (λ (x : View). (gave x z).rooms) t.is

pub step_later : (v m : View) (y : Filled) (e : Entry) → Took v m y → IsStepOf v e → IsStepOf m e
step_later v m y e t s =
    subst (λ (x : View). IsStepOf x e) (sym t.is)
    (record {
      role = s.role;
      goes_on = s.goes_on;
      state = s.state;
      choice = s.choice;
      leads = s.leads;
      may = s.may;
      gives = s.gives;
      sees = s.sees;
      moment = s.moment;
      read = s.read;
      before = prefix_trans s.read v.seen y.entries s.before t.grows;
      reads = s.reads;
    })

own_last : (xs : List Entry) (e : Entry) → own e.node (xs ++ e ∷ []) ≡ own e.node xs ++ e ∷ []
own_last xs e = own_append e.node xs (e ∷ []) ∙ ap (λ l. own e.node xs ++ l) (ap (λ (b : Bool). cond b (e ∷ []) []) (node_itself e.node))

-- one step more
pub goes_on : (v m : View) (y : Filled) (e : Entry) (count : ℕ) → Took v m y → IsStepOf v e → GoesOn v (gave m (filled y.cell (y.entries ++ e ∷ []) count)) e
goes_on v m y e count t s =
    subst (λ (x : View). GoesOn v (gave x (filled y.cell (y.entries ++ e ∷ []) count)) e) (sym t.is)
    (record {
      of = refl;
      role = refl;
      mine = now ∙ longer;
      own_is = now;
      grows = prefix_trans v.seen y.entries (y.entries ++ e ∷ []) t.grows (e ∷ [], refl);
      before = y.entries;
      last = refl;
      lawful = journal_grows v.of y.entries v_seen e refl refl mine t.lawful (step_later v v_seen y e record_taken s);
      leaves = leaves_more v.of y.entries v_seen e refl t.leaves (step_later v v_seen y e record_taken s);
    })
  where
    v_seen : View
    v_seen = record v { holds = true; seen = y.entries; found = y.reserved }

    record_taken : Took v v_seen y
    record_taken = record { is = refl; grows = t.grows; lawful = t.lawful; leaves = t.leaves; mine = t.mine; cell = t.cell; room = t.room }

    mine : own e.node y.entries ≡ v.mine
    mine = t.mine e.node (only_writes v e.node s.role)

    now : own_of v.role v.mine (y.entries ++ e ∷ []) ≡ own e.node (y.entries ++ e ∷ [])
    now = ap (λ (r : Role). own_of r v.mine (y.entries ++ e ∷ [])) s.role

    longer : own e.node (y.entries ++ e ∷ []) ≡ v.mine ++ e ∷ []
    longer = own_last y.entries e ∙ ap (λ l. l ++ e ∷ []) mine

ok_map : {A E : Type 0} (P Q : A → Type 0) (r : Result A E) → ((a : A) → P a → Q a) → IfOk r P → IfOk r Q
ok_map P Q (Ok a) f h = f a h
ok_map P Q (Err e) f h = h

err_map : {A E : Type 0} (P Q : Type 0) (r : Result A E) → (P → Q) → OnErr r P → OnErr r Q
err_map P Q (Ok a) f h = h
err_map P Q (Err e) f h = f h

abbrev Slots : Type 0
Slots = List (ℕ × Option Filled)

-- what is lent is prepared in the slot
pub prepares : (v : View) (l : Slots) (y : Filled) (n : Node) (number : Option ℕ) (now new : Option Filled) (r : Result (Option Message) Refusal) → l ≡ (0, now) ∷ rest l → l ≡ (0, Some y) ∷ []
    → IfOk r (λ m. (x : Filled) → now ≡ Some x → (new ≡ Some (filled x.cell x.entries (x.reserved + 1))) × IsRead (sent_after [] x.entries) n number m) → OnErr r (new ≡ now)
    → Prepares v y n number r (v, (0, new) ∷ rest l)
prepares v l y n number now new (Ok m) has_now has ok err =
    let is = ok y (lent l now y has_now has) in
    record {
      now = filled y.cell y.entries (y.reserved + 1);
      has = ap (λ (s : Slots). (v, s)) (left l new y (filled y.cell y.entries (y.reserved + 1)) has is.0);
      cell = refl;
      entries = refl;
      room = omega arith;
      ok = (refl, is.1);
      err = tt;
    }
prepares v l y n number now new (Err e) has_now has ok err = record {
  now = y;
  has = ap (λ (s : Slots). (v, s)) (left l new y y has (err ∙ lent l now y has_now has));
  cell = refl;
  entries = refl;
  room = omega arith;
  ok = tt;
  err = refl;
}

abbrev Mine : Type 0
Mine = Me (Option Filled) View

-- what was lent and left as it was is there again
pub put_back : (v : View) (l : Slots) (now new : Option Filled) → l ≡ (0, now) ∷ rest l → new ≡ now → ◌≡◌ {A = Mine} (v, (0, new) ∷ rest l) (v, l)
put_back v l now new has is = ap (λ (s : Option Filled). (v, (0, s) ∷ rest l)) is ∙ ap (λ (x : Slots). (v, x)) (sym has)

role_kept : (v m : View) (y z : Filled) (n : Node) → Took v m y → v.role ≡ Only n → (gave m z).role ≡ Only n
role_kept v m y z n t is = ap (λ (x : View). x.role) t.is ∙ is

-- a writer that has no journal, and took nothing
pub later_self : (v : View) → IsLater v v
later_self v = record { of = refl; role = refl; mine = refl; grows = prefix_self v.seen }

module _ (n : Node) (old mid : Mine) (y : Filled) (writer : IsNodeWriter n old) (t : Took old.0 mid.0 y) where
  -- the writer may give back what it has
  pub writes_in : (m : Mine) (v : View) → m.0 ≡ v → v ≡ mid.0 → Writes m.0 n
  writes_in m v is was = subst (λ (x : View). Writes x n) (sym (is ∙ was)) (still_writes old.0 mid.0 y n t (only_writes old.0 n writer.role))

  module _ (number : Option ℕ) (r : Result (Option Message) Refusal) (ready : Mine) (p : Prepares mid.0 y n number r ready) where
    pub had : ready.1 ≡ (0, Some p.now) ∷ []
    had = ap (λ (m : Mine). m.1) p.has

    pub writes_ready : Writes ready.0 n
    writes_ready = writes_in ready mid.0 (ap (λ (m : Mine). m.0) p.has) refl

    pub same_ready : IsSame ready.0 p.now
    same_ready =
        let room : y.reserved ≤ p.now.reserved = p.room in
        subst (λ (m : Mine). IsSame m.0 p.now) (sym p.has) (same old.0 mid.0 y p.now t p.cell p.entries (omega (arith, room)))

    module _ (final : Mine) (gives : (z : Filled) → ready.1 ≡ (0, Some z) ∷ [] → final ≡ (gave ready.0 z, [])) where
      is : final ≡ (gave mid.0 p.now, [])
      is = gives p.now had ∙ ap (λ (m : Mine). (gave m.0 p.now, [])) p.has

      pub begun_writer : IsNodeWriter n final
      begun_writer = subst (IsNodeWriter n) (sym is) (record { role = role_kept old.0 mid.0 y p.now n t writer.role; free = refl })

      pub begun_later : IsLater old.0 final.0
      begun_later = subst (λ (m : Mine). IsLater old.0 m.0) (sym is) (later old.0 mid.0 y p.now t p.entries)

      rooms : final.0.rooms ≡ old.0.rooms + p.now.reserved - y.reserved
      rooms = ap (λ (m : Mine). m.0.rooms) is ∙ rooms_after old.0 mid.0 y p.now t

      seen : final.0.seen ≡ y.entries
      seen = ap (λ (m : Mine). m.0.seen) is ∙ p.entries

      pub begun_ok : IfOk r (λ m. (final.0.rooms ≡ old.0.rooms + 1) × IsRead (sent_after [] final.0.seen) n number m)
      begun_ok =
          ok_map (λ m. (p.now.reserved ≡ y.reserved + 1) × IsRead (sent_after [] y.entries) n number m) (λ m. (final.0.rooms ≡ old.0.rooms + 1) × IsRead (sent_after [] final.0.seen) n number m) r
          (λ m h. (omega (arith, rooms, h.0), subst (λ (es : List Entry). IsRead (sent_after [] es) n number m) (sym seen) h.1)) p.ok

      pub begun_err : OnErr r (final.0.rooms ≡ old.0.rooms)
      begun_err = err_map (p.now.reserved ≡ y.reserved) (final.0.rooms ≡ old.0.rooms) r (λ h. omega (arith, rooms, h)) p.err

-- a writer that made room finds it
pub room_there : (v m : View) (y : Filled) → Took v m y → 0 < v.rooms → IsSame m y × (m.found ≡ y.reserved) × (0 < m.rooms) × (m.rooms ≤ m.found)
room_there v m y t some_room =
    let rooms : m.rooms ≡ v.rooms = ap (λ (x : View). x.rooms) t.is in
    let found : m.found ≡ y.reserved = ap (λ (x : View). x.found) t.is in
    let room : v.rooms ≤ y.reserved = t.room in
    (same v m y y t refl refl (omega arith), found, omega (arith, rooms, some_room), omega (arith, rooms, found, room))

module _ (old mid final : Mine) (y : Filled) (e : Entry) where
  abbrev now_is : Filled
  now_is = filled y.cell (y.entries ++ e ∷ []) (y.reserved - 1)

  pub ended_goes : Took old.0 mid.0 y → IsStepOf old.0 e → final ≡ (gave mid.0 now_is, []) → GoesOn old.0 final.0 e
  ended_goes t s is = subst (λ (m : Mine). GoesOn old.0 m.0 e) (sym is) (goes_on old.0 mid.0 y e (y.reserved - 1) t s)

  pub ended_seen : Took old.0 mid.0 y → final ≡ (gave mid.0 now_is, []) → (beginning : Listed Entry) (count : ℕ) → beginning ≡ listed mid.0.of.name (history_of mid.0.of (mid.0.seen ++ e ∷ []))
      → count ≡ length (history_of mid.0.of (mid.0.seen ++ e ∷ [])) → IsSeen final.0 beginning count
  ended_seen t is beginning count b k =
      let entries : mid.0.seen ≡ y.entries = ap (λ (x : View). x.seen) t.is in
      subst (λ (m : Mine). IsSeen m.0 beginning count) (sym is) (
        b ∙ ap (λ (es : List Entry). listed mid.0.of.name (history_of mid.0.of (es ++ e ∷ []))) entries,
        k ∙ ap (λ (es : List Entry). length (history_of mid.0.of (es ++ e ∷ []))) entries,
      )

  pub ended_clocks : Took old.0 mid.0 y → final ≡ (gave mid.0 now_is, []) → (kept : Bool) → kept ≡ are_clocks_kept mid.0.of (history_of mid.0.of (mid.0.seen ++ e ∷ []))
      → kept ≡ are_clocks_kept final.0.of (all_seen final.0)
  ended_clocks t is kept k =
      let entries : mid.0.seen ≡ y.entries = ap (λ (x : View). x.seen) t.is in
      subst (λ (m : Mine). kept ≡ are_clocks_kept m.0.of (all_seen m.0)) (sym is) (k ∙ ap (λ (es : List Entry). are_clocks_kept mid.0.of (history_of mid.0.of (es ++ e ∷ []))) entries)

pub ended_writer : (n : Node) (old mid final : Mine) (y : Filled) (e : Entry) → IsNodeWriter n old → Took old.0 mid.0 y → final ≡ (gave mid.0 (filled y.cell (y.entries ++ e ∷ []) (y.reserved - 1)), []) → IsNodeWriter n final
ended_writer n old mid final y e writer t is =
    subst (IsNodeWriter n) (sym is) (record { role = role_kept old.0 mid.0 y (filled y.cell (y.entries ++ e ∷ []) (y.reserved - 1)) n t writer.role; free = refl })

-- a writer that gives room up
module _ (n : Node) (old mid ready final : Mine) (y : Filled) (writer : IsNodeWriter n old) (t : Took old.0 mid.0 y) (some_room : 0 < old.0.rooms) (ready_is : ready ≡ (mid.0, (0, Some (filled y.cell y.entries (y.reserved - 1))) ∷ [])) where
  abbrev less : Filled
  less = filled y.cell y.entries (y.reserved - 1)

  pub less_had : ready.1 ≡ (0, Some less) ∷ []
  less_had = ap (λ (m : Mine). m.1) ready_is

  pub less_writes : Writes ready.0 n
  less_writes = writes_in n old mid y writer t ready mid.0 (ap (λ (m : Mine). m.0) ready_is) refl

  pub less_same : IsSame ready.0 less
  less_same = subst (λ (m : Mine). IsSame m.0 less) (sym ready_is) (same old.0 mid.0 y less t refl refl (omega (arith, some_room)))

  module _ (gives : final ≡ (gave ready.0 less, [])) where
    less_is : final ≡ (gave mid.0 less, [])
    less_is = gives ∙ ap (λ (m : Mine). (gave m.0 less, [])) ready_is

    pub less_writer : IsNodeWriter n final
    less_writer = subst (IsNodeWriter n) (sym less_is) (record { role = role_kept old.0 mid.0 y less n t writer.role; free = refl })

    pub less_later : IsLater old.0 final.0
    less_later = subst (λ (m : Mine). IsLater old.0 m.0) (sym less_is) (later old.0 mid.0 y less t refl)

-- a writer that gives the journal back as it was
module _ (n : Node) (old mid final : Mine) (y : Filled) (t : Took old.0 mid.0 y) (is : final ≡ (gave mid.0 y, [])) where
  gave_later : IsLater old.0 final.0
  gave_later = subst (λ (m : Mine). IsLater old.0 m.0) (sym is) (later old.0 mid.0 y y t refl)

  pub gave_waits : IsWaiting old.0 final
  gave_waits = record { free = ap (λ (m : Mine). m.1) is; of = gave_later.of; role = gave_later.role; mine = gave_later.mine }

pub waits_still : (old final : Mine) → old.1 ≡ [] → final ≡ old → IsWaiting old.0 final
waits_still old final free is =
    record { free = ap (λ (m : Mine). m.1) is ∙ free; of = ap (λ (m : Mine). m.0.of) is; role = ap (λ (m : Mine). m.0.role) is; mine = ap (λ (m : Mine). m.0.mine) is }

pub waits_on : (v : View) (mid : Mine) (final : Mine) → IsWaiting v mid → IsWaiting mid.0 final → IsWaiting v final
waits_on v mid final a b = record { free = b.free; of = b.of ∙ a.of; role = b.role ∙ a.role; mine = b.mine ∙ a.mine }

pub writes_waiting : (v : View) (m : Mine) (n : Node) → IsWaiting v m → Writes v n → Writes m.0 n
writes_waiting v m n w h = subst (λ (r : Role). WritesAs m.0.of.servers r n) (sym w.role) (subst (λ (c : Identity). WritesAs c.servers v.role n) (sym w.of) h)

-- a journal that was taken and parked is the cell's
pub parked_at : (cell : Identity) (count : ℕ) (y : Filled) (journal : Closed) → journal ≡ closed y.cell y.entries false → y.cell ≡ cell → IsJournalOf cell y.entries → LeaveRetired cell y.entries
    → length (history_of y.cell y.entries) ≡ count → IsParkedAt cell count journal
parked_at cell count y journal is of lawful leaves same =
    subst (λ (j : Closed). IsParkedAt cell count j) (sym is)
    (record { cell_is = of; lawful = subst (λ (i : Identity). IsJournalOf i y.entries) (sym of) lawful; leaves = subst (λ (i : Identity). LeaveRetired i y.entries) (sym of) leaves; parked = refl; count_is = same })

-- and it has just what the writer that waited for it wrote
pub has_own : (v : View) (m : Mine) (journal : Closed) → IsWaiting v m → HasOwn m.0 journal → HasOwn v journal
has_own v m journal w own_is n writes = own_is n (writes_waiting v m n w writes) ∙ w.mine
