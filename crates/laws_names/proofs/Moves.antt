-- Steps of the master beside the machine: what each move keeps is kept where records are logged, with the checkpoints that make room for them.
use Rattle.std.proofs.Common.{◌≡◌, ⊎_elim, ℕ, Bool, true, false, cond, List, [], ◌∷◌, ◌++◌, Option, Some, None, refl, sym, ap, subst, ◌∙◌, inl, inr}
use Rattle.std.specs.Prelude.{◌&&◌, not, Contains}
use Rattle.std.specs.List.{cons_option}
use Rattle.std.specs.FinMap as table
use Rattle.gfs_types.specs.declared.refusal.Refusal.{Refusal}
use Rattle.messages.specs.declared.message.Body.{Body}
use Rattle.messages.specs.declared.message.Body.TheVariants as body
use Rattle.messages.specs.declared.message.Message.{Message}
use Rattle.log_records.specs.declared.record.Record.{Record}
use Rattle.relaxed_file.specs.Machine.{Machine, OpenCall, Outcome, IsOpen}
use Rattle.relaxed_file.specs.Run.{Action, Visible, Allows, after, shown, visible}
use Rattle.machine_names.specs.NameRuns.{is_name_action}
use Rattle.machine_names.proofs.Runs.{name_runs_go_on}
use Rattle.protocol.specs.Tables.{Table}
use Rattle.protocol.specs.LogSizes.{checkpoint_fits}
use Rattle.protocol.specs.Logged.{Logged, KeptCall, LogDisk, LogChange, AppendRecord, WriteCheckpoint, log_changed, after_record, checkpoint_of, copies_given_up, all_copies_given_up}
use Rattle.protocol.specs.Master.{MasterDoing, PendingSnapshot, fits, appends, writes_checkpoint, logs, logs_after_checkpoint, is_of_copy}
use Rattle.protocol.specs.Sending.{client_number}
use Rattle.laws_names.specs.Alike.{Requests, AreAlike, IsWaiting}
use Rattle.laws_names.proofs.OpenCalls.{GoesOn, same_or_not, one_call, back_at_other, got_same, got_other}
use Rattle.laws_names.specs.NameTrails.{RunsQuietly, IsChangeOf}
use Rattle.laws_names.specs.Followed.{RunsTo, IsTold, IsToldTo, outcome_told, AreKeptOn}

on_cond : {A : Type 0} (P : A → Type 0) (b : Bool) (x y : A) → P x → P y → P (cond b x y)
on_cond P true x y f g = f
on_cond P false x y f g = g

-- runs that clients don't see

pub stays : (m : Machine) → RunsTo m m
stays m = (([], tt, refl, refl), refl)

pub one_action : (m : Machine) (action : Action) → Allows m action → shown action ≡ None → is_name_action action ≡ true → RunsTo m (after m action)
one_action m action a unseen of_names = ((action ∷ [], (a, tt), ap (λ (b : Bool). b && true) of_names, refl), ap (λ o. cons_option o []) unseen)

pub join : (m k n : Machine) → RunsTo m k → RunsTo k n → RunsTo m n
join m k n one two =
    let both = name_runs_go_on m k n one.0 two.0 in
    (both.0, both.1 ∙ ap (λ (seen : List Visible). seen ++ visible (two.0).0) one.1 ∙ two.1)

-- what is told stays told, where one client's call goes on
pub told_stays : (m n : Machine) (requests : Requests) (client : ℕ) (current later : OpenCall) → GoesOn m n client current later → (x : Message) → IsTold m requests x → IsTold n requests x
told_stays m n requests client current later g x h = by_body x.body h
  where
    named : (number : ℕ) (outcome : Outcome) → ((c : OpenCall) → IsWaiting m requests (client_number x.receiver) number c → Contains c.outcomes outcome) → (c : OpenCall) → IsWaiting n requests (client_number x.receiver) number c
        → Contains c.outcomes outcome
    named number outcome told c w = ⊎_elim
        (λ same.
        let here : IsOpen n client c = subst (λ (i : ℕ). IsOpen n i c) same w.is_open in
        let had : Contains current.outcomes outcome = told current (record { is_open = subst (λ (i : ℕ). IsOpen m i current) (sym same) g.before; number_is = w.number_is }) in
        subst (λ (k : OpenCall). Contains k.outcomes outcome) (one_call n client later c g.after here) (g.more outcome had))
        (λ other. told c (record { is_open = back_at_other m n client current later g (client_number x.receiver) c other w.is_open; number_is = w.number_is }))
        (same_or_not (client_number x.receiver) client)

    by_body : (b : Body) → IsToldTo m requests (client_number x.receiver) b → IsToldTo n requests (client_number x.receiver) b
    by_body (body.Named number reply) told = named number (outcome_told reply) told
    by_body other told = tt

-- kept answers

pub kept_same : (requests : Requests) (kept : Table KeptCall) → AreKeptOn requests kept kept
kept_same requests kept client = inl refl

pub kept_then : (requests : Requests) (a b c : Table KeptCall) → AreKeptOn requests a b → AreKeptOn requests b c → AreKeptOn requests a c
kept_then requests a b c one two client = elim (two client) [
  | inl same ↦ ⊎_elim (λ before. inl (same ∙ before)) (λ new. inr (new.0, same ∙ new.1, new.2)) (one client)
  | inr new ↦ inr new
]

-- the answer to the client's open request
pub kept_put : (requests : Requests) (kept now : Table KeptCall) (client number : ℕ) (refusal : Option Refusal) → requests client ≡ Some number → now ≡ table.insert kept client (record { number = number; refusal = refusal })
    → AreKeptOn requests kept now
kept_put requests kept now client number refusal asked is q = ⊎_elim
    (λ same. inr (
      record { number = number; refusal = refusal },
      ap (λ (t : Table KeptCall). table.get t q) is ∙ got_same kept client (record { number = number; refusal = refusal }) q same,
      ap requests same ∙ asked,
    ))
    (λ other. inl (ap (λ (t : Table KeptCall). table.get t q) is ∙ got_other kept client (record { number = number; refusal = refusal }) q other))
    (same_or_not q client)

-- The machine moves, and the master's state and the snapshots that wait change: both are alike again. So it is with the log alone, where no snapshot waits.
pub record IsMove (m n : Machine) (requests : Requests) (before later : List PendingSnapshot) (change : Logged → Logged) : Type 0 where
  pub run : RunsTo m n
  pub alike : (l : Logged) → AreAlike l before m requests → AreAlike (change l) later n requests
  pub alone : (l : Logged) → AreAlike l [] m requests → AreAlike (change l) [] n requests
  pub told : (x : Message) → IsTold m requests x → IsTold n requests x
  pub kept_on : (l : Logged) (ss : List PendingSnapshot) → AreAlike l ss m requests → AreKeptOn requests l.kept (change l).kept

-- What is kept by each move, of the machine, the master's state, its disk, the changes and messages of the step, and the snapshots that wait.
pub record Keeps (requests : Requests) (P : Machine → Logged → LogDisk → List LogChange → List Message → List PendingSnapshot → Type 0) : Type 0 where
  pub alike : (m : Machine) (l : Logged) (k : LogDisk) (cs : List LogChange) (sent : List Message) (ss : List PendingSnapshot) → P m l k cs sent ss → AreAlike l ss m requests
  pub moves : (m n : Machine) (l : Logged) (k : LogDisk) (cs : List LogChange) (sent : List Message) (ss later : List PendingSnapshot) → IsMove m n requests ss later (λ x. x) → RunsQuietly m n → P m l k cs sent ss → P n l k cs sent later
  pub records : (m n : Machine) (l : Logged) (k : LogDisk) (cs : List LogChange) (sent : List Message) (ss : List PendingSnapshot) (r : Record) → IsMove m n requests ss ss (λ x. after_record x r) → IsChangeOf m n (AppendRecord r) → P m l k cs sent ss
      → P n (after_record l r) (log_changed k (AppendRecord r)) (cs ++ AppendRecord r ∷ []) sent ss
  pub tells : (m : Machine) (l : Logged) (k : LogDisk) (cs : List LogChange) (sent : List Message) (ss : List PendingSnapshot) (x : Message) → IsTold m requests x → P m l k cs sent ss → P m l k cs (sent ++ x ∷ []) ss
  pub checkpoint : (m : Machine) (l : Logged) (k : LogDisk) (cs : List LogChange) (sent : List Message) (ss : List PendingSnapshot) → P m l k cs sent ss
      → P m (all_copies_given_up l) (log_changed k (WriteCheckpoint (checkpoint_of l))) (cs ++ WriteCheckpoint (checkpoint_of l) ∷ []) sent ss
  pub less : (m : Machine) (l : Logged) (k : LogDisk) (cs : List LogChange) (sent : List Message) (ss : List PendingSnapshot) (handles : List ℕ) → P m l k cs sent ss → P m (copies_given_up l handles) k cs sent ss

module _ (requests : Requests) (P : Machine → Logged → LogDisk → List LogChange → List Message → List PendingSnapshot → Type 0) (k : Keeps requests P) where
  abbrev pub At : Machine → MasterDoing → Type 0
  At m d = P m d.master.logged d.master.disk d.changes d.sent d.master.snapshots

  -- the machine comes to a state beside the step so far
  abbrev pub Reaches : Machine → MasterDoing → Type 0
  Reaches m d = (n : Machine) × RunsTo m n × At n d

  pub here : (m : Machine) (d : MasterDoing) → At m d → Reaches m d
  here m d h = (m, stays m, h)

  pub alike_at : (m : Machine) (d : MasterDoing) → At m d → AreAlike d.master.logged d.master.snapshots m requests
  alike_at m d h = k.alike m d.master.logged d.master.disk d.changes d.sent d.master.snapshots h

  pub appends_at : (m n : Machine) (d : MasterDoing) (r : Record) → IsMove m n requests d.master.snapshots d.master.snapshots (λ x. after_record x r) → IsChangeOf m n (AppendRecord r) → At m d → At n (appends d r)
  appends_at m n d r move change h = k.records m n d.master.logged d.master.disk d.changes d.sent d.master.snapshots r move change h

  pub checkpoint_at : (m : Machine) (d : MasterDoing) → At m d → At m (writes_checkpoint d)
  checkpoint_at m d h = k.checkpoint m d.master.logged d.master.disk d.changes d.sent d.master.snapshots h

  -- A record is logged, where there is room, and the step goes on.
  pub logs_at : (m n : Machine) (d : MasterDoing) (r : Record) (then_ : MasterDoing → MasterDoing) → IsMove m n requests d.master.snapshots d.master.snapshots (λ x. after_record x r)
      → IsChangeOf m n (AppendRecord r) → ((e : MasterDoing) → At n e → At n (then_ e)) → At m d → Reaches m (logs d r then_)
  logs_at m n d r then_ move change go h =
      let was : Bool = is_of_copy d.master.logged r in
      let e : MasterDoing = writes_checkpoint d in
      on_cond (λ (x : MasterDoing). Reaches m x) (fits d r) (then_ (appends d r)) _ (n, move.run, go (appends d r) (appends_at m n d r move change h))
      (on_cond (λ (x : MasterDoing). Reaches m x) (checkpoint_fits d.master.config.log_bytes (checkpoint_of d.master.logged)) (logs_after_checkpoint e r was then_) d
      (on_cond (λ (x : MasterDoing). Reaches m x) (fits e r && not was) (then_ (appends e r)) e
      (n, move.run, go (appends e r) (appends_at m n e r move change (checkpoint_at m d h)))
      (here m e (checkpoint_at m d h)))
      (here m d h))
