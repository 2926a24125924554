-- How a step changes a replica that stays: no bytes are lost, and it is written to in the order of serials.
use Rattle.std.proofs.Common.{◌≡◌, ◌⊎◌, ℕ, zero, suc, ◌+◌, ◌-◌, ◌<◌, List, [], ◌∷◌, ◌++◌, length, take, replicate, Option, Some, None, refl, sym, ap, subst, ◌∙◌, inl, inr, arith}
use Rattle.std.specs.Prelude.{filter}
use Rattle.std.proofs.Math.Nat.{le-max_left}
use Rattle.std.specs.FinMap as table
use Rattle.gfs_types.specs.declared.ids.DataId.{DataId}
use Rattle.gfs_types.specs.declared.mutation.Mutation.{Mutation}
use Rattle.gfs_types.specs.declared.mutation.Mutation.TheVariants as mutation
use Rattle.messages.specs.declared.event.NodeInput.{NodeInput}
use Rattle.replica_store.specs.declared.row.Row.{Row}
use Rattle.replica_store.specs.declared.change.StoreChange.{StoreChange}
use Rattle.replica_store.specs.declared.change.StoreChange.TheVariants.{SetOrder, Put, Write, Zero, Raise, Copy, Remove, Rot}
use Rattle.replica_store.specs.Replicas.{Replica, ServerDisk, replica_of, with_replica, replica_becomes, stored_replica, written_replica, raised_replica, own_bytes, disk_changed, disk_changed_by_all, row_of, row_at}
use Rattle.primary_order.specs.SerialOrder.{SerialOrder, new_order}
use Rattle.protocol.specs.Tables.{Table}
use Rattle.protocol.specs.Sending.{handle_of, version_of, serial_of}
use Rattle.protocol.specs.Choice.{Choice, Ending, Goes, Lost, Stops, made_changes}
use Rattle.protocol.specs.Seen.{is_numbering, Taken, no_step}
use Rattle.protocol.specs.declared.seen.Seen.{Seen}
use Rattle.protocol.specs.declared.seen.Seen.TheVariants.{Numbered, BecameSettled, CopyStarted}
use Rattle.protocol.specs.Server.{ServerState, ServerDoing}
use Rattle.protocol.specs.ServerWrites.{stored_as}
use Rattle.protocol.specs.ServerStep.{server_goes, server_ends, server_step}
use Rattle.laws_base.proofs.Steps.{on_cond, none_some, same_some, put_there, put_other, same_or_not, gone_split}
use Rattle.laws_base.proofs.Entries.{AllOf, all_joined}
use Rattle.laws_base.specs.ReplicaChanges.{IsNumberedIn, IsChangedBy, ReplicasChangeInSerialOrder}
use Rattle.laws_base.proofs.ServerActs.{Acting, acting, with_change, IsWriting, shown_as, numbers_on, KeepsActs, goes_fine}
use Rattle.laws_base.proofs.Lengths.{all_taken}
use Rattle.laws_base.proofs.HeldReplicas.{IsNumber, numbers_quiet, changed_last, other_same, no_row}

-- lists

taken_cases : (made : ℕ) (xs : List StoreChange) (x : StoreChange) → (take made (xs ++ x ∷ []) ≡ take made xs) ⊎ (take made (xs ++ x ∷ []) ≡ xs ++ x ∷ [])
taken_cases zero xs x = inl refl
taken_cases (suc made) [] x = inr (taken_one made)
  where
    taken_one : (n : ℕ) → x ∷ take n [] ≡ x ∷ []
    taken_one zero = refl
    taken_one (suc n) = refl
taken_cases (suc made) (y ∷ xs) x = elim (taken_cases made xs x) [ inl less ↦ inl (ap (λ (ys : List StoreChange). y ∷ ys) less) | inr all ↦ inr (ap (λ (ys : List StoreChange). y ∷ ys) all) ]

-- what is shown

still_numbered : (seen : List Seen) (x : Seen) (handle serial : ℕ) → IsNumberedIn seen handle serial → IsNumberedIn (seen ++ x ∷ []) handle serial
still_numbered [] x handle serial is = absurd is
still_numbered (Numbered h v n id m ∷ seen) x handle serial is = elim (is) [ inl here ↦ inl here | inr later ↦ inr (still_numbered seen x handle serial later) ]
still_numbered (BecameSettled h v n ∷ seen) x handle serial is = still_numbered seen x handle serial is
still_numbered (CopyStarted h copy ∷ seen) x handle serial is = still_numbered seen x handle serial is

last_numbered : (seen : List Seen) (handle : ℕ) (p : SerialOrder) (id : DataId) (m : Mutation) → IsNumberedIn (seen ++ shown_as handle p id m ∷ []) handle (p.serial + 1)
last_numbered [] handle p id m = inl (refl, refl)
last_numbered (Numbered h v n other x ∷ seen) handle p id m = inr (last_numbered seen handle p id m)
last_numbered (BecameSettled h v n ∷ seen) handle p id m = last_numbered seen handle p id m
last_numbered (CopyStarted h copy ∷ seen) handle p id m = last_numbered seen handle p id m

pub filtered_numbered : (seen : List Seen) (handle serial : ℕ) → IsNumberedIn seen handle serial → IsNumberedIn (filter is_numbering seen) handle serial
filtered_numbered [] handle serial is = is
filtered_numbered (Numbered h v n id m ∷ seen) handle serial is = elim (is) [ inl here ↦ inl here | inr later ↦ inr (filtered_numbered seen handle serial later) ]
filtered_numbered (BecameSettled h v n ∷ seen) handle serial is = filtered_numbered seen handle serial is
filtered_numbered (CopyStarted h copy ∷ seen) handle serial is = filtered_numbered seen handle serial is

changed_more : (seen more : List Seen) → ((handle serial : ℕ) → IsNumberedIn seen handle serial → IsNumberedIn more handle serial) → (handle : ℕ) (r now : Replica) → IsChangedBy seen handle r now → IsChangedBy more handle r now
changed_more seen more go handle r now h = (
  h.0,
  elim (h.1) [
    | inl same ↦ inl same
    | inr other ↦ elim (other) [
      | inl raised ↦ inr (inl raised)
      | inr written ↦ inr (inr (written.0, elim (written.1) [ inl less ↦ inl less | inr numbered ↦ inr (go handle now.serial numbered) ]))
    ]
  ],
)

stays : (seen : List Seen) (handle : ℕ) (r now : Replica) → now ≡ r → IsChangedBy seen handle r now
stays seen handle r now same = (let long = ap (λ (x : Replica). x.count) same in omega (arith, long), inl same)

-- disks

abbrev pub Changed : List Seen → ServerDisk → ServerDisk → Type 0
Changed seen before after = (handle : ℕ) (r now : Replica) → replica_of before handle ≡ Some r → replica_of after handle ≡ Some now → IsChangedBy seen handle r now

pub changed_on : (seen more : List Seen) (before after : ServerDisk) → ((handle serial : ℕ) → IsNumberedIn seen handle serial → IsNumberedIn more handle serial) → Changed seen before after → Changed more before after
changed_on seen more before after go h handle r now is then_ = changed_more seen more go handle r now (h handle r now is then_)

pub unchanged : (seen : List Seen) (before after : ServerDisk) → after.replicas ≡ before.replicas → Changed seen before after
unchanged seen before after same handle r now is then_ = stays seen handle r now (same_some now r (sym then_ ∙ ap (λ (t : Table Replica). table.get t handle) same ∙ is))

module _ (seen : List Seen) (before d : ServerDisk) (same : d.replicas ≡ before.replicas) where
  same_at : (q : ℕ) → replica_of d q ≡ replica_of before q
  same_at q = ap (λ (t : Table Replica). table.get t q) same

  becomes_changed : (f : Replica → Replica) (handle : ℕ) → ((r : Replica) → replica_of before handle ≡ Some r → IsChangedBy seen handle r (f r)) → Changed seen before (replica_becomes f d handle (replica_of d handle))
  becomes_changed f handle go q r now is then_ =
      elim (same_or_not q handle) [
        | inl here ↦
            let at : replica_of before handle ≡ Some r = ap (λ (n : ℕ). replica_of before n) (sym here) ∙ is in
            let made : replica_of (replica_becomes f d handle (replica_of d handle)) q ≡ Some (f r) = subst (λ (o : Option Replica). replica_of (replica_becomes f d handle o) q ≡ Some (f r)) (sym (same_at handle ∙ at)) (put_there d.replicas handle (f r) q here) in
            subst (λ (n : ℕ). IsChangedBy seen n r now) (sym here) (subst (λ (x : Replica). IsChangedBy seen handle r x) (same_some (f r) now (sym made ∙ then_)) (go r at))
        | inr apart ↦ stays seen q r now (same_some now r (sym then_ ∙ other_same f d handle (replica_of d handle) q apart ∙ same_at q ∙ is))
      ]

  put_changed : (handle : ℕ) (new : Replica) → replica_of before handle ≡ None → Changed seen before (with_replica d handle new)
  put_changed handle new none q r now is then_ =
      elim (same_or_not q handle) [
        | inl here ↦ none_some r (sym none ∙ ap (λ (n : ℕ). replica_of before n) (sym here) ∙ is)
        | inr apart ↦ stays seen q r now (same_some now r (sym then_ ∙ put_other d.replicas handle new q apart ∙ same_at q ∙ is))
      ]

  copied_changed : (copy version : ℕ) (o : Option Replica) → replica_of before copy ≡ None → Changed seen before (replica_becomes (λ r. stored_replica d.chunk d.block version 0 (own_bytes r)) d copy o)
  copied_changed copy version None none = unchanged seen before d same
  copied_changed copy version (Some r) none = put_changed copy (stored_replica d.chunk d.block version 0 (own_bytes r)) none

  removed_changed : (handle : ℕ) → Changed seen before (disk_changed d (Remove (handle_of handle)))
  removed_changed handle q r now is then_ = let left = gone_split d.replicas handle q now then_ in stays seen q r now (same_some now r (sym left.1 ∙ same_at q ∙ is))

  raised_changed : (handle version : ℕ) → Changed seen before (disk_changed d (Raise (handle_of handle) (version_of version)))
  raised_changed handle version = becomes_changed (λ r. raised_replica r version) handle (λ r is. (omega arith, inr (inl (refl, refl, refl))))

  written_changed : (handle serial offset : ℕ) (bytes : List ℕ) → ((r : Replica) → replica_of before handle ≡ Some r → (r.serial < serial) ⊎ IsNumberedIn seen handle serial)
      → Changed seen before (replica_becomes (λ r. written_replica d.block r serial offset bytes) d handle (replica_of d handle))
  written_changed handle serial offset bytes go = becomes_changed (λ r. written_replica d.block r serial offset bytes) handle (λ r is. (le-max_left r.count (offset + length bytes), inr (inr (refl, go r is))))

  numbered_changed : (handle serial : ℕ) (m : Mutation) → IsNumberedIn seen handle serial → Changed seen before (disk_changed d (stored_as handle serial m))
  numbered_changed handle serial (mutation.Write offset bytes) is = written_changed handle serial offset bytes (λ r at. inr is)
  numbered_changed handle serial (mutation.Append offset bytes) is = written_changed handle serial offset bytes (λ r at. inr is)
  numbered_changed handle serial (mutation.Pad offset end) is = written_changed handle serial offset (replicate (end - offset) 0) (λ r at. inr is)

  applied_changed : (size handle serial : ℕ) (x : StoreChange) → ((r : Replica) → replica_of before handle ≡ Some r → r.serial < serial) → IsWriting size handle serial x → Changed seen before (disk_changed d x)
  applied_changed size handle serial (Write h n offset bytes) less is =
      written_changed h.0 n.0 offset bytes (λ r at. inl (later r (less r (ap (λ (y : ℕ). replica_of before y) (ap (λ z. z.0) (sym is.0)) ∙ at)) (ap (λ z. z.0) is.1)))
    where
      later : (r : Replica) → r.serial < serial → n.0 ≡ serial → r.serial < n.0
      later r low same_serial = omega (arith, low, same_serial)
  applied_changed size handle serial (Zero h n offset count) less is =
      written_changed h.0 n.0 offset (replicate count 0) (λ r at. inl (later r (less r (ap (λ (y : ℕ). replica_of before y) (ap (λ z. z.0) (sym is.0)) ∙ at)) (ap (λ z. z.0) is.1)))
    where
      later : (r : Replica) → r.serial < serial → n.0 ≡ serial → r.serial < n.0
      later r low same_serial = omega (arith, low, same_serial)
  applied_changed size handle serial (SetOrder order) less is = absurd is
  applied_changed size handle serial (Put h version n bytes) less is = absurd is
  applied_changed size handle serial (Raise h version) less is = absurd is
  applied_changed size handle serial (Copy h copy version) less is = absurd is
  applied_changed size handle serial (Remove h) less is = absurd is
  applied_changed size handle serial (Rot h place byte) less is = absurd is

-- the row that a step found says the replica's serial
row_serial : (d : ServerDisk) (handle : ℕ) (row : Row) (serial : ℕ) → row_at d handle ≡ Some row → row.serial.0 < serial → (r : Replica) → replica_of d handle ≡ Some r → r.serial < serial
row_serial d handle row serial there less r is =
    let same : r.serial ≡ row.serial.0 = ap (λ (x : Row). x.serial.0) (same_some _ row (sym (ap row_of is) ∙ there)) in
    omega (arith, same, less)

-- acts

module _ (s : ServerState) where
  abbrev pub Before : Acting → Type 0
  Before c = (c.disk ≡ s.disk) × AllOf IsNumber c.changes

  abbrev pub After : Acting → Type 0
  After c = Changed c.seen c.disk (disk_changed_by_all c.disk c.changes) × ((made : ℕ) → Changed c.seen c.disk (disk_changed_by_all c.disk (take made c.changes))) × (c.disk ≡ s.disk)

  quiet_taken : (seen : List Seen) (c : Acting) (made : ℕ) → AllOf IsNumber c.changes → Changed seen c.disk (disk_changed_by_all c.disk (take made c.changes))
  quiet_taken seen c made idle = unchanged seen c.disk (disk_changed_by_all c.disk (take made c.changes)) (numbers_quiet c.disk (take made c.changes) (all_taken IsNumber made c.changes idle))

  silent : (c d : Acting) → Before c → d.disk ≡ c.disk → d.changes ≡ c.changes → After d
  silent c d h disk changes =
      let idle : AllOf IsNumber d.changes = subst (λ (xs : List StoreChange). AllOf IsNumber xs) (sym changes) h.1 in
      (unchanged d.seen d.disk (disk_changed_by_all d.disk d.changes) (numbers_quiet d.disk d.changes idle), (λ made. quiet_taken d.seen d made idle), disk ∙ h.0)

  after_one : (c : Acting) (x : StoreChange) (leases : Table SerialOrder) (seen : List Seen) → Before c → ((d : ServerDisk) → d.replicas ≡ c.disk.replicas → Changed seen c.disk (disk_changed d x))
      → After (record (with_change c x) { leases = leases; seen = seen })
  after_one c x leases seen h go = (whole, taken, h.0)
    where
      whole : Changed seen c.disk (disk_changed_by_all c.disk (c.changes ++ x ∷ []))
      whole = subst (λ (d : ServerDisk). Changed seen c.disk d) (sym (changed_last c.disk c.changes x)) (go (disk_changed_by_all c.disk c.changes) (numbers_quiet c.disk c.changes h.1))

      taken : (made : ℕ) → Changed seen c.disk (disk_changed_by_all c.disk (take made (c.changes ++ x ∷ [])))
      taken made =
          elim (taken_cases made c.changes x) [
            | inl less ↦ subst (λ (xs : List StoreChange). Changed seen c.disk (disk_changed_by_all c.disk xs)) (sym less) (quiet_taken seen c made h.1)
            | inr all ↦ subst (λ (xs : List StoreChange). Changed seen c.disk (disk_changed_by_all c.disk xs)) (sym all) whole
          ]

  pub acts_changed : KeepsActs s.pushed Before After
  acts_changed =
      record {
        begins = λ c h. silent c c h refl refl;
        orders = λ c order h. (h.0, all_joined IsNumber c.changes (SetOrder order ∷ []) h.1 (tt, tt));
        drops = λ c handle h. after_one c (Remove (handle_of handle)) (table.remove c.leases handle) c.seen h (λ d same. removed_changed c.seen c.disk d same handle);
        puts = λ c handle version serial bytes none short h.
            after_one c (Put (handle_of handle) (version_of version) (serial_of serial) bytes) c.leases c.seen h (λ d same. put_changed c.seen c.disk d same handle (stored_replica d.chunk d.block version serial bytes) (no_row c.disk handle none));
        raises = λ c handle version r there h. after_one c (Raise (handle_of handle) (version_of version)) (table.remove c.leases handle) c.seen h (λ d same. raised_changed c.seen c.disk d same handle version);
        copies = λ c handle copy version none h.
            after_one c (Copy (handle_of handle) (handle_of copy) (version_of version)) c.leases c.seen h (λ d same. copied_changed c.seen c.disk d same copy version (replica_of d handle) (no_row c.disk copy none));
        grants = λ c handle version until chunk members holds h. silent c (record c { leases = table.insert c.leases handle (new_order chunk (record { version = version; until = until; members = members })) }) h refl refl;
        holds = λ c leases from h. h;
        settles = λ c handle version serial h.
            let x : Seen = BecameSettled (handle_of handle) (version_of version) (serial_of serial) in (
              changed_on c.seen (c.seen ++ x ∷ []) c.disk (disk_changed_by_all c.disk c.changes) (still_numbered c.seen x) h.0,
              λ made. changed_on c.seen (c.seen ++ x ∷ []) c.disk (disk_changed_by_all c.disk (take made c.changes)) (still_numbered c.seen x) (h.1 made),
              h.2,
            );
        numbers = λ c handle p id m n h.
            after_one c (stored_as handle (p.serial + 1) m) (numbers_on c handle p id m).leases (c.seen ++ shown_as handle p id m ∷ []) h
            (λ d same. numbered_changed (c.seen ++ shown_as handle p id m ∷ []) c.disk d same handle (p.serial + 1) m (last_numbered c.seen handle p id m));
        spoils = λ c handle p id m n h.
            after_one c (Remove (handle_of handle)) (table.remove (numbers_on c handle p id m).leases handle) (c.seen ++ shown_as handle p id m ∷ []) h
            (λ d same. removed_changed (c.seen ++ shown_as handle p id m ∷ []) c.disk d same handle);
        applies = λ c handle serial r x there less writing h.
            after_one c x c.leases c.seen h (λ d same. applied_changed c.seen c.disk d same c.config.chunk handle serial x (row_serial c.disk handle r serial there less) writing);
      }

  abbrev IsDone : Taken ServerState → Type 0
  IsDone t = Changed t.seen s.disk t.state.disk

  ends_changed : (d : ServerDoing) (choice : Choice) (e : Ending) → After (acting d) → IsDone (server_ends s d choice e)
  ends_changed d choice Goes h = subst (λ (x : ServerDisk). Changed d.seen x (disk_changed_by_all d.server.disk d.changes)) h.2 h.0
  ends_changed d choice Lost h = unchanged [] s.disk s.disk refl
  ends_changed d choice (Stops made) h =
      changed_on d.seen (filter is_numbering d.seen) s.disk (disk_changed_by_all s.disk (made_changes made d.changes)) (filtered_numbered d.seen)
      (subst (λ (x : ServerDisk). Changed d.seen x (disk_changed_by_all x (take made d.changes))) h.2 (h.1 made))

  step_changed : (moment : ℕ) (i : NodeInput) (choice : Choice) → IsDone (server_step s moment i choice)
  step_changed moment i choice =
      on_cond IsDone s.up (server_ends s (server_goes s moment i) choice choice.ending) (no_step s)
      (λ _. ends_changed (server_goes s moment i) choice choice.ending (goes_fine s Before After acts_changed moment i (refl, tt))) (λ _. unchanged [] s.disk s.disk refl)

pub replicas_change_in_serial_order : ReplicasChangeInSerialOrder
replicas_change_in_serial_order s moment i choice handle r now is then_ = step_changed s moment i choice handle r now is then_
