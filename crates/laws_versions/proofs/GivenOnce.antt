-- One order at most gives a server a version: a step gives it once, of a number that was not issued before. A Clone is of a number that was, so it follows each such order.
use Rattle.std.proofs.Common.{◌≡◌, ◌⊎◌, ℕ, zero, suc, ◌≤◌, ◌<◌, Bool, true, false, List, [], ◌∷◌, ◌++◌, length, Option, Some, None, refl, sym, ap, subst, ◌∙◌, inl, inr, arith}
use Rattle.std.specs.Prelude.{◌==◌, count_by}
use Rattle.std.proofs.lemmas.Bool.{eqb-true, and_from, and_parts, cases_lt}
use Rattle.gfs_types.specs.declared.config.Config.{Config}
use Rattle.gfs_types.specs.declared.ids.OrderNo.{OrderNo}
use Rattle.messages.specs.declared.event.NodeInput.{NodeInput}
use Rattle.messages.specs.declared.event.NodeInput.TheVariants as input
use Rattle.messages.specs.declared.message.Message.{Message}
use Rattle.messages.specs.declared.message.Body.{Body}
use Rattle.messages.specs.declared.message.Body.TheVariants as body
use Rattle.protocol.specs.Tables.{element_at}
use Rattle.protocol.specs.Sending.{the_server, order_number}
use Rattle.protocol.specs.Choice.{Choice, Ending, Goes, Lost, Stops}
use Rattle.protocol.specs.Seen.{Taken, no_step}
use Rattle.protocol.specs.Logged.{Logged}
use Rattle.chunk_table.specs.ChunkTable.{ChunkRow, chunk_of}
use Rattle.protocol.specs.Master.{MasterState, MasterDoing}
use Rattle.protocol.specs.MasterStep.{master_goes, master_ends, master_bounded, may_end, master_step}
use Rattle.protocol.specs.World.{WorldState, stamped, IsReached}
use Rattle.laws_base.proofs.Steps.{on_cond, none_some, same_some, tally, count-cons, count-append}
use Rattle.laws_base.proofs.Entries.{AllOf, same_number}
use Rattle.laws_base.proofs.Words.{true_false}
use Rattle.laws_base.proofs.MembersRecorded.{all_at, all_in_order, place_below}
use Rattle.laws_base.proofs.MessagesSent.{IsSent}
use Rattle.laws_base.proofs.GrantedIssued.{granted_is_at_most_issued}
use Rattle.laws_base.specs.Given.{version_given}
use Rattle.laws_base.proofs.IssuedNumbers.{IsPassed}
use Rattle.laws_versions.proofs.GivenVersions.{given_reached}
use Rattle.laws_versions.specs.HeldVersions.{version_cloned}
use Rattle.laws_base.proofs.Histories.{stood_before}
use Rattle.laws_versions.proofs.CloneOrders.{IsMastersMessage, IsNoClone, delivery_says}
use Rattle.laws_versions.proofs.ClonedVersions.{IsShutIn, clones_shut}
use Rattle.laws_base.proofs.MasterPremises.{IsAsk}
use Rattle.laws_versions.proofs.MasterCauses.{is_caused, Attempts, IsRaised, Causes, step_caused}
use Rattle.laws_versions.proofs.ExtendLaws.{new_one}
use Rattle.laws_versions.specs.GivenOnce.{VersionsAreGivenOnce, ClonesFollowTheirVersions}
use Rattle.laws_versions.proofs.GivenInSteps.{is_version, is_server, gives, step_once}
use Rattle.laws_versions.proofs.OrderSteps.{IsOrderedNow, WasOrderedIn, was_ordered_in, step_later}

-- the number of an order that gives a version is the next one of its chunk, or the chunk is a new one

abbrev pub IsNext : Logged → ℕ → ℕ → Type 0
IsNext l handle version = ((row : ChunkRow) × (chunk_of l.table handle ≡ Some row) × (suc row.issued ≡ version)) ⊎ (l.next_handle ≤ handle)

abbrev pub IsGivenNext : Logged → NodeInput → Message → Type 0
IsGivenNext l i x = (handle version : ℕ) → version_given x.body ≡ Some (handle, version) → IsAsk i × IsNext l handle version

raised_next : (l : Logged) (tried : Attempts) (handle version base : ℕ) → IsRaised l tried handle version base → IsNext l handle version
raised_next l tried handle version base (inl old) = inl (old.0, old.1, old.3)
raised_next l tried handle version base (inr new) = inr new.0

uncaused_none : (b : Body) → is_caused b ≡ false → version_given b ≡ None
uncaused_none (body.Create order handle version) none = true_false none
uncaused_none (body.SetVersion order handle version base) none = true_false none
uncaused_none (body.CopyLocal order handle version copy copy_version) none = true_false none
uncaused_none other none = refl

pub next_causes : (l : Logged) (tried : Attempts) (i : NodeInput) → Causes l tried i (IsGivenNext l i)
next_causes l tried i =
    record {
      plain = λ receiver b none handle version is. none_some (handle, version) (sym (uncaused_none b none) ∙ is);
      extends = λ server line until due handle version is. none_some (handle, version) is;
      grants = λ server order q v until chunk members told has handle version is. none_some (handle, version) is;
      creates = λ server order q v ask due handle version is.
          (ask, subst (λ (p : ℕ × ℕ). IsNext l p.0 p.1) (same_some (q, v) (handle, version) is) (elim (due) [ inl raised ↦ raised_next l tried q v 0 raised | inr new ↦ inr new ]));
      raises = λ server order q v base ask due handle version is. (ask, subst (λ (p : ℕ × ℕ). IsNext l p.0 p.1) (same_some (q, v) (handle, version) is) (raised_next l tried q v base due));
      copies = λ server order q v copy copy_version ask new handle version is. (ask, subst (λ (p : ℕ × ℕ). IsNext l p.0 p.1) (same_some (copy, copy_version) (handle, version) is) (inr new));
    }

-- such a number was not issued before
pub not_passed : (l : Logged) (handle version : ℕ) → IsNext l handle version → IsPassed handle version l → ⊥
not_passed l handle version (inl old) passed = let low = passed.1 old.0 old.1 in let next = old.2 in omega (arith, low, next)
not_passed l handle version (inr new) passed = let used = passed.0 in omega (arith, used, new)

-- an order of a step that gives a version
pub now_given : (config : Config) (servers clients : ℕ) (u v : WorldState) → IsReached config servers clients u → (m : Message) (h : IsOrderedNow u v m) (handle version : ℕ) → version_given m.body ≡ Some (handle, version) → IsAsk h.taken × IsNext u.master.logged handle version
now_given config servers clients u v r m h handle version is =
    all_at (IsGivenNext u.master.logged h.taken) (master_step u.master h.moment h.taken h.choice).out.sent (h.said).0 h.word
    (step_caused u.master h.moment h.taken h.choice (IsGivenNext u.master.logged h.taken) (granted_is_at_most_issued config servers clients u r) (next_causes u.master.logged u.master.attempts h.taken)) (h.said).1
    handle version (ap version_given (h.same).2 ∙ is)

-- no Clone is sent at a delivery

no_clone : (b : Body) (handle version : ℕ) → IsNoClone b → version_cloned b ≡ Some (handle, version) → ⊥
no_clone (body.Clone order q v source) handle version none is = none
no_clone other handle version none is = none_some (handle, version) is

abbrev AreNoClones : Taken MasterState → Type 0
AreNoClones t = AllOf (IsMastersMessage IsNoClone) t.out.sent

delivered_none : (m : MasterState) (moment : ℕ) (x : Message) (choice : Choice) → AreNoClones (master_step m moment (input.Deliver x) choice)
delivered_none m moment x choice =
    let d : MasterDoing = master_goes m moment (input.Deliver x) choice.refused in
    on_cond AreNoClones m.up (master_bounded m (input.Deliver x) d choice) (no_step m)
    (λ _. on_cond AreNoClones (may_end m (input.Deliver x) d choice.ending) (master_ends m d choice choice.ending) (no_step m) (λ _. by_ending choice.ending) (λ _. tt)) (λ _. tt)
  where
    by_ending : (e : Ending) → AreNoClones (master_ends m (master_goes m moment (input.Deliver x) choice.refused) choice e)
    by_ending Goes = all_in_order (IsMastersMessage IsNoClone) choice.order (master_goes m moment (input.Deliver x) choice.refused).sent (delivery_says m moment x choice.refused)
    by_ending Lost = tt
    by_ending (Stops made) = tt

not_both : (m : MasterState) (moment : ℕ) (i : NodeInput) (choice : Choice) (x : Message) (handle version : ℕ) → IsAsk i → IsSent (master_step m moment i choice).out.sent x → version_cloned x.body ≡ Some (handle, version) → ⊥
not_both m moment i choice x handle version ask said is =
    no_clone x.body handle version
    (all_at (IsMastersMessage IsNoClone) (master_step m moment i choice).out.sent said.0 x (subst (λ (j : NodeInput). AreNoClones (master_step m moment j choice)) (sym ask.taken) (delivered_none m moment ask.message choice)) said.1).1
    is

-- counts

two_counted : (f : Message → Bool) (ms : List Message) (place other : ℕ) (m n : Message) → place < other → element_at ms place ≡ Some m → element_at ms other ≡ Some n → f m ≡ true → f n ≡ true → 2 ≤ count_by f ms
two_counted f [] place other m n below at there one two = none_some m at
two_counted f (x ∷ ms) zero zero m n below at there one two = absurd (omega (arith, below))
two_counted f (x ∷ ms) zero (suc other) m n below at there one two =
    let whole = count-cons f x ms in
    let first = ap tally (ap f (same_some x m at) ∙ one) in
    let more = one_counted ms other there in
    omega (arith, whole, first, more)
  where
    one_counted : (xs : List Message) (k : ℕ) → element_at xs k ≡ Some n → 1 ≤ count_by f xs
    one_counted [] k is = none_some n is
    one_counted (y ∷ xs) zero is = let all = count-cons f y xs in let here = ap tally (ap f (same_some y n is) ∙ two) in omega (arith, all, here)
    one_counted (y ∷ xs) (suc k) is = let all = count-cons f y xs in let later = one_counted xs k is in omega (arith, all, later)
two_counted f (x ∷ ms) (suc place) zero m n below at there one two = absurd (omega (arith, below))
two_counted f (x ∷ ms) (suc place) (suc other) m n below at there one two =
    let whole = count-cons f x ms in
    let rest = two_counted f ms place other m n (omega (arith, below)) at there one two in
    omega (arith, whole, rest)

none_counted : (f : Message → Bool) (ms : List Message) → ((place : ℕ) (m : Message) → element_at ms place ≡ Some m → f m ≡ true → ⊥) → count_by f ms ≡ 0
none_counted f [] none = refl
none_counted f (x ∷ ms) none = by_first (f x) refl (none_counted f ms (λ place m at. none (suc place) m at))
  where
    by_first : (b : Bool) → f x ≡ b → count_by f ms ≡ 0 → count_by f (x ∷ ms) ≡ 0
    by_first true is rest = absurd (none 0 x refl is)
    by_first false is rest = let whole = count-cons f x ms in let zero_ = ap tally is in omega (arith, whole, zero_, rest)

module _ (server handle version : ℕ) where
  is_given : (m : Message) → m.receiver ≡ the_server server → version_given m.body ≡ Some (handle, version) → gives server handle version m ≡ true
  is_given m to is =
      and_from (is_version handle version (version_given m.body)) (is_server server m.receiver)
      (ap (is_version handle version) is ∙ and_from (handle == handle) (version == version) (same_number handle) (same_number version)) (ap (is_server server) to ∙ same_number server)

  given_is : (m : Message) → gives server handle version m ≡ true → version_given m.body ≡ Some (handle, version)
  given_is m is = by_value (version_given m.body) (and_parts (is_version handle version (version_given m.body)) (is_server server m.receiver) is).0
    where
      by_value : (o : Option (ℕ × ℕ)) → is_version handle version o ≡ true → o ≡ Some (handle, version)
      by_value None same = true_false (sym same)
      by_value (Some p) same =
          let both = and_parts (p.0 == handle) (p.1 == version) same in
          ap (λ (h : ℕ). Some (h, p.1)) (eqb-true p.0 handle both.0) ∙ ap (λ (v : ℕ). Some (handle, v)) (eqb-true p.1 version both.1)

  -- the numbers of messages change no count
  stamped_count : (k : ℕ) (ms : List Message) → count_by (gives server handle version) (stamped k ms) ≡ count_by (gives server handle version) ms
  stamped_count k [] = refl
  stamped_count k (m ∷ ms) =
      let one = count-cons (gives server handle version) (record m { number = k }) (stamped (suc k) ms) in
      let two = count-cons (gives server handle version) m ms in
      let rest = stamped_count (suc k) ms in
      omega (arith, one, two, rest)

  -- after a step that gave the version it was given once
  once_now : (config : Config) (servers clients : ℕ) (u v : WorldState) → IsReached config servers clients u → (m : Message) → IsOrderedNow u v m → version_given m.body ≡ Some (handle, version) → count_by (gives server handle version) v.sent ≤ 1
  once_now config servers clients u v r m h is =
      let ms : List Message = (master_step u.master h.moment h.taken h.choice).out.sent in
      let k : ℕ = suc (length u.sent) in
      let next : IsNext u.master.logged handle version = (now_given config servers clients u v r m h handle version is).1 in
      let old = none_counted (gives server handle version) u.sent
      (λ place x at given. not_passed u.master.logged handle version next (((given_reached handle version config servers clients u r).words x (place, at) (inl (given_is x given))).1 h.up)) in
      let new = step_once server handle version u.master h.moment h.taken h.choice (granted_is_at_most_issued config servers clients u r) in
      let same = stamped_count k ms in
      let whole = count-append (gives server handle version) u.sent (stamped k ms) in
      let now : v.sent ≡ u.sent ++ stamped k ms = ap (λ (x : WorldState). x.sent) h.world_is in
      let all = ap (λ (xs : List Message). count_by (gives server handle version) xs) now in
      omega (arith, old, new, same, whole, all)

-- an order that gives a version is an order
pub given_number : (b : Body) (handle version : ℕ) → version_given b ≡ Some (handle, version) → (order : OrderNo) × (order_number b ≡ Some order)
given_number (body.Create order q v) handle version is = (order, refl)
given_number (body.SetVersion order q v base) handle version is = (order, refl)
given_number (body.CopyLocal order q v copy copy_version) handle version is = (order, refl)
given_number other handle version is = none_some (handle, version) is

pub versions_are_given_once : VersionsAreGivenOnce
versions_are_given_once config servers clients w r place other m n at there server handle version to also is same =
    elim (cases_lt place other) [
      | inl less ↦ absurd (not_two place other m n less at there to also is same)
      | inr high ↦ elim (cases_lt other place) [
        | inl less ↦ absurd (not_two other place n m less there at also to same is)
        | inr low ↦ omega (arith, high, low)
      ]
    ]
  where
    not_two : (p q : ℕ) (x y : Message) → p < q → element_at w.sent p ≡ Some x → element_at w.sent q ≡ Some y → x.receiver ≡ the_server server → y.receiver ≡ the_server server → version_given x.body ≡ Some (handle, version)
        → version_given y.body ≡ Some (handle, version) → ⊥
    not_two p q x y below x_at y_at x_to y_to x_is y_is =
        let number = given_number y.body handle version y_is in
        let h : WasOrderedIn config servers clients w q y = was_ordered_in config servers clients w r q y y_at number.0 number.1 in
        let within = place_below h.next.sent q y h.at_next in
        let stood = stood_before h.next.sent w.sent p x h.grown (omega (arith, below, within)) x_at in
        let two = two_counted (gives server handle version) h.next.sent p q x y below stood h.at_next (is_given server handle version x x_to x_is) (is_given server handle version y y_to y_is) in
        let once = once_now server handle version config servers clients h.before h.next h.reached y h.now y_is in
        omega (arith, two, once)

pub clones_follow_their_versions : ClonesFollowTheirVersions
clones_follow_their_versions config servers clients w r place other given clone at there handle version is cloned first later first_is later_is =
    elim (cases_lt place (length c.before.sent)) [
      | inl old ↦ (
        (let from = c.unsent in omega (arith, old, from)),
        step_later config servers clients c.before c.reached c.now.up c.now.moment c.now.taken c.now.choice given c.now.word (place, stood_before c.before.sent w.sent place given c.grown_before old at) c.now.said first later first_is
            (ap order_number (c.now.same).2 ∙ later_is),
      )
      | inr new ↦ elim (cases_lt place (length c.next.sent)) [
        | inl now ↦ absurd (same_step new (stood_before c.next.sent w.sent place given c.grown now at))
        | inr after ↦ absurd (too_late after)
      ]
    ]
  where
    c : WasOrderedIn config servers clients w other clone
    c = was_ordered_in config servers clients w r other clone there later later_is

    g : WasOrderedIn config servers clients w place given
    g = was_ordered_in config servers clients w r place given at first first_is

    -- both in one step: it takes an Ask, and so orders no clone
    same_step : length c.before.sent ≤ place → element_at c.next.sent place ≡ Some given → ⊥
    same_step from now =
        let ms : List Message = (master_step c.before.master c.now.moment c.now.taken c.now.choice).out.sent in
        let new = new_one c.before.sent ms (suc (length c.before.sent)) place given from (ap (λ (v : WorldState). element_at v.sent place) (sym c.now.world_is) ∙ now) in
        let also : IsOrderedNow c.before c.next given = record { up = c.now.up; moment = c.now.moment; taken = c.now.taken; choice = c.now.choice; world_is = c.now.world_is; word = new.0; said = new.1; same = new.2 } in
        let ask = (now_given config servers clients c.before c.next c.reached given also handle version is).0 in
        not_both c.before.master c.now.moment c.now.taken c.now.choice c.now.word handle version ask c.now.said (ap version_cloned (c.now.same).2 ∙ cloned)

    -- the Clone came first: its version was issued then
    too_late : length c.next.sent ≤ place → ⊥
    too_late after =
        let due = now_given config servers clients g.before g.next g.reached given g.now handle version is in
        let within = place_below c.next.sent other clone c.at_next in
        let below = place_below g.next.sent place given g.at_next in
        elim (cases_lt other (length g.before.sent)) [
          | inl old ↦
              let shut : IsShutIn g.before handle version = clones_shut config servers clients g.before g.reached handle version (clone, (other, stood_before g.before.sent w.sent other clone g.grown_before old there), cloned) in
              not_passed g.before.master.logged handle version due.1 (shut.up g.now.up).0
          | inr new ↦
              let ms : List Message = (master_step g.before.master g.now.moment g.now.taken g.now.choice).out.sent in
              let stood = stood_before g.next.sent w.sent other clone g.grown (omega (arith, after, within, below)) there in
              let one = new_one g.before.sent ms (suc (length g.before.sent)) other clone new (ap (λ (v : WorldState). element_at v.sent other) (sym g.now.world_is) ∙ stood) in
              not_both g.before.master g.now.moment g.now.taken g.now.choice one.0 handle version due.0 one.1 (ap version_cloned (one.2).2 ∙ cloned)
        ]
