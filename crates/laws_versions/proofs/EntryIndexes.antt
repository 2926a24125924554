-- An entry's chunk stands at the index for which the chunk that its Mutate names was told: each copy on the way stands where its source stood.
use Rattle.std.proofs.Common.{◌≡◌, ◌⊎◌, ℕ, zero, suc, ◌≤◌, List, [], ◌∷◌, ◌++◌, length, take, Some, refl, sym, ap, subst, ◌∙◌, inl, inr, arith}
use Rattle.std.specs.Prelude.{IsTrue}
use Rattle.std.proofs.lemmas.Bool.{cases_lt}
use Rattle.gfs_types.specs.declared.config.Config.{Config}
use Rattle.messages.specs.declared.event.Event.{Event}
use Rattle.messages.specs.declared.message.Location.{Location}
use Rattle.protocol.specs.Tables.{element_at}
use Rattle.protocol.specs.Sending.{handle_of}
use Rattle.protocol.specs.Choice.{Choice}
use Rattle.protocol.specs.World.{WorldState, Happened, new_world, happens, after_events, IsReached}
use Rattle.laws_base.proofs.Owners.{chunks_at}
use Rattle.laws_base.proofs.Histories.{SentIn, sent_in, after_both}
use Rattle.laws_base.proofs.LeasesStayOver.{reached_later}
use Rattle.laws_base.specs.ChunkOrders.{WasCopied, Linked}
use Rattle.laws_base.proofs.Numbering.{entries_stem_from_mutates}
use Rattle.laws_versions.specs.HandleIndexes.{StandsAtIndex, EntriesStandAtTheirToldIndex}
use Rattle.laws_versions.specs.ReplacedChunks.{IsToldAt}
use Rattle.laws_versions.proofs.AskedSteps.{IsToldOf}
use Rattle.laws_versions.proofs.HandleIndexes.{IsStateAt, IsLogAt, Filed, filed_on, at_keeps, stood_at, stands_at}
use Rattle.laws_versions.proofs.CopiesPlaced.{IsCopyPlaced, copy_placed, copies_are_new}
use Rattle.laws_versions.proofs.ToldAnswers.{told_now}
use Rattle.laws_versions.proofs.ReplacedChunks.{kept_before}

-- lists

pub take_front : (xs ys : List (Event × Choice)) → take (length xs) (xs ++ ys) ≡ xs
take_front [] ys = refl
take_front (x ∷ xs) ys = ap (λ (zs : List (Event × Choice)). x ∷ zs) (take_front xs ys)

take_all : (xs : List (Event × Choice)) → take (length xs) xs ≡ xs
take_all [] = refl
take_all (x ∷ xs) = ap (λ (zs : List (Event × Choice)). x ∷ zs) (take_all xs)

pub take_more : (n m : ℕ) (xs : List (Event × Choice)) → n ≤ m → (more : List (Event × Choice)) × (take m xs ≡ take n xs ++ more)
take_more zero m xs low = (take m xs, refl)
take_more (suc n) zero xs low = absurd (omega (arith, low))
take_more (suc n) (suc m) [] low = ([], refl)
take_more (suc n) (suc m) (x ∷ xs) low = let rest = take_more n m xs (omega (arith, low)) in (rest.0, ap (λ (zs : List (Event × Choice)). x ∷ zs) rest.1)

pub joined : (xs : List (Event × Choice)) (x : Event × Choice) (ys : List (Event × Choice)) → (xs ++ x ∷ []) ++ ys ≡ xs ++ x ∷ ys
joined [] x ys = refl
joined (z ∷ xs) x ys = ap (λ (zs : List (Event × Choice)). z ∷ zs) (joined xs x ys)

pub one_longer : (xs : List (Event × Choice)) (x : Event × Choice) → length (xs ++ x ∷ []) ≡ suc (length xs)
one_longer [] x = refl
one_longer (z ∷ xs) x = ap (λ (n : ℕ). suc n) (one_longer xs x)

within : (xs ys : List (Event × Choice)) → length xs ≤ length (xs ++ ys)
within [] ys = omega arith
within (x ∷ xs) ys = let rest = within xs ys in omega (arith, rest)

module _ (config : Config) (servers clients : ℕ) (steps : List (Event × Choice)) where
  abbrev start : WorldState
  start = new_world config servers clients

  -- after so many steps
  abbrev W : ℕ → WorldState
  W n = after_events start (take n steps)

  abbrev End : WorldState
  End = after_events start steps

  abbrev Is : ℕ → ℕ → WorldState → Type 0
  Is handle index w = Filed config servers clients handle index w

  -- it stood at this index of some file at a master that was up
  record Stood (handle index : ℕ) : Type 0 where
    n : ℕ
    up : IsTrue (W n).master.up
    file : ℕ
    at : element_at (chunks_at (W n).master.logged.table.files file) index ≡ Some handle

  same_world : (before rest : List (Event × Choice)) → steps ≡ before ++ rest → W (length before) ≡ after_events start before
  same_world before rest are = ap (λ (xs : List (Event × Choice)). after_events start xs) (ap (λ (xs : List (Event × Choice)). take (length before) xs) are ∙ take_front before rest)

  filed : (handle index : ℕ) (t : Stood handle index) → Is handle index (W t.n)
  filed handle index t = stood_at config servers clients (W t.n) (take t.n steps, refl) t.up handle t.file index t.at

  on : (handle index n m : ℕ) → n ≤ m → Is handle index (W n) → Is handle index (W m)
  on handle index n m low h =
      let more = take_more n m steps low in
      subst (λ (xs : List (Event × Choice)). Is handle index (after_events start xs)) (sym more.1)
      (subst (λ (w : WorldState). Is handle index w) (sym (after_both start (take n steps) more.0))
      (filed_on (IsStateAt handle index) (IsLogAt handle index) (at_keeps handle index) config servers clients (W n) more.0 (take n steps, refl) h))

  to_end : (handle index n : ℕ) → n ≤ length steps → Is handle index (W n) → Is handle index End
  to_end handle index n low h = subst (λ (xs : List (Event × Choice)). Is handle index (after_events start xs)) (take_all steps) (on handle index n (length steps) low h)

  there : (handle index other : ℕ) (t : Stood handle other) → Is handle index (W t.n) → other ≡ index
  there handle index other t h = ((h.up t.up).0).1 t.file other t.at

  -- at one index alone
  once : (handle index other : ℕ) → Stood handle index → Stood handle other → index ≡ other
  once handle index other a b =
      elim (cases_lt a.n b.n) [
        | inl less ↦ sym (there handle index other b (on handle index a.n b.n (omega (arith, less)) (filed handle index a)))
        | inr least ↦ there handle other index a (on handle other b.n a.n least (filed handle other b))
      ]

  -- a copy that began

  module _ (source copy : ℕ) (was : WasCopied start steps source copy) where
    abbrev u : WorldState
    u = after_events start was.before

    abbrev x : Happened
    x = happens u (was.step).0 (was.step).1

    abbrev ahead : List (Event × Choice)
    ahead = was.before ++ was.step ∷ []

    reached : IsReached config servers clients x.world
    reached = reached_later config servers clients u (was.step ∷ []) (was.before, refl)

    then_ : W (length was.before) ≡ u
    then_ = same_world was.before (was.step ∷ was.after) was.steps_are

    now : W (length ahead) ≡ x.world
    now = same_world ahead was.after (was.steps_are ∙ sym (joined was.before was.step was.after)) ∙ after_both start was.before (was.step ∷ [])

    long : length ahead ≤ length steps
    long = subst (λ (xs : List (Event × Choice)). length ahead ≤ length xs) (joined was.before was.step was.after ∙ sym was.steps_are) (within ahead was.after)

    placed : IsCopyPlaced config servers clients source copy x.world
    placed = copy_placed config servers clients u x.world (was.before, refl) reached (was.now).moment (was.now).input (was.now).choice (ap (λ (y : Happened). y.world.master) (was.now).step_is) (was.now).place (handle_of source) (handle_of copy) (was.now).seen

    new : IsTrue u.master.up × (u.master.logged.next_handle ≤ copy)
    new = copies_are_new config servers clients u (was.before, refl) (was.now).moment (was.now).input (was.now).choice (was.now).place (handle_of source) (handle_of copy) (was.now).seen

    -- where the copy is found at an index, its source stood at it
    found : (index : ℕ) → ((other : ℕ) → Is copy other (W (length ahead)) → index ≡ other) → Stood source index
    found index only =
        elim (placed.1) [
          | inl all ↦
              let none : index ≡ suc index = only (suc index) (subst (λ (w : WorldState). Is copy (suc index) w) (sym now) (all (suc index))) in
              absurd (omega (arith, none))
          | inr at ↦
              let same : index ≡ at.1 = only at.1 (subst (λ (w : WorldState). Is copy at.1 w) (sym now) at.3) in
              subst (λ (n : ℕ). Stood source n) (sym same)
              (record {
                n = length ahead;
                up = subst (λ (w : WorldState). IsTrue w.master.up) (sym now) placed.0;
                file = at.0;
                at = subst (λ (w : WorldState). element_at (chunks_at w.master.logged.table.files at.0) at.1 ≡ Some source) (sym now) at.2;
              })
        ]

    link : (index : ℕ) → Stood copy index → Stood source index
    link index t =
        elim (cases_lt t.n (length ahead)) [
          | inl before ↦
              let longer = one_longer was.before was.step in
              let used : Is copy index u = subst (λ (w : WorldState). Is copy index w) then_ (on copy index t.n (length was.before) (omega (arith, before, longer)) (filed copy index t)) in
              let low = ((used.up new.0).0).0 in
              let high = new.1 in
              absurd (omega (arith, low, high))
          | inr later ↦ found index (λ other h. there copy other index t (on copy other (length ahead) t.n later h))
        ]

    link_end : (file index : ℕ) → StandsAtIndex End file index copy → Stood source index
    link_end file index stands = found index (λ other h. stands_at config servers clients End copy other (to_end copy other (length ahead) long h) file index stands)

  -- back to the first of the chain
  first_of : (from : ℕ) (chain : List ℕ) (handle : ℕ) → Linked (WasCopied start steps) from chain handle → (file index : ℕ) → StandsAtIndex End file index handle → (from ≡ handle) ⊎ Stood from index
  first_of from [] handle same file index stands = inl same
  first_of from (next ∷ rest) handle linked file index stands =
      elim (first_of next rest handle linked.1 file index stands) [
        | inl same ↦ inr (link_end from next linked.0 file index (subst (λ (q : ℕ). StandsAtIndex End file index q) (sym same) stands))
        | inr stood ↦ inr (link from next linked.0 index stood)
      ]

  module _ (clocks : IsTrue (after_events (new_world config servers clients) steps).observer.are_clocks_kept) (client file spot : ℕ) (l : Location) (t : IsToldAt (after_events (new_world config servers clients) steps).sent client file l spot) where
    -- as it was told
    told : Stood l.handle.0 l.index × (n : ℕ) × (n ≤ length steps) × Is l.handle.0 l.index (W n)
    told = (stood, length h.before, short, filed l.handle.0 l.index stood)
      where
        h : SentIn (new_world config servers clients) steps spot t.told
        h = sent_in (new_world config servers clients) steps spot t.told (omega arith) t.sent_is

        u : WorldState
        u = after_events (new_world config servers clients) h.before

        path : after_events u (h.step ∷ h.after) ≡ after_events (new_world config servers clients) steps
        path = sym (ap (λ (xs : List (Event × Choice)). after_events (new_world config servers clients) xs) h.steps_are ∙ after_both (new_world config servers clients) h.before (h.step ∷ h.after))

        now : IsTrue u.master.up × IsToldOf u.master.logged file l
        now =
            told_now config servers clients (after_events (new_world config servers clients) steps) (steps, refl) u (h.before, refl) (kept_before (after_events (new_world config servers clients) steps) clocks u (h.step ∷ h.after) path)
            h.step h.after path client file l spot t h.unsent h.sent_is

        same : W (length h.before) ≡ u
        same = same_world h.before (h.step ∷ h.after) h.steps_are

        stood : Stood l.handle.0 l.index
        stood =
            record {
              n = length h.before;
              up = subst (λ (w : WorldState). IsTrue w.master.up) (sym same) now.0;
              file = file;
              at = subst (λ (w : WorldState). element_at (chunks_at w.master.logged.table.files file) l.index ≡ Some l.handle.0) (sym same) (now.1).stood;
            }

        short : length h.before ≤ length steps
        short = subst (λ (xs : List (Event × Choice)). length h.before ≤ length xs) (sym h.steps_are) (within h.before (h.step ∷ h.after))

    stands_there : (chain : List ℕ) (handle : ℕ) → Linked (WasCopied start steps) l.handle.0 chain handle → (other later : ℕ) → StandsAtIndex End other later handle → later ≡ l.index
    stands_there chain handle linked other later stands =
        elim (first_of l.handle.0 chain handle linked other later stands) [
          | inl same ↦ stands_at config servers clients End l.handle.0 l.index (to_end l.handle.0 l.index told.1 told.2 told.3) other later (subst (λ (q : ℕ). StandsAtIndex End other later q) (sym same) stands)
          | inr stood ↦ once l.handle.0 later l.index stood told.0
        ]

pub entries_stand_at_their_told_index : EntriesStandAtTheirToldIndex
entries_stand_at_their_told_index config servers clients steps clocks handle place p at =
    let one = entries_stem_from_mutates config servers clients steps handle place p at in (
      one.0,
      one.1,
      λ client file spot l t same other later stands.
          stands_there config servers clients steps clocks client file spot l t (one.2).0 handle (subst (λ (q : ℕ). Linked (WasCopied (new_world config servers clients) steps) q (one.2).0 handle) (sym same) (one.2).1) other later stands,
    )
