-- All clients of a script, from their first calls to their last.
use Rattle.std.proofs.Common.{◌≡◌, ℕ, zero, suc, ◌+◌, ◌-◌, ◌<◌, ◌≤◌, Bool, true, false, List, [], ◌∷◌, ◌++◌, length, get_or, take, drop, map, Some, None, refl, sym, ap, subst, ◌∙◌, append_assoc, length-append, arith}
use Rattle.std.specs.Prelude.{Option, All, IsSome, slice_get, slice_range, replicate, nat_lt, nat_le, IsTrue, ◌==◌, if◌then◌else◌, Result, Ok, Err, is_err, OnOk}
use Rattle.std.proofs.lemmas.Bool.Decides.{nat_tests}
use Rattle.std.proofs.Math.Seq.{take-suc, take-nil}
use Rattle.std.proofs.lemmas.Option.{slice_get-get_or, slice_get_within, get_or_from_slice_get}
use Rattle.std.proofs.lemmas.List.{append-nil, length-map}
use Rattle.std.proofs.lemmas.List.Elements.{All-head, All-tail, All-map}
use mathlib.Core.List.{IsPrefix}
use Rattle.gfs_types.specs.declared.answer.Answer.{Answer}
use Rattle.gfs_types.specs.declared.answer.Answer.TheVariants as answer
use Rattle.gfs_types.specs.Settings.{first_out_of_range}
use Rattle.gfs_types.specs.declared.config.Config.{Config}
use Rattle.gfs_types.specs.declared.refusal.Refusal.{Refusal}
use Rattle.gfs_types.specs.declared.call.Call.{Call}
use Rattle.gfs_types.specs.declared.ids.ClientId.{ClientId}
use Rattle.gfs_types.specs.declared.no_memory.NoMemory.{NoMemory}
use Rattle.script.specs.declared.cell_lines.ClientCall.{ClientCall}
use Rattle.gfs_types.specs.declared.ids.Node.{Node}
use Rattle.script.specs.declared.live_lines.LiveLine.{LiveLine}
use Rattle.script.specs.declared.live_lines.LiveLine.TheVariants as lines
use Rattle.script.specs.LiveLines.{is_barrier, is_reopen}
use Rattle.script.specs.declared.options.Options.{Options}
use Rattle.protocol_journal.specs.Journal.{Entry, own}
use Rattle.headline.specs.Journals.{AreExplained}
use Rattle.cell_journal.proofs.Begins.{prefix_self, prefix_trans, prefix_shorter}
use Rattle.cell_journal.proofs.Grown.{none_lawful}
use Rattle.cell_journal.specs.Clocks.{are_clocks_kept}
use Rattle.cell_journal.specs.Identity.{Identity, Closed}
use Rattle.cell_journal.specs.WholeHistories.{IsHistoryOf, whole_of}
use Rattle.cell_seats.specs.Seen.{visible_of}
use Rattle.cell_seats.proofs.Sitting.{explains}
use Rattle.cell_seats.specs.Seats.{SeatState, shown, IsAnswered, IsLost, GoesOver}
use Rattle.cell_seats.proofs.GoingOver.{shown_same}
use Rattle.running_nodes.specs.Seatings.{AllGoOver}
use Rattle.running_nodes.specs.ParkedSeats.{ParkedSeatState}
use Rattle.cell_run.specs.Cells.{IsCellOf}
use Rattle.live.specs.declared.play.Player.{Player}
use Rattle.live.specs.declared.reopen.Unseated.{Unseated}
use Rattle.live.specs.Live.{HasSeenPart, AreAnswersIn}
use Rattle.cell_looks.specs.ClientAnswers.{calls_on, calls_of, first_number, AreAnswered}
use Rattle.live.specs.Playing.{reopens_in, HasPlayed, IsSamePlayer, HasMade, PlaysOn, Plays, IsNewPlayer, HasCalled, IsPlayed, Reopens, AllReopen, IsReopened, rest_of, player_of, seated, Each, AllPlay}
use Rattle.cell_looks.proofs.Calls.{replicate_one_more, calls_append}
use Rattle.live.proofs.Playing.{nothing_played, answered_one_more, refused_more, reopened, played_more, played_whole}

-- places of a list

each_more_from : {P : Type 0} (Holds : ℕ → P → Type 0) (xs : List P) (x : P) → ((k : ℕ) (p : P) → slice_get xs k ≡ Some p → Holds k p) → Holds (length xs) x
    → (k : ℕ) (p : P) → slice_get (xs ++ x ∷ []) k ≡ Some p → Holds k p
each_more_from {P} Holds [] x all one zero p h = subst (Holds zero) (let both : Some x ≡ Some p = h in cc) one
each_more_from Holds [] x all one (suc k) p h = absurd (let none : None ≡ Some p = h in cc)
each_more_from Holds (y ∷ ys) x all one zero p h = all zero p h
each_more_from Holds (y ∷ ys) x all one (suc k) p h = each_more_from (λ i q. Holds (suc i) q) ys x (λ i q at. all (suc i) q at) one k p h

pub each_more : (Holds : ℕ → Player → Type 0) (xs : List Player) (x : Player) (n : ℕ) → length xs ≡ n → Each Holds xs → Holds (n + 1) x → Each Holds (xs ++ x ∷ [])
each_more Holds xs x n count all one =
    let next : n + 1 ≡ suc (length xs) = omega (arith, count) in
    each_more_from (λ k p. Holds (suc k) p) xs x all (subst (λ (m : ℕ). Holds m x) next one)

pub count_more : (xs ys : List Player) (x : Player) (n : ℕ) → length xs ≡ n → ys ≡ xs ++ x ∷ [] → length ys ≡ n + 1
count_more xs ys x n count is = omega (arith, ap length is, length-append xs (x ∷ []), count)

pub each_of_none : (Holds : ℕ → Player → Type 0) → Each Holds []
each_of_none Holds k p h = absurd (let none : None ≡ Some p = h in cc)

-- the one that stood at a place before
was_there : {P : Type 0} (xs ys : List P) (k : ℕ) (q : P) → length ys ≡ length xs → slice_get ys k ≡ Some q → (p : P) × (slice_get xs k ≡ Some p)
was_there xs [] k q same h = absurd (let none : None ≡ Some q = h in cc)
was_there [] (y ∷ ys) k q same h = absurd (omega (arith, same))
was_there (x ∷ xs) (y ∷ ys) zero q same h = (x, refl)
was_there (x ∷ xs) (y ∷ ys) (suc k) q same h = was_there xs ys k q (let e : length ys ≡ length xs = omega (arith, same) in e) h

mapped_at : {P Q : Type 0} (f : P → Q) (xs : List P) (k : ℕ) (y : Q) → slice_get (map f xs) k ≡ Some y → (x : P) × (slice_get xs k ≡ Some x) × (f x ≡ y)
mapped_at f [] k y h = absurd (let none : None ≡ Some y = h in cc)
mapped_at f (x ∷ xs) zero y h = (x, refl, (let both : Some (f x) ≡ Some y = h in cc))
mapped_at f (x ∷ xs) (suc k) y h = mapped_at f xs k y h

-- what holds of the first ones holds of one more, and in the end of all
pub first_more : (Holds : Player → Type 0) (ps : List Player) (n : ℕ) (x : Player) → n < length ps → x ≡ get_or ps n x → ((k : ℕ) (p : Player) → k < n → slice_get ps k ≡ Some p → Holds p) → Holds x
    → (k : ℕ) (p : Player) → k < n + 1 → slice_get ps k ≡ Some p → Holds p
first_more Holds ps n x within at all one k p before here = by_place (nat_lt k n) refl
  where
    by_place : (b : Bool) → nat_lt k n ≡ b → Holds p
    by_place true less = all k p (let e : k < n = grind (arith, nat_tests, less) in e) here
    by_place false past =
        let same : k ≡ n = grind (arith, nat_tests, past, before) in
        let found : Some p ≡ Some x = sym here ∙ (ap (slice_get ps) same ∙ (slice_get-get_or ps n x within ∙ ap (λ (y : Player). Some y) (sym at))) in
        subst Holds (sym (let both : Some p ≡ Some x = found in (let e : p ≡ x = cc both in e))) one

pub first_none : (Holds : Player → Type 0) (ps : List Player) (n : ℕ) → n ≡ 0 → (k : ℕ) (p : Player) → k < n → slice_get ps k ≡ Some p → Holds p
first_none Holds ps n is k p before here = absurd (omega (arith, is, before))

pub first_all : (Holds : Player → Type 0) (ps : List Player) (n : ℕ) → length ps ≤ n → ((k : ℕ) (p : Player) → k < n → slice_get ps k ≡ Some p → Holds p) → (k : ℕ) (p : Player) → slice_get ps k ≡ Some p → Holds p
first_all Holds ps n past all k p here = all k p (let w : k < length ps = slice_get_within ps k p here in omega (arith, past, w)) here

-- parts of a script

drop_none : {X : Type 0} (k : ℕ) → ◌≡◌ {A = List X} (drop k []) []
drop_none zero = refl
drop_none (suc k) = refl

less_none : (n : ℕ) → n - 0 ≡ n
less_none n = omega arith

both_less : (n f : ℕ) → suc n - suc f ≡ n - f
both_less n f = omega arith

taken_in_parts : {X : Type 0} (xs : List X) (first next : ℕ) → first ≤ next → take next xs ≡ take first xs ++ slice_range xs first next
taken_in_parts [] f n h = take-nil n ∙ sym (ap (λ l. l ++ take (n - f) (drop f [])) (take-nil f) ∙ (ap (take (n - f)) (drop_none f) ∙ take-nil (n - f)))
taken_in_parts (x ∷ xs) zero n h = ap (λ (m : ℕ). take m (x ∷ xs)) (sym (less_none n))
taken_in_parts (x ∷ xs) (suc f) zero h = absurd (omega (arith, h))
taken_in_parts (x ∷ xs) (suc f) (suc n) h = ap (λ l. x ∷ l) (taken_in_parts xs f n (let e : f ≤ n = omega (arith, h) in e)) ∙ ap (λ (m : ℕ). x ∷ (take f xs ++ take m (drop f xs))) (sym (both_less n f))

take_front : {X : Type 0} (xs ys : List X) → take (length xs) (xs ++ ys) ≡ xs
take_front [] ys = refl
take_front (x ∷ xs) ys = ap (λ l. x ∷ l) (take_front xs ys)

-- all places of a list were written
pub written_back : (n : ℕ) (news olds : List Player) → length news ≡ n → take n (news ++ drop (length news) olds) ≡ news
written_back n news olds h = subst (λ (m : ℕ). take m (news ++ drop (length news) olds) ≡ news) h (take_front news (drop (length news) olds))

take_past : {X : Type 0} (xs : List X) (k : ℕ) → length xs ≤ k → take k xs ≡ xs
take_past [] zero h = refl
take_past [] (suc k) h = refl
take_past (x ∷ xs) zero h = absurd (omega (arith, h))
take_past (x ∷ xs) (suc k) h = ap (λ l. x ∷ l) (take_past xs k (let e : length xs ≤ k = omega (arith, h) in e))

no_call : (n : ℕ) (line : LiveLine) → is_barrier line ≡ true → calls_on n line ≡ []
no_call n lines.Nothing h = absurd (let both : false ≡ true = h in cc)
no_call n lines.Barrier h = refl
no_call n lines.Reopen h = refl
no_call n (lines.Calls times asked) h = absurd (let both : false ≡ true = h in cc)

-- a barrier is no call
past_barrier : (n : ℕ) (xs : List LiveLine) (k : ℕ) → ((line : LiveLine) → slice_get xs k ≡ Some line → is_barrier line ≡ true) → calls_of n (take (suc k) xs) ≡ calls_of n (take k xs)
past_barrier n [] zero h = refl
past_barrier n [] (suc k) h = refl
past_barrier n (x ∷ xs) zero h = ap (λ l. l ++ []) (no_call n x (h x refl))
past_barrier n (x ∷ xs) (suc k) h = ap (λ l. calls_on n x ++ l) (past_barrier n xs k h)

-- the lines up to a barrier, and that
pub up_to_barrier : (n : ℕ) (xs : List LiveLine) (first next : ℕ) → first ≤ next → ((line : LiveLine) → slice_get xs next ≡ Some line → is_barrier line ≡ true)
    → calls_of n (take first xs ++ slice_range xs first next) ≡ calls_of n (take (next + 1) xs)
up_to_barrier n xs first next within barrier =
    let after : next + 1 ≡ suc next = omega arith in
    ap (calls_of n) (sym (taken_in_parts xs first next within)) ∙ (sym (past_barrier n xs next barrier) ∙ ap (λ (m : ℕ). calls_of n (take m xs)) (sym after))

-- going on

pub same_player : (p : Player) → IsSamePlayer p p
same_player p = record { id = refl; node = refl; earlier = refl; cell = refl }

pub still_same : (p q r : Player) → IsSamePlayer p q → IsSamePlayer q r → IsSamePlayer p r
still_same p q r a b = record { id = b.id ∙ a.id; node = b.node ∙ a.node; earlier = b.earlier ∙ a.earlier; cell = b.cell ∙ a.cell }

pub plays_none : (p : Player) → PlaysOn p p []
plays_none p reopens before h = subst (HasMade p reopens) (sym (append-nil before)) h

pub plays_then : (p q r : Player) (first later : List Call) → PlaysOn p q first → PlaysOn q r later → PlaysOn p r (first ++ later)
plays_then p q r first later a b reopens before h = subst (HasMade r reopens) (append_assoc before first later) (b reopens (before ++ first) (a reopens before h))

-- one call more
pub made_answered : (p q : Player) (call : Call) (reply : Answer) → IsAnswered p.seat q.seat call reply → q.answers.items ≡ p.answers.items ++ reply ∷ [] → PlaysOn p q (call ∷ [])
made_answered p q call reply is replies reopens before h =
    subst (λ (l : List Answer). HasPlayed (shown q.seat) q.seat.is_lost reopens (before ++ call ∷ []) l) (sym replies)
    (answered_one_more (shown p.seat) p.seat.is_lost reopens before p.answers.items call reply (shown q.seat) q.seat.is_lost is.was_open is.shows h)

pub made_refused : (p q : Player) (call : Call) (refusal : Refusal) → IsLost p.seat q.seat refusal → q.answers.items ≡ p.answers.items ++ answer.Refused refusal ∷ [] → PlaysOn p q (call ∷ [])
made_refused p q call refusal is replies reopens before h =
    subst (λ (l : List Answer). HasPlayed (shown q.seat) q.seat.is_lost reopens (before ++ call ∷ []) l) (sym replies)
    (refused_more (shown p.seat) p.seat.is_lost reopens before p.answers.items call refusal (shown q.seat) q.seat.is_lost is.lost (shown_same p.seat q.seat is.node is.earlier is.seen) is.refused h)

pub made_again : (p q r : Player) (n : ℕ) (call : Call) → PlaysOn p q (replicate n call) → PlaysOn q r (call ∷ []) → PlaysOn p r (replicate (n + 1) call)
made_again p q r n call a b = subst (PlaysOn p r) (sym (replicate_one_more n call)) (plays_then p q r (replicate n call) (call ∷ []) a b)

-- lines with no call of it
none_on : (n : ℕ) (line : LiveLine) → ((times : ℕ) (asked : ClientCall) → line ≡ lines.Calls times asked → ⊥) → calls_on n line ≡ []
none_on n lines.Nothing h = refl
none_on n lines.Barrier h = refl
none_on n lines.Reopen h = refl
none_on n (lines.Calls times asked) h = absurd (h times asked refl)

pub plays_no_call : (p : Player) (line : LiveLine) → ((times : ℕ) (asked : ClientCall) → line ≡ lines.Calls times asked → ⊥) → PlaysOn p p (calls_on p.id.0 line)
plays_no_call p line h = subst (PlaysOn p p) (sym (none_on p.id.0 line h)) (plays_none p)

pub plays_no_other : (p : Player) (line : LiveLine) (times : ℕ) (asked : ClientCall) → line ≡ lines.Calls times asked → (asked.client.0 ≡ p.id.0 → ⊥) → PlaysOn p p (calls_on p.id.0 line)
plays_no_other p line times asked is other =
    let no : (asked.client.0 == p.id.0) ≡ false = grind (arith, nat_tests, other) in
    subst (PlaysOn p p) (sym (ap (calls_on p.id.0) is ∙ ap (λ (b : Bool). if b then replicate times asked.call else []) no)) (plays_none p)

-- and with calls of it
pub its_calls : (n : ℕ) (line : LiveLine) (times : ℕ) (asked : ClientCall) → line ≡ lines.Calls times asked → asked.client.0 ≡ n → replicate times asked.call ≡ calls_on n line
its_calls n line times asked is own_one =
    let yes : (asked.client.0 == n) ≡ true = grind (arith, nat_tests, own_one) in
    sym (ap (calls_on n) is ∙ ap (λ (b : Bool). if b then replicate times asked.call else []) yes)

pub where_ok : {P : Type 0} (r : Result (Unit {0}) NoMemory) → is_err r ≡ false → OnOk r P → P
where_ok (Ok x) none h = h
where_ok (Err e) none h = absurd (let both : true ≡ false = none in cc)

pub one_line : (p q : Player) (line : LiveLine) → IsSamePlayer p q → (q.lacked_memory ≡ false → p.lacked_memory ≡ false) → (q.lacked_memory ≡ false → PlaysOn p q (calls_on p.id.0 line)) → Plays (line ∷ []) p q
one_line p q line same lacked played = record {
  same = same;
  lacked = lacked;
  played = λ h. subst (PlaysOn p q) (sym (append-nil (calls_on p.id.0 line))) (played h);
}

pub nothing_to_play : (p : Player) → Plays [] p p
nothing_to_play p = record { same = same_player p; lacked = λ h. h; played = λ h. plays_none p }

pub plays_lines : (p q r : Player) (xs ys zs : List LiveLine) → ((n : ℕ) → calls_of n (xs ++ ys) ≡ calls_of n zs) → Plays xs p q → Plays ys q r → Plays zs p r
plays_lines p q r xs ys zs same a b = record {
  same = still_same p q r a.same b.same;
  lacked = λ h. a.lacked (b.lacked h);
  played = λ h. subst (PlaysOn p r) calls (plays_then p q r (calls_of p.id.0 xs) (calls_of q.id.0 ys) (a.played (b.lacked h)) (b.played h));
}
  where
    calls : calls_of p.id.0 xs ++ calls_of q.id.0 ys ≡ calls_of p.id.0 zs
    calls = ap (λ (i : ℕ). calls_of p.id.0 xs ++ calls_of i ys) (ap (λ (c : ClientId). c.0) a.same.id) ∙ (sym (calls_append p.id.0 xs ys) ∙ same p.id.0)

-- the next line
pub plays_next : (p q r : Player) (xs : List LiveLine) (k : ℕ) (line : LiveLine) → k < length xs → line ≡ get_or xs k line → Plays (take k xs) p q → Plays (line ∷ []) q r → Plays (take (k + 1) xs) p r
plays_next p q r xs k line within at a b = plays_lines p q r (take k xs) (line ∷ []) (take (k + 1) xs) (λ n. ap (calls_of n) lines_are) a b
  where
    lines_are : take k xs ++ line ∷ [] ≡ take (k + 1) xs
    lines_are =
        let next : k + 1 ≡ suc k = omega arith in
        ap (λ (l : LiveLine). take k xs ++ l ∷ []) at ∙ (sym (take-suc xs k line within) ∙ ap (λ (m : ℕ). take m xs) (sym next))

pub plays_all : (p q : Player) (xs : List LiveLine) (k : ℕ) → length xs ≤ k → Plays (take k xs) p q → Plays xs p q
plays_all p q xs k past h = subst (λ l. Plays l p q) (take_past xs k past) h

-- each thread's calls
pub all_by_threads : (olds news : List Player) (xs : List LiveLine) → length news ≡ length olds → ((k : ℕ) (d : Player) → k < length olds → Plays xs (get_or olds k d) (get_or news k d)) → AllPlay xs olds news
all_by_threads olds news xs same each = (
  same,
  λ k p q at_p at_q.
      subst (λ (x : Player). Plays xs x q) (get_or_from_slice_get olds k p p at_p)
      (subst (λ (y : Player). Plays xs (get_or olds k p) y) (get_or_from_slice_get news k q p at_q) (each k p (slice_get_within olds k p at_p))),
)

-- a call of one thread
pub by_thread : (xs : List LiveLine) (p q before after : Player) → before ≡ p → after ≡ q → Plays xs before after → Plays xs p q
by_thread xs p q before after was is h = subst (λ (x : Player). Plays xs x q) was (subst (λ (y : Player). Plays xs before y) is h)

-- from the first call to the last

new_made : (cell : Identity) (client : ℕ) (p : Player) → IsNewPlayer cell client p → HasMade p 0 []
new_made cell client p new =
    subst (λ (replies : List Answer). HasPlayed (shown p.seat) p.seat.is_lost 0 [] replies) (sym new.answers)
    (subst (λ (s : SeatState). HasPlayed (shown s) s.is_lost 0 [] []) (sym new.seat) nothing_played)

new_called : (cell : Identity) (client : ℕ) (p : Player) → IsNewPlayer cell client p → HasCalled cell 0 [] client p
new_called cell client p new = record {
  id = new.id;
  first = ap (λ (s : SeatState). first_number s.earlier s.node) new.seat;
  few = subst (λ (s : SeatState). length s.earlier ≤ 0) (sym new.seat) (omega arith);
  cell_is = ap (λ (s : SeatState). s.cell) new.seat;
  made = λ none. new_made cell client p new;
}

pub all_new : (cell : Identity) (players : List Player) → Each (IsNewPlayer cell) players → Each (IsPlayed cell []) players
all_new cell players new k p at = new_called cell (suc k) p (new k p at)

-- more calls
called_on : (cell : Identity) (reopens : ℕ) (calls : List Call) (client : ℕ) (p q : Player) (ys : List LiveLine) → HasCalled cell reopens calls client p → Plays ys p q
    → HasCalled cell reopens (calls ++ calls_of client ys) client q
called_on cell reopens calls client p q ys h plays = record {
  id = ap (λ (c : ClientId). c.0) plays.same.id ∙ h.id;
  first = ap (λ (ms : List Node). first_number ms q.seat.node) plays.same.earlier ∙ (ap (first_number p.seat.earlier) plays.same.node ∙ h.first);
  few = subst (λ (ms : List Node). length ms ≤ reopens) (sym plays.same.earlier) h.few;
  cell_is = plays.same.cell ∙ h.cell_is;
  made = λ none. subst (λ (i : ℕ). HasMade q reopens (calls ++ calls_of i ys)) h.id (plays.played none reopens calls (h.made (plays.lacked none)));
}

called_more : (cell : Identity) (reopens more : ℕ) (calls all : List Call) (client : ℕ) (p : Player) → reopens ≤ more → calls ≡ all → HasCalled cell reopens calls client p → HasCalled cell more all client p
called_more cell reopens more calls all client p few same h = record {
  id = h.id;
  first = h.first;
  few = omega (arith, h.few, few);
  cell_is = h.cell_is;
  made = λ none. subst (HasMade p more) same (played_more (shown p.seat) p.seat.is_lost reopens more calls p.answers.items few (h.made none));
}

-- the first number stays, and there is one number more at most
numbers_stay : (cell : Identity) (saw : ℕ) (old new : SeatState) → GoesOver cell (Some saw) old new → (first_number new.earlier new.node ≡ first_number old.earlier old.node) × (length new.earlier ≤ length old.earlier + 1)
numbers_stay cell saw old new over = by_waits old.waits refl
  where
    moved : (ms : List Node) (n m : Node) → first_number (ms ++ n ∷ []) m ≡ first_number ms n
    moved [] n m = refl
    moved (x ∷ xs) n m = refl

    by_waits : (b : Bool) → old.waits ≡ b → (first_number new.earlier new.node ≡ first_number old.earlier old.node) × (length new.earlier ≤ length old.earlier + 1)
    by_waits false calm =
        let stays = over.stays calm in
        (ap (λ (ms : List Node). first_number ms new.node) stays.1 ∙ ap (first_number old.earlier) stays.0, omega (arith, ap length stays.1))
    by_waits true waits =
        let more = over.moves waits in
        (ap (λ (ms : List Node). first_number ms new.node) more ∙ moved old.earlier old.node new.node, omega (arith, ap length more, length-append old.earlier (old.node ∷ [])))

-- the cell was parked and goes on
called_again : (old cell : Identity) (reopens : ℕ) (calls : List Call) (client : ℕ) (p q : Player) → HasCalled old reopens calls client p → Reopens cell p q → HasCalled cell (reopens + 1) calls client q
called_again old cell reopens calls client p q h goes =
    let numbers = numbers_stay cell goes.saw p.seat q.seat goes.over in
    record {
      id = ap (λ (c : ClientId). c.0) goes.id ∙ h.id;
      first = numbers.0 ∙ h.first;
      few = omega (arith, numbers.1, h.few);
      cell_is = goes.over.cell_is;
      made = λ none.
          subst (λ (replies : List Answer). HasPlayed (shown q.seat) q.seat.is_lost (reopens + 1) calls replies) (sym goes.answers)
          (reopened (shown p.seat) p.seat.is_lost reopens calls p.answers.items (shown q.seat) q.seat.is_lost goes.over.shows (h.made (sym goes.lacked ∙ none)));
    }

-- at how many lines

reopens_front : (xs : List LiveLine) (i j : ℕ) → i ≤ j → reopens_in (take i xs) ≤ reopens_in (take j xs)
reopens_front [] i j few = omega (arith, ap reopens_in (take-nil {A = LiveLine} i), ap reopens_in (take-nil {A = LiveLine} j))
reopens_front (x ∷ xs) zero j few = omega arith
reopens_front (x ∷ xs) (suc i) zero few = absurd (omega (arith, few))
reopens_front (x ∷ xs) (suc i) (suc j) few = omega (arith, reopens_front xs i j (let e : i ≤ j = omega (arith, few) in e))

abbrev one_if : Bool → ℕ
one_if b = if b then 1 else 0

reopens_at : (xs : List LiveLine) (i j : ℕ) (line : LiveLine) → i ≤ j → slice_get xs j ≡ Some line → is_reopen line ≡ true → reopens_in (take i xs) + 1 ≤ reopens_in (take (suc j) xs)
reopens_at [] i j line few at is = absurd (let none : None ≡ Some line = at in cc)
reopens_at (x ∷ xs) zero zero line few at is =
    let same : x ≡ line = (let both : Some x ≡ Some line = at in (let e : x ≡ line = cc both in e)) in
    let one : ◌≡◌ {A = ℕ} (if is_reopen x then 1 else 0) 1 = ap one_if (ap is_reopen same ∙ is) in
    omega (arith, one)
reopens_at (x ∷ xs) zero (suc j) line few at is = omega (arith, reopens_at xs zero j line (omega arith) at is)
reopens_at (x ∷ xs) (suc i) zero line few at is = absurd (omega (arith, few))
reopens_at (x ∷ xs) (suc i) (suc j) line few at is = omega (arith, reopens_at xs i j line (let e : i ≤ j = omega (arith, few) in e) at is)

-- the calls up to a barrier
part_called : (n : ℕ) (xs : List LiveLine) (first next : ℕ) → first ≤ next → ((line : LiveLine) → slice_get xs next ≡ Some line → is_barrier line ≡ true)
    → calls_of n (take first xs) ++ calls_of n (slice_range xs first next) ≡ calls_of n (take (next + 1) xs)
part_called n xs first next within barrier = sym (calls_append n (take first xs) (slice_range xs first next)) ∙ up_to_barrier n xs first next within barrier

module _ (cell : Identity) (xs : List LiveLine) (first next : ℕ) (within : first ≤ next) (barrier : (line : LiveLine) → slice_get xs next ≡ Some line → is_barrier line ≡ true) (olds mids : List Player)
    (before : Each (IsPlayed cell (take first xs)) olds) (plays : AllPlay (slice_range xs first next) olds mids) where
  -- each made its calls up to the barrier
  mid_called : (k : ℕ) (q : Player) → slice_get mids k ≡ Some q → HasCalled cell (reopens_in (take first xs)) (calls_of (suc k) (take (next + 1) xs)) (suc k) q
  mid_called k q at =
      let old = was_there olds mids k q plays.0 at in
      subst (λ (calls : List Call). HasCalled cell (reopens_in (take first xs)) calls (suc k) q) (part_called (suc k) xs first next within barrier)
      (called_on cell (reopens_in (take first xs)) (calls_of (suc k) (take first xs)) (suc k) old.0 q (slice_range xs first next) (before k old.0 old.1) (plays.1 k old.0 q old.1 at))

  pub mid_cells : (k : ℕ) (q : Player) → slice_get mids k ≡ Some q → q.seat.cell ≡ cell
  mid_cells k q at = (mid_called k q at).cell_is

  pub passed : Each (IsPlayed cell (take (next + 1) xs)) mids
  passed k q at =
      called_more cell (reopens_in (take first xs)) (reopens_in (take (next + 1) xs)) (calls_of (suc k) (take (next + 1) xs)) (calls_of (suc k) (take (next + 1) xs)) (suc k) q
      (reopens_front xs first (next + 1) (omega (arith, within))) refl (mid_called k q at)

  pub passed_reopen : (new : Identity) (news : List Player) (line : LiveLine) → slice_get xs next ≡ Some line → is_reopen line ≡ true → AllReopen new mids news → Each (IsPlayed new (take (next + 1) xs)) news
  passed_reopen new news line at_line is goes k r at =
      let mid = reopens_each new mids news k r goes at in
      let after : next + 1 ≡ suc next = omega arith in
      let more : reopens_in (take first xs) + 1 ≤ reopens_in (take (next + 1) xs) =
      subst (λ (m : ℕ). reopens_in (take first xs) + 1 ≤ reopens_in (take m xs)) (sym after) (reopens_at xs first next line within at_line is) in
      called_more new (reopens_in (take first xs) + 1) (reopens_in (take (next + 1) xs)) (calls_of (suc k) (take (next + 1) xs)) (calls_of (suc k) (take (next + 1) xs)) (suc k) r more refl
      (called_again cell new (reopens_in (take first xs)) (calls_of (suc k) (take (next + 1) xs)) (suc k) mid.0 r (mid_called k mid.0 mid.1) mid.2)
    where
      reopens_each : (c : Identity) (ps qs : List Player) (i : ℕ) (q : Player) → AllReopen c ps qs → slice_get qs i ≡ Some q → (p : Player) × (slice_get ps i ≡ Some p) × Reopens c p q
      reopens_each c [] [] i q all at_q = absurd (let none : None ≡ Some q = at_q in cc)
      reopens_each c [] (y ∷ ys) i q all at_q = absurd all
      reopens_each c (x ∷ xs') [] i q all at_q = absurd all
      reopens_each c (x ∷ xs') (y ∷ ys) zero q all at_q =
          let same : y ≡ q = (let both : Some y ≡ Some q = at_q in (let e : y ≡ q = cc both in e)) in
          (x, refl, subst (Reopens c x) same all.0)
      reopens_each c (x ∷ xs') (y ∷ ys) (suc i) q all at_q = reopens_each c xs' ys i q all.1 at_q

pub all_named : (cell : Identity) (players : List Player) → ((k : ℕ) (p : Player) → slice_get players k ≡ Some p → p.seat.cell ≡ cell)
    → All (λ (s : SeatState). s.cell.name ≡ cell.name) (map (λ (p : Player). p.seat) players)
all_named cell players same =
    All-map (λ (s : SeatState). s.cell.name ≡ cell.name) (λ (p : Player). p.seat) players
    (λ k d below. ap (λ (c : Identity). c.name) (same k (get_or players k d) (slice_get-get_or players k d below)))

pub played_cells : (cell : Identity) (xs : List LiveLine) (players : List Player) → Each (IsPlayed cell xs) players → (k : ℕ) (p : Player) → slice_get players k ≡ Some p → p.seat.cell ≡ cell
played_cells cell xs players all k p at = (all k p at).cell_is

pub reopen_count : (cell : Identity) (olds news : List Player) → AllReopen cell olds news → length news ≡ length olds
reopen_count cell [] [] all = refl
reopen_count cell [] (y ∷ ys) all = absurd all
reopen_count cell (x ∷ xs) [] all = absurd all
reopen_count cell (x ∷ xs) (y ∷ ys) all = ap (λ (k : ℕ). suc k) (reopen_count cell xs ys all.1)

pub same_reopened : (one two three : Identity) → IsReopened one two → IsReopened two three → IsReopened one three
same_reopened one two three a b = record { config_is = b.config_is ∙ a.config_is; servers_are = b.servers_are ∙ a.servers_are; clients_are = b.clients_are ∙ a.clients_are }

pub still_one : (cell : Identity) → IsReopened cell cell
still_one cell = record { config_is = refl; servers_are = refl; clients_are = refl }

-- a barrier was passed, and the cell may have been parked at it
pub barrier_passed : (cell new : Identity) (xs : List LiveLine) (first next : ℕ) (olds mids news : List Player) (b : Bool) → first ≤ next → ((line : LiveLine) → slice_get xs next ≡ Some line → is_barrier line ≡ true)
    → Each (IsPlayed cell (take first xs)) olds → AllPlay (slice_range xs first next) olds mids → (b ≡ true → (line : LiveLine) × (slice_get xs next ≡ Some line) × (is_reopen line ≡ true))
    → (b ≡ false → (new ≡ cell) × (news ≡ mids)) → (b ≡ true → IsReopened cell new × AllReopen new mids news)
    → IsReopened cell new × (length news ≡ length olds) × Each (IsPlayed new (take (next + 1) xs)) news
barrier_passed cell new xs first next olds mids news false within barrier before plays at stays goes =
    let same = stays refl in (
      subst (IsReopened cell) (sym same.0) (still_one cell),
      ap length same.1 ∙ plays.0,
      subst (λ (i : Identity). Each (IsPlayed i (take (next + 1) xs)) news) (sym same.0)
          (subst (λ (l : List Player). Each (IsPlayed cell (take (next + 1) xs)) l) (sym same.1) (passed cell xs first next within barrier olds mids before plays)),
    )
barrier_passed cell new xs first next olds mids news true within barrier before plays at stays goes =
    let over = goes refl in
    let line = at refl in (
      over.0,
      reopen_count new mids news over.1 ∙ plays.0,
      passed_reopen cell xs first next within barrier olds mids before plays new news line.0 line.1 line.2 over.1,
    )

pub all_lines : (cell : Identity) (players : List Player) (xs : List LiveLine) (k : ℕ) → length xs ≤ k → Each (IsPlayed cell (take k xs)) players → Each (IsPlayed cell xs) players
all_lines cell players xs k past all = subst (λ (l : List LiveLine). Each (IsPlayed cell l) players) (take_past xs k past) all

-- seats that went over, each with its client
count_over : (cell : Identity) (parked : List ParkedSeatState) (news : List SeatState) → AllGoOver cell parked news → length news ≡ length parked
count_over cell [] [] over = refl
count_over cell [] (n ∷ ns) over = absurd over
count_over cell (s ∷ ss) [] over = absurd over
count_over cell (s ∷ ss) (n ∷ ns) over = ap (λ (k : ℕ). suc k) (count_over cell ss ns over.1)

-- there is a seat for each
pub over_count : (cell : Identity) (parked : List ParkedSeatState) (news : List SeatState) (olds : List Player) (rests : List Unseated) → AllGoOver cell parked news → map (λ s. s.seat) parked ≡ map (λ p. p.seat) olds
    → rests ≡ map rest_of olds → length news ≡ length rests
over_count cell parked news olds rests over same are =
    omega (arith, count_over cell parked news over, length-map parked (λ (s : ParkedSeatState). s.seat), length-map olds (λ (p : Player). p.seat), ap length same, ap length are, length-map olds rest_of)

pub all_reopen : (cell : Identity) (olds : List Player) (parked : List ParkedSeatState) (news : List SeatState) → map (λ s. s.seat) parked ≡ map (λ p. p.seat) olds → All (λ s. IsSome s.saw) parked → AllGoOver cell parked news
    → AllReopen cell olds (seated (map rest_of olds) news)
all_reopen cell [] [] [] same saw over = tt
all_reopen cell [] [] (n ∷ ns) same saw over = absurd over
all_reopen cell [] (s ∷ ss) news same saw over = absurd (let both : s.seat ∷ map (λ x. x.seat) ss ≡ [] = same in cc)
all_reopen cell (p ∷ ps) [] news same saw over = absurd (let both : [] ≡ p.seat ∷ map (λ x. x.seat) ps = same in cc)
all_reopen cell (p ∷ ps) (s ∷ ss) [] same saw over = absurd over
all_reopen cell (p ∷ ps) (s ∷ ss) (n ∷ ns) same saw over =
    let both : s.seat ∷ map (λ x. x.seat) ss ≡ p.seat ∷ map (λ x. x.seat) ps = same in
    let head : s.seat ≡ p.seat = cc both in
    let tail : map (λ x. x.seat) ss ≡ map (λ x. x.seat) ps = cc both in
    (one s.saw (All-head (λ x. IsSome x.saw) s ss saw) (subst (λ (x : SeatState). GoesOver cell s.saw x n) head over.0), all_reopen cell ps ss ns tail (All-tail (λ x. IsSome x.saw) s ss saw) over.1)
  where
    one : (o : Option ℕ) → IsSome o → GoesOver cell o p.seat n → Reopens cell p (player_of (rest_of p) n)
    one None some over = absurd (let both : false ≡ true = some in cc)
    one (Some k) some over = record { id = refl; answers = refl; lacked = refl; saw = k; over = over }

-- of beginnings of a journal the longest

-- what all of these clients of a cell saw begins this beginning of the journal
record IsLongest (cell : Identity) (players : List Player) (entries longest : List Entry) : Type 0 where
  pub begins : IsPrefix longest entries
  pub lawful : IsHistoryOf cell longest
  pub clocks : IsTrue (are_clocks_kept cell longest)
  pub explained : AreExplained cell.config longest
  pub all : (k : ℕ) (p : Player) → slice_get players k ≡ Some p → IsPrefix p.seat.seen longest

abbrev AllSeenPart : Identity → List Player → List Entry → Type 0
AllSeenPart cell players entries = (k : ℕ) (p : Player) → slice_get players k ≡ Some p → (p.seat.cell ≡ cell) × HasSeenPart entries p.seat

-- before any client saw something
longest_of_none : (cell : Identity) (entries : List Entry) → first_out_of_range cell.config ≡ None → IsLongest cell [] entries []
longest_of_none cell entries in_range = record {
  begins = (entries, refl);
  lawful = none_lawful cell;
  clocks = refl;
  explained = explains cell [] in_range (none_lawful cell) refl;
  all = λ k p at. absurd (let none : None ≡ Some p = at in cc);
}

-- what one more saw, where it saw the most
first_longest : (cell : Identity) (p : Player) (ps : List Player) (entries : List Entry) → p.seat.cell ≡ cell → HasSeenPart entries p.seat
    → ((k : ℕ) (q : Player) → slice_get ps k ≡ Some q → IsPrefix q.seat.seen p.seat.seen) → IsLongest cell (p ∷ ps) entries p.seat.seen
first_longest cell p ps entries same part rest = record {
  begins = part.begins;
  lawful = subst (λ (i : Identity). IsHistoryOf i p.seat.seen) same part.lawful;
  clocks = subst (λ (i : Identity). IsTrue (are_clocks_kept i p.seat.seen)) same part.clocks;
  explained = subst (λ (i : Identity). AreExplained i.config p.seat.seen) same part.explained;
  all = each;
}
  where
    each : (k : ℕ) (q : Player) → slice_get (p ∷ ps) k ≡ Some q → IsPrefix q.seat.seen p.seat.seen
    each zero q at =
        let same_one : p ≡ q = (let both : Some p ≡ Some q = at in cc) in
        subst (λ (x : Player). IsPrefix x.seat.seen p.seat.seen) same_one (prefix_self p.seat.seen)
    each (suc k) q at = rest k q at

-- or what another one saw
later_longest : (cell : Identity) (p : Player) (ps : List Player) (entries longest : List Entry) → HasSeenPart entries p.seat → IsLongest cell ps entries longest → length p.seat.seen ≤ length longest
    → IsLongest cell (p ∷ ps) entries longest
later_longest cell p ps entries longest part is shorter = record { begins = is.begins; lawful = is.lawful; clocks = is.clocks; explained = is.explained; all = each }
  where
    each : (k : ℕ) (q : Player) → slice_get (p ∷ ps) k ≡ Some q → IsPrefix q.seat.seen longest
    each zero q at =
        let same_one : p ≡ q = (let both : Some p ≡ Some q = at in cc) in
        subst (λ (x : Player). IsPrefix x.seat.seen longest) same_one (prefix_shorter p.seat.seen longest entries part.begins is.begins shorter)
    each (suc k) q at = is.all k q at

longer : (cell : Identity) (p : Player) (ps : List Player) (entries longest : List Entry) → p.seat.cell ≡ cell → HasSeenPart entries p.seat → IsLongest cell ps entries longest
    → (b : Bool) → nat_le (length p.seat.seen) (length longest) ≡ b → (more : List Entry) × IsLongest cell (p ∷ ps) entries more
longer cell p ps entries longest same part is true less =
    let e : length p.seat.seen ≤ length longest = grind (arith, nat_tests, less) in (longest, later_longest cell p ps entries longest part is e)
longer cell p ps entries longest same part is false past =
    let e : length longest ≤ length p.seat.seen = grind (arith, nat_tests, past) in (
      p.seat.seen,
      first_longest cell p ps entries same part (λ k q at. prefix_trans q.seat.seen longest p.seat.seen (is.all k q at) (prefix_shorter longest p.seat.seen entries is.begins part.begins e)),
    )

longest_of : (cell : Identity) (players : List Player) (entries : List Entry) → first_out_of_range cell.config ≡ None → AllSeenPart cell players entries → (longest : List Entry) × IsLongest cell players entries longest
longest_of cell [] entries in_range all = ([], longest_of_none cell entries in_range)
longest_of cell (p ∷ ps) entries in_range all =
    let found = longest_of cell ps entries in_range (λ k q at. all (suc k) q at) in
    let here = all zero p refl in
    longer cell p ps entries found.0 here.0 here.1 found.1 (nat_le (length p.seat.seen) (length found.0)) refl

-- what the journal has of them
told_by_longest : (options : Options) (cell : Identity) (journal : Closed) (longest : List Entry) (xs : List LiveLine) (players : List Player) → IsCellOf options.config options.servers cell → length players ≡ options.clients
    → Each (IsPlayed cell xs) players → ((k : ℕ) (p : Player) → slice_get players k ≡ Some p → p.lacked_memory ≡ false) → journal.cell ≡ cell → IsLongest cell players (whole_of journal) longest
    → AreAnswersIn options xs journal (map (λ p. p.answers.items) players)
told_by_longest options cell journal longest xs players cell_is count all lacked same is = (
  record {
    cell = cell;
    cell_is = cell_is;
    entries = longest;
    lawful = is.lawful;
    clocks = is.clocks;
    explained = is.explained;
    clients = mapped_length players ∙ count;
    each = λ k replies at.
        let found = mapped_at (λ (p : Player). p.answers.items) players k replies at in
        let played = all k found.0 found.1 in
        record {
          seen = found.0.seat.seen;
          begins = is.all k found.0 found.1;
          earlier = found.0.seat.earlier;
          now = found.0.seat.node;
          first = played.first;
          few = played.few;
          answered = subst (AreAnswered (shown found.0.seat) (reopens_in xs) (calls_of (suc k) xs)) found.2
              (played_whole (shown found.0.seat) found.0.seat.is_lost (reopens_in xs) (calls_of (suc k) xs) found.0.answers.items (played.made (lacked k found.0 found.1)));
        };
  },
  sym same,
  is.begins,
)
  where
    mapped_length : (ps : List Player) → length (map (λ (p : Player). p.answers.items) ps) ≡ length ps
    mapped_length [] = refl
    mapped_length (p ∷ ps) = ap (λ (k : ℕ). suc k) (mapped_length ps)

pub told_so : (options : Options) (cell : Identity) (journal : Closed) (xs : List LiveLine) (players : List Player) → IsCellOf options.config options.servers cell → length players ≡ options.clients
    → Each (IsPlayed cell xs) players → ((k : ℕ) (p : Player) → slice_get players k ≡ Some p → p.lacked_memory ≡ false) → journal.cell ≡ cell
    → ((k : ℕ) (p : Player) → slice_get players k ≡ Some p → HasSeenPart (whole_of journal) p.seat) → AreAnswersIn options xs journal (map (λ p. p.answers.items) players)
told_so options cell journal xs players cell_is count all lacked same parts =
    let in_range : first_out_of_range cell.config ≡ None = subst (λ (x : Config). first_out_of_range x ≡ None) (sym cell_is.config_is) cell_is.in_range in
    let found = longest_of cell players (whole_of journal) in_range (λ k q at. ((all k q at).cell_is, parts k q at)) in
    told_by_longest options cell journal found.0 xs players cell_is count all lacked same found.1

-- a cell that goes on is as its first one
pub still_of : (config : Config) (servers : ℕ) (old new : Identity) → IsReopened old new → IsCellOf config servers old → IsCellOf config servers new
still_of config servers old new same is = record {
  in_range = is.in_range;
  config_is = same.config_is ∙ is.config_is;
  servers_are = same.servers_are ∙ is.servers_are;
  clients_are = same.clients_are ∙ is.clients_are;
}
