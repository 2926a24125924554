-- What was answered stays: settled entries keep their places, and answered records share no place of their file.
use Rattle.std.proofs.Common.{◌≡◌, ℕ, zero, suc, ◌+◌, ◌*◌, ◌<◌, ◌≤◌, ◌⊎◌, List, [], ◌∷◌, length, Option, Some, None, refl, sym, ◌∙◌, ap, subst, inl, inr, ⊎_elim, arith, mul-le-mul_right}
use Rattle.std.specs.Prelude.{IsTrue, IfSome, IsSomeAnd, Contains, slice_get}
use Rattle.std.specs.List.{AllByRecursion}
use Rattle.std.proofs.lemmas.Bool.{and_parts, eqb-true, cases_lt, cases_eq}
use Rattle.std.proofs.lemmas.Option.{none-some, slice_get_read}
use Rattle.gfs_types.specs.declared.call.Call.TheVariants as call
use Rattle.gfs_types.specs.declared.answer.Answer.{Answer}
use Rattle.gfs_types.specs.declared.answer.Answer.TheVariants as answer
use Rattle.gfs_types.specs.declared.ids.Fd.{Fd}
use Rattle.gfs_types.specs.declared.config.Config.{Config}
use Rattle.gfs_types.specs.declared.shape.Shape.{Shape}
use Rattle.gfs_types.specs.declared.mutation.Mutation.{Mutation}
use Rattle.gfs_types.specs.declared.mutation.Mutation.TheVariants.{Write, Append, Pad}
use Rattle.gfs_types.specs.Mutations.{start_of, end_of, is_placed_by_system}
use Rattle.relaxed_file.specs.Order.{Entry, CallId, same_call}
use Rattle.relaxed_file.specs.Parts.{has_part, part_start, part_bytes}
use Rattle.relaxed_file.specs.Machine.{Machine, new_machine, Client, Asked, OpenCall, IsOpen, chunk_size, chunk_at, chunk_count}
use Rattle.relaxed_file.specs.Answers.{IsSuccess, HasSuccess, IsWrite, IsAppendAt, IsDone, MayReturn, returned}
use Rattle.relaxed_file.specs.Run.{Return, Allows, after, LeadsTo, IsReached}
use Rattle.relaxed_file.specs.RunLaws.{IsAskedOf, WasAskedFor, StandsAt, MayAnswer, SettledEntriesStay, AnsweredAppendsStay, AnsweredWritesStay, AnsweredOffsetsDiffer, LiePastSettled}
use Rattle.relaxed_file.proofs.Tables.{contained, from_some, put_same, at_some}
use Rattle.relaxed_file.proofs.Reached.{leads_on, leads_by}
use Rattle.relaxed_file.proofs.Known.{Known, known_step, made_by_count}
use Rattle.relaxed_file.proofs.Grows.{Grows, EntryGrows, OrderGrows, OpenGrows, IsSameCall, grows_to, known_when_reached}
use Rattle.relaxed_file.proofs.AskedFor.{entries_were_asked_for, open_is_made}
use Rattle.relaxed_file.proofs.Apart.{appends_lie_apart}
use Rattle.relaxed_file.proofs.ShapesKept.{shapes_stay}

settled_same : (e f : Entry) → EntryGrows e f → IsTrue e.settled → f ≡ e
settled_same e f g s = λ i. record { call = (sym g.0) i; round = (sym g.1) i; mutation = (sym g.2) i; settled = (g.3 s ∙ sym s) i }

pub settled_stays : (old new : List Entry) (place : ℕ) (e : Entry) → OrderGrows old new → slice_get old place ≡ Some e → IsTrue e.settled → slice_get new place ≡ Some e
settled_stays [] new place e g is s = absurd (none-some e is)
settled_stays (x ∷ old) [] place e g is s = absurd g
settled_stays (x ∷ old) (y ∷ new) zero e g is s =
    let same : x ≡ e = from_some is in
    ap Some (settled_same e y (subst (λ w. EntryGrows w y) same g.0) s)
settled_stays (x ∷ old) (y ∷ new) (suc place) e g is s = settled_stays old new place e g.1 is s

pub settled_entries_stay : SettledEntriesStay
settled_entries_stay config m n reached way file index place e is s =
    settled_stays _ _ place e (((grows_to m n way (known_when_reached config m reached)).files file).chunks index).order is s

-- an element by its index
pub found_at : {A : Type 0} (xs : List A) (x : A) (there : Contains xs x) → slice_get xs there.0 ≡ Some x
found_at xs x there = slice_get_read xs (length xs) there.0 x refl there.1 (sym there.2)

pub same_id : (a b : CallId) → IsTrue (same_call a b) → a ≡ b
same_id a b h = let both = and_parts _ _ h in λ i. record { client = (eqb-true a.client b.client both.0) i; number = (eqb-true a.number b.number both.1) i }

-- a success of a call is what the call asked for
pub success_asked : (config : Config) (m : Machine) (client : ℕ) (current : OpenCall) (file index noted : ℕ) (e : Entry)
    → IsReached config m → IsOpen m client current → Contains (chunk_at m file index).order e → IsSuccess (record { client = client; number = current.number }) noted e
    → IsAskedOf (chunk_size m file) index current.asked.call e.mutation
success_asked config m client current file index noted e reached is_open there success =
    let known : Known m = known_when_reached config m reached in
    let asked : WasAskedFor m file index e = contained (WasAskedFor m file index) _ e (entries_were_asked_for config m reached file index) there in
    let made : (m.clients client).calls current.number ≡ Some current.asked = open_is_made m client current known is_open in
    let id : record { client = client; number = current.number } ≡ e.call = same_id _ e.call success.0 in
    let found : (m.clients client).calls current.number ≡ Some asked.0 = subst (λ (c : CallId). (m.clients c.client).calls c.number ≡ Some asked.0) (sym id) asked.1 in
    let same : asked.0 ≡ current.asked = from_some (sym found ∙ made) in
    subst (λ (a : Asked). IsAskedOf (chunk_size m file) index a.call e.mutation) same asked.2

-- the append that a success is
append_is : (size index offset : ℕ) (fd : Fd) (bytes : List ℕ) (mutation : Mutation) → IsAskedOf size index (call.Append fd bytes) mutation → IsAppendAt offset mutation
    → (mutation ≡ Append offset bytes) × (offset + length bytes ≤ size)
append_is size index offset fd bytes (Append at content) asked is =
    ((λ i. Append (is i) (asked.0 i)), (let l : at + length bytes ≤ size = asked.1 in let same : at ≡ offset = is in omega arith))
append_is size index offset fd bytes (Write at content) asked is = absurd is
append_is size index offset fd bytes (Pad at end) asked is = absurd is

write_is : (size index offset : ℕ) (fd : Fd) (bytes : List ℕ) (mutation : Mutation) → IsAskedOf size index (call.Write fd offset bytes) mutation → IsWrite mutation
    → mutation ≡ Write (part_start size offset index) (part_bytes size offset bytes index)
write_is size index offset fd bytes (Write at content) asked is = λ i. Write (asked.0 i) (asked.1 i)
write_is size index offset fd bytes (Append at content) asked is = absurd is
write_is size index offset fd bytes (Pad at end) asked is = absurd is

-- an entry that is settled now stands in every later state
pub stands_later : (config : Config) (m n : Machine) (file index place : ℕ) (e : Entry) (mutation : Mutation)
    → IsReached config m → LeadsTo m n → slice_get (chunk_at m file index).order place ≡ Some e → IsTrue e.settled → e.mutation ≡ mutation → StandsAt n file index place mutation
stands_later config m n file index place e mutation reached way is s what =
    subst (λ (o : Option Entry). IsSomeAnd o (λ f. IsTrue f.settled × (f.mutation ≡ mutation))) (sym (settled_entries_stay config m n reached way file index place e is s)) (s, what)

-- an answered append, by its entry
pub record AnsweredAppend (config : Config) (m : Machine) (client file : ℕ) (bytes : List ℕ) (x : ℕ) : Type 0 where
  pub current : OpenCall
  pub open_now : IsOpen m client current
  pub index : ℕ
  pub offset : ℕ
  pub is : x ≡ index * chunk_size m file + offset
  pub entry : Entry
  pub there : Contains (chunk_at m file index).order entry
  pub call_is : entry.call ≡ record { client = client; number = current.number }
  pub settled : IsTrue entry.settled
  pub what : entry.mutation ≡ Append offset bytes
  pub room : offset + length bytes ≤ chunk_size m file
  pub has_chunk : index < chunk_count m file
  pub noted : ℕ
  pub note_is : (m.clients client).notes file index ≡ Some noted
  pub success : IsSuccess (record { client = client; number = current.number }) noted entry

pub answered : (config : Config) (m : Machine) (client file : ℕ) (fd : Fd) (bytes : List ℕ) (x : ℕ) → IsReached config m
    → MayAnswer m client file (call.Append fd bytes) (answer.At x) → AnsweredAppend config m client file bytes x
answered config m client file fd bytes x reached a =
    let current : OpenCall = a.0 in
    let done : IsDone m client current (call.Append fd bytes) (answer.At x) = subst (λ c. IsDone m client current c (answer.At x)) a.3 a.4 in
    let same : done.0 ≡ file = from_some (sym done.1 ∙ a.2) in
    let found : HasSuccess m client (record { client = client; number = current.number }) file done.2 (IsAppendAt done.3) =
    subst (λ f. HasSuccess m client (record { client = client; number = current.number }) f done.2 (IsAppendAt done.3)) same done.6 in
    let asked : IsAskedOf (chunk_size m file) done.2 (call.Append fd bytes) (found.2).mutation =
    subst (λ c. IsAskedOf (chunk_size m file) done.2 c (found.2).mutation) a.3 (success_asked config m client current file done.2 found.0 found.2 reached a.1 found.3 found.4) in
    let both = append_is (chunk_size m file) done.2 done.3 fd bytes (found.2).mutation asked found.5 in
    record {
      current = current;
      open_now = a.1;
      index = done.2;
      offset = done.3;
      is = subst (λ f. x ≡ done.2 * chunk_size m f + done.3) same done.4;
      entry = found.2;
      there = found.3;
      call_is = sym (same_id _ _ (found.4).0);
      settled = (found.4).1;
      what = both.0;
      room = both.1;
      has_chunk = subst (λ f. done.2 < chunk_count m f) same done.5;
      noted = found.0;
      note_is = found.1;
      success = found.4;
    }

pub answered_appends_stay : AnsweredAppendsStay
answered_appends_stay config m client file fd bytes x reached a =
    let it : AnsweredAppend config m client file bytes x = answered config m client file fd bytes x reached a in (
      it.index,
      it.offset,
      it.there.0,
      it.is,
      it.room,
      λ n way.
          stands_later config m n file it.index it.there.0 it.entry (Append it.offset bytes) reached
          (leads_on m _ n (leads_by m (Return client (answer.At x)) (it.current, it.open_now, subst (λ c. MayReturn m client c (answer.At x)) (from_some (sym a.1 ∙ it.open_now)) a.4)) way)
          (found_at _ it.entry it.there) it.settled it.what,
    )

pub answered_writes_stay : AnsweredWritesStay
answered_writes_stay config m client file fd offset bytes index reached a part =
    let current : OpenCall = a.0 in
    let done : IsDone m client current (call.Write fd offset bytes) answer.Done = subst (λ c. IsDone m client current c answer.Done) a.3 a.4 in
    let each : (i : ℕ) → IsTrue (has_part (chunk_size m file) offset (length bytes) i) → HasSuccess m client (record { client = client; number = current.number }) file i IsWrite =
    subst (λ (o : Option ℕ). IfSome o (λ f. (i : ℕ) → IsTrue (has_part (chunk_size m f) offset (length bytes) i) → HasSuccess m client (record { client = client; number = current.number }) f i IsWrite)) a.2 done.0 in
    let found : HasSuccess m client (record { client = client; number = current.number }) file index IsWrite = each index part in
    let asked : IsAskedOf (chunk_size m file) index (call.Write fd offset bytes) (found.2).mutation =
    subst (λ c. IsAskedOf (chunk_size m file) index c (found.2).mutation) a.3 (success_asked config m client current file index found.0 found.2 reached a.1 found.3 found.4) in (
      (found.3).0,
      λ n way.
          stands_later config m n file index (found.3).0 found.2 _ reached (leads_on m _ n (leads_by m (Return client answer.Done) (current, a.1, a.4)) way)
          (found_at _ found.2 found.3) (found.4).1 (write_is (chunk_size m file) index offset fd bytes (found.2).mutation asked found.5),
    )

-- two entries of an order, the first of them settled and the second an append
past_in_rest : (P : Entry → Type 0) (order : List Entry) (k : ℕ) (f : Entry) → AllByRecursion P order → slice_get order k ≡ Some f → P f
past_in_rest P [] k f all is = absurd (none-some f is)
past_in_rest P (x ∷ rest) zero f all is = subst P (from_some is) all.0
past_in_rest P (x ∷ rest) (suc k) f all is = past_in_rest P rest k f all.1 is

earlier_first : (order : List Entry) (j k : ℕ) (e f : Entry) → LiePastSettled order → j < k → slice_get order j ≡ Some e → slice_get order k ≡ Some f
    → IsTrue e.settled → IsTrue (is_placed_by_system f.mutation) → end_of e.mutation ≤ start_of f.mutation
earlier_first [] j k e f past l one two s placed = absurd (none-some e one)
earlier_first (x ∷ rest) zero (suc k) e f past l one two s placed =
    past_in_rest (λ g. IsTrue (is_placed_by_system g.mutation) → end_of e.mutation ≤ start_of g.mutation) rest k f
    (subst (λ (w : Entry). AllByRecursion (λ g. IsTrue (is_placed_by_system g.mutation) → end_of w.mutation ≤ start_of g.mutation) rest) (from_some one)
    (past.0 (subst (λ (w : Entry). IsTrue w.settled) (sym (from_some one)) s))) two placed
earlier_first (x ∷ rest) (suc j) (suc k) e f past l one two s placed = earlier_first rest j k e f past.1 (omega arith) one two s placed
earlier_first (x ∷ rest) j zero e f past l one two s placed = absurd (omega arith)

-- by their settled appends
past_append : (order : List Entry) (j k : ℕ) (e f : Entry) (a b : ℕ) (one two : List ℕ) → LiePastSettled order → j < k → slice_get order j ≡ Some e → slice_get order k ≡ Some f
    → IsTrue e.settled → e.mutation ≡ Append a one → f.mutation ≡ Append b two → a + length one ≤ b
past_append order j k e f a b one two past l at_j at_k s what_e what_f =
    let lies : end_of e.mutation ≤ start_of f.mutation = earlier_first order j k e f past l at_j at_k s (ap is_placed_by_system what_f) in
    let end_is : end_of e.mutation ≡ a + length one = ap end_of what_e in
    let start_is : start_of f.mutation ≡ b = ap start_of what_f in
    omega (arith, lies, end_is, start_is)

-- chunks of different indexes lie apart
apart_by_index : (size i j a b count : ℕ) → i < j → a + count ≤ size → i * size + a + count ≤ j * size + b
apart_by_index size i j a b count l room =
    let more : suc i * size ≤ j * size = mul-le-mul_right size l in
    let step : suc i * size ≡ i * size + size = omega arith in
    omega arith

-- after its answer the client has no open call
pub closed_after : (m : Machine) (client : ℕ) (c : OpenCall) (reply : Answer) → IsOpen m client c
    → (((after m (Return client reply)).clients client).open_call ≡ None) × (((after m (Return client reply)).clients client).call_count ≡ (m.clients client).call_count)
closed_after m client c reply is =
    at_some (λ k. ((k.clients client).open_call ≡ None) × ((k.clients client).call_count ≡ (m.clients client).call_count)) (λ current. returned m client current reply) m _ c is
    (ap (λ (s : Client). s.open_call) (put_same client _ m.clients), ap (λ (s : Client). s.call_count) (put_same client _ m.clients))

-- a call that is open has one of the client's numbers
pub number_used : (m : Machine) (client : ℕ) (c : OpenCall) → Known m → IsOpen m client c → c.number ≤ (m.clients client).call_count
number_used m client c known is = ⊎_elim
    (λ late. absurd (none-some _ (sym ((known.clients client).no_more_calls c.number late) ∙ open_is_made m client c known is)))
    (λ used. used) (cases_lt (m.clients client).call_count c.number)

newer_number : (count : ℕ) (old : Option OpenCall) (d : OpenCall) → old ≡ None → OpenGrows count old (Some d) → count < d.number
newer_number count old d is h = ⊎_elim (λ late. late) (λ same. absurd (subst (λ o. IsSameCall o d) is same)) h

-- a call that the client makes after an answer has another number
pub later_number : (m n : Machine) (client : ℕ) (c d : OpenCall) (reply : Answer) → Known m → IsOpen m client c → Allows m (Return client reply)
    → LeadsTo (after m (Return client reply)) n → IsOpen n client d → c.number < d.number
later_number m n client c d reply known open_c allowed way open_d =
    let grown : Grows (after m (Return client reply)) n = grows_to _ n way (known_step m (Return client reply) allowed known) in
    let closed : (((after m (Return client reply)).clients client).open_call ≡ None) × (((after m (Return client reply)).clients client).call_count ≡ (m.clients client).call_count) = closed_after m client c reply open_c in
    let newer : ((after m (Return client reply)).clients client).call_count < d.number = newer_number _ _ d closed.0
    (subst (λ o. OpenGrows ((after m (Return client reply)).clients client).call_count ((after m (Return client reply)).clients client).open_call o) open_d (grown.clients client).open_call) in
    let used : c.number ≤ (m.clients client).call_count = number_used m client c known open_c in
    omega (arith, newer, closed.1, used)

-- two answered records of one chunk
module _ (config : Config) (m n : Machine) (client other file : ℕ) (fd fe : Fd) (one two : List ℕ) (x y : ℕ)
    (reached : IsReached config m) (a : MayAnswer m client file (call.Append fd one) (answer.At x))
    (way : LeadsTo (after m (Return client (answer.At x))) n) (b : MayAnswer n other file (call.Append fe two) (answer.At y)) where
  first : AnsweredAppend config m client file one x
  first = answered config m client file fd one x reached a

  returns : Allows m (Return client (answer.At x))
  returns = (a.0, a.1, a.4)

  whole : LeadsTo m n
  whole = leads_on m _ n (leads_by m (Return client (answer.At x)) returns) way

  reached_later : IsReached config n
  reached_later = leads_on (new_machine config) m n reached whole

  second : AnsweredAppend config n other file two y
  second = answered config n other file fe two y reached_later b

  first_there : slice_get (chunk_at n file first.index).order first.there.0 ≡ Some first.entry
  first_there = settled_entries_stay config m n reached whole file first.index first.there.0 first.entry (found_at _ first.entry first.there) first.settled

  second_there : slice_get (chunk_at n file second.index).order second.there.0 ≡ Some second.entry
  second_there = found_at _ second.entry second.there

  -- the file was made, so that it keeps its size
  abbrev size : ℕ
  size = chunk_size m file

  size_is : chunk_size n file ≡ size
  size_is = ap (λ (shape : Shape). shape.chunk) (shapes_stay config m n file reached whole (made_by_count m file first.index (known_when_reached config m reached) first.has_chunk))

  second_is : y ≡ second.index * size + second.offset
  second_is = second.is ∙ ap (λ s. second.index * s + second.offset) size_is

  second_room : second.offset + length two ≤ size
  second_room = let room = second.room in omega (arith, room, size_is)

  in_one_chunk : first.index ≡ second.index → (x + length one ≤ y) ⊎ (y + length two ≤ x)
  in_one_chunk same =
      let at_first : slice_get (chunk_at n file second.index).order first.there.0 ≡ Some first.entry =
      subst (λ i. slice_get (chunk_at n file i).order first.there.0 ≡ Some first.entry) same first_there in
      let lie : LiePastSettled (chunk_at n file second.index).order = appends_lie_apart config n reached_later file second.index in
      let x_is : x ≡ second.index * size + first.offset = subst (λ i. x ≡ i * size + first.offset) same first.is in
      let y_is : y ≡ second.index * size + second.offset = second_is in
      elim (cases_lt first.there.0 second.there.0) [
        | inl before ↦ inl (let l : first.offset + length one ≤ second.offset = past_append _ first.there.0 second.there.0 first.entry second.entry first.offset second.offset one two lie before at_first second_there first.settled first.what second.what in omega (arith, l, x_is, y_is))
        | inr after ↦ elim (cases_lt second.there.0 first.there.0) [
          | inl behind ↦ inr (let l : second.offset + length two ≤ first.offset = past_append _ second.there.0 first.there.0 second.entry first.entry second.offset first.offset two one lie behind second_there at_first second.settled second.what first.what in omega (arith, l, x_is, y_is))
          | inr before ↦ absurd (
              let place : first.there.0 ≡ second.there.0 = omega arith in
              let entry : first.entry ≡ second.entry = from_some (sym at_first ∙ subst (λ k. slice_get (chunk_at n file second.index).order k ≡ Some second.entry) (sym place) second_there) in
              let id : record { client = client; number = (first.current).number } ≡ record { client = other; number = (second.current).number } = sym first.call_is ∙ ap (λ (e : Entry). e.call) entry ∙ second.call_is in
              let owner : other ≡ client = ap (λ (c : CallId). c.client) (sym id) in
              let number : (first.current).number ≡ (second.current).number = ap (λ (c : CallId). c.number) id in
              let later : (first.current).number < (second.current).number = later_number m n client first.current second.current (answer.At x) (known_when_reached config m reached) first.open_now returns way (subst (λ c. IsOpen n c second.current) owner second.open_now) in
              omega (arith, number, later))
        ]
      ]

  differ : (x + length one ≤ y) ⊎ (y + length two ≤ x)
  differ = elim (cases_lt first.index second.index) [
    | inl below ↦ inl (let l : first.index * size + first.offset + length one ≤ second.index * size + second.offset = apart_by_index size first.index second.index first.offset second.offset (length one) below first.room in
        omega (arith, l, first.is, second_is))
    | inr above ↦ elim (cases_eq first.index second.index) [
      | inl same ↦ in_one_chunk same
      | inr other ↦ inr (let l : second.index * size + second.offset + length two ≤ first.index * size + first.offset = apart_by_index size second.index first.index second.offset first.offset (length two) (omega arith) second_room in
          omega (arith, l, first.is, second_is))
    ]
  ]

pub answered_offsets_differ : AnsweredOffsetsDiffer
answered_offsets_differ config m n client other file fd fe one two x y reached a way b = differ config m n client other file fd fe one two x y reached a way b
