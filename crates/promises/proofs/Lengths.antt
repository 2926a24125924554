-- A length that is answered later reaches the end of each record.
use Rattle.std.proofs.Common.{◌≡◌, ℕ, zero, suc, ◌+◌, ◌*◌, ◌<◌, ◌≤◌, Bool, true, false, cond, List, [], ◌∷◌, ◌++◌, length, Some, None, refl, sym, ◌∙◌, ap, subst, inl, inr, arith, mul-le-mul_right}
use Rattle.std.specs.Prelude.{Contains, slice_get, nat_lt}
use Rattle.std.specs.List.{AllByRecursion}
use Rattle.std.proofs.lemmas.Bool.{cases_lt, ltb-false}
use Rattle.std.proofs.lemmas.Option.{none-some}
use Rattle.gfs_types.specs.declared.call.Call.TheVariants as call
use Rattle.gfs_types.specs.declared.answer.Answer.TheVariants as answer
use Rattle.gfs_types.specs.declared.ids.Fd.{Fd}
use Rattle.gfs_types.specs.declared.config.Config.{Config}
use Rattle.gfs_types.specs.Mutations.{end_of}
use Rattle.gfs_types.specs.Image.{image_length}
use Rattle.relaxed_file.specs.Order.{Entry, IsSelection, mutations_of}
use Rattle.relaxed_file.specs.Machine.{Machine, new_machine, Asked, OpenCall, Offer, Told, NoSuchChunk, chunk_at, chunk_count, chunk_size}
use Rattle.relaxed_file.specs.Reads.{MayOffer, offer_of}
use Rattle.relaxed_file.specs.Answers.{IsDone}
use Rattle.relaxed_file.specs.Run.{Action, Visible, after_all, IsRunTo, LeadsTo, IsReached}
use Rattle.relaxed_file.proofs.Tables.{from_some, contained}
use Rattle.relaxed_file.proofs.Reached.{leads_on}
use Rattle.relaxed_file.proofs.Grows.{grows_to, known_when_reached}
use Rattle.relaxed_file.proofs.Rounds.{IsWithin, every_order}
use Rattle.relaxed_file.proofs.Apart.{below_top}
use Rattle.relaxed_file.proofs.CallSteps.{IsLengthOf, by_measure, by_no_chunk}
use Rattle.relaxed_file.proofs.Successes.{AnsweredAppend, settled_entries_stay, found_at}
use Rattle.relaxed_file.proofs.OwnReads.{selected, has_place}
use Rattle.relaxed_file.proofs.StaleReads.{reaches_end}
use Rattle.promises.specs.Answered.{waiting_call, WasAnswered, IsOf}
use Rattle.promises.specs.Promises.{InEachRun, LengthsReachRecords}
use Rattle.promises.proofs.WaitingCalls.{waiting_since}
use Rattle.promises.proofs.AnswerMoments.{AnsweredIn, answered_in, at, then, past, reached, to_past, reached_past, later_file, descriptors_are_of_one_file}
use Rattle.promises.proofs.StandingRecords as record_at
use Rattle.promises.proofs.ReadPieces.{leads_to, same_size}
use Rattle.promises.proofs.SinceLengths.{lengths_since}

round_below : (least most : ℕ) (order : List Entry) (place : ℕ) (e : Entry) → IsWithin least most order → slice_get order place ≡ Some e → e.round ≤ most
round_below least most [] place e h is = absurd (none-some e is)
round_below least most (x ∷ rest) zero e h is = subst (λ (f : Entry). f.round ≤ most) (from_some is) (below_top x.round most rest h.1)
round_below least most (x ∷ rest) (suc place) e h is = round_below x.round most rest place e h.1 is

module _ (config : Config) (trace : List Visible) (m : Machine) (run : IsRunTo config trace m) (client reader file : ℕ) (fd fe : Fd) (bytes : List ℕ) (x found : ℕ)
    (one : WasAnswered trace client (call.Append fd bytes) (answer.At x)) (one_of : IsOf run.0 client fd file)
    (two : WasAnswered one.rest reader (call.Length fe) (answer.Length found)) (two_of : IsOf run.0 reader fe file) where
  abbrev then_one : Machine
  then_one = then config trace m run client (call.Append fd bytes) (answer.At x) tt one

  abbrev past_one : Machine
  past_one = past config trace m run client (call.Append fd bytes) (answer.At x) tt one

  abbrev at_one : AnsweredIn (new_machine config) run.0 client (call.Append fd bytes) (answer.At x) one.before one.rest
  at_one = at config trace m run client (call.Append fd bytes) (answer.At x) tt one

  abbrev at_two : AnsweredIn past_one at_one.back reader (call.Length fe) (answer.Length found) two.before two.rest
  at_two = answered_in past_one at_one.back reader _ _ two.before two.rest at_one.lawful_back tt (at_one.then ∙ two.is) (waiting_since reader _ _ two.before two.waited)

  same_one : record_at.file_now config trace m run client fd bytes x one ≡ file
  same_one = descriptors_are_of_one_file config trace m run client fd _ file (record_at.is_of config trace m run client fd bytes x one) one_of

  it : AnsweredAppend config then_one client file bytes x
  it = subst (λ f. AnsweredAppend config then_one client f bytes x) same_one (record_at.it config trace m run client fd bytes x one)

  from_record : (k : Machine) → LeadsTo past_one k → LeadsTo then_one k
  from_record k way = leads_on then_one past_one k (to_past config trace m run client (call.Append fd bytes) (answer.At x) tt one) way

  reached_then : (k : Machine) → LeadsTo past_one k → IsReached config k
  reached_then k way = leads_on (new_machine config) past_one k (reached_past config trace m run client (call.Append fd bytes) (answer.At x) tt one) way

  there : (k : Machine) → LeadsTo past_one k → slice_get (chunk_at k file it.index).order (it.there).0 ≡ Some it.entry
  there k way = settled_entries_stay config then_one k (reached config trace m run client (call.Append fd bytes) (answer.At x) tt one) (from_record k way) file it.index (it.there).0 it.entry (found_at _ it.entry it.there) it.settled

  has_chunk : (k : Machine) → LeadsTo past_one k → it.index < chunk_count k file
  has_chunk k way =
      let more : chunk_count then_one file ≤ chunk_count k file =
      ((grows_to then_one k (from_record k way) (known_when_reached config then_one (reached config trace m run client (call.Append fd bytes) (answer.At x) tt one))).files file).count in
      let old : it.index < chunk_count then_one file = it.has_chunk in omega (arith, more, old)

  has_round : (k : Machine) → LeadsTo past_one k → (it.entry).round ≤ (chunk_at k file it.index).round
  has_round k way = round_below 0 _ _ (it.there).0 it.entry (every_order config k (reached_then k way) file it.index) (there k way)

  -- what is offered after the answer tells of the record's chunk and round
  abbrev Fits : Offer → Type 0
  Fits (Told i round count) = (it.index < count) × (i ≡ it.index → (it.entry).round ≤ round)
  Fits (NoSuchChunk i) = it.index < i

  abbrev IsFit : Asked → Offer → Type 0
  IsFit asked offer = (f : ℕ) × (asked.file ≡ Some f) × (f ≡ file → Fits offer)

  abbrev IsLong : Asked → ℕ → Type 0
  IsLong asked n = (f : ℕ) × (asked.file ≡ Some f) × (f ≡ file → x + length bytes ≤ n)

  offer_fits : (k : Machine) (i : ℕ) (b : Bool) → LeadsTo past_one k → nat_lt i (chunk_count k file) ≡ b → Fits (cond b (Told i (chunk_at k file i).round (chunk_count k file)) (NoSuchChunk i))
  offer_fits k i true way is = (has_chunk k way, λ same. subst (λ j. (it.entry).round ≤ (chunk_at k file j).round) (sym same) (has_round k way))
  offer_fits k i false way is = let l : chunk_count k file ≤ i = ltb-false _ _ is in let h : it.index < chunk_count k file = has_chunk k way in omega (arith, l, h)

  told : (done left : List Action) → at_two.front ≡ done ++ left → (c : OpenCall) (f i : ℕ) → MayOffer (after_all past_one done) c f → IsFit c.asked (offer_of (after_all past_one done) f i)
  told done left is c f i may =
      (f, may.0, λ same. subst (λ g. Fits (offer_of (after_all past_one done) g i)) (sym same) (offer_fits (after_all past_one done) i _ (leads_to past_one at_two.front done left at_two.lawful is) refl))

  abbrev size : ℕ
  size = chunk_size then_one file

  -- a look at the last chunk reaches the record's end
  long_enough : (k : Machine) → LeadsTo past_one k → (f i round least last : ℕ) (chosen : List Entry) → f ≡ file → (n : ℕ) → n ≡ i * chunk_size k f + image_length (mutations_of chosen)
      → round ≤ least → least ≤ last → IsSelection last (chunk_at k f i).order chosen → Fits (Told i round (suc i)) → x + length bytes ≤ n
  long_enough k way f i round least last chosen same n n_is told_least least_last selection fits =
      let size_is : chunk_size k f ≡ size =
      ap (λ (g : ℕ). chunk_size k g) same
      ∙ same_size config then_one k file it.index (it.there).0 it.entry (reached config trace m run client (call.Append fd bytes) (answer.At x) tt one) (found_at _ it.entry it.there) (from_record k way) in
      let n_here : n ≡ i * size + image_length (mutations_of chosen) = n_is ∙ ap (λ s. i * s + image_length (mutations_of chosen)) size_is in
      let x_is : x ≡ it.index * size + it.offset = it.is in
      let room : it.offset + length bytes ≤ size = it.room in
      let up_to : it.index < suc i = fits.0 in
      elim (cases_lt it.index i) [
        | inl below ↦
            let step : suc it.index * size ≤ i * size = mul-le-mul_right size below in
            omega (arith, step, n_here, x_is, room)
        | inr not ↦
            let here : i ≡ it.index = omega (arith, not, up_to) in
            let prod : i * size ≡ it.index * size = ap (λ j. j * size) here in
            let rounds : (it.entry).round ≤ round = fits.1 here in
            let chosen_from : IsSelection last (chunk_at k file it.index).order chosen = subst (λ g. IsSelection last (chunk_at k g it.index).order chosen) same (subst (λ j. IsSelection last (chunk_at k f j).order chosen) here selection) in
            let has : Contains chosen it.entry = has_place chosen it.entry (selected last chosen_from (it.there).0 it.entry (there k way) it.settled (omega (arith, rounds, told_least, least_last))) in
            let far : end_of (it.entry).mutation ≤ image_length (mutations_of chosen) = reaches_end has.0 chosen it.entry has.1 has.2 in
            let end_is : end_of (it.entry).mutation ≡ it.offset + length bytes = ap end_of it.what in
            omega (arith, n_here, x_is, prod, far, end_is)
      ]

  measured : (done left : List Action) → at_two.front ≡ done ++ left → (c : OpenCall) → AllByRecursion (IsFit c.asked) c.offers → (n : ℕ) → IsLengthOf (after_all past_one done) reader c n → IsLong c.asked n
  measured done left is c offers n (by_no_chunk none zero_is) =
      let fit : IsFit c.asked (NoSuchChunk 0) = contained (IsFit c.asked) c.offers (NoSuchChunk 0) offers none.1 in
      (fit.0, fit.1, λ same. let l : it.index < 0 = fit.2 same in absurd (omega (arith, l)))
  measured done left is c offers n (by_measure f i round least last chosen may n_is) =
      let k : Machine = after_all past_one done in
      let way : LeadsTo past_one k = leads_to past_one at_two.front done left at_two.lawful is in
      let fit : IsFit c.asked (Told i round (suc i)) = contained (IsFit c.asked) c.offers (Told i round (suc i)) offers may.2 in
      (f, may.0, λ same. long_enough k way f i round least last chosen same n n_is may.3 (may.4).2 (may.4).3 (fit.2 (from_some (sym fit.1 ∙ may.0) ∙ same)))

  done : IsDone (after_all past_one at_two.front) reader at_two.current (call.Length fe) (answer.Length found)
  done = subst (λ c. IsDone (after_all past_one at_two.front) reader at_two.current c (answer.Length found)) at_two.call_is at_two.may

  lengths : AllByRecursion (IsLong (at_two.current).asked) (at_two.current).lengths
  lengths = lengths_since past_one at_two.front reader IsFit IsLong told measured at_two.lawful (call.Length fe) at_two.current (ap (waiting_call reader None) at_two.seen ∙ two.waited) at_two.open_now

  reaches : x + length bytes ≤ found
  reaches =
      let long : IsLong (at_two.current).asked found = contained (IsLong (at_two.current).asked) (at_two.current).lengths found lengths done in
      long.2 (descriptors_are_of_one_file config trace m run reader fe long.0 file (later_file config trace m run client (call.Append fd bytes) (answer.At x) tt one reader _ _ two.before two.rest at_two fe long.0 refl long.1) two_of)

pub lengths_reach_records : InEachRun LengthsReachRecords
lengths_reach_records config trace m run client reader file fd fe bytes x found one one_of two two_of = reaches config trace m run client reader file fd fe bytes x found one one_of two two_of
