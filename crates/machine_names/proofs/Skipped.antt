-- A record that one client found at a round is in each later look of another client that names that round or a later one.
use Rattle.std.proofs.Common.{◌≡◌, ℕ, ◌+◌, ◌*◌, ◌<◌, ◌≤◌, min, ◌-◌, List, [], ◌∷◌, length, Option, Some, refl, sym, ◌∙◌, ap, subst, arith}
use Rattle.std.specs.Prelude.{Contains, slice_get}
use Rattle.std.proofs.lemmas.Option.{slice_get_within, get_or_from_slice_get}
use Rattle.gfs_types.specs.declared.call.Call.TheVariants as call
use Rattle.gfs_types.specs.declared.answer.Answer.TheVariants as answer
use Rattle.gfs_types.specs.declared.ids.Fd.{Fd}
use Rattle.gfs_types.specs.declared.config.Config.{Config}
use Rattle.gfs_types.specs.declared.shape.Shape.{Shape}
use Rattle.gfs_types.specs.Mutations.{end_of}
use Rattle.gfs_types.specs.Image.{image_length, image_slice}
use Rattle.relaxed_file.specs.Names.{Node, File, node_at}
use Rattle.relaxed_file.specs.Order.{Entry, mutations_of}
use Rattle.relaxed_file.specs.Parts.{part_start, part_length}
use Rattle.relaxed_file.specs.Machine.{Machine, new_machine, Asked, chunk_at, chunk_count, chunk_size}
use Rattle.relaxed_file.specs.Reads.{read_slice}
use Rattle.relaxed_file.specs.Answers.{IsDone}
use Rattle.relaxed_file.specs.Run.{Return, Visible, Called, Answered, Allows, after, LeadsTo, IsReached}
use Rattle.relaxed_file.specs.RunLaws.{IsOwnSuccess}
use Rattle.relaxed_file.proofs.Tables.{from_some}
use Rattle.relaxed_file.proofs.Reached.{leads_on, leads_by}
use Rattle.relaxed_file.proofs.Known.{Known, made_by_count}
use Rattle.relaxed_file.proofs.Grows.{grows_to, known_when_reached}
use Rattle.relaxed_file.proofs.ShapesKept.{shapes_stay}
use Rattle.relaxed_file.proofs.Successes.{AnsweredAppend, answered, settled_entries_stay, found_at}
use Rattle.relaxed_file.proofs.OwnReads.{own_rounds_are_named}
use Rattle.relaxed_file.proofs.FilesApart.{reads_skip_nothing}
use Rattle.relaxed_file.proofs.Moments.{leads, Split, split_shows, waits_as_seen}
use Rattle.relaxed_file.proofs.InCall.{Exchange, exchange, answered_way, answers_now}
use Rattle.relaxed_file.proofs.NotRuns.{shows_run}
use Rattle.relaxed_file.proofs.StaleReads.{reaches_end, length_from, part_bytes_there, empty_front}
use Rattle.machine_names.specs.FalseTraces.{NoSkippedRecord}
use Rattle.machine_names.proofs.Calm.{Calm, calm_when_idle, Opened, opened_seen}
use Rattle.machine_names.proofs.Looks.{FirstLook, first_look}

first_round : (round least : ℕ) (more : List ℕ) → round ∷ [] ≡ least ∷ more → round ≡ least
first_round round least more h = cc

same_id : (one two : ℕ) → Some (File one) ≡ Some (File two) → one ≡ two
same_id one two h = cc

contains_at : (order : List Entry) (k : ℕ) (e : Entry) → slice_get order k ≡ Some e → Contains order e
contains_at order k e is = (k, slice_get_within order k e is, get_or_from_slice_get order k e e is)

-- one descriptor stands for one file, also later
pub keeps_file : (m n : Machine) (client file g : ℕ) (fd : Fd) → Known m → LeadsTo m n → (m.clients client).descriptors fd.0 ≡ Some file → fd.0 ≤ (m.clients client).fd_count
    → (n.clients client).descriptors fd.0 ≡ Some g → g ≡ file
keeps_file m n client file g fd known way first counted now =
    from_some (sym (((grows_to m n way known).clients client).descriptors fd.0 g counted now) ∙ first)

module _ (config : Config) (one two : ℕ) (fd fe : Fd) (bytes : List ℕ) (x round named : ℕ) (later : List Visible) (some : 0 < length bytes) (le : round ≤ named) (m n : Machine) (file : ℕ)
    (reached : IsReached config m)
    (first_file : (k : Machine) → LeadsTo m k → (g : ℕ) → (k.clients one).descriptors fd.0 ≡ Some g → g ≡ file)
    (second_file : (k : Machine) → LeadsTo m k → (g : ℕ) → (k.clients two).descriptors fe.0 ≡ Some g → g ≡ file)
    (a : Exchange m n one (call.Append fd bytes) (answer.At x)
    (Called one (call.Read fd x (length bytes)) ∷ Answered one (answer.Bytes bytes (round ∷ []))
    ∷ Called two (call.Read fe x (length bytes)) ∷ Answered two (answer.Bytes [] (named ∷ [])) ∷ later)) where
  abbrev after_append : Machine
  after_append = after a.answered (Return one (answer.At x))

  reached_answer : IsReached config a.answered
  reached_answer = leads_on (new_machine config) m a.answered reached (answered_way m n one (call.Append fd bytes) (answer.At x) _ a)

  answers : Allows a.answered (Return one (answer.At x))
  answers = answers_now m n one (call.Append fd bytes) (answer.At x) _ a

  to_after : LeadsTo a.answered after_append
  to_after = leads_by a.answered (Return one (answer.At x)) answers

  way_after : LeadsTo m after_append
  way_after = leads_on m a.answered after_append (answered_way m n one (call.Append fd bytes) (answer.At x) _ a) to_after

  append_done : IsDone a.answered one (a.inside).call (call.Append fd bytes) (answer.At x)
  append_done = subst (λ c. IsDone a.answered one (a.inside).call c (answer.At x)) (ap (λ (s : Asked). s.call) (a.inside).asked_is) a.may

  append_file : append_done.0 ≡ file
  append_file = first_file a.at (leads m a.at [] a.before) append_done.0 (ap (λ (s : Asked). s.file) (sym (a.inside).asked_is) ∙ append_done.1)

  it : AnsweredAppend config a.answered one file bytes x
  it = answered config a.answered one file fd bytes x reached_answer
      ((a.inside).call, (a.inside).open_now, append_done.1 ∙ ap Some append_file, ap (λ (s : Asked). s.call) (a.inside).asked_is, a.may)

  -- the first read names a round that is no less than the record's
  b : Exchange after_append n one (call.Read fd x (length bytes)) (answer.Bytes bytes (round ∷ [])) (Called two (call.Read fe x (length bytes)) ∷ Answered two (answer.Bytes [] (named ∷ [])) ∷ later)
  b = exchange after_append n one (call.Read fd x (length bytes)) (answer.Bytes bytes (round ∷ [])) _ tt a.then

  reached_after : IsReached config after_append
  reached_after = leads_on (new_machine config) m after_append reached way_after

  has_chunk : (k : Machine) → LeadsTo a.answered k → it.index < chunk_count k file
  has_chunk k way =
      let more : chunk_count a.answered file ≤ chunk_count k file = ((grows_to a.answered k way (known_when_reached config a.answered reached_answer)).files file).count in
      let there : it.index < chunk_count a.answered file = it.has_chunk in
      omega (arith, more, there)

  -- the file keeps the size of its chunks
  abbrev size : ℕ
  size = chunk_size a.answered file

  size_is : (k : Machine) → LeadsTo a.answered k → chunk_size k file ≡ size
  size_is k way =
      ap (λ (shape : Shape). shape.chunk)
      (shapes_stay config a.answered k file reached_answer way (made_by_count a.answered file it.index (known_when_reached config a.answered reached_answer) it.has_chunk))

  lies : (k : Machine) → LeadsTo a.answered k → x ≡ it.index * chunk_size k file + it.offset
  lies k way = subst (λ s. x ≡ it.index * s + it.offset) (sym (size_is k way)) it.is

  ends : (k : Machine) → LeadsTo a.answered k → it.offset + length bytes ≤ chunk_size k file
  ends k way = subst (λ s. it.offset + length bytes ≤ s) (sym (size_is k way)) it.room

  look_one : FirstLook after_append one file it.index fd x (length bytes) bytes (round ∷ [])
  look_one = first_look config after_append n one fd file it.index it.offset (length bytes) x bytes (round ∷ []) _ reached_after (lies after_append to_after) (ends after_append to_after) some (has_chunk after_append to_after) b
      (λ g. first_file b.at (leads_on m after_append b.at way_after (leads after_append b.at [] b.before)) g)

  own : IsOwnSuccess a.answered one file it.index it.entry
  own = (it.current, it.open_now, it.there, it.noted, it.note_is, it.success)

  round_reached : (it.entry).round ≤ round
  round_reached =
      let l : (it.entry).round ≤ look_one.least =
      own_rounds_are_named config a.answered look_one.at one file it.index it.entry (answer.At x) look_one.least look_one.last look_one.chosen reached_answer own answers look_one.way look_one.look in
      let is : round ≡ look_one.least = first_round round look_one.least look_one.more_rounds look_one.rounds_are in
      omega (arith, l, is)

  -- and so the second read has the record
  abbrev after_read : Machine
  after_read = after b.answered (Return one (answer.Bytes bytes (round ∷ [])))

  to_read : LeadsTo after_append after_read
  to_read = leads_on after_append b.answered after_read (answered_way after_append n one (call.Read fd x (length bytes)) (answer.Bytes bytes (round ∷ [])) _ b)
      (leads_by b.answered (Return one (answer.Bytes bytes (round ∷ []))) (answers_now after_append n one (call.Read fd x (length bytes)) (answer.Bytes bytes (round ∷ [])) _ b))

  way_read : LeadsTo a.answered after_read
  way_read = leads_on a.answered after_append after_read to_after to_read

  c : Exchange after_read n two (call.Read fe x (length bytes)) (answer.Bytes [] (named ∷ [])) later
  c = exchange after_read n two (call.Read fe x (length bytes)) (answer.Bytes [] (named ∷ [])) later tt b.then

  look_two : FirstLook after_read two file it.index fe x (length bytes) [] (named ∷ [])
  look_two = first_look config after_read n two fe file it.index it.offset (length bytes) x [] (named ∷ []) later
      (leads_on (new_machine config) after_append after_read reached_after to_read) (lies after_read way_read) (ends after_read way_read) some (has_chunk after_read way_read) c
      (λ g. second_file c.at (leads_on m after_append c.at way_after (leads_on after_append after_read c.at to_read (leads after_read c.at [] c.before))) g)

  to_look : LeadsTo a.answered look_two.at
  to_look = leads_on a.answered after_read look_two.at way_read look_two.way

  chosen_has : Contains look_two.chosen it.entry
  chosen_has =
      let stays : slice_get (chunk_at look_two.at file it.index).order (it.there).0 ≡ Some it.entry =
      settled_entries_stay config a.answered look_two.at reached_answer to_look file it.index (it.there).0 it.entry (found_at _ it.entry it.there) it.settled in
      let is : named ≡ look_two.least = first_round named look_two.least look_two.more_rounds look_two.rounds_are in
      let l : (it.entry).round ≤ round = round_reached in
      reads_skip_nothing look_two.at two file it.index look_two.least look_two.last look_two.chosen it.entry look_two.allowed
      (contains_at _ (it.there).0 it.entry stays) it.settled (omega (arith, l, le, is))

  given : 0 < length (read_slice size it.index (call.Read fe x (length bytes)) look_two.chosen)
  given =
      let there : Contains look_two.chosen it.entry = chosen_has in
      let far : end_of (it.entry).mutation ≤ image_length (mutations_of look_two.chosen) = reaches_end there.0 look_two.chosen it.entry there.1 there.2 in
      let end_is : end_of (it.entry).mutation ≡ it.offset + length bytes = ap end_of it.what in
      let enough : 0 < min (part_length size x (length bytes) it.index) (image_length (mutations_of look_two.chosen) - part_start size x it.index) =
      part_bytes_there size it.index it.offset (length bytes) x _ it.is it.room some (omega (arith, far, end_is)) in
      let count : length (image_slice (mutations_of look_two.chosen) (part_start size x it.index) (part_length size x (length bytes) it.index))
      ≡ min (part_length size x (length bytes) it.index) (image_length (mutations_of look_two.chosen) - part_start size x it.index) = length_from (mutations_of look_two.chosen) _ _ in
      omega (arith, enough, count)

  skipped : ⊥
  skipped =
      let empty : length (read_slice (chunk_size look_two.at file) it.index (call.Read fe x (length bytes)) look_two.chosen) ≡ 0 = empty_front _ look_two.more_bytes look_two.bytes_are in
      let same : length (read_slice size it.index (call.Read fe x (length bytes)) look_two.chosen) ≡ 0 =
      subst (λ s. length (read_slice s it.index (call.Read fe x (length bytes)) look_two.chosen) ≡ 0) (size_is look_two.at to_look) empty in
      let some_bytes : 0 < length (read_slice size it.index (call.Read fe x (length bytes)) look_two.chosen) = given in
      omega (arith, same, some_bytes)

pub no_skipped_record : NoSkippedRecord
no_skipped_record config before later one two path fd fe bytes x round named idle some le run =
    let cut : Split (new_machine config) run.0 before _ = split_shows before _ run.0 _ (shows_run config _ run) in
    let node : Option Node = node_at (cut.at).names path in
    let calm : Calm path node cut.at = calm_when_idle path node cut.at refl (λ client. waits_as_seen client (new_machine config) cut.at before cut.front ∙ idle client) in
    let first : Opened path node cut.at run.0 one fd _ = opened_seen path node cut.at run.0 one fd _ calm cut.back in
    let second : Opened path node first.done run.0 two fe _ = opened_seen path node first.done run.0 two fe _ first.calm first.then in
    let reached_cut : IsReached config cut.at = leads _ cut.at before cut.front in
    let reached_first : IsReached config first.done = leads_on (new_machine config) cut.at first.done reached_cut first.way in
    let reached : IsReached config second.done = leads_on (new_machine config) first.done second.done reached_first second.way in
    let same : second.file ≡ first.file = same_id second.file first.file (sym second.stood ∙ first.stood) in
    skipped config one two fd fe bytes x round named later some le second.done run.0 first.file reached
    (λ k way g now. keeps_file first.done k one first.file g fd (known_when_reached config first.done reached_first) (leads_on first.done second.done k second.way way) first.descriptor first.counted now)
    (λ k way g now. keeps_file second.done k two second.file g fe (known_when_reached config second.done reached) way second.descriptor second.counted now ∙ same)
    (exchange second.done run.0 one (call.Append fd bytes) (answer.At x) _ tt second.then)
