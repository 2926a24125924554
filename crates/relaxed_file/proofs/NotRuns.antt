-- Traces that are not runs.
use Rattle.std.proofs.Common.{◌≡◌, ℕ, ◌+◌, ◌≤◌, ◌⊎◌, List, [], ◌∷◌, ◌++◌, length, Some, refl, sym, ◌∙◌, ap, subst, ⊎_elim, arith}
use Rattle.std.proofs.lemmas.Bool.{true≢false, cases_lt}
use Rattle.std.proofs.lemmas.Option.{none-some}
use Rattle.gfs_types.specs.declared.call.Call.TheVariants as call
use Rattle.gfs_types.specs.declared.answer.Answer.TheVariants as answer
use Rattle.gfs_types.specs.declared.ids.Fd.{Fd}
use Rattle.gfs_types.specs.declared.config.Config.{Config}
use Rattle.relaxed_file.specs.Machine.{Machine, new_machine, Asked, OpenCall, IsOpen}
use Rattle.relaxed_file.specs.Answers.{IsDone, MayReturn}
use Rattle.relaxed_file.specs.Run.{Return, Visible, Called, Answered, Allows, after, LeadsTo, IsReached, IsRun, asked_now}
use Rattle.relaxed_file.specs.NotRuns.{NoAnswerWithoutCall, NoSharedOffset}
use Rattle.relaxed_file.proofs.Tables.{from_some}
use Rattle.relaxed_file.proofs.Reached.{leads_on, leads_by}
use Rattle.relaxed_file.proofs.Known.{Known}
use Rattle.relaxed_file.proofs.Grows.{Grows, grows_to, known_when_reached}
use Rattle.relaxed_file.proofs.Successes.{answered_offsets_differ}
use Rattle.relaxed_file.proofs.Moments.{Shows, leads, Split, split_shows, First, first_seen, is_return, is_waiting, waits_as_seen}
use Rattle.relaxed_file.proofs.InCall.{Exchange, exchange}

pub shows_run : (config : Config) (trace : List Visible) (run : IsRun config trace) → Shows (new_machine config) run.0 trace
shows_run config trace run = record { actions = (run.1).0; lawful = (run.1).1; seen = (run.1).2; ends = (run.1).3 }

pub no_answer_without_call : NoAnswerWithoutCall
no_answer_without_call config before later client reply idle run =
    let cut : Split (new_machine config) run.0 before (Answered client reply ∷ later) = split_shows before _ run.0 _ (shows_run config _ run) in
    let one : First cut.at run.0 (Answered client reply) later = first_seen cut.at run.0 _ later cut.back in
    let call : (c : OpenCall) × IsOpen one.at client c = is_return one.at one.action client reply one.is one.allowed in
    true≢false (
    sym (ap is_waiting call.1)
    ∙ waits_as_seen client cut.at one.at [] one.silent
    ∙ waits_as_seen client (new_machine config) cut.at before cut.front
    ∙ idle)

-- a call is on the file of its descriptor
module _ (config : Config) (m : Machine) (client : ℕ) (fd : Fd) (one two : List ℕ) (x y : ℕ) (between later : List Visible) (n : Machine)
    (reached : IsReached config m)
    (a : Exchange m n client (call.Append fd one) (answer.At x) (between ++ (Called client (call.Append fd two) ∷ Answered client (answer.At y) ∷ later))) where
  middle : Split (after a.answered (Return client (answer.At x))) n between (Called client (call.Append fd two) ∷ Answered client (answer.At y) ∷ later)
  middle = split_shows between _ n _ a.then

  b : Exchange middle.at n client (call.Append fd two) (answer.At y) later
  b = exchange middle.at n client (call.Append fd two) (answer.At y) later tt middle.back

  file_at : (k : Machine) (c : OpenCall) (z : ℕ) (bytes : List ℕ) (asked : Asked) → c.asked ≡ asked → asked.call ≡ call.Append fd bytes → MayReturn k client c (answer.At z) → (file : ℕ) × (asked.file ≡ Some file)
  file_at k c z bytes asked same is may =
      let done : IsDone k client c (call.Append fd bytes) (answer.At z) = subst (λ d. IsDone k client c d (answer.At z)) (ap (λ (s : Asked). s.call) same ∙ is) may in
      (done.0, ap (λ (s : Asked). s.file) (sym same) ∙ done.1)

  first_file : (file : ℕ) × (((a.at).clients client).descriptors fd.0 ≡ Some file)
  first_file = file_at a.answered (a.inside).call x one (asked_now a.at client (call.Append fd one)) (a.inside).asked_is refl a.may

  second_file : (file : ℕ) × (((b.at).clients client).descriptors fd.0 ≡ Some file)
  second_file = file_at b.answered (b.inside).call y two (asked_now b.at client (call.Append fd two)) (b.inside).asked_is refl b.may

  reached_call : IsReached config a.at
  reached_call = leads_on (new_machine config) m a.at reached (leads m a.at [] a.before)

  to_answer : LeadsTo a.at a.answered
  to_answer = leads_on a.at (after a.at a.action) a.answered (leads_by a.at a.action a.allowed) (leads _ a.answered [] (a.inside).since)

  reached_answer : IsReached config a.answered
  reached_answer = leads_on (new_machine config) a.at a.answered reached_call to_answer

  answers : Allows a.answered (Return client (answer.At x))
  answers = ((a.inside).call, (a.inside).open_now, a.may)

  to_second : LeadsTo (after a.answered (Return client (answer.At x))) b.answered
  to_second =
      leads_on _ middle.at b.answered (leads _ middle.at between middle.front)
      (leads_on middle.at b.at b.answered (leads middle.at b.at [] b.before)
      (leads_on b.at (after b.at b.action) b.answered (leads_by b.at b.action b.allowed) (leads _ b.answered [] (b.inside).since)))

  to_second_call : LeadsTo a.at b.at
  to_second_call =
      leads_on a.at a.answered b.at to_answer
      (leads_on a.answered (after a.answered (Return client (answer.At x))) b.at (leads_by a.answered (Return client (answer.At x)) answers)
      (leads_on _ middle.at b.at (leads _ middle.at between middle.front) (leads middle.at b.at [] b.before)))

  same_file : first_file.0 ≡ second_file.0
  same_file =
      let known : Known a.at = known_when_reached config a.at reached_call in
      let grown : Grows a.at b.at = grows_to a.at b.at to_second_call known in
      let counted : fd.0 ≤ ((a.at).clients client).fd_count = ⊎_elim
      (λ late. absurd (none-some _ (sym ((known.clients client).no_more_descriptors fd.0 late) ∙ first_file.1)))
      (λ l. l) (cases_lt ((a.at).clients client).fd_count fd.0) in
      from_some (sym first_file.1 ∙ (grown.clients client).descriptors fd.0 second_file.0 counted second_file.1)

  differ : (x + length one ≤ y) ⊎ (y + length two ≤ x)
  differ = answered_offsets_differ config a.answered b.answered client client first_file.0 fd fd one two x y reached_answer
      ((a.inside).call, (a.inside).open_now, ap (λ (s : Asked). s.file) (a.inside).asked_is ∙ first_file.1, ap (λ (s : Asked). s.call) (a.inside).asked_is, a.may)
      to_second
      ((b.inside).call, (b.inside).open_now, ap (λ (s : Asked). s.file) (b.inside).asked_is ∙ second_file.1 ∙ ap Some (sym same_file), ap (λ (s : Asked). s.call) (b.inside).asked_is, b.may)

pub no_shared_offset : NoSharedOffset
no_shared_offset config before between later client fd one two x y over under run =
    let cut : Split (new_machine config) run.0 before _ = split_shows before _ run.0 _ (shows_run config _ run) in
    let first : Exchange cut.at run.0 client (call.Append fd one) (answer.At x) (between ++ (Called client (call.Append fd two) ∷ Answered client (answer.At y) ∷ later)) =
    exchange cut.at run.0 client (call.Append fd one) (answer.At x) _ tt cut.back in
    ⊎_elim (λ l. absurd (omega arith)) (λ l. absurd (omega arith))
    (differ config cut.at client fd one two x y between later run.0 (leads _ cut.at before cut.front) first)
