-- A call on a file begins at a client and at the machine.
use Rattle.std.proofs.Common.{◌≡◌, ◌⊎◌, ℕ, zero, suc, ◌/◌, ◌≤◌, Bool, true, false, List, [], length, Option, Some, None, refl, sym, ap, subst, ◌∙◌, inl, inr, arith}
use Rattle.std.specs.Prelude.{◌==◌, ◌||◌, nat_lt, IfSome, IsSome, IsTrue}
use Rattle.std.specs.List.{AllByRecursion}
use Rattle.std.specs.FinMap as table
use Rattle.std.proofs.lemmas.Bool.{eqb-true, true≢false}
use Rattle.gfs_types.specs.declared.config.Config.{Config}
use Rattle.gfs_types.specs.declared.ids.Fd.{Fd}
use Rattle.gfs_types.specs.declared.call.Call.{Call}
use Rattle.gfs_types.specs.declared.call.Call.TheVariants as call
use Rattle.gfs_types.specs.declared.answer.Answer.{Answer}
use Rattle.gfs_types.specs.declared.answer.Answer.TheVariants as answer
use Rattle.gfs_types.specs.declared.refusal.Refusal.TheVariants.{BadFd, TooLong, NoMemory}
use Rattle.relaxed_file.specs.Parts.{has_part, is_range_too_long}
use Rattle.relaxed_file.specs.Machine.{Machine, Client, OpenCall, IsOpen, put, chunk_size}
use Rattle.relaxed_file.specs.NameStep.{is_name_call}
use Rattle.relaxed_file.specs.Answers.{HasSuccess, IsWrite, MayReturn, is_too_long, descriptors_after}
use Rattle.relaxed_file.specs.Run.{Invoke, after, asked_now, file_of, IsReached}
use Rattle.relaxed_file.proofs.Tables.{put_other, put_is}
use Rattle.machine_names.specs.NameProjections.{AreNamesOf}
use Rattle.machine_names.proofs.Chunks.{file_calls_keep_names}
use Rattle.client_state.specs.declared.call.CurrentCall.{CurrentCall}
use Rattle.protocol.specs.Client.{file_chunk, ClientState, ClientDoing, client_begins, answers}
use Rattle.protocol.specs.ClientFiles.{files_after_close, last_append}
use Rattle.protocol.specs.ClientAttempts.{attempts}
use Rattle.protocol.specs.ClientStep.{new_call, calls_names, calls_file, calls_on, fd_of, client_at, client_call_goes}
use Rattle.laws_base.proofs.Steps.{on_cond, same_or_not, gone_there, gone_other}
use Rattle.laws_base.proofs.ClientWalk.{closed, noted}
use Rattle.laws_base.proofs.OpenFiles.{closed_since}
use Rattle.laws_machine.specs.FileClients.{id_of, IsKeptNote, IsDoneSoFar, IsCallAlike, IsFileClient, IsFileOpen, IsFollowed}
use Rattle.laws_machine.specs.FileCallsBegin.{FileCallsAreBegun}
use Rattle.laws_machine.proofs.ClientCaches.{kept_since}
use Rattle.laws_machine.proofs.MachineSteps.{in_client}
use Rattle.laws_machine.proofs.Parts.{none_below, first_there, none_of_nothing}
use Rattle.laws_machine.proofs.UnusedNumbers.{none_placed}
use Rattle.laws_machine.proofs.FileWalk.{Hand, ends_call, attempts_done, appended_hand, open_size, closed_made}
use Rattle.gfs_types.specs.declared.shape.Shape.{Shape}

file_by : (state : Client) (c : Call) → is_name_call c ≡ false → file_of state c ≡ state.descriptors (fd_of c)
file_by state (call.Close fd) plain = refl
file_by state (call.Length fd) plain = refl
file_by state (call.Write fd offset content) plain = refl
file_by state (call.Append fd content) plain = refl
file_by state (call.Read fd offset count) plain = refl
file_by state other plain = absurd (true≢false plain)

or_true : (a b : Bool) → a ≡ true → a || b ≡ true
or_true true b is = refl
or_true false b is = absurd (true≢false (sym is))

any : (k : ℕ) → (k == zero) ≡ false → 1 ≤ k
any zero is = absurd (true≢false is)
any (suc k) is = omega arith

module _ (config : Config) (m : Machine) (reached : IsReached config m) (client : ℕ) (s : ClientState) (alike : IsFileClient m client s) (none : s.current ≡ None)
    (rows : (fd file : ℕ) → table.get s.descriptors fd ≡ Some file → IsFileOpen s file) (moment : ℕ) (c : Call) (plain : is_name_call c ≡ false)
  where
    abbrev d0 : ClientDoing
    d0 = client_begins (client_at s moment)

    abbrev state : Client
    state = m.clients client

    -- the call as it is open
    abbrev o : OpenCall
    o = record { number = suc state.call_count; asked = asked_now m client c; has_begun = false; has_locks = false; outcomes = []; offers = []; pieces = []; lengths = [] }

    abbrev called : Client
    called = record state { call_count = suc state.call_count; calls = put (suc state.call_count) (Some (asked_now m client c)) state.calls; open_call = Some o }

    abbrev n : Machine
    n = after m (Invoke client c)

    now : (P : Client → Type 0) → P called → P (n.clients client)
    now = in_client m client called

    pub is_open : IsOpen n client o
    is_open = now (λ t. t.open_call ≡ Some o) refl

    idle : (m.clients client).open_call ≡ None
    idle = subst (λ (x : Option CurrentCall). IsCallAlike m client x) none alike.call

    abbrev Goes : ClientDoing → Type 0
    Goes d = IsFollowed n client d

    pub fds : s.fd_count ≡ (n.clients client).fd_count
    fds = now (λ t. s.fd_count ≡ t.fd_count) alike.fds

    pub descriptors : (fd : ℕ) → table.get s.descriptors fd ≡ (n.clients client).descriptors fd
    descriptors fd = now (λ t. table.get s.descriptors fd ≡ t.descriptors fd) (alike.descriptors fd)

    pub kept : AllByRecursion (IsKeptNote (n.clients client).notes s.files s.fd_count) s.cache.entries
    kept = now (λ t. AllByRecursion (IsKeptNote t.notes s.files s.fd_count) s.cache.entries) alike.kept

    -- an answer at once, that closes nothing
    replies : (reply : Answer) → ((ds : ℕ → Option ℕ) → descriptors_after ds c reply ≡ ds) → MayReturn n client o reply → Goes (answers d0 reply)
    replies reply same may =
        ends_call n client o is_open d0 reply alike.settings fds (λ fd. descriptors fd ∙ ap (λ (ds : ℕ → Option ℕ). ds fd) (sym (same (n.clients client).descriptors))) kept alike.places alike.shapes plain may

    refusal_keeps : (e : Call) (ds : ℕ → Option ℕ) → descriptors_after ds e (answer.Refused NoMemory) ≡ ds
    refusal_keeps (call.Close fd) ds = refl
    refusal_keeps other ds = refl

    pub out_of_memory : Goes (answers d0 (answer.Refused NoMemory))
    out_of_memory = replies (answer.Refused NoMemory) (refusal_keeps c) (inr (inr refl))

    bad_keeps : (e : Call) (ds : ℕ → Option ℕ) → descriptors_after ds e (answer.Refused BadFd) ≡ ds
    bad_keeps (call.Close fd) ds = refl
    bad_keeps other ds = refl

    bad : table.get s.descriptors (fd_of c) ≡ None → Goes (answers d0 (answer.Refused BadFd))
    bad is = replies (answer.Refused BadFd) (bad_keeps c) (inr (inr (plain, file_by state c plain ∙ sym (alike.descriptors (fd_of c)) ∙ is)))

    module _ (file : ℕ) (at : table.get s.descriptors (fd_of c) ≡ Some file) where
      file_is : o.asked.file ≡ Some file
      file_is = file_by state c plain ∙ sym (alike.descriptors (fd_of c)) ∙ at

      too_long : ((ds : ℕ → Option ℕ) → descriptors_after ds c (answer.Refused TooLong) ≡ ds) → is_too_long (chunk_size m file) o.asked.chunks_before c ≡ true → Goes (answers d0 (answer.Refused TooLong))
      too_long keeps is = replies (answer.Refused TooLong) keeps (inr (inr (file, file_is, is, none_placed config m reached client file (m.files file).chunk_count)))

      begins : (index : ℕ) (last : Option ℕ) → IsDoneSoFar n (id_of client o) file index [] [] [] c → Hand n client o is_open d0 (new_call s.config.attempts 0 c file index last)
      begins index last done =
          record {
            settings = alike.settings;
            fds = fds;
            descriptors = descriptors;
            kept = kept;
            places = alike.places;
            shapes = alike.shapes;
            row = (let row = rows (fd_of c) file at in (row.0, row.1));
            unanswered = refl;
            call_is = refl;
            file_is = file_is;
            done = done;
          }

module _ (config : Config) (m : Machine) (reached : IsReached config m) (client : ℕ) (s : ClientState) (alike : IsFileClient m client s) (none : s.current ≡ None)
    (rows : (fd file : ℕ) → table.get s.descriptors fd ≡ Some file → IsFileOpen s file) (moment : ℕ)
  where
    abbrev at0 : ClientDoing
    at0 = client_begins (client_at s moment)

    abbrev BegunAs : Call → ClientDoing → Type 0
    BegunAs c d = IsFollowed (after m (Invoke client c)) client d

    abbrev new : Call → OpenCall
    new c = record { number = suc (m.clients client).call_count; asked = asked_now m client c; has_begun = false; has_locks = false; outcomes = []; offers = []; pieces = []; lengths = [] }

    opens_new : (c : Call) → is_name_call c ≡ false → IsOpen (after m (Invoke client c)) client (new c)
    opens_new c plain = is_open config m reached client s alike none rows moment c plain

    of_file : (c : Call) (plain : is_name_call c ≡ false) (file : ℕ) → table.get s.descriptors (fd_of c) ≡ Some file → (new c).asked.file ≡ Some file
    of_file c plain file at = file_is config m reached client s alike none rows moment c plain file at

    begins_as : (c : Call) (plain : is_name_call c ≡ false) (file : ℕ) → table.get s.descriptors (fd_of c) ≡ Some file → (index : ℕ) (last : Option ℕ)
        → IsDoneSoFar (after m (Invoke client c)) (id_of client (new c)) file index [] [] [] c → Hand (after m (Invoke client c)) client (new c) (opens_new c plain) at0 (new_call s.config.attempts 0 c file index last)
    begins_as c plain file at index last done = begins config m reached client s alike none rows moment c plain file at index last done

    -- an open file has the machine's size, which is a byte at least

    size_of : (fd file : ℕ) → table.get s.descriptors fd ≡ Some file → file_chunk at0.client file ≡ chunk_size m file
    size_of fd file at = let row = rows fd file at in open_size m s file row.0 row.1 (alike.shapes file row.0 row.1)

    some : (fd file : ℕ) → table.get s.descriptors fd ≡ Some file → 1 ≤ chunk_size m file
    some fd file at = let row = rows fd file at in let made = alike.shapes file row.0 row.1 in subst (λ (x : Shape). 1 ≤ x.chunk) made.1 made.2

    closes : (fd : Fd) (file : ℕ) → table.get s.descriptors fd.0 ≡ Some file → BegunAs (call.Close fd) (answers (closed (client_at s moment) fd file) answer.Done)
    closes fd file at =
        ends_call (after m (Invoke client (call.Close fd))) client (new (call.Close fd)) (opens_new (call.Close fd) refl) (closed (client_at s moment) fd file) answer.Done alike.settings
        (fds config m reached client s alike none rows moment (call.Close fd) refl) (λ q. left q (same_or_not q fd.0))
        (kept_since ((after m (Invoke client (call.Close fd))).clients client).notes s.files (files_after_close s.files file) s.fd_count (closed_since s.files file) s.cache.entries
        (kept config m reached client s alike none rows moment (call.Close fd) refl)) alike.places (closed_made m s.files file alike.shapes) refl (subst (λ (f : Option ℕ). IsSome f) (sym (of_file (call.Close fd) refl file at)) refl)
      where
        left : (q : ℕ) → (q ≡ fd.0) ⊎ (q ≡ fd.0 → ⊥) → table.get (table.remove s.descriptors fd.0) q ≡ put fd.0 None ((after m (Invoke client (call.Close fd))).clients client).descriptors q
        left q (inl same) = gone_there s.descriptors fd.0 q same ∙ sym (put_is fd.0 None ((after m (Invoke client (call.Close fd))).clients client).descriptors q same)
        left q (inr other) =
            gone_other s.descriptors fd.0 q other ∙ descriptors config m reached client s alike none rows moment (call.Close fd) refl q
            ∙ sym (put_other fd.0 None ((after m (Invoke client (call.Close fd))).clients client).descriptors q other)

    lengths : (fd : Fd) (file : ℕ) → table.get s.descriptors fd.0 ≡ Some file → BegunAs (call.Length fd) (attempts at0 (new_call s.config.attempts 0 (call.Length fd) file 0 None))
    lengths fd file at =
        let c : Call = call.Length fd in
        attempts_done (after m (Invoke client c)) client (new c) (opens_new c refl) at0 (new_call s.config.attempts 0 c file 0 None) (begins_as c refl file at 0 None tt)

    -- a write

    module _ (fd : Fd) (offset : ℕ) (content : List ℕ) (file : ℕ) (at : table.get s.descriptors fd.0 ≡ Some file) where
      abbrev write : Call
      write = call.Write fd offset content

      abbrev after_write : Machine
      after_write = after m (Invoke client write)

      empty_write : is_range_too_long offset (length content) ≡ false → (length content == 0) ≡ true → BegunAs write (answers at0 answer.Done)
      empty_write fits is =
          replies config m reached client s alike none rows moment write refl answer.Done (λ ds. refl) (
            subst (λ (f : Option ℕ). IfSome f (λ g. (index : ℕ) → IsTrue (has_part (chunk_size m g) offset (length content) index) → HasSuccess after_write client (id_of client (new write)) g index IsWrite))
                (sym (of_file write refl file at)) (λ index has. absurd (none_of_nothing (chunk_size m file) offset (length content) index (eqb-true (length content) 0 is) has)),
            subst (λ (f : Option ℕ). IsSome f) (sym (of_file write refl file at)) refl,
            fits,
          )

      first_write : is_range_too_long offset (length content) ≡ false → 1 ≤ length content → (part : ℕ) → part ≡ offset / chunk_size m file → IsDoneSoFar after_write (id_of client (new write)) file part [] [] [] write
      first_write fits any_at part is = (
        fits,
        ap (λ (i : ℕ). has_part (chunk_size m file) offset (length content) i) is ∙ first_there (chunk_size m file) offset (length content) (some fd.0 file at) any_at,
        λ earlier low has. absurd (let first = none_below (chunk_size m file) offset (length content) earlier has in omega (arith, first, low, is)),
      )

      writes : BegunAs write (calls_file at0 write file)
      writes =
          on_cond (BegunAs write) (is_range_too_long offset (length content)) (answers at0 (answer.Refused TooLong)) _
          (λ is. too_long config m reached client s alike none rows moment write refl file at (λ ds. refl) (or_true (is_range_too_long offset (length content)) _ is))
          (λ fits. on_cond (BegunAs write) (length content == 0) (answers at0 answer.Done) (attempts at0 (new_call s.config.attempts 0 write file (offset / file_chunk at0.client file) None))
          (λ is. empty_write fits is)
          (λ not_empty. attempts_done after_write client (new write) (opens_new write refl) at0 (new_call s.config.attempts 0 write file (offset / file_chunk at0.client file) None)
          (begins_as write refl file at (offset / file_chunk at0.client file) None (first_write fits (any (length content) not_empty) (offset / file_chunk at0.client file) (ap (λ (size : ℕ). offset / size) (size_of fd.0 file at))))))

    -- an append

    appends : (fd : Fd) (content : List ℕ) (file : ℕ) → table.get s.descriptors fd.0 ≡ Some file → BegunAs (call.Append fd content) (calls_file at0 (call.Append fd content) file)
    appends fd content file at =
        let c : Call = call.Append fd content in
        let x : CurrentCall = new_call s.config.attempts 0 c file 0 (last_append s.files file) in
        let same = ap (λ (size : ℕ). nat_lt (size / 4) (length content)) (size_of fd.0 file at) in
        on_cond (BegunAs c) (nat_lt (file_chunk at0.client file / 4) (length content)) (answers at0 (answer.Refused TooLong)) (attempts (noted at0 file None) x)
        (λ is. too_long config m reached client s alike none rows moment c refl file at (λ ds. refl) (sym same ∙ is))
        (λ fits. attempts_done (after m (Invoke client c)) client (new c) (opens_new c refl) (noted at0 file None) x
        (appended_hand (after m (Invoke client c)) client (new c) (opens_new c refl) at0 x None (begins_as c refl file at 0 (last_append s.files file) (sym same ∙ fits))))

    -- a read

    module _ (fd : Fd) (offset count : ℕ) (file : ℕ) (at : table.get s.descriptors fd.0 ≡ Some file) where
      abbrev read : Call
      read = call.Read fd offset count

      abbrev after_read : Machine
      after_read = after m (Invoke client read)

      part_false : (b : Bool) → (b ≡ true → ⊥) → b ≡ false
      part_false true h = absurd (h refl)
      part_false false h = refl

      empty_read : is_range_too_long offset count ≡ false → (count == 0) ≡ true → BegunAs read (answers at0 (answer.Bytes [] []))
      empty_read fits is =
          replies config m reached client s alike none rows moment read refl (answer.Bytes [] []) (λ ds. refl) (
            file,
            of_file read refl file at,
            [],
            part_false (has_part (chunk_size m file) offset count (offset / chunk_size m file)) (λ has. none_of_nothing (chunk_size m file) offset count (offset / chunk_size m file) (eqb-true count 0 is) has),
            refl,
            refl,
            fits,
          )

      first_read : is_range_too_long offset count ≡ false → 1 ≤ count → (part : ℕ) → part ≡ offset / chunk_size m file → IsDoneSoFar after_read (id_of client (new read)) file part [] [] [] read
      first_read fits any_at part is = (
        fits,
        ap (λ (i : ℕ). has_part (chunk_size m file) offset count i) is ∙ first_there (chunk_size m file) offset count (some fd.0 file at) any_at,
        record { pieces = []; are_whole = sym is; bytes_are = refl; rounds_are = refl },
      )

      reads : BegunAs read (calls_file at0 read file)
      reads =
          on_cond (BegunAs read) (is_range_too_long offset count) (answers at0 (answer.Refused TooLong)) _
          (λ is. too_long config m reached client s alike none rows moment read refl file at (λ ds. refl) is)
          (λ fits. on_cond (BegunAs read) (count == 0) (answers at0 (answer.Bytes [] [])) (attempts at0 (new_call s.config.attempts 0 read file (offset / file_chunk at0.client file) None))
          (λ is. empty_read fits is)
          (λ not_empty. attempts_done after_read client (new read) (opens_new read refl) at0 (new_call s.config.attempts 0 read file (offset / file_chunk at0.client file) None)
          (begins_as read refl file at (offset / file_chunk at0.client file) None (first_read fits (any count not_empty) (offset / file_chunk at0.client file) (ap (λ (size : ℕ). offset / size) (size_of fd.0 file at))))))

    file_goes : (c : Call) → is_name_call c ≡ false → (file : ℕ) → table.get s.descriptors (fd_of c) ≡ Some file → BegunAs c (calls_file at0 c file)
    file_goes (call.Close fd) plain file at = closes fd file at
    file_goes (call.Length fd) plain file at = lengths fd file at
    file_goes (call.Write fd offset content) plain file at = writes fd offset content file at
    file_goes (call.Append fd content) plain file at = appends fd content file at
    file_goes (call.Read fd offset count) plain file at = reads fd offset count file at
    file_goes other plain file at = absurd (true≢false plain)

    goes_on : (c : Call) (plain : is_name_call c ≡ false) (f : Option ℕ) → table.get s.descriptors (fd_of c) ≡ f → BegunAs c (calls_on at0 c f)
    goes_on c plain None at = bad config m reached client s alike none rows moment c plain at
    goes_on c plain (Some file) at = file_goes c plain file at

    pub begun : (c : Call) → is_name_call c ≡ false → BegunAs c (client_call_goes s moment c)
    begun c plain =
        on_cond (BegunAs c) (is_name_call c) (calls_names at0 c) (calls_on at0 c (table.get s.descriptors (fd_of c))) (λ name. absurd (true≢false (sym name ∙ plain)))
        (λ _. goes_on c plain (table.get s.descriptors (fd_of c)) refl)

pub file_calls_are_begun : FileCallsAreBegun
file_calls_are_begun config m reached client s alike none rows moment c plain =
    let idle_now = idle config m reached client s alike none rows moment c plain in
    let names : (n : Machine) → AreNamesOf m n → AreNamesOf (after m (Invoke client c)) n = λ n same. (file_calls_keep_names m n client same).0 c plain idle_now in (
      record { allowed = idle_now; names = names; followed = begun config m reached client s alike none rows moment c plain },
      record { allowed = idle_now; names = names; followed = out_of_memory config m reached client s alike none rows moment c plain },
    )
