-- What is written to one of two names is not read in the other.
use Rattle.std.proofs.Common.{◌≡◌, ◌≢◌, ℕ, suc, ◌<◌, ◌≤◌, Bool, true, false, cond, ◌==◌, List, [], ◌∷◌, ◌++◌, length, Option, Some, None, refl, sym, ◌∙◌, ap, subst, arith, append_assoc}
use Rattle.std.specs.Prelude.{Contains, flat_map, nat_lt, MatchBool}
use Rattle.gfs_types.specs.declared.call.Call.{Call}
use Rattle.gfs_types.specs.declared.call.Call.TheVariants as call
use Rattle.gfs_types.specs.declared.answer.Answer.TheVariants as answer
use Rattle.gfs_types.specs.declared.ids.Fd.{Fd}
use Rattle.gfs_types.specs.declared.config.Config.{Config}
use Rattle.gfs_types.specs.Paths.{Path}
use Rattle.relaxed_file.specs.Names.{Node, File, node_at}
use Rattle.relaxed_file.specs.Parts.{part_length}
use Rattle.relaxed_file.specs.Order.{IsSelection}
use Rattle.relaxed_file.specs.Machine.{Machine, new_machine, Asked, OpenCall, Piece, chunk_at, chunk_size}
use Rattle.relaxed_file.specs.Answers.{IsDone, ArePieces}
use Rattle.relaxed_file.specs.Run.{Action, Return, Visible, Called, Answered, Passed, shown, after, LeadsTo, IsReached, IsRun, asked_now}
use Rattle.relaxed_file.specs.NotRuns.{waits}
use Rattle.relaxed_file.proofs.Tables.{from_some, contained}
use Rattle.relaxed_file.proofs.Reached.{leads_on, leads_by}
use Rattle.relaxed_file.proofs.Known.{NodeBelow}
use Rattle.relaxed_file.proofs.Grows.{grows_to, known_when_reached}
use Rattle.relaxed_file.proofs.CallSteps.{IsPieceOf, by_look, by_none}
use Rattle.relaxed_file.proofs.Moments.{leads, Split, split_shows, is_waiting, waits_as_seen, asked_of, caller_of}
use Rattle.relaxed_file.proofs.InCall.{WasRead, Exchange, exchange, answers_now}
use Rattle.relaxed_file.proofs.NotRuns.{shows_run}
use Rattle.machine_names.specs.FalseTraces.{AllAnswered, Lacks, WritesNone, TraceWritesNone, NoByteOfAnotherFile, NoWriteThroughSnapshot, NoWriteIntoSnapshot}
use Rattle.machine_names.proofs.Calm.{Calm, calm_when_idle, calm_to, Opened, opened_seen}
use Rattle.machine_names.proofs.Lacking.{OpenWritesNone, IsFine, AllLack, all_lack, FileLacks, file_step, silently, by_return, look_lacks, lacks_append}
use Rattle.machine_names.proofs.OneName.{one_name}
use Rattle.machine_names.proofs.Skipped.{keeps_file}

-- the call that is seen to be made is this one
made_is : (action : Action) (client who : ℕ) (asked c : Call) → shown action ≡ Some (Called client asked) → shown action ≡ Some (Called who c) → (who ≡ client) × (c ≡ asked)
made_is action client who asked c made called =
    let same : Called who c ≡ Called client asked = from_some (sym called ∙ made) in
    (caller_of who client c asked same, asked_of who client c asked same)

-- the rest of a read's pieces, where the last one may be shorter than its part
by_end : (byte size offset count : ℕ) (got : List Piece) (index : ℕ) (rest : List Piece) (b : Bool) → (ArePieces size offset count got index rest → Lacks byte (flat_map (λ p. p.bytes) rest))
    → MatchBool b (rest ≡ []) (ArePieces size offset count got index rest) → Lacks byte (flat_map (λ p. p.bytes) rest)
by_end byte size offset count got index rest true more none = subst (λ (ps : List Piece). Lacks byte (flat_map (λ p. p.bytes) ps)) (sym none) tt
by_end byte size offset count got index rest false more are = more are

-- the pieces of a read are some of those that it found
pieces_lack : (byte size offset count : ℕ) (got : List Piece) (index : ℕ) (pieces : List Piece) → ((piece : Piece) → Contains got piece → Lacks byte piece.bytes)
    → ArePieces size offset count got index pieces → Lacks byte (flat_map (λ piece. piece.bytes) pieces)
pieces_lack byte size offset count got index [] each are = tt
pieces_lack byte size offset count got index (piece ∷ rest) each are =
    lacks_append byte piece.bytes (flat_map (λ p. p.bytes) rest) (each piece are.1)
    (by_end byte size offset count got (suc index) rest (nat_lt (length piece.bytes) (part_length size offset count index)) (pieces_lack byte size offset count got (suc index) rest each) are.3)

-- a call that writes the byte nowhere doesn't write it here
fine : (byte : ℕ) (config : Config) (file : ℕ) (o : Option OpenCall) → OpenWritesNone byte o → IsFine byte config file o
fine byte config file None h = tt
fine byte config file (Some c) h = λ on. h

module _ (config : Config) (client file copy : ℕ) (fd fe : Fd) (offset place count byte : ℕ) (bytes found rounds : List ℕ) (later : List Visible) (m n : Machine)
    (some : byte ≡ 0 → ⊥) (apart : file ≡ copy → ⊥) (lacks : FileLacks byte config file m)
    (read_file : (k : Machine) → LeadsTo m k → (g : ℕ) → (k.clients client).descriptors fd.0 ≡ Some g → g ≡ file)
    (written_file : (k : Machine) → LeadsTo m k → (g : ℕ) → (k.clients client).descriptors fe.0 ≡ Some g → g ≡ copy)
    (a : Exchange m n client (call.Write fe offset bytes) answer.Done (Called client (call.Read fd place count) ∷ Answered client (answer.Bytes found rounds) ∷ later)) where
  abbrev after_write : Machine
  after_write = after a.answered (Return client answer.Done)

  -- the write is one to the other file
  write_other : (who : ℕ) (c : Call) → shown a.action ≡ Some (Called who c) → (asked_now a.at who c).file ≡ Some file → WritesNone byte c
  write_other who c called on =
      let is : (who ≡ client) × (c ≡ call.Write fe offset bytes) = made_is a.action client who (call.Write fe offset bytes) c a.made called in
      let here : ((a.at).clients client).descriptors fe.0 ≡ Some file =
      subst (λ k. (asked_now a.at k (call.Write fe offset bytes)).file ≡ Some file) is.0 (subst (λ d. (asked_now a.at who d).file ≡ Some file) is.1 on) in
      absurd (apart (written_file a.at (leads m a.at [] a.before) file here))

  lacks_written : FileLacks byte config file after_write
  lacks_written =
      by_return byte config file a.answered client answer.Done (answers_now m n client (call.Write fe offset bytes) answer.Done _ a)
      (silently byte config file (after a.at a.action) a.answered (a.inside).since
      (file_step byte config file a.at a.action a.allowed write_other (silently byte config file m a.at a.before lacks)))

  to_written : LeadsTo m after_write
  to_written =
      leads_on m a.at after_write (leads m a.at [] a.before)
      (leads_on a.at (after a.at a.action) after_write (leads_by a.at a.action a.allowed)
      (leads_on (after a.at a.action) a.answered after_write (leads _ a.answered [] (a.inside).since)
      (leads_by a.answered (Return client answer.Done) (answers_now m n client (call.Write fe offset bytes) answer.Done _ a))))

  b : Exchange after_write n client (call.Read fd place count) (answer.Bytes found rounds) later
  b = exchange after_write n client (call.Read fd place count) (answer.Bytes found rounds) later tt a.then

  abbrev asked : Asked
  asked = asked_now b.at client (call.Read fd place count)

  abbrev start : Machine
  start = after b.at b.action

  lacks_start : FileLacks byte config file start
  lacks_start =
      file_step byte config file b.at b.action b.allowed
      (λ who c called on. subst (WritesNone byte) (sym (made_is b.action client who (call.Read fd place count) c b.made called).1) tt)
      (silently byte config file after_write b.at b.before lacks_written)

  file_of_call : (c : OpenCall) (f : ℕ) → c.asked ≡ asked → c.asked.file ≡ Some f → f ≡ file
  file_of_call c f same on = read_file b.at (leads_on m after_write b.at to_written (leads after_write b.at [] b.before)) f (ap (λ (s : Asked). s.file) (sym same) ∙ on)

  piece_lacks : (piece : Piece) → WasRead start client asked piece → Lacks byte piece.bytes
  piece_lacks piece read = by_kind read.5
    where
      by_kind : IsPieceOf read.0 client read.2 piece → Lacks byte piece.bytes
      by_kind (by_look f i least last chosen may piece_is) =
          let on : f ≡ file = file_of_call read.2 f read.4 may.0 in
          let there : FileLacks byte config file read.0 = silently byte config file start read.0 read.1 lacks_start in
          let chose = may.2.3 in
          subst (λ (p : Piece). Lacks byte p.bytes) (sym piece_is)
          (look_lacks byte some (chunk_size read.0 f) i last (read.2).asked.call _ chosen (subst (λ g. IsSelection last (chunk_at read.0 g i).order chosen) on chose) (there.chunks i))
      by_kind (by_none i past piece_is) = subst (λ (p : Piece). Lacks byte p.bytes) (sym piece_is) tt

  done : IsDone b.answered client (b.inside).call (call.Read fd place count) (answer.Bytes found rounds)
  done = subst (λ c. IsDone b.answered client (b.inside).call c (answer.Bytes found rounds)) (ap (λ (s : Asked). s.call) (b.inside).asked_is) b.may

  found_lacks : Lacks byte found
  found_lacks = subst (Lacks byte) (sym done.4)
      (pieces_lack byte _ place count (b.inside).call.pieces _ done.2 (λ piece got. piece_lacks piece (contained (WasRead start client asked) (b.inside).call.pieces piece (b.inside).pieces got)) done.3)

pub no_byte_of_another_file : NoByteOfAnotherFile
no_byte_of_another_file config before later client read written fd fe offset place count byte bytes found rounds idle differ some clean there run =
    let cut : Split (new_machine config) run.0 before _ = split_shows before _ run.0 _ (shows_run config _ run) in
    let quiet : (who : ℕ) → is_waiting ((cut.at).clients who).open_call ≡ false = λ who. waits_as_seen who (new_machine config) cut.at before cut.front ∙ idle who in
    let node_r : Option Node = node_at (cut.at).names read in
    let node_w : Option Node = node_at (cut.at).names written in
    let mid : Split cut.at run.0 (Called client (call.Open read) ∷ Answered client (answer.Fd fd) ∷ []) _ = split_shows _ cut.at run.0 _ cut.back in
    let first : Opened read node_r cut.at mid.at client fd [] = opened_seen read node_r cut.at mid.at client fd [] (calm_when_idle read node_r cut.at refl quiet) mid.front in
    let calm : Calm written node_w mid.at = calm_to written node_w cut.at mid.at _ mid.front (tt, tt) (calm_when_idle written node_w cut.at refl quiet) in
    let end : Split mid.at run.0 (Called client (call.Open written) ∷ Answered client (answer.Fd fe) ∷ []) _ = split_shows _ mid.at run.0 _ mid.back in
    let second : Opened written node_w mid.at end.at client fe [] = opened_seen written node_w mid.at end.at client fe [] calm end.front in
    let reached_cut : IsReached config cut.at = leads _ cut.at before cut.front in
    let reached_first : IsReached config first.done = leads_on (new_machine config) cut.at first.done reached_cut first.way in
    let reached_mid : IsReached config mid.at = leads_on (new_machine config) cut.at mid.at reached_cut (leads cut.at mid.at _ mid.front) in
    let reached_second : IsReached config second.done = leads_on (new_machine config) mid.at second.done reached_mid second.way in
    let reached : IsReached config end.at = leads_on (new_machine config) mid.at end.at reached_mid (leads mid.at end.at _ end.front) in
    let apart : first.file ≡ second.file → ⊥ = λ same. differ (one_name config cut.at reached_cut read written first.file first.stood (second.stood ∙ ap (λ f. Some (File f)) (sym same))) in
    let first_to : LeadsTo first.done end.at = leads_on first.done mid.at end.at (leads first.done mid.at [] first.then) (leads mid.at end.at _ end.front) in
    let second_to : LeadsTo second.done end.at = leads second.done end.at [] second.then in
    let all : AllLack byte end.at = all_lack byte mid.at end.at _ end.front (tt, tt) (all_lack byte cut.at mid.at _ mid.front (tt, tt) (all_lack byte (new_machine config) cut.at before cut.front clean (record { chunks = λ file index. tt; calls = λ who. tt }))) in
    let below : first.file < suc (cut.at).file_count = subst (NodeBelow (suc (cut.at).file_count)) first.stood ((known_when_reached config cut.at reached_cut).names read) in
    let more : (cut.at).file_count ≤ (end.at).file_count = (grows_to cut.at end.at (leads_on cut.at mid.at end.at (leads cut.at mid.at _ mid.front) (leads mid.at end.at _ end.front)) (known_when_reached config cut.at reached_cut)).file_count in
    let lacks : FileLacks byte config first.file end.at = record {
      reached = reached;
      made = omega (arith, below, more);
      chunks = all.chunks first.file;
      calls = λ who. fine byte config first.file ((end.at).clients who).open_call (all.calls who);
    } in
    contained (λ b. b ≢ byte) found byte
    (found_lacks config client first.file second.file fd fe offset place count byte bytes found rounds later end.at run.0 some apart lacks
    (λ k way g now. keeps_file first.done k client first.file g fd (known_when_reached config first.done reached_first) (leads_on first.done end.at k first_to way) first.descriptor first.counted now)
    (λ k way g now. keeps_file second.done k client second.file g fe (known_when_reached config second.done reached_second) (leads_on second.done end.at k second_to way) second.descriptor second.counted now)
    (exchange end.at run.0 client (call.Write fe offset bytes) answer.Done _ tt end.back))
    there refl

abbrev snapshot_done : ℕ → Path → Path → List Visible
snapshot_done client source copy = Called client (call.Snapshot source copy) ∷ Answered client answer.Done ∷ []

-- once the snapshot is answered nobody waits again
waits_on : (one two : List Visible) (client : ℕ) (now : Bool) → waits client now (one ++ two) ≡ waits client (waits client now one) two
waits_on [] two client now = refl
waits_on (Called who c ∷ rest) two client now = waits_on rest two client (cond (client == who) true now)
waits_on (Answered who reply ∷ rest) two client now = waits_on rest two client (cond (client == who) false now)
waits_on (Passed moment ∷ rest) two client now = waits_on rest two client now

waits_no_more : (b now : Bool) → now ≡ false → cond b false (cond b true now) ≡ false
waits_no_more true now h = refl
waits_no_more false now h = h

after_snapshot : (before : List Visible) (client : ℕ) (source copy : Path) → AllAnswered before
    → AllAnswered (before ++ snapshot_done client source copy)
after_snapshot before client source copy idle who = waits_on before (snapshot_done client source copy) who false ∙ waits_no_more (who == client) (waits who false before) (idle who)

writes_no_more : (byte : ℕ) (before : List Visible) (client : ℕ) (source copy : Path) → TraceWritesNone byte before
    → TraceWritesNone byte (before ++ snapshot_done client source copy)
writes_no_more byte [] client source copy clean = (tt, tt)
writes_no_more byte (Called who c ∷ rest) client source copy clean = (clean.0, writes_no_more byte rest client source copy clean.1)
writes_no_more byte (Answered who reply ∷ rest) client source copy clean = writes_no_more byte rest client source copy clean
writes_no_more byte (Passed moment ∷ rest) client source copy clean = writes_no_more byte rest client source copy clean

pub no_write_through_snapshot : NoWriteThroughSnapshot
no_write_through_snapshot config before later client source copy fd fe offset place count byte bytes found rounds idle differ some clean there run =
    no_byte_of_another_file config (before ++ (snapshot_done client source copy)) later client source copy fd fe offset place count byte bytes found rounds
    (after_snapshot before client source copy idle) differ some (writes_no_more byte before client source copy clean) there
    (subst (IsRun config) (sym (append_assoc before (snapshot_done client source copy) _)) run)

pub no_write_into_snapshot : NoWriteIntoSnapshot
no_write_into_snapshot config before later client source copy fd fe offset place count byte bytes found rounds idle differ some clean there run =
    no_byte_of_another_file config (before ++ (snapshot_done client source copy)) later client copy source fd fe offset place count byte bytes found rounds
    (after_snapshot before client source copy idle) (λ same. differ (sym same)) some (writes_no_more byte before client source copy clean) there
    (subst (IsRun config) (sym (append_assoc before (snapshot_done client source copy) _)) run)
