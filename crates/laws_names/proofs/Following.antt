-- What goes beside a step of the master so far: the machine, and for each log that a stop would leave a state of the machine.
use Rattle.std.proofs.Common.{◌≡◌, ℕ, true, List, [], ◌∷◌, ◌++◌, Option, Some, None, refl, sym, ap, subst, ◌∙◌, inl}
use Rattle.std.specs.Prelude.{IfSome}
use Rattle.std.specs.List.{AllByRecursion}
use Rattle.std.specs.FinMap as table
use Rattle.gfs_types.specs.declared.config.Config.{Config}
use Rattle.messages.specs.declared.message.Body.{Body}
use Rattle.messages.specs.declared.message.Body.TheVariants as body
use Rattle.messages.specs.declared.message.Message.{Message}
use Rattle.log_records.specs.declared.record.Record.{Record}
use Rattle.log_records.specs.declared.record.Record.TheVariants as log
use Rattle.relaxed_file.specs.Names.{Names, node_at}
use Rattle.relaxed_file.specs.Machine.{Machine, new_machine}
use Rattle.relaxed_file.proofs.NamesTree.{Tree}
use Rattle.machine_names.specs.NameRuns.{LeadsByNames}
use Rattle.machine_names.proofs.Runs.{name_runs_go_on}
use Rattle.protocol.specs.Tables.{Table}
use Rattle.protocol.specs.Logged.{Logged, KeptCall, LogDisk, LogChange, AppendRecord, WriteCheckpoint, first_logged, log_changed, log_changed_by_all, after_record, after_records, checkpoint_of, copies_given_up, all_copies_given_up}
use Rattle.protocol.specs.Master.{PendingSnapshot}
use Rattle.protocol.specs.Sending.{client_number}
use Rattle.laws_base.proofs.OrderNumbers.{state_of, state-appended, AllStops, stops_push, changed-push}
use Rattle.laws_base.proofs.LoggedParts.{Parts, parts_of, parts_are_after, same_after, checkpoint_parts}
use Rattle.laws_base.proofs.OneName.{HasOneName}
use Rattle.laws_base.proofs.CountsLogged.{IsFoundCounts, IsCountedLog}
use Rattle.laws_base.proofs.CountsKept.{counts_kept}
use Rattle.laws_base.proofs.NamesReached.{IsGood}
use Rattle.laws_names.specs.Alike.{Requests, AreUntaken, AreAlike, is_there}
use Rattle.laws_names.specs.NameSteps.{IsOfChunks}
use Rattle.laws_names.proofs.FilesThere.{same_truth}
use Rattle.laws_names.proofs.LocksAndFiles.{chunks_change_no_names}
use Rattle.laws_names.specs.Followed.{IsTold, IsToldTo, AreKeptOn}
use Rattle.laws_names.proofs.Moves.{IsMove, Keeps, join, kept_then}
use Rattle.laws_names.proofs.ChunkWalk.{IsUnnamed, KeepsChunks}
use Rattle.laws_names.specs.FollowedSteps.{ComesTo}
use Rattle.laws_names.specs.NameTrails.{AreQuiet, RunsQuietly, IsChunkRecord, IsChangeOf, IsBesideLog, NameTrail}
use Rattle.relaxed_file.specs.Run.{Action, after}
use Rattle.laws_base.proofs.ShapesKept.{checkpoint_read}
use Rattle.laws_base.proofs.ShapesTold.{back_shape}
use Rattle.chunk_table.specs.ChunkTable.{shape_of}

-- stops

stops_split : (P : LogDisk → Type 0) (d : LogDisk) (xs : List LogChange) (x : LogChange) → AllStops P d (xs ++ x ∷ []) → AllStops P d xs × P (log_changed (log_changed_by_all d xs) x)
stops_split P d [] x h = (h.0, h.1)
stops_split P d (y ∷ ys) x h =
    let rest = stops_split P (log_changed d y) ys x h.1 in
    ((h.0, rest.0), rest.1)

last_stop : (P : LogDisk → Type 0) (d : LogDisk) (xs : List LogChange) → AllStops P d xs → P (log_changed_by_all d xs)
last_stop P d [] h = h
last_stop P d (x ∷ xs) h = last_stop P (log_changed d x) xs h.1

-- the machine's states along the changes

quiet_then : (m a n : Machine) (xs ys : List Action) → AreQuiet m xs a → AreQuiet a ys n → AreQuiet m (xs ++ ys) n
quiet_then m a n [] ys one two = subst (λ (x : Machine). AreQuiet x ys n) (sym one) two
quiet_then m a n (action ∷ xs) ys one two = (one.0, one.1, quiet_then (after m action) a n xs ys one.2 two)

trail_quiet : (requests : Requests) (first : Machine) (start d : LogDisk) (m : Machine) (xs : List LogChange) (n later : Machine) → NameTrail requests first start d m xs n → RunsQuietly n later → NameTrail requests first start d m xs later
trail_quiet requests first start d m [] n later t quiet = (t.0 ++ quiet.0, quiet_then m n later t.0 quiet.0 t.1 quiet.1)
trail_quiet requests first start d m (x ∷ xs) n later t quiet = (t.0, t.1, t.2, t.3, t.4, trail_quiet requests first start (log_changed d x) t.1 xs n later t.5 quiet)

trail_push : (requests : Requests) (first : Machine) (start d : LogDisk) (m : Machine) (xs : List LogChange) (n later : Machine) (x : LogChange) → NameTrail requests first start d m xs n → IsChangeOf n later x
    → IsBesideLog requests first start (log_changed (log_changed_by_all d xs) x) later → NameTrail requests first start d m (xs ++ x ∷ []) later
trail_push requests first start d m [] n later x t change beside = (n, later, t, change, beside, ([], refl))
trail_push requests first start d m (y ∷ ys) n later x t change beside = (t.0, t.1, t.2, t.3, t.4, trail_push requests first start (log_changed d y) t.1 ys n later x t.5 change beside)

-- logs that say the same

-- where each file has one name, the names tell which files there are
same_keys : (l k : Logged) → l.names ≡ k.names → HasOneName l → HasOneName k → (file : ℕ) → table.contains_key l.table.files file ≡ true → table.contains_key k.table.files file ≡ true
same_keys l k same one two file has =
    let name = one.named.named file has in
    two.named.there name.0 file (ap (λ (names : Names). node_at names name.0) (sym same) ∙ name.1)

-- the shapes of the other one are known
pub same_names_alike : (l k : Logged) (n : Machine) (requests : Requests) → parts_of l ≡ parts_of k → HasOneName l → HasOneName k → AreAlike l [] n requests
    → ((file : ℕ) → is_there n file ≡ true → table.contains_key k.table.files file ≡ true → shape_of k.table file ≡ (n.files file).shape) → AreAlike k [] n requests
same_names_alike l k n requests same one two a shapes =
    let names : l.names ≡ k.names = ap (λ (p : Parts). p.names) same in
    let files : (file : ℕ) → table.contains_key k.table.files file ≡ is_there n file =
    λ file. same_truth (table.contains_key k.table.files file) (table.contains_key l.table.files file) (same_keys k l (sym names) two one file) (same_keys l k names one two file) ∙ a.files file in
    record {
      names = sym names ∙ a.names;
      next = ap (λ (p : Parts). p.next_file) (sym same) ∙ a.next;
      files = files;
      shapes = λ file has. shapes file (sym (files file) ∙ has) has;
      kept = λ client x is. a.kept client x (ap (λ (p : Parts). table.get p.kept client) same ∙ is);
      untaken = subst (λ (t : Table KeptCall). AreUntaken t n requests) (ap (λ (p : Parts). p.kept) same) a.untaken;
      locks = tt;
    }

if_some : {A : Type 0} (P : A → Type 0) (o : Option A) → ((x : A) → o ≡ Some x → P x) → IfSome o P
if_some P None f = tt
if_some P (Some x) f = f x refl

-- a record about chunks is so at the log too
of_chunks_too : (l k : Logged) (r : Record) → ((file : ℕ) → table.contains_key l.table.files file ≡ table.contains_key k.table.files file) → HasOneName k → IsOfChunks l r → IsOfChunks k r
of_chunks_too l k (log.Epoch epoch) same one is = tt
of_chunks_too l k (log.AddChunk file handle) same one is = sym (same file.0) ∙ is
of_chunks_too l k (log.Issue handle version) same one is = tt
of_chunks_too l k (log.Grant handle version primary members) same one is = if_some (λ c. table.contains_key k.table.files c.file ≡ true) (table.get k.copies handle.0) (λ c at. one.copied handle.0 c at)
of_chunks_too l k (log.CopyStart file index handle copy copy_version) same one is = tt
of_chunks_too l k other same one is = absurd is

of_chunks : (l : Logged) (r : Record) → IsOfChunks l r → IsChunkRecord r
of_chunks l (log.Epoch epoch) is = tt
of_chunks l (log.AddChunk file handle) is = tt
of_chunks l (log.Issue handle version) is = tt
of_chunks l (log.Grant handle version primary members) is = tt
of_chunks l (log.CopyStart file index handle copy copy_version) is = tt
of_chunks l other is = absurd is

-- such a record answers nobody
chunk_kept : (l : Logged) (r : Record) → IsOfChunks l r → (after_record l r).kept ≡ l.kept
chunk_kept l (log.Epoch epoch) is = refl
chunk_kept l (log.AddChunk file handle) is = refl
chunk_kept l (log.Issue handle version) is = refl
chunk_kept l (log.Grant handle version primary members) is = ap (λ (p : Parts). p.kept) (parts_are_after l (log.Grant handle version primary members))
chunk_kept l (log.CopyStart file index handle copy copy_version) is = refl
chunk_kept l other is = absurd is

-- what clients are told

still_told : (m n : Machine) (requests : Requests) (sent : List Message) → ((x : Message) → IsTold m requests x → IsTold n requests x) → AllByRecursion (IsTold m requests) sent → AllByRecursion (IsTold n requests) sent
still_told m n requests [] more all = tt
still_told m n requests (x ∷ rest) more all = (more x all.0, still_told m n requests rest more all.1)

one_more_told : (n : Machine) (requests : Requests) (sent : List Message) (x : Message) → IsTold n requests x → AllByRecursion (IsTold n requests) sent → AllByRecursion (IsTold n requests) (sent ++ x ∷ [])
one_more_told n requests [] x told all = (told, tt)
one_more_told n requests (y ∷ rest) x told all = (all.0, one_more_told n requests rest x told all.1)

told_unnamed : (n : Machine) (requests : Requests) (client : ℕ) (b : Body) → IsUnnamed b → IsToldTo n requests client b
told_unnamed n requests client (body.Named number reply) is = absurd is
told_unnamed n requests client other is = tt

abbrev pub IsGoodLog : LogDisk → Type 0
IsGoodLog k = IsGood IsFoundCounts IsCountedLog counts_kept k

module _ (config : Config) (requests : Requests) (first : Machine) (start : LogDisk) where
  -- the machine follows to where this log has come
  abbrev pub IsFollowedTo : LogDisk → Type 0
  IsFollowedTo k = (n : Machine) × ComesTo first n requests × AreAlike (state_of k) [] n requests × AreKeptOn requests (state_of start).kept (state_of k).kept

  pub record HasLog (n : Machine) (l : Logged) (k : LogDisk) (cs : List LogChange) : Type 0 where
    pub disk : log_changed_by_all start cs ≡ k
    pub same : parts_of l ≡ parts_of (state_of k)
    pub alone : AreAlike (state_of k) [] n requests
    pub stops : AllStops IsFollowedTo start cs
    pub trail : NameTrail requests first start start first cs n

  -- The log's side is known where each log that a stop may leave is sound.
  pub record IsFollowing (n : Machine) (l : Logged) (k : LogDisk) (cs : List LogChange) (sent : List Message) (ss : List PendingSnapshot) : Type 0 where
    pub alike : AreAlike l ss n requests
    pub told : AllByRecursion (IsTold n requests) sent
    pub run : LeadsByNames (new_machine config) n
    pub comes : ComesTo first n requests
    pub kept_on : AreKeptOn requests (state_of start).kept l.kept
    pub log : AllStops IsGoodLog start cs → HasLog n l k cs

  -- one change more
  grown : (m n : Machine) (l more : Logged) (k : LogDisk) (cs : List LogChange) (x : LogChange) → ComesTo first n requests → AreKeptOn requests (state_of start).kept more.kept → parts_of more ≡ parts_of (state_of (log_changed k x)) → AreAlike (state_of (log_changed k x)) [] n requests
      → IsChangeOf m n x → HasLog m l k cs → HasLog n more (log_changed k x) (cs ++ x ∷ [])
  grown m n l more k cs x comes kept_on same alone change h =
      record {
        disk = changed-push start cs x ∙ ap (λ (d : LogDisk). log_changed d x) h.disk;
        same = same;
        alone = alone;
        stops = stops_push IsFollowedTo start cs x h.stops (subst (λ (d : LogDisk). IsFollowedTo (log_changed d x)) (sym h.disk)
            (n, comes, alone, subst (λ (p : Parts). AreKeptOn requests (state_of start).kept p.kept) same kept_on));
        trail = trail_push requests first start start first cs m n x h.trail change (subst (λ (d : LogDisk). IsBesideLog requests first start (log_changed d x) n) (sym h.disk)
            (record { comes = comes; alike = alone; kept_on = subst (λ (p : Parts). AreKeptOn requests (state_of start).kept p.kept) same kept_on }));
      }

  recorded : (m n : Machine) (l : Logged) (k : LogDisk) (cs : List LogChange) (r : Record) → ComesTo first n requests → AreKeptOn requests (state_of start).kept (after_record l r).kept → AreAlike (after_record (state_of k) r) [] n requests → IsChangeOf m n (AppendRecord r) → HasLog m l k cs
      → HasLog n (after_record l r) (log_changed k (AppendRecord r)) (cs ++ AppendRecord r ∷ [])
  recorded m n l k cs r comes kept_on alone change h =
      grown m n l (after_record l r) k cs (AppendRecord r) comes kept_on (same_after l (state_of k) r h.same ∙ sym (ap (λ (x : Logged). parts_of x) (state-appended k r)))
      (subst (λ (x : Logged). AreAlike x [] n requests) (sym (state-appended k r)) alone) change h

  good_here : (n : Machine) (l : Logged) (k : LogDisk) (cs : List LogChange) → AllStops IsGoodLog start cs → HasLog n l k cs → IsGoodLog k
  good_here n l k cs good h = subst (λ (d : LogDisk). IsGoodLog d) h.disk (last_stop IsGoodLog start cs good)

  moved : (m n : Machine) (l : Logged) (k : LogDisk) (cs : List LogChange) (sent : List Message) (ss later : List PendingSnapshot) → IsMove m n requests ss later (λ x. x) → RunsQuietly m n → IsFollowing m l k cs sent ss → IsFollowing n l k cs sent later
  moved m n l k cs sent ss later move quiet h =
      record {
        alike = move.alike l h.alike;
        told = still_told m n requests sent move.told h.told;
        run = (name_runs_go_on (new_machine config) m n h.run (move.run).0).0;
        comes = record { run = join first m n (h.comes).run move.run; told = λ x t. move.told x ((h.comes).told x t) };
        kept_on = h.kept_on;
        log = λ good. let g = h.log good in record { disk = g.disk; same = g.same; alone = move.alone (state_of k) g.alone; stops = g.stops; trail = trail_quiet requests first start start first cs m n g.trail quiet };
      }

  recorded_move : (m n : Machine) (l : Logged) (k : LogDisk) (cs : List LogChange) (sent : List Message) (ss : List PendingSnapshot) (r : Record) → IsMove m n requests ss ss (λ x. after_record x r) → IsChangeOf m n (AppendRecord r) → IsFollowing m l k cs sent ss
      → IsFollowing n (after_record l r) (log_changed k (AppendRecord r)) (cs ++ AppendRecord r ∷ []) sent ss
  recorded_move m n l k cs sent ss r move change h =
      let comes : ComesTo first n requests = record { run = join first m n (h.comes).run move.run; told = λ x t. move.told x ((h.comes).told x t) } in
      let kept_on : AreKeptOn requests (state_of start).kept (after_record l r).kept = kept_then requests (state_of start).kept l.kept (after_record l r).kept h.kept_on (move.kept_on l ss h.alike) in
      record {
        alike = move.alike l h.alike;
        told = still_told m n requests sent move.told h.told;
        run = (name_runs_go_on (new_machine config) m n h.run (move.run).0).0;
        comes = comes;
        kept_on = kept_on;
        log = λ good.
            let g = h.log (stops_split IsGoodLog start cs (AppendRecord r) good).0 in
            recorded m n l k cs r comes kept_on (move.alone (state_of k) g.alone) change g;
      }

  -- a record about chunks
  pub chunk_kept_on : (l : Logged) (r : Record) → IsOfChunks l r → AreKeptOn requests (state_of start).kept l.kept → AreKeptOn requests (state_of start).kept (after_record l r).kept
  chunk_kept_on l r is h = subst (λ (t : Table KeptCall). AreKeptOn requests (state_of start).kept t) (sym (chunk_kept l r is)) h

  pub chunk_log : (n : Machine) (l : Logged) (k : LogDisk) (cs : List LogChange) (ss : List PendingSnapshot) (r : Record) → ComesTo first n requests → AreKeptOn requests (state_of start).kept l.kept → IsOfChunks l r → AreAlike l ss n requests
      → (AllStops IsGoodLog start cs → HasLog n l k cs) → AllStops IsGoodLog start (cs ++ AppendRecord r ∷ []) → HasLog n (after_record l r) (log_changed k (AppendRecord r)) (cs ++ AppendRecord r ∷ [])
  chunk_log n l k cs ss r comes kept_on is a h good =
      let before = (stops_split IsGoodLog start cs (AppendRecord r) good).0 in
      let g = h before in
      let one : HasOneName (state_of k) = (good_here n l k cs before g).1.base.one_name in
      let too : IsOfChunks (state_of k) r = of_chunks_too l (state_of k) r (λ file. a.files file ∙ sym ((g.alone).files file)) one is in
      recorded n n l k cs r comes (chunk_kept_on l r is kept_on) ((chunks_change_no_names (state_of k) [] n requests g.alone).0 r too) (inl (of_chunks l r is, refl)) g

  recorded_chunks : (n : Machine) (l : Logged) (k : LogDisk) (cs : List LogChange) (sent : List Message) (ss : List PendingSnapshot) (r : Record) → IsOfChunks l r → IsFollowing n l k cs sent ss
      → IsFollowing n (after_record l r) (log_changed k (AppendRecord r)) (cs ++ AppendRecord r ∷ []) sent ss
  recorded_chunks n l k cs sent ss r is h =
      record {
        alike = (chunks_change_no_names l ss n requests h.alike).0 r is;
        told = h.told;
        run = h.run;
        comes = h.comes;
        kept_on = chunk_kept_on l r is h.kept_on;
        log = chunk_log n l k cs ss r h.comes h.kept_on is h.alike h.log;
      }

  -- a checkpoint, read again
  pub checkpoint_log : (n : Machine) (l : Logged) (k : LogDisk) (cs : List LogChange) → ComesTo first n requests → AreKeptOn requests (state_of start).kept l.kept → (ss : List PendingSnapshot) → AreAlike l ss n requests
      → (AllStops IsGoodLog start cs → HasLog n l k cs) → AllStops IsGoodLog start (cs ++ WriteCheckpoint (checkpoint_of l) ∷ [])
      → HasLog n (all_copies_given_up l) (log_changed k (WriteCheckpoint (checkpoint_of l))) (cs ++ WriteCheckpoint (checkpoint_of l) ∷ [])
  checkpoint_log n l k cs comes kept_on ss alike h good =
      let x : LogChange = WriteCheckpoint (checkpoint_of l) in
      let new : Logged = after_records first_logged (checkpoint_of l) in
      let parts = stops_split IsGoodLog start cs x good in
      let g = h parts.0 in
      let here = good_here n l k cs parts.0 g in
      let later : IsGoodLog (log_changed k x) = subst (λ (d : LogDisk). IsGoodLog (log_changed d x)) g.disk parts.1 in
      let tree : Tree l.names = subst (λ (names : Names). Tree names) (sym (ap (λ (p : Parts). p.names) g.same)) here.0 in
      let same : parts_of new ≡ parts_of l = checkpoint_parts l tree in
      grown n n l (all_copies_given_up l) k cs x comes kept_on (sym same)
      (same_names_alike (state_of k) new n requests (sym g.same ∙ sym same) here.1.base.one_name later.1.base.one_name g.alone
      (λ file there has. back_shape l.table new file (checkpoint_read l) has ∙ alike.shapes file (alike.files file ∙ there))) refl g

  pub checkpointed : (n : Machine) (l : Logged) (k : LogDisk) (cs : List LogChange) (sent : List Message) (ss : List PendingSnapshot) → IsFollowing n l k cs sent ss
      → IsFollowing n (all_copies_given_up l) (log_changed k (WriteCheckpoint (checkpoint_of l))) (cs ++ WriteCheckpoint (checkpoint_of l) ∷ []) sent ss
  checkpointed n l k cs sent ss h =
      record {
        alike = (chunks_change_no_names l ss n requests h.alike).1 (table.keys l.copies);
        told = h.told;
        run = h.run;
        comes = h.comes;
        kept_on = h.kept_on;
        log = checkpoint_log n l k cs h.comes h.kept_on ss h.alike h.log;
      }

  pub fewer : (n : Machine) (l : Logged) (k : LogDisk) (cs : List LogChange) (sent : List Message) (ss : List PendingSnapshot) (handles : List ℕ) → IsFollowing n l k cs sent ss → IsFollowing n (copies_given_up l handles) k cs sent ss
  fewer n l k cs sent ss handles h =
      record {
        alike = (chunks_change_no_names l ss n requests h.alike).1 handles;
        told = h.told;
        run = h.run;
        comes = h.comes;
        kept_on = h.kept_on;
        log = λ good. let g = h.log good in record { disk = g.disk; same = g.same; alone = g.alone; stops = g.stops; trail = g.trail };
      }

  pub one_told : (n : Machine) (l : Logged) (k : LogDisk) (cs : List LogChange) (sent : List Message) (ss : List PendingSnapshot) (x : Message) → IsTold n requests x → IsFollowing n l k cs sent ss → IsFollowing n l k cs (sent ++ x ∷ []) ss
  one_told n l k cs sent ss x told h = record { alike = h.alike; told = one_more_told n requests sent x told h.told; run = h.run; comes = h.comes; kept_on = h.kept_on; log = h.log }

  pub following_keeps : Keeps requests IsFollowing
  following_keeps =
      record {
        alike = λ n l k cs sent ss h. h.alike;
        moves = moved;
        records = recorded_move;
        tells = one_told;
        checkpoint = checkpointed;
        less = fewer;
      }

  -- what is about chunks needs no move of the machine
  abbrev pub IsFollowingHere : Machine → List PendingSnapshot → Logged → LogDisk → List LogChange → List Message → Type 0
  IsFollowingHere n ss l k cs sent = IsFollowing n l k cs sent ss

  pub following_chunks : (n : Machine) → KeepsChunks (IsFollowingHere n)
  following_chunks n =
      record {
        tells = λ ss l k cs sent x is h. one_told n l k cs sent ss x (told_unnamed n requests (client_number x.receiver) x.body is) h;
        records = λ ss l k cs sent r is h. recorded_chunks n l k cs sent ss r is h;
        checkpoint = λ ss l k cs sent h. checkpointed n l k cs sent ss h;
        less = λ ss l k cs sent handles h. fewer n l k cs sent ss handles h;
        ends = λ ss l k cs sent handle moment h. record {
          alike = record { names = (h.alike).names; next = (h.alike).next; files = (h.alike).files; shapes = (h.alike).shapes; kept = (h.alike).kept; untaken = (h.alike).untaken; locks = (h.alike).locks };
          told = h.told;
          run = h.run;
          comes = h.comes;
          kept_on = h.kept_on;
          log = λ good. let g = h.log good in record { disk = g.disk; same = g.same; alone = g.alone; stops = g.stops; trail = g.trail };
        };
      }
