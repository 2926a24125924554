-- How many attempts a client's open call may still make, beside those that it made so far: what a step or a call leaves of it.
use Rattle.std.proofs.Common.{◌≡◌, ◌⊎◌, ℕ, suc, ◌+◌, ◌/◌, ◌≤◌, ◌<◌, Bool, true, false, List, [], ◌∷◌, ◌++◌, length, Option, Some, None, refl, sym, ap, subst, ◌∙◌, inl, inr, arith}
use Rattle.std.specs.Prelude.{max, not, ◌==◌, ◌&&◌, ◌||◌, nat_lt}
use Rattle.std.specs.Option.{option_to_list}
use Rattle.std.specs.List.{list_any}
use Rattle.std.specs.FinMap as table
use Rattle.std.proofs.lemmas.Bool.{eqb-true, leb-false}
use Rattle.std.proofs.Math.Nat.{le-max_left, le-max_right}
use Rattle.gfs_types.specs.declared.config.Config.{Config}
use Rattle.gfs_types.specs.declared.ids.DataId.{DataId}
use Rattle.gfs_types.specs.declared.ids.ServerId.{ServerId}
use Rattle.gfs_types.specs.declared.call.Call.{Call}
use Rattle.gfs_types.specs.declared.call.Call.TheVariants as call
use Rattle.gfs_types.specs.declared.answer.Answer.{Answer}
use Rattle.gfs_types.specs.declared.answer.Answer.TheVariants as answer
use Rattle.gfs_types.specs.declared.refusal.Refusal.{Refusal}
use Rattle.gfs_types.specs.declared.refusal.Refusal.TheVariants.{TooLong, BadFd, Unknown, Collected, NoChunk, NoLease, ChunkFull}
use Rattle.messages.specs.declared.message.NameReply.{NameReply}
use Rattle.messages.specs.declared.message.NameReply.TheVariants.{Opened, Answered}
use Rattle.messages.specs.declared.message.Body.{Body}
use Rattle.messages.specs.declared.message.Body.TheVariants as body
use Rattle.messages.specs.declared.message.Message.{Message}
use Rattle.messages.specs.declared.message.Location.{Location}
use Rattle.messages.specs.declared.message.Holder.{Holder}
use Rattle.messages.specs.declared.message.Group.{Group}
use Rattle.messages.specs.declared.event.NodeInput.{NodeInput}
use Rattle.messages.specs.declared.event.NodeInput.TheVariants as input
use Rattle.relaxed_file.specs.NameStep.{is_look, is_name_call}
use Rattle.relaxed_file.specs.Parts.{is_range_too_long}
use Rattle.client_state.specs.declared.call.CurrentCall.{CurrentCall}
use Rattle.client_state.specs.declared.call.ToldChunk.{ToldChunk}
use Rattle.client_state.specs.declared.call.Stage.{Stage}
use Rattle.client_state.specs.declared.call.Stage.TheVariants.{AskedNames, AskedWhere, MustAskAgain, SentData, SentMutate, SentRead, IsOver, HasAnswer}
use Rattle.client_state.specs.declared.kept.Cached.{Cached}
use Rattle.protocol.specs.Tables.{is_empty_list}
use Rattle.protocol.specs.PushBuffer.{next_hop}
use Rattle.protocol.specs.Client.{file_chunk, place_in_file, ClientState, ClientDoing, client_begins, committed, with_current, answers}
use Rattle.protocol.specs.ClientCache.{cached, is_new_enough}
use Rattle.protocol.specs.ClientFiles.{last_append}
use Rattle.protocol.specs.ClientAttempts.{is_mutation, is_length, is_append, read_start, read_count, has_next_part, is_live_at, completes, last_refusal, gives_up, ended, is_last_attempt, ends_refused, asks, reads_next, push_planned_to, push_planned, mutate_planned, chunk_of, goes_on_at, will_do, begins_with, begins_at, chunk_to_find, attempts, attempts_names, begins_next_part, forgets, asks_anew}
use Rattle.protocol.specs.ClientTakes.{takes_reply, takes_named, takes_wait, gets, told_none, told_location, told, takes_told, is_own_data, takes_pushed, less_live, succeeds, takes_done, takes_bytes, takes_len_is, master_refuses, stays_live, finds_full, primary_refuses, takes_refused, client_takes, pushed_to, reader_refuses}
use Rattle.protocol.specs.ClientStep.{new_call, calls_names, calls_file, calls_on, fd_of, calls, ticks_names, ends_unanswered, ticks_unanswered, ticks_at, takes_at, client_does}
use Rattle.laws_base.proofs.Steps.{on_cond, none_some, same_some, same_or_not}
use Rattle.laws_base.proofs.ServerMoves.{IsCameIn}
use Rattle.laws_base.proofs.ClientWalk.{attempt_end, place_at, looked, heard_at, is_told_of, noted, closed, once_more, told_at}
use Rattle.laws_base.specs.FewAttempts.{part_of, EachOf, AreApart}

-- lists of numbers

pub each_on : (P Q : ℕ → Type 0) → ((n : ℕ) → P n → Q n) → (ns : List ℕ) → EachOf P ns → EachOf Q ns
each_on P Q go [] h = tt
each_on P Q go (n ∷ ns) h = (go n h.0, each_on P Q go ns h.1)

-- these numbers but for one
pub record Others (P : ℕ → Type 0) (one : ℕ) (ns : List ℕ) : Type 0 where
  pub rest : List ℕ
  pub apart : AreApart rest
  pub each : EachOf (λ n. P n × (n ≡ one → ⊥)) rest
  pub count : length ns ≤ suc (length rest)

both_of : (P Q : ℕ → Type 0) (ns : List ℕ) → EachOf P ns → EachOf Q ns → EachOf (λ n. P n × Q n) ns
both_of P Q [] p q = tt
both_of P Q (n ∷ ns) p q = ((p.0, q.0), both_of P Q ns p.1 q.1)

first_out : (P : ℕ → Type 0) (one n : ℕ) (ns : List ℕ) → AreApart (n ∷ ns) → EachOf P (n ∷ ns) → n ≡ one → Others P one (n ∷ ns)
first_out P one n ns apart h same =
    record {
      rest = ns;
      apart = apart.1;
      each = both_of P (λ m. m ≡ one → ⊥) ns h.1 (each_on (λ m. n ≡ m → ⊥) (λ m. m ≡ one → ⊥) (λ m other e. other (same ∙ sym e)) ns apart.0);
      count = omega arith;
    }

first_in : (P : ℕ → Type 0) (one n : ℕ) (ns : List ℕ) → P n → (n ≡ one → ⊥) → Others (λ m. P m × (n ≡ m → ⊥)) one ns → Others P one (n ∷ ns)
first_in P one n ns h other o =
    let low = o.count in
    record {
      rest = n ∷ o.rest;
      apart = (each_on (λ m. (P m × (n ≡ m → ⊥)) × (m ≡ one → ⊥)) (λ m. n ≡ m → ⊥) (λ m p. (p.0).1) o.rest o.each, o.apart);
      each = ((h, other), each_on (λ m. (P m × (n ≡ m → ⊥)) × (m ≡ one → ⊥)) (λ m. P m × (m ≡ one → ⊥)) (λ m p. ((p.0).0, p.1)) o.rest o.each);
      count = omega (arith, low);
    }

pub others : (P : ℕ → Type 0) (one : ℕ) (ns : List ℕ) → AreApart ns → EachOf P ns → Others P one ns
others P one [] apart h = record { rest = []; apart = tt; each = tt; count = omega arith }
others P one (n ∷ ns) apart h =
    elim (same_or_not n one) [
      | inl same ↦ first_out P one n ns apart h same
      | inr other ↦ first_in P one n ns h.0 other (others (λ m. P m × (n ≡ m → ⊥)) one ns apart.1 (both_of P (λ m. n ≡ m → ⊥) ns h.1 apart.0))
    ]

-- what a client sends that is no Mutate
abbrev pub IsNoMutate : Body → Type 0
IsNoMutate (body.Mutate id handle version target deadline) = ⊥
IsNoMutate other = Unit {0}

or_not : (a b : Bool) → a || not b ≡ false → b ≡ true
or_not true b h = absurd (let both : true ≡ false = h in cc)
or_not false true h = refl
or_not false false h = absurd (let both : true ≡ false = h in cc)

-- U: of the open call, the numbers so far for each part
module _ (config : Config) (U : Option ℕ → ℕ → Type 0) where
  abbrev limit : ℕ
  limit = max 1 config.attempts

  -- there is room for these, and for one attempt at least
  abbrev pub HasRoom : (ℕ → Type 0) → ℕ → Type 0
  HasRoom P left = (ns : List ℕ) → AreApart ns → EachOf P ns → (length ns + 1 ≤ max 1 config.attempts) × (length ns + left ≤ max 1 config.attempts)

  -- the same, with the attempt that ends
  abbrev HasEnd : (ℕ → Type 0) → ℕ → Type 0
  HasEnd P left = (ns : List ℕ) → AreApart ns → EachOf P ns → (length ns ≤ max 1 config.attempts) × (length ns + left ≤ max 1 config.attempts + 1)

  -- no later part was asked for
  abbrev pub AreLast : Option ℕ → Type 0
  AreLast part = (p i n : ℕ) → U (Some p) n → part ≡ Some i → p ≤ i

  abbrev pub part : CurrentCall → Option ℕ
  part c = part_of c.asked c.index

  abbrev pub MayGo : CurrentCall → Type 0
  MayGo c = HasRoom (U (part_of c.asked c.index)) c.left × AreLast (part_of c.asked c.index)

  abbrev MayEnd : CurrentCall → Type 0
  MayEnd c = HasEnd (U (part_of c.asked c.index)) c.left × AreLast (part_of c.asked c.index)

  abbrev pub HasAsked : ℕ → CurrentCall → Type 0
  HasAsked one c = HasRoom (λ n. U (part_of c.asked c.index) n × (n ≡ one → ⊥)) c.left × AreLast (part_of c.asked c.index)

  abbrev pub HasBudget : CurrentCall → Stage → Type 0
  HasBudget c AskedNames = Unit {0}
  HasBudget c (AskedWhere number) = MayGo c
  HasBudget c MustAskAgain = MayGo c
  HasBudget c (SentData chunk primary number) = MayGo c
  HasBudget c (SentMutate chunk number) = HasAsked number c
  HasBudget c (SentRead chunk left number) = MayGo c
  HasBudget c IsOver = MayGo c
  HasBudget c (HasAnswer reply) = Unit {0}

  abbrev pub IsRight : Option CurrentCall → Type 0
  IsRight None = Unit {0}
  IsRight (Some c) = HasBudget c c.stage

  -- a step in which no primary is asked
  pub record IsFine (d : ClientDoing) : Type 0 where
    pub config_is : d.client.config ≡ config
    pub silent : (m : Message) → d.sent ≡ Some m → IsNoMutate m.body
    pub right : IsRight d.client.current

  abbrev Ready : ClientDoing → Type 0
  Ready d = (d.client.config ≡ config) × (d.sent ≡ None)

  go_end : (c : CurrentCall) → MayGo c → MayEnd c
  go_end c h = (λ ns apart each. let few = h.0 ns apart each in let a = few.0 in let b = few.1 in (omega (arith, a), omega (arith, b)), h.1)

  asked_end : (c : CurrentCall) (one : ℕ) → HasAsked one c → MayEnd c
  asked_end c one h = (few, h.1)
    where
      few : HasEnd (U (part_of c.asked c.index)) c.left
      few ns apart each =
          let o = others (U (part_of c.asked c.index)) one ns apart each in
          let count = o.count in
          let room = h.0 o.rest o.apart o.each in
          let a = room.0 in
          let b = room.1 in
          (omega (arith, count, a), omega (arith, count, b))

  end_goes : (c : CurrentCall) → is_last_attempt c ≡ false → MayEnd c → MayGo (ended c)
  end_goes c more h = (
    λ ns apart each. let many : 1 < c.left = leb-false c.left 1 more in let b = (h.0 ns apart each).1 in (omega (arith, many, b), omega (arith, many, b)),
    h.1,
  )

  -- one message
  one_silent : (x : Message) → IsNoMutate x.body → (m : Message) → Some x ≡ Some m → IsNoMutate m.body
  one_silent x h m is = subst (λ (y : Message). IsNoMutate y.body) (same_some x m is) h

  none_silent : (o : Option Message) → o ≡ None → (m : Message) → o ≡ Some m → IsNoMutate m.body
  none_silent o none m is = none_some m (sym none ∙ is)

  answers_fine : (d : ClientDoing) (reply : Answer) → Ready d → IsFine (answers d reply)
  answers_fine d reply r = record { config_is = r.0; silent = none_silent d.sent r.1; right = tt }

  waits_fine : (d : ClientDoing) (c : CurrentCall) → Ready d → HasBudget c c.stage → IsFine (with_current d c)
  waits_fine d c r h = record { config_is = r.0; silent = none_silent d.sent r.1; right = h }

  completes_fine : (d : ClientDoing) (c : CurrentCall) (reply : Answer) → Ready d → IsFine (completes d c reply)
  completes_fine d c reply r =
      on_cond IsFine (is_mutation c.asked && list_any (is_live_at d.client.now) c.live) (with_current d (record c { stage = HasAnswer reply })) (answers d reply)
      (λ _. waits_fine d (record c { stage = HasAnswer reply }) r tt) (λ _. answers_fine d reply r)

  gives_up_fine : (d : ClientDoing) (c : CurrentCall) → Ready d → IsFine (gives_up d c)
  gives_up_fine d c r = completes_fine d c (answer.Refused (last_refusal c)) r

  refused_fine : (d : ClientDoing) (c : CurrentCall) → Ready d → MayEnd c → IsFine (ends_refused d c)
  refused_fine d c r h =
      on_cond IsFine (is_last_attempt c) (gives_up d (ended c)) (with_current d (ended c)) (λ _. gives_up_fine d (ended c) r) (λ more. waits_fine d (ended c) r (end_goes c more h))

  asks_fine : (d : ClientDoing) (c : CurrentCall) → Ready d → MayGo c → IsFine (asks d c)
  asks_fine d c r h = record { config_is = r.0; silent = λ m is. one_silent _ tt m is; right = h }

  reads_fine : (d : ClientDoing) (c : CurrentCall) (chunk : ToldChunk) (hs : List Holder) → Ready d → MayGo c → IsFine (reads_next d c chunk hs)
  reads_fine d c chunk [] r h = refused_fine d (record c { is_nobody_serving = true }) r (go_end c h)
  reads_fine d c chunk (x ∷ rest) r h =
      record {
        config_is = r.0;
        silent = λ m is. one_silent _ (on_cond IsNoMutate (is_length c.asked) (body.Len (suc d.client.number) chunk.handle x.version)
            (body.Read (suc d.client.number) chunk.handle x.version (read_start (file_chunk d.client c.file.0) c.index c.asked) (read_count (file_chunk d.client c.file.0) c.index c.asked)) (λ _. tt) (λ _. tt)) m is;
        right = h;
      }

  again_fine : (d : ClientDoing) (c : CurrentCall) (chunk : ToldChunk) → Ready d → MayGo c → IsFine (committed d c (push_planned d.client c chunk None))
  again_fine d c chunk r h = record { config_is = r.0; silent = λ m is. none_some m is; right = h }

  push_to_fine : (d : ClientDoing) (c : CurrentCall) (chunk : ToldChunk) (g : Group) (o : Option ServerId) → Ready d → MayGo c → IsFine (committed d c (push_planned_to d.client c chunk g o))
  push_to_fine d c chunk g None r h = again_fine d c chunk r h
  push_to_fine d c chunk g (Some first) r h = record { config_is = r.0; silent = λ m is. one_silent _ tt m is; right = h }

  push_fine : (d : ClientDoing) (c : CurrentCall) (chunk : ToldChunk) (o : Option Group) → Ready d → MayGo c → IsFine (committed d c (push_planned d.client c chunk o))
  push_fine d c chunk None r h = again_fine d c chunk r h
  push_fine d c chunk (Some g) r h = push_to_fine d c chunk g (next_hop g.members 0) r h

  goes_on_fine : (d : ClientDoing) (c : CurrentCall) (l : Location) → Ready d → MayGo c → IsFine (goes_on_at d c l)
  goes_on_fine d c l r h =
      on_cond IsFine (is_mutation c.asked) (committed d c (push_planned d.client c (chunk_of l) l.group)) (reads_next d c (chunk_of l) l.holders)
      (λ _. push_fine d c (chunk_of l) l.group r h) (λ _. reads_fine d c (chunk_of l) l.holders r h)

  begins_with_fine : (d : ClientDoing) (c : CurrentCall) (o : Option Cached) → Ready d → MayGo c → IsFine (begins_with d c o)
  begins_with_fine d c None r h = asks_fine d c r h
  begins_with_fine d c (Some e) r h = on_cond IsFine (will_do c e) (goes_on_at d (told_at c e) e.location) (asks d c) (λ _. goes_on_fine d (told_at c e) e.location r h) (λ _. asks_fine d c r h)

  begins_at_fine : (d : ClientDoing) (c : CurrentCall) (o : Option ℕ) → Ready d → MayGo c → IsFine (begins_at d c o)
  begins_at_fine d c None r h = asks_fine d c r h
  begins_at_fine d c (Some index) r h = begins_with_fine (looked d (place_at c index)) c (cached d.client (place_at c index)) r h

  attempts_fine : (d : ClientDoing) (c : CurrentCall) → Ready d → MayGo c → IsFine (attempts d c)
  attempts_fine d c r h = begins_at_fine d (record c { deadline = attempt_end d.client; is_nobody_serving = false; last_chunk = None; stage = IsOver }) (chunk_to_find c c.asked) r h

  unanswered_fine : (d : ClientDoing) (c : CurrentCall) → Ready d → MayEnd c → IsFine (ends_unanswered d c)
  unanswered_fine d c r h =
      let over : CurrentCall = record (ended c) { lost_lease = false } in
      on_cond IsFine (is_last_attempt c) (gives_up d over) (attempts d over) (λ _. gives_up_fine d over r) (λ more. attempts_fine d over r (end_goes c more h))

  -- the next part

  room_for_all : (d : ClientDoing) → Ready d → (P : ℕ → Type 0) → ((n : ℕ) → P n → ⊥) → HasRoom P d.client.config.attempts
  room_for_all d r P none [] apart each =
      let same : d.client.config.attempts ≡ config.attempts = ap (λ (g : Config). g.attempts) r.0 in
      let one : 1 ≤ max 1 config.attempts = le-max_left 1 config.attempts in
      let all : config.attempts ≤ max 1 config.attempts = le-max_right 1 config.attempts in
      (omega (arith, one), omega (arith, same, all))
  room_for_all d r P none (n ∷ ns) apart each = absurd (none n each.0)

  -- only of writes and reads there is a next part
  next_goes : (d : ClientDoing) → Ready d → (asked : Call) (chunk index : ℕ) → has_next_part chunk index asked ≡ true → AreLast (part_of asked index)
      → HasRoom (U (part_of asked (suc index))) d.client.config.attempts × AreLast (part_of asked (suc index))
  next_goes d r (call.Write fd offset bytes) chunk index has last = (
    room_for_all d r (U (Some (suc index))) (λ n u. let low : suc index ≤ index = last (suc index) index n u refl in absurd (omega (arith, low))),
    λ p i n u is. let low : p ≤ index = last p index n u refl in let same : suc index ≡ i = same_some (suc index) i is in omega (arith, low, same),
  )
  next_goes d r (call.Read fd offset count) chunk index has last = (
    room_for_all d r (U (Some (suc index))) (λ n u. let low : suc index ≤ index = last (suc index) index n u refl in absurd (omega (arith, low))),
    λ p i n u is. let low : p ≤ index = last p index n u refl in let same : suc index ≡ i = same_some (suc index) i is in omega (arith, low, same),
  )
  next_goes d r other chunk index has last = absurd (let both : false ≡ true = has in cc)

  next_fine : (d : ClientDoing) (c : CurrentCall) → Ready d → has_next_part (file_chunk d.client c.file.0) c.index c.asked ≡ true → AreLast (part_of c.asked c.index) → IsFine (begins_next_part d c)
  next_fine d c r has last = attempts_fine d (record c { index = suc c.index; left = d.client.config.attempts; lost_lease = false }) r (next_goes d r c.asked (file_chunk d.client c.file.0) c.index has last)

  -- an append past a full chunk

  full_goes : (asked : Call) (index next one left : ℕ) → is_append asked ≡ true → (U None one → ⊥) → HasRoom (λ n. U (part_of asked index) n × (n ≡ one → ⊥)) left
      → HasRoom (U (part_of asked next)) left × AreLast (part_of asked next)
  full_goes (call.Append fd bytes) index next one left is full h = (
    λ ns apart each. h ns apart (each_on (U None) (λ n. U None n × (n ≡ one → ⊥)) (λ n u. (u, λ same. full (subst (λ (k : ℕ). U None k) same u))) ns each),
    λ p i n u is. none_some i is,
  )
  full_goes other index next one left is full h = absurd (let both : false ≡ true = is in cc)

  -- messages

  gets_fine : (d : ClientDoing) (c : CurrentCall) (found : List ℕ) (round : Option ℕ) → Ready d → MayGo c → IsFine (gets d c found round)
  gets_fine d c found round r h =
      let got : CurrentCall = record c { bytes = c.bytes ++ found; rounds = c.rounds ++ option_to_list round } in
      let short : Bool = nat_lt (length found) (read_count (file_chunk d.client c.file.0) c.index c.asked) in
      on_cond IsFine (short || not (has_next_part (file_chunk d.client c.file.0) c.index c.asked)) (completes d got (answer.Bytes got.bytes got.rounds)) (begins_next_part d got)
      (λ _. completes_fine d got (answer.Bytes got.bytes got.rounds) r) (λ more. next_fine d got r (or_not short (has_next_part (file_chunk d.client c.file.0) c.index c.asked) more) h.1)

  none_fine : (d : ClientDoing) (c : CurrentCall) (asked : Call) → Ready d → MayGo c → IsFine d → IsFine (told_none d c asked)
  none_fine d c (call.Read fd offset count) r h p = gets_fine d (record c { saw_no_holder = false }) [] None r h
  none_fine d c (call.Length fd) r h p = completes_fine d c (answer.Length 0) r
  none_fine d c other r h p = p

  location_fine : (d : ClientDoing) (c : CurrentCall) (l : Location) → Ready d → MayGo c → IsFine (told_location d c l)
  location_fine d c l r h =
      let nobody : CurrentCall = record c { stage = MustAskAgain; saw_no_holder = true; is_nobody_serving = true } in
      on_cond IsFine (is_empty_list l.holders) (with_current d nobody) (goes_on_at (heard_at d c l) (is_told_of d c) l) (λ _. waits_fine d nobody r h) (λ _. goes_on_fine (heard_at d c l) (is_told_of d c) l r h)

  told_fine : (d : ClientDoing) (c : CurrentCall) (o : Option Location) → Ready d → MayGo c → IsFine d → IsFine (told d c o)
  told_fine d c None r h p = none_fine d c c.asked r h p
  told_fine d c (Some l) r h p = location_fine d c l r h

  takes_told_fine : (d : ClientDoing) (c : CurrentCall) (st : Stage) (number : ℕ) (o : Option Location) → Ready d → HasBudget c st → IsFine d → IsFine (takes_told d c st number o)
  takes_told_fine d c (AskedWhere asked) number o r h p = on_cond IsFine (asked == number) (told d c o) d (λ _. told_fine d c o r h p) (λ _. p)
  takes_told_fine d c other number o r h p = p

  reply_fine : (d : ClientDoing) (reply : NameReply) → Ready d → IsFine (takes_reply d reply)
  reply_fine d (Opened file shape) r = record { config_is = r.0; silent = none_silent d.sent r.1; right = tt }
  reply_fine d (Answered reply) r = answers_fine d reply r

  takes_named_fine : (d : ClientDoing) (c : CurrentCall) (st : Stage) (number : ℕ) (reply : NameReply) → Ready d → IsFine d → IsFine (takes_named d c st number reply)
  takes_named_fine d c AskedNames number reply r p = on_cond IsFine (c.number == number) (takes_reply d reply) d (λ _. reply_fine d reply r) (λ _. p)
  takes_named_fine d c other number reply r p = p

  takes_wait_fine : (d : ClientDoing) (c : CurrentCall) (st : Stage) (number : ℕ) → Ready d → HasBudget c st → IsFine d → IsFine (takes_wait d c st number)
  takes_wait_fine d c (AskedWhere asked) number r h p =
      let again : CurrentCall = record c { stage = MustAskAgain; saw_no_holder = false; is_nobody_serving = false } in
      on_cond IsFine (asked == number) (with_current d again) d (λ _. waits_fine d again r h) (λ _. p)
  takes_wait_fine d c other number r h p = p

  succeeds_fine : (d : ClientDoing) (c : CurrentCall) (chunk : ToldChunk) (place : ℕ) → Ready d → MayEnd c → IsFine (succeeds d c chunk place)
  succeeds_fine d c chunk place r h =
      let last : ClientDoing = noted d c.file.0 (Some chunk.index) in
      let reply : Answer = answer.At (place_in_file (file_chunk d.client c.file.0) chunk.index place) in
      on_cond IsFine (is_append c.asked) (completes last c reply) _ (λ _. completes_fine last c reply r)
      (λ _. on_cond IsFine (has_next_part (file_chunk d.client c.file.0) c.index c.asked) (begins_next_part d c) (completes d c answer.Done) (λ has. next_fine d c r has h.1) (λ _. completes_fine d c answer.Done r))

  takes_done_fine : (d : ClientDoing) (c : CurrentCall) (st : Stage) (id : DataId) (place : ℕ) → Ready d → HasBudget c st → IsFine d → IsFine (takes_done d c st id place)
  takes_done_fine d c (SentMutate chunk number) id place r h p =
      on_cond IsFine (is_own_data d id number) (succeeds d (less_live c chunk) chunk place) d (λ _. succeeds_fine d (less_live c chunk) chunk place r (asked_end c number h)) (λ _. p)
  takes_done_fine d c other id place r h p = p

  takes_bytes_fine : (d : ClientDoing) (c : CurrentCall) (st : Stage) (number : ℕ) (bytes : List ℕ) → Ready d → HasBudget c st → IsFine d → IsFine (takes_bytes d c st number bytes)
  takes_bytes_fine d c (SentRead chunk left asked) number bytes r h p =
      on_cond IsFine ((asked == number) && not (is_length c.asked)) (gets d c bytes (Some chunk.round.0)) d (λ _. gets_fine d c bytes (Some chunk.round.0) r h) (λ _. p)
  takes_bytes_fine d c other number bytes r h p = p

  takes_len_fine : (d : ClientDoing) (c : CurrentCall) (st : Stage) (number count : ℕ) → Ready d → IsFine d → IsFine (takes_len_is d c st number count)
  takes_len_fine d c (SentRead chunk left asked) number count r p =
      let reply : Answer = answer.Length (place_in_file (file_chunk d.client c.file.0) chunk.index count) in
      on_cond IsFine ((asked == number) && is_length c.asked) (completes d c reply) d (λ _. completes_fine d c reply r) (λ _. p)
  takes_len_fine d c other number count r p = p

  master_refuses_fine : (d : ClientDoing) (c : CurrentCall) (refusal : Refusal) → Ready d → IsFine d → IsFine (master_refuses d c refusal)
  master_refuses_fine d c TooLong r p = completes_fine d c (answer.Refused TooLong) r
  master_refuses_fine d c Collected r p = completes_fine d c (answer.Refused Collected) r
  master_refuses_fine d c other r p = p

  full_fine : (d : ClientDoing) (c : CurrentCall) (chunk : ToldChunk) (one : ℕ) → Ready d → (U None one → ⊥) → HasAsked one c → IsFine (finds_full d c chunk)
  full_fine d c chunk one r full h =
      let past : CurrentCall = record c { stage = IsOver; index = suc chunk.index } in
      on_cond IsFine (is_append c.asked) (with_current d past) (ends_refused d c) (λ is. waits_fine d past r (full_goes c.asked c.index (suc chunk.index) one c.left is full h.0)) (λ _. refused_fine d c r (asked_end c one h))

  -- what comes in: a ChunkFull says that its attempt doesn't count
  abbrev pub Came : Body → Type 0
  Came b = (n : ℕ) → b ≡ body.Refused n ChunkFull → U None n → ⊥

  primary_refuses_fine : (d : ClientDoing) (c : CurrentCall) (chunk : ToldChunk) (one : ℕ) (refusal : Refusal) → Ready d → (refusal ≡ ChunkFull → U None one → ⊥) → HasAsked one c → IsFine (primary_refuses d c chunk refusal)
  primary_refuses_fine d c chunk one NoChunk r full h = refused_fine d (stays_live d c chunk) r (asked_end c one h)
  primary_refuses_fine d c chunk one NoLease r full h = refused_fine d (stays_live d c chunk) r (asked_end c one h)
  primary_refuses_fine d c chunk one ChunkFull r full h = full_fine d (less_live c chunk) chunk one r (full refl) h
  primary_refuses_fine d c chunk one other r full h = refused_fine d (less_live c chunk) r (asked_end c one h)

  reader_fine : (d : ClientDoing) (c : CurrentCall) (chunk : ToldChunk) (left : List Holder) → Ready d → MayGo c → IsFine (reader_refuses d c chunk left)
  reader_fine d c chunk left r h =
      on_cond IsFine (is_new_enough d.client c.told.0) (reads_next d c chunk left) (asks_anew d c) (λ _. reads_fine d c chunk left r h) (λ _. waits_fine d (record c { stage = MustAskAgain }) r h)

  takes_refused_fine : (d : ClientDoing) (c : CurrentCall) (st : Stage) (number : ℕ) (refusal : Refusal) → Ready d → Came (body.Refused number refusal) → HasBudget c st → IsFine d → IsFine (takes_refused d c st number refusal)
  takes_refused_fine d c (AskedWhere asked) number refusal r came h p = on_cond IsFine (asked == number) (master_refuses d c refusal) d (λ _. master_refuses_fine d c refusal r p) (λ _. p)
  takes_refused_fine d c (SentMutate chunk asked) number refusal r came h p =
      on_cond IsFine (asked == number) (primary_refuses (forgets d c chunk) c chunk refusal) d
      (λ same. primary_refuses_fine (forgets d c chunk) c chunk asked refusal r
      (λ is u. came number (ap (λ (x : Refusal). body.Refused number x) is) (subst (λ (n : ℕ). U None n) (eqb-true asked number same) u)) h) (λ _. p)
  takes_refused_fine d c (SentRead chunk left asked) number refusal r came h p =
      on_cond IsFine (asked == number) (reader_refuses (forgets d c chunk) c chunk left) d (λ _. reader_fine (forgets d c chunk) c chunk left r h) (λ _. p)
  takes_refused_fine d c other number refusal r came h p = p

  -- a primary is asked now
  pub record IsAsking (s : ClientState) (d : ClientDoing) : Type 0 where
    pub current : CurrentCall
    pub chunk : ToldChunk
    pub primary : ServerId
    pub number : ℕ
    pub current_is : s.current ≡ Some current
    pub goes : MayGo current
    pub is : d ≡ committed (client_begins s) current (mutate_planned s current chunk primary number)

  abbrev pub Leaves : ClientState → ClientDoing → Type 0
  Leaves s d = IsFine d ⊎ IsAsking s d

  module _ (s : ClientState) where
    abbrev d0 : ClientDoing
    d0 = client_begins s

    takes_pushed_fine : (c : CurrentCall) (st : Stage) (id : DataId) → s.current ≡ Some c → Ready (client_begins s) → HasBudget c st → IsFine (client_begins s) → Leaves s (takes_pushed (client_begins s) c st id)
    takes_pushed_fine c (SentData chunk primary number) id now r h p =
        on_cond (Leaves s) (is_own_data (client_begins s) id number) (pushed_to (client_begins s) c chunk primary number) (client_begins s)
        (λ _. on_cond (Leaves s) (is_new_enough s c.told.0) (committed (client_begins s) c (mutate_planned s c chunk primary number)) (asks_anew (client_begins s) c)
        (λ _. inr (record { current = c; chunk = chunk; primary = primary; number = number; current_is = now; goes = h; is = refl })) (λ _. inl (waits_fine (client_begins s) (record c { stage = MustAskAgain }) r h))) (λ _. inl p)
    takes_pushed_fine c other id now r h p = inl p

    takes_fine : (c : CurrentCall) (b : Body) → s.current ≡ Some c → Ready (client_begins s) → Came b → HasBudget c c.stage → IsFine (client_begins s) → Leaves s (client_takes (client_begins s) c b)
    takes_fine c (body.Named number reply) now r came h p = inl (takes_named_fine (client_begins s) c c.stage number reply r p)
    takes_fine c (body.Told number location) now r came h p = inl (takes_told_fine (client_begins s) c c.stage number location r h p)
    takes_fine c (body.Wait number) now r came h p = inl (takes_wait_fine (client_begins s) c c.stage number r h p)
    takes_fine c (body.Refused number refusal) now r came h p = inl (takes_refused_fine (client_begins s) c c.stage number refusal r came h p)
    takes_fine c (body.Pushed id) now r came h p = takes_pushed_fine c c.stage id now r h p
    takes_fine c (body.Done id place) now r came h p = inl (takes_done_fine (client_begins s) c c.stage id place r h p)
    takes_fine c (body.Bytes number bytes) now r came h p = inl (takes_bytes_fine (client_begins s) c c.stage number bytes r h p)
    takes_fine c (body.LenIs number count) now r came h p = inl (takes_len_fine (client_begins s) c c.stage number count r p)
    takes_fine c other now r came h p = inl p

    takes_at_fine : (c : CurrentCall) (m : Message) (st : Stage) → s.current ≡ Some c → Ready (client_begins s) → Came m.body → HasBudget c c.stage → IsFine (client_begins s) → Leaves s (takes_at (client_begins s) c m st)
    takes_at_fine c m (HasAnswer reply) now r came h p = inl (completes_fine (client_begins s) c reply r)
    takes_at_fine c m AskedNames now r came h p = takes_fine c m.body now r came h p
    takes_at_fine c m (AskedWhere number) now r came h p = takes_fine c m.body now r came h p
    takes_at_fine c m MustAskAgain now r came h p = takes_fine c m.body now r came h p
    takes_at_fine c m (SentData chunk primary number) now r came h p = takes_fine c m.body now r came h p
    takes_at_fine c m (SentMutate chunk number) now r came h p = takes_fine c m.body now r came h p
    takes_at_fine c m (SentRead chunk left number) now r came h p = takes_fine c m.body now r came h p
    takes_at_fine c m IsOver now r came h p = takes_fine c m.body now r came h p

    -- ticks

    naming_fine : (d : ClientDoing) (c : CurrentCall) → Ready d → IsFine (attempts_names d c)
    naming_fine d c r =
        let begun : CurrentCall = record c { deadline = attempt_end d.client } in
        record {
          config_is = r.0;
          silent = λ m is. one_silent _ (on_cond IsNoMutate (is_look c.asked) (body.Look c.number c.asked) (body.Name c.number begun.deadline c.asked) (λ _. tt) (λ _. tt)) m is;
          right = tt;
        }

    ticks_names_fine : (d : ClientDoing) (c : CurrentCall) → Ready d → IsFine d → IsFine (ticks_names d c)
    ticks_names_fine d c r p =
        on_cond IsFine (nat_lt d.client.now (c.deadline.0 + d.client.config.skew_ms)) d _ (λ _. p)
        (λ _. on_cond IsFine (is_last_attempt c) (answers d (answer.Refused Unknown)) (attempts_names d (ended c)) (λ _. answers_fine d (answer.Refused Unknown) r) (λ _. naming_fine d (ended c) r))

    ticks_unanswered_fine : (d : ClientDoing) (c : CurrentCall) (forget : ClientDoing → ClientDoing) → IsFine d → Ready (forget d) → MayEnd c → IsFine (ticks_unanswered d c forget)
    ticks_unanswered_fine d c forget p r h =
        on_cond IsFine (nat_lt d.client.now (c.deadline.0 + d.client.config.skew_ms)) d (ends_unanswered (forget d) c) (λ _. p) (λ _. unanswered_fine (forget d) c r h)

    ticks_fine : (c : CurrentCall) (st : Stage) → Ready (client_begins s) → HasBudget c st → IsFine (client_begins s) → IsFine (ticks_at (client_begins s) c st)
    ticks_fine c AskedNames r h p = ticks_names_fine (client_begins s) c r p
    ticks_fine c (HasAnswer reply) r h p = completes_fine (client_begins s) c reply r
    ticks_fine c IsOver r h p = attempts_fine (client_begins s) c r h
    ticks_fine c MustAskAgain r h p =
        on_cond IsFine (nat_lt s.now c.deadline.0) (asks (client_begins s) c) (ticks_unanswered (client_begins s) c (λ e. e)) (λ _. asks_fine (client_begins s) c r h)
        (λ _. ticks_unanswered_fine (client_begins s) c (λ e. e) p r (go_end c h))
    ticks_fine c (AskedWhere number) r h p = ticks_unanswered_fine (client_begins s) c (λ e. e) p r (go_end c h)
    ticks_fine c (SentData chunk primary number) r h p = ticks_unanswered_fine (client_begins s) c (λ e. forgets e c chunk) p r (go_end c h)
    ticks_fine c (SentMutate chunk number) r h p = ticks_unanswered_fine (client_begins s) c (λ e. forgets e c chunk) p r (asked_end c number h)
    ticks_fine c (SentRead chunk left number) r h p = ticks_unanswered_fine (client_begins s) c (λ e. forgets e c chunk) p r (go_end c h)

    pub begun_fine : s.config ≡ config → IsRight s.current → IsFine (client_begins s)
    begun_fine same h = record { config_is = same; silent = λ m is. none_some m is; right = h }

    pub does_leaves : (i : NodeInput) (o : Option CurrentCall) → s.current ≡ o → s.config ≡ config → IsCameIn Came i → IsRight s.current → IsRight o → Leaves s (client_does (client_begins s) i o)
    does_leaves i None now same came all h = inl (begun_fine same all)
    does_leaves (input.Deliver m) (Some c) now same came all h = takes_at_fine c m c.stage now (same, refl) came h (begun_fine same all)
    does_leaves input.Tick (Some c) now same came all h = inl (ticks_fine c c.stage (same, refl) h (begun_fine same all))

    -- calls, of which nothing was asked yet

    module _ (none : (p : Option ℕ) (n : ℕ) → U p n → ⊥) where
      new_goes : (d : ClientDoing) → Ready d → (c : Call) (file index : ℕ) (last : Option ℕ) → MayGo (new_call d.client.config.attempts 0 c file index last)
      new_goes d r c file index last = (room_for_all d r (U (part_of c index)) (none (part_of c index)), λ p i n u is. absurd (none (Some p) n u))

      file_fine : (c : Call) (file : ℕ) → Ready (client_begins s) → IsFine (client_begins s) → IsFine (calls_file (client_begins s) c file)
      file_fine (call.Close fd) file r p = answers_fine (closed s fd file) answer.Done r
      file_fine (call.Length fd) file r p = attempts_fine (client_begins s) (new_call s.config.attempts 0 (call.Length fd) file 0 None) r (new_goes (client_begins s) r (call.Length fd) file 0 None)
      file_fine (call.Write fd offset bytes) file r p =
          let c : CurrentCall = new_call s.config.attempts 0 (call.Write fd offset bytes) file (offset / file_chunk s file) None in
          on_cond IsFine (is_range_too_long offset (length bytes)) _ _ (λ _. answers_fine (client_begins s) (answer.Refused TooLong) r)
          (λ _. on_cond IsFine (length bytes == 0) _ (attempts (client_begins s) c) (λ _. answers_fine (client_begins s) answer.Done r)
          (λ _. attempts_fine (client_begins s) c r (new_goes (client_begins s) r (call.Write fd offset bytes) file (offset / file_chunk s file) None)))
      file_fine (call.Append fd bytes) file r p =
          let c : CurrentCall = new_call s.config.attempts 0 (call.Append fd bytes) file 0 (last_append s.files file) in
          on_cond IsFine (nat_lt (file_chunk s file / 4) (length bytes)) _ (attempts (noted (client_begins s) file None) c) (λ _. answers_fine (client_begins s) (answer.Refused TooLong) r)
          (λ _. attempts_fine (noted (client_begins s) file None) c r (new_goes (client_begins s) r (call.Append fd bytes) file 0 (last_append s.files file)))
      file_fine (call.Read fd offset count) file r p =
          let c : CurrentCall = new_call s.config.attempts 0 (call.Read fd offset count) file (offset / file_chunk s file) None in
          on_cond IsFine (is_range_too_long offset count) _ _ (λ _. answers_fine (client_begins s) (answer.Refused TooLong) r)
          (λ _. on_cond IsFine (count == 0) _ (attempts (client_begins s) c) (λ _. answers_fine (client_begins s) (answer.Bytes [] []) r)
          (λ _. attempts_fine (client_begins s) c r (new_goes (client_begins s) r (call.Read fd offset count) file (offset / file_chunk s file) None)))
      file_fine other file r p = p

      calls_on_fine : (c : Call) (o : Option ℕ) → Ready (client_begins s) → IsFine (client_begins s) → IsFine (calls_on (client_begins s) c o)
      calls_on_fine c None r p = answers_fine (client_begins s) (answer.Refused BadFd) r
      calls_on_fine c (Some file) r p = file_fine c file r p

      pub call_fine : (c : Call) → s.config ≡ config → IsFine (client_begins s) → IsFine (calls (client_begins s) c)
      call_fine c same p =
          on_cond IsFine (is_name_call c) (calls_names (client_begins s) c) (calls_on (client_begins s) c (table.get s.descriptors (fd_of c)))
          (λ _. naming_fine (once_more s) (new_call s.config.attempts (suc s.call_count) c 0 0 None) (same, refl)) (λ _. calls_on_fine c (table.get s.descriptors (fd_of c)) (same, refl) p)

    pub refused_call_fine : (reply : Answer) → s.config ≡ config → IsFine (answers (client_begins s) reply)
    refused_call_fine reply same = answers_fine (client_begins s) reply (same, refl)

-- fewer numbers stand as right
module _ (config : Config) (U V : Option ℕ → ℕ → Type 0) (less : (p : Option ℕ) (n : ℕ) → V p n → U p n) where
  room_on : (P Q : ℕ → Type 0) (left : ℕ) → ((n : ℕ) → Q n → P n) → HasRoom config U P left → HasRoom config V Q left
  room_on P Q left go h ns apart each = h ns apart (each_on Q P go ns each)

  last_on : (part : Option ℕ) → AreLast config U part → AreLast config V part
  last_on part h p i n v is = h p i n (less (Some p) n v) is

  goes_on : (c : CurrentCall) → MayGo config U c → MayGo config V c
  goes_on c h = (room_on (U (part_of c.asked c.index)) (V (part_of c.asked c.index)) c.left (less (part_of c.asked c.index)) h.0, last_on (part_of c.asked c.index) h.1)

  stands_on : (c : CurrentCall) (st : Stage) → HasBudget config U c st → HasBudget config V c st
  stands_on c AskedNames h = tt
  stands_on c (AskedWhere number) h = goes_on c h
  stands_on c MustAskAgain h = goes_on c h
  stands_on c (SentData chunk primary number) h = goes_on c h
  stands_on c (SentMutate chunk number) h = (
    room_on (λ n. U (part_of c.asked c.index) n × (n ≡ number → ⊥)) (λ n. V (part_of c.asked c.index) n × (n ≡ number → ⊥)) c.left (λ n v. (less (part_of c.asked c.index) n v.0, v.1)) h.0,
    last_on (part_of c.asked c.index) h.1,
  )
  stands_on c (SentRead chunk left number) h = goes_on c h
  stands_on c IsOver h = goes_on c h
  stands_on c (HasAnswer reply) h = tt

  pub right_on : (o : Option CurrentCall) → IsRight config U o → IsRight config V o
  right_on None h = tt
  right_on (Some c) h = stands_on c c.stage h
