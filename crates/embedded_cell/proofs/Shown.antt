-- What a reader reads that opens a file again shows each record that had been answered before.
use Rattle.std.proofs.Common.{◌≡◌, ℕ, ◌+◌, ◌-◌, ◌*◌, ◌/◌, ◌^◌, ◌<◌, ◌≤◌, List, ◌++◌, length, take, drop, append_assoc, sym, ◌∙◌, ap, subst, arith}
use Rattle.std.proofs.lemmas.Nat.{div-mul-add}
use Rattle.std.specs.Prelude.{Contains}
use Rattle.gfs_types.specs.declared.answer.Answer.TheVariants as answer
use Rattle.gfs_types.specs.declared.call.Call.TheVariants as call
use Rattle.gfs_types.specs.declared.ids.Fd.{Fd}
use Rattle.gfs_types.specs.declared.ids.Node.TheVariants as node
use Rattle.relaxed_file.specs.Machine.{Machine}
use Rattle.relaxed_file.specs.Run.{Visible, IsRunTo}
use Rattle.promises.specs.Answered.{WasAnswered, IsStandingRecord}
use Rattle.promises.specs.Promises.{Promises}
use Rattle.promises.specs.Readers.{IsReadAfterOpen}
use Rattle.promises.proofs.KeptPromises.{runs_keep_promises}
use Rattle.promises.proofs.RecordReads.{readers_miss_no_append}
use Rattle.headline.specs.Journals.{AreExplained}
use Rattle.cell_seats.specs.Seats.{SeatState}
use Rattle.embedded_cell.specs.declared.follower.Follower.{Follower}
use Rattle.embedded_cell.specs.Reading.{trace_of, taken_at, HasOpened, HasRead, IsLater, MissesNothing, WasAppended}
use Rattle.embedded_cell.proofs.Records.{nine_bytes}
use Rattle.embedded_cell.proofs.Traces.{Goes, Adds, adds, glued, later_goes, in_part, in_more}

three_parts : (a b c d : List Visible) → (a ++ (b ++ c)) ++ d ≡ a ++ (b ++ (c ++ d))
three_parts a b c d = append_assoc a (b ++ c) d ∙ ap (λ (l : List Visible). a ++ l) (append_assoc b c d)

-- a chunk's beginning lies in the chunk of each of its places
same_chunk : (index place : ℕ) → place < 512 → index * 512 / 512 ≡ (index * 512 + place) / 512
same_chunk index place less =
    let plain : index * 512 ≡ index * 512 + 0 = omega arith in
    let some : 0 < 512 = omega arith in
    ap (λ (n : ℕ). n / 512) plain ∙ (div-mul-add index 512 0 some ∙ sym (div-mul-add index 512 place less))

-- A reader that opened the file, asked for its length, and saw more since.
module _ (old opened : SeatState) (z : Follower) (path : List ℕ) (fd : Fd) (count reader : ℕ) (its : (z.seat).node ≡ node.Client (record { 0 = reader })) (o : HasOpened old opened path fd count)
    (later : IsLater opened z.seat) where
  opened_is : opened.node ≡ node.Client (record { 0 = reader })
  opened_is = sym later.node ∙ its

  between_is : (o.between).node ≡ node.Client (record { 0 = reader })
  between_is = sym (o.measured).node ∙ opened_is

  opens : Adds reader (trace_of old) (trace_of o.between) (call.Open path) (answer.Fd fd)
  opens = adds reader old o.between (call.Open path) (answer.Fd fd) between_is o.opened

  measures : Adds reader (trace_of o.between) (trace_of opened) (call.Length fd) (answer.Length count)
  measures = adds reader o.between opened (call.Length fd) (answer.Length count) opened_is o.measured

  since : Goes (trace_of opened) (trace_of z.seat)
  since = later_goes opened z.seat later

  -- what came since the reader began, up to a last part
  abbrev more : List Visible → List Visible
  more last = opens.more ++ (measures.more ++ last)

  whole : (last : List Visible) → trace_of z.seat ≡ trace_of opened ++ last → trace_of z.seat ≡ trace_of old ++ more last
  whole last goes =
      glued (trace_of old) (trace_of o.between) (trace_of z.seat) opens.more (measures.more ++ last) opens.is
      (glued (trace_of o.between) (trace_of opened) (trace_of z.seat) measures.more last measures.is goes)

  -- the file was opened
  pub was_opened : WasAnswered (trace_of z.seat) reader (call.Open path) (answer.Fd fd)
  was_opened =
      subst (λ (l : List Visible). WasAnswered l reader (call.Open path) (answer.Fd fd)) (sym (whole since.0 since.1))
      (in_part reader (call.Open path) (answer.Fd fd) (trace_of old) opens.more (measures.more ++ since.0) opens.found)

  -- a record that had been answered before
  module _ (m : Machine) (run : IsRunTo (z.seat).cell.config (trace_of z.seat) m) (offset : ℕ) (one : List ℕ) (w : WasAppended old z.seat m run reader fd offset one) where
    kept : Promises (z.seat).cell.config (trace_of z.seat) m run
    kept = runs_keep_promises (z.seat).cell.config (trace_of z.seat) m run

    abbrev was_put : (last : List Visible) → trace_of z.seat ≡ trace_of opened ++ last → WasAnswered (trace_of z.seat) w.client (call.Append w.by one) (answer.At offset)
    was_put last goes = in_more w.client (call.Append w.by one) (answer.At offset) (trace_of old) (trace_of z.seat) (more last) (whole last goes) w.appended

    -- the length reaches the record's end
    reaches : offset + length one ≤ count
    reaches =
        let measured : WasAnswered ((w.appended).rest ++ more since.0) reader (call.Length fd) (answer.Length count) =
        subst (λ (l : List Visible). WasAnswered l reader (call.Length fd) (answer.Length count)) (append_assoc (w.appended).rest opens.more (measures.more ++ since.0))
        (in_part reader (call.Length fd) (answer.Length count) ((w.appended).rest ++ opens.more) measures.more since.0 measures.found) in
        kept.lengths w.client reader w.file w.by fd one offset count (was_put since.0 since.1) w.into measured w.reads

    -- the record lies in one chunk
    stands : IsStandingRecord m w.file offset one
    stands =
        let there = kept.records w.client w.by one offset (was_put since.0 since.1) in
        subst (λ (f : ℕ). IsStandingRecord m f offset one) (kept.one_file w.client w.by there.0 w.file there.1 w.into) there.2

    place_is : offset ≡ stands.index * 512 + stands.offset
    place_is = subst (λ (n : ℕ). offset ≡ stands.index * n + stands.offset) w.size stands.is

    room : stands.offset + length one ≤ 512
    room = subst (λ (n : ℕ). stands.offset + length one ≤ n) w.size stands.room

    -- a read of that chunk shows it, and so it is taken
    read_takes : HasRead opened z fd (stands.index * 512) 512 → count < 2 ^ 64 → Contains z.taken.items (taken_at offset one)
    read_takes r fits =
        let first : Goes (trace_of opened) (trace_of r.before) = later_goes opened r.before r.first in
        let last : Goes (trace_of r.behind) (trace_of z.seat) = later_goes r.behind z.seat r.last in
        let reads : Adds reader (trace_of r.before) (trace_of r.behind) (call.Read fd (stands.index * 512) 512) (answer.Bytes r.found r.rounds) =
        adds reader r.before r.behind (call.Read fd (stands.index * 512) 512) (answer.Bytes r.found r.rounds) (sym (r.last).node ∙ its) r.read in
        let tail : List Visible = reads.more ++ last.0 in
        let rest : List Visible = measures.more ++ (first.0 ++ tail) in
        let goes : trace_of z.seat ≡ trace_of opened ++ (first.0 ++ tail) =
        glued (trace_of opened) (trace_of r.before) (trace_of z.seat) first.0 tail first.1 (glued (trace_of r.before) (trace_of r.behind) (trace_of z.seat) reads.more last.0 reads.is last.1) in
        let open_file : WasAnswered ((w.appended).rest ++ (opens.more ++ rest)) reader (call.Open path) (answer.Fd fd) =
        in_part reader (call.Open path) (answer.Fd fd) (w.appended).rest opens.more rest opens.found in
        let again : WasAnswered ((opens.found).rest ++ rest) reader (call.Read fd (stands.index * 512) 512) (answer.Bytes r.found r.rounds) =
        subst (λ (l : List Visible). WasAnswered l reader (call.Read fd (stands.index * 512) 512) (answer.Bytes r.found r.rounds)) (three_parts (opens.found).rest measures.more first.0 tail)
        (in_part reader (call.Read fd (stands.index * 512) 512) (answer.Bytes r.found r.rounds) ((opens.found).rest ++ (measures.more ++ first.0)) reads.more last.0 reads.found) in
        let after : IsReadAfterOpen (trace_of z.seat) run.0 w.client w.by (call.Append w.by one) (answer.At offset) w.file reader (stands.index * 512) 512 r.found r.rounds =
        record { put = was_put (first.0 ++ tail) goes; put_of = w.into; path = path; opened = fd; open_file = open_file; open_of = w.reads; through = fd; read = again; read_of = w.reads } in
        let less : stands.offset < 512 = omega (arith, room, nine_bytes one w.is) in
        let same : stands.index * 512 / 512 ≡ offset / 512 = same_chunk stands.index stands.offset less ∙ ap (λ (n : ℕ). n / 512) (sym place_is) in
        let begins : stands.index * 512 ≤ offset = omega (arith, place_is) in
        let until : offset + length one ≤ stands.index * 512 + 512 = omega (arith, place_is, room) in
        let shown : take (length one) (drop (offset - stands.index * 512) r.found) ≡ one =
        readers_miss_no_append (z.seat).cell.config (trace_of z.seat) m run w.client w.by w.file offset reader (stands.index * 512) 512 one r.found r.rounds after w.only_appended
        (subst (λ (n : ℕ). stands.index * 512 / n ≡ offset / n) (sym w.size) same) begins until in
        let here : stands.index * 512 + (offset - stands.index * 512) ≡ offset = omega (arith, begins) in
        let small : stands.index * 512 + (offset - stands.index * 512) < 2 ^ 64 = omega (arith, here, reaches, nine_bytes one w.is, fits) in
        subst (λ (n : ℕ). Contains z.taken.items (taken_at n one)) here (r.taken (offset - stands.index * 512) one (w.is, shown) small)

    -- where each chunk below the length was read whole
    pub takes : (chunks : ℕ) → count ≤ chunks * 512 → count < 2 ^ 64 → ((k : ℕ) → k < chunks → HasRead opened z fd (k * 512) 512) → Contains z.taken.items (taken_at offset one)
    takes chunks all fits done =
        let below : stands.index < chunks = omega (arith, place_is, reaches, all, nine_bytes one w.is) in
        read_takes (done stands.index below) fits

pub misses_nothing : (old z : Follower) (opened : SeatState) (path : List ℕ) (fd : Fd) (count chunks : ℕ) → HasOpened old.seat opened path fd count → IsLater opened z.seat
    → AreExplained z.seat.cell.config z.seat.seen → count ≤ chunks * 512 → count < 2 ^ 64 → ((k : ℕ) → k < chunks → HasRead opened z fd (k * 512) 512) → MissesNothing old z path
misses_nothing old z opened path fd count chunks o later explained all fits done = record {
  explained = explained;
  takes = λ reader its. (
    fd,
    was_opened old.seat opened z path fd count reader its o later,
    λ m run offset one w. takes old.seat opened z path fd count reader its o later m run offset one w chunks all fits done,
  );
}
