-- What a location stands for at the machine.
use Rattle.std.proofs.Common.{◌≡◌, ℕ, zero, suc, ◌<◌, List, [], ◌∷◌, length, Some, refl, sym, ap, subst, ◌∙◌, arith, ◌-◌, min}
use Rattle.gfs_types.specs.declared.call.Call.{Call}
use Rattle.chunk_table.specs.ChunkTable.{ChunkRow}
use Rattle.relaxed_file.specs.Order.{Entry, mutations_of}
use Rattle.relaxed_file.specs.Reads.{read_slice}
use Rattle.gfs_types.specs.Image.{image_length, image_slice, bytes_from}
use Rattle.gfs_types.specs.declared.mutation.Mutation.{Mutation}
use Rattle.gfs_types.specs.declared.call.Call.TheVariants as call
use Rattle.messages.specs.declared.message.Body.TheVariants as body
use Rattle.protocol.specs.ClientAttempts.{read_start, read_count}
use Rattle.relaxed_file.specs.Machine.{chunk_at}
use Rattle.protocol.specs.Tables.{Table, element_at}
use Rattle.protocol.specs.Observer.{Placed, entries_of}
use Rattle.laws_base.proofs.Steps.{none_some, same_some}
use Rattle.laws_machine.specs.ChunksAlike.{entries_in}
use Rattle.laws_machine.specs.ChunkReadings.{AgreeUpTo}
use Rattle.laws_machine.specs.ToldHolders.{HoldersAreSeen, LoggedChunksAreLastRounds, AnswersShowTheChunk}
use Rattle.laws_machine.proofs.ChunkReadings.{readings_are_of_the_chunk}

pub holders_are_seen : HoldersAreSeen
holders_are_seen config servers clients w reached kept k orders server s at handle row row_is file index round low stands =
    let agree : AgreeUpTo row.version.0 (entries_of w.observer handle) (chunk_at k.machine file index).order =
    subst (λ (os : Table (List Placed)). AgreeUpTo row.version.0 (entries_in os handle) (chunk_at k.machine file index).order) orders stands.entries in
    let read = readings_are_of_the_chunk config servers clients w reached kept server s at handle row row_is (chunk_at k.machine file index).order agree in
    (read.0, record { count = stands.count; version_is = low; selection = read.1.selection }, read.1)

-- an element has a place below the length
place_below : {A : Type 0} (xs : List A) (n : ℕ) (x : A) → element_at xs n ≡ Some x → n < length xs
place_below [] n x is = none_some x is
place_below (y ∷ ys) zero x is = omega arith
place_below (y ∷ ys) (suc n) x is = let low = place_below ys n x is in omega (arith, low)

pub logged_chunks_are_last_rounds : LoggedChunksAreLastRounds
logged_chunks_are_last_rounds k alike file handles there is_there l handle row at row_is round asked last =
    let whole = alike.there file handles there in
    let chunk = whole.chunks l.index handle at in
    let same : chunk.0 ≡ row = same_some chunk.0 row (sym chunk.1 ∙ row_is) in
    record {
      is_there = is_there;
      count = (let count = whole.count in let low = place_below handles l.index handle at in omega (arith, count, low));
      round = chunk.2.round ∙ ap (λ (r : ChunkRow). r.granted) same ∙ sym round;
      last = λ is. whole.count ∙ last is;
    }

-- what is read of a part

nothing_read : (ms : List Mutation) → image_slice ms 0 0 ≡ []
nothing_read ms = ap (λ (n : ℕ). bytes_from ms 0 n) (let none : min 0 (image_length ms - 0) ≡ 0 = omega arith in none)

part_read : (size index : ℕ) (c : Call) (chosen : List Entry) → image_slice (mutations_of chosen) (read_start size index c) (read_count size index c) ≡ read_slice size index c chosen
part_read size index (call.Read fd offset count) chosen = refl
part_read size index other chosen = nothing_read (mutations_of chosen)

pub answers_show_the_chunk : AnswersShowTheChunk
answers_show_the_chunk s size x chunk row order chosen read (body.Bytes number bytes) so = read.bytes (read_start size x.index x.asked) (read_count size x.index x.asked) bytes so.1 ∙ part_read size x.index x.asked chosen
answers_show_the_chunk s size x chunk row order chosen read (body.LenIs number count) so = sym so.1 ∙ read.length
answers_show_the_chunk s size x chunk row order chosen read other so = tt
