-- The pieces of a read, by the states that gave them.
use Rattle.std.proofs.Common.{◌≡◌, ℕ, ◌+◌, ◌-◌, ◌≤◌, min, List, ◌++◌, length, take, drop, refl, sym, ◌∙◌, ap, subst, arith, ◌*◌, inl, inr, Some}
use Rattle.std.proofs.lemmas.Option.{none-some}
use Rattle.gfs_types.specs.declared.call.Call.TheVariants as call
use Rattle.gfs_types.specs.declared.ids.Fd.{Fd}
use Rattle.gfs_types.specs.declared.config.Config.{Config}
use Rattle.gfs_types.specs.declared.mutation.Mutation.{Mutation}
use Rattle.gfs_types.specs.Image.{bytes_from, image_length, image_slice}
use Rattle.relaxed_file.specs.Order.{mutations_of, Entry}
use Rattle.relaxed_file.specs.Parts.{part_start, part_length}
use Rattle.relaxed_file.specs.Machine.{Machine, new_machine, OpenCall, Piece, FileState, chunk_size, chunk_at, IsOpen}
use Rattle.relaxed_file.specs.Reads.{read_slice}
use Rattle.relaxed_file.specs.Run.{Action, after_all, IsLawful, LeadsTo, IsReached}
use Rattle.relaxed_file.proofs.Reached.{after_all-append}
use Rattle.relaxed_file.proofs.Grows.{grows_to, known_at_first, known_when_reached}
use Rattle.relaxed_file.proofs.CallSteps.{IsPieceOf, by_look, by_none}
use Rattle.relaxed_file.proofs.StaleReads.{length_from}
use Rattle.promises.proofs.AnswerMoments.{lawful_parts}
use Rattle.promises.proofs.PieceBytes.{IsFair, bytes_from_drop, bytes_from_take}
use Rattle.relaxed_file.proofs.Known.{Known, asked_made}
use Rattle.relaxed_file.proofs.AskedFor.{open_is_made}
use Rattle.relaxed_file.proofs.ShapesKept.{shapes_stay}
use Rattle.relaxed_file.proofs.Successes.{AnsweredAppend, found_at}
use Rattle.relaxed_file.proofs.Tables.{from_some}
use Rattle.gfs_types.specs.declared.shape.Shape.{Shape}
use Rattle.std.proofs.lemmas.Bool.{cases_lt}
use Rattle.std.specs.Prelude.{slice_get}

-- from a state on the way to the end
pub leads_from : (s n : Machine) (actions done left : List Action) → IsLawful s actions → actions ≡ done ++ left → after_all s actions ≡ n → LeadsTo (after_all s done) n
leads_from s n actions done left lawful is ends =
    (left, (lawful_parts s done left (subst (IsLawful s) is lawful)).1, sym (after_all-append s done left) ∙ ap (after_all s) (sym is) ∙ ends)

pub leads_to : (s : Machine) (actions done left : List Action) → IsLawful s actions → actions ≡ done ++ left → LeadsTo s (after_all s done)
leads_to s actions done left lawful is = (done, (lawful_parts s done left (subst (IsLawful s) is lawful)).0, refl)

pub settings : (config : Config) (m : Machine) → IsReached config m → m.config ≡ config
settings config m reached = (grows_to (new_machine config) m reached (known_at_first config)).config

-- a file of which a chunk has an entry was made
entry_made : (config : Config) (s : Machine) (file index place : ℕ) (e : Entry) → IsReached config s → slice_get (chunk_at s file index).order place ≡ Some e → file ≤ s.file_count
entry_made config s file index place e reached there = elim (cases_lt s.file_count file) [
  | inl late ↦ absurd (none-some e (subst (λ (f : FileState). slice_get (f.chunks index).order place ≡ Some e) ((known_when_reached config s reached).fresh file late) there))
  | inr made ↦ made
]

-- so it keeps its size
pub same_size : (config : Config) (s n : Machine) (file index place : ℕ) (e : Entry) → IsReached config s → slice_get (chunk_at s file index).order place ≡ Some e → LeadsTo s n → chunk_size n file ≡ chunk_size s file
same_size config s n file index place e reached there led = ap (λ (x : Shape). x.chunk) (shapes_stay config s n file reached led (entry_made config s file index place e reached there))

pub size_at : (config : Config) (s k m : Machine) (file index place : ℕ) (e : Entry) → IsReached config s → slice_get (chunk_at s file index).order place ≡ Some e → LeadsTo s k → LeadsTo s m → chunk_size k file ≡ chunk_size m file
size_at config s k m file index place e reached there first second = same_size config s k file index place e reached there first ∙ sym (same_size config s m file index place e reached there second)

-- and so does the file of an open call
pub call_size : (config : Config) (s n : Machine) (client : ℕ) (c : OpenCall) (file : ℕ) → IsReached config s → IsOpen s client c → c.asked.file ≡ Some file → LeadsTo s n → chunk_size n file ≡ chunk_size s file
call_size config s n client c file reached is_open on led =
    let known : Known s = known_when_reached config s reached in
    ap (λ (x : Shape). x.chunk) (shapes_stay config s n file reached led (asked_made s client c.number c.asked file known (open_is_made s client c known is_open) on))

-- an append that was answered, by the size that its file has in the end
pub append_sized : (config : Config) (s m : Machine) (client file : ℕ) (bytes : List ℕ) (x : ℕ) → IsReached config s → LeadsTo s m → (it : AnsweredAppend config s client file bytes x)
    → (x ≡ it.index * chunk_size m file + it.offset) × (it.offset + length bytes ≤ chunk_size m file)
append_sized config s m client file bytes x reached led it =
    let same = sym (same_size config s m file it.index (it.there).0 it.entry reached (found_at _ it.entry it.there) led) in
    (subst (λ (n : ℕ). x ≡ it.index * n + it.offset) same it.is, subst (λ (n : ℕ). it.offset + length bytes ≤ n) same it.room)

-- a piece of a read is fair
pub fair_piece : (size offset count : ℕ) (k : Machine) (client : ℕ) (c : OpenCall) (piece : Piece) (fd : Fd) (file : ℕ) → c.asked.file ≡ Some file → chunk_size k file ≡ size → c.asked.call ≡ call.Read fd offset count → IsPieceOf k client c piece
    → IsFair size offset count piece
fair_piece size offset count k client c piece fd file on sized asked (by_look f index least last chosen may is) =
    let size_here : chunk_size k f ≡ size = ap (λ (g : ℕ). chunk_size k g) (from_some (sym may.0 ∙ on)) ∙ sized in
    let slice : read_slice (chunk_size k f) index c.asked.call chosen ≡ image_slice (mutations_of chosen) (part_start size offset index) (part_length size offset count index) =
    λ i. read_slice (size_here i) index (asked i) chosen in
    let long : length (image_slice (mutations_of chosen) (part_start size offset index) (part_length size offset count index))
    ≡ min (part_length size offset count index) (image_length (mutations_of chosen) - part_start size offset index) = length_from (mutations_of chosen) _ _ in
    let same : length piece.bytes ≡ length (image_slice (mutations_of chosen) (part_start size offset index) (part_length size offset count index)) = ap (λ (p : Piece). length p.bytes) is ∙ ap (λ l. length l) slice in
    let at : part_length size offset count piece.index ≡ part_length size offset count index = ap (λ (p : Piece). part_length size offset count p.index) is in
    (omega (arith, long, same, at), λ none. absurd (none-some least (sym none ∙ ap (λ (p : Piece). p.round) is)))
fair_piece size offset count k client c piece fd file on sized asked (by_none index past is) =
    let none : length piece.bytes ≡ 0 = ap (λ (p : Piece). length p.bytes) is in
    (omega (arith, none), λ round. none)

-- the bytes that a look gives at a place
pub slice_from : (o start count len : ℕ) (ms : List Mutation) → start ≤ o → (o - start) + len ≤ length (image_slice ms start count)
    → take len (drop (o - start) (image_slice ms start count)) ≡ bytes_from ms o len
slice_from o start count len ms starts long =
    let whole : length (image_slice ms start count) ≡ min count (image_length ms - start) = length_from ms start _ in
    let from : start + (o - start) ≡ o = omega (arith, starts) in
    ap (take len) (bytes_from_drop ms (o - start) start (min count (image_length ms - start)) (omega (arith, long, whole)))
    ∙ bytes_from_take ms len (start + (o - start)) (min count (image_length ms - start) - (o - start)) (omega (arith, long, whole))
    ∙ ap (λ p. bytes_from ms p len) from

pub slice_there : (o start count len : ℕ) (ms : List Mutation) (bytes : List ℕ) → start ≤ o → (o - start) + len ≤ length (image_slice ms start count) → length bytes ≡ len → image_slice ms o len ≡ bytes
    → take len (drop (o - start) (image_slice ms start count)) ≡ bytes
slice_there o start count len ms bytes starts long length_is stands =
    let there : length (image_slice ms o len) ≡ min len (image_length ms - o) = length_from ms o _ in
    let shown : length (image_slice ms o len) ≡ len = ap (λ l. length l) stands ∙ length_is in
    let all : min len (image_length ms - o) ≡ len = sym there ∙ shown in
    slice_from o start count len ms starts long ∙ ap (bytes_from ms o) (sym all) ∙ stands
