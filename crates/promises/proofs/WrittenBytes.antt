-- A settled write keeps its bytes until a later entry covers some of them.
use Rattle.std.proofs.Common.{◌≡◌, ℕ, suc, ◌+◌, ◌-◌, ◌<◌, ◌≤◌, min, true, cond, List, [], ◌∷◌, ◌++◌, length, get_or, Some, None, refl, sym, ◌∙◌, ap, inl, inr, arith, add-zero}
use Rattle.std.specs.Prelude.{IsTrue}
use Rattle.std.proofs.lemmas.Bool.{lt-ltb, le-leb, and_from, cases_lt}
use Rattle.gfs_types.specs.declared.mutation.Mutation.{Mutation}
use Rattle.gfs_types.specs.declared.mutation.Mutation.TheVariants.{Write}
use Rattle.gfs_types.specs.Mutations.{covers, byte_of}
use Rattle.gfs_types.specs.Image.{newer, byte_at, bytes_from, image_length, image_slice}
use Rattle.relaxed_file.specs.Order.{Entry, mutations_of, IsSelection, last_cover}
use Rattle.relaxed_file.specs.Laws.{LeaveAlone}
use Rattle.relaxed_file.proofs.Covers.{determined_bytes_agree}
use Rattle.relaxed_file.proofs.Records.{last_that-append}

cover_here : (place : ℕ) (before later : List Entry) (e : Entry) → covers place e.mutation ≡ true → last_cover later place ≡ None
    → last_cover (before ++ e ∷ later) place ≡ Some e
cover_here place before later e c n =
    last_that-append (λ f. covers place f.mutation) before (e ∷ later)
    ∙ ap (newer (last_cover before place)) (ap (λ b. newer (cond b (Some e) None) (last_cover later place)) c ∙ ap (newer (Some e)) n)

-- bytes that are there one by one are there together
bytes_from_reads : (ms : List Mutation) (offset : ℕ) (bytes : List ℕ) → ((i : ℕ) → i < length bytes → byte_at ms (offset + i) ≡ get_or bytes i 0)
    → bytes_from ms offset (length bytes) ≡ bytes
bytes_from_reads ms offset [] h = refl
bytes_from_reads ms offset (x ∷ xs) h =
    let first : byte_at ms offset ≡ x = ap (byte_at ms) (sym (add-zero offset)) ∙ h 0 (omega arith) in
    let rest : bytes_from ms (suc offset) (length xs) ≡ xs =
    bytes_from_reads ms (suc offset) xs (λ i l. let e : suc offset + i ≡ offset + suc i = omega arith in ap (byte_at ms) e ∙ h (suc i) (omega arith)) in
    λ i. first i ∷ rest i

module _ (last offset : ℕ) (before later chosen : List Entry) (e : Entry) (bytes : List ℕ)
    (is : e.mutation ≡ Write offset bytes) (s : IsTrue e.settled) (r : e.round ≤ last)
    (alone : LeaveAlone offset (length bytes) later) (chose : IsSelection last (before ++ e ∷ later) chosen) where
  byte_there : (i : ℕ) → i < length bytes → (byte_at (mutations_of chosen) (offset + i) ≡ get_or bytes i 0) × (offset + i < image_length (mutations_of chosen))
  byte_there i l =
      let c : covers (offset + i) e.mutation ≡ true =
      ap (covers (offset + i)) is ∙ and_from _ _ (le-leb offset (offset + i) (omega arith)) (lt-ltb (offset + i) (offset + length bytes) (omega arith)) in
      let here : last_cover (before ++ e ∷ later) (offset + i) ≡ Some e = cover_here (offset + i) before later e c (alone (offset + i) (omega arith) (omega arith)) in
      let found : (byte_at (mutations_of chosen) (offset + i) ≡ byte_of (offset + i) e.mutation) × (offset + i < image_length (mutations_of chosen)) =
      determined_bytes_agree (offset + i) last (before ++ e ∷ later) chosen e here s r chose in
      let same : (offset + i) - offset ≡ i = omega arith in
      (found.0 ∙ ap (byte_of (offset + i)) is ∙ ap (λ k. get_or bytes k 0) same, found.1)

  room : length bytes ≤ image_length (mutations_of chosen) - offset
  room = elim (cases_lt 0 (length bytes)) [
    | inl l ↦ let there : offset + (length bytes - 1) < image_length (mutations_of chosen) = (byte_there (length bytes - 1) (omega arith)).1 in omega arith
    | inr l ↦ omega arith
  ]

  pub writes_stand : image_slice (mutations_of chosen) offset (length bytes) ≡ bytes
  writes_stand =
      let whole : min (length bytes) (image_length (mutations_of chosen) - offset) ≡ length bytes = omega (arith, room) in
      ap (bytes_from (mutations_of chosen) offset) whole ∙ bytes_from_reads (mutations_of chosen) offset bytes (λ i l. (byte_there i l).0)
