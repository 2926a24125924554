-- What is written of a replica that is written over.
use Rattle.std.proofs.Common.{◌≡◌, ℕ, ◌+◌, ◌-◌, ◌/◌, ◌%◌, ◌≤◌, Bool, true, false, ◌&&◌, ◌||◌, ◌==◌, if◌then◌else◌, List, [], ◌∷◌, length, refl, sym, ap, ◌∙◌, arith, Option, Some, None}
use Rattle.std.specs.Prelude.{nat_le}
use Rattle.std.proofs.lemmas.Bool.Decides.{nat_tests}
use Rattle.replica_store.specs.Replicas.{Replica, ServerDisk, block_matches, is_writable, is_writable_at, replica_of, writable_in}
use Rattle.replica_store.specs.declared.row.Row.{Row}
use Rattle.store_changes.specs.Edging.{checked_edges, edges_around}
use Rattle.store_changes.specs.Writing.{checked_ranges, header_range_of, ranges_of, written_ranges}
use Rattle.store_changes.specs.declared.edges.Edges.{Edges}

-- tests of what may be there
module _ {A : Type 0} (x : A) where
  pub some_if : (b : Bool) (y : A) → Some y ≡ (if b then Some x else None) → (b ≡ true) × (y ≡ x)
  some_if true y e = (refl, (let same : y ≡ x = cc in same))
  some_if false y e = absurd cc

  pub none_if : (b : Bool) → None ≡ (if b then Some x else None) → b ≡ false
  none_if true e = absurd cc
  none_if false e = refl

module _ (chunk block : ℕ) (r : Replica) (slot handle : ℕ) (row : Row) (offset : ℕ) (content : List ℕ) where
  abbrev end_place : ℕ
  end_place = offset + length content

  -- no bytes
  pub empty_ranges : length content ≡ 0 → Some (header_range_of chunk block slot handle row ∷ []) ≡ checked_ranges chunk block r slot handle row offset content
  empty_ranges none =
      let at : nat_le end_place offset ≡ true = grind (arith, nat_tests, none) in
      let header = header_range_of chunk block slot handle row ∷ [] in
      let others = written_ranges chunk block slot handle row (edges_around block r offset end_place) offset content in
      sym (
      ap (λ b. if b || (((offset % block) == 0) && ((end_place % block) == 0)) || (block_matches block r (offset / block) && block_matches block r ((end_place - 1) / block)) then Some (ranges_of chunk block r slot handle row offset content) else None) at
      ∙ ap (λ b. Some (if b then header else others)) at
      )

  module _ (some : 1 ≤ length content) where
    later : nat_le end_place offset ≡ false
    later = grind (arith, nat_tests, some)

    pub no_ranges : None ≡ checked_edges block r offset end_place → None ≡ checked_ranges chunk block r slot handle row offset content
    no_ranges none =
        let no = none_if (edges_around block r offset end_place) (is_writable block r offset end_place) none in
        sym (ap (λ b. if b then Some (ranges_of chunk block r slot handle row offset content) else None) no)

    pub some_ranges : (edges : Edges) → Some edges ≡ checked_edges block r offset end_place → Some (written_ranges chunk block slot handle row edges offset content) ≡ checked_ranges chunk block r slot handle row offset content
    some_ranges edges is =
        let yes = some_if (edges_around block r offset end_place) (is_writable block r offset end_place) edges is in
        let header = header_range_of chunk block slot handle row ∷ [] in
        ap (λ (e : Edges). Some (written_ranges chunk block slot handle row e offset content)) yes.1
        ∙ sym (
        ap (λ b. if b then Some (ranges_of chunk block r slot handle row offset content) else None) yes.0
        ∙ ap (λ b. Some (if b then header else written_ranges chunk block slot handle row (edges_around block r offset end_place) offset content)) later
        )

-- whether it can be written over
pub writable_at : (d : ServerDisk) (block handle : ℕ) (r : Replica) (offset end_place : ℕ) → replica_of d handle ≡ Some r → d.block ≡ block → is_writable_at d handle offset end_place ≡ is_writable block r offset end_place
writable_at d block handle r offset end_place own same =
    ap (λ (o : Option Replica). writable_in d.block offset end_place o) own ∙ ap (λ (b : ℕ). is_writable b r offset end_place) same
